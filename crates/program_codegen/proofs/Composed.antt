-- Behind its pushes a call follows the rest of its tree.
use Rattle.std.proofs.Common.{◌≡◌, ℕ, ◌+◌, ◌-◌, ◌*◌, ◌^◌, ◌<◌, ◌≤◌, refl, sym, ap, ◌∙◌, subst, List, [], ◌++◌, length, Some, None, Bool, true, false, lit<, lit≤}
use Rattle.std.specs.Prelude.{if◌then◌else◌}
use Rattle.std.specs.List.{list_all}
use Rattle.vax_form.specs.PageTable.{IsPageTable}
use Rattle.vax_form.specs.State.{with_pc, with_register}
use Rattle.vax_form.specs.Tree.{Tree, Ends, Finish, Trap}
use Rattle.vax_form.specs.declared.state.VaxState.{VaxState}
use Rattle.alpha_meaning.specs.State.{Regs, at_place}
use Rattle.exception_records.specs.Codes.{all_ready}
use Rattle.micro_ops.specs.declared.known.Holding.{Holding}
use Rattle.micro_ops.specs.declared.known.Holding.TheVariants.{Longword}
use Rattle.micro_ops.specs.declared.known.Known.{Known}
use Rattle.micro_ops.specs.declared.program.Micro.{Micro}
use Rattle.micro_ops.specs.Course.{AtLeaves}
use Rattle.micro_ops.specs.Fits.{walk}
use Rattle.micro_ops.specs.Known.{held, is_committed}
use Rattle.micro_ops.specs.Leaving.{state_left}
use Rattle.micro_ops.specs.Meaning.{Standing, Left, Ended, course_of, traps}
use Rattle.micro_ops.specs.Uses.{has_bytes}
use Rattle.block_law.specs.Laws.{MoreKinds}
use Rattle.block_law.specs.Placements.{Placement}
use Rattle.block_law.proofs.Rules.{Always}
use Rattle.program_codegen.specs.declared.points.Site.{Site}
use Rattle.program_codegen.specs.Accesses.{needed}
use Rattle.program_codegen.specs.Words.{program_lines}
use Rattle.program_codegen.specs.Programs.{AllHaveWords, ReadsReady}
use Rattle.program_codegen.proofs.Walk.{Within}
use Rattle.program_codegen.proofs.Holding.{Holds, HoldsAs, found, tree}
use Rattle.program_codegen.proofs.Going.{goes, goes_on}
use Rattle.program_codegen.proofs.Entry.{entered}
use Rattle.program_codegen.proofs.Frame.{place_of, place_below}
use Rattle.program_codegen.proofs.FrameLeft.{frame_lines, leaves_frame}

same_left : (b : Bool) (state : VaxState) → state_left (if b then Ended (Trap 1 state) else Ended (Finish state)) ≡ state
same_left true state = refl
same_left false state = refl

module _ (p : Placement) (site : Site) (table : IsPageTable p.pages) (kinds : MoreKinds (needed site.byte_word 4) p.kinds) (ready : site.behind ≡ all_ready) (entry mask : ℕ) where
  -- the procedure is entered, with FP and SP at so many pushes below the place in temporary 3
  abbrev pub entering : (pushes : ℕ) → Left → Tree
  entering pushes left = Ends (Finish (entered p site ready entry mask (with_register 14 (place_of (left.temps 3) pushes) (with_register 13 (place_of (left.temps 3) pushes) (state_left left.departure)))))

  in_register : (h : Holding) (v r : ℕ) → h ≡ Longword → HoldsAs h v r → r ≡ v
  in_register h v r e is = (subst (λ h. HoldsAs h v r) e is).0

  pub ends_call : (program : List Micro) (pc : ℕ) (known behind : Known) (standing : Standing) (regs : Regs) (top pushes : ℕ)
      → Within p site.behind pc (program_lines site [] program ++ frame_lines p site ready entry mask pushes)
      → list_all goes program ≡ true → list_all (has_bytes 4) program ≡ true → AllHaveWords site.sources program → ReadsReady site.before program
      → known.ended ≡ false → walk site.sources known program ≡ Some behind
      → behind.codes ≡ false → behind.psw ≡ false → is_committed behind 13 ≡ false → is_committed behind 14 ≡ false → held behind 3 ≡ Longword
      → top < 2 ^ 32 → 1 ≤ pushes → pushes ≤ 17 → 4 * pushes ≤ top → Holds p site known standing regs
      → AtLeaves (λ (left : Left). left.temps 3 ≡ top) (course_of program (found p site) standing)
      → Always p None (length (program_lines site [] program) + 12) (at_place regs pc) (tree (entering pushes) (course_of program (found p site) standing))
  ends_call program pc known behind standing regs top pushes w all sized words reads off walks no_codes no_psw no_fp no_sp has3 small some few below h agree =
      goes_on p site [] table 4 kinds (entering pushes) (λ (left : Left). left.temps 3 ≡ top) program (frame_lines p site ready entry mask pushes) 12 known behind standing regs pc w (lit≤ tt) all sized words reads off walks h agree
      (λ standing' regs' pc' w' h' is.
      let has_top : regs' 24 ≡ top = in_register (held behind 3) (standing'.temps 3) (regs' 24) has3 (h'.temps 3 (lit< tt)) ∙ is in
      let left_is = same_left (traps standing') (with_pc site.after standing'.state) in
      let place : place_of (standing'.temps 3) pushes ≡ top - 4 * pushes = ap (λ v. place_of v pushes) is ∙ place_below top pushes small few below in
      subst (λ (s : VaxState). Always p None 12 (at_place regs' pc') (Ends (Finish (entered p site ready entry mask (with_register 14 (place_of (standing'.temps 3) pushes) (with_register 13 (place_of (standing'.temps 3) pushes) s)))))) (sym left_is)
      (subst (λ (v : ℕ). Always p None 12 (at_place regs' pc') (Ends (Finish (entered p site ready entry mask (with_register 14 v (with_register 13 v standing'.state)))))) (sym place)
      (leaves_frame p site ready entry mask pc' behind standing' regs' top pushes w' no_codes no_psw no_fp no_sp has_top small some few below h')))
