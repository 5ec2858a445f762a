-- FP and SP become the place of the last push, and the procedure is entered.
use Rattle.std.proofs.Common.{◌≡◌, ℕ, ◌+◌, ◌-◌, ◌*◌, ◌%◌, ◌^◌, ◌<◌, ◌≤◌, refl, ap, ◌∙◌, subst, arith, List, [], ◌∷◌, ◌++◌, map, None, true, false, lit<, lit≤}
use Rattle.std.specs.Prelude.{◌==◌}
use Rattle.std.proofs.lemmas.Bool.Decides.{nat_tests}
use Rattle.vax_form.specs.State.{with_register}
use Rattle.vax_form.specs.Tree.{Ends, Finish}
use Rattle.alpha_encode.specs.declared.instr.AlphaInstr.TheVariants.{Memory, Operate}
use Rattle.alpha_encode.specs.declared.instr.MemoryOp.TheVariants.{Lda}
use Rattle.alpha_encode.specs.declared.instr.OperateOp.TheVariants.{Addl}
use Rattle.alpha_encode.specs.declared.instr.Second.TheVariants.{Literal}
use Rattle.alpha_meaning.specs.State.{Regs, put, at_place}
use Rattle.alpha_meaning.proofs.Registers.{put_same, put_other}
use Rattle.exception_records.specs.Codes.{all_ready}
use Rattle.micro_ops.specs.declared.known.Holding.TheVariants.{Longword}
use Rattle.micro_ops.specs.declared.known.Known.{Known}
use Rattle.micro_ops.specs.Fits.{commit_fits}
use Rattle.micro_ops.specs.Known.{has_flag, is_committed, behind_write, behind_commit}
use Rattle.micro_ops.specs.Meaning.{Standing, with_temp, with_value}
use Rattle.micro_ops.proofs.Held.{flag_other}
use Rattle.block_law.specs.Placements.{Placement}
use Rattle.block_law.specs.Tidy.{is_kept}
use Rattle.block_law.proofs.Rules.{Always, goes}
use Rattle.program_codegen.specs.declared.lines.Line.{Line}
use Rattle.program_codegen.specs.declared.points.Site.{Site}
use Rattle.program_codegen.specs.Words.{plain, exit_lines, program_lines}
use Rattle.program_codegen.specs.Calls.{displacement, entry_words, frame_program}
use Rattle.program_codegen.proofs.Knowing.{write_changes}
use Rattle.program_codegen.proofs.Walk.{Within, next, stands, is_inside}
use Rattle.program_codegen.proofs.Holding.{Holds}
use Rattle.program_codegen.proofs.Computing.{unchanged, checks_written, value_written}
use Rattle.program_codegen.proofs.Committing.{commits}
use Rattle.program_codegen.proofs.Frame.{at_number, at_place_of}
use Rattle.program_codegen.proofs.Entry.{entered, enters}

kept_not_24 : (n : ℕ) → is_kept n ≡ true → (n == 24) ≡ false
kept_not_24 n e = grind (arith, nat_tests)

other_not_24 : (temp : ℕ) → (temp == 3) ≡ false → ((21 + temp) == 24) ≡ false
other_not_24 temp e = grind (arith, nat_tests, e)

apart : (a b : ℕ) → b < a → a ≡ b → ⊥
apart a b lt e = omega arith

module _ (p : Placement) (site : Site) (ready : site.behind ≡ all_ready) (entry mask : ℕ) where
  -- what stands behind the pushes
  abbrev pub frame_lines : (pushes : ℕ) → List Line
  frame_lines pushes = plain (Memory Lda 24 24 (displacement pushes)) ∷ (program_lines site [] frame_program ++ (map plain (entry_words mask) ++ exit_lines entry))

  -- the place of the last push goes into temporary 3
  lowered : (known : Known) (standing : Standing) (regs : Regs) (top pushes : ℕ) → regs 24 ≡ top → top < 2 ^ 32 → 1 ≤ pushes → pushes ≤ 17 → 4 * pushes ≤ top → Holds p site known standing regs
      → Holds p site (behind_write 3 Longword known) (with_value 3 (top - 4 * pushes) standing) (put regs 24 (at_number (regs 24) pushes))
  lowered known standing regs top pushes has_top small some few below h =
      let g = put regs 24 (at_number (regs 24) pushes) in
      let is : at_number (regs 24) pushes ≡ top - 4 * pushes = ap (λ x. at_number x pushes) has_top ∙ at_place_of top pushes small some few below in
      unchanged p site known (behind_write 3 Longword known) standing (with_temp 3 (top - 4 * pushes) standing.temps) regs (put regs 24 (at_number (regs 24) pushes)) (write_changes 3 Longword known)
      (λ n kept. put_other regs 24 (at_number (regs 24) pushes) n (kept_not_24 n kept)) (put_other regs 24 (at_number (regs 24) pushes) 31 refl)
      (λ temp lt. value_written known 3 (top - 4 * pushes) Longword standing.temps regs (put regs 24 (at_number (regs 24) pushes)) (lit< tt)
      (put_same regs 24 (at_number (regs 24) pushes) refl ∙ is, fits) temp (h.temps temp lt) (λ e. put_other regs 24 (at_number (regs 24) pushes) (21 + temp) (other_not_24 temp e)))
      (checks_written p.pages 3 (top - 4 * pushes) known.checked standing.temps h.checked) h
    where
      fits : top - 4 * pushes < 2 ^ 32
      fits = omega arith

  pub leaves_frame : (pc : ℕ) (known : Known) (standing : Standing) (regs : Regs) (top pushes : ℕ) → Within p site.behind pc (frame_lines pushes)
      → known.codes ≡ false → known.psw ≡ false → is_committed known 13 ≡ false → is_committed known 14 ≡ false
      → regs 24 ≡ top → top < 2 ^ 32 → 1 ≤ pushes → pushes ≤ 17 → 4 * pushes ≤ top → Holds p site known standing regs
      → Always p None 12 (at_place regs pc) (Ends (Finish (entered p site ready entry mask (with_register 14 (top - 4 * pushes) (with_register 13 (top - 4 * pushes) standing.state)))))
  leaves_frame pc known standing regs top pushes w no_codes no_psw no_fp no_sp has_top small some few below h =
      let lda = Memory Lda 24 24 (displacement pushes) in
      let fp = Operate Addl 24 (Literal 0) 13 in
      let sp = Operate Addl 24 (Literal 0) 14 in
      let tail = map plain (entry_words mask) ++ exit_lines entry in
      let w1 = next p site.behind pc lda None (plain fp ∷ plain sp ∷ tail) w in
      let w2 = next p site.behind (pc + 1) fp None (plain sp ∷ tail) w1 in
      let w3 = next p site.behind (pc + 1 + 1) sp None tail w2 in
      let end = w.high in
      let changes = write_changes 3 Longword known in
      let free13 : is_committed (behind_write 3 Longword known) 13 ≡ false = ap (λ flags. has_flag flags 13) changes.committed ∙ no_fp in
      let free14 : is_committed (behind_commit 13 (behind_write 3 Longword known)) 14 ≡ false =
      flag_other (behind_write 3 Longword known).committed 13 14 (apart 14 13 (lit< tt)) ∙ (ap (λ flags. has_flag flags 14) changes.committed ∙ no_sp) in
      let low : (top - 4 * pushes) % 2 ^ 32 ≡ top - 4 * pushes = omega arith in
      let t = Ends (Finish (entered p site ready entry mask (with_register 14 (top - 4 * pushes) (with_register 13 (top - 4 * pushes) standing.state)))) in
      goes p None 11 (at_place regs pc) (at_place (put regs 24 (at_number (regs 24) pushes)) (pc + 1)) lda _ (stands p site.behind pc lda None _ w) refl (omega arith) (is_inside p site.behind pc (pc + 1) _ w (omega arith) (omega arith))
      (commits p site 10 (pc + 1) 13 3 (plain sp ∷ tail) (behind_write 3 Longword known) (with_value 3 (top - 4 * pushes) standing) (put regs 24 (at_number (regs 24) pushes)) _ w1 (lit≤ tt) (fits13 known free13) (lit< tt) (lit< tt)
      (lowered known standing regs top pushes has_top small some few below h)
      (λ g h1. commits p site 9 (pc + 1 + 1) 14 3 tail (behind_commit 13 (behind_write 3 Longword known)) _ g _ w2 (lit≤ tt) (fits14 known free14) (lit< tt) (lit< tt) h1
      (λ g2 h2. subst (λ (v : ℕ). Always p None 9 (at_place g2 (pc + 1 + 1 + 1)) (Ends (Finish (entered p site ready entry mask (with_register 14 v (with_register 13 v standing.state)))))) low
      (enters p site ready entry mask (pc + 1 + 1 + 1) (behind_commit 14 (behind_commit 13 (behind_write 3 Longword known))) _ g2 w3 (changes.codes ∙ no_codes) (changes.psw ∙ no_psw) h2))))
    where
      fits13 : (known : Known) → is_committed (behind_write 3 Longword known) 13 ≡ false → commit_fits (behind_write 3 Longword known) 13 3 ≡ true
      fits13 known free = rw free refl

      fits14 : (known : Known) → is_committed (behind_commit 13 (behind_write 3 Longword known)) 14 ≡ false → commit_fits (behind_commit 13 (behind_write 3 Longword known)) 14 3 ≡ true
      fits14 known free = rw free refl
