-- Where a program leaves: the words that leave the codes, the trap on overflow, and the exits.
use Rattle.std.proofs.Common.{◌≡◌, ℕ, ◌+◌, ◌%◌, ◌^◌, ◌≤◌, refl, subst, arith, List, [], ◌++◌, length, map, None, Bool, true, false, lit≤, length-append}
use Rattle.std.proofs.lemmas.Bool.{not-true}
use Rattle.std.specs.Prelude.{◌==◌, not, if◌then◌else◌}
use Rattle.vax_form.specs.State.{with_pc}
use Rattle.vax_form.specs.Tree.{Finish, Trap, Fault}
use Rattle.vax_form.specs.declared.state.Exception.TheVariants as exceptions
use Rattle.alpha_encode.specs.declared.instr.AlphaInstr.{AlphaInstr}
use Rattle.alpha_encode.specs.declared.instr.BranchOp.{BranchOp}
use Rattle.alpha_encode.specs.declared.instr.BranchOp.TheVariants.{Beq}
use Rattle.alpha_meaning.specs.Loops.{effects}
use Rattle.alpha_meaning.specs.State.{Regs, at_place}
use Rattle.micro_ops.specs.declared.known.Known.{Known}
use Rattle.micro_ops.specs.declared.program.Exit.{Exit}
use Rattle.micro_ops.specs.declared.program.Exit.TheVariants as exits
use Rattle.micro_ops.specs.Fits.{same, exit_holds, sources_fit, is_from_values, is_from_psw}
use Rattle.micro_ops.specs.Leaving.{CodesComeFrom, SignsComeFrom, state_left}
use Rattle.micro_ops.specs.Meaning.{Standing, Departure, Ended, Serves, departed, traps}
use Rattle.block_law.specs.Placements.{Placement}
use Rattle.block_law.proofs.Rules.{Always, roomy}
use Rattle.program_codegen.specs.declared.lines.Line.{Line}
use Rattle.program_codegen.specs.declared.points.Site.{Site}
use Rattle.program_codegen.specs.Words.{plain, code_copied, serving, trap_lines, departing, leaving, may_overflow, departing_by}
use Rattle.program_codegen.specs.Programs.{IsExit}
use Rattle.program_codegen.proofs.Numbers.{all_three}
use Rattle.program_codegen.proofs.Walk.{Within, row_length}
use Rattle.program_codegen.proofs.Holding.{Setting, Holds, LeavingFollows}
use Rattle.program_codegen.proofs.Endings.{kept_source, same_false}
use Rattle.program_codegen.proofs.Coded.{Coded, coded, codes_run, sources_parts}
use Rattle.program_codegen.proofs.Exiting.{exits_to, chooses, looks, breaks, serves_then}
use Rattle.program_codegen.proofs.Trapping.{Overflows, ExitHolds}
use Rattle.program_codegen.proofs.Testing.{trap_or, traps_first}

-- a trap leaves the same status word
pub same_psw : (standing : Standing) (pc : ℕ) (onward : Departure) (b : Bool) → (state_left onward).psw ≡ standing.state.psw
    → (state_left (if b then Ended (Trap 1 (with_pc pc standing.state)) else onward)).psw ≡ standing.state.psw
same_psw standing pc onward true e = refl
same_psw standing pc onward false e = e

module _ (p : Placement) (site : Site) (codes : List AlphaInstr) (setting : Setting p site codes) where
  overflows : (known : Known) (standing : Standing) (regs : Regs) (departure : Departure) → sources_fit site.sources known ≡ true → (state_left departure).psw ≡ standing.state.psw
      → CodesComeFrom site.sources p.begun (record { departure = departure; temps = standing.temps }) → Holds p site known standing regs → Overflows site known standing p.begun.psw
  overflows known standing regs departure fits left come h =
      let parts = sources_parts site.sources known fits in
      record {
        codes_fit = parts.0;
        psw_fits = parts.1;
        overflowed = h.overflowed;
        no_overflow = h.no_overflow;
        temps = standing.temps;
        signs = subst (λ psw. SignsComeFrom site.sources.nzv p.begun.psw psw standing.temps) left come.signs;
      }

  pub departs_some : (op : BranchOp) (exit : Exit) → 1 ≤ length (departing_by op site exit)
  departs_some op exits.Next = lit≤ tt
  departs_some op (exits.Fixed address) = lit≤ tt
  departs_some op (exits.Computed temp) = lit≤ tt
  departs_some op (exits.Choice when taken other) = lit≤ tt
  departs_some op (exits.Service temp) = by (temp == 0)
    where
      by : (b : Bool) → 1 ≤ length (code_copied b temp ++ serving site)
      by true = lit≤ tt
      by false = lit≤ tt
  departs_some op exits.Breakpoint = lit≤ tt

  -- the codes, the trap, and then the exit
  leaves_by_exit : (exit : Exit) (onward : Departure) (known : Known) (standing : Standing) (regs : Regs) (pc : ℕ)
      → Within p site.behind pc (leaving site codes exit) → IsExit exit → ExitHolds known exit → sources_fit site.sources known ≡ true → Holds p site known standing regs
      → CodesComeFrom site.sources p.begun (record { departure = trap_or site standing exit onward; temps = standing.temps }) → (state_left onward).psw ≡ standing.state.psw
      → ((g : Regs) (pc' : ℕ) → Coded p site known standing g → Within p site.behind pc' (departing site exit) → Always p None (length (departing site exit)) (at_place g pc') (departed p.serve onward))
      → Always p None (length (leaving site codes exit)) (at_place regs pc) (departed p.serve (trap_or site standing exit onward))
  leaves_by_exit exit onward known standing regs pc w is holds fits h come left behind =
      let some = departs_some Beq exit in
      let first = row_length p site.behind codes (trap_lines site exit ++ departing site exit) in
      let rest = length-append (trap_lines site exit) (departing site exit) in
      let whole = same_psw standing _ onward (traps standing) left in
      roomy p None (length codes + (length (trap_lines site exit) + length (departing site exit))) (length (leaving site codes exit)) (at_place regs pc) (departed p.serve (trap_or site standing exit onward)) (omega arith)
      (codes_run p site codes setting (length (trap_lines site exit) + length (departing site exit)) pc (trap_lines site exit ++ departing site exit) regs (departed p.serve (trap_or site standing exit onward)) w (omega arith)
      (λ w'. traps_first p site known standing setting.after Beq refl p.begun.psw setting.written (overflows known standing regs (trap_or site standing exit onward) fits whole come h) setting.narrow
      (length (departing site exit)) (pc + length codes) exit (departing site exit) (effects codes regs) onward
      (coded p site codes setting known standing regs (trap_or site standing exit onward) fits whole come h) is holds w' some
      (λ g pc' untrapped c w''. behind g pc' c w'')))

  -- nothing was changed, so nothing traps
  breaks_unchanged : (known : Known) (standing : Standing) (regs : Regs) (pc : ℕ) → Within p site.behind pc (leaving site codes exits.Breakpoint) → not known.changed ≡ true → sources_fit site.sources known ≡ true
      → Holds p site known standing regs → Always p None (length (leaving site codes exits.Breakpoint)) (at_place regs pc) (Fault exceptions.Breakpoint)
  breaks_unchanged known standing regs pc w fits come h =
      let parts = sources_parts site.sources known come in
      let same_as_found = h.quiet (not-true known.changed fits) in
      let values = same_false (is_from_values site.sources.nzv) (subst (λ b. same b (is_from_values site.sources.nzv) ≡ true) same_as_found.0 parts.0) in
      let psw = same_false (is_from_psw site.sources.nzv) (subst (λ b. same b (is_from_psw site.sources.nzv) ≡ true) same_as_found.1 parts.1) in
      let none = untrapped (kept_source site.sources.nzv values psw).1 in
      let first = row_length p site.behind codes (trap_lines site exits.Breakpoint ++ departing site exits.Breakpoint) in
      let rest = length-append (trap_lines site exits.Breakpoint) (departing site exits.Breakpoint) in
      roomy p None (length codes + 1) (length (leaving site codes exits.Breakpoint)) (at_place regs pc) (Fault exceptions.Breakpoint) (omega arith)
      (codes_run p site codes setting 1 pc (departing site exits.Breakpoint) regs (Fault exceptions.Breakpoint)
      (subst (λ (lines : List Line). Within p site.behind pc (map plain codes ++ (lines ++ departing site exits.Breakpoint))) none w) (lit≤ tt)
      (λ w'. breaks p site (effects codes regs) (pc + length codes) w'))
    where
      untrapped : may_overflow site.sources.nzv ≡ false → trap_lines site exits.Breakpoint ≡ []
      untrapped e = rw e refl

pub leaving_follows : (p : Placement) (site : Site) (codes : List AlphaInstr) → Setting p site codes → LeavingFollows p site codes
leaving_follows p site codes setting exits.Next known standing regs pc w is fits come ready h agree =
    leaves_by_exit p site codes setting exits.Next (Ended (Finish (with_pc site.after standing.state))) known standing regs pc w is tt come h agree refl
    (λ g pc' c w'. exits_to p site known standing g c pc' site.after [] w')
leaving_follows p site codes setting (exits.Fixed address) known standing regs pc w is fits come ready h agree =
    leaves_by_exit p site codes setting (exits.Fixed address) (Ended (Finish (with_pc address standing.state))) known standing regs pc w is tt come h agree refl
    (λ g pc' c w'. exits_to p site known standing g c pc' address [] w')
leaving_follows p site codes setting (exits.Computed temp) known standing regs pc w is fits come ready h agree =
    leaves_by_exit p site codes setting (exits.Computed temp) (Ended (Finish (with_pc (standing.temps temp % 2 ^ 32) standing.state))) known standing regs pc w is fits come h agree refl
    (λ g pc' c w'. looks p site known standing g c pc' temp w' is fits ready)
leaving_follows p site codes setting (exits.Choice when taken other) known standing regs pc w is fits come ready h agree =
    leaves_by_exit p site codes setting (exits.Choice when taken other) (Ended (Finish (with_pc (if standing.temps when == 0 then other else taken) standing.state))) known standing regs pc w is fits come h agree refl
    (λ g pc' c w'. chooses p site known standing g c Beq refl pc' when taken other w' is.0 fits)
leaving_follows p site codes setting (exits.Service temp) known standing regs pc w is fits come ready h agree =
    let x = all_three (exit_holds known temp) (not known.codes) (not known.psw) fits in
    leaves_by_exit p site codes setting (exits.Service temp) (Serves (standing.temps temp % 2 ^ 16) (with_pc site.after standing.state)) known standing regs pc w is tt come h agree refl
    (λ g pc' c w'. serves_then p site known standing g c (not-true known.codes x.1) (not-true known.psw x.2) setting.after pc' temp w' is x.0)
leaving_follows p site codes setting exits.Breakpoint known standing regs pc w is fits come ready h agree = breaks_unchanged p site codes setting known standing regs pc w fits come h
