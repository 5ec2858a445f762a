use Rattle.std.proofs.Common.{◌≡◌, List, length, sym, subst, arith, take}
use Rattle.std.proofs.lemmas.List.{length-take-le, take_more}
use Rattle.vax_form.specs.declared.instr.Instr.{Instr}
use Rattle.code_runs.specs.Entrances.{AreEntrances}
use Rattle.code_runs.specs.Runs.{instr_at, no_instr}
use Rattle.code_runs.proofs.Entering.{entrances_more}
use Rattle.code_runs.proofs.entrances.note_all.Goals as goal

pub loop-place-preserved : goal.loop-place-preserved
loop-place-preserved c =
    let instrs = c.args.instrs.now in
    let k = c.loop-place.place in
    let test = c.loop-place-test.true in
    let whole : k ≡ length (take k instrs) = sym (length-take-le k instrs (omega arith)) in
    subst (λ (among : List Instr). AreEntrances instrs among c.note_targets.new.entrances) (sym (take_more instrs k no_instr test))
    (entrances_more instrs (take k instrs) (instr_at instrs k) c.loop-place.entrances c.note_end.new.entrances c.note_targets.new.entrances k whole c.loop-place.invariant c.note_end.ensures c.note_targets.ensures)
