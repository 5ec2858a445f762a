use Rattle.std.proofs.Common.{ℕ, Option, subst}
use Rattle.std.specs.Option.{option_to_list}
use Rattle.vax_form.specs.Targets.{has}
use Rattle.code_runs.specs.Entrances.{AreChanged, also_target}
use Rattle.code_runs.proofs.Entering.{changed_targets}
use Rattle.code_runs.proofs.entrances.note_targets.Goals as goal

pub returns : goal.returns
returns c =
    changed_targets c.args.instrs.now c.args.entrances.now c.note_branches.new.entrances c.note_target.new.entrances c.note_target-2.new.entrances c.args.instr.now c.note_branches.ensures
    (subst (λ (o : Option ℕ). AreChanged c.args.instrs.now (has (option_to_list o)) also_target c.note_branches.new.entrances c.note_target.new.entrances) c.jump_of.ensures c.note_target.ensures)
    (subst (λ (o : Option ℕ). AreChanged c.args.instrs.now (has (option_to_list o)) also_target c.note_target.new.entrances c.note_target-2.new.entrances) c.call_of.ensures c.note_target-2.ensures)
