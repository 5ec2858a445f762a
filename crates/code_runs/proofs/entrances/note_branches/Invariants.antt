use Rattle.std.proofs.Common.{take}
use Rattle.std.specs.List.{filter_map}
use Rattle.code_runs.specs.Entrances.{AreChanged, also_target}
use Rattle.vax_form.specs.Targets.{branch_target, has}
use Rattle.code_runs.proofs.entrances.note_branches.Given as goal

abbrev pub invariant-loop-operand : goal.invariant-loop-operand
invariant-loop-operand l = AreChanged l.instrs (has (filter_map branch_target (take l.operand-index l.operands))) also_target l.fn.entrances l.entrances
