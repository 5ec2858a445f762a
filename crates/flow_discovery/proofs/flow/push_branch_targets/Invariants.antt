use Rattle.std.proofs.Common.{◌≡◌, ◌++◌, take}
use Rattle.std.specs.List.{filter_map}
use Rattle.vax_form.specs.Targets.{branch_target}
use Rattle.flow_discovery.proofs.flow.push_branch_targets.Given as goal

abbrev pub invariant-loop-operand : goal.invariant-loop-operand
invariant-loop-operand l = l.into.items ≡ l.initial.into.items ++ filter_map branch_target (take l.operand-index l.operands)
