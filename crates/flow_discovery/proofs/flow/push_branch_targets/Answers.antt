use Rattle.std.proofs.Common.{◌∙◌, ◌++◌, ap, arith}
use Rattle.std.specs.Option.{option_to_list}
use Rattle.vax_form.specs.declared.instr.Operand.TheVariants.{Unused}
use Rattle.flow_discovery.proofs.Pushed.{pushed_item}
use Rattle.vax_form.specs.Targets.{branch_target}
use Rattle.flow_discovery.proofs.flow.push_branch_targets.Goals as goal

pub loop-operand-preserved : goal.loop-operand-preserved
loop-operand-preserved c =
    pushed_item branch_target c.args.operands.now c.loop-operand.operand-index Unused c.args.into.now.items c.loop-operand.into.items c.push_some.new.into.items (omega arith)
    c.loop-operand.invariant (c.in_ok-push_some.ensures ∙ ap (λ o. c.loop-operand.into.items ++ option_to_list o) c.branch_target.ensures)
