-- The operands are still those of the instruction.
use Rattle.std.proofs.Common.{ap, ◌∙◌}
use Rattle.tie_operands.specs.Rest.{operands_rest}
use Rattle.tie_strings.specs.Bodies.{long_tree}
use Rattle.tie_strings.proofs.tie.LongTie.evaluated.Goals as goal

pub returns-in-Err-Wants-clause-rest : goal.returns-in-Err-Wants-clause-rest
returns-in-Err-Wants-clause-rest c =
    let pages = c.args.cursor.now.pages.now in
    ap (λ i. operands_rest pages c.operands_led.new.operands (long_tree pages c.args.operation i)) c.operands_led.ensures.instr
    ∙ (rw c.in-Err-Wants.field-0-is at c.in-Err-Wants.ensures.leads).1
