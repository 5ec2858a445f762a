use Rattle.std.proofs.Common.{refl}
use Rattle.vax_form.specs.Targets.{operand_of}
use Rattle.operand_programs.specs.InOrder.{no_steps}
use Rattle.program_codegen.specs.Strings.{destination_specifier, length_specifier, source_specifier}
use Rattle.program_codegen.proofs.StringPushing.{operands_pushed}
use Rattle.program_codegen.proofs.strings.operands_of.Goals as goal

pub returns-clause-operands : goal.returns-clause-operands
returns-clause-operands c =
    let instr = c.args.instr.now in
    operands_pushed (length_specifier (operand_of instr 0)) (source_specifier (operand_of instr 1)) (destination_specifier (operand_of instr 2))
    c.new-program.result.items c.put_operand.new.program.items c.put_operand-2.new.program.items c.put_operand-3.new.program.items
    no_steps c.put_operand.new.steps c.put_operand-2.new.steps c.put_operand-3.new.steps
    c.new-program.ensures.items refl
    (rw c.length_specifier.ensures at c.in_ok-put_operand.ensures.program) (rw c.length_specifier.ensures at c.in_ok-put_operand.ensures.steps)
    (rw c.source_specifier.ensures at c.in_ok-put_operand-2.ensures.program) (rw c.source_specifier.ensures at c.in_ok-put_operand-2.ensures.steps)
    (rw c.destination_specifier.ensures at c.in_ok-put_operand-3.ensures.program) (rw c.destination_specifier.ensures at c.in_ok-put_operand-3.ensures.steps)
