use Rattle.std.proofs.Common.{arith}
use Rattle.vax_form.specs.declared.instr.Size.TheVariants.{Word}
use Rattle.operand_specifiers.proofs.Numbers.{number-take_2, read_number-of, read_number-short}
use Rattle.operand_specifiers.proofs.number.word_in.Goals as goal

pub returns-in_default-clause-number : goal.returns-in_default-clause-number
returns-in_default-clause-number c = read_number-short Word c.args.bytes.now (omega arith)

pub returns-in-len2-up-clause-number : goal.returns-in-len2-up-clause-number
returns-in-len2-up-clause-number c =
    read_number-of Word c.args.bytes.now _ (omega arith) (let read = number-take_2 c.args.bytes.now (omega arith) in omega arith)
