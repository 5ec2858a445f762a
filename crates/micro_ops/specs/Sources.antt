-- Where each operation's condition codes come from when its program leaves.
-- VAX Architecture Reference Manual, "Instruction Descriptions": the line of condition codes of each instruction.
use Rattle.std.specs.Prelude.{Bool, true, false}
use Rattle.vax_form.specs.Size.{size_of}
use Rattle.vax_form.specs.declared.instr.Size.{Size}
use Rattle.vax_form.specs.declared.instr.Size.TheVariants.{Word, Long, Quad}
use Rattle.vax_form.specs.declared.operation.BinaryOperation.{BinaryOperation}
use Rattle.vax_form.specs.declared.operation.BinaryOperation.TheVariants as binary
use Rattle.vax_form.specs.declared.operation.LongOperation.{LongOperation}
use Rattle.vax_form.specs.declared.operation.LongOperation.TheVariants.{CallGeneral, CallStack, MoveCharacters}
use Rattle.vax_form.specs.declared.operation.Operation.{Operation}
use Rattle.vax_form.specs.declared.operation.Operation.TheVariants as operations
use Rattle.vax_form.specs.declared.state.Flags.{Flags}
use Rattle.micro_ops.specs.declared.codes.CodeSource.{CodeSource}
use Rattle.micro_ops.specs.declared.codes.CodeSource.TheVariants.{Kept, Zero, Result, Add, Sub, Compare, Computed, Psw}
use Rattle.micro_ops.specs.declared.codes.CodeSources.{CodeSources}

abbrev pub from : (nzv c : CodeSource) → CodeSources
from nzv c = record { nzv = nzv; c = c }

-- ---- which codes are written
-- the codes of that source are written
abbrev pub is_written : CodeSource → Bool
is_written Kept = false
is_written source = true

abbrev pub codes_written_by : CodeSources → Flags
codes_written_by sources =
    let signs = is_written sources.nzv in record { n = signs; z = signs; v = signs; c = is_written sources.c }

-- ---- the sources of each operation
abbrev pub sources_of_binary : BinaryOperation → Size → CodeSources
sources_of_binary binary.Add size = from (Add size) (Add size)
sources_of_binary binary.Subtract size = from (Sub size) (Sub size)
sources_of_binary binary.Multiply size = from (Computed size) Zero
sources_of_binary binary.Divide size = from (Computed size) Zero
sources_of_binary _ size = from (Result size) Kept

-- of the long operations those for which there can be a block
abbrev pub sources_of_long : LongOperation → CodeSources
sources_of_long CallGeneral = from (Computed Long) (Computed Long)
sources_of_long CallStack = from (Computed Long) (Computed Long)
sources_of_long MoveCharacters = from (Computed Long) (Computed Long)
sources_of_long _ = from Kept Kept

unfoldable pub sources_of : Operation → CodeSources
sources_of (operations.Move size) = from (Result size) Kept
sources_of (operations.Clear size) = from (Result size) Kept
sources_of (operations.MoveAddress size) = from (Result Long) Kept
sources_of (operations.PushAddress size) = from (Result Long) Kept
sources_of operations.PushLong = from (Result Long) Kept
sources_of (operations.MoveZeroExtended source to) = from (Result (size_of to)) Kept
sources_of (operations.Convert source to) = from (Computed (size_of to)) Zero
sources_of (operations.MoveComplemented width) = from (Result (size_of width)) Kept
sources_of (operations.MoveNegated width) = from (Sub (size_of width)) (Sub (size_of width))
sources_of operations.BitSetPsw = from Psw Psw
sources_of operations.BitClearPsw = from Psw Psw
sources_of (operations.Compare width) = from (Compare (size_of width)) (Compare (size_of width))
sources_of (operations.Test width) = from (Result (size_of width)) Zero
sources_of (operations.BitTest width) = from (Result (size_of width)) Kept
sources_of (operations.TwoOperands operation width) = sources_of_binary operation (size_of width)
sources_of (operations.ThreeOperands operation width) = sources_of_binary operation (size_of width)
sources_of (operations.Increment width) = from (Add (size_of width)) (Add (size_of width))
sources_of (operations.Decrement width) = from (Sub (size_of width)) (Sub (size_of width))
sources_of operations.AddWithCarry = from (Computed Long) (Computed Long)
sources_of operations.SubtractWithCarry = from (Computed Long) (Computed Long)
sources_of operations.AddAlignedWord = from (Add Word) (Add Word)
sources_of operations.ExtendedMultiply = from (Result Quad) Zero
sources_of operations.ArithmeticShift = from (Computed Long) Zero
sources_of operations.Rotate = from (Result Long) Kept
sources_of (operations.AddOneBranch or_equal) = from (Computed Long) Kept
sources_of (operations.SubtractOneBranch or_equal) = from (Computed Long) Kept
sources_of (operations.AddCompareBranch width) = from (Computed (size_of width)) Kept
sources_of (operations.Long operation) = sources_of_long operation
sources_of _ = from Kept Kept
