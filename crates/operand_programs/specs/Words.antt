-- How many words the parts of a program count at most, each with the commits that it brings.
use Rattle.std.specs.Prelude.{◌≡◌, ℕ, ◌+◌, ◌<◌, ◌≤◌, List}
use Rattle.vax_form.specs.Size.{bytes_of}
use Rattle.vax_form.specs.declared.instr.Access.{Access}
use Rattle.vax_form.specs.declared.instr.Access.TheVariants.{Read, Write, Modify, Address, Field, Branch}
use Rattle.vax_form.specs.declared.instr.Operand.{Operand}
use Rattle.vax_form.specs.declared.instr.Operand.TheVariants.{Register, Place}
use Rattle.vax_form.specs.declared.instr.Size.{Size}
use Rattle.vax_form.specs.declared.instr.Size.TheVariants.{Byte}
use Rattle.micro_ops.specs.Laws.{IsLowPiece, piece_words}
use Rattle.micro_ops.specs.WordCounts.{by_count}
use Rattle.operand_programs.specs.Specifiers.{commit_program}
use Rattle.operand_programs.specs.Operands.{operand_program, steps_behind_specifier, IsPlaced}
use Rattle.operand_programs.specs.Results.{result_program, replacement_program, push_program, steps_behind_push, finish_program}
use Rattle.operand_programs.specs.declared.operands.Specifier.{Specifier}

-- a register is committed
abbrev pub commit_words : ℕ
commit_words = 5

-- what the steps take at the end
abbrev pub words_of_steps : (steps : List ℕ) → ℕ
words_of_steps steps = piece_words (commit_program 0 steps)

-- what a register that is stepped takes more than another: where nothing was added to it before, it is committed, and is itself
-- the address, without a sum
abbrev pub step_words : ℕ
step_words = 2

-- a deferred address, and an index: of bytes it is not multiplied
abbrev pub place_most : Size → ℕ
place_most Byte = 24
place_most size = 25

-- a check and a read
abbrev pub access_most : Size → ℕ
access_most size = 2 + by_count (bytes_of size) 4 12 12

abbrev pub operand_most : Access → Size → ℕ
operand_most Read size = place_most size + access_most size + step_words
operand_most Write size = place_most size + step_words
operand_most Modify size = place_most size + access_most size + step_words
operand_most Address size = place_most size + step_words
operand_most Field size = place_most size + step_words
operand_most Branch size = 0

-- an operand names low temporaries alone, and counts no more, with its commit
abbrev pub OperandIsShort : Type 0
OperandIsShort = (specifier : Specifier) (steps : List ℕ) → IsPlaced specifier
    → piece_words (operand_program specifier steps) + words_of_steps (steps_behind_specifier specifier steps)
    ≤ operand_most specifier.access specifier.size + words_of_steps steps

abbrev pub OperandIsLow : Type 0
OperandIsLow = (specifier : Specifier) (steps : List ℕ) → IsPlaced specifier → IsLowPiece (operand_program specifier steps)

-- ---- results
-- a result in memory is checked and written
abbrev pub result_most : Operand → Size → ℕ
result_most (Place base index) size = 2 + by_count (bytes_of size) 8 20 24
result_most operand size = 0

-- one that was checked before is written
abbrev pub replacement_most : Operand → Size → ℕ
replacement_most (Place base index) size = by_count (bytes_of size) 8 20 24
replacement_most operand size = 0

-- the stack pointer and its step, a check, a longword written, and the commit
abbrev pub push_most : ℕ
push_most = 4 + 2 + 24 + commit_words

-- the low bits of a register are replaced
abbrev pub finish_most : Operand → ℕ
finish_most (Register n) = 11
finish_most operand = 0

abbrev pub ResultIsShort : Type 0
ResultIsShort = (operand : Operand) (size : Size) (place from : ℕ) → piece_words (result_program operand size place from) ≡ result_most operand size

abbrev pub ReplacementIsShort : Type 0
ReplacementIsShort = (operand : Operand) (size : Size) (place from : ℕ) → piece_words (replacement_program operand size place from) ≡ replacement_most operand size

abbrev pub PushIsShort : Type 0
PushIsShort = (steps : List ℕ) (place from : ℕ) → piece_words (push_program steps place from) + words_of_steps (steps_behind_push steps) ≤ push_most + words_of_steps steps

abbrev pub FinishIsShort : Type 0
FinishIsShort = (operand : Operand) (size : Size) (steps : List ℕ) (from : ℕ) → piece_words (finish_program operand size steps from) ≤ finish_most operand + words_of_steps steps

-- they too name low temporaries alone
abbrev pub ResultIsLow : Type 0
ResultIsLow = (operand : Operand) (size : Size) (place from : ℕ) → place < 4 → from < 4 → IsLowPiece (result_program operand size place from)

abbrev pub ReplacementIsLow : Type 0
ReplacementIsLow = (operand : Operand) (size : Size) (place from : ℕ) → place < 4 → from < 4 → IsLowPiece (replacement_program operand size place from)

abbrev pub PushIsLow : Type 0
PushIsLow = (steps : List ℕ) (place from : ℕ) → place < 4 → from < 4 → IsLowPiece (push_program steps place from)

abbrev pub FinishIsLow : Type 0
FinishIsLow = (operand : Operand) (size : Size) (steps : List ℕ) (from : ℕ) → from < 4 → IsLowPiece (finish_program operand size steps from)

abbrev pub CommitsAreLow : Type 0
CommitsAreLow = (steps : List ℕ) → IsLowPiece (commit_program 0 steps)
