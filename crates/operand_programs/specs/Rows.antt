-- Programs made of pieces: operands, operations that are the same for all operands, and what becomes of the result. Such a
-- program fits where the least that its pieces leave known, and the most words that they count, say so.
use Rattle.std.specs.Prelude.{◌≡◌, ℕ, ◌+◌, ◌&&◌, Bool, true, List, [], ◌∷◌, ◌++◌, sum_by, replicate, nat_lt, nat_le, Option, option_and_then}
use Rattle.std.specs.List.{list_all}
use Rattle.vax_form.specs.declared.instr.Operand.{Operand}
use Rattle.vax_form.specs.declared.instr.Size.{Size}
use Rattle.micro_ops.specs.Fits.{walk, when_fits, is_ended, names_low, all_keep_low, most_words, fits}
use Rattle.micro_ops.specs.Known.{at_start, holds}
use Rattle.micro_ops.specs.Laws.{piece_words}
use Rattle.micro_ops.specs.WordCounts.{program_words}
use Rattle.micro_ops.specs.declared.codes.CodeSources.{CodeSources}
use Rattle.micro_ops.specs.declared.known.Known.{Known}
use Rattle.micro_ops.specs.declared.program.Micro.{Micro}
use Rattle.operand_programs.specs.Specifiers.{commit_program}
use Rattle.operand_programs.specs.InOrder.{operands_program, steps_behind_all, no_steps}
use Rattle.operand_programs.specs.Results.{result_program, replacement_program, push_program, steps_behind_push, finish_program}
use Rattle.operand_programs.specs.Words.{operand_most, result_most, replacement_most, push_most, finish_most}
use Rattle.operand_programs.specs.Registers.{NamesRegisters}
use Rattle.operand_programs.specs.Behind.{AreFit, is_unchanged, is_uncommitted, behind_operands, behind_commits}
use Rattle.operand_programs.specs.declared.operands.Specifier.{Specifier}

pub data Piece : Type 0 where
  -- operands in order
  Evaluates : List Specifier → Piece
  -- operations, the same for all operands
  Operates : List Micro → Piece
  -- a result for an operand, if that is in memory
  Stores : Operand → Size → (place from : ℕ) → Piece
  -- the same of an operand that was modified
  Replaces : Operand → Size → (place from : ℕ) → Piece
  Pushes : (place from : ℕ) → Piece
  -- the steps are committed, and the result, if that is in a register
  Finishes : Operand → Size → (from : ℕ) → Piece
  -- the steps are committed
  Commits : Piece

-- ---- the program
abbrev pub piece_program : Piece → (steps : List ℕ) → List Micro
piece_program (Evaluates specifiers) steps = operands_program specifiers steps
piece_program (Operates operations) steps = operations
piece_program (Stores operand size place from) steps = result_program operand size place from
piece_program (Replaces operand size place from) steps = replacement_program operand size place from
piece_program (Pushes place from) steps = push_program steps place from
piece_program (Finishes operand size from) steps = finish_program operand size steps from
piece_program Commits steps = commit_program 0 steps

-- what is committed is no longer to be added
abbrev pub steps_behind_piece : Piece → (steps : List ℕ) → List ℕ
steps_behind_piece (Evaluates specifiers) steps = steps_behind_all specifiers steps
steps_behind_piece (Operates operations) steps = steps
steps_behind_piece (Stores operand size place from) steps = steps
steps_behind_piece (Replaces operand size place from) steps = steps
steps_behind_piece (Pushes place from) steps = steps_behind_push steps
steps_behind_piece (Finishes operand size from) steps = no_steps
steps_behind_piece Commits steps = no_steps

-- the pieces in order, and operations behind them
abbrev pub row_program : List Piece → (steps : List ℕ) → (rest : List Micro) → List Micro
row_program [] steps rest = rest
row_program (piece ∷ pieces) steps rest = piece_program piece steps ++ row_program pieces (steps_behind_piece piece steps) rest

-- ---- what it leaves known
-- any register may be committed
abbrev pub all_registers : List Bool
all_registers = replicate 15 true

abbrev pub behind_piece : CodeSources → Known → Piece → Option Known
behind_piece codes known (Evaluates specifiers) = when_fits (is_unchanged known) (behind_operands specifiers known)
behind_piece codes known (Operates operations) = walk codes known operations
behind_piece codes known (Stores operand size place from) = walk codes known (result_program operand size place from)
behind_piece codes known (Replaces operand size place from) = walk codes known (replacement_program operand size place from)
behind_piece codes known (Pushes place from) = walk codes known (push_program no_steps place from)
behind_piece codes known (Finishes operand size from) = when_fits (is_uncommitted known && holds known from) (behind_commits all_registers known)
behind_piece codes known Commits = when_fits (is_uncommitted known) (behind_commits all_registers known)

abbrev pub walk_row : CodeSources → Known → List Piece → (rest : List Micro) → Option Known
walk_row codes known [] rest = walk codes known rest
walk_row codes known (piece ∷ pieces) rest = option_and_then (λ behind. walk_row codes behind pieces rest) (behind_piece codes known piece)

-- ---- its words, and its temporaries
abbrev pub piece_most : Piece → ℕ
piece_most (Evaluates specifiers) = sum_by (λ (specifier : Specifier). operand_most specifier.access specifier.size) specifiers
piece_most (Operates operations) = piece_words operations
piece_most (Stores operand size place from) = result_most operand size
piece_most (Replaces operand size place from) = replacement_most operand size
piece_most (Pushes place from) = push_most
piece_most (Finishes operand size from) = finish_most operand
piece_most Commits = 0

abbrev pub piece_is_low : Piece → Bool
piece_is_low (Operates operations) = list_all names_low operations
piece_is_low (Stores operand size place from) = nat_lt place 4 && nat_lt from 4
piece_is_low (Replaces operand size place from) = nat_lt place 4 && nat_lt from 4
piece_is_low (Pushes place from) = nat_lt place 4 && nat_lt from 4
piece_is_low (Finishes operand size from) = nat_lt from 4
piece_is_low piece = true

-- ---- the law
-- the operands can be used as they are
abbrev pub PieceIsFit : Piece → Type 0
PieceIsFit (Evaluates specifiers) = AreFit specifiers
PieceIsFit (Finishes operand size from) = NamesRegisters operand size
PieceIsFit piece = Unit {0}

abbrev pub PiecesAreFit : List Piece → Type 0
PiecesAreFit [] = Unit {0}
PiecesAreFit (piece ∷ pieces) = PieceIsFit piece × PiecesAreFit pieces

-- what can be computed of a row: only the operations behind its pieces may name a temporary above 5
abbrev pub row_fits : CodeSources → List Piece → (rest : List Micro) → Bool
row_fits codes pieces rest =
    is_ended (walk_row codes at_start pieces rest)
    && list_all piece_is_low pieces
    && all_keep_low codes rest
    && nat_le (sum_by piece_most pieces + program_words codes rest) most_words

abbrev pub RowFits : Type 0
RowFits = (codes : CodeSources) (pieces : List Piece) (rest : List Micro) → PiecesAreFit pieces → row_fits codes pieces rest ≡ true → fits codes (row_program pieces no_steps rest) ≡ true
