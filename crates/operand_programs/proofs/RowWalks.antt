-- A row fits where that can be computed of its pieces.
use Rattle.std.proofs.Common.{◌≡◌, ℕ, ◌+◌, ◌<◌, ◌≤◌, Bool, true, false, List, [], ◌∷◌, ◌++◌, length, Option, Some, None, refl, sym, ap, ◌∙◌, subst, arith, inl, inr, length-set}
use Rattle.std.specs.Prelude.{◌&&◌, nat_lt, nat_le, option_and_then, sum_by, min}
use Rattle.std.specs.List.{list_all}
use Rattle.std.proofs.lemmas.Bool.{and_parts, and_from, ltb-true, leb-true, le-leb, cases_lt, both_ways}
use Rattle.std.proofs.lemmas.List.{length-map, length-replicate, get_or-replicate}
use Rattle.std.proofs.lemmas.List.Sums.{sum_by-append, sum_by-cons}
use Rattle.vax_form.specs.declared.instr.Operand.{Operand}
use Rattle.vax_form.specs.declared.instr.Operand.TheVariants.{Unused, Value, Register, Place, Target}
use Rattle.vax_form.specs.declared.instr.Size.{Size}
use Rattle.vax_form.specs.declared.instr.Size.TheVariants.{Byte, Word, Long, Quad}
use Rattle.micro_ops.specs.Fits.{walk, when_fits, is_ended, all_keep_low, most_words}
use Rattle.micro_ops.specs.Known.{at_start, holds, has_flag}
use Rattle.micro_ops.specs.Laws.{IsLowPiece, piece_words}
use Rattle.micro_ops.specs.WordCounts.{words_of, program_words}
use Rattle.micro_ops.specs.declared.codes.CodeSources.{CodeSources}
use Rattle.micro_ops.specs.declared.known.Known.{Known}
use Rattle.micro_ops.specs.declared.program.Micro.{Micro}
use Rattle.micro_ops.proofs.Tables.{at_index}
use Rattle.micro_ops.proofs.Walks.{walks_joined, words_of_piece, piece_keeps_low}
use Rattle.micro_ops.proofs.Held.{flag_past}
use Rattle.operand_programs.specs.Specifiers.{commit_program}
use Rattle.operand_programs.specs.Operands.{operand_program, steps_behind_specifier}
use Rattle.operand_programs.specs.InOrder.{operands_program, steps_behind_all, no_steps}
use Rattle.operand_programs.specs.Results.{push_program, result_program, replacement_program, finish_program}
use Rattle.operand_programs.specs.Words.{words_of_steps, operand_most}
use Rattle.operand_programs.specs.Knowing.{KnowsMore, FitsBetween}
use Rattle.operand_programs.specs.Behind.{AreFit, is_unchanged, is_uncommitted, behind_operands, behind_commits, stepping, finishing}
use Rattle.operand_programs.specs.Rows.{Piece, Evaluates, Operates, Stores, Replaces, Pushes, Finishes, Commits, piece_program, steps_behind_piece, row_program, all_registers, behind_piece, walk_row, piece_most, piece_is_low, PieceIsFit, PiecesAreFit, RowFits}
use Rattle.operand_programs.specs.declared.operands.Specifier.{Specifier}
use Rattle.operand_programs.proofs.More.{no_more, knows_itself, fits_behind_more, knowing_less}
use Rattle.operand_programs.proofs.OperandWalks.{operands_fit}
use Rattle.operand_programs.proofs.Committing.{push_fits, commits_fit, finish_fits}
use Rattle.operand_programs.proofs.Short.{operand_is_short, result_is_short, replacement_is_short, push_is_short, finish_is_short}
use Rattle.operand_programs.proofs.Low.{joined_low, operand_is_low, result_is_low, replacement_is_low, push_is_low, finish_is_low, commits_are_low}
use Rattle.operand_programs.proofs.Ordered.{all_steps_length}

-- ---- steps
-- there is a step for each register
piece_whole : (piece : Piece) (steps : List ℕ) → length steps ≡ 15 → length (steps_behind_piece piece steps) ≡ 15
piece_whole (Evaluates specifiers) steps whole = all_steps_length specifiers steps ∙ whole
piece_whole (Operates operations) steps whole = whole
piece_whole (Stores operand size place from) steps whole = whole
piece_whole (Replaces operand size place from) steps whole = whole
piece_whole (Pushes place from) steps whole = length-set steps 14 _ ∙ whole
piece_whole (Finishes operand size from) steps whole = length-replicate {A = ℕ} 15 0
piece_whole Commits steps whole = length-replicate {A = ℕ} 15 0

-- ---- the walk
when_some : (fits : Bool) (known behind : Known) → when_fits fits known ≡ Some behind → (fits ≡ true) × (known ≡ behind)
when_some true known behind is = (refl, ap (λ (o : Option Known). elim o [ None ↦ known | Some k ↦ k ]) is)
when_some false known behind is = cc

all_flags : (number : ℕ) → number < 15 → has_flag all_registers number ≡ true
all_flags number low = at_index all_registers number ∙ get_or-replicate 15 number true false low

-- any register may be committed
any_commits : (registers : List Bool) (known : Known) → length registers ≡ 15 → KnowsMore (behind_commits all_registers known) (behind_commits registers known)
any_commits registers known whole = record {
  temps = λ temp. no_more _;
  high = refl;
  checked = tt;
  changed = λ e. e;
  committed = λ number e. elim (cases_lt number 15) [
    | inl low ↦ all_flags number low
    | inr past ↦ absurd (both_ways (has_flag registers number) (flag_past registers number (omega (arith, past, whole))) e)
  ];
  registers = sym whole;
  codes = refl;
  psw = refl;
  ended = refl;
}

finishing_whole : (operand : Operand) (size : Size) (steps : List ℕ) → length (finishing operand size steps) ≡ length steps
finishing_whole (Register n) Byte steps = length-set (stepping steps) n true ∙ length-map steps _
finishing_whole (Register n) Word steps = length-set (stepping steps) n true ∙ length-map steps _
finishing_whole (Register n) Long steps = length-set (stepping steps) n true ∙ length-map steps _
finishing_whole (Register n) Quad steps = length-set _ (min (n + 1) 255) true ∙ length-set (stepping steps) n true ∙ length-map steps _
finishing_whole (Place base index) size steps = length-map steps _
finishing_whole Unused size steps = length-map steps _
finishing_whole (Value value) size steps = length-map steps _
finishing_whole (Target address) size steps = length-map steps _

piece_between : (codes : CodeSources) (piece : Piece) (steps : List ℕ) (known behind : Known) → PieceIsFit piece → piece_is_low piece ≡ true → length steps ≡ 15
    → behind_piece codes known piece ≡ Some behind → FitsBetween codes known (piece_program piece steps) behind
piece_between codes (Evaluates specifiers) steps known behind fit low whole is =
    let e = when_some (is_unchanged known) (behind_operands specifiers known) behind is in
    subst (λ k. FitsBetween codes known (operands_program specifiers steps) k) e.1 (operands_fit codes specifiers steps known fit e.0)
piece_between codes (Operates operations) steps known behind fit low whole is = fits_behind_more codes operations known behind is
piece_between codes (Stores operand size place from) steps known behind fit low whole is = fits_behind_more codes (result_program operand size place from) known behind is
piece_between codes (Replaces operand size place from) steps known behind fit low whole is = fits_behind_more codes (replacement_program operand size place from) known behind is
piece_between codes (Pushes place from) steps known behind fit low whole is = fits_behind_more codes (push_program steps place from) known behind (push_fits codes steps place from known ∙ is)
piece_between codes (Finishes operand size from) steps known behind fit low whole is =
    let e = when_some (is_uncommitted known && holds known from) (behind_commits all_registers known) behind is in
    let tests = and_parts (is_uncommitted known) (holds known from) e.0 in
    subst (λ k. FitsBetween codes known (finish_program operand size steps from) k) e.1
    (knowing_less codes (finish_program operand size steps from) known (behind_commits (finishing operand size steps) known) (behind_commits all_registers known)
    (any_commits (finishing operand size steps) known (finishing_whole operand size steps ∙ whole))
    (finish_fits codes operand size steps from known fit whole (ltb-true from 4 low) tests.1 tests.0))
piece_between codes Commits steps known behind fit low whole is =
    let e = when_some (is_uncommitted known) (behind_commits all_registers known) behind is in
    subst (λ k. FitsBetween codes known (commit_program 0 steps) k) e.1
    (knowing_less codes (commit_program 0 steps) known (behind_commits (stepping steps) known) (behind_commits all_registers known)
    (any_commits (stepping steps) known (length-map steps _ ∙ whole)) (commits_fit codes steps known whole e.0))

ends_more : (codes : CodeSources) (rest : List Micro) (known more : Known) → KnowsMore known more → is_ended (walk codes known rest) ≡ true → is_ended (walk codes more rest) ≡ true
ends_more codes rest known more m is = by (walk codes known rest) refl is
  where
    by : (o : Option Known) → walk codes known rest ≡ o → is_ended o ≡ true → is_ended (walk codes more rest) ≡ true
    by None e is' = cc
    by (Some behind) e is' = let b = fits_behind_more codes rest known behind e more m in ap is_ended b.1 ∙ sym b.2.ended ∙ is'

-- one piece, and the rest of the row behind it
one_ends : (codes : CodeSources) (piece : Piece) (program : List Micro) (steps : List ℕ) (known more : Known) → PieceIsFit piece → piece_is_low piece ≡ true → length steps ≡ 15 → KnowsMore known more
    → (rest : Known → Option Known) → ((behind behind_more : Known) → KnowsMore behind behind_more → is_ended (rest behind) ≡ true → is_ended (walk codes behind_more program) ≡ true)
    → (o : Option Known) → behind_piece codes known piece ≡ o → is_ended (option_and_then rest o) ≡ true → is_ended (walk codes more (piece_program piece steps ++ program)) ≡ true
one_ends codes piece program steps known more fit low whole m rest ends None e is = cc
one_ends codes piece program steps known more fit low whole m rest ends (Some behind) e is =
    let b = piece_between codes piece steps known behind fit low whole e more m in
    ap is_ended (walks_joined codes more (piece_program piece steps) program ∙ ap (option_and_then (λ k. walk codes k program)) b.1) ∙ ends behind b.0 b.2 is

row_ends : (codes : CodeSources) (pieces : List Piece) (rest : List Micro) (steps : List ℕ) (known more : Known) → PiecesAreFit pieces → list_all piece_is_low pieces ≡ true → length steps ≡ 15
    → KnowsMore known more → is_ended (walk_row codes known pieces rest) ≡ true → is_ended (walk codes more (row_program pieces steps rest)) ≡ true
row_ends codes [] rest steps known more fit low whole m is = ends_more codes rest known more m is
row_ends codes (piece ∷ pieces) rest steps known more fit low whole m is =
    let lows = and_parts (piece_is_low piece) (list_all piece_is_low pieces) low in
    let behind = steps_behind_piece piece steps in
    one_ends codes piece (row_program pieces behind rest) steps known more fit.0 lows.0 whole m (λ k. walk_row codes k pieces rest)
    (λ k k' m' is'. row_ends codes pieces rest behind k k' fit.1 lows.1 (piece_whole piece steps whole) m' is') (behind_piece codes known piece) refl is

-- ---- its temporaries
operands_low : (specifiers : List Specifier) (steps : List ℕ) → AreFit specifiers → IsLowPiece (operands_program specifiers steps)
operands_low [] steps fit = refl
operands_low (specifier ∷ specifiers) steps fit =
    joined_low (operand_program specifier steps) (operands_program specifiers (steps_behind_specifier specifier steps)) (operand_is_low specifier steps fit.0.placed) (operands_low specifiers (steps_behind_specifier specifier steps) fit.1)

both_low : (place from : ℕ) → (nat_lt place 4 && nat_lt from 4) ≡ true → (place < 4) × (from < 4)
both_low place from low = let parts = and_parts (nat_lt place 4) (nat_lt from 4) low in (ltb-true place 4 parts.0, ltb-true from 4 parts.1)

piece_low : (piece : Piece) (steps : List ℕ) → PieceIsFit piece → piece_is_low piece ≡ true → IsLowPiece (piece_program piece steps)
piece_low (Evaluates specifiers) steps fit low = operands_low specifiers steps fit
piece_low (Operates operations) steps fit low = low
piece_low (Stores operand size place from) steps fit low = let b = both_low place from low in result_is_low operand size place from b.0 b.1
piece_low (Replaces operand size place from) steps fit low = let b = both_low place from low in replacement_is_low operand size place from b.0 b.1
piece_low (Pushes place from) steps fit low = let b = both_low place from low in push_is_low steps place from b.0 b.1
piece_low (Finishes operand size from) steps fit low = finish_is_low operand size steps from (ltb-true from 4 low)
piece_low Commits steps fit low = commits_are_low steps

row_low : (codes : CodeSources) (pieces : List Piece) (rest : List Micro) (steps : List ℕ) → PiecesAreFit pieces → list_all piece_is_low pieces ≡ true → all_keep_low codes rest ≡ true
    → all_keep_low codes (row_program pieces steps rest) ≡ true
row_low codes [] rest steps fit low is = is
row_low codes (piece ∷ pieces) rest steps fit low is =
    let lows = and_parts (piece_is_low piece) (list_all piece_is_low pieces) low in
    piece_keeps_low codes (piece_program piece steps) (row_program pieces (steps_behind_piece piece steps) rest) (piece_low piece steps fit.0 lows.0)
    ∙ row_low codes pieces rest (steps_behind_piece piece steps) fit.1 lows.1 is

-- ---- its words
abbrev most_of : Specifier → ℕ
most_of specifier = operand_most specifier.access specifier.size

no_words : words_of_steps no_steps ≡ 0
no_words = refl

operands_short : (specifiers : List Specifier) (steps : List ℕ) → AreFit specifiers
    → piece_words (operands_program specifiers steps) + words_of_steps (steps_behind_all specifiers steps) ≤ sum_by most_of specifiers + words_of_steps steps
operands_short [] steps fit = omega arith
operands_short (specifier ∷ specifiers) steps fit =
    let behind = steps_behind_specifier specifier steps in
    omega (arith, sum_by-append words_of (operand_program specifier steps) (operands_program specifiers behind), sum_by-cons most_of specifier specifiers, operand_is_short specifier steps fit.0.placed, operands_short specifiers behind fit.1)

piece_short : (piece : Piece) (steps : List ℕ) → PieceIsFit piece → piece_words (piece_program piece steps) + words_of_steps (steps_behind_piece piece steps) ≤ piece_most piece + words_of_steps steps
piece_short (Evaluates specifiers) steps fit = operands_short specifiers steps fit
piece_short (Operates operations) steps fit = omega arith
piece_short (Stores operand size place from) steps fit = omega (arith, result_is_short operand size place from)
piece_short (Replaces operand size place from) steps fit = omega (arith, replacement_is_short operand size place from)
piece_short (Pushes place from) steps fit = push_is_short steps place from
piece_short (Finishes operand size from) steps fit = omega (arith, finish_is_short operand size steps from, no_words)
piece_short Commits steps fit = omega (arith, no_words)

row_short : (codes : CodeSources) (pieces : List Piece) (rest : List Micro) (steps : List ℕ) → PiecesAreFit pieces → list_all piece_is_low pieces ≡ true
    → program_words codes (row_program pieces steps rest) ≤ sum_by piece_most pieces + program_words codes rest + words_of_steps steps
row_short codes [] rest steps fit low = omega arith
row_short codes (piece ∷ pieces) rest steps fit low =
    let lows = and_parts (piece_is_low piece) (list_all piece_is_low pieces) low in
    let behind = steps_behind_piece piece steps in
    omega (arith, words_of_piece codes (piece_program piece steps) (row_program pieces behind rest) (piece_low piece steps fit.0 lows.0), sum_by-cons piece_most piece pieces, piece_short piece steps fit.0, row_short codes pieces rest behind fit.1 lows.1)

pub row_law : RowFits
row_law codes pieces rest fit is =
    let first = and_parts (is_ended (walk_row codes at_start pieces rest) && list_all piece_is_low pieces && all_keep_low codes rest) (nat_le (sum_by piece_most pieces + program_words codes rest) most_words) is in
    let second = and_parts (is_ended (walk_row codes at_start pieces rest) && list_all piece_is_low pieces) (all_keep_low codes rest) first.0 in
    let third = and_parts (is_ended (walk_row codes at_start pieces rest)) (list_all piece_is_low pieces) second.0 in
    and_from _ _ (and_from _ _ (row_ends codes pieces rest no_steps at_start at_start fit third.1 (length-replicate {A = ℕ} 15 0) (knows_itself at_start) third.0)
    (row_low codes pieces rest no_steps fit third.1 second.1))
    (le-leb _ most_words (omega (arith, row_short codes pieces rest no_steps fit third.1, no_words, leb-true _ most_words first.1)))
