-- Walks over programs, operation by operation.
use Rattle.std.proofs.Common.{◌≡◌, ℕ, zero, suc, ◌+◌, ◌-◌, ◌<◌, refl, sym, ap, ◌∙◌, Bool, true, false, List, [], ◌∷◌, ◌++◌, length, get_or, take, drop, Option, Some, None, zero-add, add_assoc, replicate, arith}
use Rattle.std.specs.Prelude.{◌&&◌, ◌||◌, not, option_and_then, if◌then◌else◌}
use Rattle.std.specs.List.{list_all}
use Rattle.std.proofs.lemmas.Bool.{and_parts}
use Rattle.std.proofs.lemmas.List.Sums.{sum_by-append, sum_by-cons}
use Rattle.std.proofs.lemmas.List.{take_rest, drop_more, at_drop_all}
use Rattle.micro_ops.specs.declared.codes.CodeSources.{CodeSources}
use Rattle.micro_ops.specs.declared.known.Known.{Known}
use Rattle.micro_ops.specs.declared.program.Micro.{Micro}
use Rattle.micro_ops.specs.declared.program.Micro.TheVariants.{Compute}
use Rattle.micro_ops.specs.Fits.{step, walk, names_low, is_low_argument, keeps_low, all_keep_low}
use Rattle.micro_ops.specs.Uses.{is_codes}
use Rattle.micro_ops.specs.LeftOut.{is_left_out, is_low, is_needed, is_used, Tells}
use Rattle.micro_ops.specs.WordCounts.{words_of, words_with, program_words}
use Rattle.micro_ops.proofs.Tables.{none_held}
use Rattle.micro_ops.specs.Laws.{WalksJoined, NoneLeftOut, piece_words, WordsJoined, WordsOfPiece, PieceKeepsLow}

-- ---- the loops
-- a walk over a program's rest, one operation on
pub walk_step : (codes : CodeSources) (known : Known) (program : List Micro) (i : ℕ) (d : Micro) → i < length program
    → walk codes known (drop i program) ≡ (if known.ended then None else option_and_then (λ behind. walk codes behind (drop (i + 1) program)) (step codes known (get_or program i d)))
walk_step codes known program i d lt = ap (walk codes known) (drop_more program i d lt)

pub low_step : (codes : CodeSources) (program : List Micro) (i : ℕ) (d : Micro) → i < length program
    → all_keep_low codes (drop i program) ≡ (keeps_low codes (get_or program i d) (take (length program - (i + 1)) (drop (i + 1) program)) && all_keep_low codes (drop (i + 1) program))
low_step codes program i d lt =
    ap (all_keep_low codes) (drop_more program i d lt)
    ∙ ap (λ behind. keeps_low codes (get_or program i d) behind && all_keep_low codes (drop (i + 1) program)) (sym (take_rest program (i + 1)))

module _ (codes : CodeSources) (known : Known) (program : List Micro) (i : ℕ) (d : Micro) (lt : i < length program) where
  abbrev rest : Known → Option Known
  rest behind = walk codes behind (drop (i + 1) program)

  by_end : (ended : Bool) → known.ended ≡ ended → walk codes known (drop i program) ≡ (if ended then None else option_and_then rest (step codes known (get_or program i d)))
  by_end ended e = walk_step codes known program i d lt ∙ ap (λ ended. if ended then None else option_and_then rest (step codes known (get_or program i d))) e

  pub walk_ended : known.ended ≡ true → walk codes known (drop i program) ≡ None
  walk_ended ended = by_end true ended

  pub walk_fails : known.ended ≡ false → step codes known (get_or program i d) ≡ None → walk codes known (drop i program) ≡ None
  walk_fails on fails = by_end false on ∙ ap (option_and_then rest) fails

  pub walk_on : (behind : Known) → known.ended ≡ false → step codes known (get_or program i d) ≡ Some behind → walk codes known (drop i program) ≡ walk codes behind (drop (i + 1) program)
  walk_on behind on fits = by_end false on ∙ ap (option_and_then rest) fits

-- ---- pieces
module _ (codes : CodeSources) (first second : List Micro) where
  joined_step : ((behind : Known) → walk codes behind (first ++ second) ≡ option_and_then (λ behind. walk codes behind second) (walk codes behind first)) → (o : Option Known)
      → option_and_then (λ behind. walk codes behind (first ++ second)) o ≡ option_and_then (λ behind. walk codes behind second) (option_and_then (λ behind. walk codes behind first) o)
  joined_step rest None = refl
  joined_step rest (Some behind) = rest behind

  joined_on : (ended : Bool) (o : Option Known) → option_and_then (λ behind. walk codes behind (first ++ second)) o ≡ option_and_then (λ behind. walk codes behind second) (option_and_then (λ behind. walk codes behind first) o)
      → (if ended then None else option_and_then (λ behind. walk codes behind (first ++ second)) o) ≡ option_and_then (λ behind. walk codes behind second) (if ended then None else option_and_then (λ behind. walk codes behind first) o)
  joined_on true o e = refl
  joined_on false o e = e

pub walks_joined : WalksJoined
walks_joined codes known [] second = refl
walks_joined codes known (operation ∷ first) second =
    let o = step codes known operation in
    joined_on codes first second known.ended o (joined_step codes first second (λ behind. walks_joined codes behind first second) o)

left_out_low : (low used : Bool) → low ≡ true → (not low && used) ≡ false
left_out_low true used e = refl
left_out_low false used e = cc

pub none_left_out : NoneLeftOut
none_left_out codes (Compute to op size a b) behind low =
    left_out_low (is_low to) _ (and_parts (is_low to) _ (and_parts (is_low to && is_low_argument a) _ low).0).0
none_left_out codes operation behind low = refl

pub words_joined : WordsJoined
words_joined first second = sum_by-append words_of first second

words_of_low : (left_out : Bool) (words : ℕ) → left_out ≡ false → (if left_out then 0 else words) ≡ words
words_of_low true words e = cc
words_of_low false words e = refl

pub words_of_piece : WordsOfPiece
words_of_piece codes [] program low = sym (zero-add (program_words codes program))
words_of_piece codes (operation ∷ piece) program low =
    let parts = and_parts (names_low operation) (list_all names_low piece) low in
    let here : words_with codes operation (piece ++ program) ≡ words_of operation = words_of_low _ _ (none_left_out codes operation (piece ++ program) parts.0) in
    let rest : program_words codes (piece ++ program) ≡ piece_words piece + program_words codes program = words_of_piece codes piece program parts.1 in
    let all : piece_words (operation ∷ piece) ≡ words_of operation + piece_words piece = sum_by-cons words_of operation piece in
    rw (here, rest, all) (sym (add_assoc (words_of operation) (piece_words piece) (program_words codes program)))

or_true : (a b : Bool) → (a || b || true) ≡ true
or_true true b = refl
or_true false true = refl
or_true false false = refl

pub piece_keeps_low : PieceKeepsLow
piece_keeps_low codes [] program low = refl
piece_keeps_low codes (operation ∷ piece) program low =
    let parts = and_parts (names_low operation) (list_all names_low piece) low in
    let here : keeps_low codes operation (piece ++ program) ≡ true = rw parts.0 (or_true (is_codes operation) (is_left_out codes operation (piece ++ program))) in
    rw here (piece_keeps_low codes piece program parts.1)

-- ---- from the end
needed_or_not : (low used : Bool) → (not low && not used) ≡ not (low || used)
needed_or_not true used = refl
needed_or_not false used = refl

-- what is left out is what isn't needed
pub left_out_unless_needed : (codes : CodeSources) (operation : Micro) (behind : List Micro) → is_left_out codes operation behind ≡ not (is_needed operation (is_used codes behind))
left_out_unless_needed codes (Compute to op size a b) behind = needed_or_not (is_low to) (is_used codes behind to)
left_out_unless_needed codes operation behind = refl

pub words_needed : (codes : CodeSources) (operation : Micro) (behind : List Micro) → is_needed operation (is_used codes behind) ≡ true
    → program_words codes (operation ∷ behind) ≡ words_of operation + program_words codes behind
words_needed codes operation behind e =
    ap (λ out. (if out then 0 else words_of operation) + program_words codes behind) (left_out_unless_needed codes operation behind ∙ ap not e)

pub words_left_out : (codes : CodeSources) (operation : Micro) (behind : List Micro) → is_needed operation (is_used codes behind) ≡ false
    → program_words codes (operation ∷ behind) ≡ program_words codes behind
words_left_out codes operation behind e =
    ap (λ out. (if out then 0 else words_of operation) + program_words codes behind) (left_out_unless_needed codes operation behind ∙ ap not e)
    ∙ zero-add (program_words codes behind)

-- no temporary is used behind the end
pub none_used : (codes : CodeSources) (program : List Micro) → Tells (replicate 256 false) (is_used codes (drop (length program - 0) program))
none_used codes program number lt =
    none_held 256 number lt ∙ sym (at_drop_all (λ rest. is_used codes rest number) program (length program - 0) (omega arith))

pub low_from : (codes : CodeSources) (operation : Micro) (behind : List Micro) (needed : Bool) → needed ≡ is_needed operation (is_used codes behind)
    → all_keep_low codes (operation ∷ behind) ≡ ((is_codes operation || not needed || names_low operation) && all_keep_low codes behind)
low_from codes operation behind needed e =
    ap (λ out. (is_codes operation || out || names_low operation) && all_keep_low codes behind) (left_out_unless_needed codes operation behind ∙ ap not (sym e))

and_false : (a b : Bool) → b ≡ false → (a && b) ≡ false
and_false true b e = e
and_false false b e = refl

-- an operation that doesn't keep low, wherever it stands
pub suffix_low : (codes : CodeSources) (n : ℕ) (program : List Micro) → all_keep_low codes (drop n program) ≡ false → all_keep_low codes program ≡ false
suffix_low codes zero program e = e
suffix_low codes (suc n) [] e = e
suffix_low codes (suc n) (operation ∷ program) e = and_false (keeps_low codes operation program) _ (suffix_low codes n program e)
