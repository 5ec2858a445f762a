-- Words and points in lists one behind the other.
use Rattle.std.proofs.Common.{◌≡◌, ℕ, zero, suc, ◌+◌, ◌-◌, ◌<◌, ◌≤◌, ◌++◌, refl, ◌∙◌, ap, arith, eqb, cond, nat_lt, ltb-true, ltb-false, List, [], ◌∷◌, length, length-append, map, get_or, All, Bool, true, false, Option, Some, None}
use Rattle.std.specs.Prelude.{slice_get, find}
use Rattle.std.specs.Option.{option_map, option_or}
use Rattle.std.proofs.lemmas.Bool.Decides.{nat_tests}
use Rattle.std.proofs.lemmas.List.{get_or_append_left, get_or-append-add, get_or-append_right, length-map}
use Rattle.std.proofs.lemmas.List.Folds.{find-append}
use Rattle.std.proofs.lemmas.Option.{slice_get_within, get_or_from_slice_get, slice_get-map}
use Rattle.alpha_encode.specs.Words.{IsEncodable, word_of}
use Rattle.alpha_encode.specs.declared.instr.AlphaInstr.{AlphaInstr}
use Rattle.alpha_encode.proofs.Reread.{again}
use Rattle.exception_records.specs.Blocks.{BlockValue}
use Rattle.exception_records.specs.Points.{Entry, WordsRise, point_at}
use Rattle.rising_lists.proofs.Lookups.{find_at, find_none}
use Rattle.block_law.specs.Blocks.{IsBlockOf}
use Rattle.block_law.specs.Translations.{fetch_of}
use Rattle.branch_layout.specs.Layouts.{shifted}

-- ---- words
pub fetch_front : (words more : List ℕ) (pc : ℕ) → pc < length words → fetch_of (words ++ more) pc ≡ fetch_of words pc
fetch_front words more pc lt =
    let count = length-append words more in
    let yes : nat_lt pc (length words) ≡ true = grind (arith, nat_tests) in
    let still : nat_lt pc (length (words ++ more)) ≡ true = grind (arith, nat_tests) in
    rw (yes, still, get_or_append_left words more 0 pc lt) refl

pub fetch_back : (words : List ℕ) (instrs : List AlphaInstr) (j : ℕ) (i : AlphaInstr) → slice_get instrs j ≡ Some i → IsEncodable i → fetch_of (words ++ map word_of instrs) (length words + j) ≡ Some i
fetch_back words instrs j i at fits =
    let count = length-append words (map word_of instrs) in
    let count_more = length-map instrs word_of in
    let within = slice_get_within instrs j i at in
    let yes : nat_lt (length words + j) (length (words ++ map word_of instrs)) ≡ true = grind (arith, nat_tests) in
    let its : get_or (map word_of instrs) j 0 ≡ word_of i = get_or_from_slice_get (map word_of instrs) j (word_of i) 0 (slice_get-map word_of instrs j ∙ ap (option_map word_of) at) in
    rw (yes, get_or-append-add words (map word_of instrs) j 0, its) (again i fits)

-- ---- points
abbrev is_at : ℕ → Entry → Bool
is_at word entry = eqb entry.0 word

pub none_from : (bound word : ℕ) (points : List Entry) → All (λ entry. entry.0 < bound) points → bound ≤ word → find (is_at word) points ≡ None
none_from bound word points under le = find_none (λ (p : Entry). p.0) points word (λ k d lt same. let low = under k d lt in absurd (omega arith))

pub none_before : (first word : ℕ) (points : List Entry) → word < first → find (is_at word) (shifted first points) ≡ None
none_before first word points lt = find_none (λ (p : Entry). p.0) (shifted first points) word (λ k d within same. let high = shifted_from first points k d within in absurd (omega arith))
  where
    shifted_from : (first : ℕ) (points : List Entry) (k : ℕ) (d : Entry) → k < length (shifted first points) → first ≤ (get_or (shifted first points) k d).0
    shifted_from first [] k d lt = absurd (omega arith)
    shifted_from first (e ∷ points) zero d lt = omega arith
    shifted_from first (e ∷ points) (suc k) d lt = shifted_from first points k d (omega arith)

pub shifted_find : (first word : ℕ) (points : List Entry) → option_map (λ (p : Entry). p.1) (find (is_at (first + word)) (shifted first points)) ≡ point_at points word
shifted_find first word [] = refl
shifted_find first word (e ∷ points) =
    let same : eqb (first + e.0) (first + word) ≡ eqb e.0 word = grind (arith, nat_tests) in
    rw same (by (eqb e.0 word) (shifted_find first word points))
  where
    by : (b : Bool) → option_map (λ (p : Entry). p.1) (find (is_at (first + word)) (shifted first points)) ≡ point_at points word
        → option_map (λ (p : Entry). p.1) (cond b (Some (first + e.0, e.1)) (find (is_at (first + word)) (shifted first points))) ≡ option_map (λ (p : Entry). p.1) (cond b (Some e) (find (is_at word) points))
    by true rest = refl
    by false rest = rest

pub points_front : (first word : ℕ) (points more : List Entry) → word < first → point_at (points ++ shifted first more) word ≡ point_at points word
points_front first word points more lt =
    ap (option_map (λ (p : Entry). p.1)) (find-append (is_at word) points (shifted first more) ∙ rw (none_before first word more lt) (or_none (find (is_at word) points)))
  where
    or_none : (o : Option Entry) → option_or o None ≡ o
    or_none None = refl
    or_none (Some e) = refl

pub points_back : (first word : ℕ) (points more : List Entry) → All (λ entry. entry.0 < first) points → point_at (points ++ shifted first more) (first + word) ≡ point_at more word
points_back first word points more under =
    ap (option_map (λ (p : Entry). p.1)) (find-append (is_at (first + word)) points (shifted first more) ∙ rw (none_from first (first + word) points under (omega arith)) refl)
    ∙ shifted_find first word more

pub get_shifted : (first : ℕ) (points : List Entry) (k : ℕ) (d e : Entry) → k < length points → (get_or (shifted first points) k d).0 ≡ first + (get_or points k e).0
get_shifted first [] k d e lt = absurd (omega arith)
get_shifted first (p ∷ points) zero d e lt = refl
get_shifted first (p ∷ points) (suc k) d e lt = get_shifted first points k d e (omega arith)

pub shifted_length : (first : ℕ) (points : List Entry) → length (shifted first points) ≡ length points
shifted_length first points = length-map points (λ (entry : Entry). (first + entry.0, entry.1))

-- the points of a block are at its words
pub points_within : (loops : Bool) (address : ℕ) (block : BlockValue) → IsBlockOf loops address block → All (λ entry. entry.0 < length block.words) block.points
points_within loops address block of k d lt =
    let entry = get_or block.points k d in
    let found = find_at (λ (p : Entry). p.0) block.points k entry.0 d of.points_rise lt refl in
    (of.points entry.0 entry.1 (ap (option_map (λ (p : Entry). p.1)) found)).within

-- points go on rising
pub rise_more : (first : ℕ) (points more : List Entry) → All (λ entry. entry.0 < first) points → WordsRise points → WordsRise more → WordsRise (points ++ shifted first more)
rise_more first points more under rise rise' k d lt = by (nat_lt (k + 1) (length points)) refl (nat_lt k (length points)) refl
  where
    count : length (points ++ shifted first more) ≡ length points + length more
    count = length-append points (shifted first more) ∙ ap (λ n. length points + n) (shifted_length first more)

    by : (b : Bool) → nat_lt (k + 1) (length points) ≡ b → (c : Bool) → nat_lt k (length points) ≡ c → (get_or (points ++ shifted first more) k d).0 < (get_or (points ++ shifted first more) (k + 1) d).0
    by true e c f =
        let next_in : k + 1 < length points = ltb-true (k + 1) (length points) e in
        let here : k < length points = omega arith in
        rw (get_or_append_left points (shifted first more) d k here, get_or_append_left points (shifted first more) d (k + 1) next_in) (rise k d next_in)
    by false e true f =
        let here : k < length points = ltb-true k (length points) f in
        let late : length points ≤ k + 1 = ltb-false (k + 1) (length points) e in
        let sum = count in
        let start : k + 1 - length points < length more = omega arith in
        let low = under k d here in
        let high = get_shifted first more (k + 1 - length points) d d start in
        rw (get_or_append_left points (shifted first more) d k here, get_or-append_right points (shifted first more) (length points) (k + 1) d refl late) (omega arith)
    by false e false f =
        let late : length points ≤ k = ltb-false k (length points) f in
        let sum = count in
        let next : k + 1 - length points ≡ k - length points + 1 = omega arith in
        let within : k - length points + 1 < length more = omega arith in
        let low = get_shifted first more (k - length points) d d (omega arith) in
        let high = get_shifted first more (k - length points + 1) d d within in
        let step = rise' (k - length points) d within in
        rw (get_or-append_right points (shifted first more) (length points) k d refl late, get_or-append_right points (shifted first more) (length points) (k + 1) d refl (omega arith), next) (omega arith)
