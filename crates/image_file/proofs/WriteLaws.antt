-- Parts appended one after the other.
use mir.Val.{bool_byte}
use Rattle.std.proofs.Common.{false, cond, ◌≡◌, ◌<◌, ◌^◌, ℕ, zero, suc, ◌+◌, Bool, true, List, [], ◌∷◌, ◌++◌, length, get_or, take, refl, sym, ap, ◌∙◌, arith, append_assoc, map}
use Rattle.std.specs.List.{flat_map, list_all, AllByRecursion}
use Rattle.std.proofs.lemmas.List.{take_more, map-append, append-nil}
use Rattle.std.proofs.lemmas.Grind.{flat_map-append}
use Rattle.image_file.specs.Values.{SectionValue}
use Rattle.image_file.specs.Rows.{is_sound}
use Rattle.image_file.specs.Spelling.{row_of, row_bytes}
use Rattle.image_file.proofs.ListLaws.{each_passes}

pub four_parts : (o a b c d : List ℕ) → o ++ a ++ b ++ c ++ d ≡ o ++ (a ++ b ++ c ++ d)
four_parts o a b c d = simp append_assoc

pub five_parts : (o a b c d e : List ℕ) → o ++ a ++ b ++ c ++ d ++ e ≡ o ++ (a ++ b ++ c ++ d ++ e)
five_parts o a b c d e = simp append_assoc

all_sound : (ss : List SectionValue) (n : ℕ) (d : SectionValue) → AllByRecursion (λ r. is_sound r ≡ true) (map row_of ss) → n < length ss → is_sound (row_of (get_or ss n d)) ≡ true
all_sound [] n d all inside = absurd (omega arith)
all_sound (s ∷ ss) zero d all inside = all.0
all_sound (s ∷ ss) (suc n) d all inside = all_sound ss n d all.1 (omega arith)

pub sound_at : (sections : List SectionValue) (k : ℕ) (s : SectionValue) → list_all is_sound (map row_of sections) ≡ true → k < length sections → s ≡ get_or sections k s → is_sound (row_of s) ≡ true
sound_at sections k s sound within is = ap (λ (t : SectionValue). is_sound (row_of t)) is ∙ all_sound sections k s (each_passes is_sound (map row_of sections) sound) within

pub rows_more : (old out new : List ℕ) (sections : List SectionValue) (k : ℕ) (s : SectionValue) → k < length sections → s ≡ get_or sections k s
    → out ≡ old ++ flat_map row_bytes (map row_of (take k sections)) → new ≡ out ++ row_bytes (row_of s)
    → new ≡ old ++ flat_map row_bytes (map row_of (take (k + 1) sections))
rows_more old out new sections k s within is before more =
    let bytes : List SectionValue → List ℕ = λ ss. flat_map row_bytes (map row_of ss) in
    let last : take (k + 1) sections ≡ take k sections ++ s ∷ [] = take_more sections k s within ∙ ap (λ t. take k sections ++ t ∷ []) (sym is) in
    let all : bytes (take (k + 1) sections) ≡ bytes (take k sections) ++ row_bytes (row_of s) =
    ap bytes last ∙ ap (λ rs. flat_map row_bytes rs) (map-append row_of (take k sections) (s ∷ [])) ∙ flat_map-append row_bytes (map row_of (take k sections)) (row_of s ∷ [])
    ∙ ap (λ rest. bytes (take k sections) ++ rest) (append-nil (row_bytes (row_of s))) in
    more ∙ ap (λ o. o ++ row_bytes (row_of s)) before ∙ append_assoc old (bytes (take k sections)) (row_bytes (row_of s)) ∙ ap (λ rest. old ++ rest) (sym all)

pub all_long : (numbers : List ℕ) → ((k : ℕ) → get_or numbers k 0 < 2 ^ 32) → AllByRecursion (λ (n : ℕ). n < 2 ^ 32) numbers
all_long [] each = tt
all_long (n ∷ ns) each = (each 0, all_long ns (λ k. each (suc k)))

-- a truth value as a number
pub flag_byte : (b : Bool) → bool_byte b ≡ cond b 1 0
flag_byte true = refl
flag_byte false = refl
