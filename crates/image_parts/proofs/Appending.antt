-- What holds of the first items of a list holds of one more.
use Rattle.std.proofs.Common.{◌≡◌, ◌<◌, ℕ, ◌+◌, List, [], ◌∷◌, ◌++◌, length, get_or, take, map, sym, ap, subst, ◌∙◌, append_assoc}
use Rattle.std.specs.List.{flat_map, AllByRecursion}
use Rattle.std.proofs.lemmas.List.{take_more, map-append, append-nil, flat_map_more}
use Rattle.std.proofs.lemmas.Grind.{flat_map-append}
use Rattle.image_file.specs.Values.{SectionValue}
use Rattle.image_file.specs.declared.rows.Row.{Row}
use Rattle.image_file.specs.Spelling.{row_of}
use Rattle.image_parts.specs.Parts.{sized}

pub appended_more : {X : Type 0} (write : X → List ℕ) (old out new : List ℕ) (xs : List X) (k : ℕ) (d : X) → k < length xs
    → out ≡ old ++ flat_map write (take k xs) → new ≡ out ++ write (get_or xs k d)
    → new ≡ old ++ flat_map write (take (k + 1) xs)
appended_more write old out new xs k d within before more =
    more ∙ ap (λ o. o ++ write (get_or xs k d)) before ∙ flat_map_more write old (take k xs) (get_or xs k d) ∙ ap (λ ys. old ++ flat_map write ys) (sym (take_more xs k d within))

all_append : {X : Type 0} (P : X → Type 0) (xs : List X) (x : X) → AllByRecursion P xs → P x → AllByRecursion P (xs ++ x ∷ [])
all_append P [] x all here = (here, tt)
all_append P (y ∷ ys) x all here = (all.0, all_append P ys x all.1 here)

pub all_more : {X : Type 0} (P : X → Type 0) (xs : List X) (k : ℕ) (d : X) → k < length xs → AllByRecursion P (take k xs) → P (get_or xs k d) → AllByRecursion P (take (k + 1) xs)
all_more P xs k d within so_far here = subst (AllByRecursion P) (sym (take_more xs k d within)) (all_append P (take k xs) (get_or xs k d) so_far here)

abbrev rows_of : List SectionValue → List Row
rows_of ss = map row_of (map sized ss)

one_more : (ss : List SectionValue) (k : ℕ) (s : SectionValue) → k < length ss → s ≡ get_or ss k s → rows_of (take (k + 1) ss) ≡ rows_of (take k ss) ++ row_of (sized s) ∷ []
one_more ss k s within is =
    ap rows_of (take_more ss k s within ∙ ap (λ t. take k ss ++ t ∷ []) (sym is))
    ∙ ap (map row_of) (map-append sized (take k ss) (s ∷ [])) ∙ map-append row_of (map sized (take k ss)) (sized s ∷ [])

pub rows_more : (write : Row → List ℕ) (old out new : List ℕ) (ss : List SectionValue) (k : ℕ) (s : SectionValue) → k < length ss → s ≡ get_or ss k s
    → out ≡ old ++ flat_map write (rows_of (take k ss)) → new ≡ out ++ write (row_of (sized s))
    → new ≡ old ++ flat_map write (rows_of (take (k + 1) ss))
rows_more write old out new ss k s within is before more =
    let all : flat_map write (rows_of (take (k + 1) ss)) ≡ flat_map write (rows_of (take k ss)) ++ write (row_of (sized s)) =
    ap (flat_map write) (one_more ss k s within is) ∙ flat_map-append write (rows_of (take k ss)) (row_of (sized s) ∷ [])
    ∙ ap (λ rest. flat_map write (rows_of (take k ss)) ++ rest) (append-nil (write (row_of (sized s)))) in
    more ∙ ap (λ o. o ++ write (row_of (sized s))) before ∙ append_assoc old (flat_map write (rows_of (take k ss))) (write (row_of (sized s))) ∙ ap (λ rest. old ++ rest) (sym all)

pub rows_all : (P : Row → Type 0) (ss : List SectionValue) (k : ℕ) (s : SectionValue) → k < length ss → s ≡ get_or ss k s
    → AllByRecursion P (rows_of (take k ss)) → P (row_of (sized s)) → AllByRecursion P (rows_of (take (k + 1) ss))
rows_all P ss k s within is so_far here = subst (AllByRecursion P) (sym (one_more ss k s within is)) (all_append P (rows_of (take k ss)) (row_of (sized s)) so_far here)
