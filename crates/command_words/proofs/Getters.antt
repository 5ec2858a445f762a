-- What the getters give, by the parts of the words.
use Rattle.std.proofs.Common.{◌≡◌, ◌∙◌, arith, false, refl, sym, ap, List, [], ◌∷◌, map, length, Option, Some, None, option_map, is_some, find, true≢false}
use Rattle.std.specs.Prelude.{slice_get, option_and_then}
use Rattle.std.specs.Str.{bytes_eq}
use Rattle.std.specs.Borrow.{Bor}
use Rattle.std.specs.List.{slice_index_or}
use Rattle.clap.specs.Walk.{Row, all_of}
use Rattle.clap.specs.Walk.{first_of as first_in_rows}
use Rattle.clap.proofs.WalkLemmas.{raw_values-rows}
use Rattle.clap.specs.Words.{matched_of, raw_values, rows_of}
use Rattle.clap.specs.declared.parser.matches.Found.{Found}
use Rattle.command_words.specs.Parts.{Part, Text, first_of, names_in, only_name, two_names, values_in}
use Rattle.command_words.specs.App.{HoldsParts, joined, names_id}

-- ---- the first value

first_of_all : (id : Text) (rows : List Row) → first_in_rows id rows ≡ option_and_then (λ vs. slice_get vs 0) (all_of id rows)
first_of_all id rows = go (find (λ (r : Row). bytes_eq r.id id) rows)
  where
    go : (o : Option Row) → option_and_then (λ (r : Row). slice_get r.values 0) o ≡ option_and_then (λ (vs : List Text). slice_get vs 0) (option_map (λ (r : Row). r.values) o)
    go None = refl
    go (Some r) = refl

first_joined : (vs : List Text) → option_and_then (λ (xs : List Text). slice_get xs 0) (joined None vs) ≡ first_of vs
first_joined [] = refl
first_joined (v ∷ vs) = refl

pub first_value_is : (ps : List Part) (rows : List Row) (label : Text) → HoldsParts ps rows → bytes_eq names_id label ≡ false → first_in_rows label rows ≡ first_of (values_in label ps)
first_value_is ps rows label holds apart =
    first_of_all label rows ∙ ap (option_and_then (λ (xs : List Text). slice_get xs 0)) (holds.values label apart) ∙ first_joined (values_in label ps)

-- ---- the names

pub some_names : (xs names : List Text) → Some xs ≡ joined None names → names ≡ xs
some_names xs [] e = absurd (true≢false (ap (λ (o : Option (List Text)). is_some o) e))
some_names xs (y ∷ ys) e = cc

pub no_names : (names : List Text) → None ≡ joined None names → names ≡ []
no_names [] e = refl
no_names (y ∷ ys) e = absurd (true≢false (sym (ap (λ (o : Option (List Text)). is_some o) e)))

-- ---- all values

pub names_given : (f : Found) (ps : List Part) (o : Option (List Text)) → o ≡ option_map raw_values (matched_of f names_id) → HoldsParts ps (rows_of f) → o ≡ joined None (names_in ps)
names_given f ps o e holds = e ∙ raw_values-rows f names_id ∙ holds.names

pub values_given : (f : Found) (ps : List Part) (label : Text) (o : Option (List Text)) → bytes_eq names_id label ≡ false → o ≡ option_map raw_values (matched_of f label)
    → HoldsParts ps (rows_of f) → o ≡ joined None (values_in label ps)
values_given f ps label o apart e holds = e ∙ raw_values-rows f label ∙ holds.values label apart

abbrev pub texts : List (Bor Text) → List Text
texts = map (λ s. s.now)

-- ---- so many names

pub one_name : (xs : List (Bor Text)) (names : List Text) (d : Bor Text) → length xs ≡ 1 → names ≡ texts xs → Some (slice_index_or xs 0 d).now ≡ only_name names
one_name [] names d n e = absurd (omega arith)
one_name (x ∷ []) names d n e = rw e refl
one_name (x ∷ y ∷ xs) names d n e = absurd (omega arith)

pub not_one : (xs : List (Bor Text)) (names : List Text) → (length xs ≡ 1 → ⊥) → names ≡ texts xs → None ≡ only_name names
not_one [] names n e = rw e refl
not_one (x ∷ []) names n e = absurd (n refl)
not_one (x ∷ y ∷ xs) names n e = rw e refl

pub both_names : (xs : List (Bor Text)) (names : List Text) (d : Bor Text) → length xs ≡ 2 → names ≡ texts xs
    → ◌≡◌ {A = Option (Text × Text)} (Some ((slice_index_or xs 0 d).now, (slice_index_or xs 1 d).now)) (two_names names)
both_names [] names d n e = absurd (omega arith)
both_names (x ∷ []) names d n e = absurd (omega arith)
both_names (x ∷ y ∷ []) names d n e = rw e refl
both_names (x ∷ y ∷ z ∷ xs) names d n e = absurd (omega arith)

pub not_two : (xs : List (Bor Text)) (names : List Text) → (length xs ≡ 2 → ⊥) → names ≡ texts xs → None ≡ two_names names
not_two [] names n e = rw e refl
not_two (x ∷ []) names n e = rw e refl
not_two (x ∷ y ∷ []) names n e = absurd (n refl)
not_two (x ∷ y ∷ z ∷ xs) names n e = rw e refl
