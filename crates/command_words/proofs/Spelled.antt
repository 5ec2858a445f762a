-- clap's rows against the line that the words spell.
use Rattle.std.proofs.Common.{◌≡◌, ◌∙◌, ◌&&◌, not, Bool, cond, true, false, refl, sym, ap, List, [], ◌∷◌, Option, Some, None, option_map, is_some, true≢false}
use Rattle.std.specs.Prelude.{option_and_then}
use Rattle.std.specs.List.{list_all}
use Rattle.std.specs.Str.{bytes_eq}
use Rattle.clap.specs.Walk.{Row}
use Rattle.clap.proofs.WalkLemmas.{both}
use Rattle.command_words.specs.Parts.{Part, Text, choice_of, parts_of, stands_once}
use Rattle.command_words.specs.Forms.{Form, form_line, form_of, line_of}
use Rattle.command_words.specs.App.{HoldsParts, joined, names_id}
use Rattle.command_words.proofs.Walks.{taken_of}
use Rattle.command_words.proofs.Lines.{rows_behind, spelled_rows}
use Rattle.command_words.proofs.Rows.{all_taken, finds_itself, given_names, given_values, known, known_of, less_from, once_from, parts_known, stands_less, taken_values}

-- no option has the id of the names, and no two options have one label
abbrev pub is_good : Form → Bool
is_good f = not (is_some (choice_of f.choices names_id)) && list_all (finds_itself f.choices) f.choices

not_some : {X : Type 0} (o : Option X) → not (is_some o) ≡ true → o ≡ None
not_some None e = refl
not_some (Some x) e = absurd (true≢false (sym e))

module _ (f : Form) (good : is_good f ≡ true) where
  apart : choice_of f.choices names_id ≡ None
  apart = not_some (choice_of f.choices names_id) (both _ _ good).0

  none_taken : (q : Option (List Part)) → ((ps : List Part) → q ≡ Some ps → known f.choices ps ≡ true) → taken_of f.choices q [] ≡ None → form_line f q ≡ None
  none_taken None k e = refl
  none_taken (Some ps) k e = go (list_all (stands_once ps) f.choices) refl
    where
      go : (b : Bool) → list_all (stands_once ps) f.choices ≡ b → cond {A = Option (Form × List Part)} b (Some (f, ps)) None ≡ None
      go false h = refl
      go true h = absurd (true≢false (sym (all_taken f.choices apart ps [] (k ps refl) (less_from f.choices apart ps h)) ∙ ap is_some e))

  some_taken : (q : Option (List Part)) → ((ps : List Part) → q ≡ Some ps → known f.choices ps ≡ true) → (rows : List Row) → taken_of f.choices q [] ≡ Some rows
      → (ps : List Part) × (form_line f q ≡ Some (f, ps)) × HoldsParts ps rows
  some_taken None k rows e = absurd (true≢false (ap (λ (c : Option (List Row)). not (is_some c)) e))
  some_taken (Some ps) k rows e =
      let once = once_from f.choices apart ps (stands_less f.choices apart ps [] rows e) f.choices (both _ _ good).1 in (
        ps,
        rw once refl,
        record {
          names = taken_values f.choices ps [] rows e names_id ∙ ap (joined None) (given_names f.choices apart ps (k ps refl));
          values = λ n z. taken_values f.choices ps [] rows e n ∙ ap (joined None) (given_values f.choices apart n z ps);
        },
      )

  known_parts : (words : List Text) (ps : List Part) → parts_of f.choices words None ≡ Some ps → known f.choices ps ≡ true
  known_parts words ps e = go (parts_of f.choices words None) (parts_known f.choices apart words).0 e
    where
      go : (q : Option (List Part)) → known_of f.choices q ≡ true → q ≡ Some ps → known f.choices ps ≡ true
      go None k e = absurd (true≢false (ap (λ (c : Option (List Part)). not (is_some c)) e))
      go (Some qs) k e = let same : qs ≡ ps = cc in rw (← same) k

  pub no_form : (words : List Text) → rows_behind f words ≡ None → form_line f (parts_of f.choices words None) ≡ None
  no_form words e = none_taken (parts_of f.choices words None) (known_parts words) (none (taken_of f.choices (parts_of f.choices words None) []) e)
    where
      none : (o : Option (List Row)) → option_map {U = Text × List Row} (λ rows. (f.title, rows)) o ≡ None → o ≡ None
      none None e = refl
      none (Some x) e = absurd (true≢false (ap (λ (c : Option (Text × List Row)). is_some c) e))

  pub some_form : (words : List Text) (title : Text) (rows : List Row) → rows_behind f words ≡ Some (title, rows)
      → (ps : List Part) × (form_line f (parts_of f.choices words None) ≡ Some (f, ps)) × (f.title ≡ title) × HoldsParts ps rows
  some_form words title rows e = go (taken_of f.choices (parts_of f.choices words None) []) refl e
    where
      go : (o : Option (List Row)) → taken_of f.choices (parts_of f.choices words None) [] ≡ o → option_map {U = Text × List Row} (λ rows. (f.title, rows)) o ≡ Some (title, rows)
          → (ps : List Part) × (form_line f (parts_of f.choices words None) ≡ Some (f, ps)) × (f.title ≡ title) × HoldsParts ps rows
      go None h e = absurd (true≢false (ap (λ (c : Option (Text × List Row)). not (is_some c)) e))
      go (Some r) h e =
          let pair : ◌≡◌ {A = Text × List Row} (f.title, r) (title, rows) = cc in
          let same : r ≡ rows = ap (λ (q : Text × List Row). q.1) pair in
          let title_is : f.title ≡ title = ap (λ (q : Text × List Row). q.0) pair in
          let t = some_taken (parts_of f.choices words None) (known_parts words) rows (h ∙ ap Some same) in
          (t.0, t.1, title_is, t.2)

-- ---- all forms

good_at : (fs : List Form) → list_all is_good fs ≡ true → (word : Text) (f : Form) → form_of fs word ≡ Some f → is_good f ≡ true
good_at [] all word f e = absurd (true≢false (ap (λ (c : Option Form). not (is_some c)) e))
good_at (x ∷ xs) all word f e = go (bytes_eq x.title word) e (both _ _ all).0 (good_at xs (both _ _ all).1 word f)
  where
    go : (b : Bool) → cond b (Some x) (form_of xs word) ≡ Some f → is_good x ≡ true → (form_of xs word ≡ Some f → is_good f ≡ true) → is_good f ≡ true
    go true e h later = let same : x ≡ f = cc in rw (← same) h
    go false e h later = later e

pub none_spelled : (forms : List Form) → list_all is_good forms ≡ true → (words : List Text) → spelled_rows forms words ≡ None → line_of forms words ≡ None
none_spelled forms good [] e = refl
none_spelled forms good (word ∷ words) e = go (form_of forms word) refl e
  where
    go : (c : Option Form) → form_of forms word ≡ c → option_and_then (λ f. rows_behind f words) c ≡ None
        → option_and_then (λ f. form_line f (parts_of f.choices words None)) c ≡ None
    go None f e = refl
    go (Some f) h e = no_form f (good_at forms good word f h) words e

pub some_spelled : (forms : List Form) → list_all is_good forms ≡ true → (words : List Text) (title : Text) (rows : List Row) → spelled_rows forms words ≡ Some (title, rows)
    → (f : Form) × (ps : List Part) × (line_of forms words ≡ Some (f, ps)) × (f.title ≡ title) × HoldsParts ps rows
some_spelled forms good [] title rows e = absurd (true≢false (ap (λ (c : Option (Text × List Row)). not (is_some c)) e))
some_spelled forms good (word ∷ words) title rows e = go (form_of forms word) refl e
  where
    go : (c : Option Form) → form_of forms word ≡ c → option_and_then (λ f. rows_behind f words) c ≡ Some (title, rows)
        → (f : Form) × (ps : List Part) × (option_and_then (λ f. form_line f (parts_of f.choices words None)) c ≡ Some (f, ps)) × (f.title ≡ title) × HoldsParts ps rows
    go None f e = absurd (true≢false (ap (λ (c : Option (Text × List Row)). not (is_some c)) e))
    go (Some f) h e =
        let t = some_form f (good_at forms good word f h) words title rows e in
        (f, t.0, t.1, t.2, t.3)
