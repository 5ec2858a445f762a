-- What the rows of clap's matches hold, by the parts of the words.
use Rattle.std.proofs.Common.{◌≡◌, ◌∙◌, ◌&&◌, ◌||◌, ◌+◌, ◌≤◌, ◌<◌, not, ℕ, Bool, cond, true, false, refl, sym, ap, subst, arith, List, [], ◌∷◌, ◌++◌, map, length, append_assoc, Option, Some, None, option_map, is_some, find, nat_lt, unwrap_or, ltb-true, lt-ltb, true≢false}
use Rattle.std.specs.List.{list_all}
use Rattle.std.specs.Option.{option_map_or}
use Rattle.std.specs.Str.{bytes_eq}
use Rattle.std.proofs.lemmas.Slice.Eq.{bytes_eq-Decides}
use Rattle.clap.specs.Walk.{Row, all_of, has_row, used, used_as, with_values, without, reading_by}
use Rattle.clap.specs.declared.builder.action.ArgAction.TheVariants.{Set, Append}
use Rattle.clap.specs.declared.builder.value_parser.Reading.{Reading}
use Rattle.clap.specs.declared.parser.matches.ValueSource.{ValueSource}
use Rattle.clap.specs.declared.parser.matches.ValueSource.TheVariants.{CommandLine}
use Rattle.clap.proofs.WalkLemmas.{both}
use Rattle.command_words.specs.Parts.{Choice, Part, Text, choice_of, choice_parts, chosen, named, names_in, parts_of, stands_once, values_in, is_dashed, option_parts, option_word, with_part, word_parts}
use Rattle.command_words.specs.App.{joined, names_id}
use Rattle.command_words.proofs.Walks.{choice_rule, chosen_rows, fresh, names_rule, taken, when}

eq_true : (a b : Text) → a ≡ b → bytes_eq a b ≡ true
eq_true a b e = (bytes_eq-Decides a b).1 e

eq_from : (a b : Text) → bytes_eq a b ≡ true → a ≡ b
eq_from a b e = (bytes_eq-Decides a b).0 e

-- the values of an id after one more use
abbrev pub more : Bool → Option (List Text) → List Text → Option (List Text)
more b o values = cond b (Some (unwrap_or o [] ++ values)) o

pub all_of-with_values : (id n : Text) (how : Reading) (s : ValueSource) (values : List Text) (rows : List Row)
    → all_of id (with_values n how s values rows) ≡ more (bytes_eq n id) (all_of id rows) values
all_of-with_values id n how s values [] = go (bytes_eq n id)
  where
    go : (b : Bool) → option_map (λ (r : Row). r.values) (cond b (Some (record { id = n; values = values; count = None; source = Some s; reading = how })) None) ≡ more b None values
    go true = refl
    go false = refl
all_of-with_values id n how s values (r ∷ rs) = go (bytes_eq r.id n) refl (all_of-with_values id n how s values rs)
  where
    head : (q : Row) → q.values ≡ r.values ++ values → (x y : Bool) → x ≡ y
        → option_map (λ (z : Row). z.values) (cond x (Some q) (find (λ z. bytes_eq z.id id) rs)) ≡ more y (option_map (λ (z : Row). z.values) (cond x (Some r) (find (λ z. bytes_eq z.id id) rs))) values
    head q e true true f = ap Some e
    head q e false false f = refl
    head q e true false f = absurd (true≢false f)
    head q e false true f = absurd (true≢false (sym f))

    tail : (x y : Bool) → (x ≡ true → y ≡ false) → all_of id (with_values n how s values rs) ≡ more y (all_of id rs) values
        → option_map (λ (q : Row). q.values) (cond x (Some r) (find (λ q. bytes_eq q.id id) (with_values n how s values rs))) ≡ more y (option_map (λ (q : Row). q.values) (cond x (Some r) (find (λ q. bytes_eq q.id id) rs))) values
    tail true y apart e = rw (apart refl) refl
    tail false y apart e = e

    other : bytes_eq r.id n ≡ false → bytes_eq r.id id ≡ true → (b : Bool) → bytes_eq n id ≡ b → b ≡ false
    other f g false h = refl
    other f g true h = absurd (true≢false (sym (eq_true r.id n (eq_from r.id id g ∙ sym (eq_from n id h))) ∙ f))

    go : (b : Bool) → bytes_eq r.id n ≡ b → all_of id (with_values n how s values rs) ≡ more (bytes_eq n id) (all_of id rs) values
        → all_of id (with_values n how s values (r ∷ rs)) ≡ more (bytes_eq n id) (all_of id (r ∷ rs)) values
    go true f e = rw f (head _ refl (bytes_eq r.id id) (bytes_eq n id) (ap (λ x. bytes_eq x id) (eq_from r.id n f)))
    go false f e = rw f (tail (bytes_eq r.id id) (bytes_eq n id) (λ g. other f g (bytes_eq n id) refl) e)

pub has_row-all_of : (id : Text) (rows : List Row) → has_row id rows ≡ is_some (all_of id rows)
has_row-all_of id [] = refl
has_row-all_of id (r ∷ rs) = go (bytes_eq r.id id) (has_row-all_of id rs)
  where
    go : (b : Bool) → has_row id rs ≡ is_some (all_of id rs) → (b || has_row id rs) ≡ is_some (option_map (λ (q : Row). q.values) (cond b (Some r) (find (λ q. bytes_eq q.id id) rs)))
    go true e = refl
    go false e = e

without_none : (id : Text) (rows : List Row) → has_row id rows ≡ false → without id rows ≡ rows
without_none id [] e = refl
without_none id (r ∷ rs) e = go (bytes_eq r.id id) e (without_none id rs)
  where
    go : (b : Bool) → (b || has_row id rs) ≡ false → (has_row id rs ≡ false → without id rs ≡ rs) → cond b rs (r ∷ without id rs) ≡ r ∷ rs
    go true e later = absurd (true≢false e)
    go false e later = ap (λ xs. r ∷ xs) (later e)

pub all_of-used : (o : Choice) (v : Text) (rows : List Row) (id : Text) → fresh o rows ≡ true
    → all_of id (used (choice_rule o) (v ∷ []) rows) ≡ more (bytes_eq o.label id) (all_of id rows) (v ∷ [])
all_of-used o v rows id e = go o.repeats e
  where
    none : (b : Bool) → not b ≡ true → b ≡ false
    none false e = refl
    none true e = absurd (true≢false (sym e))

    go : (b : Bool) → (b || not (has_row o.label rows)) ≡ true
        → all_of id (used_as (cond b Append Set) o.label (reading_by (choice_rule o)) (v ∷ []) rows) ≡ more (bytes_eq o.label id) (all_of id rows) (v ∷ [])
    go true e = all_of-with_values id o.label _ _ (v ∷ []) rows
    go false e = ap (λ rs. all_of id (with_values o.label (reading_by (choice_rule o)) CommandLine (v ∷ []) rs)) (without_none o.label rows (none (has_row o.label rows) e)) ∙ all_of-with_values id o.label _ _ (v ∷ []) rows

pub all_of-used_name : (v : Text) (rows : List Row) (id : Text) → all_of id (used names_rule (v ∷ []) rows) ≡ more (bytes_eq names_id id) (all_of id rows) (v ∷ [])
all_of-used_name v rows id = all_of-with_values id names_id _ _ (v ∷ []) rows

some_more : (b : Bool) (o : Option (List Text)) (values : List Text) → is_some (more b o values) ≡ (b || is_some o)
some_more true o values = refl
some_more false o values = refl

has_row-used : (o : Choice) (v : Text) (rows : List Row) (id : Text) → fresh o rows ≡ true → has_row id (used (choice_rule o) (v ∷ []) rows) ≡ (bytes_eq o.label id || has_row id rows)
has_row-used o v rows id e =
    has_row-all_of id (used (choice_rule o) (v ∷ []) rows) ∙ ap is_some (all_of-used o v rows id e) ∙ some_more (bytes_eq o.label id) (all_of id rows) (v ∷ [])
    ∙ ap (λ b. bytes_eq o.label id || b) (sym (has_row-all_of id rows))

has_row-used_name : (v : Text) (rows : List Row) (id : Text) → has_row id (used names_rule (v ∷ []) rows) ≡ (bytes_eq names_id id || has_row id rows)
has_row-used_name v rows id =
    has_row-all_of id (used names_rule (v ∷ []) rows) ∙ ap is_some (all_of-used_name v rows id) ∙ some_more (bytes_eq names_id id) (all_of id rows) (v ∷ [])
    ∙ ap (λ b. bytes_eq names_id id || b) (sym (has_row-all_of id rows))

-- ---- the values of an id in the parts

abbrev pub given_in : Text → List Part → List Text
given_in id [] = []
given_in id (named word ∷ rest) = cond (bytes_eq names_id id) (word ∷ given_in id rest) (given_in id rest)
given_in id (chosen label v ∷ rest) = cond (bytes_eq label id) (v ∷ given_in id rest) (given_in id rest)

join_more : (b : Bool) (o : Option (List Text)) (v : Text) (rest : List Text) → joined (more b o (v ∷ [])) rest ≡ joined o (cond b (v ∷ rest) rest)
join_more false o v rest = refl
join_more true o v [] = refl
join_more true o v (x ∷ xs) = ap Some (append_assoc (unwrap_or o []) (v ∷ []) (x ∷ xs))

found_choice : (xs : List Choice) (n : Text) (o : Choice) → choice_of xs n ≡ Some o → o.label ≡ n
found_choice [] n o e = absurd (true≢false (ap (λ (c : Option Choice). not (is_some c)) e))
found_choice (x ∷ xs) n o e = go (bytes_eq x.label n) refl e (found_choice xs n o)
  where
    go : (b : Bool) → bytes_eq x.label n ≡ b → cond b (Some x) (choice_of xs n) ≡ Some o → (choice_of xs n ≡ Some o → o.label ≡ n) → o.label ≡ n
    go true f e later = let same : x ≡ o = cc in rw (← same) (eq_from x.label n f)
    go false f e later = later e

module _ (os : List Choice) where
  -- what the rows hold once all the parts are taken
  pub taken_values : (ps : List Part) (rows final : List Row) → taken os ps rows ≡ Some final → (id : Text) → all_of id final ≡ joined (all_of id rows) (given_in id ps)
  unfolding taken
  taken_values [] rows final e id = let same : rows ≡ final = cc in rw (← same) refl
  taken_values (named word ∷ ps) rows final e id =
      taken_values ps (used names_rule (word ∷ []) rows) final e id
      ∙ ap (λ o. joined o (given_in id ps)) (all_of-used_name word rows id) ∙ join_more (bytes_eq names_id id) (all_of id rows) word (given_in id ps)
  taken_values (chosen label v ∷ ps) rows final e id = go (choice_of os label) refl e (λ (o : Choice). taken_values ps (used (choice_rule o) (v ∷ []) rows) final)
    where
      one : (o : Choice) → choice_of os label ≡ Some o → (b : Bool) → fresh o rows ≡ b → when b (taken os ps (used (choice_rule o) (v ∷ []) rows)) ≡ Some final
          → (taken os ps (used (choice_rule o) (v ∷ []) rows) ≡ Some final → (i : Text) → all_of i final ≡ joined (all_of i (used (choice_rule o) (v ∷ []) rows)) (given_in i ps))
          → all_of id final ≡ joined (all_of id rows) (given_in id (chosen label v ∷ ps))
      one o f false g e later = absurd (true≢false (ap (λ (c : Option (List Row)). not (is_some c)) e))
      one o f true g e later =
          later e id ∙ ap (λ c. joined c (given_in id ps)) (all_of-used o v rows id g) ∙ join_more (bytes_eq o.label id) (all_of id rows) v (given_in id ps)
          ∙ ap (λ n. joined (all_of id rows) (cond (bytes_eq n id) (v ∷ given_in id ps) (given_in id ps))) (found_choice os label o f)

      go : (c : Option Choice) → choice_of os label ≡ c → chosen_rows c v rows (taken os ps) ≡ Some final
          → ((o : Choice) → taken os ps (used (choice_rule o) (v ∷ []) rows) ≡ Some final → (i : Text) → all_of i final ≡ joined (all_of i (used (choice_rule o) (v ∷ []) rows)) (given_in i ps))
          → all_of id final ≡ joined (all_of id rows) (given_in id (chosen label v ∷ ps))
      go None f e later = absurd (true≢false (ap (λ (c : Option (List Row)). not (is_some c)) e))
      go (Some o) f e later = one o f (fresh o rows) refl e (later o)

  -- ---- an option that may not repeat stands once

  -- how often the id stands in the rows: not at all, or at least once
  abbrev held_once : Text → List Row → ℕ
  held_once id rows = cond (has_row id rows) 1 0

  abbrev pub StandsLess : List Part → List Row → Type 0
  StandsLess ps rows = (n : Text) (o : Choice) → choice_of os n ≡ Some o → o.repeats ≡ false → length (given_in n ps) + held_once n rows ≤ 1

  held_small : (id : Text) (rows : List Row) → held_once id rows ≤ 1
  held_small id rows = go (has_row id rows)
    where
      go : (b : Bool) → cond b 1 0 ≤ 1
      go true = omega arith
      go false = omega arith

  abbrev apart_from : Text → Bool
  apart_from n = not (bytes_eq names_id n)

  -- no name is counted as the value of an option
  names_apart : choice_of os names_id ≡ None → (n : Text) (o : Choice) → choice_of os n ≡ Some o → bytes_eq names_id n ≡ false
  names_apart apart n o f = go (bytes_eq names_id n) refl
    where
      go : (b : Bool) → bytes_eq names_id n ≡ b → b ≡ false
      go false e = refl
      go true e = absurd (true≢false (sym (ap is_some (sym apart ∙ ap (choice_of os) (eq_from names_id n e) ∙ f))))

  -- each option among the parts is one of the command's
  abbrev pub known : List Part → Bool
  known [] = true
  known (named word ∷ ps) = known ps
  known (chosen label v ∷ ps) = is_some (choice_of os label) && known ps

  abbrev pub finds_itself : Choice → Bool
  finds_itself o = option_map_or (λ (q : Choice). cond o.repeats true (not q.repeats)) (choice_of os o.label) false

  abbrev pub known_of : Option (List Part) → Bool
  known_of None = true
  known_of (Some ps) = known ps

  abbrev pub KnownRest : (Option Text → Option (List Part)) → Type 0
  KnownRest rest = (known_of (rest None) ≡ true) × ((label : Text) → is_some (choice_of os label) ≡ true → known_of (rest (Some label)) ≡ true)

  module _ (apart : choice_of os names_id ≡ None) where
    name_step : (word : Text) (ps : List Part) (rows : List Row) (n : Text) (o : Choice) → choice_of os n ≡ Some o
        → length (given_in n (named word ∷ ps)) + held_once n rows ≡ length (given_in n ps) + held_once n (used names_rule (word ∷ []) rows)
    name_step word ps rows n o f =
        let z = names_apart apart n o f in
        rw (has_row-used_name word rows n, z) refl

    -- what one use of an option adds to the count of an option that may not repeat
    choice_step : (label v : Text) (q : Choice) (ps : List Part) (rows : List Row) → choice_of os label ≡ Some q → fresh q rows ≡ true → (n : Text) (o : Choice) → choice_of os n ≡ Some o → o.repeats ≡ false
        → length (given_in n (chosen label v ∷ ps)) + held_once n rows ≡ length (given_in n ps) + held_once n (used (choice_rule q) (v ∷ []) rows)
    choice_step label v q ps rows f g n o h once = go (bytes_eq label n) refl
      where
        label_is : q.label ≡ label
        label_is = found_choice os label q f

        none : (b : Bool) → (false || not b) ≡ true → b ≡ false
        none false e = refl
        none true e = absurd (true≢false (sym e))

        go : (b : Bool) → bytes_eq label n ≡ b
            → length (given_in n (chosen label v ∷ ps)) + held_once n rows ≡ length (given_in n ps) + held_once n (used (choice_rule q) (v ∷ []) rows)
        go false e = rw (has_row-used q v rows n g, label_is, e) refl
        go true e =
            let same : label ≡ n = eq_from label n e in
            let both_some : Some q ≡ Some o = sym f ∙ ap (choice_of os) same ∙ h in
            let q_is : q ≡ o = cc in
            let q_once : q.repeats ≡ false = ap (λ (x : Choice). x.repeats) q_is ∙ once in
            let unused : has_row q.label rows ≡ false = none (has_row q.label rows) (ap (λ b. b || not (has_row q.label rows)) (sym q_once) ∙ g) in
            let unused_n : has_row n rows ≡ false = ap (λ t. has_row t rows) (sym same ∙ sym label_is) ∙ unused in
            rw (has_row-used q v rows n g, label_is, e, unused_n) (omega arith)

    pub stands_less : (ps : List Part) (rows final : List Row) → taken os ps rows ≡ Some final → StandsLess ps rows
    unfolding taken
    stands_less [] rows final e n o f once = let small : held_once n rows ≤ 1 = held_small n rows in omega arith
    stands_less (named word ∷ ps) rows final e n o f once =
        let later : length (given_in n ps) + held_once n (used names_rule (word ∷ []) rows) ≤ 1 = stands_less ps (used names_rule (word ∷ []) rows) final e n o f once in
        subst (λ k. k ≤ 1) (sym (name_step word ps rows n o f)) later
    stands_less (chosen label v ∷ ps) rows final e n o f once = go (choice_of os label) refl e (λ (q : Choice). stands_less ps (used (choice_rule q) (v ∷ []) rows) final)
      where
        one : (q : Choice) → choice_of os label ≡ Some q → (b : Bool) → fresh q rows ≡ b → when b (taken os ps (used (choice_rule q) (v ∷ []) rows)) ≡ Some final
            → (taken os ps (used (choice_rule q) (v ∷ []) rows) ≡ Some final → StandsLess ps (used (choice_rule q) (v ∷ []) rows))
            → length (given_in n (chosen label v ∷ ps)) + held_once n rows ≤ 1
        one q g false h e later = absurd (true≢false (ap (λ (c : Option (List Row)). not (is_some c)) e))
        one q g true h e later = subst (λ k. k ≤ 1) (sym (choice_step label v q ps rows g h n o f once)) (later e n o f once)

        go : (c : Option Choice) → choice_of os label ≡ c → chosen_rows c v rows (taken os ps) ≡ Some final
            → ((q : Choice) → taken os ps (used (choice_rule q) (v ∷ []) rows) ≡ Some final → StandsLess ps (used (choice_rule q) (v ∷ []) rows))
            → length (given_in n (chosen label v ∷ ps)) + held_once n rows ≤ 1
        go None g e later = absurd (true≢false (ap (λ (c : Option (List Row)). not (is_some c)) e))
        go (Some q) g e later = one q g (fresh q rows) refl e (later q)

    fresh_from : (label v : Text) (q : Choice) (ps : List Part) (rows : List Row) → choice_of os label ≡ Some q → StandsLess (chosen label v ∷ ps) rows → fresh q rows ≡ true
    fresh_from label v q ps rows f less = go q.repeats refl (has_row q.label rows) refl
      where
        label_is : q.label ≡ label
        label_is = found_choice os label q f

        go : (b : Bool) → q.repeats ≡ b → (h : Bool) → has_row q.label rows ≡ h → (b || not h) ≡ true
        go true e h g = refl
        go false e false g = refl
        go false e true g =
            let count : length (given_in label (chosen label v ∷ ps)) + held_once label rows ≤ 1 = less label q f e in
            let held : has_row label rows ≡ true = ap (λ t. has_row t rows) (sym label_is) ∙ g in
            let shown = rw (eq_true label label refl, held) at count in
            absurd (omega arith)

    pub all_taken : (ps : List Part) (rows : List Row) → known ps ≡ true → StandsLess ps rows → is_some (taken os ps rows) ≡ true
    unfolding taken
    all_taken [] rows k less = refl
    all_taken (named word ∷ ps) rows k less =
        all_taken ps (used names_rule (word ∷ []) rows) k (λ n o f once. subst (λ c. c ≤ 1) (name_step word ps rows n o f) (less n o f once))
    all_taken (chosen label v ∷ ps) rows k less = go (choice_of os label) refl (both _ _ k).0 (λ (q : Choice). all_taken ps (used (choice_rule q) (v ∷ []) rows) (both _ _ k).1)
      where
        go : (c : Option Choice) → choice_of os label ≡ c → is_some c ≡ true
            → ((q : Choice) → StandsLess ps (used (choice_rule q) (v ∷ []) rows) → is_some (taken os ps (used (choice_rule q) (v ∷ []) rows)) ≡ true)
            → is_some (chosen_rows c v rows (taken os ps)) ≡ true
        go None g e later = absurd (true≢false (sym e))
        go (Some q) g e later =
            let new = fresh_from label v q ps rows g less in
            ap (λ b. is_some (when b (taken os ps (used (choice_rule q) (v ∷ []) rows)))) new
            ∙ later q (λ n o f once. subst (λ c. c ≤ 1) (choice_step label v q ps rows g new n o f once) (less n o f once))

    -- ---- the parts of words

    known_named : (word : Text) (q : Option (List Part)) → known_of q ≡ true → known_of (with_part (named word) q) ≡ true
    known_named word None e = refl
    known_named word (Some ps) e = e

    known_chosen : (label v : Text) (q : Option (List Part)) → is_some (choice_of os label) ≡ true → known_of q ≡ true → known_of (with_part (chosen label v) q) ≡ true
    known_chosen label v None f e = refl
    known_chosen label v (Some ps) f e = rw f e

    known_names : (words : List Text) → known (map named words) ≡ true
    known_names [] = refl
    known_names (word ∷ words) = known_names words

    known_option : (p : Text × Option Text) (rest : Option Text → Option (List Part)) → KnownRest rest → known_of (option_parts os p rest) ≡ true
    known_option (label, v) rest k = go (choice_of os label) refl v
      where
        given : is_some (choice_of os label) ≡ true → (v : Text) → (b : Bool) → known_of (cond b (with_part (chosen label v) (rest None)) None) ≡ true
        given e v false = refl
        given e v true = known_chosen label v (rest None) e k.0

        asked : is_some (choice_of os label) ≡ true → (b : Bool) → known_of (cond b (rest (Some label)) (with_part (chosen label []) (rest None))) ≡ true
        asked e false = known_chosen label [] (rest None) e k.0
        asked e true = k.1 label e

        go : (c : Option Choice) → choice_of os label ≡ c → (v : Option Text) → known_of (choice_parts c label v rest) ≡ true
        go None e v = refl
        go (Some o) e (Some v) = given (ap is_some e) v o.has_value
        go (Some o) e None = asked (ap is_some e) o.has_value

    known_word : (word : Text) (p : Option (Text × Option Text)) (rest : Option Text → Option (List Part)) → KnownRest rest → known_of (word_parts os word p rest) ≡ true
    known_word word (Some p) rest k = known_option p rest k
    known_word word None rest k = go (is_dashed word)
      where
        go : (b : Bool) → known_of (cond b None (with_part (named word) (rest None))) ≡ true
        go true = refl
        go false = known_named word (rest None) k.0

    pub parts_known : (words : List Text) → KnownRest (parts_of os words)
    unfolding parts_of
    parts_known [] = (refl, λ label e. refl)
    parts_known (word ∷ words) =
        let k = parts_known words in
        (idle (bytes_eq word (45 ∷ 45 ∷ [])) k, λ label e. asking label e (is_dashed word) k)
      where
        idle : (b : Bool) → KnownRest (parts_of os words) → known_of (cond b (Some (map named words)) (word_parts os word (option_word word) (parts_of os words))) ≡ true
        idle true k = known_names words
        idle false k = known_word word (option_word word) (parts_of os words) k

        asking : (label : Text) → is_some (choice_of os label) ≡ true → (b : Bool) → KnownRest (parts_of os words) → known_of (cond b None (with_part (chosen label word) (parts_of os words None))) ≡ true
        asking label e true k = refl
        asking label e false k = known_chosen label word (parts_of os words None) e k.0

    -- ---- the values of the parts

    pub given_values : (n : Text) → bytes_eq names_id n ≡ false → (ps : List Part) → given_in n ps ≡ values_in n ps
    given_values n e [] = refl
    given_values n e (named word ∷ ps) = rw e (given_values n e ps)
    given_values n e (chosen label v ∷ ps) = ap (λ vs. cond (bytes_eq label n) (v ∷ vs) vs) (given_values n e ps)

    pub given_names : (ps : List Part) → known ps ≡ true → given_in names_id ps ≡ names_in ps
    given_names [] k = refl
    given_names (named word ∷ ps) k = ap (λ vs. word ∷ vs) (given_names ps k)
    given_names (chosen label v ∷ ps) k =
        go (bytes_eq label names_id) refl ∙ given_names ps (both _ _ k).1
      where
        go : (b : Bool) → bytes_eq label names_id ≡ b → cond b (v ∷ given_in names_id ps) (given_in names_id ps) ≡ given_in names_id ps
        go false e = refl
        go true e = absurd (true≢false (sym (both _ _ k).0 ∙ ap (λ t. is_some (choice_of os t)) (eq_from label names_id e) ∙ ap is_some apart))

    -- ---- the two tests agree

    pub passes_at : (p : Choice → Bool) (xs : List Choice) → list_all p xs ≡ true → (n : Text) (o : Choice) → choice_of xs n ≡ Some o → p o ≡ true
    passes_at p [] all n o e = absurd (true≢false (ap (λ (c : Option Choice). not (is_some c)) e))
    passes_at p (x ∷ xs) all n o e = go (bytes_eq x.label n) e (both _ _ all).0 (passes_at p xs (both _ _ all).1 n o)
      where
        go : (b : Bool) → cond b (Some x) (choice_of xs n) ≡ Some o → p x ≡ true → (choice_of xs n ≡ Some o → p o ≡ true) → p o ≡ true
        go true e h later = let same : x ≡ o = cc in rw (← same) h
        go false e h later = later e

    pub less_from : (ps : List Part) → list_all (stands_once ps) os ≡ true → StandsLess ps []
    less_from ps all n o f once =
        let here : stands_once ps o ≡ true = passes_at (stands_once ps) os all n o f in
        let label_is : o.label ≡ n = found_choice os n o f in
        let count : nat_lt (length (values_in o.label ps)) 2 ≡ true = rw once at here in
        let same : given_in n ps ≡ values_in o.label ps = given_values n (names_apart apart n o f) ps ∙ ap (λ t. values_in t ps) (sym label_is) in
        let small : length (values_in o.label ps) < 2 = ltb-true _ _ count in
        rw same (omega arith)

    pub once_from : (ps : List Part) → StandsLess ps [] → (xs : List Choice) → list_all finds_itself xs ≡ true → list_all (stands_once ps) xs ≡ true
    once_from ps less [] all = refl
    once_from ps less (x ∷ xs) all = rw (go x.repeats refl (choice_of os x.label) refl (both _ _ all).0) (once_from ps less xs (both _ _ all).1)
      where
        go : (b : Bool) → x.repeats ≡ b → (c : Option Choice) → choice_of os x.label ≡ c → option_map_or (λ (q : Choice). cond b true (not q.repeats)) c false ≡ true
            → (b || nat_lt (length (values_in x.label ps)) 2) ≡ true
        go true e c f h = refl
        go false e None f h = absurd (true≢false (sym h))
        go false e (Some q) f h =
            let off : q.repeats ≡ false = flip q.repeats h in
            let count : length (given_in x.label ps) + held_once x.label [] ≤ 1 = less x.label q f off in
            let same : given_in x.label ps ≡ values_in x.label ps = given_values x.label (names_apart apart x.label q f) ps in
            let small : length (values_in x.label ps) < 2 = rw (← same) (omega arith) in
            lt-ltb (length (values_in x.label ps)) 2 small
          where
            flip : (b : Bool) → not b ≡ true → b ≡ false
            flip false e = refl
            flip true e = absurd (true≢false (sym e))
