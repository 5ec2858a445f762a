-- The walk of clap over the words behind a command, by the parts of the words.
use Rattle.std.proofs.Common.{◌≡◌, ◌∙◌, ◌&&◌, ◌||◌, not, ℕ, Bool, cond, true, false, suc, refl, sym, ap, ap₂, eqb-true, List, [], ◌∷◌, map, length, Option, Some, None, option_map, is_some, find, true≢false}
use Rattle.std.specs.Prelude.{◌==◌, fold}
use Rattle.std.specs.List.{list_any}
use Rattle.std.specs.Option.{option_map_or}
use Rattle.std.specs.Str.{bytes_eq, chars}
use Rattle.std.proofs.lemmas.Slice.Eq.{bytes_eq-Decides}
use Rattle.std.proofs.Math.Bool.{and-false}
use Rattle.clap.specs.Lexer.{long_of, short_of}
use Rattle.clap.specs.Walk.{Row, Rule, Walk, idle, option, positional, arg_by_id, arg_by_long, arg_by_short, bundle_met, has_row, is_pending, settled, settled_rows, used, walked}
use Rattle.clap.specs.Simple.{Shape, new_rule, new_shape}
use Rattle.clap.specs.Kinds.{Kinds, or_else}
use Rattle.clap.specs.declared.error.kind.ErrorKind.TheVariants as kind
use Rattle.clap.specs.Faults.{flags_fault, settle_fault, turn_fault, use_fault, walk_fault}
use Rattle.clap.specs.declared.builder.action.ArgAction.{ArgAction}
use Rattle.clap.specs.declared.builder.action.ArgAction.TheVariants.{Set, Append}
use Rattle.clap.specs.declared.builder.value_parser.ValueParser.TheVariants as vp
use Rattle.command_words.specs.Parts.{Choice, Part, Text, choice_of, chosen, is_dashed, is_filled, label_and_value, named, option_word, parts_of, with_part}
use Rattle.command_words.specs.App.{names_id}

-- ---- the rules of a command, as clap builds them

abbrev pub filled_rule : Text → ArgAction → Rule
filled_rule id action = record (new_rule id) {
  action = Some action;
  range = Some (record { start_inclusive = 1; end_inclusive = 1 });
  parser = Some vp.String;
}

abbrev pub names_rule : Rule
names_rule = record (filled_rule names_id Append) { index = Some 1 }

abbrev pub choice_rule : Choice → Rule
choice_rule o = record (filled_rule o.label (cond o.repeats Append Set)) {
  long = Some o.label;
  range = Some (record { start_inclusive = cond o.has_value 1 0; end_inclusive = cond o.has_value 1 0 });
  missing = cond o.has_value [] ([] ∷ []);
}

abbrev pub rules_for : List Choice → List Rule
rules_for os = names_rule ∷ map choice_rule os

abbrev pub shape_for : Text → List Choice → Shape
shape_for title os = record (new_shape title) {
  rules = rules_for os;
  no_binary_name = true;
  disable_help_flag = true;
  disable_help_subcommand = true;
  is_built = true;
}

-- ---- what the parts come to

abbrev pub clean : Kinds → Bool
clean [] = true
clean (k ∷ ks) = false

abbrev pub when : {X : Type 0} → Bool → Option X → Option X
when b o = cond b o None

pub when_or : {X : Type 0} (a b : Kinds) (o : Option X) → when (clean (or_else a b)) o ≡ when (clean a) (when (clean b) o)
when_or [] b o = refl
when_or (k ∷ ks) b o = refl

pub when_none : {X : Type 0} (b : Bool) → when {X = X} b None ≡ None
when_none true = refl
when_none false = refl

abbrev pub fresh : Choice → List Row → Bool
fresh o rows = o.repeats || not (has_row o.label rows)

abbrev pub chosen_rows : Option Choice → Text → List Row → (List Row → Option (List Row)) → Option (List Row)
chosen_rows None v rows rest = None
chosen_rows (Some o) v rows rest = when (fresh o rows) (rest (used (choice_rule o) (v ∷ []) rows))

-- the rows after the parts, where none stands too often
unfoldable pub taken : List Choice → List Part → List Row → Option (List Row)
taken os [] rows = Some rows
taken os (named word ∷ rest) rows = taken os rest (used names_rule (word ∷ []) rows)
taken os (chosen label v ∷ rest) rows = chosen_rows (choice_of os label) v rows (taken os rest)

abbrev pub taken_of : List Choice → Option (List Part) → List Row → Option (List Row)
taken_of os None rows = None
taken_of os (Some parts) rows = taken os parts rows

-- ---- what a word looks like

pub data Look (w : Text) : Type 0 where
  dashes : bytes_eq w (45 ∷ 45 ∷ []) ≡ true → is_dashed w ≡ true → Look w
  long : (p : Text × Option Text) → bytes_eq w (45 ∷ 45 ∷ []) ≡ false → long_of w ≡ Some p → option_word w ≡ Some p → is_dashed w ≡ true → Look w
  short : (flags : Text) → (k : ℕ) → length flags ≡ suc k → bytes_eq w (45 ∷ 45 ∷ []) ≡ false → long_of w ≡ None → option_word w ≡ None → short_of w ≡ Some flags → is_dashed w ≡ is_filled (chars flags) → Look w
  plain : bytes_eq w (45 ∷ 45 ∷ []) ≡ false → long_of w ≡ None → option_word w ≡ None → short_of w ≡ None → is_dashed w ≡ false → Look w

pub look : (w : Text) → Look w
unfolding chars
look [] = plain refl refl refl refl refl
look (x ∷ []) = go (x == 45) refl
  where
    go : (b : Bool) → (x == 45) ≡ b → Look (x ∷ [])
    go true e = plain (rw e refl) (rw e refl) refl (rw e refl) (rw e refl)
    go false e = plain (rw e refl) (rw e refl) refl (rw e refl) (rw e refl)
look (x ∷ y ∷ rest) = first (x == 45) refl (y == 45) refl rest
  where
    first : (b : Bool) → (x == 45) ≡ b → (d : Bool) → (y == 45) ≡ d → (r : Text) → Look (x ∷ y ∷ r)
    first false e d f [] = plain (rw e refl) (rw e refl) refl (rw e refl) (rw e refl)
    first false e d f (z ∷ r) = plain (rw e refl) (rw e refl) (rw e refl) (rw e refl) (rw e refl)
    first true e false f [] = short (y ∷ []) 0 refl (rw (e, f) refl) (rw (e, f) refl) refl (rw (e, f) refl) (rw e refl)
    first true e false f (z ∷ r) = short (y ∷ z ∷ r) (suc (length r)) refl (rw (e, f) refl) (rw (e, f) refl) (rw (e, f) refl) (rw (e, f) refl) (rw e refl)
    first true e true f [] = dashes (rw (e, f) refl) (let g : y ≡ 45 = eqb-true y 45 f in rw (e, g) refl)
    first true e true f (z ∷ r) = long (label_and_value (z ∷ r)) (rw (e, f) refl) (rw (e, f) refl) (rw (e, f) refl) (let g : y ≡ 45 = eqb-true y 45 f in rw (e, g) refl)

-- ---- the walk, from any point on

module _ (os : List Choice) (title : Text) where
  abbrev pub ending : Walk → Option (List Row)
  ending st = when (clean (settle_fault (rules_for os) false st.held)) (Some (settled (rules_for os) st.held).rows)

  abbrev pub rest_of : Walk → List Text → Option (List Row)
  rest_of st words = when (clean (walk_fault (shape_for title os) [] st words)) (ending (fold (walked (rules_for os) []) st words))

  -- one more word
  turn : (st after : Walk) (word : Text) (words : List Text) (fault : Kinds) → turn_fault (shape_for title os) [] st word ≡ fault
      → walked (rules_for os) [] st word ≡ after → rest_of st (word ∷ words) ≡ when (clean fault) (rest_of after words)
  unfolding walk_fault
  turn st after word words fault e f =
      ap₂ (λ (t : Kinds) (v : Walk). when (clean (or_else t (walk_fault (shape_for title os) [] v words))) (ending (fold (walked (rules_for os) []) v words))) e f
      ∙ when_or fault (walk_fault (shape_for title os) [] after words) (ending (fold (walked (rules_for os) []) after words))

  stop : (st : Walk) (word : Text) (words : List Text) → clean (turn_fault (shape_for title os) [] st word) ≡ false → rest_of st (word ∷ words) ≡ None
  stop st word words e =
      turn st (walked (rules_for os) [] st word) word words (turn_fault (shape_for title os) [] st word) refl refl
      ∙ ap (λ b. when b (rest_of (walked (rules_for os) [] st word) words)) e

  -- between two words
  abbrev pub at : Bool → Bool → List Row → Option (Text × List Text) → Walk
  at b trailing rows pending = record {
    held = record { rows = rows; pending = pending; skip = 0 };
    waiting = cond b positional idle;
    position = 1;
    is_trailing = trailing;
    stopped = None;
  }

  abbrev pub asks : Text → Bool → List Row → Walk
  asks label trailing rows = record {
    held = record { rows = rows; pending = Some (label, []); skip = 0 };
    waiting = option label;
    position = 1;
    is_trailing = trailing;
    stopped = None;
  }

  abbrev pub rows_at : List Row → Option (Text × List Text) → List Row
  rows_at rows pending = settled_rows (rules_for os) pending rows

  abbrev pub owed : List Row → Option (Text × List Text) → Bool
  owed rows pending = clean (settle_fault (rules_for os) false (record { rows = rows; pending = pending; skip = 0 }))

  or_nil : (a : Kinds) → or_else a [] ≡ a
  or_nil [] = refl
  or_nil (k ∷ ks) = refl

  -- ---- behind `--`

  trail_turn : (b : Bool) (rows : List Row) (p : Option (Text × List Text)) (word : Text)
      → (turn_fault (shape_for title os) [] (at b true rows p) word ≡ settle_fault (rules_for os) false (record { rows = rows; pending = p; skip = 0 }))
      × (walked (rules_for os) [] (at b true rows p) word ≡ at true true (rows_at rows p) (Some (names_id, word ∷ [])))
  unfolding walked
  trail_turn b rows p word = (rw (and-false (is_pending names_rule p)) refl, rw (and-false (is_pending names_rule p)) refl)

  pub trail : (b : Bool) (rows : List Row) (p : Option (Text × List Text)) (words : List Text)
      → rest_of (at b true rows p) words ≡ when (owed rows p) (taken os (map named words) (rows_at rows p))
  unfolding walk_fault taken
  trail b rows p [] = refl
  trail b rows p (word ∷ words) =
      turn (at b true rows p) _ word words _ (trail_turn b rows p word).0 (trail_turn b rows p word).1
      ∙ ap (when (owed rows p)) (trail true (rows_at rows p) (Some (names_id, word ∷ [])) words)

  -- ---- where an option waits for its value

  find_choice : (label : Text) (xs : List Choice) → find (λ (a : Rule). not (is_some a.index) && ((option_map_or (λ t. bytes_eq t label) a.long false) || list_any (λ t. bytes_eq t label) a.aliases)) (map choice_rule xs)
      ≡ option_map choice_rule (choice_of xs label)
  find_choice label [] = refl
  find_choice label (x ∷ xs) = go (bytes_eq x.label label) (find_choice label xs)
    where
      go : (b : Bool) → find (λ (a : Rule). not (is_some a.index) && ((option_map_or (λ t. bytes_eq t label) a.long false) || list_any (λ t. bytes_eq t label) a.aliases)) (map choice_rule xs) ≡ option_map choice_rule (choice_of xs label)
          → cond (b || false) (Some (choice_rule x)) (find (λ (a : Rule). not (is_some a.index) && ((option_map_or (λ t. bytes_eq t label) a.long false) || list_any (λ t. bytes_eq t label) a.aliases)) (map choice_rule xs))
          ≡ option_map choice_rule (cond b (Some x) (choice_of xs label))
      go true e = refl
      go false e = e

  pub long_is : (label : Text) → arg_by_long (rules_for os) label ≡ option_map choice_rule (choice_of os label)
  long_is label = find_choice label os

  no_short : (x : ℕ) (xs : List Choice) → arg_by_short (map choice_rule xs) x ≡ None
  no_short x [] = refl
  no_short x (o ∷ xs) = no_short x xs

  pub short_is : (x : ℕ) → arg_by_short (rules_for os) x ≡ None
  short_is x = no_short x os

  id_choice : (label : Text) (xs : List Choice) → arg_by_id (map choice_rule xs) label ≡ option_map choice_rule (choice_of xs label)
  id_choice label [] = refl
  id_choice label (x ∷ xs) = go (bytes_eq x.label label) (id_choice label xs)
    where
      go : (b : Bool) → arg_by_id (map choice_rule xs) label ≡ option_map choice_rule (choice_of xs label)
          → cond b (Some (choice_rule x)) (arg_by_id (map choice_rule xs) label) ≡ option_map choice_rule (cond b (Some x) (choice_of xs label))
      go true e = refl
      go false e = e

  once : (has : Bool) → clean (or_else (cond (has && true) (kind.ArgumentConflict ∷ []) []) []) ≡ not has
  once true = refl
  once false = refl

  -- the waiting option has its value
  use_is : (o : Choice) (v : Text) (rows : List Row) → o.has_value ≡ true → clean (use_fault false (choice_rule o) (v ∷ []) rows) ≡ fresh o rows
  use_is o v rows valued = go o.repeats refl
    where
      go : (b : Bool) → o.repeats ≡ b → clean (use_fault false (choice_rule o) (v ∷ []) rows) ≡ fresh o rows
      go true e = rw (e, valued) refl
      go false e = rw (e, valued) (once (has_row o.label rows))

  -- an option without a value is used
  flag_is : (o : Choice) (rows : List Row) → o.has_value ≡ false
      → (clean (use_fault false (choice_rule o) [] rows) ≡ fresh o rows) × (used (choice_rule o) [] rows ≡ used (choice_rule o) ([] ∷ []) rows)
  flag_is o rows bare = (go o.repeats refl, rw bare refl)
    where
      go : (b : Bool) → o.repeats ≡ b → clean (use_fault false (choice_rule o) [] rows) ≡ fresh o rows
      go true e = rw (e, bare) refl
      go false e = rw (e, bare) (once (has_row o.label rows))

  used_now : (label : Text) (v : Text) (rows : List Row) (o : Choice) → arg_by_id (rules_for os) label ≡ Some (choice_rule o) → o.has_value ≡ true
      → (owed rows (Some (label, v ∷ [])) ≡ fresh o rows) × (rows_at rows (Some (label, v ∷ [])) ≡ used (choice_rule o) (v ∷ []) rows)
  used_now label v rows o e valued = (rw e (use_is o v rows valued), rw e refl)

  asks_trail : (label : Text) (rows : List Row) (o : Choice) → arg_by_id (rules_for os) label ≡ Some (choice_rule o) → o.has_value ≡ true
      → (words : List Text) → rest_of (asks label true rows) words ≡ None
  unfolding walk_fault
  asks_trail label rows o e valued [] = rw (e, valued) refl
  asks_trail label rows o e valued (word ∷ words) = stop (asks label true rows) word words (rw (and-false (bytes_eq label names_id), e, valued) refl)

  -- the next word is the value
  asks_plain : (label : Text) (rows : List Row) (word : Text) (o : Choice) → bytes_eq word (45 ∷ 45 ∷ []) ≡ false → long_of word ≡ None → short_of word ≡ None
      → arg_by_id (rules_for os) label ≡ Some (choice_rule o) → bytes_eq label o.label ≡ true → o.has_value ≡ true
      → (turn_fault (shape_for title os) [] (asks label false rows) word ≡ [])
      × (walked (rules_for os) [] (asks label false rows) word ≡ at false false rows (Some (label, word ∷ [])))
  unfolding walked
  asks_plain label rows word o d l sh e q valued = (rw (d, l, sh) refl, rw (d, l, sh, e, q, valued) refl)

  asks_empty : (label : Text) (rows : List Row) (word flags : Text) (k : ℕ) (o : Choice) → bytes_eq word (45 ∷ 45 ∷ []) ≡ false → long_of word ≡ None → short_of word ≡ Some flags
      → length flags ≡ suc k → chars flags ≡ [] → arg_by_id (rules_for os) label ≡ Some (choice_rule o) → bytes_eq label o.label ≡ true → o.has_value ≡ true
      → (turn_fault (shape_for title os) [] (asks label false rows) word ≡ [])
      × (walked (rules_for os) [] (asks label false rows) word ≡ at false false rows (Some (label, word ∷ [])))
  unfolding walked flags_fault bundle_met
  asks_empty label rows word flags k o d l sh n cs e q valued = (rw (d, l, sh, n, cs) refl, rw (d, l, sh, n, cs, e, q, valued) refl)

  -- or it is refused
  asks_short : (label : Text) (rows : List Row) (word flags : Text) (k x : ℕ) (xs : Text) → bytes_eq word (45 ∷ 45 ∷ []) ≡ false → long_of word ≡ None
      → short_of word ≡ Some flags → length flags ≡ suc k → chars flags ≡ x ∷ xs → clean (turn_fault (shape_for title os) [] (asks label false rows) word) ≡ false
  unfolding flags_fault
  asks_short label rows word flags k x xs d l sh n cs = rw (d, l, sh, n, cs, short_is x) refl

  asks_long : (label : Text) (rows : List Row) (word : Text) (p : Text × Option Text) (o : Choice) → bytes_eq word (45 ∷ 45 ∷ []) ≡ false → long_of word ≡ Some p
      → arg_by_id (rules_for os) label ≡ Some (choice_rule o) → o.has_value ≡ true → clean (turn_fault (shape_for title os) [] (asks label false rows) word) ≡ false
  asks_long label rows word (n, v) o d l e valued = go (choice_of os n) refl v l
    where
      known : (a : Choice) → choice_of os n ≡ Some a → (b : Bool) → a.has_value ≡ b → (v : Option Text) → long_of word ≡ Some (n, v)
          → clean (turn_fault (shape_for title os) [] (asks label false rows) word) ≡ false
      known a f true g (Some v) l = rw (d, l, long_is n, f, g, e, valued) refl
      known a f true g None l = rw (d, l, long_is n, f, g, e, valued) refl
      known a f false g (Some v) l = rw (d, l, long_is n, f, g) refl
      known a f false g None l = rw (d, l, long_is n, f, g, e, valued) refl

      go : (c : Option Choice) → choice_of os n ≡ c → (v : Option Text) → long_of word ≡ Some (n, v) → clean (turn_fault (shape_for title os) [] (asks label false rows) word) ≡ false
      go None f v l = rw (d, l, long_is n, f) refl
      go (Some a) f v l = known a f a.has_value refl v l

  -- ---- where no option waits

  name_turn : (b : Bool) (rows : List Row) (p : Option (Text × List Text)) (word : Text) → bytes_eq word (45 ∷ 45 ∷ []) ≡ false → long_of word ≡ None → short_of word ≡ None
      → (turn_fault (shape_for title os) [] (at b false rows p) word ≡ settle_fault (rules_for os) false (record { rows = rows; pending = p; skip = 0 }))
      × (walked (rules_for os) [] (at b false rows p) word ≡ at true false (rows_at rows p) (Some (names_id, word ∷ [])))
  unfolding walked
  name_turn true rows p word d l sh = (rw (d, l, sh, and-false (is_pending names_rule p)) refl, rw (d, l, sh, and-false (is_pending names_rule p)) refl)
  name_turn false rows p word d l sh = (rw (d, l, sh, and-false (is_pending names_rule p)) refl, rw (d, l, sh, and-false (is_pending names_rule p)) refl)

  empty_turn : (b : Bool) (rows : List Row) (p : Option (Text × List Text)) (word flags : Text) (k : ℕ) → bytes_eq word (45 ∷ 45 ∷ []) ≡ false → long_of word ≡ None
      → short_of word ≡ Some flags → length flags ≡ suc k → chars flags ≡ []
      → (turn_fault (shape_for title os) [] (at b false rows p) word ≡ settle_fault (rules_for os) false (record { rows = rows; pending = p; skip = 0 }))
      × (walked (rules_for os) [] (at b false rows p) word ≡ at true false (rows_at rows p) (Some (names_id, word ∷ [])))
  unfolding walked flags_fault bundle_met
  empty_turn true rows p word flags k d l sh n cs = (rw (d, l, sh, n, cs, and-false (is_pending names_rule p)) refl, rw (d, l, sh, n, cs, and-false (is_pending names_rule p)) refl)
  empty_turn false rows p word flags k d l sh n cs = (rw (d, l, sh, n, cs, and-false (is_pending names_rule p)) refl, rw (d, l, sh, n, cs, and-false (is_pending names_rule p)) refl)

  dashes_turn : (b : Bool) (rows : List Row) (p : Option (Text × List Text)) (word : Text) → bytes_eq word (45 ∷ 45 ∷ []) ≡ true
      → (turn_fault (shape_for title os) [] (at b false rows p) word ≡ []) × (walked (rules_for os) [] (at b false rows p) word ≡ at b true rows p)
  unfolding walked
  dashes_turn true rows p word d = (rw d refl, rw d refl)
  dashes_turn false rows p word d = (rw d refl, rw d refl)

  short_turn : (b : Bool) (rows : List Row) (p : Option (Text × List Text)) (word flags : Text) (k x : ℕ) (xs : Text) → bytes_eq word (45 ∷ 45 ∷ []) ≡ false → long_of word ≡ None
      → short_of word ≡ Some flags → length flags ≡ suc k → chars flags ≡ x ∷ xs → clean (turn_fault (shape_for title os) [] (at b false rows p) word) ≡ false
  unfolding flags_fault
  short_turn true rows p word flags k x xs d l sh n cs = rw (d, l, sh, n, cs, short_is x) refl
  short_turn false rows p word flags k x xs d l sh n cs = rw (d, l, sh, n, cs, short_is x) refl

  unknown_turn : (b : Bool) (rows : List Row) (p : Option (Text × List Text)) (word n : Text) (v : Option Text) → bytes_eq word (45 ∷ 45 ∷ []) ≡ false → long_of word ≡ Some (n, v)
      → choice_of os n ≡ None → clean (turn_fault (shape_for title os) [] (at b false rows p) word) ≡ false
  unknown_turn true rows p word n v d l f = rw (d, l, long_is n, f) refl
  unknown_turn false rows p word n v d l f = rw (d, l, long_is n, f) refl

  given_turn : (b : Bool) (rows : List Row) (p : Option (Text × List Text)) (word n v : Text) (o : Choice) → bytes_eq word (45 ∷ 45 ∷ []) ≡ false → long_of word ≡ Some (n, Some v)
      → choice_of os n ≡ Some o → o.has_value ≡ true
      → (turn_fault (shape_for title os) [] (at b false rows p) word
      ≡ or_else (or_else (settle_fault (rules_for os) false (record { rows = rows; pending = p; skip = 0 })) (use_fault false (choice_rule o) (v ∷ []) (rows_at rows p))) [])
      × (walked (rules_for os) [] (at b false rows p) word ≡ at false false (used (choice_rule o) (v ∷ []) (rows_at rows p)) None)
  unfolding walked
  given_turn true rows p word n v o d l f valued = (rw (d, l, long_is n, f, valued) refl, rw (d, l, long_is n, f, valued) refl)
  given_turn false rows p word n v o d l f valued = (rw (d, l, long_is n, f, valued) refl, rw (d, l, long_is n, f, valued) refl)

  flag_turn : (b : Bool) (rows : List Row) (p : Option (Text × List Text)) (word n : Text) (o : Choice) → bytes_eq word (45 ∷ 45 ∷ []) ≡ false → long_of word ≡ Some (n, None)
      → choice_of os n ≡ Some o → o.has_value ≡ false
      → (turn_fault (shape_for title os) [] (at b false rows p) word
      ≡ or_else (or_else (settle_fault (rules_for os) false (record { rows = rows; pending = p; skip = 0 })) (use_fault false (choice_rule o) [] (rows_at rows p))) [])
      × (walked (rules_for os) [] (at b false rows p) word ≡ at false false (used (choice_rule o) [] (rows_at rows p)) None)
  unfolding walked
  flag_turn true rows p word n o d l f bare = (rw (d, l, long_is n, f, bare) refl, rw (d, l, long_is n, f, bare) refl)
  flag_turn false rows p word n o d l f bare = (rw (d, l, long_is n, f, bare) refl, rw (d, l, long_is n, f, bare) refl)

  valued_flag_turn : (b : Bool) (rows : List Row) (p : Option (Text × List Text)) (word n v : Text) (o : Choice) → bytes_eq word (45 ∷ 45 ∷ []) ≡ false → long_of word ≡ Some (n, Some v)
      → choice_of os n ≡ Some o → o.has_value ≡ false → clean (turn_fault (shape_for title os) [] (at b false rows p) word) ≡ false
  valued_flag_turn true rows p word n v o d l f bare = rw (d, l, long_is n, f, bare) refl
  valued_flag_turn false rows p word n v o d l f bare = rw (d, l, long_is n, f, bare) refl

  asking_turn : (b : Bool) (rows : List Row) (p : Option (Text × List Text)) (word n : Text) (o : Choice) → bytes_eq word (45 ∷ 45 ∷ []) ≡ false → long_of word ≡ Some (n, None)
      → choice_of os n ≡ Some o → o.has_value ≡ true
      → (turn_fault (shape_for title os) [] (at b false rows p) word ≡ or_else (settle_fault (rules_for os) false (record { rows = rows; pending = p; skip = 0 })) [])
      × (walked (rules_for os) [] (at b false rows p) word ≡ asks o.label false (rows_at rows p))
  unfolding walked
  asking_turn true rows p word n o d l f valued = (rw (d, l, long_is n, f, valued) refl, rw (d, l, long_is n, f, valued) refl)
  asking_turn false rows p word n o d l f valued = (rw (d, l, long_is n, f, valued) refl, rw (d, l, long_is n, f, valued) refl)

  -- ---- all the words

  found_label : (xs : List Choice) (n : Text) (o : Choice) → choice_of xs n ≡ Some o → bytes_eq o.label n ≡ true
  found_label [] n o e = absurd (true≢false (ap (λ (c : Option Choice). not (is_some c)) e))
  found_label (x ∷ xs) n o e = go (bytes_eq x.label n) refl e (found_label xs n o)
    where
      go : (b : Bool) → bytes_eq x.label n ≡ b → cond b (Some x) (choice_of xs n) ≡ Some o → (choice_of xs n ≡ Some o → bytes_eq o.label n ≡ true)
          → bytes_eq o.label n ≡ true
      go true f e later = let same : x ≡ o = cc in rw (← same, f) refl
      go false f e later = later e

  found_id : choice_of os names_id ≡ None → (n : Text) (o : Choice) → choice_of os n ≡ Some o → arg_by_id (rules_for os) n ≡ Some (choice_rule o)
  found_id apart n o e = go (bytes_eq names_id n) refl
    where
      go : (b : Bool) → bytes_eq names_id n ≡ b → cond b (Some names_rule) (arg_by_id (map choice_rule os) n) ≡ Some (choice_rule o)
      go false f = id_choice n os ∙ ap (option_map choice_rule) e
      go true f =
          let same : names_id ≡ n = (bytes_eq-Decides names_id n).0 f in
          absurd (true≢false (sym (ap is_some (sym apart ∙ ap (choice_of os) same ∙ e))))

  taken_named : (word : Text) (q : Option (List Part)) (rows : List Row) → taken_of os (with_part (named word) q) rows ≡ taken_of os q (used names_rule (word ∷ []) rows)
  unfolding taken
  taken_named word None rows = refl
  taken_named word (Some parts) rows = refl

  taken_chosen : (n v : Text) (q : Option (List Part)) (o : Choice) (rows : List Row) → choice_of os n ≡ Some o
      → taken_of os (with_part (chosen n v) q) rows ≡ when (fresh o rows) (taken_of os q (used (choice_rule o) (v ∷ []) rows))
  unfolding taken
  taken_chosen n v None o rows e = sym (when_none (fresh o rows))
  taken_chosen n v (Some parts) o rows e = rw e refl

  when_both : {X : Type 0} (a b : Kinds) (o : Option X) → when (clean (or_else (or_else a b) [])) o ≡ when (clean a) (when (clean b) o)
  when_both a b o = ap (λ k. when (clean k) o) (or_nil (or_else a b)) ∙ when_or a b o

  pub record Walks (words : List Text) : Type 0 where
    pub idle : (b : Bool) (rows : List Row) (p : Option (Text × List Text))
        → rest_of (at b false rows p) words ≡ when (owed rows p) (taken_of os (parts_of os words None) (rows_at rows p))
    pub asking : (n : Text) (rows : List Row) (o : Choice) → choice_of os n ≡ Some o → o.has_value ≡ true
        → rest_of (asks n false rows) words ≡ taken_of os (parts_of os words (Some n)) rows

  module _ (apart : choice_of os names_id ≡ None) where
    idle_word : (word : Text) (words : List Text) → Walks words → Look word → (b : Bool) (rows : List Row) (p : Option (Text × List Text))
        → rest_of (at b false rows p) (word ∷ words) ≡ when (owed rows p) (taken_of os (parts_of os (word ∷ words) None) (rows_at rows p))
    unfolding parts_of
    idle_word word words rest (dashes d i) b rows p =
        turn (at b false rows p) (at b true rows p) word words [] (dashes_turn b rows p word d).0 (dashes_turn b rows p word d).1
        ∙ trail b rows p words ∙ rw d refl
    idle_word word words rest (long (n, v) d l w i) b rows p = go (choice_of os n) refl v l w
      where
        known : (o : Choice) → choice_of os n ≡ Some o → (h : Bool) → o.has_value ≡ h → (v : Option Text) → long_of word ≡ Some (n, v) → option_word word ≡ Some (n, v)
            → rest_of (at b false rows p) (word ∷ words) ≡ when (owed rows p) (taken_of os (parts_of os (word ∷ words) None) (rows_at rows p))
        known o f true h (Some v) l w =
            let t = given_turn b rows p word n v o d l f h in
            let after : List Row = used (choice_rule o) (v ∷ []) (rows_at rows p) in
            turn (at b false rows p) (at false false after None) word words _ t.0 t.1
            ∙ when_both (settle_fault (rules_for os) false (record { rows = rows; pending = p; skip = 0 })) (use_fault false (choice_rule o) (v ∷ []) (rows_at rows p)) (rest_of (at false false after None) words)
            ∙ ap₂ (λ (x : Bool) (y : Option (List Row)). when (owed rows p) (when x y)) (use_is o v (rows_at rows p) h) (rest.idle false after None)
            ∙ ap (when (owed rows p)) (sym (taken_chosen n v (parts_of os words None) o (rows_at rows p) f))
            ∙ rw (d, w, f, h) refl
        known o f true h None l w =
            let t = asking_turn b rows p word n o d l f h in
            let same : o.label ≡ n = (bytes_eq-Decides o.label n).0 (found_label os n o f) in
            turn (at b false rows p) (asks n false (rows_at rows p)) word words _ t.0 (t.1 ∙ ap (λ (m : Text). asks m false (rows_at rows p)) same)
            ∙ when_or (settle_fault (rules_for os) false (record { rows = rows; pending = p; skip = 0 })) [] (rest_of (asks n false (rows_at rows p)) words)
            ∙ ap (when (owed rows p)) (rest.asking n (rows_at rows p) o f h)
            ∙ rw (d, w, f, h) refl
        known o f false h (Some v) l w = stop (at b false rows p) word words (valued_flag_turn b rows p word n v o d l f h) ∙ sym (rw (d, w, f, h) (when_none (owed rows p)))
        known o f false h None l w =
            let t = flag_turn b rows p word n o d l f h in
            let uses = flag_is o (rows_at rows p) h in
            let after : List Row = used (choice_rule o) ([] ∷ []) (rows_at rows p) in
            turn (at b false rows p) (at false false after None) word words _ t.0 (t.1 ∙ ap (λ (r : List Row). at false false r None) uses.1)
            ∙ when_both (settle_fault (rules_for os) false (record { rows = rows; pending = p; skip = 0 })) (use_fault false (choice_rule o) [] (rows_at rows p)) (rest_of (at false false after None) words)
            ∙ ap₂ (λ (x : Bool) (y : Option (List Row)). when (owed rows p) (when x y)) uses.0 (rest.idle false after None)
            ∙ ap (when (owed rows p)) (sym (taken_chosen n [] (parts_of os words None) o (rows_at rows p) f))
            ∙ rw (d, w, f, h) refl

        go : (c : Option Choice) → choice_of os n ≡ c → (v : Option Text) → long_of word ≡ Some (n, v) → option_word word ≡ Some (n, v)
            → rest_of (at b false rows p) (word ∷ words) ≡ when (owed rows p) (taken_of os (parts_of os (word ∷ words) None) (rows_at rows p))
        go None f None l w = stop (at b false rows p) word words (unknown_turn b rows p word n None d l f) ∙ sym (rw (d, w, f) (when_none (owed rows p)))
        go None f (Some v) l w = stop (at b false rows p) word words (unknown_turn b rows p word n (Some v) d l f) ∙ sym (rw (d, w, f) (when_none (owed rows p)))
        go (Some o) f v l w = known o f o.has_value refl v l w
    idle_word word words rest (short flags k n d l w sh i) b rows p = go (chars flags) refl
      where
        go : (cs : Text) → chars flags ≡ cs → rest_of (at b false rows p) (word ∷ words) ≡ when (owed rows p) (taken_of os (parts_of os (word ∷ words) None) (rows_at rows p))
        go (x ∷ xs) f = stop (at b false rows p) word words (short_turn b rows p word flags k x xs d l sh n f) ∙ sym (rw (d, w, i, f) (when_none (owed rows p)))
        go [] f =
            let t = empty_turn b rows p word flags k d l sh n f in
            turn (at b false rows p) (at true false (rows_at rows p) (Some (names_id, word ∷ []))) word words _ t.0 t.1
            ∙ ap (when (owed rows p)) (rest.idle true (rows_at rows p) (Some (names_id, word ∷ [])) ∙ sym (taken_named word (parts_of os words None) (rows_at rows p)))
            ∙ rw (d, w, i, f) refl
    idle_word word words rest (plain d l w sh i) b rows p =
        let t = name_turn b rows p word d l sh in
        turn (at b false rows p) (at true false (rows_at rows p) (Some (names_id, word ∷ []))) word words _ t.0 t.1
        ∙ ap (when (owed rows p)) (rest.idle true (rows_at rows p) (Some (names_id, word ∷ [])) ∙ sym (taken_named word (parts_of os words None) (rows_at rows p)))
        ∙ rw (d, w, i) refl

    same : (n : Text) (o : Choice) → choice_of os n ≡ Some o → bytes_eq n o.label ≡ true
    same n o f =
        let e : o.label ≡ n = (bytes_eq-Decides o.label n).0 (found_label os n o f) in
        (bytes_eq-Decides n o.label).1 (sym e)

    asking_word : (word : Text) (words : List Text) → Walks words → Look word → (n : Text) (rows : List Row) (o : Choice) → choice_of os n ≡ Some o → o.has_value ≡ true
        → rest_of (asks n false rows) (word ∷ words) ≡ taken_of os (parts_of os (word ∷ words) (Some n)) rows
    unfolding parts_of walked
    asking_word word words rest (dashes d i) n rows o f h =
        turn (asks n false rows) (asks n true rows) word words [] (rw d refl) (rw d refl) ∙ asks_trail n rows o (found_id apart n o f) h words ∙ sym (rw i refl)
    asking_word word words rest (long p d l w i) n rows o f h = stop (asks n false rows) word words (asks_long n rows word p o d l (found_id apart n o f) h) ∙ sym (rw i refl)
    asking_word word words rest (short flags k z d l w sh i) n rows o f h = go (chars flags) refl
      where
        go : (cs : Text) → chars flags ≡ cs → rest_of (asks n false rows) (word ∷ words) ≡ taken_of os (parts_of os (word ∷ words) (Some n)) rows
        go (x ∷ xs) g = stop (asks n false rows) word words (asks_short n rows word flags k x xs d l sh z g) ∙ sym (rw (i, g) refl)
        go [] g =
            let id = found_id apart n o f in
            let t = asks_empty n rows word flags k o d l sh z g id (same n o f) h in
            turn (asks n false rows) (at false false rows (Some (n, word ∷ []))) word words _ t.0 t.1
            ∙ rest.idle false rows (Some (n, word ∷ []))
            ∙ ap₂ (λ (x : Bool) (y : List Row). when x (taken_of os (parts_of os words None) y)) (used_now n word rows o id h).0 (used_now n word rows o id h).1
            ∙ sym (taken_chosen n word (parts_of os words None) o rows f) ∙ sym (rw (i, g) refl)
    asking_word word words rest (plain d l w sh i) n rows o f h =
        let id = found_id apart n o f in
        let t = asks_plain n rows word o d l sh id (same n o f) h in
        turn (asks n false rows) (at false false rows (Some (n, word ∷ []))) word words _ t.0 t.1
        ∙ rest.idle false rows (Some (n, word ∷ []))
        ∙ ap₂ (λ (x : Bool) (y : List Row). when x (taken_of os (parts_of os words None) y)) (used_now n word rows o id h).0 (used_now n word rows o id h).1
        ∙ sym (taken_chosen n word (parts_of os words None) o rows f) ∙ sym (rw i refl)

    pub walks : (words : List Text) → Walks words
    unfolding parts_of walk_fault taken
    walks [] = record {
      idle = λ b rows p. refl;
      asking = λ n rows o f h. rw (found_id apart n o f, h) refl;
    }
    walks (word ∷ words) = record {
      idle = idle_word word words (walks words) (look word);
      asking = asking_word word words (walks words) (look word);
    }
