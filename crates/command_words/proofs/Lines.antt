-- What clap makes of a whole command line: one level of a command, and the command that the first word names.
use Rattle.std.proofs.Common.{◌≡◌, ◌∙◌, ◌&&◌, ◌||◌, not, Bool, cond, true, false, codes, refl, sym, ap, ap₂, List, [], ◌∷◌, map, Option, Some, None, option_map, is_some, find, true≢false}
use Rattle.std.specs.Prelude.{fold, option_and_then}
use Rattle.std.specs.List.{list_all, list_any}
use Rattle.std.specs.Str.{bytes_eq, chars}
use Rattle.std.proofs.lemmas.Slice.Eq.{bytes_eq-Decides}
use Rattle.std.proofs.Math.Bool.{or-true, and-false}
use Rattle.clap.specs.Walk.{bundle_met, Held, Row, Rule, Walk, answers_to, finished, has_row, nothing_held, rows_after, settled, walk, walk_from, walked, with_default}
use Rattle.clap.specs.Simple.{App, Shape, entered, label_of, names_of, new_shape, rows_at}
use Rattle.clap.specs.Kinds.{Kinds, or_else}
use Rattle.clap.specs.Takes.{is_given}
use Rattle.clap.specs.Faults.{built_fault, entered_fault, check_fault, defaults_fault, flags_fault, level_fault, settle_fault, turn_fault, walk_fault}
use Rattle.clap.proofs.WalkLemmas.{both, walk_stopped}
use Rattle.clap.proofs.FaultLemmas.{stopped_fault}
use Rattle.command_words.specs.Parts.{Choice, Text, choice_of, parts_of}
use Rattle.command_words.specs.Forms.{Form, form_of}
use Rattle.command_words.specs.App.{names_id}
use Rattle.command_words.proofs.Walks.{Look, choice_rule, clean, dashes, long, look, plain, rules_for, shape_for, short, taken_of, walks, when}

-- ---- one level

same_cond : {X : Type 0} (b : Bool) (x : X) → cond b x x ≡ x
same_cond true x = refl
same_cond false x = refl

no_defaults : (os : List Choice) (rows : List Row) → defaults_fault rows (map choice_rule os) ≡ []
unfolding defaults_fault
no_defaults [] rows = refl
no_defaults (o ∷ os) rows = rw (or-true (has_row o.label rows), same_cond (has_row o.label rows) rows) (no_defaults os rows)

no_default_rows : (os : List Choice) (rows : List Row) → fold with_default rows (map choice_rule os) ≡ rows
no_default_rows [] rows = refl
no_default_rows (o ∷ os) rows = ap (λ r. fold with_default r (map choice_rule os)) (same_cond (has_row o.label rows) rows) ∙ no_default_rows os rows

none_required : (os : List Choice) (rows : List Row) → list_any (λ (a : Rule). a.required && not (is_given a.id rows)) (map choice_rule os) ≡ false
none_required [] rows = refl
none_required (o ∷ os) rows = none_required os rows

module _ (os : List Choice) (title : Text) where
  defaults_pass : (rows : List Row) → defaults_fault rows (rules_for os) ≡ []
  unfolding defaults_fault
  defaults_pass rows = rw (or-true (has_row names_id rows), same_cond (has_row names_id rows) rows) (no_defaults os rows)

  finished_is : (h : Held) → finished (rules_for os) h ≡ (settled (rules_for os) h).rows
  finished_is h =
      let rows : List Row = (settled (rules_for os) h).rows in
      ap (λ r. fold with_default r (map choice_rule os)) (same_cond (has_row names_id rows) rows) ∙ no_default_rows os rows

  checks_pass : (rows : List Row) → check_fault (shape_for title os) rows false ≡ []
  checks_pass rows = rw (none_required os rows) refl

  last_or : {X : Type 0} (a b : Kinds) (o : Option X) → when (clean (or_else a (or_else b []))) o ≡ when (clean a) (when (clean b) o)
  last_or [] [] o = refl
  last_or [] (k ∷ ks) o = refl
  last_or (k ∷ ks) b o = refl

  -- a level of clap takes the words exactly where their parts are taken, and with the same rows
  pub level : choice_of os names_id ≡ None → (words : List Text)
      → when (clean (level_fault (shape_for title os) [] nothing_held words false [])) (Some (rows_after (rules_for os) [] words))
      ≡ taken_of os (parts_of os words None) []
  level apart words =
      let end : Held = (walk (rules_for os) [] nothing_held words).held in
      let wf : Kinds = walk_fault (shape_for title os) [] (walk_from nothing_held) words in
      let st : Kinds = settle_fault (rules_for os) false end in
      ap₂ (λ (d c : Kinds). when (clean (or_else wf (or_else [] (or_else st (or_else d c))))) (Some (finished (rules_for os) end)))
      (defaults_pass (settled (rules_for os) end).rows) (checks_pass (finished (rules_for os) end))
      ∙ ap (λ (r : List Row). when (clean (or_else wf (or_else st []))) (Some r)) (finished_is end)
      ∙ last_or wf st (Some (settled (rules_for os) end).rows)
      ∙ (walks os title apart words).idle false [] None

-- ---- the whole line

-- what the first word and the parts of the others come to
abbrev pub rows_behind : Form → List Text → Option (Text × List Row)
rows_behind f words = option_map (λ rows. (f.title, rows)) (taken_of f.choices (parts_of f.choices words None) [])

abbrev pub spelled_rows : List Form → List Text → Option (Text × List Row)
spelled_rows forms [] = None
spelled_rows forms (word ∷ words) = option_and_then (λ f. rows_behind f words) (form_of forms word)

module _ (program : Text) (forms : List Form) where
  abbrev pub shape_of_form : Form → Shape
  shape_of_form f = shape_for f.title f.choices

  -- the command as clap builds it
  abbrev pub top_shape : Shape
  top_shape = record (new_shape program) {
    is_leaf = false;
    no_binary_name = true;
    disable_help_flag = true;
    disable_help_subcommand = true;
    subcommand_required = true;
    is_built = true;
  }

  abbrev pub line_app : App
  line_app = record { top = top_shape; subs = map shape_of_form forms }

  abbrev pub stop_at : List Text → Option (Text × List Text)
  stop_at words = (walk [] (names_of line_app) nothing_held words).stopped

  -- what clap gives, where it finds no fault
  abbrev pub line_rows : List Text → Option (Text × List Row)
  line_rows words = when (clean (built_fault line_app nothing_held words)) (entered line_app (stop_at words))

  named_form : (word : Text) (fs : List Form) → find (answers_to word) (map label_of (map shape_of_form fs)) ≡ option_map (λ (f : Form). (f.title, [])) (form_of fs word)
  named_form word [] = refl
  named_form word (f ∷ fs) = go (bytes_eq f.title word) (named_form word fs)
    where
      go : (b : Bool) → find (answers_to word) (map label_of (map shape_of_form fs)) ≡ option_map (λ (g : Form). (g.title, [])) (form_of fs word)
          → cond (b || false) (Some (label_of (shape_of_form f))) (find (answers_to word) (map label_of (map shape_of_form fs)))
          ≡ option_map (λ (g : Form). (g.title, [])) (cond b (Some f) (form_of fs word))
      go true e = refl
      go false e = e

  shape_form : (word : Text) (fs : List Form) → find (λ (s : Shape). answers_to word (label_of s)) (map shape_of_form fs) ≡ option_map shape_of_form (form_of fs word)
  shape_form word [] = refl
  shape_form word (f ∷ fs) = go (bytes_eq f.title word) (shape_form word fs)
    where
      go : (b : Bool) → find (λ (s : Shape). answers_to word (label_of s)) (map shape_of_form fs) ≡ option_map shape_of_form (form_of fs word)
          → cond (b || false) (Some (shape_of_form f)) (find (λ (s : Shape). answers_to word (label_of s)) (map shape_of_form fs)) ≡ option_map shape_of_form (cond b (Some f) (form_of fs word))
      go true e = refl
      go false e = e

  pub found_title : (fs : List Form) (word : Text) (f : Form) → form_of fs word ≡ Some f → bytes_eq f.title word ≡ true
  found_title [] word f e = absurd (true≢false (ap (λ (c : Option Form). not (is_some c)) e))
  found_title (x ∷ xs) word f e = go (bytes_eq x.title word) refl e (found_title xs word f)
    where
      go : (b : Bool) → bytes_eq x.title word ≡ b → cond b (Some x) (form_of xs word) ≡ Some f → (form_of xs word ≡ Some f → bytes_eq f.title word ≡ true)
          → bytes_eq f.title word ≡ true
      go true g e later = let same : x ≡ f = cc in rw (← same, g) refl
      go false g e later = later e

  first_word : (word : Text) (f : Form) → find (answers_to word) (names_of line_app) ≡ Some (f.title, [])
      → walked [] (names_of line_app) (walk_from nothing_held) word ≡ record (walk_from nothing_held) { stopped = Some (f.title, []) }
  unfolding walked
  first_word word f found = rw found refl

  -- what the faults and the end of the walk over the first words come to
  abbrev judged : Kinds → Walk → Option (Text × List Row)
  judged wf w = when (clean (or_else wf (or_else (entered_fault line_app w.stopped) (or_else (settle_fault [] false w.held)
      (or_else (defaults_fault (settled [] w.held).rows []) (check_fault top_shape (finished [] w.held) (is_some (entered line_app w.stopped))))))))
      (entered line_app w.stopped)

  judged_is : (words : List Text) → line_rows words ≡ judged (walk_fault top_shape (names_of line_app) (walk_from nothing_held) words) (walk [] (names_of line_app) nothing_held words)
  judged_is words = refl

  first_stop : (word : Text) (words : List Text) (f : Form) → form_of forms word ≡ Some f
      → (walk_fault top_shape (names_of line_app) (walk_from nothing_held) (word ∷ words) ≡ [])
      × (walk [] (names_of line_app) nothing_held (word ∷ words) ≡ record (walk_from nothing_held) { stopped = Some (f.title, words) })
  unfolding walk_fault
  first_stop word words f e =
      let found : find (answers_to word) (names_of line_app) ≡ Some (f.title, []) = named_form word forms ∙ ap (option_map (λ (g : Form). (g.title, []))) e in
      let stays = walk_stopped [] (names_of line_app) (walk_from nothing_held) f.title [] words in
      let steps = first_word word f found in
      let turn : turn_fault top_shape (names_of line_app) (walk_from nothing_held) word ≡ [] = rw (found, and-false (bytes_eq f.title (codes "help"))) refl in (
        ap₂ (λ (t : Kinds) (w : Walk). or_else t (walk_fault top_shape (names_of line_app) w words)) turn steps ∙ stopped_fault top_shape (names_of line_app) (walk_from nothing_held) (f.title, []) words,
        ap (λ (w : Walk). fold (walked [] (names_of line_app)) w words) steps ∙ sym stays,
      )

  below_last : {X : Type 0} (below : Kinds) (o : Option X) → when (clean (or_else below [])) o ≡ when (clean below) o
  below_last [] o = refl
  below_last (k ∷ ks) o = refl

  when_map : {X Y : Type 0} (g : X → Y) (b : Bool) (x : X) → when b (Some (g x)) ≡ option_map g (when b (Some x))
  when_map g true x = refl
  when_map g false x = refl

  -- the first word names a command
  enters : (word : Text) (words : List Text) (f : Form) → choice_of f.choices names_id ≡ None → form_of forms word ≡ Some f
      → line_rows (word ∷ words) ≡ rows_behind f words
  unfolding defaults_fault
  enters word words f apart e =
      let start = first_stop word words f e in
      let title : f.title ≡ word = (bytes_eq-Decides f.title word).0 (found_title forms word f e) in
      let shape : find (λ (s : Shape). answers_to f.title (label_of s)) (map shape_of_form forms) ≡ Some (shape_of_form f) = shape_form f.title forms ∙ ap (option_map shape_of_form) (ap (form_of forms) title ∙ e) in
      let inner : Kinds = level_fault (shape_of_form f) [] nothing_held words false [] in
      let after : judged [] (record (walk_from nothing_held) { stopped = Some (f.title, words) }) ≡ when (clean (or_else inner [])) (Some (rows_at (shape_of_form f) words)) = rw shape refl in
      ap₂ judged start.0 start.1 ∙ after ∙ below_last inner (Some (rows_at (shape_of_form f) words))
      ∙ when_map (λ (rows : List Row). (f.title, rows)) (clean inner) (rows_after (rules_for f.choices) [] words)
      ∙ ap (option_map (λ (rows : List Row). (f.title, rows))) (level f.choices f.title apart words)

  unclean : (k : Kinds) (rest : Kinds) {X : Type 0} (o : Option X) → clean k ≡ false → when (clean (or_else k rest)) o ≡ None
  unclean [] rest o e = absurd (true≢false e)
  unclean (x ∷ k) rest o e = refl

  still : (t rest : Kinds) → clean t ≡ false → clean (or_else t rest) ≡ false
  still [] rest e = absurd (true≢false e)
  still (k ∷ ks) rest e = refl

  faulty : (words : List Text) → clean (walk_fault top_shape (names_of line_app) (walk_from nothing_held) words) ≡ false → line_rows words ≡ None
  faulty words e =
      let w : Walk = walk [] (names_of line_app) nothing_held words in
      judged_is words
      ∙ unclean (walk_fault top_shape (names_of line_app) (walk_from nothing_held) words) (or_else (entered_fault line_app w.stopped) (or_else (settle_fault [] false w.held)
      (or_else (defaults_fault (settled [] w.held).rows []) (check_fault top_shape (finished [] w.held) (is_some (entered line_app w.stopped)))))) (entered line_app w.stopped) e

  first_fails : (word : Text) (words : List Text) → clean (turn_fault top_shape (names_of line_app) (walk_from nothing_held) word) ≡ false → line_rows (word ∷ words) ≡ None
  unfolding walk_fault
  first_fails word words e = faulty (word ∷ words)
      (still (turn_fault top_shape (names_of line_app) (walk_from nothing_held) word) (walk_fault top_shape (names_of line_app) (walked [] (names_of line_app) (walk_from nothing_held) word) words) e)

  dashes_fail : (word : Text) (words : List Text) → find (answers_to word) (names_of line_app) ≡ None → bytes_eq word (45 ∷ 45 ∷ []) ≡ true → line_rows (word ∷ words) ≡ None
  unfolding walk_fault walked defaults_fault
  dashes_fail word [] none d = rw (none, d) refl
  dashes_fail word (next ∷ rest) none d = faulty (word ∷ next ∷ rest) (rw (none, d) refl)

  -- or it doesn't
  refuses : (word : Text) (words : List Text) → form_of forms word ≡ None → line_rows (word ∷ words) ≡ None
  unfolding flags_fault bundle_met
  refuses word words e = go (look word)
    where
      none : find (answers_to word) (names_of line_app) ≡ None
      none = named_form word forms ∙ ap (option_map (λ (g : Form). (g.title, []))) e

      go : Look word → line_rows (word ∷ words) ≡ None
      go (dashes d i) = dashes_fail word words none d
      go (long p d l w i) = first_fails word words (rw (none, d, l) refl)
      go (plain d l w sh i) = first_fails word words (rw (none, d, l, sh) refl)
      go (short flags k n d l w sh i) = by_chars (chars flags) refl
        where
          by_chars : (cs : Text) → chars flags ≡ cs → line_rows (word ∷ words) ≡ None
          by_chars [] f = first_fails word words (rw (none, d, l, sh, n, f) refl)
          by_chars (x ∷ xs) f = first_fails word words (rw (none, d, l, sh, n, f) refl)

  abbrev pub keeps_apart : List Form → Bool
  keeps_apart fs = list_all (λ (f : Form). not (is_some (choice_of f.choices names_id))) fs

  not_some : {X : Type 0} (o : Option X) → not (is_some o) ≡ true → o ≡ None
  not_some None e = refl
  not_some (Some x) e = absurd (true≢false (sym e))

  apart_at : (fs : List Form) → keeps_apart fs ≡ true → (word : Text) (f : Form) → form_of fs word ≡ Some f → choice_of f.choices names_id ≡ None
  apart_at [] all word f e = absurd (true≢false (ap (λ (c : Option Form). not (is_some c)) e))
  apart_at (x ∷ xs) all word f e = go (bytes_eq x.title word) e (both _ _ all).0 (apart_at xs (both _ _ all).1 word f)
    where
      go : (b : Bool) → cond b (Some x) (form_of xs word) ≡ Some f → not (is_some (choice_of x.choices names_id)) ≡ true
          → (form_of xs word ≡ Some f → choice_of f.choices names_id ≡ None) → choice_of f.choices names_id ≡ None
      go true e h later = let same : x ≡ f = cc in rw (← same) (not_some (choice_of x.choices names_id) h)
      go false e h later = later e

  -- clap finds no fault exactly where a command is spelled, and gives its name and its rows
  pub line : keeps_apart forms ≡ true → (words : List Text) → line_rows words ≡ spelled_rows forms words
  unfolding walk_fault defaults_fault
  line apart [] = refl
  line apart (word ∷ words) = go (form_of forms word) refl
    where
      go : (c : Option Form) → form_of forms word ≡ c → line_rows (word ∷ words) ≡ option_and_then (λ f. rows_behind f words) c
      go None e = refuses word words e
      go (Some f) e = enters word words f (apart_at forms apart word f e) e
