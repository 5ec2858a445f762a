-- A block of lines has the shape of a block.
use Rattle.std.proofs.Common.{◌≡◌, ℕ, zero, suc, ◌+◌, ◌<◌, ◌≤◌, refl, sym, ap, ◌∙◌, subst, arith, List, [], ◌∷◌, length, get_or, Option, Some, None, Bool, true, false, cond, eqb-true, zero-add}
use Rattle.std.specs.Prelude.{◌==◌, ◌&&◌, ◌||◌, not, nat_lt, nat_le, slice_get, find, option_map}
use Rattle.std.proofs.lemmas.Bool.Decides.{nat_tests}
use Rattle.std.proofs.lemmas.Option.{slice_get_within, same_Some}
use Rattle.std.proofs.lemmas.Bool.{le-ltb}
use Rattle.alpha_encode.specs.declared.instr.AlphaInstr.{AlphaInstr}
use Rattle.exception_records.specs.Points.{Entry, point_at}
use Rattle.exception_records.specs.declared.points.Point.{Point}
use Rattle.block_law.specs.Blocks.{IsBlockOf, IsPointOf, is_exit_word, is_past_exit, is_quiet}
use Rattle.block_law.specs.Tidy.{keeps_to, keeps_until}
use Rattle.block_law.specs.Translations.{done_at}
use Rattle.program_codegen.specs.declared.lines.Line.{Line}
use Rattle.program_codegen.specs.declared.points.Site.{Site}
use Rattle.program_codegen.specs.Words.{point_of, with_first, words_of, with_entry, points_from, exits_from, block_of}
use Rattle.program_codegen.proofs.Walk.{skip_behind, counted}
use Rattle.program_codegen.proofs.Starting.{IsWholeLine, not_before}
use Rattle.program_codegen.proofs.Compiled.{word_of_line, words_length, first_length, first_words}
use Rattle.program_codegen.proofs.Shapes.{PointFits, QuietFits, EachFits, encoded, all_translated, exits_within, exits_rise, points_rise, first_each}

-- ---- the words of exits
-- a word of an exit that began before, or of one behind
abbrev Covers : (skip w : ℕ) → List Line → (q : ℕ) → Bool
Covers skip w lines q = nat_lt q (w + skip) || is_exit_word (exits_from w lines) q

-- the same, but for their first words
abbrev IsPast : (skip w : ℕ) → List Line → (q : ℕ) → Bool
IsPast skip w lines q = nat_lt q (w + skip) || is_past_exit (exits_from w lines) q

covers_behind : (skip w q : ℕ) (line : Line) (lines : List Line) → IsWholeLine line.exit skip → w < q → Covers skip w (line ∷ lines) q ≡ Covers (skip_behind line.exit skip) (w + 1) lines q
covers_behind skip w q line lines whole lt = by line.exit whole
  where
    by : (o : Option ℕ) → IsWholeLine o skip → (nat_lt q (w + skip) || is_exit_word (with_entry o w (exits_from (w + 1) lines)) q) ≡ (nat_lt q (w + 1 + skip_behind o skip) || is_exit_word (exits_from (w + 1) lines) q)
    by None whole = ap (λ b. b || is_exit_word (exits_from (w + 1) lines) q) (counted w q skip lt)
    by (Some address) whole =
        let low : nat_le w q ≡ true = grind (arith, nat_tests) in
        let none : nat_lt q (w + skip) ≡ false = le-ltb q (w + skip) (omega arith) in
        let same : w + 3 ≡ w + 1 + 2 = omega arith in
        ap (λ b. b || ((nat_le w q && nat_lt q (w + 3)) || is_exit_word (exits_from (w + 1) lines) q)) none
        ∙ (ap (λ b. (b && nat_lt q (w + 3)) || is_exit_word (exits_from (w + 1) lines) q) low ∙ ap (λ n. nat_lt q n || is_exit_word (exits_from (w + 1) lines) q) same)

past_behind : (skip w q : ℕ) (line : Line) (lines : List Line) → IsWholeLine line.exit skip → w < q → IsPast skip w (line ∷ lines) q ≡ IsPast (skip_behind line.exit skip) (w + 1) lines q
past_behind skip w q line lines whole lt = by line.exit whole
  where
    by : (o : Option ℕ) → IsWholeLine o skip → (nat_lt q (w + skip) || is_past_exit (with_entry o w (exits_from (w + 1) lines)) q) ≡ (nat_lt q (w + 1 + skip_behind o skip) || is_past_exit (exits_from (w + 1) lines) q)
    by None whole = ap (λ b. b || is_past_exit (exits_from (w + 1) lines) q) (counted w q skip lt)
    by (Some address) whole =
        let low : nat_le w q ≡ true = grind (arith, nat_tests) in
        let other : (q == w) ≡ false = grind (arith, nat_tests) in
        let none : nat_lt q (w + skip) ≡ false = le-ltb q (w + skip) (omega arith) in
        let same : w + 3 ≡ w + 1 + 2 = omega arith in
        ap (λ b. b || ((nat_le w q && nat_lt q (w + 3) && not (q == w)) || is_past_exit (exits_from (w + 1) lines) q)) none
        ∙ (ap (λ b. (b && nat_lt q (w + 3) && not (q == w)) || is_past_exit (exits_from (w + 1) lines) q) low
        ∙ (ap (λ b. (nat_lt q (w + 3) && not b) || is_past_exit (exits_from (w + 1) lines) q) other ∙ (ap (λ b. b || is_past_exit (exits_from (w + 1) lines) q) (with_true (nat_lt q (w + 3))) ∙ ap (λ n. nat_lt q n || is_past_exit (exits_from (w + 1) lines) q) same)))
      where
        with_true : (b : Bool) → (b && true) ≡ b
        with_true true = refl
        with_true false = refl

past_not_before : (lines : List Line) (w q : ℕ) → q < w → is_past_exit (exits_from w lines) q ≡ false
past_not_before [] w q lt = refl
past_not_before (line ∷ lines) w q lt = by line.exit (past_not_before lines (w + 1) q (omega arith))
  where
    by : (o : Option ℕ) → is_past_exit (exits_from (w + 1) lines) q ≡ false → is_past_exit (with_entry o w (exits_from (w + 1) lines)) q ≡ false
    by None rest = rest
    by (Some address) rest = let out : nat_le w q ≡ false = grind (arith, nat_tests) in rw (out, rest) refl

module _ (site : Site) where
  quiet_words : (skip w : ℕ) (lines : List Line) (k : ℕ) (i : AlphaInstr) → EachFits site skip lines → Covers skip w lines (w + k) ≡ true → slice_get (words_of lines) k ≡ Some i → is_quiet i ≡ true
  quiet_words skip w [] k i each e is = absurd (cc is)
  quiet_words skip w (line ∷ lines) zero i each e is =
      let here : w + 0 ≡ w = omega arith in
      subst (λ i. is_quiet i ≡ true) (same_Some line.instr i is) (by line.exit skip each.0.quiet (subst (λ q. Covers skip w (line ∷ lines) q ≡ true) here e))
    where
      by : (o : Option ℕ) (skip : ℕ) → QuietFits o skip line → (nat_lt w (w + skip) || is_exit_word (with_entry o w (exits_from (w + 1) lines)) w) ≡ true → is_quiet line.instr ≡ true
      by None zero quiet e =
          let a : nat_lt w (w + 0) ≡ false = grind (arith, nat_tests) in
          let none : (nat_lt w (w + 0) || is_exit_word (exits_from (w + 1) lines) w) ≡ false = ap (λ b. b || is_exit_word (exits_from (w + 1) lines) w) a ∙ not_before lines (w + 1) w (omega arith) in
          absurd (cc (sym none ∙ e))
      by None (suc skip) quiet e = quiet.0
      by (Some address) skip quiet e = quiet
  quiet_words skip w (line ∷ lines) (suc k) i each e is =
      let there : w + suc k ≡ w + 1 + k = omega arith in
      quiet_words (skip_behind line.exit skip) (w + 1) lines k i each.1
      (subst (λ q. Covers (skip_behind line.exit skip) (w + 1) lines q ≡ true) there (sym (covers_behind skip w (w + suc k) line lines each.0.whole (omega arith)) ∙ e)) is

  -- a word with a point is none of these
  not_past : (skip w : ℕ) (lines : List Line) (k : ℕ) (line : Line) (q : Point) → EachFits site skip lines → slice_get lines k ≡ Some line → line.point ≡ Some q → IsPast skip w lines (w + k) ≡ false
  not_past skip w [] k line q each is its = absurd (cc is)
  not_past skip w (l ∷ lines) zero line q each is its =
      let here : w + 0 ≡ w = omega arith in
      subst (λ n. IsPast skip w (l ∷ lines) n ≡ false) (sym here) (by l.exit skip each.0.whole each.0.quiet (ap (λ (l : Line). l.point) (same_Some l line is) ∙ its))
    where
      by : (o : Option ℕ) (skip : ℕ) → IsWholeLine o skip → QuietFits o skip l → l.point ≡ Some q → (nat_lt w (w + skip) || is_past_exit (with_entry o w (exits_from (w + 1) lines)) w) ≡ false
      by None zero whole quiet e = let a : nat_lt w (w + 0) ≡ false = grind (arith, nat_tests) in ap (λ b. b || is_past_exit (exits_from (w + 1) lines) w) a ∙ past_not_before lines (w + 1) w (omega arith)
      by None (suc skip) whole quiet e = absurd (cc (sym quiet.1 ∙ e))
      by (Some address) skip whole quiet e =
          let a : nat_lt w (w + skip) ≡ false = grind (arith, nat_tests, whole) in
          let same : (w == w) ≡ true = grind (arith, nat_tests) in
          ap (λ b. b || ((nat_le w w && nat_lt w (w + 3) && not (w == w)) || is_past_exit (exits_from (w + 1) lines) w)) a
          ∙ (ap (λ b. (nat_le w w && nat_lt w (w + 3) && not b) || is_past_exit (exits_from (w + 1) lines) w) same ∙ (ap (λ b. b || is_past_exit (exits_from (w + 1) lines) w) (with_false (nat_le w w && nat_lt w (w + 3))) ∙ past_not_before lines (w + 1) w (omega arith)))
        where
          with_false : (b : Bool) → (b && false) ≡ false
          with_false true = refl
          with_false false = refl
  not_past skip w (l ∷ lines) (suc k) line q each is its =
      let there : w + suc k ≡ w + 1 + k = omega arith in
      past_behind skip w (w + suc k) l lines each.0.whole (omega arith)
      ∙ subst (λ n. IsPast (skip_behind l.exit skip) (w + 1) lines n ≡ false) (sym there) (not_past (skip_behind l.exit skip) (w + 1) lines k line q each.1 is its)

  point_fits_at : (skip : ℕ) (lines : List Line) (k : ℕ) (line : Line) → EachFits site skip lines → slice_get lines k ≡ Some line → PointFits site line.instr line.point
  point_fits_at skip [] k line each is = absurd (cc is)
  point_fits_at skip (l ∷ lines) zero line each is = subst (λ (l : Line). PointFits site l.instr l.point) (same_Some l line is) each.0.its_point
  point_fits_at skip (l ∷ lines) (suc k) line each is = point_fits_at (skip_behind l.exit skip) lines k line each.1 is

-- ---- points are lines'
pub record HasPoint (w : ℕ) (lines : List Line) (word : ℕ) (point : Point) : Type 0 where
  pub k : ℕ
  pub line : Line
  pub at : word ≡ w + k
  pub is : slice_get lines k ≡ Some line
  pub its : line.point ≡ Some point

line_of : (lines : List Line) (w word : ℕ) (point : Point) → point_at (points_from w lines) word ≡ Some point → HasPoint w lines word point
line_of [] w word point e = absurd (cc e)
line_of (l ∷ lines) w word point e = by (λ e. line_of lines (w + 1) word point e) l.point refl e
  where
    further : (point_at (points_from (w + 1) lines) word ≡ Some point → HasPoint (w + 1) lines word point) → point_at (points_from (w + 1) lines) word ≡ Some point → HasPoint w (l ∷ lines) word point
    further later e = let x = later e in let at = x.at in record { k = suc x.k; line = x.line; at = omega arith; is = x.is; its = x.its }

    here : (point_at (points_from (w + 1) lines) word ≡ Some point → HasPoint (w + 1) lines word point) → (q : Point) (b : Bool) → l.point ≡ Some q → (w == word) ≡ b → option_map (λ (e : Entry). e.1) (cond b (Some (w, q)) (find (λ (e : Entry). e.0 == word) (points_from (w + 1) lines))) ≡ Some point → HasPoint w (l ∷ lines) word point
    here later q true is same e = let at : w ≡ word = eqb-true w word same in record { k = 0; line = l; at = omega arith; is = refl; its = is ∙ e }
    here later q false is same e = further later e

    by : (point_at (points_from (w + 1) lines) word ≡ Some point → HasPoint (w + 1) lines word point)
        → (o : Option Point) → l.point ≡ o → point_at (with_entry o w (points_from (w + 1) lines)) word ≡ Some point → HasPoint w (l ∷ lines) word point
    by later None is e = further later e
    by later (Some q) is e = here later q (w == word) is refl e

-- ---- a block
module _ (loops : Bool) (site : Site) (lines : List Line) (each : EachFits site 0 lines) (some : 1 ≤ length lines) (few : length lines ≤ 256) (keeps : keeps_until (keeps_to loops) (words_of lines) ≡ true) where
  abbrev all : List Line
  all = with_first (point_of site) lines

  abbrev all_each : EachFits site 0 all
  all_each = first_each site lines each

  size : length (words_of all) ≡ length lines
  size = words_length all ∙ first_length (point_of site) lines

  first_has : (lines : List Line) → 1 ≤ length lines → (point : Point) × (point_at (points_from 0 (with_first (point_of site) lines)) 0 ≡ Some point)
  first_has [] le = absurd (omega arith)
  first_has (l ∷ lines) le = (_, refl)

  none_below : (q : ℕ) → nat_lt q (0 + 0) ≡ false
  none_below q = grind (arith, nat_tests)

  point_is : (word : ℕ) (point : Point) → HasPoint 0 all word point → IsPointOf site.at (block_of all) word point
  point_is word point x =
      let at : x.k ≡ word = let at = x.at in omega arith in
      let is : slice_get all word ≡ Some x.line = ap (slice_get all) (sym at) ∙ x.is in
      let lt = slice_get_within all word x.line is in
      let its = subst (PointFits site x.line.instr) x.its (point_fits_at site 0 all word x.line all_each is) in
      let past = not_past site 0 0 all word x.line point all_each is x.its in
      let count = words_length all in
      record {
        within = omega arith;
        no_exit = subst (λ n. is_past_exit (exits_from 0 all) n ≡ false) (zero-add word) (sym (ap (λ b. b || is_past_exit (exits_from 0 all) (0 + word)) (none_below (0 + word))) ∙ past);
        its = its.0;
        done = its.1 ∙ ap done_at (sym (word_of_line all word x.line is));
      }

  pub block_shape : IsBlockOf loops site.at (block_of all)
  block_shape =
      let first = first_has lines some in
      let count = size in
      let inside = exits_within site 0 0 (length (words_of all)) all all_each (let c = words_length all in omega arith) in
      record {
        tidy = record { some = omega arith; few = omega arith; keeps = ap (keeps_until (keeps_to loops)) (first_words (point_of site) lines) ∙ keeps; translated = all_translated site 0 all all_each };
        encodable = encoded site 0 all all_each;
        exits = inside;
        exits_apart = λ k d lt. let next : suc k ≡ k + 1 = omega arith in subst (λ n. (get_or (exits_from 0 all) k d).0 + 3 ≤ (get_or (exits_from 0 all) n d).0) next (exits_rise site 0 0 k d all all_each (omega arith));
        exits_quiet = λ word i is e. quiet_words site 0 0 all word i all_each
            (subst (λ n. Covers 0 0 all n ≡ true) (sym (zero-add word)) (ap (λ b. b || is_exit_word (exits_from 0 all) word) (none_below word) ∙ is)) e;
        points_rise = λ k d lt. let next : suc k ≡ k + 1 = omega arith in subst (λ n. (get_or (points_from 0 all) k d).0 < (get_or (points_from 0 all) n d).0) next (points_rise site 0 k d all (omega arith));
        points = λ word point e. point_is word point (line_of all 0 word point e);
        first = first.0;
        has_first = first.1;
      }
