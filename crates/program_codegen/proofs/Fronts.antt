-- Lines of a block by themselves: where they go, which codes they write, and where kept registers stay.
use Rattle.std.proofs.Common.{◌≡◌, ℕ, ◌+◌, ◌<◌, ◌≤◌, refl, sym, ap, ◌∙◌, subst, arith, List, [], ◌∷◌, ◌++◌, length, map, Option, Some, None, Bool, true, false, length-append}
use Rattle.std.specs.Prelude.{◌==◌, ◌&&◌, ◌||◌, not, All}
use Rattle.std.specs.List.{list_all, list_any}
use Rattle.std.proofs.lemmas.Bool.Decides.{nat_tests}
use Rattle.std.proofs.lemmas.Bool.{and_parts, or_from}
use Rattle.std.proofs.lemmas.List.Folds.{list_any-append}
use Rattle.alpha_encode.specs.Words.{IsEncodable}
use Rattle.alpha_encode.specs.declared.instr.AlphaInstr.{AlphaInstr}
use Rattle.block_law.specs.Tidy.{is_kept, register_written, may_fault, keeps_until, writes_register}
use Rattle.program_codegen.specs.declared.lines.Line.{Line}
use Rattle.program_codegen.specs.declared.points.Site.{Site}
use Rattle.program_codegen.specs.Words.{plain, words_of, with_entry, exits_from}
use Rattle.program_codegen.proofs.Walk.{skip_behind}
use Rattle.program_codegen.proofs.Shapes.{EachFits, LineFits, each_append, row_fits, is_local}
use Rattle.program_codegen.proofs.Rows.{is_free, is_own, is_silent, list_all_of, own_local, own_free, silent_own, silent_quiet}

-- ---- where lines go
abbrev pub with_target : (exit : Option ℕ) → List ℕ → List ℕ
with_target None addresses = addresses
with_target (Some address) addresses = address ∷ addresses

abbrev pub targets : List Line → List ℕ
targets [] = []
targets (line ∷ lines) = with_target line.exit (targets lines)

with_append : (exit : Option ℕ) (xs ys : List ℕ) → with_target exit (xs ++ ys) ≡ with_target exit xs ++ ys
with_append None xs ys = refl
with_append (Some address) xs ys = refl

pub targets_append : (xs ys : List Line) → targets (xs ++ ys) ≡ targets xs ++ targets ys
targets_append [] ys = refl
targets_append (x ∷ xs) ys = ap (with_target x.exit) (targets_append xs ys) ∙ with_append x.exit (targets xs) (targets ys)

pub row_targets : (is : List AlphaInstr) → targets (map plain is) ≡ []
row_targets [] = refl
row_targets (i ∷ is) = row_targets is

pub exits_go : (w : ℕ) (lines : List Line) → map (λ (e : ℕ × ℕ). e.1) (exits_from w lines) ≡ targets lines
exits_go w [] = refl
exits_go w (line ∷ lines) = by line.exit (exits_go (w + 1) lines)
  where
    by : (o : Option ℕ) → map (λ (e : ℕ × ℕ). e.1) (exits_from (w + 1) lines) ≡ targets lines → map (λ (e : ℕ × ℕ). e.1) (with_entry o w (exits_from (w + 1) lines)) ≡ with_target o (targets lines)
    by None e = e
    by (Some address) e = ap (λ xs. address ∷ xs) e

-- ---- words
pub words_append : (xs ys : List Line) → words_of (xs ++ ys) ≡ words_of xs ++ words_of ys
words_append [] ys = refl
words_append (x ∷ xs) ys = ap (λ is. x.instr ∷ is) (words_append xs ys)

pub row_words_are : (is : List AlphaInstr) → words_of (map plain is) ≡ is
row_words_are [] = refl
row_words_are (i ∷ is) = ap (λ js. i ∷ js) (row_words_are is)

pub any_neither : (f : AlphaInstr → Bool) (xs ys : List Line) → list_any f (words_of xs) ≡ false → list_any f (words_of ys) ≡ false → list_any f (words_of (xs ++ ys)) ≡ false
any_neither f xs ys e g = ap (list_any f) (words_append xs ys) ∙ (list_any-append f (words_of xs) (words_of ys) ∙ or_from (list_any f (words_of xs)) (list_any f (words_of ys)) e g)

-- R16 to R19 are the codes'
abbrev pub SparesCodes : List AlphaInstr → Type 0
SparesCodes is = (r : ℕ) → 16 ≤ r → r < 20 → writes_register r is ≡ false

free_other : (n r : ℕ) → not (is_kept n) ≡ true → 16 ≤ r → r < 20 → (n == r) ≡ false
free_other n r e low high = grind (arith, nat_tests, e)

pub free_spares : (is : List AlphaInstr) → list_all is_free is ≡ true → SparesCodes is
free_spares [] e r low high = refl
free_spares (i ∷ is) e r low high =
    let x = and_parts (is_free i) (list_all is_free is) e in
    or_from (register_written i == r) (writes_register r is) (free_other (register_written i) r x.0 low high) (free_spares is x.1 r low high)

-- ---- where kept registers stay
-- behind a change nothing may fault any more
abbrev pub KeptBy : (changed : Bool) → List AlphaInstr → Type 0
KeptBy true is = list_any may_fault is ≡ false
KeptBy false is = keeps_until may_fault is ≡ true

pub quiet_keeps : (may : AlphaInstr → Bool) (is : List AlphaInstr) → list_any may is ≡ false → keeps_until may is ≡ true
quiet_keeps may [] e = refl
quiet_keeps may (i ∷ is) e = by (may i) (list_any may is) refl e (quiet_keeps may is)
  where
    by : (a b : Bool) → list_any may is ≡ b → (a || b) ≡ false → (list_any may is ≡ false → keeps_until may is ≡ true) → (not (is_kept (register_written i) && list_any may is) && keeps_until may is) ≡ true
    by true b f e rest = absurd (cc e)
    by false true f e rest = absurd (cc e)
    by false false f e rest = rw (f, rest f) (last (is_kept (register_written i)))
      where
        last : (k : Bool) → (not (k && false) && true) ≡ true
        last true = refl
        last false = refl

pub quiet_kept : (changed : Bool) (is : List AlphaInstr) → list_any may_fault is ≡ false → KeptBy changed is
quiet_kept true is e = e
quiet_kept false is e = quiet_keeps may_fault is e

pub free_keeps : (may : AlphaInstr → Bool) (is js : List AlphaInstr) → list_all is_free is ≡ true → keeps_until may js ≡ true → keeps_until may (is ++ js) ≡ true
free_keeps may [] js e k = k
free_keeps may (i ∷ is) js e k =
    let x = and_parts (is_free i) (list_all is_free is) e in
    by (is_kept (register_written i)) x.0 (free_keeps may is js x.1 k)
  where
    by : (kept : Bool) → not kept ≡ true → keeps_until may (is ++ js) ≡ true → (not (kept && list_any may (is ++ js)) && keeps_until may (is ++ js)) ≡ true
    by true e k = absurd (cc e)
    by false e k = k

-- ---- lines before others
pub record Front (site : Site) (lines : List Line) : Type 0 where
  pub each : EachFits site 0 lines
  pub stays : targets lines ≡ []
  pub spares : SparesCodes (words_of lines)

pub row_front : (site : Site) (is : List AlphaInstr) → All IsEncodable is → list_all is_own is ≡ true → Front site (map plain is)
row_front site is encodable own = record {
  each = row_fits site is encodable (list_all_of is_own is_local own_local is own);
  stays = row_targets is;
  spares = subst SparesCodes (sym (row_words_are is)) (free_spares is (list_all_of is_own is_free own_free is own));
}

pub spares_append : (xs ys : List Line) → SparesCodes (words_of xs) → SparesCodes (words_of ys) → SparesCodes (words_of (xs ++ ys))
spares_append xs ys a b r low high = any_neither (λ i. register_written i == r) xs ys (a r low high) (b r low high)

pub front_append : (site : Site) (xs ys : List Line) → Front site xs → Front site ys → Front site (xs ++ ys)
front_append site xs ys a b = record {
  each = each_append site 0 xs ys a.each b.each;
  stays = targets_append xs ys ∙ (ap (λ zs. zs ++ targets ys) a.stays ∙ b.stays);
  spares = spares_append xs ys a.spares b.spares;
}

pub no_front : (site : Site) → Front site []
no_front site = record { each = refl; stays = refl; spares = λ r low high. refl }

pub line_front : (site : Site) (line : Line) → line.exit ≡ None → LineFits site None 0 line → ((r : ℕ) → 16 ≤ r → r < 20 → (register_written line.instr == r) ≡ false) → Front site (line ∷ [])
line_front site line none fits other = record {
  each = by line.exit none fits;
  stays = ap (λ o. with_target o []) none;
  spares = λ r low high. or_from (register_written line.instr == r) false (other r low high) refl;
}
  where
    by : (o : Option ℕ) → o ≡ None → LineFits site None 0 line → LineFits site o 0 line × (skip_behind o 0 ≡ 0)
    by None e fits = (fits, refl)
    by (Some address) e fits = absurd (cc e)

-- ---- what is stated of the lines of a program from some operation on
pub record Shape (site : Site) (changed : Bool) (codes : List AlphaInstr) (addresses : List ℕ) (most : ℕ) (lines : List Line) : Type 0 where
  pub each : EachFits site 0 lines
  pub kept : KeptBy changed (words_of lines)
  pub goes : targets lines ≡ addresses
  pub writes : (r : ℕ) → 16 ≤ r → r < 20 → writes_register r (words_of lines) ≡ writes_register r codes
  pub short : length lines ≤ most

module _ (site : Site) (codes : List AlphaInstr) (addresses : List ℕ) where
  behind_front : (changed changed' : Bool) (n most most' : ℕ) (xs ys : List Line) → Front site xs → KeptBy changed (words_of (xs ++ ys)) → length xs ≤ n → n + most ≤ most' → Shape site changed' codes addresses most ys → Shape site changed codes addresses most' (xs ++ ys)
  behind_front changed changed' n most most' xs ys front kept few room shape =
      let count = length-append xs ys in
      let short = shape.short in
      record {
        each = each_append site 0 xs ys front.each shape.each;
        kept = kept;
        goes = targets_append xs ys ∙ (ap (λ zs. zs ++ targets ys) front.stays ∙ shape.goes);
        writes = λ r low high.
            ap (writes_register r) (words_append xs ys)
            ∙ (list_any-append (λ i. register_written i == r) (words_of xs) (words_of ys)
            ∙ (ap (λ b. b || writes_register r (words_of ys)) (front.spares r low high) ∙ shape.writes r low high));
        short = omega arith;
      }

  -- words that make no access and write no kept register
  pub silent_front : (changed : Bool) (n most most' : ℕ) (is : List AlphaInstr) (ys : List Line) → All IsEncodable is → list_all is_silent is ≡ true → length (map plain is) ≤ n → n + most ≤ most'
      → Shape site changed codes addresses most ys → Shape site changed codes addresses most' (map plain is ++ ys)
  silent_front changed n most most' is ys encodable silent few room shape =
      let own = list_all_of is_silent is_own silent_own is silent in
      behind_front changed changed n most most' (map plain is) ys (row_front site is encodable own) (by changed shape.kept) few room shape
    where
      words : words_of (map plain is ++ ys) ≡ is ++ words_of ys
      words = words_append (map plain is) ys ∙ ap (λ js. js ++ words_of ys) (row_words_are is)

      by : (changed : Bool) → KeptBy changed (words_of ys) → KeptBy changed (words_of (map plain is ++ ys))
      by true kept = ap (list_any may_fault) words ∙ (list_any-append may_fault is (words_of ys) ∙ or_from (list_any may_fault is) (list_any may_fault (words_of ys)) (silent_quiet is silent) kept)
      by false kept = ap (keeps_until may_fault) words ∙ free_keeps may_fault is (words_of ys) (list_all_of is_own is_free own_free is (list_all_of is_silent is_own silent_own is silent)) kept

  -- words that may fault, where nothing was changed
  pub free_front : (changed : Bool) (n most most' : ℕ) (xs ys : List Line) → changed ≡ false → Front site xs → list_all is_free (words_of xs) ≡ true → length xs ≤ n → n + most ≤ most'
      → Shape site changed codes addresses most ys → Shape site changed codes addresses most' (xs ++ ys)
  free_front true n most most' xs ys unchanged front free few room shape = absurd (cc unchanged)
  free_front false n most most' xs ys unchanged front free few room shape =
      behind_front false false n most most' xs ys front (ap (keeps_until may_fault) (words_append xs ys) ∙ free_keeps may_fault (words_of xs) (words_of ys) free shape.kept) few room shape

  -- a change
  pub change_front : (changed : Bool) (n most most' : ℕ) (xs ys : List Line) → Front site xs → list_any may_fault (words_of xs) ≡ false → length xs ≤ n → n + most ≤ most'
      → Shape site true codes addresses most ys → Shape site changed codes addresses most' (xs ++ ys)
  change_front changed n most most' xs ys front quiet few room shape =
      behind_front changed true n most most' xs ys front (quiet_kept changed (words_of (xs ++ ys)) (any_neither may_fault xs ys quiet shape.kept)) few room shape
