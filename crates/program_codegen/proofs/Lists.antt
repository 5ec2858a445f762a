-- Lines one by one.
use Rattle.std.proofs.Common.{◌≡◌, ℕ, zero, suc, ◌+◌, ◌<◌, refl, sym, ap, ◌∙◌, arith, List, [], ◌∷◌, ◌++◌, length, Option, Some, None}
use Rattle.std.specs.Prelude.{take}
use Rattle.std.proofs.Common.{get_or}
use Rattle.std.proofs.lemmas.List.{take_more}
use Rattle.alpha_encode.specs.declared.instr.AlphaInstr.{AlphaInstr}
use Rattle.exception_records.specs.Points.{Entry}
use Rattle.program_codegen.specs.declared.lines.Line.{Line}
use Rattle.program_codegen.specs.Words.{words_of, with_entry, points_from, exits_from}

entry_append : {A : Type 0} (o : Option A) (word : ℕ) (xs ys : List (ℕ × A)) → with_entry o word (xs ++ ys) ≡ with_entry o word xs ++ ys
entry_append None word xs ys = refl
entry_append (Some x) word xs ys = refl

-- one line more
points_more : (word : ℕ) (lines : List Line) (line : Line) → points_from word (lines ++ line ∷ []) ≡ points_from word lines ++ with_entry line.point (word + length lines) []
points_more word [] line = let e : word + 0 ≡ word = omega arith in rw e refl
points_more word (l ∷ lines) line =
    let e : word + 1 + length lines ≡ word + suc (length lines) = omega arith in
    ap (with_entry l.point word) (points_more (word + 1) lines line)
    ∙ (entry_append l.point word (points_from (word + 1) lines) (with_entry line.point (word + 1 + length lines) [])
    ∙ ap (λ n. points_from word (l ∷ lines) ++ with_entry line.point n []) e)

exits_more : (word : ℕ) (lines : List Line) (line : Line) → exits_from word (lines ++ line ∷ []) ≡ exits_from word lines ++ with_entry line.exit (word + length lines) []
exits_more word [] line = let e : word + 0 ≡ word = omega arith in rw e refl
exits_more word (l ∷ lines) line =
    let e : word + 1 + length lines ≡ word + suc (length lines) = omega arith in
    ap (with_entry l.exit word) (exits_more (word + 1) lines line)
    ∙ (entry_append l.exit word (exits_from (word + 1) lines) (with_entry line.exit (word + 1 + length lines) [])
    ∙ ap (λ n. exits_from word (l ∷ lines) ++ with_entry line.exit n []) e)

words_more : (lines : List Line) (line : Line) → words_of (lines ++ line ∷ []) ≡ words_of lines ++ line.instr ∷ []
words_more [] line = refl
words_more (l ∷ lines) line = ap (λ is. l.instr ∷ is) (words_more lines line)

few : (lines : List Line) (k : ℕ) → k < length lines → length (take k lines) ≡ k
few [] k lt = absurd (omega arith)
few (l ∷ lines) zero lt = refl
few (l ∷ lines) (suc k) lt = ap suc (few lines k (omega arith))

-- ---- one step of the loop over lines
module _ (lines : List Line) (k : ℕ) (d : Line) (lt : k < length lines) where
  here : 0 + length (take k lines) ≡ k
  here = let count = few lines k lt in omega arith

  pub step_words : (old new : List AlphaInstr) → old ≡ words_of (take k lines) → new ≡ old ++ (get_or lines k d).instr ∷ [] → new ≡ words_of (take (k + 1) lines)
  step_words old new before is =
      is ∙ (ap (λ (xs : List AlphaInstr). xs ++ (get_or lines k d).instr ∷ []) before ∙ (sym (words_more (take k lines) (get_or lines k d)) ∙ ap words_of (sym (take_more lines k d lt))))

  pub step_points : (old new : List Entry) → old ≡ points_from 0 (take k lines) → new ≡ old ++ with_entry (get_or lines k d).point k [] → new ≡ points_from 0 (take (k + 1) lines)
  step_points old new before is =
      is ∙ (ap (λ (xs : List Entry). xs ++ with_entry (get_or lines k d).point k []) before
      ∙ (ap (λ n. points_from 0 (take k lines) ++ with_entry (get_or lines k d).point n []) (sym here) ∙ (sym (points_more 0 (take k lines) (get_or lines k d)) ∙ ap (points_from 0) (sym (take_more lines k d lt)))))

  pub step_exits : (old new : List (ℕ × ℕ)) → old ≡ exits_from 0 (take k lines) → new ≡ old ++ with_entry (get_or lines k d).exit k [] → new ≡ exits_from 0 (take (k + 1) lines)
  step_exits old new before is =
      is ∙ (ap (λ (xs : List (ℕ × ℕ)). xs ++ with_entry (get_or lines k d).exit k []) before
      ∙ (ap (λ n. exits_from 0 (take k lines) ++ with_entry (get_or lines k d).exit n []) (sym here) ∙ (sym (exits_more 0 (take k lines) (get_or lines k d)) ∙ ap (exits_from 0) (sym (take_more lines k d lt)))))
