use Rattle.std.proofs.Common.{◌≡◌, ◌++◌, [], ◌∷◌, append-nil, get_or, refl, sym, ◌∙◌, ap, arith, List, ℕ, Option, Some, None}
use Rattle.std.specs.Prelude.{pos}
use Rattle.alpha_encode.specs.declared.instr.AlphaInstr.TheVariants.{Memory}
use Rattle.alpha_encode.specs.declared.instr.MemoryOp.TheVariants.{Lda}
use Rattle.exception_records.specs.Points.{Entry}
use Rattle.exception_records.specs.declared.points.Point.{Point}
use Rattle.program_codegen.specs.declared.lines.Line.{Line}
use Rattle.program_codegen.specs.Words.{with_entry}
use Rattle.program_codegen.proofs.Lists.{step_words, step_points, step_exits}
use Rattle.program_codegen.proofs.lines.push_lines.Goals as goal
use Rattle.program_codegen.proofs.lines.push_lines.Goals.{in-Some+in_ok-push-2, in_default, in-Some-point+in_ok-push-3, in_default-point}

none : Line
none = record { instr = Memory Lda 0 0 (pos 0); point = None; exit = None }

by_none : {A : Type 0} (xs : List (ℕ × A)) (k : ℕ) (o : Option A) → ((x : A) → o ≡ Some x → ⊥) → xs ≡ xs ++ with_entry o k []
by_none xs k None h = sym (append-nil xs)
by_none xs k (Some x) h = absurd (h x refl)

pub loop-word-preserved : goal.loop-word-preserved
unfolding none
loop-word-preserved c =
    let inside = c.loop-word-test.true in
    let lines = c.args.lines.now in
    let k = c.loop-word.word in
    let words_pushed : c.match-line.block-inside.words.items ≡ c.loop-word.block-inside.words.items ++ (get_or c.args.lines.now c.loop-word.word none).instr ∷ [] =
    elim c.match-line.branch [
      | in-Some+in_ok-push-2 v ↦ rw v.block-inside-is c.in_ok-push.ensures.items
      | in_default v ↦ rw v.block-inside-is c.in_ok-push.ensures.items
    ] in
    let exits_pushed : c.match-line.block-inside.exits.items ≡ c.loop-word.block-inside.exits.items ++ with_entry (get_or c.args.lines.now c.loop-word.word none).exit c.loop-word.word [] =
    elim c.match-line.branch [
      | in-Some+in_ok-push-2 v ↦
          let add : Option ℕ → List (ℕ × ℕ) = λ o. c.loop-word.block-inside.exits.items ++ with_entry o c.loop-word.word [] in
          rw v.block-inside-is (v.in_ok-push-2.ensures.items ∙ sym (ap add v.in-Some.is))
      | in_default v ↦ rw v.block-inside-is (by_none c.loop-word.block-inside.exits.items c.loop-word.word _ v.in_default.not-Some)
    ] in
    let points_same : c.match-line.block-inside.points.items ≡ c.loop-word.block-inside.points.items =
    elim c.match-line.branch [
      | in-Some+in_ok-push-2 v ↦ rw v.block-inside-is refl
      | in_default v ↦ rw v.block-inside-is refl
    ] in record {
      within = omega arith;
      words = step_words lines k none inside c.loop-word.block-inside.words.items c.match-line-2.block-inside.words.items c.loop-word.invariant.words
          (elim c.match-line-2.branch [
            | in-Some-point+in_ok-push-3 w ↦ rw w.block-inside-is words_pushed
            | in_default-point w ↦ rw w.block-inside-is words_pushed
          ]);
      exits = step_exits lines k none inside c.loop-word.block-inside.exits.items c.match-line-2.block-inside.exits.items c.loop-word.invariant.exits
          (elim c.match-line-2.branch [
            | in-Some-point+in_ok-push-3 w ↦ rw w.block-inside-is exits_pushed
            | in_default-point w ↦ rw w.block-inside-is exits_pushed
          ]);
      points = step_points lines k none inside c.loop-word.block-inside.points.items c.match-line-2.block-inside.points.items c.loop-word.invariant.points
          (elim c.match-line-2.branch [
            | in-Some-point+in_ok-push-3 w ↦
                let add : Option Point → List Entry = λ o. c.loop-word.block-inside.points.items ++ with_entry o c.loop-word.word [] in
                rw w.block-inside-is (w.in_ok-push-3.ensures.items ∙ (ap (λ xs. xs ++ (c.loop-word.word, w.in-Some-point.point) ∷ []) points_same ∙ sym (ap add w.in-Some-point.is)))
            | in_default-point w ↦ rw w.block-inside-is (points_same ∙ by_none c.loop-word.block-inside.points.items c.loop-word.word _ w.in_default-point.not-Some)
          ]);
    }
