-- A span that does not join is kept.
use Rattle.std.proofs.Common.{◌≡◌, Bool, true, false, not, cond, [], ◌∷◌, ◌++◌, ◌∙◌, ap, sym, get_or, take}
use Rattle.std.specs.Prelude.{filter, fold}
use Rattle.std.proofs.lemmas.List.{append-nil}
use Rattle.std.proofs.lemmas.List.Elements.{filter_more}
use Rattle.image_parts.specs.declared.spans.Span.{Span}
use Rattle.image_parts.specs.Sections.{joins, hull}
use Rattle.image_parts.proofs.spans.joined.Goals as goal
use Rattle.image_parts.proofs.spans.joined.Goals.{then-not-joins+in_ok-push-2, else-not-joins}

pub loop-other-preserved : goal.loop-other-preserved
loop-other-preserved c =
    let span = c.args.span.now in
    let others = c.args.others.now in
    let place = c.loop-other.other-index in
    let none : Span = record { start = 0; end = 0; writable = false } in
    let other = get_or others place none in
    let whole = fold hull span (filter (joins span) others) in
    let apart : Span → Bool = λ t. not (joins span t) in
    let before = filter apart (take place others) in
    let more = filter_more apart others place none c.loop-other-test.true in
    elim c.if-not-joins.branch [
      | then-not-joins+in_ok-push-2 w ↦
          let stays : joins span other ≡ false = sym c.joins.ensures ∙ w.if-not-joins.true in
          ap (λ v. v.items) w.spans-is ∙ w.in_ok-push-2.ensures.items ∙ ap (λ spans. spans ++ other ∷ []) c.loop-other.invariant
          ∙ ap (λ spans. whole ∷ spans) (ap (λ b. before ++ cond (not b) (other ∷ []) []) (sym stays) ∙ sym more)
      | else-not-joins w ↦
          let goes : joins span other ≡ true = sym c.joins.ensures ∙ w.if-not-joins.false in
          ap (λ v. v.items) w.spans-is ∙ c.loop-other.invariant
          ∙ ap (λ spans. whole ∷ spans) (sym (append-nil before) ∙ ap (λ b. before ++ cond (not b) (other ∷ []) []) (sym goes) ∙ sym more)
    ]
