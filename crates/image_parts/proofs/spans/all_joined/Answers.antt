-- The span before those that are done joins them.
use Rattle.std.proofs.Common.{◌≡◌, ◌+◌, ◌-◌, ◌<◌, ◌∷◌, ◌∙◌, false, drop, get_or, length, sym, ap, arith}
use Rattle.std.proofs.lemmas.List.{at_drop_more}
use Rattle.image_parts.specs.declared.spans.Span.{Span}
use Rattle.image_parts.specs.Sections.{joined, all_joined}
use Rattle.image_parts.proofs.spans.all_joined.Goals as goal

pub loop-done-preserved : goal.loop-done-preserved
loop-done-preserved c =
    let spans = c.args.spans.now in
    let done = c.loop-done.done in
    let none : Span = record { start = 0; end = 0; writable = false } in
    let place = length spans - 1 - done in
    let behind : place + 1 ≡ length spans - done = omega arith in
    let before : place ≡ length spans - (done + 1) = omega arith in
    let within : place < length spans = omega arith in
    c.in_ok-whole.ensures
    ∙ ap (joined (get_or spans place none)) (c.deref.ensures.value ∙ c.loop-done.invariant)
    ∙ ap (λ n. all_joined (get_or spans place none ∷ drop n spans)) (sym behind)
    ∙ sym (at_drop_more all_joined spans place none within)
    ∙ ap (λ n. all_joined (drop n spans)) before
