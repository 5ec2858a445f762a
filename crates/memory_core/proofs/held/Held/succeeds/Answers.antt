use Rattle.std.proofs.Common.{◌≡◌, ◌<◌, ◌∙◌, ap, sym, subst, arith, length, reverse, slice_index_or}
use Rattle.memory_core.specs.Held.{Holding}
use Rattle.memory_core.specs.Fields.{IsKept}
use Rattle.memory_core.specs.Order.{succeeds}
use Rattle.memory_core.specs.Reservations.{none}
use Rattle.memory_core.specs.Sound.{set_up_of}
use Rattle.memory_core.proofs.Choices.{any_default}
use Rattle.memory_core.proofs.Counting.{succeeds_by}
use Rattle.memory_core.proofs.held.Held.succeeds.Goals as goal

pub returns-then-is_conditional : goal.returns-then-is_conditional
returns-then-is_conditional c =
    let m = c.self.inside in
    let r = c.args.request.now in
    let processors = ap (λ (v : Holding). v.contents.processors) c.self.view_is in
    let here : r.processor < length m.reservations.items = omega (arith, c.requires, processors) in
    let own = c.index.result.now in
    let is : own ≡ slice_index_or m.reservations.items r.processor none = c.index.ensures ∙ any_default m.reservations.items r.processor own none here in
    let kept : IsKept m.miss (reverse m.history.entries) r.processor own =
    subst (IsKept m.miss (reverse m.history.entries) r.processor) (sym is) (c.self.invariant.kept r.processor here) in
    c.may_store.ensures
    ∙ succeeds_by (set_up_of m) (reverse m.history.entries) r.processor r.kind r.quad own kept (sym c.is_conditional.ensures ∙ c.if-is_conditional.true)
    ∙ ap (λ (v : Holding). succeeds v.contents.set_up (reverse v.contents.history) r.processor r.kind r.quad) c.self.view_is
