use Rattle.std.proofs.Common.{◌≤◌, ◌+◌, ◌-◌, ◌^◌, ℕ, min, ◌∙◌, vec_capacity, ap, sym, subst, arith}
use Rattle.memory_core.specs.Held.{Holding}
use Rattle.memory_core.specs.Contents.{bytes_put}
use Rattle.memory_core.specs.Limits.{CountsPuts}
use Rattle.memory_core.proofs.GoingOn.{sent_sound}
use Rattle.memory_core.proofs.held.Held.send.Goals as goal

pub invariant_of-self : goal.invariant_of-self
invariant_of-self c =
    let m = c.self.inside in
    let view = c.self.view_is in
    let puts = subst (λ (v : Holding). CountsPuts v.contents.set_up.limit) (sym view) c.requires.puts in
    let room : c.args.buffer ≤ vec_capacity m.output = omega (arith, c.requires.room, ap (λ (v : Holding). v.output_room) view) in
    let all = c.bytes_put-self-inside.ensures ∙ ap (λ (v : Holding). bytes_put v.contents.history) (sym view) in
    let most = c.saturating_add.ensures ∙ ap (λ (n : ℕ). min (c.bytes_put-self-inside.result + n) (2 ^ 64 - 1)) c.from.ensures in
    sent_sound m c.self.invariant puts c.args.buffer room c.bytes_put-self-inside.result c.clear.new.self c.saturating_add.result
    all (omega arith) c.clear.ensures.items c.clear.ensures.capacity most
