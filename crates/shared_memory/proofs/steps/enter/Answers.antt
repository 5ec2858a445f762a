use Rattle.std.proofs.Common.{ap, sym, subst, ◌≡◌, ◌∙◌, arith, ℕ, Some}
use Rattle.memory_core.specs.Contents.{Contents}
use Rattle.memory_core.specs.Order.{own}
use Rattle.shared_memory.specs.Rule.{behind}
use Rattle.shared_memory.proofs.Keeps.{enters}
use Rattle.shared_memory.proofs.steps.enter.Goals as goal

pub compare_exchange_with-requires : goal.compare_exchange_with-requires
compare_exchange_with-requires c = let b = c.requires.table in let l = c.requires.lease.1 in
    let its : own c.args.seat.now.me.0.number l.news ≡ l.news = subst (λ (n : ℕ). own n l.news ≡ l.news) (sym l.number_is) l.its in
    (b.0, omega arith, enters _ _ _ c.args.seat.now.me l.news c.args.state l.turn.1 l.turn.0 its (ap (λ (s : Contents). s.history) l.is) l.legal)

pub give_back-requires-clause-state : goal.give_back-requires-clause-state
give_back-requires-clause-state c = let l = c.requires.lease.1 in let x = c.compare_exchange_with.ensures in let k = c.args.shared.now.key.value in
    ap (λ (s : Contents). Some s) (l.is ∙ (ap (λ (s : Contents). behind k s.history) (sym l.is) ∙ ap (λ m. behind k m.0.found) (sym x.2)))
