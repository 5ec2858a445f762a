use Rattle.std.proofs.Common.{◌∷◌, Some, ap, ◌∙◌, arith, refl}
use Rattle.atomic_table.specs.Table.{rest}
use Rattle.shared_memory.specs.Rule.{behind}
use Rattle.shared_memory.proofs.Keeps.{gives_back_at}
use Rattle.shared_memory.proofs.steps.give_back.Goals as goal

pub store-requires : goal.store-requires
store-requires c = let t = c.requires.turn in let b = c.requires.table in let x = c.exchange.ensures in let me = c.args.seat.now.me in let m = behind c.args.shared.now.key.value me.0.found in
    let held = x.3 ∙ (ap (λ w. (me.0, (0, w) ∷ rest me.1)) c.requires.state ∙ ap (λ l. (me.0, (0, Some m) ∷ rest l)) t.2) in
    (x.0 ∙ b.0, omega arith, gives_back_at _ _ _ _ me.0 m held t.1 t.0 refl (omega arith))
