use Rattle.std.proofs.Common.{◌≡◌, ap, sym, ◌∙◌, subst, Some, IsSome, Option, rules}
use mathlib.Core.Option.{some-injective}
use Rattle.memory_core.specs.Contents.{Contents}
use Rattle.shared_memory.specs.Views.{IsClosed}
use Rattle.shared_memory.proofs.Accesses.{in_option}
use Rattle.shared_memory.proofs.Keeper.{closes}
use Rattle.shared_memory.proofs.shared.SharedMemory.close.Goals as goal

pub unwrap-requires : goal.unwrap-requires
unwrap-requires c = let t = closes _ _ c.args.keeper.seat.me.0 _ _ c.requires.keeper.is.keeps c.requires.joined c.close_with-closed.ensures.values.2 in
    subst (λ (x : Option Contents). IsSome x) (some-injective _ _ (sym t.1 ∙ c.take-whole.ensures.value)) (search rules)

pub returns : goal.returns
returns c = let t = closes _ _ c.args.keeper.seat.me.0 _ _ c.requires.keeper.is.keeps c.requires.joined c.close_with-closed.ensures.values.2 in
    let whole : Some t.0 ≡ c.take-whole.result = some-injective _ _ (sym t.1 ∙ c.take-whole.ensures.value) in
    subst (IsClosed c.args.self.table.shared.key.value c.args.keeper.seat.me.0) (ap (in_option t.0) (whole ∙ c.unwrap.ensures)) t.2
