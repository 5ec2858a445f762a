use Rattle.std.proofs.Common.{◌≡◌, ◌∷◌, ◌++◌, [], Some, ap, sym, ◌∙◌, subst}
use Rattle.atomic_table.specs.Table.{opening}
use Rattle.memory_core.specs.Contents.{Contents}
use Rattle.shared_memory.specs.Rule.{behind, Kept, keeper_of}
use Rattle.shared_memory.proofs.Keeper.{starts}
use Rattle.shared_memory.proofs.shared.SharedMemory.new.Goals as goal

pub new-requires : goal.new-requires
new-requires c = let k = c.of-start.result.value in
    let empty : k.history ≡ [] = ap (λ (m : Contents). m.history) c.of-start.ensures ∙ c.requires in
    subst (λ l. Kept k (opening (0 ∷ 0 ∷ []) l (keeper_of k))) (sym (c.push_reserved.ensures.items ∙ ap (λ l. l ++ Some c.args.state ∷ []) c.in_ok-slots.ensures.items))
    (starts k c.args.state (sym c.of-start.ensures ∙ ap (behind k) empty))
