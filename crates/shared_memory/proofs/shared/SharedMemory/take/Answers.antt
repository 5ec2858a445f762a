use Rattle.std.proofs.Common.{◌≡◌, ◌∙◌, ◌∷◌, ap, subst, sym, not, List, Some, is_some, false}
use Rattle.memory_core.specs.declared.entry.Entry.{Entry}
use Rattle.shared_memory.specs.Passes.{start_of}
use Rattle.shared_memory.specs.Rule.{behind}
use Rattle.shared_memory.specs.Ways.{HasCome, number_by}
use Rattle.shared_memory.proofs.Accesses.{Out, at_home, seen_at_home, come}
use Rattle.shared_memory.proofs.shared.SharedMemory.take.Goals as goal

pub take_out-requires : goal.take_out-requires
take_out-requires g c =
    let way = c.args.way.now in let w = c.win.ensures.1 in let me = way.seat.me in let s = behind me.0.start w.history in
    let none : is_some way.whole ≡ false = c.is_none.ensures ∙ ap not c.if-is_none.true in
    let home = at_home (start_of c.args.self.now) (number_by way) me way.whole none c.requires.is in
    (c.win.ensures.0 ∙ c.requires.table, (s, ap (λ m. m.1) w.is ∙ ap (λ l. (0, Some s) ∷ l) home.slots))

pub returns-then-is_none-clause-come : goal.returns-then-is_none-clause-come
returns-then-is_none-clause-come g c =
    let way = c.args.way.now in let me = way.seat.me in let t = c.take_out in
    let none : is_some way.whole ≡ false = c.is_none.ensures ∙ ap not c.if-is_none.true in
    let home = at_home (start_of c.args.self.now) (number_by way) me way.whole none c.requires.is in
    let o : Out (start_of c.args.self.now) (number_by way) me c.win.new.seat.me t.new.seat.me t.result
    = record { is = home.pass; free = home.slots; mine = home.mine; won = c.win.ensures.1; hand = t.ensures.out.0; out = t.ensures.out.1 } in
    subst (λ (l : List Entry). HasCome (number_by way) l t.result.history) (sym (seen_at_home me way.whole none)) (come _ _ _ _ _ _ o)
