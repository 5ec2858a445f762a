-- Turns in one course, and one more.
use Rattle.std.proofs.Common.{sym, subst, arith}
use Rattle.memory_core.specs.declared.entry.SetUp.{SetUp}
use Rattle.tie_switch.specs.ManyTurns.{MayCome}
use Rattle.tie_switch.specs.Processors.{HasStep}
use Rattle.tie_switch.specs.Seen.{setting_of}
use Rattle.tie_switch.proofs.Advances.{behind_turn, has_next, next_turn}
use Rattle.tie_switch.proofs.processor.Processor.some_turns.Goals as goal

pub take_turn-requires-clause-has_step : goal.take_turn-requires-clause-has_step
take_turn-requires-clause-has_step g c =
    let s = setting_of c.args.setting in
    let first = c.args.memory.now in
    let made = c.over_accesses-made in
    subst (λ (u : SetUp). HasStep s u made.new.self) (sym made.ensures.set_up)
    (has_next s (g.M.Memory.set_up first) (MayCome g.M.Memory.same g.M.Memory.between first) c.args.most made.result.0 c.args.self.now made.new.self (g.M.Memory.seen first)
    (g.M.Memory.seen made.new.memory) c.requires.has_steps made.ensures.turned (omega (arith, c.if-made-most.true)))

pub returns-then-made-most-clause-place : goal.returns-then-made-most-clause-place
returns-then-made-most-clause-place g c =
    behind_turn g.M.Memory.same c.args.memory.now c.over_accesses-made.new.memory c.take_turn.new.memory c.over_accesses-made.ensures.place c.take_turn.ensures.place

pub returns-then-made-most-clause-turned : goal.returns-then-made-most-clause-turned
returns-then-made-most-clause-turned g c p stands =
    let s = setting_of c.args.setting in
    let first = c.args.memory.now in
    let k = c.args.self.now in
    let made = c.over_accesses-made in
    let turn = c.take_turn in
    next_turn s (g.M.Memory.set_up first) (g.M.Memory.set_up made.new.memory) (MayCome g.M.Memory.same g.M.Memory.between first) k.budget made.new.self.budget p made.result.0 made.new.self turn.new.self
    (g.M.Memory.seen first) (g.M.Memory.seen made.new.memory) (g.M.Memory.seen turn.new.memory) (made.ensures.turned p stands) (g.M.Memory.between made.new.memory)
    (λ entries come. record { memory = made.new.memory; behind = made.ensures.place; comes = come }) made.ensures.set_up made.ensures.budget turn.ensures.turned
