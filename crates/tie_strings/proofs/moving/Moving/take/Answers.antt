-- A byte is written, read or filled, or nothing is left.
use Rattle.std.proofs.Common.{◌-◌, arith}
use Rattle.tie_strings.proofs.MoveTakes.{written, read, filled, over}
use Rattle.tie_strings.proofs.moving.Moving.take.Goals as goal

pub returns-in-Some : goal.returns-in-Some
returns-in-Some c = λ pages state.
    let m = c.args.self.now in
    rw (c.saturating_sub-self.ensures, c.beside-self.ensures, c.beside-self-in-Some.ensures)
    (written pages state m.byte c.in-Some.field-0 m.down m.left m.from m.to m.fill m.moved c.args.reply c.in-Some.is)

pub returns-then-self-gt0 : goal.returns-then-self-gt0
returns-then-self-gt0 c = λ pages state.
    let m = c.args.self.now in
    read (m.left - 1) pages state m.byte m.down m.left m.from m.to m.fill m.moved c.args.reply c.in-None.is (omega (arith, c.if-self-gt0.true))

pub returns-then-self-gt0-2 : goal.returns-then-self-gt0-2
returns-then-self-gt0-2 c = λ pages state.
    let m = c.args.self.now in
    rw c.beside-self-then-self-gt0-2.ensures
    (filled (m.fill.left - 1) pages state m.byte m.down m.left m.from m.to m.fill.left m.fill.to m.fill.byte m.moved c.args.reply c.in-None.is
    (omega (arith, c.if-self-gt0.false)) (omega (arith, c.if-self-gt0-2.true)))

pub returns-else-self-gt0-2 : goal.returns-else-self-gt0-2
returns-else-self-gt0-2 c = λ pages state.
    let m = c.args.self.now in
    over pages state m.byte m.down m.left m.from m.to m.fill.left m.fill.to m.fill.byte m.moved c.args.reply c.in-None.is
    (omega (arith, c.if-self-gt0.false)) (omega (arith, c.if-self-gt0-2.false))
