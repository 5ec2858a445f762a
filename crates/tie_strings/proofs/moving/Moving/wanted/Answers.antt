-- The next byte is written, read or filled.
use Rattle.std.proofs.Common.{◌-◌, arith}
use Rattle.tie_strings.proofs.MoveTakes.{write_shown, read_shown, fill_shown}
use Rattle.tie_strings.proofs.moving.Moving.wanted.Goals as goal

pub returns-in-Some-clause-shows : goal.returns-in-Some-clause-shows
returns-in-Some-clause-shows c = λ pages before state.
    let m = c.args.self.now in
    rw c.write_of.ensures
    (write_shown pages before state m.byte c.in-Some.byte m.down m.left m.from m.to m.fill m.moved c.in-Some.is)

pub returns-then-self-gt0-clause-shows : goal.returns-then-self-gt0-clause-shows
returns-then-self-gt0-clause-shows c = λ pages before state.
    let m = c.args.self.now in
    rw c.read_of.ensures
    (read_shown (m.left - 1) pages before state m.byte m.down m.left m.from m.to m.fill m.moved c.in-None.is (omega (arith, c.if-self-gt0.true)))

pub returns-then-self-gt0-2-clause-shows : goal.returns-then-self-gt0-2-clause-shows
returns-then-self-gt0-2-clause-shows c = λ pages before state.
    let m = c.args.self.now in
    rw c.write_of-then-self-gt0-2.ensures
    (fill_shown (m.fill.left - 1) pages before state m.byte m.down m.left m.from m.to m.fill.left m.fill.to m.fill.byte m.moved c.in-None.is
    (omega (arith, c.if-self-gt0.false)) (omega (arith, c.if-self-gt0-2.true)))
