-- A byte stops the search or is passed, or nothing is left.
use Rattle.std.proofs.Common.{arith}
use Rattle.tie_strings.proofs.ScanTakes.{stops, goes_on, stopped_over, none_over}
use Rattle.tie_strings.proofs.scanning.Scanning.take.Goals as goal

pub returns-then-stops_at : goal.returns-then-stops_at
returns-then-stops_at c = λ pages state asks.
    let m = c.args.self.now in
    stops pages state m.scanned m.stopped m.checked m.left m.address c.args.reply c.stops_at.result c.if-self.false (omega (arith, c.if-self-eq0.false)) c.stops_at.ensures c.if-stops_at.true asks

pub returns-else-stops_at : goal.returns-else-stops_at
returns-else-stops_at c = λ pages state asks.
    let m = c.args.self.now in
    rw c.beside-self.ensures
    (goes_on pages state m.scanned m.stopped m.checked m.left m.address c.args.reply c.stops_at.result c.if-self.false (omega (arith, c.if-self-eq0.false)) c.stops_at.ensures c.if-stops_at.false asks)

pub returns-then-self : goal.returns-then-self
returns-then-self c = λ pages state asks.
    let m = c.args.self.now in
    stopped_over pages state m.scanned m.stopped m.checked m.left m.address c.args.reply c.if-self.true

pub returns-then-self-eq0 : goal.returns-then-self-eq0
returns-then-self-eq0 c = λ pages state asks.
    let m = c.args.self.now in
    none_over pages state m.scanned m.stopped m.checked m.left m.address c.args.reply c.if-self.false (omega (arith, c.if-self-eq0.true))
