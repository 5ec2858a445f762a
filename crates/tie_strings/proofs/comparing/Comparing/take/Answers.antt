-- The first or the second of two bytes is read, or nothing is left.
use Rattle.std.proofs.Common.{arith}
use Rattle.tie_strings.proofs.CompareTakes.{first_taken, first_over, second_same, second_differs, differs_over}
use Rattle.tie_strings.proofs.comparing.Comparing.take.Goals as goal

pub returns-then-self-gt0 : goal.returns-then-self-gt0
returns-then-self-gt0 c = λ pages state asks.
    let m = c.args.self.now in
    first_taken pages state m.compared m.checked m.pair m.left m.first m.second c.args.reply c.in-First.is c.if-self-gt0.true asks

pub returns-else-self-gt0 : goal.returns-else-self-gt0
returns-else-self-gt0 c = λ pages state asks.
    let m = c.args.self.now in
    first_over pages state m.compared m.checked m.pair m.left m.first m.second c.args.reply c.in-First.is (omega (arith, c.if-self-gt0.false))

pub returns-then-is_same : goal.returns-then-is_same
returns-then-is_same c = λ pages state asks.
    let m = c.args.self.now in
    rw (c.saturating_sub-self.ensures, c.beside-self.ensures, c.beside-self-then-is_same.ensures)
    (second_same pages state m.compared m.checked m.pair c.in-Second.one m.left m.first m.second c.args.reply c.is_same.result c.in-Second.is c.is_same.ensures c.if-is_same.true asks)

pub returns-else-is_same : goal.returns-else-is_same
returns-else-is_same c = λ pages state asks.
    let m = c.args.self.now in
    second_differs pages state m.compared m.checked m.pair c.in-Second.one m.left m.first m.second c.args.reply c.is_same.result c.in-Second.is c.is_same.ensures c.if-is_same.false asks

pub returns-in-Differs : goal.returns-in-Differs
returns-in-Differs c = λ pages state asks.
    let m = c.args.self.now in
    differs_over c.in-Differs.field-0 c.in-Differs.field-1 pages state m.compared m.checked m.pair m.left m.first m.second c.args.reply c.in-Differs.is
