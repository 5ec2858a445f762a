-- The next byte is read where it was checked or may be read.
use Rattle.std.proofs.Common.{sym, ◌∙◌}
use Rattle.tie_strings.proofs.CompareTakes.{first_shown, second_shown}
use Rattle.tie_strings.proofs.comparing.Comparing.wanted.Goals as goal

pub returns-then-may_be_read-clause-shows : goal.returns-then-may_be_read-clause-shows
returns-then-may_be_read-clause-shows c = λ before state.
    let m = c.args.self.now in
    rw c.read_of.ensures
    (first_shown c.args.pages.now before state m.compared m.checked m.pair m.left m.first m.second c.in-First.is c.if-self-gt0.true (sym c.may_be_read.ensures ∙ c.if-may_be_read.true))

pub returns-then-may_be_read-2-clause-shows : goal.returns-then-may_be_read-2-clause-shows
returns-then-may_be_read-2-clause-shows c = λ before state.
    let m = c.args.self.now in
    rw c.read_of-then-may_be_read-2.ensures
    (second_shown c.args.pages.now before state m.compared m.checked m.pair c.in-Second.field-0 m.left m.first m.second c.in-Second.is (sym c.may_be_read-in-Second.ensures ∙ c.if-may_be_read-2.true))
