-- What is told is shown, and once a byte is wanted its check was made.
use Rattle.std.proofs.Common.{[]}
use Rattle.vax_form.specs.Tree.{feed}
use Rattle.tie_operands.proofs.Passing.{asking}
use Rattle.tie_strings.specs.Strings.{loop_tree}
use Rattle.tie_strings.proofs.string.StringLoop.tell.Goals as goal

pub returns-in-Some-clause-shown : goal.returns-in-Some-clause-shown
returns-in-Some-clause-shown c = c.in-Some.ensures.shows c.args.before.now c.args.self.now.state

pub returns-in-Some-clause-rest : goal.returns-in-Some-clause-rest
returns-in-Some-clause-rest c =
    let pages = c.args.pages.now in
    let old = c.args.self.now in
    c.note_check.ensures pages old.state
    (asking c.args.before.now (feed pages (loop_tree pages old) []) c.in-Some.reference (c.in-Some.ensures.shows c.args.before.now old.state).head)
