-- Once a byte is wanted, its check was made.
use Rattle.std.proofs.Common.{[], sym, ◌∙◌}
use Rattle.vax_form.specs.Tree.{feed}
use Rattle.tie_operands.proofs.Passing.{asking}
use Rattle.tie_strings.specs.Strings.{loop_tree}
use Rattle.tie_strings.proofs.string.StringLoop.show.Goals as goal

pub returns-in-Want-clause-rest : goal.returns-in-Want-clause-rest
returns-in-Want-clause-rest c =
    let pages = c.args.pages.now in
    let old = c.args.self.now in
    rw c.in-Want.is (c.note_check.ensures pages old.state
    (asking c.args.before.now (feed pages (loop_tree pages old) []) c.in-Want.field-0 (sym c.in-Want.is ∙ c.look-step.ensures.head)))
