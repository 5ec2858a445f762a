-- A reply is taken where one is wanted.
use Rattle.std.proofs.Common.{[], refl, subst}
use Rattle.std.specs.Prelude.{IfSome}
use Rattle.vax_form.specs.Tree.{feed}
use Rattle.vax_form.specs.declared.state.VaxState.{VaxState}
use Rattle.tie_operands.specs.Steps.{Shows}
use Rattle.tie_operands.specs.declared.step.TieStep.TheVariants.{Want}
use Rattle.tie_strings.specs.Strings.{loop_tree, strings_tree}
use Rattle.tie_strings.proofs.Advancing.{advanced}
use Rattle.tie_strings.proofs.string.StringLoop.answered.Goals as goal

pub returns-in-Some-wanted : goal.returns-in-Some-wanted
returns-in-Some-wanted c =
    let pages = c.args.pages.now in
    let old = c.args.self.now in
    let shows = subst (λ o. IfSome o (λ reference. (before state : VaxState) → Shows before (feed pages (strings_tree pages old.strings state) []) (Want reference))) c.in-Some-wanted.is c.wanted.ensures.shows in
    rw c.in-Some.is
    (advanced pages c.args.before.now old _ c.tell.new.self (Want c.in-Some-wanted.field-0) c.tell.result c.in-Some-wanted.field-0 c.in-Some.reply (loop_tree pages old) [] refl
    (c.take.ensures pages old.state) c.tell.ensures.shown c.tell.ensures.rest
    (record { shown = shows c.args.before.now old.state; rest = refl }))
