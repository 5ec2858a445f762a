-- An instruction with strings steps as its tree says, and the handler takes its exceptions.
use Rattle.std.proofs.Common.{[], ◌∙◌, subst}
use Rattle.vax_form.specs.Tree.{instruction_tree}
use Rattle.vax_form.specs.Grammar.{Found}
use Rattle.vax_long.specs.Instructions.{script_found, tree_at}
use Rattle.tie_operands.specs.Replies.{list_of}
use Rattle.tie_strings.specs.Whole.{Stands}
use Rattle.tie_switch.proofs.Handled.{moment_step, wants_map}
use Rattle.tie_switch.specs.Interpreted.{step_with}
use Rattle.tie_switch.proofs.interpreted.Interpreted.begin_strings.Goals as goal

pub returns-clause-answers : goal.returns-clause-answers
returns-clause-answers c = λ nothing.
    let pages = c.args.pages.now in
    let before = c.args.before.now in
    let tree = tree_at pages c.args.thread before in
    let begun =
    subst (λ (f : Found). Stands pages c.begin_decoded-tie.result before (instruction_tree pages (script_found f c.args.thread) before) []) c.there-decoded.ensures.found (c.begin_decoded-tie.ensures pages) in
    let given = list_of c.args.reply in
    c.strings_step-came.ensures.answers before tree [] begun ∙ moment_step pages c.args.thread before given nothing

pub returns-clause-stands : goal.returns-clause-stands
returns-clause-stands c = λ nothing.
    let pages = c.args.pages.now in
    let before = c.args.before.now in
    let tree = tree_at pages c.args.thread before in
    let begun =
    subst (λ (f : Found). Stands pages c.begin_decoded-tie.result before (instruction_tree pages (script_found f c.args.thread) before) []) c.there-decoded.ensures.found (c.begin_decoded-tie.ensures pages) in
    wants_map (step_with c.strings_step-came.result c.strings_step-came.new.after) (λ left. (nothing, left)) (c.strings_step-came.ensures.stands before tree [] begun)
