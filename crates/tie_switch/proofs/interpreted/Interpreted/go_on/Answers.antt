-- An instruction steps as its tree says, and the handler takes its exceptions.
use Rattle.std.proofs.Common.{◌++◌, ◌∙◌, sym, subst}
use Rattle.vax_form.specs.GrammarFound.{found}
use Rattle.vax_form.specs.declared.state.VaxState.{VaxState}
use Rattle.vax_long.specs.Instructions.{tree_at}
use Rattle.tie_operands.specs.Replies.{list_of}
use Rattle.tie_switch.proofs.Handled.{moment_step, wants_map}
use Rattle.tie_switch.specs.Interpreted.{HasStrings, step_with}
use Rattle.tie_switch.proofs.Playing.{strings_answer, strings_are_long, strings_stand}
use Rattle.tie_switch.proofs.interpreted.Interpreted.go_on.Goals as goal

pub begin_strings-requires-clause-long : goal.begin_strings-requires-clause-long
begin_strings-requires-clause-long c =
    strings_are_long _ (subst (λ (s : VaxState). HasStrings (found c.args.pages.now s.pc)) (sym c.step.ensures.before) c.in-None.ensures.strings)

pub returns-in-Some-clause-answers : goal.returns-in-Some-clause-answers
returns-in-Some-clause-answers c = λ thread state replies stands. c.in-Some.ensures.answers thread state replies (rw c.in-Plays.is at stands)

pub returns-in-Some-clause-stands : goal.returns-in-Some-clause-stands
returns-in-Some-clause-stands c = λ thread state replies stands. c.in-Some.ensures.stands thread state replies (rw c.in-Plays.is at stands)

pub returns-in-None-clause-answers : goal.returns-in-None-clause-answers
returns-in-None-clause-answers c = λ thread state replies stands.
    strings_answer c.args.pages.now c.in-Plays.played c.step.new.self c.args.reply c.step.ensures.before c.step.ensures.thread c.in-None.ensures.strings
    thread state replies (rw c.in-Plays.is at stands) (step_with c.begin_strings.result c.begin_strings.new.after) c.begin_strings.ensures.answers

pub returns-in-None-clause-stands : goal.returns-in-None-clause-stands
returns-in-None-clause-stands c = λ thread state replies stands.
    strings_stand c.args.pages.now c.in-Plays.played c.step.new.self c.args.reply c.step.ensures.before c.step.ensures.thread c.in-None.ensures.strings
    thread state replies (rw c.in-Plays.is at stands) (step_with c.begin_strings.result c.begin_strings.new.after) c.begin_strings.new.self c.begin_strings.ensures.stands

pub returns-in-Long-clause-answers : goal.returns-in-Long-clause-answers
returns-in-Long-clause-answers c = λ thread state replies stands.
    let pages = c.args.pages.now in
    let held = rw c.in-Long.is at stands in
    c.strings_step.ensures.answers state (tree_at pages thread state) replies held.1 ∙ moment_step pages thread state (replies ++ list_of c.args.reply) held.0

pub returns-in-Long-clause-stands : goal.returns-in-Long-clause-stands
returns-in-Long-clause-stands c = λ thread state replies stands.
    let held = rw c.in-Long.is at stands in
    wants_map (step_with c.strings_step.result c.strings_step.new.after) (λ left. (held.0, left)) (c.strings_step.ensures.stands state (tree_at c.args.pages.now thread state) replies held.1)
