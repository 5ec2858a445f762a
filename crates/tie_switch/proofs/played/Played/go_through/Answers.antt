-- Each kind of instruction comes to what its tree comes to.
use Rattle.std.proofs.Common.{◌≡◌, Some, None, refl, sym, ap, ◌∙◌}
use Rattle.vax_form.specs.Grammar.{instruction}
use Rattle.vax_long.specs.Instructions.{long_at, long_operation}
use Rattle.tie_operands.specs.Steps.{step_by}
use Rattle.tie_switch.proofs.Playing.{handled_comes, short_comes, plain_comes, none_is_short, strings_there}
use Rattle.tie_switch.specs.Interpreted.{step_with}
use Rattle.tie_switch.proofs.played.Played.go_through.Goals as goal

pub returns-in-None-clause-comes : goal.returns-in-None-clause-comes
returns-in-None-clause-comes c =
    let self = c.args.self.now in
    let instr = c.args.instr.now in
    let run = c.played_instr-run in
    let none : long_at instr.opcode ≡ None = sym (c.long_among.ensures ∙ ap long_operation c.operation_of-operation.ensures) ∙ c.in-None.is in
    let step = step_by self.before run.result run.new.cursor.state in
    handled_comes c.args.pages.now self.thread self.before (instruction instr) c.args.replies.now step (step_with c.gone_through.result c.gone_through.new.after)
    (short_comes c.args.pages.now self.thread self.before (instruction instr) c.args.replies.now c.args.replies.now step (none_is_short instr none) refl run.ensures.answers run.ensures.faults run.ensures.few)
    c.gone_through.ensures.answers c.gone_through.ensures.wants

pub returns-in-Some-plain_of-clause-comes : goal.returns-in-Some-plain_of-clause-comes
returns-in-Some-plain_of-clause-comes c =
    let self = c.args.self.now in
    let instr = c.args.instr.now in
    let run = c.played_long-run in
    let gone = c.gone_through-in-Some-plain_of in
    let long : long_at instr.opcode ≡ Some c.in-Some.operation = sym (c.long_among.ensures ∙ ap long_operation c.operation_of-operation.ensures) ∙ c.in-Some.is in
    let step = step_by self.before run.result run.new.cursor.state in
    handled_comes c.args.pages.now self.thread self.before (instruction instr) c.args.replies.now step (step_with gone.result gone.new.after)
    (plain_comes c.args.pages.now self.thread self.before instr c.in-Some.operation c.in-Some-plain_of.plain c.args.replies.now c.args.replies.now step
    long (sym c.plain_of.ensures ∙ c.in-Some-plain_of.is) refl run.ensures.answers run.ensures.faults run.ensures.few)
    gone.ensures.answers gone.ensures.wants

pub returns-in-None-plain_of-clause-strings : goal.returns-in-None-plain_of-clause-strings
returns-in-None-plain_of-clause-strings c =
    let instr = c.args.instr.now in
    let long : long_at instr.opcode ≡ Some c.in-Some.operation = sym (c.long_among.ensures ∙ ap long_operation c.operation_of-operation.ensures) ∙ c.in-Some.is in
    strings_there instr c.in-Some.operation long (sym c.plain_of.ensures ∙ c.in-None-plain_of.is)
