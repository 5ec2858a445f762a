-- An instruction is the script of its operation.
use Rattle.std.proofs.Common.{◌≡◌, Some, sym, ap, ◌∙◌, subst}
use Rattle.vax_form.specs.Operation.{operation_at}
use Rattle.vax_form.specs.Tree.{answer, instruction_tree, outcome}
use Rattle.vax_meaning.specs.Instructions.{operation_script, script_where}
use Rattle.tie_operands.specs.Steps.{FailsByFault, step_of}
use Rattle.tie_operands.proofs.Played.{played}
use Rattle.tie_interpreter.proofs.played.played_instr.Goals as goal

pub returns-in-Some-clause-answers : goal.returns-in-Some-clause-answers
returns-in-Some-clause-answers c =
    let instr = c.args.instr.now in
    let old = c.args.cursor.now in
    let pages = old.pages.now in
    let run = c.run_instr in
    let script = operation_script c.in-Some.operation instr c.args.thread in
    let operation : Some c.in-Some.operation ≡ operation_at instr.opcode = sym c.in-Some.is ∙ c.requires.operation in
    (played 28 script old run.new.cursor run.result run.ensures.plays run.ensures.few).answers
    ∙ ap (λ o. step_of (outcome old.state (answer pages (instruction_tree pages (script_where o instr c.args.thread) old.state) old.replies.now))) operation

pub returns-in-Some-clause-faults : goal.returns-in-Some-clause-faults
returns-in-Some-clause-faults c =
    let instr = c.args.instr.now in
    let old = c.args.cursor.now in
    let pages = old.pages.now in
    let run = c.run_instr in
    let script = operation_script c.in-Some.operation instr c.args.thread in
    let operation : Some c.in-Some.operation ≡ operation_at instr.opcode = sym c.in-Some.is ∙ c.requires.operation in
    subst (λ o. FailsByFault (answer pages (instruction_tree pages (script_where o instr c.args.thread) old.state) old.replies.now)) operation
    (played 28 script old run.new.cursor run.result run.ensures.plays run.ensures.few).faults
