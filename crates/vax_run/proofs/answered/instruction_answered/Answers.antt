use Rattle.std.proofs.Common.{ap, ◌∙◌}
use Rattle.vax_long.specs.Instructions.{script_at}
use Rattle.vax_run.specs.Answered.{answer_to, handled_answer}
use Rattle.vax_run.proofs.Answering.{handled_is}
use Rattle.vax_run.proofs.answered.instruction_answered.Goals as goal

pub returns-clause-value : goal.returns-clause-value
returns-clause-value c =
    let is = handled_is (script_at c.args.pages.now c.args.thread c.args.state.now) (record { state = c.args.state.now; pages = c.args.pages; replies = c.args.replies }) c.played-end.new.cursor c.played-end.result c.played-end.ensures.plays in
    ap (answer_to c.args.replies.now) c.handled_answer.ensures
    ∙ ap (λ n. answer_to c.args.replies.now (handled_answer c.args.state.now c.played-end.new.cursor.state c.played-end.result n)) c.saturating_sub-taken.ensures ∙ is.value
