use Rattle.std.proofs.Common.{ap, ◌∙◌}
use Rattle.vax_long.specs.Pending.{resume}
use Rattle.vax_run.specs.Answered.{answer_to, handled_answer}
use Rattle.vax_run.proofs.Answering.{handled_is}
use Rattle.vax_run.proofs.answered.resumption_answered.Goals as goal

pub returns-clause-value : goal.returns-clause-value
returns-clause-value c =
    let is = handled_is resume (record { state = c.args.state.now; pages = c.args.pages; replies = c.args.replies }) c.resume-end.new.cursor c.resume-end.result c.resume-end.ensures.plays in
    ap (answer_to c.args.replies.now) c.handled_answer.ensures
    ∙ ap (λ n. answer_to c.args.replies.now (handled_answer c.args.state.now c.resume-end.new.cursor.state c.resume-end.result n)) c.saturating_sub-taken.ensures ∙ is.value
