use Rattle.std.proofs.Common.{◌≡◌, true, sym, ap, ◌∙◌}
use Rattle.std.specs.Option.{is_none}
use Rattle.vax_form.specs.Pages.{first_bad}
use Rattle.vax_form.specs.Tree.{Tree, answer, instruction_tree}
use Rattle.vax_long.specs.Pending.{frame_address, frame_bytes, push_exception}
use Rattle.vax_long.proofs.Deliveries.{delivers}
use Rattle.vax_run.specs.Answered.{answer_of, answer_to}
use Rattle.vax_run.proofs.Answering.{answer_is}
use Rattle.vax_run.proofs.answered.delivery_answered.Goals as goal

pub returns-clause-value : goal.returns-clause-value
returns-clause-value c =
    let state = c.args.state.now in
    let pages = c.args.pages.now in
    let replies = c.args.replies.now in
    let tree = instruction_tree pages (push_exception c.args.exception) state in
    let bad = first_bad pages true (frame_address state) frame_bytes in
    let allowed : is_none bad ≡ true = sym c.frame_is_allowed.ensures ∙ c.if-not-frame_is_allowed.false in
    let is = answer_is (push_exception c.args.exception) (record { state = state; pages = c.args.pages; replies = c.args.replies }) c.push_exception-end.new.cursor c.push_exception-end.result c.push_exception-end.ensures.plays in
    ap (answer_to replies) c.answer_of.ensures
    ∙ ap (λ n. answer_to replies (answer_of c.push_exception-end.result c.push_exception-end.new.cursor.state n)) c.saturating_sub-taken.ensures
    ∙ is.value ∙ ap (λ (t : Tree). answer pages t replies) (sym (delivers bad c.args.exception tree allowed))
