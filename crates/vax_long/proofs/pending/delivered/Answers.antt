use Rattle.std.proofs.Common.{◌≡◌, true, sym, ap, ◌∙◌}
use Rattle.std.specs.Option.{is_none}
use Rattle.vax_form.specs.Pages.{first_bad}
use Rattle.vax_form.specs.Tree.{Tree, answer, outcome, instruction_tree}
use Rattle.vax_long.specs.Pending.{frame_address, frame_bytes, push_exception}
use Rattle.vax_long.proofs.Deliveries.{delivers}
use Rattle.vax_long.proofs.Seeing.{seen_by_tree}
use Rattle.vax_long.proofs.pending.delivered.Goals as goal

pub returns-clause-value : goal.returns-clause-value
returns-clause-value c =
    let state = c.args.state.now in
    let pages = c.args.pages.now in
    let tree = instruction_tree pages (push_exception c.args.exception) state in
    let bad = first_bad pages true (frame_address state) frame_bytes in
    let allowed : is_none bad ≡ true = sym c.frame_is_allowed.ensures ∙ c.if-not-frame_is_allowed.false in
    c.seen_of.ensures
    ∙ seen_by_tree (push_exception c.args.exception) (record { state = state; pages = c.args.pages; replies = c.args.replies }) c.push_exception-end.new.cursor c.push_exception-end.result c.push_exception-end.ensures.plays
    ∙ ap (λ (t : Tree). outcome state (answer pages t c.args.replies.now)) (sym (delivers bad c.args.exception tree allowed))
