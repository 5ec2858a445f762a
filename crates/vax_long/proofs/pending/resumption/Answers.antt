use Rattle.std.proofs.Common.{◌∙◌}
use Rattle.vax_long.specs.Pending.{resume}
use Rattle.vax_long.proofs.Seeing.{seen_by_tree}
use Rattle.vax_long.proofs.pending.resumption.Goals as goal

pub returns-clause-value : goal.returns-clause-value
returns-clause-value c =
    c.seen_of.ensures
    ∙ seen_by_tree resume (record { state = c.args.state.now; pages = c.args.pages; replies = c.args.replies }) c.resume-end.new.cursor c.resume-end.result c.resume-end.ensures.plays
