use Rattle.std.proofs.Common.{[], ap, subst}
use Rattle.image_file.specs.Values.{ImageValue}
use Rattle.tie_switch.specs.Interpreted.{Stands}
use Rattle.stored_runs.proofs.Standing.{at_first}
use Rattle.stored_runs.proofs.thread.Thread.new.Goals as goal

pub returns-clause-at : goal.returns-clause-at
returns-clause-at c =
    at_first c.args.image.now c.args.thread c.args.start c.begin.result c.args.count c.requires.starts
    (subst (λ pages. Stands pages c.args.thread c.begin.result c.args.start []) (ap (λ (i : ImageValue). i.pages) c.image.view_is) c.begin.ensures)
