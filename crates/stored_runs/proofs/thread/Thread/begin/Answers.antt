use Rattle.std.proofs.Common.{[], refl, ap, subst}
use Rattle.image_file.specs.Values.{ImageValue}
use Rattle.tie_switch.specs.Interpreted.{Stands}
use Rattle.stored_runs.proofs.thread.Thread.begin.Goals as goal

pub returns-in-Goes-clause-begun : goal.returns-in-Goes-clause-begun
returns-in-Goes-clause-begun c = record {
  interpreted = c.begin_anew.new.self;
  stands = subst (λ pages. Stands pages c.args.thread c.begin_anew.new.self c.args.self.now.state []) (ap (λ (i : ImageValue). i.pages) c.image.view_is) c.begin_anew.ensures;
  is = refl;
}
