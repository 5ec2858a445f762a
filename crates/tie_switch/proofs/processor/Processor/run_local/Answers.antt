-- Where it made steps, it stood in Alpha code or was new.
use Rattle.std.proofs.Common.{◌≡◌, ℕ, zero, suc, ◌<◌, Some, refl, sym, ap, ◌∙◌, subst, arith}
use Rattle.system_model.specs.Processors.{Processor}
use Rattle.system_model.specs.Settings.{Setting}
use Rattle.tie_switch.specs.Inside.{went}
use Rattle.tie_switch.specs.Processors.{HasGone, IsPlain, ProcessorValue, StandsFor, processor_of}
use Rattle.tie_switch.proofs.Standing.{plain_is, plain_stands}
use Rattle.tie_switch.specs.Settings.{image_setting}
use Rattle.tie_switch.proofs.processor.Processor.run_local.Goals as goal

gone : (setting : Setting) (old new : ProcessorValue) (p : Processor) (n : ℕ) → (n ≡ 0 → new ≡ old) → (0 < n → IsPlain old.mode) → (0 < n → IsPlain new.mode)
    → went setting (processor_of old) n ≡ Some (processor_of new) → StandsFor setting.meaning.pages old p → HasGone setting p n new
gone setting old new p zero stays before behind is stands = record {
  processor = p;
  stands = subst (λ (k : ProcessorValue). StandsFor setting.meaning.pages k p) (sym (stays refl)) stands;
  went = refl;
}
gone setting old new p (suc n) stays before behind is stands =
    let some : 0 < suc n = omega arith in
    record {
      processor = processor_of new;
      stands = plain_stands setting.meaning.pages new (behind some);
      went = ap (λ (x : Processor). went setting x (suc n)) (plain_is setting.meaning.pages old p (before some) stands) ∙ is;
    }

pub returns-clause-went : goal.returns-clause-went
returns-clause-went c p stands =
    let e = c.local_steps.ensures in
    gone (image_setting c.args.prepared.now.pages c.args.prepared.now.code c.args.ranges.now) c.args.self.now c.local_steps.new.self p c.local_steps.result e.stays e.before e.behind e.went stands
