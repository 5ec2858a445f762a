-- An access is wanted by its request.
use Rattle.std.proofs.Common.{sym, ap, ◌∙◌}
use Rattle.alpha_machine.specs.Step.{state_of}
use Rattle.memory_core.specs.declared.entry.Request.{Request}
use Rattle.system_model.specs.Processors.{moment_of}
use Rattle.system_model.specs.Steps.{Wants}
use Rattle.tie_switch.specs.declared.place.Wanted.TheVariants.{Access}
use Rattle.tie_switch.specs.Processors.{processor_of}
use Rattle.tie_switch.specs.Seen.{setting_of, place_behind}
use Rattle.tie_switch.proofs.processor.Processor.next.Goals as goal

pub returns-in-Want-clause-next : goal.returns-in-Want-clause-next
returns-in-Want-clause-next c =
    ap (λ (r : Request). Wants r (place_behind (setting_of c.args.setting) (moment_of (processor_of c.args.self.now)) (state_of c.args.cpu) (Access c.in-Want.access))) c.request_for.ensures.request
    ∙ sym c.in-Want.ensures.step.is
