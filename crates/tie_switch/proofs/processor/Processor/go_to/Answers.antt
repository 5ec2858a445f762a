-- Each place that a step leads to.
use Rattle.std.proofs.Common.{sym, subst}
use Rattle.alpha_machine.specs.Step.{state_of}
use Rattle.alpha_meaning.specs.State.{regs_of}
use Rattle.system_model.specs.Processors.{Processor, left, mode_at, placed, stepped}
use Rattle.system_model.specs.Steps as model
use Rattle.tie_switch.specs.Processors.{ProcessorValue, StandsFor, in_mode, processor_value}
use Rattle.tie_switch.specs.Seen as seen
use Rattle.tie_switch.specs.Seen.{setting_of}
use Rattle.tie_switch.specs.declared.place.Place.{Place}
use Rattle.tie_switch.proofs.Standing.{one_step}
use Rattle.tie_switch.proofs.processor.Processor.go_to.Goals as goal

pub returns-in-Lands-clause-stands : goal.returns-in-Lands-clause-stands
returns-in-Lands-clause-stands c mode =
    let pages = c.args.setting.pages.now in
    let setting = setting_of c.args.setting in
    let here = processor_value c.self.inside in
    let place = seen.place_of c.args.place in
    let stands = c.arrive.ensures.stands pages mode (mode_at setting c.self.inside.thread c.in-Lands.state (regs_of c.in-Lands.cpu.r)) c.mode_with-mode.ensures in
    subst (λ (k : ProcessorValue). StandsFor pages c.arrive.new.self (placed setting (stepped (in_mode k mode)) place)) c.self.view_is
    (subst (λ (p : Place). StandsFor pages c.arrive.new.self (placed setting (stepped (in_mode here mode)) (seen.place_of p))) (sym c.in-Lands.is)
    (subst (λ (p : Processor). StandsFor pages c.arrive.new.self (placed setting p (model.Lands c.in-Lands.state c.in-Lands.held (state_of c.in-Lands.cpu).regs))) (one_step here mode) stands))

pub returns-in-Leaves-clause-stands : goal.returns-in-Leaves-clause-stands
returns-in-Leaves-clause-stands c mode =
    let pages = c.args.setting.pages.now in
    let setting = setting_of c.args.setting in
    let here = processor_value c.self.inside in
    subst (λ (k : ProcessorValue). StandsFor pages c.leave.new.self (placed setting (stepped (in_mode k mode)) (seen.place_of c.args.place))) c.self.view_is
    (subst (λ (p : Place). StandsFor pages c.leave.new.self (placed setting (stepped (in_mode here mode)) (seen.place_of p))) (sym c.in-Leaves.is)
    (subst (λ (l : model.Last). StandsFor pages c.leave.new.self (left setting (stepped (in_mode here mode)) l)) c.settled.ensures
    (subst (λ (p : Processor). StandsFor pages c.leave.new.self (left setting p (seen.last_of c.settled.result))) (one_step here mode) (c.leave.ensures.stands mode))))
