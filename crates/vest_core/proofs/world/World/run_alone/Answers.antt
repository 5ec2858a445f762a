-- Each round goes on where the one before ended.
use Rattle.std.proofs.Common.{◌≡◌, ℕ, true, List, sym, ◌∙◌, subst, arith}
use Rattle.std.specs.Prelude.{map, reverse}
use Rattle.std.specs.List.{AllByRecursion}
use Rattle.memory_core.specs.Contents.{Contents}
use Rattle.memory_core.specs.declared.entry.SetUp.{SetUp}
use Rattle.system_model.specs.Legal.{IsLegal}
use Rattle.system_model.specs.Processors.{Processor}
use Rattle.tie_switch.specs.Processors.{ProcessorValue, processor_of}
use Rattle.tie_switch.specs.Settings.{image_setting}
use Rattle.tie_switch.specs.Turns.{has_ended}
use Rattle.vest_core.proofs.Rounds.{all_ended, are_shown, fewer_rounds}
use Rattle.vest_core.proofs.world.World.run_alone.Goals as goal

pub loop-self-smaller : goal.loop-self-smaller
loop-self-smaller c =
    let setting = image_setting c.args.image.now.pages c.args.translation.now c.args.ranges.now in
    let e = c.advance.ensures in
    fewer_rounds setting _ c.advance.result c.loop-self.self c.advance.new.self e.advanced (e.some (omega arith)) e.legal e.budget
    (sym c.first_has_ended.ensures ∙ c.loop-self-test.true)

pub returns-clause-legal : goal.returns-clause-legal
returns-clause-legal c =
    let setting = image_setting c.args.image.now.pages c.args.translation.now c.args.ranges.now in
    let world = c.loop-self.self in
    let so = c.loop-self.invariant in
    let history = c.apart.result.0.history in
    let shown = are_shown setting.meaning.pages world.processors so.legal.processors so.alone (sym c.first_has_ended.ensures ∙ c.loop-self-test.false) so.legal.stand in
    let legal = subst (λ (ps : List Processor). IsLegal setting world.memory.set_up world.budget (reverse world.memory.history) ps) shown so.legal.legal in
    let in_memory = subst (λ (m : Contents). IsLegal setting world.memory.set_up world.budget (reverse m.history) (map processor_of world.processors)) (sym c.apart.ensures.memory) legal in
    let apart = subst (λ (ks : List ProcessorValue). IsLegal setting world.memory.set_up world.budget (reverse history) (map processor_of ks)) (sym c.apart.ensures.processors) in_memory in
    let set_up = subst (λ (s : SetUp). IsLegal setting s world.budget (reverse history) (map processor_of c.apart.result.1.items)) so.set_up apart in
    subst (λ (budget : ℕ). IsLegal setting c.args.self.memory.set_up budget (reverse history) (map processor_of c.apart.result.1.items)) so.budget set_up

pub returns-clause-ended : goal.returns-clause-ended
returns-clause-ended c =
    let world = c.loop-self.self in
    subst (λ (ks : List ProcessorValue). AllByRecursion (λ (p : Processor). has_ended p.mode ≡ true) (map processor_of ks)) (sym c.apart.ensures.processors)
    (all_ended world.processors c.loop-self.invariant.alone (sym c.first_has_ended.ensures ∙ c.loop-self-test.false))
