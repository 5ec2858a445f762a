-- The step of a word that has one.
use Rattle.std.proofs.Common.{◌≡◌, ◌<◌, List, ℕ, length, sym, ap, ◌∙◌, subst}
use Rattle.block_law.specs.Translations.{Code}
use Rattle.std.specs.Prelude.{IsSome, IfSome}
use Rattle.alpha_machine.specs.Step.{state_of, current, IsStep}
use Rattle.alpha_meaning.specs.Act.{act}
use Rattle.system_model.specs.Processors.{moment_of}
use Rattle.tie_switch.specs.Processors.{processor_of}
use Rattle.tie_switch.specs.Seen.{setting_of}
use Rattle.tie_switch.proofs.Steps.{fetched, is_next_by}
use Rattle.tie_switch.proofs.processor.Processor.step.Goals as goal

pub step-requires-clause-within : goal.step-requires-clause-within
step-requires-clause-within c =
    let is : c.deref.result.now ≡ c.args.setting.code.now.words = c.deref.ensures.value ∙ ap (λ (k : Code). k.words) c.code.view_is in
    subst (λ (words : List ℕ). c.args.cpu.now.pc < length words) (sym is) (fetched (setting_of c.args.setting) (moment_of (processor_of c.args.self.now)) (state_of c.args.cpu.now) c.requires.goes).within

pub step-requires-clause-decodes : goal.step-requires-clause-decodes
step-requires-clause-decodes c =
    let is : c.deref.result.now ≡ c.args.setting.code.now.words = c.deref.ensures.value ∙ ap (λ (k : Code). k.words) c.code.view_is in
    subst (λ (words : List ℕ). IsSome (current words c.args.cpu.now)) (sym is) (fetched (setting_of c.args.setting) (moment_of (processor_of c.args.self.now)) (state_of c.args.cpu.now) c.requires.goes).decodes

pub returns-clause-fetched : goal.returns-clause-fetched
returns-clause-fetched c = fetched (setting_of c.args.setting) (moment_of (processor_of c.args.self.now)) (state_of c.args.cpu.now) c.requires.goes

pub returns-clause-step : goal.returns-clause-step
returns-clause-step c =
    let is : c.deref.result.now ≡ c.args.setting.code.now.words = c.deref.ensures.value ∙ ap (λ (k : Code). k.words) c.code.view_is in
    is_next_by (setting_of c.args.setting) (moment_of (processor_of c.args.self.now)) c.step.result c.args.cpu.now c.step.new.cpu c.requires.few c.requires.goes
    (subst (λ (words : List ℕ). IfSome (current words c.args.cpu.now) (λ i. IsStep (act i (state_of c.args.cpu.now)) c.step.result c.args.cpu.now c.step.new.cpu)) is c.step.ensures.step)
