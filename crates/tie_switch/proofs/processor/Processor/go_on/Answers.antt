-- Where no block begins, it goes on inside.
use Rattle.std.proofs.Common.{◌≡◌, ℕ, false, Option, Some, None, refl, sym, ap, ◌∙◌, subst}
use Rattle.std.specs.Prelude.{is_some}
use Rattle.address_map.specs.Pairs.{address_at}
use Rattle.alpha_machine.specs.Step.{state_of}
use Rattle.block_law.specs.Translations.{Code}
use Rattle.system_model.specs.Processors.{moment_of, placed, stepped}
use Rattle.system_model.specs.Steps as model
use Rattle.system_model.specs.Steps.{place_by}
use Rattle.tie_switch.specs.Processors.{StandsFor, in_mode, processor_of}
use Rattle.tie_switch.specs.Seen.{setting_of}
use Rattle.tie_switch.proofs.processor.Processor.go_on.Goals as goal

none_of : (o : Option ℕ) → is_some o ≡ false → o ≡ None
none_of None e = refl
none_of (Some n) e = absurd (cc e)

pub returns-else-is_some-clause-stands : goal.returns-else-is_some-clause-stands
returns-else-is_some-clause-stands c = λ mode.
    let setting = setting_of c.args.setting in
    let cpu = c.args.cpu.now in
    let moment = moment_of (processor_of c.args.self.now) in
    let found : c.vax_of.result ≡ address_at setting.code.map cpu.pc = c.vax_of.ensures ∙ ap (λ (k : Code). address_at k.map cpu.pc) c.code.view_is in
    let none : address_at setting.code.map cpu.pc ≡ None = sym found ∙ none_of c.vax_of.result (sym c.is_some.ensures ∙ c.if-is_some.false) in
    subst (λ (x : model.Place). StandsFor c.args.setting.pages.now c.go_inside.new.self (placed setting (stepped (in_mode c.args.self.now mode)) x))
    (sym (ap (λ (o : Option ℕ). place_by setting moment o (state_of cpu)) none)) (c.go_inside.ensures.stands setting mode)
