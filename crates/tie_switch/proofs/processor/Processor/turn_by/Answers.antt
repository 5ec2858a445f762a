-- An access in place is the turn of a processor that goes on, within its budget.
use Rattle.std.proofs.Common.{◌≡◌, false, None, refl, sym, ap, ◌∙◌, subst, arith}
use Rattle.std.specs.Prelude.{MatchBool}
use Rattle.vt_words.proofs.Tests.{less_differs}
use Rattle.system_model.specs.Legal.{spent}
use Rattle.system_model.specs.Processors.{Mode, New, Runs, Interprets, Ended, turn}
use Rattle.tie_switch.specs.Processors.{ProcessorValue, end_of, processor_of}
use Rattle.tie_switch.specs.Seen.{setting_of}
use Rattle.tie_switch.specs.Turns.{IsStill, Makes, has_ended}
use Rattle.tie_switch.proofs.Standing.{out_is}
use Rattle.tie_switch.proofs.processor.Processor.turn_by.Goals as goal

no_end : (m : Mode) → has_ended m ≡ false → end_of m ≡ None
no_end New e = refl
no_end (Runs alpha) e = refl
no_end (Interprets state replies) e = refl
no_end (Ended end) e = absurd (cc e)

pub returns-in-Some-clause-turned : goal.returns-in-Some-clause-turned
returns-in-Some-clause-turned g c p stands =
    let setting = setting_of c.args.setting in
    let pages = c.args.setting.pages.now in
    let old = c.args.self.now in
    let new = c.access_inside.new.self in
    let set_up = g.M.Memory.set_up c.args.memory.now in
    let between = g.M.Memory.between c.args.memory.now in
    let seen = g.M.Memory.seen c.args.memory.now in
    let seen' = g.M.Memory.seen c.access_inside.new.memory in
    let made = c.in-Some.ensures.turned p stands in
    let none : end_of (processor_of old).mode ≡ None = no_end (processor_of old).mode c.in-Some.ensures.going in
    let steps : c.self.inside.steps ≡ old.steps = ap (λ (k : ProcessorValue). k.steps) c.self.view_is in
    let budget : c.self.inside.budget ≡ old.budget = ap (λ (k : ProcessorValue). k.budget) c.self.view_is in
    let out = out_is pages old p old.budget stands none ∙ less_differs old.steps old.budget (omega (arith, steps, budget, c.if-self.true)) in
    record {
      processor = made.processor;
      stands = made.stands;
      turned =
          subst (λ b. MatchBool b (IsStill (spent p) made.processor seen seen') (Makes (turn setting p) set_up between p made.processor seen seen')) (sym out)
          made.makes;
    }
