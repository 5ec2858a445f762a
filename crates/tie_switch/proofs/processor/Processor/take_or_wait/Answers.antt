-- A processor whose budget is spent makes no more steps.
use Rattle.std.proofs.Common.{◌≡◌, ℕ, ◌==◌, ◌&&◌, Bool, true, false, Option, Some, None, refl, sym, ap, ◌∙◌, subst, arith}
use Rattle.std.specs.Prelude.{MatchBool}
use Rattle.std.specs.Option.{is_some}
use Rattle.std.proofs.lemmas.Bool.Decides.{nat_tests}
use Rattle.system_model.specs.Legal.{spent}
use Rattle.system_model.specs.Processors.{Processor, turn}
use Rattle.vax_driven.specs.declared.thread.End.{End}
use Rattle.tie_switch.specs.Live.{asks_get}
use Rattle.tie_switch.specs.Processors.{ProcessorValue, StandsFor, end_of, processor_of}
use Rattle.tie_switch.specs.Seen.{setting_of}
use Rattle.tie_switch.specs.Turns.{IsStill, Makes}
use Rattle.tie_switch.proofs.Standing.{out_is}
use Rattle.tie_switch.proofs.processor.Processor.take_or_wait.Goals as goal

equal : (n m : ℕ) → n ≡ m → (n == m) ≡ true
equal n m e = grind (arith, nat_tests)

unequal : (n m : ℕ) → (n ≡ m → ⊥) → (n == m) ≡ false
unequal n m e = grind (arith, nat_tests)

none_by : (end : Option End) (b : Bool) → b ≡ is_some end → b ≡ false → end ≡ None
none_by None b e f = refl
none_by (Some end) b e f = absurd (cc (e, f))

pub returns-then-self-clause-turned : goal.returns-then-self-clause-turned
returns-then-self-clause-turned g c goes p stands =
    let setting = setting_of c.args.setting in
    let pages = c.args.setting.pages.now in
    let old = c.args.self.now in
    let set_up = g.M.Memory.set_up c.args.memory.now in
    let between = g.M.Memory.between c.args.memory.now in
    let seen = g.M.Memory.seen c.args.memory.now in
    let none : end_of (processor_of old).mode ≡ None = sym c.end.ensures ∙ none_by c.end.result c.is_some.result c.is_some.ensures c.if-is_some.false in
    let steps : c.self.inside.steps ≡ old.steps = ap (λ (k : ProcessorValue). k.steps) c.self.view_is in
    let budget : c.self.inside.budget ≡ old.budget = ap (λ (k : ProcessorValue). k.budget) c.self.view_is in
    let out = out_is pages old p old.budget stands none ∙ equal old.steps old.budget (sym steps ∙ c.if-self.true ∙ budget) in
    record {
      processor = spent p;
      stands = subst (λ (x : Processor). StandsFor pages c.spend.new.self (spent x)) (sym stands.same) (c.spend.ensures.stands pages p.mode);
      turned = subst (λ b. MatchBool b (IsStill (spent p) (spent p) seen seen) (Makes (turn setting p) set_up between p (spent p) seen seen)) (sym out) (record { processor = refl; seen = refl });
    }

pub returns-clause-turned : goal.returns-clause-turned
returns-clause-turned g c goes p stands =
    let setting = setting_of c.args.setting in
    let pages = c.args.setting.pages.now in
    let old = c.args.self.now in
    let set_up = g.M.Memory.set_up c.args.memory.now in
    let between = g.M.Memory.between c.args.memory.now in
    let seen = g.M.Memory.seen c.args.memory.now in
    let seen' = g.M.Memory.seen c.make_step.new.memory in
    let none : end_of (processor_of old).mode ≡ None = sym c.end.ensures ∙ none_by c.end.result c.is_some.result c.is_some.ensures c.if-is_some.false in
    let steps : c.self.inside.steps ≡ old.steps = ap (λ (k : ProcessorValue). k.steps) c.self.view_is in
    let budget : c.self.inside.budget ≡ old.budget = ap (λ (k : ProcessorValue). k.budget) c.self.view_is in
    let out = out_is pages old p old.budget stands none ∙ unequal old.steps old.budget (λ e. c.if-self.false (steps ∙ e ∙ sym budget)) in
    let made = c.make_step.ensures.turned goes p stands in
    record {
      processor = made.processor;
      stands = made.stands;
      turned = subst (λ b. MatchBool b (IsStill (spent p) made.processor seen seen') (Makes (turn setting p) set_up between p made.processor seen seen')) (sym out) made.makes;
    }

pub returns-clause-goes : goal.returns-clause-goes
returns-clause-goes g c goes =
    let setting = setting_of c.args.setting in
    let h = c.requires.has_step in
    c.make_step.ensures.waits h.processor h.stands ∙ ap (λ b. b && asks_get (turn setting h.processor)) goes
