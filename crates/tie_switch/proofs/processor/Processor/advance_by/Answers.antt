-- Some turns behind the others.
use Rattle.std.proofs.Common.{◌≡◌, ◌≢◌, refl, sym, ap, ◌∙◌, subst, arith}
use Rattle.tie_switch.specs.ManyTurns.{MayCome, NoAccess, NoTurn}
use Rattle.tie_switch.specs.Processors.{ProcessorValue}
use Rattle.tie_switch.specs.Seen.{setting_of}
use Rattle.tie_switch.specs.declared.turn.Turn.{Turn}
use Rattle.tie_switch.specs.declared.turn.Turn.TheVariants.{Ended, Went}
use Rattle.tie_switch.proofs.Advances.{behind_both, both, goes_further, has_more}
use Rattle.tie_switch.proofs.processor.Processor.advance_by.Goals as goal

goes_on : (t : Turn) → t ≢ Ended → t ≡ Went
goes_on Went other = refl
goes_on Ended other = absurd (other refl)

pub loop-made-init : goal.loop-made-init
loop-made-init g c = record {
  known = c.requires.known;
  most = omega arith;
  set_up = refl;
  behind = NoAccess;
  serves = λ thread. (λ a. a, λ a. a);
  budget = refl;
  thread = refl;
  steps = omega arith;
  few_steps = omega (arith, ap (λ (x : ProcessorValue). x.steps) c.self.view_is, ap (λ (x : ProcessorValue). x.budget) c.self.view_is, c.self.invariant.steps);
  turned = λ p stands. record { processor = p; stands = stands; turned = NoTurn };
}

pub some_turns-steps-requires-clause-serves : goal.some_turns-steps-requires-clause-serves
some_turns-steps-requires-clause-serves g c =
    let l = c.loop-made in
    subst (g.M.Memory.serves l.memory) (sym l.invariant.thread) ((l.invariant.serves c.args.self.now.thread).0 c.requires.serves)

pub some_turns-steps-requires-clause-has_steps : goal.some_turns-steps-requires-clause-has_steps
some_turns-steps-requires-clause-has_steps g c =
    let s = setting_of c.args.setting in
    let first = c.args.memory.now in
    let l = c.loop-made in
    has_more s (g.M.Memory.set_up first) (g.M.Memory.set_up l.memory) (MayCome g.M.Memory.same g.M.Memory.between first) (MayCome g.M.Memory.same g.M.Memory.between l.memory) c.args.most l.made
    c.args.self.now l.self (g.M.Memory.seen first) (g.M.Memory.seen l.memory) c.requires.has_steps l.invariant.turned
    (λ entries come. record { memory = come.memory; behind = behind_both g.M.Memory.same first l.memory l.invariant.behind come.behind; comes = come.comes }) l.invariant.set_up l.invariant.budget

pub loop-made-preserved : goal.loop-made-preserved
loop-made-preserved g c =
    let first = c.args.memory.now in
    let old = c.args.self.now in
    let s = setting_of c.args.setting in
    let l = c.loop-made in
    let kept = l.invariant in
    let some = c.some_turns-steps in
    record {
      known = some.ensures.known;
      most = omega (arith, some.ensures.most, c.loop-made-test.true);
      set_up = some.ensures.set_up ∙ kept.set_up;
      behind = behind_both g.M.Memory.same first l.memory kept.behind some.ensures.place;
      serves = λ thread. both (kept.serves thread) (some.ensures.serves thread);
      budget = some.ensures.budget ∙ kept.budget;
      thread = some.ensures.thread ∙ kept.thread;
      steps = omega (arith, some.ensures.steps (goes_on some.result.1 c.in_default.not-Ended), kept.steps);
      few_steps = some.ensures.few_steps;
      turned = λ p stands.
          goes_further s (g.M.Memory.set_up first) (g.M.Memory.set_up l.memory) (MayCome g.M.Memory.same g.M.Memory.between first) (MayCome g.M.Memory.same g.M.Memory.between l.memory)
          old.budget l.self.budget p l.made some.result.0 l.self some.new.self (g.M.Memory.seen first) (g.M.Memory.seen l.memory) (g.M.Memory.seen some.new.memory) (kept.turned p stands)
          (λ entries come. record { memory = come.memory; behind = behind_both g.M.Memory.same first l.memory kept.behind come.behind; comes = come.comes }) kept.set_up kept.budget some.ensures.turned;
    }

pub returns-in-Ended-clause-place : goal.returns-in-Ended-clause-place
returns-in-Ended-clause-place g c =
    behind_both g.M.Memory.same c.args.memory.now c.loop-made.memory c.loop-made.invariant.behind c.some_turns-steps.ensures.place

pub returns-in-Ended-clause-turned : goal.returns-in-Ended-clause-turned
returns-in-Ended-clause-turned g c p stands =
    let first = c.args.memory.now in
    let s = setting_of c.args.setting in
    let l = c.loop-made in
    let kept = l.invariant in
    let some = c.some_turns-steps in
    goes_further s (g.M.Memory.set_up first) (g.M.Memory.set_up l.memory) (MayCome g.M.Memory.same g.M.Memory.between first) (MayCome g.M.Memory.same g.M.Memory.between l.memory)
    c.args.self.now.budget l.self.budget p l.made some.result.0 l.self some.new.self (g.M.Memory.seen first) (g.M.Memory.seen l.memory) (g.M.Memory.seen some.new.memory) (kept.turned p stands)
    (λ entries come. record { memory = come.memory; behind = behind_both g.M.Memory.same first l.memory kept.behind come.behind; comes = come.comes }) kept.set_up kept.budget some.ensures.turned
