-- It stands where its course came to, or ends there.
use Rattle.std.proofs.Common.{◌≡◌, ◌+◌, refl, sym, ap, ◌∙◌, subst, arith}
use Rattle.alpha_machine.specs.Step.{state_of}
use Rattle.alpha_machine.specs.declared.cpu.Cpu.{Cpu}
use Rattle.alpha_meaning.specs.State.{Alpha}
use Rattle.system_model.specs.Legal.{spent}
use Rattle.system_model.specs.Processors.{Processor, Runs}
use Rattle.tie_switch.specs.Asks.{Rests}
use Rattle.tie_switch.specs.Settings.{image_setting}
use Rattle.tie_switch.specs.ManyTurns.{IsTurns, MayCome, NoAccess, NoTurn}
use Rattle.tie_switch.specs.Processors.{ProcessorValue, processor_of}
use Rattle.tie_switch.specs.Seen.{mode_of, setting_of}
use Rattle.tie_switch.specs.declared.processor.Mode.{Mode}
use Rattle.tie_switch.specs.declared.processor.Mode.TheVariants as modes
use Rattle.tie_switch.proofs.Standing.{plain_is}
use Rattle.tie_switch.proofs.Unspent.{plain_unspent}
use Rattle.tie_switch.proofs.processor.Processor.over_accesses.Goals as goal

pub returns-in_default-clause-place : goal.returns-in_default-clause-place
returns-in_default-clause-place g c = NoAccess

pub returns-in_default-clause-turned : goal.returns-in_default-clause-turned
returns-in_default-clause-turned g c p stands = record { processor = p; stands = stands; turned = NoTurn }

pub run_over-made-requires-clause-opcode : goal.run_over-made-requires-clause-opcode
run_over-made-requires-clause-opcode g c = c.in-Some.ensures.opcode c.args.prepared.now.pages

pub returns-in-Ended-clause-turned : goal.returns-in-Ended-clause-turned
returns-in-Ended-clause-turned g c p stands =
    let s = setting_of c.args.setting in
    let pages = c.args.setting.pages.now in
    let k = c.args.self.now in
    let first = c.args.memory.now in
    let u = g.M.Memory.set_up first in
    let may = MayCome g.M.Memory.same g.M.Memory.between first in
    let seen = g.M.Memory.seen first in
    let ran = c.run_over-made in
    let last = g.M.Memory.seen ran.new.memory in
    let there = plain_is pages k p c.in-Some.ensures.plain stands in
    let q = processor_of c.settle.new.self in
    record {
      processor = spent q;
      stands = c.spend.ensures.stands pages q.mode;
      turned =
          subst (λ (x : Processor). IsTurns s u may k.budget x seen (ran.result.0 + 1) (spent q) last) (sym there)
          (subst (λ (x : Processor). IsTurns s u may k.budget (processor_of k) seen (ran.result.0 + 1) (spent x) last) (sym c.settle.ensures.is) (ran.ensures.ended c.in-Ended.is));
    }

pub returns-in-Went-clause-unspent : goal.returns-in-Went-clause-unspent
returns-in-Went-clause-unspent g c went before = plain_unspent c.settle.new.self c.settle.ensures.plain

-- it stands in Alpha code there
stands_there : (k : ProcessorValue) (q : Processor) (cpu : Cpu) (c : Alpha) → processor_of k ≡ q → q.mode ≡ Runs c → k.mode ≡ modes.Runs cpu → c ≡ state_of cpu
stands_there k q cpu c is at runs =
    let same : Runs (state_of cpu) ≡ Runs c = ap (λ (m : Mode). mode_of m k.boundary) (sym runs) ∙ ap (λ (p : Processor). p.mode) is ∙ at in
    cc same

pub returns-in-Went-clause-rests : goal.returns-in-Went-clause-rests
returns-in-Went-clause-rests g c = λ running went few steps cpu runs.
    let p = c.args.prepared.now in
    let made = ap (λ (x : ProcessorValue). x.steps) c.self.view_is in
    let may = ap (λ (x : ProcessorValue). x.budget) c.self.view_is in
    let rests = c.run_over-made.ensures.rests c.in-Went.is (omega (arith, few, steps, made, may, c.min-most.ensures, c.settle.ensures.steps, c.settle.ensures.budget)) in
    subst (λ (a : Alpha). Rests (image_setting p.pages p.code c.args.setting.ranges.now) p c.args.self.now.thread a)
    (stands_there c.settle.new.self _ cpu (state_of c.run_over-made.new.course.cpu) c.settle.ensures.is refl runs) rests
