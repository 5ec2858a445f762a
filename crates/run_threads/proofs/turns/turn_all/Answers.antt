-- Each round goes on where the one before ended.
use Rattle.std.proofs.Common.{is_some, not, ℕ, List, refl, sym, ap, ◌∙◌, subst, arith}
use Rattle.shared_memory.specs.Passes.{set_up_of}
use Rattle.shared_memory.specs.Ways.{IsWayOf, seen_by}
use Rattle.shared_memory.specs.declared.shared.SharedMemory.{SharedMemory}
use Rattle.tie_switch.specs.Processors.{processor_of}
use Rattle.tie_switch.specs.Turns.{has_ended}
use Rattle.tie_switch.proofs.Advances.{behind_keeps}
use Rattle.memory_core.specs.declared.entry.Entry.{Entry}
use Rattle.tie_switch.proofs.Knowing.{none_known}
use Rattle.run_threads.specs.Processors.{HasEnded, IsUnderWay}
use Rattle.run_threads.specs.Programs.{setting_of}
use Rattle.run_threads.proofs.Steps.{by_memory, ended_by, ends, fewer_left, goes_on, going_by, has_steps, its_own, shared_on}
use Rattle.run_threads.proofs.turns.turn_all.Goals as goal

pub advance_known-requires-clause-has_steps : goal.advance_known-requires-clause-has_steps
advance_known-requires-clause-has_steps g c =
    let l = c.loop-image in
    by_memory _ _ _ _ _ _ _ l.invariant.memory
    (has_steps (setting_of c.args.program) (set_up_of c.args.memory.now) _ (seen_by l.port.way) l.processor l.invariant.way c.reached_is_steady.ensures c.many_turns_keep_reached.ensures.many
    c.requires.can_run 10000)

pub share-requires : goal.share-requires
share-requires g c =
    let l = c.loop-image in
    its_own c.advance_known.new.memory.memory.now l.processor.thread c.advance_known.new.memory.way
    ((c.advance_known.ensures.serves l.processor.thread).0 (subst (λ (m : SharedMemory). IsWayOf m l.processor.thread l.port.way) (sym l.invariant.memory) l.invariant.lease))

pub loop-image-preserved : goal.loop-image-preserved
loop-image-preserved g c =
    let l = c.loop-image in
    let kept = l.invariant in
    let e = c.advance_known.ensures in
    let s = c.share.ensures in
    let way = subst (λ (m : SharedMemory). IsUnderWay (setting_of c.args.program) (set_up_of m) (seen_by l.port.way) l.processor) (sym kept.memory) kept.way in
    let is = behind_keeps _ (λ port. port.memory.now) (λ m n same. ap (λ x. x.now) same.0) l.port e.place ∙ kept.memory in
    let lease = (e.serves l.processor.thread).0 (subst (λ (m : SharedMemory). IsWayOf m l.processor.thread l.port.way) (sym kept.memory) kept.lease) in
    record {
      memory = ap (λ x. x.now) s.memory ∙ is;
      known = e.known;
      lease = shared_on c.args.memory.now c.advance_known.new.memory.memory.now l.processor.thread c.advance_known.new.self.thread c.advance_known.new.memory.way c.share.new.self.way is e.thread lease s.way;
      thread = e.thread ∙ kept.thread;
      budget = e.budget ∙ kept.budget;
      way =
          subst (λ (seen : List Entry). IsUnderWay (setting_of c.args.program) (set_up_of c.args.memory.now) seen c.advance_known.new.self) (sym s.seen)
          (subst (λ (m : SharedMemory). IsUnderWay (setting_of c.args.program) (set_up_of m) (seen_by c.advance_known.new.memory.way) c.advance_known.new.self) kept.memory
          (goes_on (setting_of c.args.program) (set_up_of l.port.memory.now) _ (seen_by l.port.way) l.processor way c.many_turns_keep_reached.ensures.many
          c.advance_known.result (seen_by c.advance_known.new.memory.way) c.advance_known.new.self e.thread e.budget (e.turned way.processor way.stands)));
    }

pub loop-image-smaller : goal.loop-image-smaller
loop-image-smaller g c =
    let l = c.loop-image in
    let e = c.advance_known.ensures in
    let j = c.advance_known.new.self in
    let some = e.some (omega arith) in
    fewer_left (has_ended (processor_of l.processor).mode) (has_ended (processor_of j).mode) l.processor.budget j.budget l.processor.steps j.steps l.processor.budget
    (going_by (processor_of l.processor).mode (ap is_some (sym c.end.ensures) ∙ c.is_none.ensures ∙ ap not c.loop-image-test.true)) (λ on. omega (arith, e.steps on, some)) e.few_steps e.budget refl

pub loop-image-init : goal.loop-image-init
loop-image-init g c = record {
  memory = c.new-port.ensures.memory;
  known = none_known c.args.program.image.now.pages 1024;
  lease =
      subst (λ (m : SharedMemory). IsWayOf m c.args.processor.now.thread c.new-port.result.way) refl
      (subst (λ (n : ℕ). IsWayOf c.args.memory.now n c.new-port.result.way) c.requires.pass.is.number_is c.new-port.ensures.way);
  thread = refl;
  budget = refl;
  way = subst (λ (seen : List Entry). IsUnderWay (setting_of c.args.program) (set_up_of c.args.memory.now) seen c.args.processor.now) (sym c.new-port.ensures.seen) c.requires.way;
}

pub returns-clause-ended : goal.returns-clause-ended
returns-clause-ended g c =
    let l = c.loop-image in
    subst (λ (seen : List Entry). HasEnded (setting_of c.args.program) (set_up_of c.args.memory.now) seen l.processor) (sym c.end-2.ensures.seen)
    (ends (setting_of c.args.program) (set_up_of c.args.memory.now) (seen_by l.port.way) l.processor l.invariant.way (ended_by (processor_of l.processor).mode (ap is_some (sym c.end.ensures) ∙ c.is_none.ensures ∙ ap not c.loop-image-test.false)))
