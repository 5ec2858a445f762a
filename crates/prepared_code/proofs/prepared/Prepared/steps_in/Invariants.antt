-- the steps so far; each round makes one
use Rattle.std.proofs.Common.{◌≡◌, ◌≤◌, ◌-◌, Some, slice_index}
use Rattle.alpha_machine.specs.Step.{state_of}
use Rattle.prepared_code.specs.Inside.{steps_in}
use Rattle.prepared_code.proofs.prepared.Prepared.steps_in.Given as goal

abbrev pub invariant-loop-made : goal.invariant-loop-made
invariant-loop-made l = record {
  most : l.made ≤ l.most;
  zero : slice_index l.cpu.r 31 ≡ 0;
  ran : steps_in l.self.code (state_of l.initial.cpu) l.made ≡ Some (state_of l.cpu);
}

abbrev pub decreases-loop-made : goal.decreases-loop-made
decreases-loop-made l = l.most - l.made
