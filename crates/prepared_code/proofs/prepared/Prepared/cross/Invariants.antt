use Rattle.std.proofs.Common.{◌≡◌, ◌≤◌, ◌-◌, Some}
use Rattle.std.specs.Prelude.{slice_index}
use Rattle.alpha_machine.specs.Step.{state_of}
use Rattle.prepared_code.specs.Inside.{steps_in}
use Rattle.prepared_code.proofs.prepared.Prepared.cross.Given as goal

abbrev pub invariant-loop-made : goal.invariant-loop-made
invariant-loop-made g l = record {
  zero : slice_index l.cpu.r 31 ≡ 0;
  most : l.made ≤ l.most;
  ran : steps_in l.self.code (state_of l.initial.cpu) l.made ≡ Some (state_of l.cpu);
}

abbrev pub decreases-loop-made : goal.decreases-loop-made
decreases-loop-made g l = l.most - l.made
