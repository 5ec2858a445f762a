-- the steps so far; the program counter is left to the end
use Rattle.std.proofs.Common.{◌≡◌, ◌+◌, Some, slice_index}
use Rattle.alpha_machine.specs.Step.{state_of}
use Rattle.alpha_meaning.specs.State.{at_place, regs_of}
use Rattle.block_law.specs.Translations.{Code}
use Rattle.prepared_code.specs.Flats.{AreStraight}
use Rattle.prepared_code.specs.Inside.{steps_in}
use Rattle.prepared_code.proofs.run.go_straight.Given as goal

abbrev pub invariant-loop-made : goal.invariant-loop-made
invariant-loop-made g l = record {
  zero : slice_index l.cpu.r 31 ≡ 0;
  pc : l.cpu.pc ≡ l.initial.cpu.pc;
  ran : (code : Code) → AreStraight code l.flats l.initial.cpu.pc l.count
      → steps_in code (state_of l.initial.cpu) l.made ≡ Some (at_place (regs_of l.cpu.r) (l.initial.cpu.pc + l.made));
}
