use Rattle.std.proofs.Common.{◌≡◌, ◌≤◌, ◌<◌, ◌+◌, ℕ, drop, get_or, length}
use Rattle.std.specs.Prelude.{filter}
use Rattle.image_text.specs.Text.{has_opcode}
use Rattle.image_text.proofs.flow.of_opcodes.Given as goal

abbrev pub invariant-loop-instr : goal.invariant-loop-instr
invariant-loop-instr l = record {
  room : length l.counts ≡ 256;
  values : (k : ℕ) → k < 256 → get_or l.counts k 0 + length (filter (has_opcode l.pages k) (drop l.instr-index l.instrs)) ≡ length (filter (has_opcode l.pages k) l.instrs);
  most : (k : ℕ) → k < 256 → get_or l.counts k 0 ≤ l.instr-index;
}
