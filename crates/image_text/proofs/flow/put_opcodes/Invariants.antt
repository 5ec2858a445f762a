use Rattle.std.proofs.Common.{◌≡◌, ◌++◌}
use Rattle.std.specs.List.{flat_map, range_with_len}
use Rattle.image_text.specs.Text.{interpreted_line}
use Rattle.image_text.proofs.flow.put_opcodes.Given as goal

abbrev pub invariant-loop-opcode : goal.invariant-loop-opcode
invariant-loop-opcode l = l.out.items ≡ l.fn.out.items ++ flat_map (interpreted_line l.pages l.instrs) (range_with_len 0 l.opcode)
