use Rattle.std.proofs.Common.{◌≡◌, ◌++◌, take}
use Rattle.std.specs.List.{flat_map}
use Rattle.image_text.specs.Lines.{stop_lines}
use Rattle.image_text.proofs.flow.put_all_stops.Given as goal

abbrev pub invariant-loop-instr : goal.invariant-loop-instr
invariant-loop-instr l = l.out.items ≡ l.fn.out.items ++ flat_map (stop_lines l.pages) (take l.instr-index l.instrs)
