use Rattle.std.proofs.Common.{◌≡◌, ◌++◌, take}
use Rattle.std.specs.List.{flat_map}
use Rattle.image_text.specs.Lines.{service_line}
use Rattle.image_text.proofs.flow.put_services.Given as goal

abbrev pub invariant-loop-instr : goal.invariant-loop-instr
invariant-loop-instr l = l.out.items ≡ l.fn.out.items ++ flat_map service_line (take l.instr-index l.instrs)
