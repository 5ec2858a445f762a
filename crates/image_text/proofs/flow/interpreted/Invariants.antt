use Rattle.std.proofs.Common.{◌≡◌, ◌≤◌, length, take}
use Rattle.std.specs.Prelude.{filter}
use Rattle.image_text.specs.Text.{is_interpreted}
use Rattle.image_text.proofs.flow.interpreted.Given as goal

abbrev pub invariant-loop-instr : goal.invariant-loop-instr
invariant-loop-instr l = record { value : l.count ≡ length (filter (is_interpreted l.pages) (take l.instr-index l.instrs)); most : l.count ≤ l.instr-index }
