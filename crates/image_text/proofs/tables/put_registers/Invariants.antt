use Rattle.std.proofs.Common.{◌≡◌, ◌++◌, drop}
use Rattle.image_text.specs.Lines.{numbered, register_text}
use Rattle.image_text.proofs.tables.put_registers.Given as goal

abbrev pub invariant-loop-number : goal.invariant-loop-number
invariant-loop-number l = l.out.items ++ numbered register_text l.number (drop l.number l.values) ≡ l.fn.out.items ++ numbered register_text 0 l.values
