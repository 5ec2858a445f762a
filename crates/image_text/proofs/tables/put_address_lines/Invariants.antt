use Rattle.std.proofs.Common.{◌≡◌, ◌++◌, drop}
use Rattle.image_text.specs.Lines.{numbered, address_line}
use Rattle.image_text.proofs.tables.put_address_lines.Given as goal

abbrev pub invariant-loop-number : goal.invariant-loop-number
invariant-loop-number l = l.out.items ++ numbered (address_line l.table) l.number (drop l.number l.addresses) ≡ l.fn.out.items ++ numbered (address_line l.table) 0 l.addresses
