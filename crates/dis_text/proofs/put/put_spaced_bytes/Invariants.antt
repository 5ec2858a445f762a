use Rattle.std.proofs.Common.{◌≡◌, ◌++◌, take}
use Rattle.std.specs.List.{flat_map}
use Rattle.dis_text.specs.Lines.{spaced_byte}
use Rattle.dis_text.proofs.put.put_spaced_bytes.Given as goal

abbrev pub invariant-loop-byte : goal.invariant-loop-byte
invariant-loop-byte l = l.out.items ≡ l.fn.out.items ++ flat_map spaced_byte (take l.byte-index l.bytes)
