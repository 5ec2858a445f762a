use Rattle.std.proofs.Common.{◌≡◌, ◌++◌, take, map}
use Rattle.dis_text.specs.Lines.{character}
use Rattle.dis_text.proofs.put.put_characters.Given as goal

abbrev pub invariant-loop-byte : goal.invariant-loop-byte
invariant-loop-byte l = l.out.items ≡ l.fn.out.items ++ map character (take l.byte-index l.bytes)
