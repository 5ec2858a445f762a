use Rattle.std.proofs.Common.{◌≡◌, ◌++◌, take}
use Rattle.report_text.proofs.line.Line.push_text.Given as goal

abbrev pub invariant-loop-byte : goal.invariant-loop-byte
invariant-loop-byte l = l.self ≡ l.initial.self ++ take l.byte-index l.text
