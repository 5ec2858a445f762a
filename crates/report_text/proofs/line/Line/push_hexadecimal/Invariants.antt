use Rattle.std.proofs.Common.{◌≡◌, ◌+◌, ◌-◌, ◌++◌, length}
use Rattle.report_text.specs.Digits.{digits_from}
use Rattle.report_text.proofs.line.Line.push_hexadecimal.Given as goal

abbrev pub invariant-loop-written : goal.invariant-loop-written
invariant-loop-written l = record {
  count : length l.self ≡ length l.initial.self + l.written;
  text : l.self ++ digits_from (l.digits - l.written) l.number ≡ l.initial.self ++ digits_from l.digits l.number;
}
