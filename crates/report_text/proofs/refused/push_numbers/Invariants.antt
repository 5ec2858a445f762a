use Rattle.std.proofs.Common.{◌≡◌, ◌+◌, ◌*◌, ◌≤◌, ◌++◌, length, take}
use Rattle.report_text.specs.Numbers.{spaced}
use Rattle.report_text.proofs.refused.push_numbers.Given as goal

abbrev pub invariant-loop-number : goal.invariant-loop-number
invariant-loop-number l = record {
  text : l.line ≡ l.initial.line ++ spaced (take l.number-index l.numbers);
  count : length l.line ≤ length l.initial.line + 21 * l.number-index;
}
