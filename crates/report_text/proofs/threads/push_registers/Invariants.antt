use Rattle.std.proofs.Common.{◌≡◌, ◌+◌, ◌*◌, ◌++◌, length, take}
use Rattle.report_text.specs.Numbers.{longwords}
use Rattle.report_text.proofs.threads.push_registers.Given as goal

abbrev pub invariant-loop-value : goal.invariant-loop-value
invariant-loop-value l = record {
  text : l.line ≡ l.initial.line ++ longwords (take l.value-index l.registers);
  count : length l.line ≡ length l.initial.line + 9 * l.value-index;
}
