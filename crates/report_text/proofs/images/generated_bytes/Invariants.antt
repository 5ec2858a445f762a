use Rattle.std.proofs.Common.{◌≡◌, ◌+◌, length}
use Rattle.report_text.specs.Generated.{groups, number_of_group}
use Rattle.report_text.proofs.images.generated_bytes.Given as goal

abbrev pub invariant-loop-group : goal.invariant-loop-group
invariant-loop-group l = record {
  number : l.x ≡ number_of_group l.number l._group;
  bytes : l.bytes ≡ 89 + length (groups l.number l._group);
}
