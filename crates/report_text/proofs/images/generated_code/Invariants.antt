use Rattle.std.proofs.Common.{◌≡◌, ◌++◌}
use Rattle.report_text.specs.Generated.{front_bytes, groups, number_of_group}
use Rattle.report_text.proofs.images.generated_code.Given as goal

abbrev pub invariant-loop-group : goal.invariant-loop-group
invariant-loop-group l = record {
  number : l.x ≡ number_of_group l.number l._group;
  code : l.code.items ≡ front_bytes ++ groups l.number l._group;
}
