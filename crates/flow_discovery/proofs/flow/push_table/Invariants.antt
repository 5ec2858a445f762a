use Rattle.std.proofs.Common.{◌≡◌, ◌++◌}
use Rattle.std.specs.List.{filter_map, range_with_len}
use Rattle.flow_discovery.specs.Flow.{table_target}
use Rattle.flow_discovery.proofs.flow.push_table.Given as goal

abbrev pub invariant-loop-number : goal.invariant-loop-number
invariant-loop-number l = l.into.items ≡ l.initial.into.items ++ filter_map (table_target l.pages l.table) (range_with_len 0 l.number)
