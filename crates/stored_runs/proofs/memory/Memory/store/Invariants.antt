use Rattle.std.proofs.Common.{◌≡◌, ◌+◌, ◌-◌}
use Rattle.vax_form.specs.References.{with_value}
use Rattle.stored_runs.specs.Memory.{byte_of}
use Rattle.stored_runs.proofs.memory.Memory.store.Given as goal

abbrev pub invariant-loop-place : goal.invariant-loop-place
invariant-loop-place l = record {
  bytes : with_value (byte_of l.initial.self) l.address l.count l.value ≡ with_value (byte_of l.self) (l.address + l.place) (l.count - l.place) l.rest;
  taken : l.self.taken ≡ l.initial.self.taken;
  output : l.self.output.items ≡ l.initial.self.output.items;
}
