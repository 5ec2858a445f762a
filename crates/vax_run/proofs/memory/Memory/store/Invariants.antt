use Rattle.std.proofs.Common.{◌≡◌, ◌+◌, ◌-◌}
use Rattle.image_file.specs.Values.{ImageValue}
use Rattle.vax_meaning.specs.References.{with_value}
use Rattle.vax_run.specs.Memory.{byte_of}
use Rattle.vax_run.proofs.memory.Memory.store.Given as goal

abbrev pub invariant-loop-place : goal.invariant-loop-place
invariant-loop-place l = record {
  bytes : (image : ImageValue) → with_value (byte_of image l.initial.self) l.address l.count l.value ≡ with_value (byte_of image l.self) (l.address + l.place) (l.count - l.place) l.rest;
  gets : l.self.gets ≡ l.initial.self.gets;
  output : l.self.output.items ≡ l.initial.self.output.items;
}
