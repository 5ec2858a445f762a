use Rattle.std.proofs.Common.{◌≡◌, ◌<◌, ◌+◌, ◌-◌, ◌^◌}
use Rattle.vax_form.specs.References.{value_at}
use Rattle.stored_runs.specs.Memory.{byte_of}
use Rattle.stored_runs.proofs.memory.Memory.value.Given as goal

abbrev pub invariant-loop-read : goal.invariant-loop-read
invariant-loop-read l = record {
  value : l.value ≡ value_at (byte_of l.self) (l.address + (l.count - l.read)) l.read;
  small : l.value < 256 ^ l.read;
}
