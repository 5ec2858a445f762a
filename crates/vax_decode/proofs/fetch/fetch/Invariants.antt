use Rattle.std.proofs.Common.{◌≤◌, ◌-◌}
use Rattle.vax_decode.proofs.Fetching.{Fetching}
use Rattle.vax_decode.proofs.fetch.fetch.Given as goal

abbrev pub invariant-loop-count : goal.invariant-loop-count
invariant-loop-count l = record {
  few : l.count ≤ 64;
  fetching : Fetching l.pages l.pc l.count l.bytes;
}

abbrev pub decreases-loop-count : goal.decreases-loop-count
decreases-loop-count l = 64 - l.count
