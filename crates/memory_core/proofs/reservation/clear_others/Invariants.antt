use Rattle.std.proofs.Common.{◌≡◌, ℕ, ◌<◌, ◌≤◌, slice_index_or}
use Rattle.memory_core.specs.Reservations.{none, cleared_by}
use Rattle.memory_core.proofs.reservation.clear_others.Given as goal

abbrev pub invariant-loop-i : goal.invariant-loop-i
invariant-loop-i l = record {
  done : (p : ℕ) → p < l.i → slice_index_or l.reservations p none ≡ cleared_by l.processor l.block p (slice_index_or l.fn.reservations p none);
  rest : (p : ℕ) → l.i ≤ p → slice_index_or l.reservations p none ≡ slice_index_or l.fn.reservations p none;
}
