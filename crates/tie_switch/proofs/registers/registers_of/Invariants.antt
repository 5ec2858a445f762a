-- R0 up to the next have their values, and the others are 0
use Rattle.std.proofs.Common.{◌≡◌, ℕ, if◌then◌else◌, length}
use Rattle.std.specs.Prelude.{nat_lt, slice_index}
use Rattle.vt_words.specs.Quad.{sign_extended}
use Rattle.tie_switch.proofs.registers.registers_of.Given as goal

abbrev pub invariant-loop-n : goal.invariant-loop-n
invariant-loop-n l = record {
  count : length l.r ≡ 32;
  values : (k : ℕ) → slice_index l.r k ≡ (if nat_lt k l.n then sign_extended (slice_index l.state.r k) 32 else 0);
}
