-- A masked store by two masks: the bytes that it names from the value, and the others as before.
use Rattle.std.proofs.Common.{◌≡◌, ℕ, ◌-◌, ◌*◌, ◌<◌, ◌^◌, ◌==◌, if◌then◌else◌, refl, sym, ◌∙◌, arith, ⊎_elim, bit_or}
use Rattle.std.specs.Int.Bits.{or_zero_l, or_zero_r, and_le_l}
use Rattle.std.specs.Int.{bit_at, byte_at}
use Rattle.std.proofs.lemmas.Nat.{or_lt}
use Rattle.std.proofs.lemmas.Nat.Bits.{bit_at-lt}
use Rattle.std.proofs.Math.Nat.{lt_of_le_of_lt}
use Rattle.vt_words.specs.Quad.{byte_of, spread, kept, cleared}
use Rattle.vt_words.proofs.Laws.{byte_of_or, byte_of_kept, byte_of_cleared, same_from_bytes}
use Rattle.vt_words.proofs.Spreads.{bit_cases}
use Rattle.vt_words.proofs.Tests.{chosen_below}
use Rattle.memory_core.specs.Bytes.{quad_of, with_bytes}
use Rattle.memory_core.proofs.Neighbours.{byte_at-lt, byte_at-with_bytes, byte_is}

either : (b x y : ℕ) → b < 2 → bit_or (b * x) ((1 - b) * y) ≡ (if b == 1 then x else y)
either b x y h =
    ⊎_elim
    (λ (e : b ≡ 0). let all : (1 - 0) * y ≡ y = omega arith in let none : 0 * x ≡ 0 = omega arith in rw (e, all, none) (or_zero_l y))
    (λ (e : b ≡ 1). let all : 1 * x ≡ x = omega arith in let none : (1 - 1) * y ≡ 0 = omega arith in rw (e, all, none) (or_zero_r x))
    (bit_cases b h)

quad_below : (f : ℕ → ℕ) → ((k : ℕ) → f k < 256) → quad_of f < 2 ^ 64
quad_below f h =
    let a0 = h 0 in let a1 = h 1 in let a2 = h 2 in let a3 = h 3 in let a4 = h 4 in let a5 = h 5 in let a6 = h 6 in let a7 = h 7 in
    omega arith

with_bytes_below : (mask value before : ℕ) → with_bytes mask value before < 2 ^ 64
unfolding with_bytes
with_bytes_below mask value before =
    quad_below (λ k. if bit_at mask k == 1 then byte_at k value else byte_at k before)
    (λ k. chosen_below (bit_at mask k == 1) (byte_at k value) (byte_at k before) 256 (byte_at-lt k value) (byte_at-lt k before))

-- each byte of both sides
module _ (mask value before k : ℕ) (l : k < 8) where
  byte_of_masked : byte_of k (bit_or (kept mask value) (cleared mask before)) ≡ (if bit_at mask k == 1 then byte_of k value else byte_of k before)
  byte_of_masked =
      byte_of_or k (kept mask value) (cleared mask before)
      ∙ rw (byte_of_kept mask value k l, byte_of_cleared mask before k l) (either (bit_at mask k) (byte_of k value) (byte_of k before) (bit_at-lt mask k))

  byte_of_with_bytes : byte_of k (with_bytes mask value before) ≡ (if bit_at mask k == 1 then byte_of k value else byte_of k before)
  byte_of_with_bytes =
      sym (byte_is k (with_bytes mask value before) l) ∙ byte_at-with_bytes mask value before k l ∙ rw (byte_is k value l, byte_is k before l) refl

pub masked : (mask value before : ℕ) → value < 2 ^ 64 → before < 2 ^ 64 → bit_or (kept mask value) (cleared mask before) ≡ with_bytes mask value before
masked mask value before hv hb =
    same_from_bytes (bit_or (kept mask value) (cleared mask before)) (with_bytes mask value before)
    (or_lt 64 (kept mask value) (cleared mask before)
    (lt_of_le_of_lt (and_le_l value (spread mask)) hv)
    (lt_of_le_of_lt (and_le_l before (2 ^ 64 - 1 - spread mask)) hb))
    (with_bytes_below mask value before)
    (λ k l. byte_of_masked mask value before k l ∙ sym (byte_of_with_bytes mask value before k l))
