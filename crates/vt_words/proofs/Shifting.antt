-- A longword shifted by more than its size is no longword, unless it is 0.
use Rattle.std.proofs.Common.{◌≡◌, ℕ, zero, suc, ◌-◌, ◌*◌, ◌^◌, ◌<◌, ◌≤◌, refl, sym, ap, ◌∙◌, arith, cond}
use Rattle.std.specs.Prelude.{pos, neg_ℤ, ◌*ℤ◌, ◌-ℤ◌, not, ◌==◌, nat_lt, Bool, true, false}
use Rattle.std.proofs.lemmas.Int.{ints}
use Rattle.std.proofs.lemmas.Bool.Decides.{nat_tests}
use Rattle.std.proofs.lemmas.Bool.{le-ltb}
use Rattle.std.proofs.Math.Pow.{pow_mono}
use Rattle.std.proofs.Math.Nat.{mul-le-mul_right}
use Rattle.vt_words.specs.Values.{signed_value, fits}

above_fits : (k : ℕ) → 2 ^ 31 ≤ k → fits 4 (pos k) ≡ false
above_fits k h = le-ltb k (2 ^ 31) h

below_fits : (k : ℕ) → 2 ^ 31 < k → fits 4 (neg_ℤ (pos k)) ≡ false
below_fits zero h = absurd (omega arith)
below_fits (suc k) h = grind (arith, nat_tests)

times_fits : (n p : ℕ) → 2 ^ 32 ≤ p → 0 < n → fits 4 (pos n *ℤ pos p) ≡ false
times_fits zero p hp hn = absurd (omega arith)
times_fits (suc n) p hp hn =
    let l : 1 * p ≤ suc n * p = mul-le-mul_right p (omega arith) in
    above_fits (suc n * p) (omega arith)

negative_fits : (n p : ℕ) → 2 ^ 32 ≤ p → fits 4 (neg_ℤ (pos (suc n)) *ℤ pos p) ≡ false
negative_fits n p hp =
    let l : 1 * p ≤ suc n * p = mul-le-mul_right p (omega arith) in
    below_fits (suc n * p) (omega arith)

below_is : (value : ℕ) → value < 2 ^ 32 → pos value -ℤ pos (2 ^ 32) ≡ neg_ℤ (pos (suc (2 ^ 32 - value - 1)))
below_is value h = omega (arith, ints)

cases : (value p : ℕ) → value < 2 ^ 32 → 2 ^ 32 ≤ p → (b : Bool) → nat_lt value (2 ^ 31) ≡ b → (0 < value) → fits 4 (cond b (pos value) (pos value -ℤ pos (2 ^ 32)) *ℤ pos p) ≡ false
cases value p hv hp true e h = times_fits value p hp h
cases value p hv hp false e h = rw (below_is value hv) (negative_fits (2 ^ 32 - value - 1) p hp)

pub shifted_out : (value count : ℕ) → value < 2 ^ 32 → 31 < count → not (fits 4 (signed_value 4 value *ℤ pos (2 ^ count))) ≡ not (value == 0)
shifted_out zero count hv hc = let e : 0 * 2 ^ count ≡ 0 = omega arith in rw e
shifted_out (suc value) count hv hc =
    let hp : 2 ^ 32 ≤ 2 ^ count = pow_mono {i = 32} {j = count} (omega arith) in
    let positive : (suc value == 0) ≡ false = grind (arith, nat_tests) in
    let e = cases (suc value) (2 ^ count) hv hp (nat_lt (suc value) (2 ^ 31)) refl (omega arith) in
    ap not (e ∙ sym positive)
