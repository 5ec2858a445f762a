-- What the byte instructions do to a field of a quadword.
use Rattle.std.proofs.Common.{◌≡◌, ℕ, zero, suc, ◌+◌, ◌-◌, ◌*◌, ◌/◌, ◌%◌, ◌^◌, ◌<◌, ◌≤◌, refl, sym, ap, ◌∙◌, subst, arith, lit<}
use Rattle.std.specs.Prelude.{bit_or}
use Rattle.std.specs.Int.Bits.{or_zero_l, or_shifted_r, or_block}
use Rattle.std.proofs.lemmas.Nat.{pow_pos, pow-add, and_mask, and_comm, and-not, mod_below, shr_split, mod-pow-add, mod_low, shl-shr, field_of as std_field_of}
use Rattle.std.proofs.lemmas.Nat.Bits.{and_high}
use Rattle.std.proofs.Math.Nat.{mul_assoc, add-mul, div-one}
use Rattle.vt_words.specs.Quad.{IsCount, one, two, four, eight, spread, kept, cleared, left, right, ext_low, ins_low, ins_high, msk_low, msk_high, field_of, with_field_of}
use Rattle.vt_words.proofs.Spreads.{below_8}

pub count_le : {c : ℕ} → IsCount c → c ≤ 8
count_le one = omega arith
count_le two = omega arith
count_le four = omega arith
count_le eight = omega arith

-- the mask names `count` bytes from `at` on
pub record IsRun (mask at count : ℕ) : Type 0 where
  pub bits : spread mask ≡ 2 ^ (8 * count + 8 * at) - 2 ^ (8 * at)
  pub below : spread mask < 2 ^ 64
  pub byte : mask < 2 ^ 8

pub kept_run : (mask at count n : ℕ) → IsRun mask at count → kept mask n ≡ field_of n at count * 2 ^ (8 * at)
kept_run mask at count n r = rw r.bits (and_high n (8 * count) (8 * at))

-- the number in three parts
pub parts_sum : (n j k : ℕ) → n ≡ n / 2 ^ (j + k) * 2 ^ (j + k) + (n / 2 ^ k % 2 ^ j * 2 ^ k + n % 2 ^ k)
parts_sum n j k = omega (arith, shr_split n (j + k), mod-pow-add n j k)

pub cleared_run : (mask at count n : ℕ) → n < 2 ^ 64 → IsRun mask at count → cleared mask n ≡ n / 2 ^ (8 * count + 8 * at) * 2 ^ (8 * count + 8 * at) + n % 2 ^ (8 * at)
cleared_run mask at count n h r =
    let split : cleared mask n + kept mask n ≡ n = rw (and_comm n (2 ^ 64 - 1 - spread mask), and_comm n (spread mask)) (and-not 64 (spread mask) n r.below h) in
    let e = kept_run mask at count n r in
    let p = parts_sum n (8 * count) (8 * at) in
    omega arith

-- the bytes in the middle replaced
pub or_replaced : (j k hi mid low : ℕ) → mid < 2 ^ j → low < 2 ^ k → bit_or (mid * 2 ^ k) (hi * 2 ^ (j + k) + low) ≡ hi * 2 ^ (j + k) + (mid * 2 ^ k + low)
or_replaced j k hi mid low hm hl =
    let e : hi * 2 ^ (j + k) ≡ hi * 2 ^ j * 2 ^ k = rw (pow-add 2 j k) (sym (mul_assoc hi (2 ^ j) (2 ^ k))) in
    let zero : mid * 2 ^ k ≡ mid * 2 ^ k + 0 = omega arith in
    let sum : (hi * 2 ^ j + mid) * 2 ^ k ≡ hi * 2 ^ j * 2 ^ k + mid * 2 ^ k = add-mul (hi * 2 ^ j) mid (2 ^ k) in
    let whole = or_block k mid (hi * 2 ^ j) 0 low (pow_pos k) hl in
    let top = or_shifted_r hi j mid hm in
    ap (λ x. bit_or x (hi * 2 ^ (j + k) + low)) zero ∙ ap (λ y. bit_or (mid * 2 ^ k + 0) (y + low)) e ∙ whole ∙ rw (top, or_zero_l low) (omega arith)

-- what the masks name
pub run_low : {c : ℕ} → IsCount c → (o : ℕ) → o < 8 → o + c ≤ 8 → IsRun (((2 ^ c - 1) * 2 ^ o) % 2 ^ 8) o c
unfolding spread
run_low one = below_8 (λ o. o + 1 ≤ 8 → IsRun (((2 ^ 1 - 1) * 2 ^ o) % 2 ^ 8) o 1)
    (λ _. record { bits = refl; below = lit< tt; byte = lit< tt }) (λ _. record { bits = refl; below = lit< tt; byte = lit< tt }) (λ _. record { bits = refl; below = lit< tt; byte = lit< tt }) (λ _. record { bits = refl; below = lit< tt; byte = lit< tt }) (λ _. record { bits = refl; below = lit< tt; byte = lit< tt }) (λ _. record { bits = refl; below = lit< tt; byte = lit< tt }) (λ _. record { bits = refl; below = lit< tt; byte = lit< tt }) (λ _. record { bits = refl; below = lit< tt; byte = lit< tt })
run_low two = below_8 (λ o. o + 2 ≤ 8 → IsRun (((2 ^ 2 - 1) * 2 ^ o) % 2 ^ 8) o 2)
    (λ _. record { bits = refl; below = lit< tt; byte = lit< tt }) (λ _. record { bits = refl; below = lit< tt; byte = lit< tt }) (λ _. record { bits = refl; below = lit< tt; byte = lit< tt }) (λ _. record { bits = refl; below = lit< tt; byte = lit< tt }) (λ _. record { bits = refl; below = lit< tt; byte = lit< tt }) (λ _. record { bits = refl; below = lit< tt; byte = lit< tt }) (λ _. record { bits = refl; below = lit< tt; byte = lit< tt }) (λ h. absurd (omega arith))
run_low four = below_8 (λ o. o + 4 ≤ 8 → IsRun (((2 ^ 4 - 1) * 2 ^ o) % 2 ^ 8) o 4)
    (λ _. record { bits = refl; below = lit< tt; byte = lit< tt }) (λ _. record { bits = refl; below = lit< tt; byte = lit< tt }) (λ _. record { bits = refl; below = lit< tt; byte = lit< tt }) (λ _. record { bits = refl; below = lit< tt; byte = lit< tt }) (λ _. record { bits = refl; below = lit< tt; byte = lit< tt }) (λ h. absurd (omega arith)) (λ h. absurd (omega arith)) (λ h. absurd (omega arith))
run_low eight = below_8 (λ o. o + 8 ≤ 8 → IsRun (((2 ^ 8 - 1) * 2 ^ o) % 2 ^ 8) o 8)
    (λ _. record { bits = refl; below = lit< tt; byte = lit< tt }) (λ h. absurd (omega arith)) (λ h. absurd (omega arith)) (λ h. absurd (omega arith)) (λ h. absurd (omega arith)) (λ h. absurd (omega arith)) (λ h. absurd (omega arith)) (λ h. absurd (omega arith))

pub run_first : {c : ℕ} → IsCount c → (o : ℕ) → o < 8 → 8 < o + c → IsRun (((2 ^ c - 1) * 2 ^ o) % 2 ^ 8) o (8 - o)
unfolding spread
run_first one = below_8 (λ o. 8 < o + 1 → IsRun (((2 ^ 1 - 1) * 2 ^ o) % 2 ^ 8) o (8 - o))
    (λ h. absurd (omega arith)) (λ h. absurd (omega arith)) (λ h. absurd (omega arith)) (λ h. absurd (omega arith)) (λ h. absurd (omega arith)) (λ h. absurd (omega arith)) (λ h. absurd (omega arith)) (λ h. absurd (omega arith))
run_first two = below_8 (λ o. 8 < o + 2 → IsRun (((2 ^ 2 - 1) * 2 ^ o) % 2 ^ 8) o (8 - o))
    (λ h. absurd (omega arith)) (λ h. absurd (omega arith)) (λ h. absurd (omega arith)) (λ h. absurd (omega arith)) (λ h. absurd (omega arith)) (λ h. absurd (omega arith)) (λ h. absurd (omega arith)) (λ _. record { bits = refl; below = lit< tt; byte = lit< tt })
run_first four = below_8 (λ o. 8 < o + 4 → IsRun (((2 ^ 4 - 1) * 2 ^ o) % 2 ^ 8) o (8 - o))
    (λ h. absurd (omega arith)) (λ h. absurd (omega arith)) (λ h. absurd (omega arith)) (λ h. absurd (omega arith)) (λ h. absurd (omega arith)) (λ _. record { bits = refl; below = lit< tt; byte = lit< tt }) (λ _. record { bits = refl; below = lit< tt; byte = lit< tt }) (λ _. record { bits = refl; below = lit< tt; byte = lit< tt })
run_first eight = below_8 (λ o. 8 < o + 8 → IsRun (((2 ^ 8 - 1) * 2 ^ o) % 2 ^ 8) o (8 - o))
    (λ h. absurd (omega arith)) (λ _. record { bits = refl; below = lit< tt; byte = lit< tt }) (λ _. record { bits = refl; below = lit< tt; byte = lit< tt }) (λ _. record { bits = refl; below = lit< tt; byte = lit< tt }) (λ _. record { bits = refl; below = lit< tt; byte = lit< tt }) (λ _. record { bits = refl; below = lit< tt; byte = lit< tt }) (λ _. record { bits = refl; below = lit< tt; byte = lit< tt }) (λ _. record { bits = refl; below = lit< tt; byte = lit< tt })

pub run_second : {c : ℕ} → IsCount c → (o : ℕ) → o < 8 → 8 < o + c → IsRun (((2 ^ c - 1) * 2 ^ o) / 2 ^ 8) 0 (o + c - 8)
unfolding spread
run_second one = below_8 (λ o. 8 < o + 1 → IsRun (((2 ^ 1 - 1) * 2 ^ o) / 2 ^ 8) 0 (o + 1 - 8))
    (λ h. absurd (omega arith)) (λ h. absurd (omega arith)) (λ h. absurd (omega arith)) (λ h. absurd (omega arith)) (λ h. absurd (omega arith)) (λ h. absurd (omega arith)) (λ h. absurd (omega arith)) (λ h. absurd (omega arith))
run_second two = below_8 (λ o. 8 < o + 2 → IsRun (((2 ^ 2 - 1) * 2 ^ o) / 2 ^ 8) 0 (o + 2 - 8))
    (λ h. absurd (omega arith)) (λ h. absurd (omega arith)) (λ h. absurd (omega arith)) (λ h. absurd (omega arith)) (λ h. absurd (omega arith)) (λ h. absurd (omega arith)) (λ h. absurd (omega arith)) (λ _. record { bits = refl; below = lit< tt; byte = lit< tt })
run_second four = below_8 (λ o. 8 < o + 4 → IsRun (((2 ^ 4 - 1) * 2 ^ o) / 2 ^ 8) 0 (o + 4 - 8))
    (λ h. absurd (omega arith)) (λ h. absurd (omega arith)) (λ h. absurd (omega arith)) (λ h. absurd (omega arith)) (λ h. absurd (omega arith)) (λ _. record { bits = refl; below = lit< tt; byte = lit< tt }) (λ _. record { bits = refl; below = lit< tt; byte = lit< tt }) (λ _. record { bits = refl; below = lit< tt; byte = lit< tt })
run_second eight = below_8 (λ o. 8 < o + 8 → IsRun (((2 ^ 8 - 1) * 2 ^ o) / 2 ^ 8) 0 (o + 8 - 8))
    (λ h. absurd (omega arith)) (λ _. record { bits = refl; below = lit< tt; byte = lit< tt }) (λ _. record { bits = refl; below = lit< tt; byte = lit< tt }) (λ _. record { bits = refl; below = lit< tt; byte = lit< tt }) (λ _. record { bits = refl; below = lit< tt; byte = lit< tt }) (λ _. record { bits = refl; below = lit< tt; byte = lit< tt }) (λ _. record { bits = refl; below = lit< tt; byte = lit< tt }) (λ _. record { bits = refl; below = lit< tt; byte = lit< tt })

-- a field replaced: what is kept of `x` stands in the field, the rest is as before
pub replaced_run : (mask at count q x v : ℕ) → IsRun mask at count → q < 2 ^ 64 → field_of x at count ≡ v % 2 ^ (8 * count) → bit_or (kept mask x) (cleared mask q) ≡ with_field_of q at count v
replaced_run mask at count q x v r hq hx =
    let ek = kept_run mask at count x r in
    let ec = cleared_run mask at count q hq r in
    let e : 8 * count + 8 * at ≡ 8 * (at + count) = omega arith in
    let hm : v % 2 ^ (8 * count) < 2 ^ (8 * count) = mod_below v (2 ^ (8 * count)) (pow_pos (8 * count)) in
    let hl : q % 2 ^ (8 * at) < 2 ^ (8 * at) = mod_below q (2 ^ (8 * at)) (pow_pos (8 * at)) in
    let whole = or_replaced (8 * count) (8 * at) (q / 2 ^ (8 * count + 8 * at)) (v % 2 ^ (8 * count)) (q % 2 ^ (8 * at)) hm hl in
    rw (ek, hx, ec) (subst (λ n. bit_or (v % 2 ^ (8 * count) * 2 ^ (8 * at)) (q / 2 ^ (8 * count + 8 * at) * 2 ^ (8 * count + 8 * at) + q % 2 ^ (8 * at)) ≡ q / 2 ^ n * 2 ^ n + (v % 2 ^ (8 * count) * 2 ^ (8 * at) + q % 2 ^ (8 * at))) e whole)

mod_mod_pow : (v j r : ℕ) → j ≤ r → v % 2 ^ r % 2 ^ j ≡ v % 2 ^ j
mod_mod_pow v j r h =
    let e : r ≡ r - j + j = omega arith in
    let p : 0 < 2 ^ j = pow_pos j in
    let a = mod-pow-add v (r - j) j in
    let hl : v % 2 ^ j < 2 ^ j = mod_below v (2 ^ j) p in
    ap (λ n. v % 2 ^ n % 2 ^ j) e ∙ ap (λ n. n % 2 ^ j) a ∙ mod_low (v / 2 ^ j % 2 ^ (r - j)) j (v % 2 ^ j) hl

-- the field of a shifted number
left_field : (v at count : ℕ) → at + count ≤ 8 → field_of (left v (8 * at)) at count ≡ v % 2 ^ (8 * count)
left_field v at count h =
    let k = 8 * at in
    let e : 64 ≡ 64 - k + k = omega arith in
    ap (λ n. v * 2 ^ k % 2 ^ n / 2 ^ k % 2 ^ (8 * count)) e ∙ ap (λ n. n % 2 ^ (8 * count)) (std_field_of (v * 2 ^ k) (64 - k) k ∙ ap (λ n. n % 2 ^ (64 - k)) (shl-shr v k)) ∙ mod_mod_pow v (8 * count) (64 - k) (omega arith)

module _ (q v a : ℕ) (hq : q < 2 ^ 64) where
  offset_lt : a % 8 < 8
  offset_lt = omega arith

  -- INSxL | MSKxL, where the operand lies in the quadword
  pub replaced : {c : ℕ} → IsCount c → a % 8 + c ≤ 8 → bit_or (ins_low (2 ^ c - 1) v a) (msk_low (2 ^ c - 1) q a) ≡ with_field_of q (a % 8) c v
  replaced {c} is_count h =
      replaced_run _ (a % 8) c q (left v (8 * (a % 8))) v (run_low is_count (a % 8) offset_lt h) hq (left_field v (a % 8) c h)

  -- INSxL | MSKxL, where it goes on in the next
  pub replaced_first : {c : ℕ} → IsCount c → 8 < a % 8 + c → bit_or (ins_low (2 ^ c - 1) v a) (msk_low (2 ^ c - 1) q a) ≡ with_field_of q (a % 8) (8 - a % 8) v
  replaced_first {c} is_count h =
      replaced_run _ (a % 8) (8 - a % 8) q (left v (8 * (a % 8))) v (run_first is_count (a % 8) offset_lt h) hq (left_field v (a % 8) (8 - a % 8) (omega arith))

  -- INSxH | MSKxH at the next quadword
  pub replaced_second : {c : ℕ} → IsCount c → 8 < a % 8 + c → bit_or (ins_high (2 ^ c - 1) v a) (msk_high (2 ^ c - 1) q a) ≡ with_field_of q 0 (a % 8 + c - 8) (v / 2 ^ (8 * (8 - a % 8)))
  replaced_second {c} is_count h =
      let le : c ≤ 8 = count_le is_count in
      let e : (64 - 8 * (a % 8)) % 64 ≡ 8 * (8 - a % 8) = omega arith in
      replaced_run _ 0 (a % 8 + c - 8) q (right v ((64 - 8 * (a % 8)) % 64)) (v / 2 ^ (8 * (8 - a % 8))) (run_second is_count (a % 8) offset_lt h) hq (rw (e, div-one (v / 2 ^ (8 * (8 - a % 8)))) refl)

  -- EXTxL
  pub extracted : {c : ℕ} → IsCount c → ext_low (2 ^ c - 1) q a ≡ field_of q (a % 8) c
  unfolding spread
  extracted one = and_mask (right q (8 * (a % 8))) 8
  extracted two = and_mask (right q (8 * (a % 8))) 16
  extracted four = and_mask (right q (8 * (a % 8))) 32
  extracted eight = and_mask (right q (8 * (a % 8))) 64

-- the mask of any field
run_of_suc : (at : ℕ) → at < 8 → (c : ℕ) → c < 8 → at + suc c ≤ 8 → IsRun ((2 ^ suc c - 1) * 2 ^ at) at (suc c)
unfolding spread
run_of_suc = below_8 (λ at. (c : ℕ) → c < 8 → at + suc c ≤ 8 → IsRun ((2 ^ suc c - 1) * 2 ^ at) at (suc c))
    (below_8 (λ c. 0 + suc c ≤ 8 → IsRun ((2 ^ suc c - 1) * 2 ^ 0) 0 (suc c)) (λ _. record { bits = refl; below = lit< tt; byte = lit< tt }) (λ _. record { bits = refl; below = lit< tt; byte = lit< tt }) (λ _. record { bits = refl; below = lit< tt; byte = lit< tt }) (λ _. record { bits = refl; below = lit< tt; byte = lit< tt }) (λ _. record { bits = refl; below = lit< tt; byte = lit< tt }) (λ _. record { bits = refl; below = lit< tt; byte = lit< tt }) (λ _. record { bits = refl; below = lit< tt; byte = lit< tt }) (λ _. record { bits = refl; below = lit< tt; byte = lit< tt }))
    (below_8 (λ c. 1 + suc c ≤ 8 → IsRun ((2 ^ suc c - 1) * 2 ^ 1) 1 (suc c)) (λ _. record { bits = refl; below = lit< tt; byte = lit< tt }) (λ _. record { bits = refl; below = lit< tt; byte = lit< tt }) (λ _. record { bits = refl; below = lit< tt; byte = lit< tt }) (λ _. record { bits = refl; below = lit< tt; byte = lit< tt }) (λ _. record { bits = refl; below = lit< tt; byte = lit< tt }) (λ _. record { bits = refl; below = lit< tt; byte = lit< tt }) (λ _. record { bits = refl; below = lit< tt; byte = lit< tt }) (λ h. absurd (omega arith)))
    (below_8 (λ c. 2 + suc c ≤ 8 → IsRun ((2 ^ suc c - 1) * 2 ^ 2) 2 (suc c)) (λ _. record { bits = refl; below = lit< tt; byte = lit< tt }) (λ _. record { bits = refl; below = lit< tt; byte = lit< tt }) (λ _. record { bits = refl; below = lit< tt; byte = lit< tt }) (λ _. record { bits = refl; below = lit< tt; byte = lit< tt }) (λ _. record { bits = refl; below = lit< tt; byte = lit< tt }) (λ _. record { bits = refl; below = lit< tt; byte = lit< tt }) (λ h. absurd (omega arith)) (λ h. absurd (omega arith)))
    (below_8 (λ c. 3 + suc c ≤ 8 → IsRun ((2 ^ suc c - 1) * 2 ^ 3) 3 (suc c)) (λ _. record { bits = refl; below = lit< tt; byte = lit< tt }) (λ _. record { bits = refl; below = lit< tt; byte = lit< tt }) (λ _. record { bits = refl; below = lit< tt; byte = lit< tt }) (λ _. record { bits = refl; below = lit< tt; byte = lit< tt }) (λ _. record { bits = refl; below = lit< tt; byte = lit< tt }) (λ h. absurd (omega arith)) (λ h. absurd (omega arith)) (λ h. absurd (omega arith)))
    (below_8 (λ c. 4 + suc c ≤ 8 → IsRun ((2 ^ suc c - 1) * 2 ^ 4) 4 (suc c)) (λ _. record { bits = refl; below = lit< tt; byte = lit< tt }) (λ _. record { bits = refl; below = lit< tt; byte = lit< tt }) (λ _. record { bits = refl; below = lit< tt; byte = lit< tt }) (λ _. record { bits = refl; below = lit< tt; byte = lit< tt }) (λ h. absurd (omega arith)) (λ h. absurd (omega arith)) (λ h. absurd (omega arith)) (λ h. absurd (omega arith)))
    (below_8 (λ c. 5 + suc c ≤ 8 → IsRun ((2 ^ suc c - 1) * 2 ^ 5) 5 (suc c)) (λ _. record { bits = refl; below = lit< tt; byte = lit< tt }) (λ _. record { bits = refl; below = lit< tt; byte = lit< tt }) (λ _. record { bits = refl; below = lit< tt; byte = lit< tt }) (λ h. absurd (omega arith)) (λ h. absurd (omega arith)) (λ h. absurd (omega arith)) (λ h. absurd (omega arith)) (λ h. absurd (omega arith)))
    (below_8 (λ c. 6 + suc c ≤ 8 → IsRun ((2 ^ suc c - 1) * 2 ^ 6) 6 (suc c)) (λ _. record { bits = refl; below = lit< tt; byte = lit< tt }) (λ _. record { bits = refl; below = lit< tt; byte = lit< tt }) (λ h. absurd (omega arith)) (λ h. absurd (omega arith)) (λ h. absurd (omega arith)) (λ h. absurd (omega arith)) (λ h. absurd (omega arith)) (λ h. absurd (omega arith)))
    (below_8 (λ c. 7 + suc c ≤ 8 → IsRun ((2 ^ suc c - 1) * 2 ^ 7) 7 (suc c)) (λ _. record { bits = refl; below = lit< tt; byte = lit< tt }) (λ h. absurd (omega arith)) (λ h. absurd (omega arith)) (λ h. absurd (omega arith)) (λ h. absurd (omega arith)) (λ h. absurd (omega arith)) (λ h. absurd (omega arith)) (λ h. absurd (omega arith)))

pub run_of : (at count : ℕ) → 1 ≤ count → at + count ≤ 8 → IsRun ((2 ^ count - 1) * 2 ^ at) at count
run_of at zero some within = absurd (omega arith)
run_of at (suc c) some within = run_of_suc at (omega arith) c (omega arith) within
