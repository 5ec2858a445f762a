-- A bit of a number: set, cleared and told.
use Rattle.std.proofs.Common.{◌≡◌, ℕ, ◌+◌, ◌-◌, ◌*◌, ◌/◌, ◌%◌, ◌^◌, ◌<◌, refl, sym, ap, ◌∙◌, subst, arith, inl, inr, lit<, add-one}
use Rattle.std.specs.Prelude.{bit_and, bit_or}
use Rattle.std.specs.Int.Bits.{and_block, or_block, or_zero_r, and_zero_r}
use Rattle.std.proofs.Math.Nat.{add-mul, mul_assoc, mul_comm, mod-eq_of_lt, div-div-eq-div-mul, pow-suc}
use Rattle.std.proofs.lemmas.Bool.{cases_lt}
use Rattle.std.proofs.lemmas.Nat.{and_mask, div-add-mod', mod_below, pow_pos, pow-add, shr_below}
use Rattle.vax_meaning.specs.Fields.{with_bits}

pub last_bit : (n : ℕ) → n % 256 % 2 ≡ n % 2
last_bit n = omega arith

halves : (n : ℕ) → n / 2 * 2 + n % 2 ≡ n
halves n = omega arith

twice : (h unit : ℕ) → h * (unit * 2) ≡ h * 2 * unit
twice h unit = ap (λ n. h * n) (mul_comm unit 2) ∙ sym (mul_assoc h 2 unit)

-- a number by the bits above, the bit and the bits below
abbrev built : (h b l k : ℕ) → ℕ
built h b l k = (h * 2 + b) * 2 ^ k + l

split : (r k : ℕ) → r ≡ built (r / 2 ^ k / 2) (r / 2 ^ k % 2) (r % 2 ^ k) k
split r k = sym (div-add-mod' r (2 ^ k)) ∙ ap (λ n. n * 2 ^ k + r % 2 ^ k) (sym (halves (r / 2 ^ k)))

-- with another bit
with_bit : (r k v : ℕ) → v < 2 → with_bits r k 1 v ≡ built (r / 2 ^ k / 2) v (r % 2 ^ k) k
with_bit r k v small =
    let unit = 2 ^ k in
    let h = r / unit / 2 in
    let next : 2 ^ (k + 1) ≡ unit * 2 = ap (λ n. 2 ^ n) (add-one k) ∙ pow-suc 2 k in
    let value : v % 2 ≡ v = omega (arith, small) in
    ap (λ n. r / n * n + v % 2 * unit + r % unit) next
    ∙ ap (λ n. n * (unit * 2) + v % 2 * unit + r % unit) (sym (div-div-eq-div-mul r unit 2))
    ∙ ap (λ n. n + v % 2 * unit + r % unit) (twice h unit)
    ∙ ap (λ n. h * 2 * unit + n * unit + r % unit) value
    ∙ ap (λ n. n + r % unit) (sym (add-mul (h * 2) v unit))

or_one : (b : ℕ) → b < 2 → bit_or b 1 ≡ 1
or_one b small = elim (cases_lt b 1) [
  | inl below ↦ (let z : b ≡ 0 = omega (arith, below) in rw z refl)
  | inr above ↦ (let o : b ≡ 1 = omega (arith, above, small) in rw o refl)
]

built_or : (h b l k : ℕ) → b < 2 → l < 2 ^ k → bit_or (built h b l k) (2 ^ k) ≡ built h 1 l k
built_or h b l k small low =
    let unit : 2 ^ k ≡ 1 * 2 ^ k + 0 = omega arith in
    let one : 0 * 2 ^ 1 + 1 ≡ 1 = refl in
    ap (λ n. bit_or (built h b l k) n) unit
    ∙ or_block k (h * 2 + b) 1 l 0 low (pow_pos k)
    ∙ ap (λ n. n * 2 ^ k + bit_or l 0) (or_block 1 h 0 b 1 small (lit< tt))
    ∙ ap (λ n. (n * 2 + bit_or b 1) * 2 ^ k + bit_or l 0) (or_zero_r h)
    ∙ ap (λ n. (h * 2 + n) * 2 ^ k + bit_or l 0) (or_one b small)
    ∙ ap (λ n. (h * 2 + 1) * 2 ^ k + n) (or_zero_r l)

pub bit_set : (r k : ℕ) → bit_or r (2 ^ k) ≡ with_bits r k 1 1
bit_set r k =
    ap (λ n. bit_or n (2 ^ k)) (split r k)
    ∙ built_or (r / 2 ^ k / 2) (r / 2 ^ k % 2) (r % 2 ^ k) k (mod_below (r / 2 ^ k) 2 (lit< tt)) (mod_below r (2 ^ k) (pow_pos k))
    ∙ sym (with_bit r k 1 (lit< tt))

built_and : (h b l k j : ℕ) → b < 2 → l < 2 ^ k → h < 2 ^ j → bit_and (built h b l k) (built (2 ^ j - 1) 0 (2 ^ k - 1) k) ≡ built h 0 l k
built_and h b l k j small low high =
    let positive = pow_pos k in
    let below : 2 ^ k - 1 < 2 ^ k = omega (arith, positive) in
    and_block k (h * 2 + b) ((2 ^ j - 1) * 2 + 0) l (2 ^ k - 1) low below
    ∙ ap (λ n. n * 2 ^ k + bit_and l (2 ^ k - 1)) (and_block 1 h (2 ^ j - 1) b 0 small (lit< tt))
    ∙ ap (λ n. (n * 2 + bit_and b 0) * 2 ^ k + bit_and l (2 ^ k - 1)) (and_mask h j ∙ mod-eq_of_lt high)
    ∙ ap (λ n. (h * 2 + n) * 2 ^ k + bit_and l (2 ^ k - 1)) (and_zero_r b)
    ∙ ap (λ n. (h * 2 + 0) * 2 ^ k + n) (and_mask l k ∙ mod-eq_of_lt low)

-- all bits but that one
all_but : (k j : ℕ) → built (2 ^ j - 1) 0 (2 ^ k - 1) k ≡ 2 ^ (j + 1 + k) - 1 - 2 ^ k
all_but k j =
    let a = pow_pos j in
    let b = pow_pos k in
    let whole : 2 ^ (j + 1 + k) ≡ 2 ^ j * 2 * 2 ^ k = pow-add 2 (j + 1) k ∙ ap (λ n. n * 2 ^ k) (pow-add 2 j 1) in
    let less : (2 ^ j - 1) * 2 + 0 + 2 ≡ 2 ^ j * 2 = omega (arith, a) in
    let times : ((2 ^ j - 1) * 2 + 0 + 2) * 2 ^ k ≡ ((2 ^ j - 1) * 2 + 0) * 2 ^ k + 2 * 2 ^ k = add-mul ((2 ^ j - 1) * 2 + 0) 2 (2 ^ k) in
    let same : ((2 ^ j - 1) * 2 + 0 + 2) * 2 ^ k ≡ 2 ^ j * 2 * 2 ^ k = ap (λ n. n * 2 ^ k) less in
    from_parts (((2 ^ j - 1) * 2 + 0) * 2 ^ k) (2 ^ k) (2 ^ (j + 1 + k)) b (whole ∙ sym same ∙ times)
  where
    from_parts : (x unit all : ℕ) → 0 < unit → all ≡ x + 2 * unit → x + (unit - 1) ≡ all - 1 - unit
    from_parts x unit all positive is = omega (arith, positive, is)

pub bit_cleared : (r k w j : ℕ) → w ≡ j + 1 + k → r < 2 ^ w → bit_and r (2 ^ w - 1 - 2 ^ k) ≡ with_bits r k 1 0
bit_cleared r k w j is lt =
    let high : r / 2 ^ k / 2 < 2 ^ j = rw (div-div-eq-div-mul r (2 ^ k) 2) (subst (λ n. r / n < 2 ^ j) (ap (λ n. 2 ^ n) (add-one k) ∙ pow-suc 2 k) (shr_below r j (k + 1) (subst (λ n. r < 2 ^ n) (is ∙ swapped j k) lt))) in
    ap (λ n. bit_and r (2 ^ n - 1 - 2 ^ k)) is
    ∙ ap (λ n. bit_and r n) (sym (all_but k j))
    ∙ ap (λ n. bit_and n (built (2 ^ j - 1) 0 (2 ^ k - 1) k)) (split r k)
    ∙ built_and (r / 2 ^ k / 2) (r / 2 ^ k % 2) (r % 2 ^ k) k j (mod_below (r / 2 ^ k) 2 (lit< tt)) (mod_below r (2 ^ k) (pow_pos k)) high
    ∙ sym (with_bit r k 0 (lit< tt))
  where
    swapped : (j k : ℕ) → j + 1 + k ≡ j + (k + 1)
    swapped j k = omega arith
