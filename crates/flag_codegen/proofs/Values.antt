-- What the words of each code leave in its register.
use Rattle.std.proofs.Common.{◌≡◌, ℕ, ◌-◌, ◌/◌, ◌%◌, ◌<◌, sym, ap, ◌∙◌, arith, true, false}
use Rattle.std.specs.Prelude.{◌==◌, nat_lt, nat_le, int_lt, bit_or, bit_and, bit_xor}
use Rattle.std.specs.Int.Bits.{or_zero_l}
use Rattle.std.proofs.lemmas.Nat.{and_mask}
use Rattle.compute_sequences.proofs.Comparing.{raised}
use Rattle.vax_form.specs.Size.{bytes_of}
use Rattle.vax_form.specs.declared.instr.Size.{Size}
use Rattle.vax_form.specs.declared.instr.Size.TheVariants.{Byte, Word, Long, Quad}
use Rattle.vt_words.specs.Values.{bit}
use Rattle.vt_words.specs.Quad.{right}
use Rattle.vt_words.specs.Arithmetic.{sum_of, difference_of}
use Rattle.alpha_meaning.specs.State.{Regs}
use Rattle.alpha_meaning.specs.Result.{one_if, signed as signed_quad}
use Rattle.alpha_meaning.specs.Loops.{effects}
use Rattle.micro_ops.specs.Meaning.{Temps, flag_of}
use Rattle.micro_ops.specs.Values.{bits_of, limit_of, signed}
use Rattle.micro_ops.specs.Leaving.{sum, difference, SignsComeFrom, CarryComesFrom}
use Rattle.micro_ops.specs.declared.codes.CodeSource.{CodeSource}
use Rattle.micro_ops.specs.declared.codes.CodeSource.TheVariants.{Kept, Zero, Result, Add, Sub, Compare, Computed, Psw}
use Rattle.micro_ops.specs.Sources.{is_written}
use Rattle.flag_codegen.specs.Words.{negative_words, zero_words, overflow_words, carry_words}
use Rattle.flag_codegen.proofs.Numbers.{sign_is, less_is, xor_is, sum_overflow, difference_overflow, sum_carry, difference_borrow}

-- the registers hold the first three temporaries, and R31 reads zero
pub record Hold (k : Regs) (temps : Temps) : Type 0 where
  pub zero : k 31 ≡ 0
  pub first : k 21 ≡ temps 0
  pub second : k 22 ≡ temps 1
  pub result : k 23 ≡ temps 2

-- ---- numbers in registers
signed_by : (size : Size) (r t : ℕ) → r ≡ t → t < limit_of size → right r ((bits_of size - 1) % 64) ≡ bit (nat_le (limit_of size / 2) t)
signed_by size r t e lt = ap (λ n. right n ((bits_of size - 1) % 64)) e ∙ sign_is size t lt

less_by : (size : Size) (a b x y : ℕ) → a ≡ x → b ≡ y → x < limit_of size → y < limit_of size
    → one_if (int_lt (signed_quad (raised size a)) (signed_quad (raised size b))) ≡ bit (int_lt (signed size x) (signed size y))
less_by size a b x y e e' lt lt' =
    ap (λ n. one_if (int_lt (signed_quad (raised size n)) (signed_quad (raised size b)))) e
    ∙ (ap (λ n. one_if (int_lt (signed_quad (raised size x)) (signed_quad (raised size n)))) e' ∙ ap one_if (less_is size x y lt lt'))

unlike_by : (size : Size) (a b c x y z : ℕ) → a ≡ x → b ≡ y → c ≡ z → x < limit_of size → y < limit_of size → z < limit_of size
    → bit_xor (one_if (int_lt (signed_quad (raised size a)) (signed_quad (raised size b)))) (right c ((bits_of size - 1) % 64))
    ≡ bit_xor (bit (int_lt (signed size x) (signed size y))) (bit (nat_le (limit_of size / 2) z))
unlike_by size a b c x y z e e' e'' lt lt' lt'' =
    ap (λ n. bit_xor n (right c ((bits_of size - 1) % 64))) (less_by size a b x y e e' lt lt')
    ∙ ap (bit_xor (bit (int_lt (signed size x) (signed size y)))) (signed_by size c z e'' lt'')

pub moved : (a b x : ℕ) → a ≡ 0 → b ≡ x → bit_or a b ≡ x
moved a b x e e' = ap (λ n. bit_or n b) e ∙ (or_zero_l b ∙ e')

cleared : (a : ℕ) → a ≡ 0 → bit_or a a ≡ 0
cleared a e = moved a a 0 e e

bit_at : (unit r psw : ℕ) → r ≡ psw → bit_and (r / unit) 1 ≡ psw / unit % 2
bit_at unit r psw e = ap (λ n. bit_and (n / unit) 1) e ∙ and_mask (psw / unit) 1

sum_fits : (size : Size) (a b : ℕ) → (sum_of (bytes_of size) a b false).value < limit_of size
unfolding sum_of
sum_fits Byte a b = omega arith
sum_fits Word a b = omega arith
sum_fits Long a b = omega arith
sum_fits Quad a b = omega arith

difference_fits : (size : Size) (a b : ℕ) → (difference_of (bytes_of size) a b false).value < limit_of size
unfolding difference_of
difference_fits Byte a b = omega arith
difference_fits Word a b = omega arith
difference_fits Long a b = omega arith
difference_fits Quad a b = omega arith

-- where C comes from a sum, the result is that
abbrev pub SumIsResult : Temps → CodeSource → Type 0
SumIsResult temps (Add size) = temps 2 ≡ (sum size temps).value
SumIsResult temps source = Unit {0}

-- ---- the codes
module _ (k : Regs) (temps : Temps) (found left : ℕ) (hold : Hold k temps) where
  pub negative_is : (source : CodeSource) → is_written source ≡ true → SignsComeFrom source found left temps → effects (negative_words source) k 16 ≡ flag_of 0 left
  unfolding sum_of difference_of
  negative_is Kept w h = absurd (cc w)
  negative_is Zero w h = cleared (k 31) hold.zero ∙ sym h.0
  negative_is (Result size) w h = signed_by size (k 23) (temps 2) hold.result h.0 ∙ sym h.1.0
  negative_is (Add size) w h = signed_by size (k 23) (sum size temps).value (hold.result ∙ h.1) (sum_fits size (temps 0) (temps 1)) ∙ sym h.2.0
  negative_is (Sub size) w h = signed_by size (k 23) (difference size temps).value (hold.result ∙ h.1) (difference_fits size (temps 0) (temps 1)) ∙ sym h.2.0
  negative_is (Compare size) w h = less_by size (k 21) (k 22) (temps 0) (temps 1) hold.first hold.second h.0.0 h.0.1 ∙ sym h.1.0
  negative_is (Computed size) w h = signed_by size (k 23) (temps 2) hold.result h.0 ∙ sym h.1
  negative_is Psw w h = bit_at 8 (k 23) left (hold.result ∙ h)

  pub zero_is : (source : CodeSource) → is_written source ≡ true → SignsComeFrom source found left temps → effects (zero_words source) k 17 ≡ flag_of 1 left
  unfolding sum_of difference_of
  zero_is Kept w h = absurd (cc w)
  zero_is Zero w h = cleared (k 31) hold.zero ∙ sym h.1
  zero_is (Result size) w h = ap (λ n. one_if (n == 0)) hold.result ∙ sym h.1.1
  zero_is (Add size) w h = ap (λ n. one_if (n == 0)) (hold.result ∙ h.1) ∙ sym h.2.1
  zero_is (Sub size) w h = ap (λ n. one_if (n == 0)) (hold.result ∙ h.1) ∙ sym h.2.1
  zero_is (Compare size) w h = ap (λ n. one_if (n == k 22)) hold.first ∙ (ap (λ n. one_if (temps 0 == n)) hold.second ∙ sym h.1.1)
  zero_is (Computed size) w h = ap (λ n. one_if (n == 0)) hold.result ∙ sym h.2
  zero_is Psw w h = bit_at 4 (k 23) left (hold.result ∙ h)

  pub overflow_is : (source : CodeSource) → is_written source ≡ true → k 24 ≡ temps 3 → SignsComeFrom source found left temps → effects (overflow_words source) k 18 ≡ flag_of 2 left
  overflow_is Kept w t h = absurd (cc w)
  overflow_is Zero w t h = cleared (k 31) hold.zero ∙ sym h.2
  overflow_is (Result size) w t h = cleared (k 31) hold.zero ∙ sym h.1.2
  overflow_is (Add size) w t h =
      let value = (sum size temps).value in
      unlike_by size (k 23) (k 21) (k 22) value (temps 0) (temps 1) (hold.result ∙ h.1) hold.first hold.second (sum_fits size (temps 0) (temps 1)) h.0.0 h.0.1
      ∙ (xor_is (int_lt (signed size value) (signed size (temps 0))) (nat_le (limit_of size / 2) (temps 1)) ∙ (ap bit (sum_overflow size (temps 0) (temps 1) h.0.0 h.0.1) ∙ sym h.2.2))
  overflow_is (Sub size) w t h =
      let value = (difference size temps).value in
      unlike_by size (k 21) (k 22) (k 23) (temps 0) (temps 1) value hold.first hold.second (hold.result ∙ h.1) h.0.0 h.0.1 (difference_fits size (temps 0) (temps 1))
      ∙ (xor_is (int_lt (signed size (temps 0)) (signed size (temps 1))) (nat_le (limit_of size / 2) value) ∙ (ap bit (difference_overflow size (temps 0) (temps 1) h.0.0 h.0.1) ∙ sym h.2.2))
  overflow_is (Compare size) w t h = cleared (k 31) hold.zero ∙ sym h.1.2
  overflow_is (Computed size) w t h = moved (k 31) (k 24) (temps 3) hold.zero t ∙ h.3
  overflow_is Psw w t h = bit_at 2 (k 23) left (hold.result ∙ h)

  pub carry_is : (source : CodeSource) → is_written source ≡ true → k 25 ≡ temps 4 → SumIsResult temps source → CarryComesFrom source found left temps → effects (carry_words source) k 19 ≡ flag_of 3 left
  carry_is Kept w t s h = absurd (cc w)
  carry_is Zero w t s h = cleared (k 31) hold.zero ∙ sym h
  carry_is (Result size) w t s h = cleared (k 31) hold.zero ∙ sym h
  carry_is (Add size) w t s h =
      ap (λ n. one_if (nat_lt n (k 21))) (hold.result ∙ s)
      ∙ (ap (λ n. one_if (nat_lt (sum size temps).value n)) hold.first ∙ (ap bit (sum_carry size (temps 0) (temps 1) h.0.0 h.0.1) ∙ sym h.1))
  carry_is (Sub size) w t s h =
      ap (λ n. one_if (nat_lt n (k 22))) hold.first
      ∙ (ap (λ n. one_if (nat_lt (temps 0) n)) hold.second ∙ (ap bit (difference_borrow size (temps 0) (temps 1)) ∙ sym h.1))
  carry_is (Compare size) w t s h =
      ap (λ n. one_if (nat_lt n (k 22))) hold.first
      ∙ (ap (λ n. one_if (nat_lt (temps 0) n)) hold.second ∙ sym h.1)
  carry_is (Computed size) w t s h = moved (k 31) (k 25) (temps 4) hold.zero t ∙ h
  carry_is Psw w t s h = ap (λ n. bit_and n 1) (hold.result ∙ h) ∙ (and_mask left 1 ∙ whole left)
    where
      whole : (n : ℕ) → n % 2 ≡ n / 1 % 2
      whole n = omega arith
