-- What is in `to` behind the words of each form.
use Rattle.std.proofs.Common.{◌≡◌, ℕ, ◌*◌, ◌/◌, ◌%◌, ◌^◌, ◌<◌, ◌≤◌, refl, sym, ap, ◌∙◌, arith, true, false, eqb, lit≤}
use Rattle.std.specs.Prelude.{nat_lt, if◌then◌else◌}
use Rattle.std.proofs.lemmas.Nat.{mul-lt}
use Rattle.std.proofs.Math.Nat.{mod-eq_of_lt}
use Rattle.vax_form.specs.declared.instr.Size.{Size}
use Rattle.vax_form.specs.declared.instr.Size.TheVariants.{Byte, Word, Long, Quad}
use Rattle.vt_words.specs.Quad.{kept, left, right, sign_extended}
use Rattle.alpha_encode.specs.declared.instr.OperateOp.{OperateOp}
use Rattle.alpha_encode.specs.declared.instr.OperateOp.TheVariants as row
use Rattle.alpha_meaning.specs.State.{Regs}
use Rattle.alpha_meaning.specs.Result.{one_if, minus, result_of}
use Rattle.alpha_meaning.proofs.Registers.{eqb_self}
use Rattle.micro_ops.specs.declared.program.MicroOp.{MicroOp}
use Rattle.micro_ops.specs.declared.program.MicroOp.TheVariants as ops
use Rattle.micro_ops.specs.Values.{bits_of, limit_of, low, signed_right, sign_of, value_from}
use Rattle.micro_ops.proofs.Sizes.{low_below}
use Rattle.compute_sequences.specs.Words.{mask_of, extend, lowered, compared, left_shift, right_shift, signed_shift, high_product}
use Rattle.compute_sequences.proofs.Straight.{afters}
use Rattle.compute_sequences.proofs.Numbers.{low_kept, low_quad, Lowers}
use Rattle.compute_sequences.proofs.Comparing.{raised, Compares}
use Rattle.compute_sequences.proofs.Shifting.{or_nothing, left_low, right_low, signed_low, raised_byte, raised_word, added_long, signs_quad}

-- what holds of the registers of a computation
pub record Roles (y free other to : ℕ) : Type 0 where
  pub to_real : eqb to 31 ≡ false
  pub free_real : eqb free 31 ≡ false
  pub other_real : eqb other 31 ≡ false
  pub y_free : eqb y free ≡ false
  pub free_other : eqb free other ≡ false

module _ (f : Regs) (x y free other to : ℕ) (roles : Roles y free other to) where
  pub lowered_is : (op : OperateOp) (micro : MicroOp) → Lowers op micro → (size : Size) (held : ℕ) → f x < 2 ^ 64 → f y < 2 ^ 64
      → afters (lowered op size x y to) f to ≡ value_from micro size (low size (f x)) (low size (f y)) held
  lowered_is op micro law Byte held lt lt' = rw (roles.to_real, eqb_self to) (low_kept Byte (result_of op (f x) (f y) (f to)) ∙ law.lowers Byte (f x) (f y) (f to) held lt lt')
  lowered_is op micro law Word held lt lt' = rw (roles.to_real, eqb_self to) (low_kept Word (result_of op (f x) (f y) (f to)) ∙ law.lowers Word (f x) (f y) (f to) held lt lt')
  lowered_is op micro law Long held lt lt' = rw (roles.to_real, eqb_self to) (low_kept Long (result_of op (f x) (f y) (f to)) ∙ law.lowers Long (f x) (f y) (f to) held lt lt')
  lowered_is op micro law Quad held lt lt' =
      rw (roles.to_real, eqb_self to) (sym (low_quad (result_of op (f x) (f y) (f to)) (law.fits (f x) (f y) (f to) lt lt')) ∙ law.lowers Quad (f x) (f y) (f to) held lt lt')

  pub compared_is : (op : OperateOp) (micro : MicroOp) → Compares op micro → (size : Size) (held : ℕ) → f x < 2 ^ 64 → f y < 2 ^ 64
      → afters (compared op size x y free other to) f to ≡ value_from micro size (low size (f x)) (low size (f y)) held
  compared_is op micro law Byte held lt lt' = rw (roles.to_real, roles.free_real, roles.other_real, roles.y_free, roles.free_other, eqb_self free, eqb_self other, eqb_self to) (law.compares Byte (f x) (f y) _ held)
  compared_is op micro law Word held lt lt' = rw (roles.to_real, roles.free_real, roles.other_real, roles.y_free, roles.free_other, eqb_self free, eqb_self other, eqb_self to) (law.compares Word (f x) (f y) _ held)
  compared_is op micro law Long held lt lt' = rw (roles.to_real, roles.free_real, roles.other_real, roles.y_free, roles.free_other, eqb_self free, eqb_self other, eqb_self to) (law.compares Long (f x) (f y) _ held)
  compared_is op micro law Quad held lt lt' =
      let a : raised Quad (f x) ≡ f x = omega arith in
      let b : raised Quad (f y) ≡ f y = omega arith in
      rw (roles.to_real, eqb_self to) (ap (λ n. result_of op n (f y) (f to)) (sym a) ∙ (ap (λ n. result_of op (raised Quad (f x)) n (f to)) (sym b) ∙ law.compares Quad (f x) (f y) (f to) held))

  -- nothing is left where the count is too great
  within_is : (size : Size) (count s r : ℕ) → count ≡ low size (f y) → (nat_lt (low size (f y)) (bits_of size) ≡ true → low size s ≡ r)
      → kept (mask_of size) (result_of row.Cmoveq (one_if (nat_lt count (bits_of size))) 0 s) ≡ (if nat_lt (low size (f y)) (bits_of size) then r else 0)
  within_is size count s r e h =
      low_kept size (result_of row.Cmoveq (one_if (nat_lt count (bits_of size))) 0 s)
      ∙ (ap (λ c. low size (result_of row.Cmoveq (one_if (nat_lt c (bits_of size))) 0 s)) e ∙ or_nothing size (nat_lt (low size (f y)) (bits_of size)) s r h)

  pub left_shift_is : (size : Size) (held : ℕ) → f x < 2 ^ 64 → f y < 2 ^ 64 → afters (left_shift size x y free other to) f to ≡ value_from ops.ShiftLeft size (low size (f x)) (low size (f y)) held
  unfolding value_from
  left_shift_is Byte held lt lt' = rw (roles.to_real, roles.free_real, roles.other_real, roles.y_free, roles.free_other, eqb_self free, eqb_self other, eqb_self to) (within_is Byte (kept 1 (f y)) (left (f x) (f y % 64)) _ (low_kept Byte (f y)) (left_low Byte (f x) (f y)))
  left_shift_is Word held lt lt' = rw (roles.to_real, roles.free_real, roles.other_real, roles.y_free, roles.free_other, eqb_self free, eqb_self other, eqb_self to) (within_is Word (kept 3 (f y)) (left (f x) (f y % 64)) _ (low_kept Word (f y)) (left_low Word (f x) (f y)))
  left_shift_is Long held lt lt' = rw (roles.to_real, roles.free_real, roles.other_real, roles.y_free, roles.free_other, eqb_self free, eqb_self other, eqb_self to) (within_is Long (kept 15 (f y)) (left (f x) (f y % 64)) _ (low_kept Long (f y)) (left_low Long (f x) (f y)))
  left_shift_is Quad held lt lt' = rw (roles.to_real, roles.free_real, roles.other_real, roles.y_free, roles.free_other, eqb_self free, eqb_self other, eqb_self to) (within_is Quad (f y) (left (f x) (f y % 64)) _ (sym (low_quad (f y) lt')) (left_low Quad (f x) (f y)))

  -- the shifted number is zero-extended first
  right_is : (size : Size) (a : ℕ) → a ≡ low size (f x) → nat_lt (low size (f y)) (bits_of size) ≡ true → low size (right a (f y % 64)) ≡ low size (f x) / 2 ^ low size (f y)
  right_is size a e few = ap (λ n. low size (right n (f y % 64))) e ∙ right_low size (f x) (f y) few

  pub right_shift_is : (size : Size) (held : ℕ) → f x < 2 ^ 64 → f y < 2 ^ 64 → afters (right_shift size x y free other to) f to ≡ value_from ops.ShiftRight size (low size (f x)) (low size (f y)) held
  unfolding value_from
  right_shift_is Byte held lt lt' = rw (roles.to_real, roles.free_real, roles.other_real, roles.y_free, roles.free_other, eqb_self free, eqb_self other, eqb_self to) (within_is Byte (kept 1 (f y)) (right (kept 1 (f x)) (f y % 64)) _ (low_kept Byte (f y)) (right_is Byte (kept 1 (f x)) (low_kept Byte (f x))))
  right_shift_is Word held lt lt' = rw (roles.to_real, roles.free_real, roles.other_real, roles.y_free, roles.free_other, eqb_self free, eqb_self other, eqb_self to) (within_is Word (kept 3 (f y)) (right (kept 3 (f x)) (f y % 64)) _ (low_kept Word (f y)) (right_is Word (kept 3 (f x)) (low_kept Word (f x))))
  right_shift_is Long held lt lt' = rw (roles.to_real, roles.free_real, roles.other_real, roles.y_free, roles.free_other, eqb_self free, eqb_self other, eqb_self to) (within_is Long (kept 15 (f y)) (right (kept 15 (f x)) (f y % 64)) _ (low_kept Long (f y)) (right_is Long (kept 15 (f x)) (low_kept Long (f x))))
  right_shift_is Quad held lt lt' = rw (roles.to_real, roles.free_real, roles.other_real, roles.y_free, roles.free_other, eqb_self free, eqb_self other, eqb_self to) (within_is Quad (f y) (right (f x) (f y % 64)) _ (sym (low_quad (f y) lt')) (right_is Quad (f x) (sym (low_quad (f x) lt))))

  -- the shift with the sign, and by 63 bits more where the count is too great
  abbrev sign_shifted : Size → (v count : ℕ) → ℕ
  sign_shifted size v count = result_of row.Sra (result_of row.Sra v (f y) 0) (minus (one_if (nat_lt count 64)) 1) 0

  signed_is : (size : Size) (v count held : ℕ) → v ≡ sign_extended (f x) (bits_of size) → count ≡ low size (f y)
      → kept (mask_of size) (sign_shifted size v count) ≡ (if nat_lt (low size (f y)) (bits_of size) then signed_right size (low size (f x)) (low size (f y)) else sign_of size (low size (f x)))
  signed_is size v count held e e' =
      low_kept size (sign_shifted size v count)
      ∙ (ap (λ n. low size (sign_shifted size n count)) e ∙ (ap (λ c. low size (sign_shifted size (sign_extended (f x) (bits_of size)) c)) e' ∙ signed_low size (f x) (f y)))

  pub signed_shift_is : (size : Size) (held : ℕ) → f x < 2 ^ 64 → f y < 2 ^ 64 → afters (signed_shift size x y free other to) f to ≡ value_from ops.ShiftSigned size (low size (f x)) (low size (f y)) held
  unfolding value_from
  signed_shift_is Byte held lt lt' = rw (roles.to_real, roles.free_real, roles.other_real, roles.y_free, roles.free_other, eqb_self free, eqb_self other, eqb_self to) (signed_is Byte _ (kept 1 (f y)) held (raised_byte (f x)) (low_kept Byte (f y)))
  signed_shift_is Word held lt lt' = rw (roles.to_real, roles.free_real, roles.other_real, roles.y_free, roles.free_other, eqb_self free, eqb_self other, eqb_self to) (signed_is Word _ (kept 3 (f y)) held (raised_word (f x)) (low_kept Word (f y)))
  signed_shift_is Long held lt lt' = rw (roles.to_real, roles.free_real, roles.other_real, roles.y_free, roles.free_other, eqb_self free, eqb_self other, eqb_self to) (signed_is Long _ (kept 15 (f y)) held (added_long (f x)) (low_kept Long (f y)))
  signed_shift_is Quad held lt lt' = rw (roles.to_real, roles.free_real, roles.other_real, roles.y_free, roles.free_other, eqb_self free, eqb_self other, eqb_self to) (signed_is Quad (f x) (f y) held (sym (signs_quad (f x) lt)) (sym (low_quad (f y) lt')))

  -- the product of two numbers below a quadword's half of the bits
  product_high : (size : Size) (a b : ℕ) → limit_of size ≤ 2 ^ 32 → (n : ℕ) → n ≡ a * b % 2 ^ 64 → a < limit_of size → b < limit_of size → n ≡ a * b
  product_high size a b most n e lt lt' = let less = mul-lt a b (2 ^ 32) (2 ^ 32) (omega (arith, lt, most)) (omega (arith, lt', most)) in e ∙ mod-eq_of_lt (omega (arith, less))

  pub high_product_is : (size : Size) (held : ℕ) → f x < 2 ^ 64 → f y < 2 ^ 64 → afters (high_product size x y free other to) f to ≡ value_from ops.MulHigh size (low size (f x)) (low size (f y)) held
  unfolding value_from
  high_product_is Byte held lt lt' =
      rw (roles.to_real, roles.free_real, roles.other_real, roles.y_free, roles.free_other, eqb_self free, eqb_self other, eqb_self to)
      (ap (λ n. n * kept 1 (f y) % 2 ^ 64 / 2 ^ 8) (low_kept Byte (f x)) ∙ (ap (λ n. low Byte (f x) * n % 2 ^ 64 / 2 ^ 8) (low_kept Byte (f y)) ∙ ap (λ n. n / 2 ^ 8) (product_high Byte (low Byte (f x)) (low Byte (f y)) (lit≤ tt) _ refl (low_below Byte (f x)) (low_below Byte (f y)))))
  high_product_is Word held lt lt' =
      rw (roles.to_real, roles.free_real, roles.other_real, roles.y_free, roles.free_other, eqb_self free, eqb_self other, eqb_self to)
      (ap (λ n. n * kept 3 (f y) % 2 ^ 64 / 2 ^ 16) (low_kept Word (f x)) ∙ (ap (λ n. low Word (f x) * n % 2 ^ 64 / 2 ^ 16) (low_kept Word (f y)) ∙ ap (λ n. n / 2 ^ 16) (product_high Word (low Word (f x)) (low Word (f y)) (lit≤ tt) _ refl (low_below Word (f x)) (low_below Word (f y)))))
  high_product_is Long held lt lt' =
      rw (roles.to_real, roles.free_real, roles.other_real, roles.y_free, roles.free_other, eqb_self free, eqb_self other, eqb_self to)
      (ap (λ n. n * kept 15 (f y) % 2 ^ 64 / 2 ^ 32) (low_kept Long (f x)) ∙ (ap (λ n. low Long (f x) * n % 2 ^ 64 / 2 ^ 32) (low_kept Long (f y)) ∙ ap (λ n. n / 2 ^ 32) (product_high Long (low Long (f x)) (low Long (f y)) (lit≤ tt) _ refl (low_below Long (f x)) (low_below Long (f y)))))
  high_product_is Quad held lt lt' =
      rw (roles.to_real, eqb_self to) (ap (λ n. n * f y / 2 ^ 64) (sym (low_quad (f x) lt)) ∙ ap (λ n. low Quad (f x) * n / 2 ^ 64) (sym (low_quad (f y) lt')))

-- ---- one argument
pub extended_is : (f : Regs) (x to : ℕ) → eqb to 31 ≡ false → (size : Size) → f x < 2 ^ 64 → afters (extend size x to) f to ≡ sign_extended (f x) (bits_of size)
extended_is f x to real Byte lt = rw (real, eqb_self to) (raised_byte (f x))
extended_is f x to real Word lt = rw (real, eqb_self to) (raised_word (f x))
extended_is f x to real Long lt = rw (real, eqb_self to) (added_long (f x))
extended_is f x to real Quad lt = rw (real, eqb_self to) (low_kept Quad (f x) ∙ (low_quad (f x) lt ∙ sym (signs_quad (f x) lt)))
