-- Numbers compare as the quadwords whose highest bytes they are.
use Rattle.std.proofs.Common.{◌≡◌, ℕ, ◌-◌, ◌*◌, ◌%◌, ◌^◌, ◌<◌, ap, ◌∙◌, arith}
use Rattle.std.specs.Prelude.{nat_lt, ◌==◌, int_lt}
use Rattle.std.proofs.lemmas.Bool.Decides.{nat_tests}
use Rattle.std.proofs.lemmas.Int.{ints}
use Rattle.vax_form.specs.declared.instr.Size.{Size}
use Rattle.vax_form.specs.declared.instr.Size.TheVariants.{Byte, Word, Long, Quad}
use Rattle.vt_words.specs.Quad.{left}
use Rattle.alpha_encode.specs.declared.instr.OperateOp.{OperateOp}
use Rattle.alpha_encode.specs.declared.instr.OperateOp.TheVariants as row
use Rattle.alpha_meaning.specs.Result.{one_if, result_of, signed as signed_quad}
use Rattle.micro_ops.specs.declared.program.MicroOp.{MicroOp}
use Rattle.micro_ops.specs.declared.program.MicroOp.TheVariants as ops
use Rattle.micro_ops.specs.Values.{bits_of, limit_of, low, signed, value_from}
use Rattle.micro_ops.proofs.Sizes.{low_below}

-- the low bytes as the highest ones
abbrev pub raised : Size → ℕ → ℕ
raised size n = left n ((64 - bits_of size) % 64)

raised_is : (size : Size) (n : ℕ) → raised size n ≡ low size n * 2 ^ (64 - bits_of size)
raised_is Byte n = omega arith
raised_is Word n = omega arith
raised_is Long n = omega arith
raised_is Quad n = omega arith

pub record Compares (op : OperateOp) (micro : MicroOp) : Type 0 where
  pub compares : (size : Size) (a b h held : ℕ) → result_of op (raised size a) (raised size b) h ≡ value_from micro size (low size a) (low size b) held

equal_scaled : (size : Size) (a b : ℕ) → (a * 2 ^ (64 - bits_of size) == b * 2 ^ (64 - bits_of size)) ≡ (a == b)
equal_scaled Byte a b = grind (arith, nat_tests)
equal_scaled Word a b = grind (arith, nat_tests)
equal_scaled Long a b = grind (arith, nat_tests)
equal_scaled Quad a b = grind (arith, nat_tests)

pub equals : Compares row.Cmpeq ops.Equal
unfolding value_from
equals = record { compares = λ size a b h held. ap (λ x. one_if (x == raised size b)) (raised_is size a) ∙ ap (λ y. one_if (low size a * 2 ^ (64 - bits_of size) == y)) (raised_is size b) ∙ ap one_if (equal_scaled size (low size a) (low size b)) }

less_scaled : (size : Size) (a b : ℕ) → nat_lt (a * 2 ^ (64 - bits_of size)) (b * 2 ^ (64 - bits_of size)) ≡ nat_lt a b
less_scaled Byte a b = grind (arith, nat_tests)
less_scaled Word a b = grind (arith, nat_tests)
less_scaled Long a b = grind (arith, nat_tests)
less_scaled Quad a b = grind (arith, nat_tests)

pub orders : Compares row.Cmpult ops.LessUnsigned
unfolding value_from
orders = record { compares = λ size a b h held. ap (λ x. one_if (nat_lt x (raised size b))) (raised_is size a) ∙ ap (λ y. one_if (nat_lt (low size a * 2 ^ (64 - bits_of size)) y)) (raised_is size b) ∙ ap one_if (less_scaled size (low size a) (low size b)) }

signed_scaled : (size : Size) (a b : ℕ) → a < limit_of size → b < limit_of size
    → int_lt (signed_quad (a * 2 ^ (64 - bits_of size))) (signed_quad (b * 2 ^ (64 - bits_of size))) ≡ int_lt (signed size a) (signed size b)
signed_scaled Byte a b lt lt' = grind (arith, nat_tests, ints)
signed_scaled Word a b lt lt' = grind (arith, nat_tests, ints)
signed_scaled Long a b lt lt' = grind (arith, nat_tests, ints)
signed_scaled Quad a b lt lt' = grind (arith, nat_tests, ints)

pub signed_orders : Compares row.Cmplt ops.Less
unfolding value_from
signed_orders = record {
  compares = λ size a b h held.
      ap (λ x. one_if (int_lt (signed_quad x) (signed_quad (raised size b)))) (raised_is size a)
      ∙ ap (λ y. one_if (int_lt (signed_quad (low size a * 2 ^ (64 - bits_of size))) (signed_quad y))) (raised_is size b)
      ∙ ap one_if (signed_scaled size (low size a) (low size b) (low_below size a) (low_below size b));
}
