-- V from the operands with their signs.
use Rattle.std.proofs.Common.{◌≡◌, ℕ, ◌<◌, ◌==◌, arith}
use Rattle.std.specs.Prelude.{not}
use Rattle.std.proofs.lemmas.Bool.Decides.{nat_tests}
use Rattle.std.proofs.lemmas.Int.{ints}
use Rattle.vax_form.specs.Size.{size_of}
use Rattle.vax_form.specs.declared.instr.Width.{Width}
use Rattle.vax_form.specs.declared.instr.Width.TheVariants.{Byte, Word, Long}
use Rattle.vt_words.specs.Arithmetic.{sum_of, difference_of}
use Rattle.vt_words.specs.Quad.{sign_extended}
use Rattle.alpha_meaning.specs.Result.{result_of}
use Rattle.micro_ops.specs.Values.{bits_of, limit_of}
use Rattle.compute_sequences.specs.declared.overflow.Arithmetic.{Arithmetic}
use Rattle.compute_sequences.specs.declared.overflow.Arithmetic.TheVariants.{Sum, Difference}
use Rattle.compute_sequences.specs.Overflow.{quad_operation, overflows}

abbrev Overflows : Arithmetic → Width → (a b : ℕ) → Type 0
Overflows arithmetic width a b =
    let result = result_of (quad_operation arithmetic) (sign_extended a (bits_of (size_of width))) (sign_extended b (bits_of (size_of width))) 0 in
    overflows arithmetic width a b ≡ not (sign_extended result (bits_of (size_of width)) == result)

pub overflow_is : (arithmetic : Arithmetic) (width : Width) (a b : ℕ) → a < limit_of (size_of width) → b < limit_of (size_of width) → Overflows arithmetic width a b
unfolding sum_of difference_of
overflow_is Sum Byte a b lt lt' = grind (arith, nat_tests, ints)
overflow_is Sum Word a b lt lt' = grind (arith, nat_tests, ints)
overflow_is Sum Long a b lt lt' = grind (arith, nat_tests, ints)
overflow_is Difference Byte a b lt lt' = grind (arith, nat_tests, ints)
overflow_is Difference Word a b lt lt' = grind (arith, nat_tests, ints)
overflow_is Difference Long a b lt lt' = grind (arith, nat_tests, ints)
