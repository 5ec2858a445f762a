-- Eight digits write a longword.
use Rattle.std.proofs.Common.{◌≤◌, ◌^◌, arith}
use native.Mathlib.Nat.{pow-le-pow_right}
use lib.Dec.{lit<}
use Rattle.vximage_words.proofs.numbers.hexadecimal.Goals as goal

pub overflow_mul-value : goal.overflow_mul-value
overflow_mul-value c =
    let most : 16 ^ c.loop-byte.byte-index ≤ 16 ^ 7 = pow-le-pow_right (lit< tt) {j = 7} (omega arith) in
    let value = c.loop-byte.invariant.0 in
    record { fits = omega (arith, most, value) }

pub overflow_add-value : goal.overflow_add-value
overflow_add-value c =
    let most : 16 ^ c.loop-byte.byte-index ≤ 16 ^ 7 = pow-le-pow_right (lit< tt) {j = 7} (omega arith) in
    let value = c.loop-byte.invariant.0 in
    let digit = c.in_ok-value.ensures.bound in
    record { fits = omega (arith, most, value, digit) }
