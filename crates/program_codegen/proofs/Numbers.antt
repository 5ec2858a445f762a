-- Numbers in registers.
use Rattle.std.proofs.Common.{◌≡◌, ℕ, ◌*◌, ◌/◌, ◌%◌, ◌^◌, ◌<◌, ◌≤◌, sym, ap, ◌∙◌, arith, Bool, true, false, lit≤}
use Rattle.std.specs.Prelude.{◌==◌, ◌&&◌, bit_and, bit_or}
use Rattle.std.specs.Int.Bits.{or_zero_r}
use Rattle.std.proofs.lemmas.Bool.Decides.{nat_tests}
use Rattle.std.proofs.lemmas.Nat.{and_assoc, and_mask}
use Rattle.std.proofs.lemmas.Nat.Bits.{and_high_mask}
use Rattle.std.proofs.lemmas.Bool.{and_parts}
use Rattle.vt_words.specs.Quad.{sign_extended}
use Rattle.vt_words.specs.Values.{bit}
use Rattle.vt_words.proofs.Longwords.{same_extended}
use Rattle.alpha_meaning.specs.Result.{plus, long}

-- ---- tests
pub all_three : (a b c : Bool) → (a && b && c) ≡ true → (a ≡ true) × (b ≡ true) × (c ≡ true)
all_three a b c e = let x = and_parts (a && b) c e in let y = and_parts a b x.0 in (y.0, y.1, x.1)

pub all_four : (a b c d : Bool) → (a && b && c && d) ≡ true → (a ≡ true) × (b ≡ true) × (c ≡ true) × (d ≡ true)
all_four a b c d e = let x = and_parts (a && b && c) d e in let y = all_three a b c x.0 in (y.0, y.1, y.2, x.1)

pub all_five : (a b c d f : Bool) → (a && b && c && d && f) ≡ true → (a ≡ true) × (b ≡ true) × (c ≡ true) × (d ≡ true) × (f ≡ true)
all_five a b c d f e = let x = and_parts (a && b && c && d) f e in let y = all_four a b c d x.0 in (y.0, y.1, y.2, y.3, x.1)

-- ---- copies
pub copied : (n : ℕ) → bit_or n 0 ≡ n
copied n = or_zero_r n

-- bits 7:4 of a byte
pub status_bits : (n : ℕ) → bit_and n 0xF0 ≡ n % 256 / 16 * 16
status_bits n =
    let byte : n % 2 ^ 8 < 2 ^ 8 = omega arith in
    sym (and_assoc 240 n 255) ∙ (ap (λ x. bit_and x 240) (and_mask n 8) ∙ and_high_mask 8 4 (lit≤ tt) (n % 2 ^ 8) byte)

-- a longword that is committed
pub committed_is : (v : ℕ) → long (plus v 0) ≡ sign_extended v 32
committed_is v = same_extended (plus v 0) v (omega arith)

-- ---- bits
pub bit_small : (b : Bool) → bit b ≤ 1
bit_small true = lit≤ tt
bit_small false = lit≤ tt

pub same_bits : (a b : ℕ) → a < 2 → b < 2 → (a % 2 == 1) ≡ (b == 1) → a ≡ b
same_bits a b la lb e = grind (arith, nat_tests, e)
