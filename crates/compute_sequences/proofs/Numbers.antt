-- Quadwords and their low bytes.
use Rattle.std.proofs.Common.{◌≡◌, ℕ, ◌+◌, ◌-◌, ◌*◌, ◌%◌, ◌^◌, ◌<◌, ap, ◌∙◌, arith}
use Rattle.std.specs.Prelude.{bit_and, bit_or, bit_xor}
use Rattle.std.proofs.lemmas.Nat.{and_mask, and_mod, or_mod, xor_mod, and_le_l, or_lt, xor_lt, mul-mod}
use Rattle.std.proofs.Math.Nat.{mod-eq_of_lt}
use Rattle.vax_form.specs.declared.instr.Size.{Size}
use Rattle.vax_form.specs.declared.instr.Size.TheVariants.{Byte, Word, Long, Quad}
use Rattle.vt_words.specs.Quad.{spread, kept}
use Rattle.alpha_encode.specs.declared.instr.OperateOp.{OperateOp}
use Rattle.alpha_encode.specs.declared.instr.OperateOp.TheVariants as row
use Rattle.alpha_meaning.specs.Result.{plus, minus, times, inverse, result_of}
use Rattle.micro_ops.specs.declared.program.MicroOp.{MicroOp}
use Rattle.micro_ops.specs.declared.program.MicroOp.TheVariants as ops
use Rattle.micro_ops.specs.Values.{limit_of, low, value_from}
use Rattle.compute_sequences.specs.Words.{mask_of}

-- ZAPNOT keeps the low bytes
pub low_kept : (size : Size) (n : ℕ) → kept (mask_of size) n ≡ low size n
unfolding spread
low_kept Byte n = and_mask n 8
low_kept Word n = and_mask n 16
low_kept Long n = and_mask n 32
low_kept Quad n = and_mask n 64

pub zapped : (size : Size) (n held : ℕ) → result_of row.Zapnot n (mask_of size) held ≡ low size n
zapped Byte n held = low_kept Byte n
zapped Word n held = low_kept Word n
zapped Long n held = low_kept Long n
zapped Quad n held = low_kept Quad n

pub low_quad : (n : ℕ) → n < 2 ^ 64 → low Quad n ≡ n
low_quad n lt = mod-eq_of_lt lt

-- ---- operations whose low bytes are those of the low bytes' result
pub record Lowers (op : OperateOp) (micro : MicroOp) : Type 0 where
  pub lowers : (size : Size) (a b h held : ℕ) → a < 2 ^ 64 → b < 2 ^ 64 → low size (result_of op a b h) ≡ value_from micro size (low size a) (low size b) held
  pub fits : (a b h : ℕ) → a < 2 ^ 64 → b < 2 ^ 64 → result_of op a b h < 2 ^ 64

pub adds : Lowers row.Addq ops.Add
unfolding value_from
adds = record { lowers = by; fits = λ a b h lt lt'. omega arith }
  where
    by : (size : Size) (a b h held : ℕ) → a < 2 ^ 64 → b < 2 ^ 64 → low size (plus a b) ≡ (low size a + low size b) % limit_of size
    by Byte a b h held lt lt' = omega arith
    by Word a b h held lt lt' = omega arith
    by Long a b h held lt lt' = omega arith
    by Quad a b h held lt lt' = omega arith

pub subtracts : Lowers row.Subq ops.Sub
unfolding value_from
subtracts = record { lowers = by; fits = λ a b h lt lt'. omega arith }
  where
    by : (size : Size) (a b h held : ℕ) → a < 2 ^ 64 → b < 2 ^ 64 → low size (minus a b) ≡ (low size a + (limit_of size - low size b)) % limit_of size
    by Byte a b h held lt lt' = omega arith
    by Word a b h held lt lt' = omega arith
    by Long a b h held lt lt' = omega arith
    by Quad a b h held lt lt' = omega arith

pub low_of_quad : (n : ℕ) (size : Size) → low size (n % 2 ^ 64) ≡ low size n
low_of_quad n Byte = omega arith
low_of_quad n Word = omega arith
low_of_quad n Long = omega arith
low_of_quad n Quad = omega arith

pub multiplies : Lowers row.Mulq ops.Mul
unfolding value_from
multiplies = record { lowers = by; fits = λ a b h lt lt'. omega arith }
  where
    by : (size : Size) (a b h held : ℕ) → a < 2 ^ 64 → b < 2 ^ 64 → low size (times a b) ≡ low size a * low size b % limit_of size
    by size a b h held lt lt' = low_of_quad (a * b) size ∙ mul-mod a b (limit_of size)

and_fits : (a b : ℕ) → a < 2 ^ 64 → bit_and a b < 2 ^ 64
and_fits a b lt = let le = and_le_l a b in omega arith

and_low : (size : Size) (a b : ℕ) → low size (bit_and a b) ≡ bit_and (low size a) (low size b)
and_low Byte a b = and_mod a b 8
and_low Word a b = and_mod a b 16
and_low Long a b = and_mod a b 32
and_low Quad a b = and_mod a b 64

pub ands : Lowers row.And ops.And
unfolding value_from
ands = record { lowers = λ size a b h held lt lt'. and_low size a b; fits = λ a b h lt lt'. and_fits a b lt }

pub ors : Lowers row.Bis ops.Or
unfolding value_from
ors = record { lowers = by; fits = λ a b h lt lt'. or_lt 64 a b lt lt' }
  where
    by : (size : Size) (a b h held : ℕ) → a < 2 ^ 64 → b < 2 ^ 64 → low size (bit_or a b) ≡ bit_or (low size a) (low size b)
    by Byte a b h held lt lt' = or_mod a b 8
    by Word a b h held lt lt' = or_mod a b 16
    by Long a b h held lt lt' = or_mod a b 32
    by Quad a b h held lt lt' = or_mod a b 64

pub xors : Lowers row.Xor ops.Xor
unfolding value_from
xors = record { lowers = by; fits = λ a b h lt lt'. xor_lt 64 a b lt lt' }
  where
    by : (size : Size) (a b h held : ℕ) → a < 2 ^ 64 → b < 2 ^ 64 → low size (bit_xor a b) ≡ bit_xor (low size a) (low size b)
    by Byte a b h held lt lt' = xor_mod a b 8
    by Word a b h held lt lt' = xor_mod a b 16
    by Long a b h held lt lt' = xor_mod a b 32
    by Quad a b h held lt lt' = xor_mod a b 64

-- the low bits of the complement
inverse_low : (size : Size) (b : ℕ) → b < 2 ^ 64 → low size (inverse b) ≡ limit_of size - 1 - low size b
inverse_low Byte b lt = omega arith
inverse_low Word b lt = omega arith
inverse_low Long b lt = omega arith
inverse_low Quad b lt = omega arith

pub clears : Lowers row.Bic ops.AndNot
unfolding value_from
clears = record { lowers = by; fits = λ a b h lt lt'. and_fits a (inverse b) lt }
  where
    by : (size : Size) (a b h held : ℕ) → a < 2 ^ 64 → b < 2 ^ 64 → low size (bit_and a (inverse b)) ≡ bit_and (low size a) (limit_of size - 1 - low size b)
    by size a b h held lt lt' = and_low size a (inverse b) ∙ ap (bit_and (low size a)) (inverse_low size b lt')
