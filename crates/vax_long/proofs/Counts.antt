-- How many registers are in a mask.
use Rattle.std.proofs.Common.{◌≡◌, ℕ, zero, suc, ◌+◌, ◌≤◌, Bool, true, false, ap, ◌∙◌, arith}
use Rattle.vt_words.specs.Values.{bit}
use Rattle.vax_long.specs.Registers.{is_in_mask, registers_in}

-- the last of them
pub one_more : (count number mask : ℕ) → registers_in (suc count) number mask ≡ registers_in count number mask + bit (is_in_mask (number + count) mask)
one_more zero number mask =
    let same : number + 0 ≡ number = omega arith in
    omega (arith, ap (λ (n : ℕ). bit (is_in_mask n mask)) same)
one_more (suc count) number mask =
    let there : number + 1 + count ≡ number + suc count = omega arith in
    omega (arith, one_more count (number + 1) mask, ap (λ (n : ℕ). bit (is_in_mask n mask)) there)

one : (b : Bool) → bit b ≤ 1
one true = omega arith
one false = omega arith

pub few_registers : (count number mask : ℕ) → registers_in count number mask ≤ count
few_registers zero number mask = omega arith
few_registers (suc count) number mask = omega (arith, one (is_in_mask number mask), few_registers count (number + 1) mask)

pub one_more_first : (count mask : ℕ) → registers_in (suc count) 0 mask ≡ registers_in count 0 mask + bit (is_in_mask count mask)
one_more_first count mask =
    let same : 0 + count ≡ count = omega arith in
    one_more count 0 mask ∙ ap (λ (n : ℕ). registers_in count 0 mask + bit (is_in_mask n mask)) same
