-- What the operands of MOVC3 add to a register is a few bytes.
use Rattle.std.proofs.Common.{◌≡◌, ℕ, ◌+◌, ◌-◌, ◌%◌, ◌^◌, ◌<◌, ◌≤◌, inl, inr, refl, sym, ap, ◌∙◌, subst, arith, List, length, lit≤}
use Rattle.std.specs.Prelude.{◌⊎◌, slice_index}
use Rattle.std.proofs.Math.ListN.{get_or-eq_default}
use Rattle.std.proofs.lemmas.Bool.{cases_eq, cases_lt}
use Rattle.std.proofs.lemmas.List.{get_or-replicate, get_or-set_other, get_or-set_same}
use Rattle.vax_form.specs.Size.{bytes_of}
use Rattle.vax_form.specs.Targets.{operand_of}
use Rattle.vax_form.specs.declared.instr.Base.{Base}
use Rattle.vax_form.specs.declared.instr.Base.TheVariants.{Deferred, Decrement, Increment, IncrementDeferred, Offset, Fixed}
use Rattle.vax_form.specs.declared.instr.Instr.{Instr}
use Rattle.vax_form.specs.declared.instr.Operand.{Operand}
use Rattle.vax_form.specs.declared.instr.Operand.TheVariants.{Unused, Value, Register, Place, Target}
use Rattle.vax_form.specs.declared.instr.Size.{Size}
use Rattle.vax_form.specs.declared.instr.Size.TheVariants.{Byte, Word}
use Rattle.operand_programs.specs.Behind.{AreFit}
use Rattle.operand_programs.specs.InOrder.{no_steps}
use Rattle.operand_programs.specs.Registers.{BaseIsNamed, NamesRegisters}
use Rattle.operand_programs.specs.Specifiers.{steps_behind, steps_behind_operand, with_step}
use Rattle.operand_programs.proofs.Ordered.{operand_steps_length}
use Rattle.program_codegen.specs.Strings.{specifiers_of, steps_of}
use Rattle.program_codegen.proofs.StringSteps.{IsFewBytes}

-- at most so many bytes up or down
abbrev IsWithin : (most step : ℕ) → Type 0
IsWithin most step = (step ≤ most) ⊎ ((2 ^ 32 - most ≤ step) × (step < 2 ^ 32))

added : (most s a : ℕ) → most ≤ 100 → IsWithin most s → IsWithin 4 a → IsWithin (most + 4) ((s + a) % 2 ^ 32)
added most s a few (inl up) (inl up') = inl (omega arith)
added most s a few (inl up) (inr down') = let low = down'.0 in let high = down'.1 in elim (cases_lt (s + a) (2 ^ 32)) [
  | inl lt ↦ inr (omega arith, omega arith)
  | inr ge ↦ inl (omega arith)
]
added most s a few (inr down) (inl up') = let low = down.0 in let high = down.1 in elim (cases_lt (s + a) (2 ^ 32)) [
  | inl lt ↦ inr (omega arith, omega arith)
  | inr ge ↦ inl (omega arith)
]
added most s a few (inr down) (inr down') = let low = down.0 in let high = down.1 in let low' = down'.0 in let high' = down'.1 in inr (omega arith, omega arith)

more : (most s : ℕ) → most ≤ 100 → IsWithin most s → IsWithin (most + 4) s
more most s few (inl up) = inl (omega arith)
more most s few (inr down) = let low = down.0 in let high = down.1 in inr (omega arith, omega arith)

module _ (most : ℕ) (few : most ≤ 100) (steps : List ℕ) (fifteen : length steps ≡ 15) (within : (number : ℕ) → IsWithin most (slice_index steps number)) where
  with_within : (n addend number : ℕ) → n < 15 → IsWithin 4 addend → IsWithin (most + 4) (slice_index (with_step n addend steps) number)
  with_within n addend number low small = elim (cases_eq number n) [
    | inl is ↦ subst (IsWithin (most + 4)) (sym (ap (λ (k : ℕ). slice_index (with_step n addend steps) k) is ∙ get_or-set_same steps n ((slice_index steps n + addend) % 2 ^ 32) 0 (let size = fifteen in omega arith)))
        (added most (slice_index steps n) addend few (within n) small)
    | inr not ↦ subst (IsWithin (most + 4)) (sym (get_or-set_other steps n number ((slice_index steps n + addend) % 2 ^ 32) 0 not)) (more most (slice_index steps number) few (within number))
  ]

  base_within : (base : Base) (size number : ℕ) → 1 ≤ size → size ≤ 4 → BaseIsNamed base → IsWithin (most + 4) (slice_index (steps_behind base size steps) number)
  base_within (Deferred n) size number some le named = more most (slice_index steps number) few (within number)
  base_within (Offset n offset deferred) size number some le named = more most (slice_index steps number) few (within number)
  base_within (Fixed address deferred) size number some le named = more most (slice_index steps number) few (within number)
  base_within (Decrement n) size number some le named = with_within n (2 ^ 32 - size) number named (inr (omega arith, omega arith))
  base_within (Increment n) size number some le named = with_within n size number named (inl le)
  base_within (IncrementDeferred n) size number some le named = with_within n 4 number named (inl (lit≤ tt))

  operand_within : (operand : Operand) (size : Size) (number : ℕ) → 1 ≤ bytes_of size → bytes_of size ≤ 4 → NamesRegisters operand size → IsWithin (most + 4) (slice_index (steps_behind_operand operand size steps) number)
  operand_within (Place base index) size number some le named = base_within base (bytes_of size) number some le named.0
  operand_within (Value value) size number some le named = more most (slice_index steps number) few (within number)
  operand_within (Register n) size number some le named = more most (slice_index steps number) few (within number)
  operand_within (Target address) size number some le named = more most (slice_index steps number) few (within number)
  operand_within Unused size number some le named = more most (slice_index steps number) few (within number)

none_within : (number : ℕ) → IsWithin 0 (slice_index no_steps number)
none_within number = inl (let none = none_at in omega arith)
  where
    none_at : slice_index no_steps number ≡ 0
    none_at = elim (cases_lt number 15) [
      | inl has ↦ get_or-replicate 15 number 0 0 has
      | inr past ↦ get_or-eq_default no_steps 0 past
    ]

pub steps_few_bytes : (instr : Instr) → AreFit (specifiers_of instr) → (number : ℕ) → IsFewBytes (slice_index (steps_of instr) number)
steps_few_bytes instr fit number =
    let first = steps_behind_operand (operand_of instr 0) Word no_steps in
    let second = steps_behind_operand (operand_of instr 1) Byte first in
    let a = operand_steps_length (operand_of instr 0) Word no_steps in
    let b = operand_steps_length (operand_of instr 1) Byte (steps_behind_operand (operand_of instr 0) Word no_steps) in
    few (slice_index (steps_of instr) number)
    (operand_within 8 (lit≤ tt) (steps_behind_operand (operand_of instr 1) Byte (steps_behind_operand (operand_of instr 0) Word no_steps)) (b ∙ a)
    (λ n. operand_within 4 (lit≤ tt) (steps_behind_operand (operand_of instr 0) Word no_steps) a
    (λ n. operand_within 0 (lit≤ tt) no_steps refl none_within (operand_of instr 0) Word n (lit≤ tt) (lit≤ tt) fit.0.registers) (operand_of instr 1) Byte n (lit≤ tt) (lit≤ tt) fit.1.0.registers)
    (operand_of instr 2) Byte number (lit≤ tt) (lit≤ tt) fit.1.1.0.registers)
  where
    few : (s : ℕ) → IsWithin 12 s → IsFewBytes s
    few s (inl up) = inl (omega arith)
    few s (inr down) = let low = down.0 in let high = down.1 in inr (omega arith, high)
