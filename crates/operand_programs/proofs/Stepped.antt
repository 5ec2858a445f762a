-- What specifiers add to the registers.
use Rattle.std.proofs.Common.{◌≡◌, ℕ, zero, suc, ◌+◌, ◌%◌, ◌^◌, List, [], ◌∷◌, length, get_or, set, replicate, ◌<◌, add-zero, refl, sym, ap, ◌∙◌, arith}
use Rattle.std.specs.Prelude.{◌≢◌}
use Rattle.std.proofs.lemmas.List.{set_comm}
use Rattle.vax_form.specs.State.{register, with_register, with_core}
use Rattle.vax_form.specs.declared.state.VaxState.{VaxState}
use Rattle.std.proofs.Math.Nat.{mod-eq_of_lt}
use Rattle.operand_programs.specs.InOrder.{NothingAdded}
use Rattle.operand_programs.proofs.Accesses.{register_below}
use Rattle.operand_programs.specs.Specifiers.{stepped_registers, stepped, with_step}

pub register_of_stepped : (r steps : List ℕ) (number : ℕ) → length steps ≡ length r
    → get_or (stepped_registers r steps) number 0 ≡ (get_or r number 0 + get_or steps number 0) % 2 ^ 32
register_of_stepped [] [] number same = refl
register_of_stepped [] (step ∷ steps) number same = absurd (omega (arith, same))
register_of_stepped (value ∷ r) [] number same = absurd (omega (arith, same))
register_of_stepped (value ∷ r) (step ∷ steps) zero same = refl
register_of_stepped (value ∷ r) (step ∷ steps) (suc number) same = register_of_stepped r steps number (omega (arith, same))

pub twice : (value step addend : ℕ) → ((value + step) % 4294967296 + addend) % 4294967296 ≡ (value + (step + addend) % 4294967296) % 4294967296
twice value step addend = omega arith

pub stepped_further : (r steps : List ℕ) (number addend : ℕ) → length steps ≡ length r
    → set (stepped_registers r steps) number (((get_or r number 0 + get_or steps number 0) % 2 ^ 32 + addend) % 2 ^ 32)
    ≡ stepped_registers r (set steps number ((get_or steps number 0 + addend) % 2 ^ 32))
stepped_further [] [] number addend same = refl
stepped_further [] (step ∷ steps) number addend same = absurd (omega (arith, same))
stepped_further (value ∷ r) [] number addend same = absurd (omega (arith, same))
stepped_further (value ∷ r) (step ∷ steps) zero addend same = ap (λ v. v ∷ stepped_registers r steps) (twice value step addend)
stepped_further (value ∷ r) (step ∷ steps) (suc number) addend same = ap (λ vs. (value + step) % 2 ^ 32 ∷ vs) (stepped_further r steps number addend (omega (arith, same)))

pub register_stepped : (state : VaxState) (steps : List ℕ) (number : ℕ) → length steps ≡ length state.r
    → register number (stepped steps state) ≡ (register number state + get_or steps number 0) % 2 ^ 32
register_stepped state steps number same = register_of_stepped state.r steps number same

pub with_register_stepped : (state : VaxState) (steps : List ℕ) (number addend : ℕ) → length steps ≡ length state.r
    → with_register number ((register number (stepped steps state) + addend) % 2 ^ 32) (stepped steps state) ≡ stepped (with_step number addend steps) state
with_register_stepped state steps number addend same =
    ap (λ r. with_core state r state.pc state.psw)
    (ap (λ v. set (stepped_registers state.r steps) number ((v + addend) % 2 ^ 32)) (register_of_stepped state.r steps number same) ∙ stepped_further state.r steps number addend same)

-- a step of a register that takes another value is no matter
pub stepped_set : (r steps : List ℕ) (number step value : ℕ) → set (stepped_registers r (set steps number step)) number value ≡ set (stepped_registers r steps) number value
stepped_set [] steps number step value = refl
stepped_set (old ∷ r) [] number step value = refl
stepped_set (old ∷ r) (s ∷ steps) zero step value = refl
stepped_set (old ∷ r) (s ∷ steps) (suc number) step value = ap (λ vs. (old + s) % 2 ^ 32 ∷ vs) (stepped_set r steps number step value)

-- the same of two registers
pub stepped_set_two : (r steps : List ℕ) (n m a b : ℕ) → n ≢ m
    → set (set (stepped_registers r (set (set steps n 0) m 0)) n a) m b ≡ set (set (stepped_registers r steps) n a) m b
stepped_set_two r steps n m a b other =
    set_comm (stepped_registers r (set (set steps n 0) m 0)) n m a b other
    ∙ ap (λ xs. set xs n a) (stepped_set r (set steps n 0) m 0 b)
    ∙ sym (set_comm (stepped_registers r (set steps n 0)) n m a b other)
    ∙ ap (λ xs. set xs m b) (stepped_set r steps n 0 a)

none_added : (r : List ℕ) → ((number : ℕ) → get_or r number 0 < 2 ^ 32) → stepped_registers r (replicate (length r) 0) ≡ r
none_added [] small = refl
none_added (value ∷ r) small =
    ap (λ v. v ∷ stepped_registers r (replicate (length r) 0)) (ap (λ v. v % 2 ^ 32) (add-zero value) ∙ mod-eq_of_lt (small zero)) ∙ ap (λ vs. value ∷ vs) (none_added r (λ number. small (suc number)))

pub nothing_added : NothingAdded
nothing_added state ok =
    ap (λ r. with_core state r state.pc state.psw)
    (ap (λ n. stepped_registers state.r (replicate n 0)) (sym ok.registers) ∙ none_added state.r (register_below state ok))
