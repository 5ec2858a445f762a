-- Blocks that are run through with no look back.
use Rattle.std.proofs.Common.{◌≡◌, ℕ, ◌+◌, ◌-◌, ◌<◌, ◌≤◌, ◌==◌, ◌&&◌, Bool, true, false, eqb-true, eq-eqb, refl, sym, ap, ◌∙◌, arith}
use Rattle.std.specs.Prelude.{nat_le, not}
use Rattle.std.proofs.lemmas.Bool.{le-leb, leb-true}
use Rattle.alpha_machine.specs.Step.{state_of}
use Rattle.alpha_machine.specs.declared.cpu.Cpu.{Cpu}
use Rattle.block_law.specs.Translations.{Code}
use Rattle.prepared_code.specs.Inside.{Crosses}
use Rattle.prepared_code.specs.Known.{guess}
use Rattle.prepared_code.specs.Strides.{arrives}
use Rattle.tie_switch.specs.Glides.{Glided, OneMore, is_guessed}

-- ---- whether a guess is within what is left
-- a guess that is looked at, and not 0
pub guessed : (code : Code) (cpu : Cpu) (within left : ℕ) → within ≡ guess code cpu.pc → 0 < within → within ≤ left → is_guessed code cpu left ≡ true
guessed code cpu within left is some few = by (guess code cpu.pc == 0) refl
  where
    by : (b : Bool) → (guess code cpu.pc == 0) ≡ b → (not b && nat_le (guess code cpu.pc) left) ≡ true
    by true e = absurd (omega (arith, eqb-true (guess code cpu.pc) 0 e, is, some))
    by false e = le-leb (guess code cpu.pc) left (omega (arith, is, few))

pub none_guessed : (code : Code) (cpu : Cpu) (within left : ℕ) → within ≡ guess code cpu.pc → within ≡ 0 → is_guessed code cpu left ≡ false
none_guessed code cpu within left is none = ap (λ b. not b && nat_le (guess code cpu.pc) left) (eq-eqb (guess code cpu.pc) 0 (sym is ∙ none))

pub too_many : (code : Code) (cpu : Cpu) (within left : ℕ) → within ≡ guess code cpu.pc → left < within → is_guessed code cpu left ≡ false
too_many code cpu within left is many = by (guess code cpu.pc == 0) (nat_le (guess code cpu.pc) left) refl
  where
    by : (a b : Bool) → nat_le (guess code cpu.pc) left ≡ b → (not a && b) ≡ false
    by true b e = refl
    by false true e = absurd (omega (arith, leb-true (guess code cpu.pc) left e, is, many))
    by false false e = refl

-- none is, where no step is left
pub none_left : (code : Code) (cpu : Cpu) (left : ℕ) → left ≡ 0 → is_guessed code cpu left ≡ false
none_left code cpu left none = by (guess code cpu.pc == 0) refl (nat_le (guess code cpu.pc) left) refl
  where
    by : (a : Bool) → (guess code cpu.pc == 0) ≡ a → (b : Bool) → nat_le (guess code cpu.pc) left ≡ b → (not a && b) ≡ false
    by true e b l = refl
    by false e false l = refl
    by false e true l =
        let zero : guess code cpu.pc ≡ 0 = omega (arith, leb-true (guess code cpu.pc) left l, none) in
        sym (sym e ∙ eq-eqb (guess code cpu.pc) 0 zero)

-- ---- a block more
pub one_block_more : (code : Code) (most : ℕ) (first c d : Cpu) (made within steps : ℕ) → Glided code most first c made → within ≡ guess code c.pc → 0 < within → within ≤ most - made
    → true ≡ arrives code (state_of c) within → Crosses code c d steps → Glided code most first d (made + steps)
one_block_more code most first c d made within steps glided is some few told crosses =
    OneMore glided (guessed code c within (most - made) is some few) (ap (arrives code (state_of c)) (sym is) ∙ sym told) crosses
