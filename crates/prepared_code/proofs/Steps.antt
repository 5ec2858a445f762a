-- More steps inside a block.
use Rattle.std.proofs.Common.{◌≡◌, ℕ, zero, suc, ◌+◌, ◌<◌, List, Option, Some, None, refl, sym, ap, ◌∙◌, arith, add-one}
use Rattle.std.specs.Prelude.{option_and_then, slice_get}
use Rattle.alpha_machine.specs.Step.{state_of}
use Rattle.alpha_machine.specs.declared.cpu.Cpu.{Cpu}
use Rattle.alpha_meaning.specs.State.{Alpha, Regs, at_place, regs_of}
use Rattle.block_law.specs.Translations.{Code}
use Rattle.prepared_code.specs.Flats.{AreStraight, effect}
use Rattle.prepared_code.specs.Inside.{step_in, steps_in}
use Rattle.prepared_code.specs.declared.flat.Flat.{Flat}

pub one_more_step : (code : Code) (c : Alpha) (n : ℕ) (d e : Alpha) → steps_in code c n ≡ Some d → step_in code d ≡ Some e → steps_in code c (n + 1) ≡ Some e
one_more_step code c n d e h k =
    ap (steps_in code c) (add-one n) ∙ ap (option_and_then (step_in code)) h ∙ k

-- so many steps and so many more
in_turn : (code : Code) (c : Alpha) (n m : ℕ) → steps_in code c (n + m) ≡ option_and_then (λ d. steps_in code d m) (steps_in code c n)
in_turn code c n zero = let e : n + zero ≡ n = omega arith in ap (steps_in code c) e ∙ by (steps_in code c n)
  where
    by : (o : Option Alpha) → o ≡ option_and_then (λ (d : Alpha). steps_in code d zero) o
    by None = refl
    by (Some d) = refl
in_turn code c n (suc m) =
    let e : n + suc m ≡ suc (n + m) = omega arith in
    ap (steps_in code c) e ∙ ap (option_and_then (step_in code)) (in_turn code c n m) ∙ by (steps_in code c n)
  where
    by : (o : Option Alpha) → option_and_then (step_in code) (option_and_then (λ d. steps_in code d m) o) ≡ option_and_then (λ d. steps_in code d (suc m)) o
    by None = refl
    by (Some d) = refl

pub more_steps : (code : Code) (c d e : Alpha) (n m : ℕ) → steps_in code c n ≡ Some d → steps_in code d m ≡ Some e → steps_in code c (n + m) ≡ Some e
more_steps code c d e n m first behind = in_turn code c n m ∙ ap (option_and_then (λ d. steps_in code d m)) first ∙ behind

-- one straight step more, whose program counter is left where it was
pub one_more_straight : (code : Code) (start : Alpha) (first n count : ℕ) (flats : List Flat) (f : Flat) (cpu new : Cpu) → AreStraight code flats first count → n < count → slice_get flats (first + n) ≡ Some f
    → steps_in code start n ≡ Some (at_place (regs_of cpu.r) (first + n)) → state_of new ≡ at_place (effect f (regs_of cpu.r)) cpu.pc
    → steps_in code start (n + 1) ≡ Some (at_place (regs_of new.r) (first + (n + 1)))
one_more_straight code start first n count flats f cpu new are within found ran is =
    let same : effect f (regs_of cpu.r) ≡ regs_of new.r = sym (ap (λ (s : Alpha). s.regs) is) in
    let next : first + n + 1 ≡ first + (n + 1) = omega arith in
    one_more_step code start n (at_place (regs_of cpu.r) (first + n)) (at_place (effect f (regs_of cpu.r)) (first + n + 1)) ran ((are n f within found).step cpu.r)
    ∙ ap (λ (g : Regs). Some (at_place g (first + n + 1))) same
    ∙ ap (λ k. Some (at_place (regs_of new.r) k)) next
