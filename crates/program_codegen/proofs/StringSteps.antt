-- The words that leave the state behind MOVC3: what they make of the registers.
use Rattle.std.proofs.Common.{◌≡◌, ℕ, zero, suc, ◌+◌, ◌-◌, ◌%◌, ◌^◌, ◌<◌, ◌≤◌, inl, inr, refl, sym, ap, ◌∙◌, subst, arith, List, [], ◌∷◌, ◌++◌, Bool, true, false}
use Rattle.std.specs.Prelude.{◌⊎◌, ◌==◌, ◌&&◌, ◌||◌, bit_or, nat_lt, nat_le, slice_index, if◌then◌else◌}
use Rattle.std.specs.List.{list_all}
use Rattle.std.proofs.lemmas.Bool.{eqb-true}
use Rattle.std.proofs.lemmas.Bool.Decides.{nat_tests}
use Rattle.std.proofs.lemmas.List.Folds.{list_all-append}
use Rattle.std.proofs.lemmas.Nat.{or_comm}
use Rattle.vt_words.specs.Quad.{sign_extended}
use Rattle.vt_words.proofs.Longwords.{extended_again, same_extended}
use Rattle.alpha_encode.specs.declared.instr.AlphaInstr.{AlphaInstr}
use Rattle.alpha_encode.specs.declared.instr.AlphaInstr.TheVariants.{Operate}
use Rattle.alpha_encode.specs.declared.instr.OperateOp.TheVariants.{Addl, Subl}
use Rattle.alpha_encode.specs.declared.instr.Second.TheVariants.{Literal}
use Rattle.alpha_meaning.specs.State.{Regs}
use Rattle.alpha_meaning.specs.Loops.{effect, effects, is_operate}
use Rattle.alpha_meaning.proofs.Registers.{put_same, put_other}
use Rattle.program_codegen.specs.Strings.{behind_words, moved_words, step_words, steps_from}
use Rattle.program_codegen.proofs.Numbers.{copied}

-- ---- lists of words
pub effects_append : (xs ys : List AlphaInstr) (f : Regs) → effects (xs ++ ys) f ≡ effects ys (effects xs f)
effects_append [] ys f = refl
effects_append (x ∷ xs) ys f = effects_append xs ys (effect x f)

-- ---- one step
-- what an operand adds to a register: a few bytes up or down
abbrev pub IsFewBytes : (step : ℕ) → Type 0
IsFewBytes step = (step < 256) ⊎ ((2 ^ 32 - 256 < step) × (step < 2 ^ 32))

step_is_operate : (number step : ℕ) → list_all is_operate (step_words number step) ≡ true
step_is_operate number step = by (step == 0) (nat_lt step (2 ^ 31))
  where
    by : (none up : Bool)
        → list_all is_operate
        (if none then [] else (if up then Operate Addl number (Literal (step % 2 ^ 8)) number else Operate Subl number (Literal ((2 ^ 32 - step) % 2 ^ 8)) number) ∷ []) ≡ true
    by true up = refl
    by false true = refl
    by false false = refl

pub steps_are_operate : (number count : ℕ) (steps : List ℕ) → list_all is_operate (steps_from number count steps) ≡ true
steps_are_operate number zero steps = refl
steps_are_operate number (suc count) steps =
    list_all-append is_operate (step_words number (slice_index steps number)) (steps_from (number + 1) count steps)
    ∙ rw (step_is_operate number (slice_index steps number), steps_are_operate (number + 1) count steps) refl

pub behind_is_operate : (steps : List ℕ) → list_all is_operate (behind_words steps) ≡ true
behind_is_operate steps = list_all-append is_operate (steps_from 6 9 steps) moved_words ∙ rw (steps_are_operate 6 9 steps) refl

record IsStepped (number step : ℕ) (f g : Regs) : Type 0 where
  at : g number ≡ sign_extended ((f number + step) % 2 ^ 32) 32
  other : (n : ℕ) → (n == number) ≡ false → g n ≡ f n

module _ (number step : ℕ) (f : Regs) (low : number < 15) (long : sign_extended (f number) 32 ≡ f number) where
  real : (number == 31) ≡ false
  real = grind (arith, nat_tests)

  one_step : IsFewBytes step → IsStepped number step f (effects (step_words number step) f)
  one_step few = by (step == 0) (nat_lt step (2 ^ 31)) refl refl
    where
      nothing : (x s : ℕ) → s ≡ 0 → x % 2 ^ 32 ≡ (x + s) % 2 ^ 32 % 2 ^ 32
      nothing x s e = omega arith

      up_by : (x s : ℕ) → IsFewBytes s → s < 2 ^ 31 → (x + s % 2 ^ 8) % 2 ^ 64 % 2 ^ 32 ≡ (x + s) % 2 ^ 32 % 2 ^ 32
      up_by x s (inl few) lt = omega arith
      up_by x s (inr many) lt = let a = many.0 in absurd (omega arith)

      down_by : (x s : ℕ) → IsFewBytes s → 2 ^ 31 ≤ s → (x + (2 ^ 64 - (2 ^ 32 - s) % 2 ^ 8)) % 2 ^ 64 % 2 ^ 32 ≡ (x + s) % 2 ^ 32 % 2 ^ 32
      down_by x s (inl few) le = absurd (omega arith)
      down_by x s (inr many) le = let a = many.0 in let b = many.1 in omega arith

      is_less : (s : ℕ) → nat_lt s (2 ^ 31) ≡ true → s < 2 ^ 31
      is_less s e = grind (arith, nat_tests, e)

      is_more : (s : ℕ) → nat_lt s (2 ^ 31) ≡ false → 2 ^ 31 ≤ s
      is_more s e = grind (arith, nat_tests, e)

      by : (none up : Bool) → (step == 0) ≡ none → nat_lt step (2 ^ 31) ≡ up
          → IsStepped number step f (effects (if none then [] else (if up then Operate Addl number (Literal (step % 2 ^ 8)) number else Operate Subl number (Literal ((2 ^ 32 - step) % 2 ^ 8)) number) ∷ []) f)
      by true up none is_up = record {
        at = sym long ∙ same_extended (f number) ((f number + step) % 2 ^ 32) (nothing (f number) step (eqb-true step 0 none));
        other = λ n out. refl;
      }
      by false true none is_up = record {
        at = put_same f number (sign_extended ((f number + step % 2 ^ 8) % 2 ^ 64) 32) real
            ∙ same_extended ((f number + step % 2 ^ 8) % 2 ^ 64) ((f number + step) % 2 ^ 32) (up_by (f number) step few (is_less step is_up));
        other = λ n out. put_other f number (sign_extended ((f number + step % 2 ^ 8) % 2 ^ 64) 32) n out;
      }
      by false false none is_up = record {
        at = put_same f number (sign_extended ((f number + (2 ^ 64 - (2 ^ 32 - step) % 2 ^ 8)) % 2 ^ 64) 32) real
            ∙ same_extended ((f number + (2 ^ 64 - (2 ^ 32 - step) % 2 ^ 8)) % 2 ^ 64) ((f number + step) % 2 ^ 32) (down_by (f number) step few (is_more step is_up));
        other = λ n out. put_other f number (sign_extended ((f number + (2 ^ 64 - (2 ^ 32 - step) % 2 ^ 8)) % 2 ^ 64) 32) n out;
      }

-- ---- the steps of several registers
pub record AreStepped (number count : ℕ) (steps : List ℕ) (f g : Regs) : Type 0 where
  pub inside : (n : ℕ) → number ≤ n → n < number + count → g n ≡ sign_extended ((f n + slice_index steps n) % 2 ^ 32) 32
  pub below : (n : ℕ) → n < number → g n ≡ f n
  pub above : (n : ℕ) → number + count ≤ n → g n ≡ f n

apart : (n m : ℕ) → n < m → (n == m) ≡ false
apart n m lt = grind (arith, nat_tests)

apart' : (n m : ℕ) → m < n → (n == m) ≡ false
apart' n m lt = grind (arith, nat_tests)

-- one step, and then those of the registers behind
module _ (steps : List ℕ) (few : (n : ℕ) → IsFewBytes (slice_index steps n)) (count number : ℕ) (f : Regs) (fits : number + suc count ≤ 15) (form : (n : ℕ) → n < 15 → sign_extended (f n) 32 ≡ f n) where
  abbrev behind_one : Regs
  behind_one = effects (step_words number (slice_index steps number)) f

  one : IsStepped number (slice_index steps number) f behind_one
  one = one_step number (slice_index steps number) f (omega arith) (form number (omega arith)) (few number)

  kept_form : (n : ℕ) → n < 15 → sign_extended (behind_one n) 32 ≡ behind_one n
  kept_form n lt = by (n == number) refl
    where
      by : (b : Bool) → (n == number) ≡ b → sign_extended (behind_one n) 32 ≡ behind_one n
      by true e = subst (λ m. sign_extended (behind_one m) 32 ≡ behind_one m) (sym (eqb-true n number e)) (subst (λ x. sign_extended x 32 ≡ x) (sym one.at) (extended_again ((f number + slice_index steps number) % 2 ^ 32)))
      by false e = subst (λ x. sign_extended x 32 ≡ x) (sym (one.other n e)) (form n lt)

  module _ (later : AreStepped (number + 1) count steps behind_one (effects (steps_from (number + 1) count steps) behind_one)) where
    each : (n : ℕ) → number ≤ n → n < number + suc count → (b : Bool) → (n == number) ≡ b
        → effects (steps_from (number + 1) count steps) behind_one n ≡ sign_extended ((f n + slice_index steps n) % 2 ^ 32) 32
    each n le lt true e =
        let is : n ≡ number = eqb-true n number e in
        subst (λ m. effects (steps_from (number + 1) count steps) behind_one m ≡ sign_extended ((f m + slice_index steps m) % 2 ^ 32) 32) (sym is) (later.below number (omega arith) ∙ one.at)
    each n le lt false e =
        let above : number + 1 ≤ n = grind (arith, nat_tests, e) in
        later.inside n above (omega arith) ∙ ap (λ x. sign_extended ((x + slice_index steps n) % 2 ^ 32) 32) (one.other n e)

    steps_joined : AreStepped number (suc count) steps f (effects (step_words number (slice_index steps number) ++ steps_from (number + 1) count steps) f)
    steps_joined =
        subst (AreStepped number (suc count) steps f) (sym (effects_append (step_words number (slice_index steps number)) (steps_from (number + 1) count steps) f))
        (record {
          inside = λ n le lt. each n le lt (n == number) refl;
          below = λ n lt. later.below n (omega arith) ∙ one.other n (apart n number lt);
          above = λ n le. later.above n (omega arith) ∙ one.other n (apart' n number (omega arith));
        })

pub steps_done : (steps : List ℕ) → ((n : ℕ) → IsFewBytes (slice_index steps n)) → (count number : ℕ) (f : Regs) → number + count ≤ 15 → ((n : ℕ) → n < 15 → sign_extended (f n) 32 ≡ f n)
    → AreStepped number count steps f (effects (steps_from number count steps) f)
steps_done steps few zero number f fits form = record {
  inside = λ n le lt. absurd (omega arith);
  below = λ n lt. refl;
  above = λ n le. refl;
}
steps_done steps few (suc count) number f fits form =
    steps_joined steps few count number f fits form
    (steps_done steps few count (number + 1) (effects (step_words number (slice_index steps number)) f) (omega arith) (kept_form steps few count number f fits form))

-- ---- the words behind them
-- the registers that no other word writes
abbrev pub is_left : (register : ℕ) → Bool
is_left register = (nat_le 6 register && nat_lt register 16) || nat_le 20 register

pub moved_kept : (f : Regs) (n : ℕ) → is_left n ≡ true → effects moved_words f n ≡ f n
moved_kept f n e =
    let a : (n == 0) ≡ false = grind (arith, nat_tests, e) in
    let b : (n == 1) ≡ false = grind (arith, nat_tests, e) in
    let c : (n == 2) ≡ false = grind (arith, nat_tests, e) in
    let d : (n == 3) ≡ false = grind (arith, nat_tests, e) in
    let g : (n == 4) ≡ false = grind (arith, nat_tests, e) in
    let h : (n == 5) ≡ false = grind (arith, nat_tests, e) in
    let i : (n == 16) ≡ false = grind (arith, nat_tests, e) in
    let j : (n == 17) ≡ false = grind (arith, nat_tests, e) in
    let k : (n == 18) ≡ false = grind (arith, nat_tests, e) in
    let l : (n == 19) ≡ false = grind (arith, nat_tests, e) in
    rw (a, b, c, d, g, h, i, j, k, l) (refl {a = f n})

pub one_more : (x : ℕ) → x ≡ 0 → bit_or x 1 ≡ 1
one_more x e = ap (λ y. bit_or y 1) e ∙ (or_comm 0 1 ∙ copied 1)

pub none_set : (x : ℕ) → x ≡ 0 → bit_or x 0 ≡ 0
none_set x e = copied x ∙ e
