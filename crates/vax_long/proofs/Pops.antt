-- What a script pops off an aligned stack.
use Rattle.std.proofs.Common.{◌≡◌, ◌≢◌, ℕ, zero, suc, ◌+◌, ◌-◌, ◌*◌, ◌%◌, ◌^◌, ◌<◌, ◌≤◌, min, Bool, true, false, List, [], ◌∷◌, length, Result, Ok, Err, None, refl, ap, sym, ◌∙◌, subst, arith}
use Rattle.std.proofs.lemmas.List.{length-set, get_or-set_same, get_or-set_other}
use Rattle.vax_form.specs.Pages.{first_bad}
use Rattle.vax_form.specs.Script.{Moment, Halt, pure, run, when◌then◌else◌}
use Rattle.vax_form.specs.State.{register, with_register, SP}
use Rattle.vax_form.specs.declared.pages.Pages.{Pages}
use Rattle.vax_form.specs.declared.script.Stop.TheVariants.{Wants}
use Rattle.vax_form.specs.declared.state.Reference.{Reference}
use Rattle.vax_form.specs.declared.state.RefKind.TheVariants.{Read}
use Rattle.vt_words.specs.Values.{bit}
use Rattle.vax_meaning.specs.Memory.{low_bytes, read}
use Rattle.vax_meaning.specs.Operands.{set_register}
use Rattle.vax_long.specs.Registers.{is_in_mask, pop, pop_checked, pop_register, pop_registers, registers_in}
use Rattle.vax_long.proofs.Told.{Comes, Course, Wanting, Coming, first_wanting, then_wanting, then_coming, none_wanting, nothing_coming, at_once}

-- so many longwords behind an address
abbrev pub behind : (top number : ℕ) → ℕ
behind top number = (top + 4 * number) % 2 ^ 32

abbrev pub longword_at : ℕ → Reference
longword_at address = record { address = address; count = 4; kind = Read }

-- the longwords behind an address, each of which may be read
abbrev pub pops_from : Pages → (top : ℕ) → Course
pops_from pages top = record {
  pages = pages;
  at = behind top;
  reference = λ n. longword_at (behind top n);
  allowed = λ n. first_bad pages false (behind top n) 4 ≡ None;
}

abbrev popped : (top : ℕ) → Moment → List ℕ → Result (ℕ × Moment) Halt
popped top moment [] = Err (Wants (longword_at top), [])
popped top moment (reply ∷ rest) = Ok (low_bytes 4 (low_bytes 4 reply), record moment { state = with_register SP ((top + 4) % 2 ^ 32) moment.state; replies = rest })

pop_runs : (top : ℕ) (moment : Moment) (replies : List ℕ) → register SP moment.state ≡ top → moment.replies ≡ replies → min 4 (8 - top % 8) ≡ 4 → first_bad moment.pages false top 4 ≡ None
    → run pop moment ≡ popped top moment replies
unfolding pop pop_checked read
pop_runs top moment [] at is whole may = rw (at, may, at, whole, is) refl
pop_runs top moment (reply ∷ rest) at is whole may = rw (at, may, at, whole, is) refl

module _ (pages : Pages) (top : ℕ) (aligned : top % 4 ≡ 0) where
  whole_at : (n : ℕ) → min 4 (8 - behind top n % 8) ≡ 4
  whole_at n = omega (arith, aligned)

  may_at : (moment : Moment) (from n : ℕ) → moment.pages ≡ pages → n ≡ from → first_bad pages false (behind top n) 4 ≡ None → first_bad moment.pages false (behind top from) 4 ≡ None
  may_at moment from n over is may =
      subst (λ (p : Pages). first_bad p false (behind top from) 4 ≡ None) (sym over) (subst (λ (k : ℕ). first_bad pages false (behind top k) 4 ≡ None) is may)

  pub pop_wanting : (from : ℕ) → Wanting (pops_from pages top) from 1 pop
  pop_wanting from moment here few may = by moment.replies refl
    where
      by : (replies : List ℕ) → moment.replies ≡ replies → run pop moment ≡ Err (Wants (longword_at (behind top (from + length moment.replies))), [])
      by [] is =
          let none : from ≡ from + length moment.replies = omega (arith, ap length is) in
          pop_runs (behind top from) moment [] here.stack is (whole_at from) (may_at moment from (from + 0) here.over (omega arith) (may 0 (omega arith)))
          ∙ ap (λ (n : ℕ). Err (Wants (longword_at (behind top n)), [])) none
      by (reply ∷ rest) is =
          let some : length moment.replies ≡ suc (length rest) = ap length is in
          absurd (omega (arith, some, few))

  pub pop_coming : (from : ℕ) → Coming (pops_from pages top) from 1 pop
  pop_coming from moment here enough may = by moment.replies refl
    where
      by : (replies : List ℕ) → moment.replies ≡ replies → Comes pages (behind top (from + 1)) (length moment.replies - 1) (run pop moment)
      by [] is =
          let none : length moment.replies ≡ 0 = ap length is in
          absurd (omega (arith, none, enough))
      by (reply ∷ rest) is =
          let some : length moment.replies ≡ suc (length rest) = ap length is in
          let left : length rest ≡ length moment.replies - 1 = omega (arith, some) in
          let within : 14 < length moment.state.r = omega (arith, here.registers) in
          let next : (behind top from + 4) % 2 ^ 32 ≡ behind top (from + 1) = omega arith in
          subst (λ r. Comes pages (behind top (from + 1)) (length moment.replies - 1) r)
          (sym (pop_runs (behind top from) moment (reply ∷ rest) here.stack is (whole_at from) (may_at moment from (from + 0) here.over (omega arith) (may 0 (omega arith))))) (
            record {
              registers = length-set moment.state.r 14 ((behind top from + 4) % 2 ^ 32) ∙ here.registers;
              stack = get_or-set_same moment.state.r 14 ((behind top from + 4) % 2 ^ 32) 0 within ∙ next;
              over = here.over;
            },
            left,
          )

  -- ---- into registers
  set_coming : (from number value : ℕ) → 14 ≢ number → Coming (pops_from pages top) from 0 (set_register number value)
  set_coming from number value other = at_once (pops_from pages top) from (set_register number value) (λ moment here. (
    record {
      registers = length-set moment.state.r number value ∙ here.registers;
      stack = get_or-set_other moment.state.r number 14 value 0 other ∙ here.stack;
      over = here.over;
    },
    refl,
  ))

  pub register_wanting : (from number : ℕ) → Wanting (pops_from pages top) from 1 (pop_register number)
  unfolding pop_register
  register_wanting from number = first_wanting (pops_from pages top) from 1 pop (λ value. set_register number value) (pop_wanting from)

  pub register_coming : (from number : ℕ) → 14 ≢ number → Coming (pops_from pages top) from 1 (pop_register number)
  unfolding pop_register
  register_coming from number other =
      then_coming (pops_from pages top) from 1 0 pop (λ value. set_register number value) (pop_coming from) (λ value. set_coming (from + 1) number value other)

  choice_wanting : (b : Bool) (from number : ℕ) → Wanting (pops_from pages top) from (bit b) (when b then pop_register number else pure tt)
  choice_wanting true from number = register_wanting from number
  choice_wanting false from number = none_wanting (pops_from pages top) from (pure tt)

  choice_coming : (b : Bool) (from number : ℕ) → 14 ≢ number → Coming (pops_from pages top) from (bit b) (when b then pop_register number else pure tt)
  choice_coming true from number other = register_coming from number other
  choice_coming false from number other = nothing_coming (pops_from pages top) from

  low_number : (number count : ℕ) → number + suc count ≤ 14 → 14 ≢ number
  low_number number count few e = omega (arith, few, e)

  pub registers_coming : (count number mask from : ℕ) → number + count ≤ 14 → Coming (pops_from pages top) from (registers_in count number mask) (pop_registers count number mask)
  unfolding pop_registers
  registers_coming zero number mask from few = nothing_coming (pops_from pages top) from
  registers_coming (suc count) number mask from few =
      then_coming (pops_from pages top) from (bit (is_in_mask number mask)) (registers_in count (number + 1) mask) (when is_in_mask number mask then pop_register number else pure tt) (λ _. pop_registers count (number + 1) mask)
      (choice_coming (is_in_mask number mask) from number (low_number number count few)) (λ _. registers_coming count (number + 1) mask (from + bit (is_in_mask number mask)) (omega (arith, few)))

  pub registers_wanting : (count number mask from : ℕ) → number + count ≤ 14 → Wanting (pops_from pages top) from (registers_in count number mask) (pop_registers count number mask)
  unfolding pop_registers
  registers_wanting zero number mask from few = none_wanting (pops_from pages top) from (pure tt)
  registers_wanting (suc count) number mask from few =
      then_wanting (pops_from pages top) from (bit (is_in_mask number mask)) (registers_in count (number + 1) mask) (when is_in_mask number mask then pop_register number else pure tt) (λ _. pop_registers count (number + 1) mask)
      (choice_wanting (is_in_mask number mask) from number) (choice_coming (is_in_mask number mask) from number (low_number number count few))
      (λ _. registers_wanting count (number + 1) mask (from + bit (is_in_mask number mask)) (omega (arith, few)))
