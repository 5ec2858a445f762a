-- A call frame that may be written as a whole passes its checks.
use Rattle.std.proofs.Common.{◌≡◌, ℕ, zero, suc, ◌+◌, ◌-◌, ◌*◌, ◌%◌, ◌^◌, ◌<◌, ◌≤◌, Bool, true, false, Ok, None, refl, ap, ◌∙◌, subst, arith}
use Rattle.std.specs.Prelude.{if◌then◌else◌}
use Rattle.vax_form.specs.Pages.{first_bad}
use Rattle.vax_form.specs.Script.{Moment, pure, run, then_do}
use Rattle.vt_words.specs.Values.{bit}
use Rattle.vax_long.specs.Calls.{check_frame}
use Rattle.vax_long.specs.Registers.{below, check_push, check_registers, is_in_mask, registers_in}
use Rattle.vax_long.proofs.Counts.{one_more, few_registers}
use Rattle.vax_long.proofs.FramePages.{parts_allowed}

-- so many longwords below a top
abbrev pushed : (top number : ℕ) → ℕ
pushed top number = (top + (2 ^ 32 - 4 * number)) % 2 ^ 32

check_runs : (top next : ℕ) (moment : Moment) → below top ≡ next → first_bad moment.pages true next 4 ≡ None → run (check_push top) moment ≡ Ok (next, moment)
unfolding check_push
check_runs top next moment is may = rw (is, may) refl

module _ (top total : ℕ) (moment : Moment) (few : total ≤ 17) (small : top < 2 ^ 32) (may : first_bad moment.pages true (pushed top total) (4 * total) ≡ None) where
  each : (number : ℕ) → number < total → first_bad moment.pages true (pushed top (number + 1)) 4 ≡ None
  each number within =
      let whole : 4 * total ≡ 4 * (total - (number + 1)) + (4 + 4 * number) = omega (arith, within) in
      let there : (pushed top total + 4 * (total - (number + 1))) % 2 ^ 32 ≡ pushed top (number + 1) = omega (arith, within, few, small) in
      let behind = parts_allowed (4 * (total - (number + 1))) (4 + 4 * number) (pushed top total) moment.pages true (omega arith) (subst (λ (n : ℕ). first_bad moment.pages true (pushed top total) n ≡ None) whole may) in
      let here : first_bad moment.pages true (pushed top (number + 1)) (4 + 4 * number) ≡ None = subst (λ (a : ℕ). first_bad moment.pages true a (4 + 4 * number) ≡ None) there behind.1 in
      (parts_allowed 4 (4 * number) (pushed top (number + 1)) moment.pages true (omega arith) here).0

  one_push : (number : ℕ) → number < total → run (check_push (pushed top number)) moment ≡ Ok (pushed top (number + 1), moment)
  one_push number within =
      let next : below (pushed top number) ≡ pushed top (number + 1) = omega (arith, within, few) in
      check_runs (pushed top number) (pushed top (number + 1)) moment next (each number within)

  saved_checked : (count number mask : ℕ) → number + registers_in count 0 mask ≤ total
      → run (check_registers count mask (pushed top number)) moment ≡ Ok (pushed top (number + registers_in count 0 mask), moment)
  unfolding check_registers
  saved_checked zero number mask room =
      let none : number ≡ number + 0 = omega arith in
      ap (λ (n : ℕ). Ok (pushed top n, moment)) none
  saved_checked (suc count) number mask room = by (λ at rest. saved_checked count at mask rest) (is_in_mask count mask) refl
    where
      more : registers_in (suc count) 0 mask ≡ registers_in count 0 mask + bit (is_in_mask count mask)
      more =
          let same : 0 + count ≡ count = omega arith in
          one_more count 0 mask ∙ ap (λ (n : ℕ). registers_in count 0 mask + bit (is_in_mask n mask)) same

      by : ((at : ℕ) → at + registers_in count 0 mask ≤ total → run (check_registers count mask (pushed top at)) moment ≡ Ok (pushed top (at + registers_in count 0 mask), moment))
          → (b : Bool) → is_in_mask count mask ≡ b
          → then_do (if b then run (check_push (pushed top number)) moment else run (pure (pushed top number)) moment) (λ next. run (check_registers count mask next))
          ≡ Ok (pushed top (number + registers_in (suc count) 0 mask), moment)
      by again true is =
          let all : registers_in (suc count) 0 mask ≡ registers_in count 0 mask + 1 = more ∙ ap (λ (b : Bool). registers_in count 0 mask + bit b) is in
          let within : number < total = omega (arith, all, room) in
          let rest : number + 1 + registers_in count 0 mask ≤ total = omega (arith, all, room) in
          let sum : number + 1 + registers_in count 0 mask ≡ number + registers_in (suc count) 0 mask = omega (arith, all) in
          ap (λ r. then_do r (λ next. run (check_registers count mask next))) (one_push number within)
          ∙ (again (number + 1) rest ∙ ap (λ (n : ℕ). Ok (pushed top n, moment)) sum)
      by again false is =
          let all : registers_in (suc count) 0 mask ≡ registers_in count 0 mask + 0 = more ∙ ap (λ (b : Bool). registers_in count 0 mask + bit b) is in
          let rest : number + registers_in count 0 mask ≤ total = omega (arith, all, room) in
          let sum : number + registers_in count 0 mask ≡ number + registers_in (suc count) 0 mask = omega (arith, all) in
          again number rest ∙ ap (λ (n : ℕ). Ok (pushed top n, moment)) sum

-- five longwords behind the saved registers
five_checked : (at : ℕ → ℕ) (mask top : ℕ) (moment : Moment) → run (check_registers 12 mask top) moment ≡ Ok (at 0, moment)
    → ((number : ℕ) → number < 5 → run (check_push (at number)) moment ≡ Ok (at (number + 1), moment)) → run (check_frame mask top) moment ≡ Ok (tt, moment)
unfolding check_frame
five_checked at mask top moment saved one =
    let first = one 0 (omega arith) in
    let second = one 1 (omega arith) in
    let third = one 2 (omega arith) in
    let fourth = one 3 (omega arith) in
    let fifth = one 4 (omega arith) in
    rw (saved, first, second, third, fourth, fifth) refl

pub frame_checked : (mask top : ℕ) (moment : Moment) → top < 2 ^ 32
    → first_bad moment.pages true ((top + (2 ^ 32 - 4 * (registers_in 12 0 mask + 5))) % 2 ^ 32) (4 * (registers_in 12 0 mask + 5)) ≡ None → run (check_frame mask top) moment ≡ Ok (tt, moment)
frame_checked mask top moment small may =
    five_checked (λ number. pushed top (saved + number)) mask top moment registers others
  where
    saved : ℕ
    saved = registers_in 12 0 mask

    few : saved + 5 ≤ 17
    few = omega (arith, few_registers 12 0 mask)

    registers : run (check_registers 12 mask top) moment ≡ Ok (pushed top (saved + 0), moment)
    registers =
        let none : top ≡ pushed top 0 = omega (arith, small) in
        let sum : 0 + saved ≡ saved + 0 = omega arith in
        ap (λ (t : ℕ). run (check_registers 12 mask t) moment) none
        ∙ (saved_checked top (saved + 5) moment few small may 12 0 mask (omega arith) ∙ ap (λ (n : ℕ). Ok (pushed top n, moment)) sum)

    others : (number : ℕ) → number < 5 → run (check_push (pushed top (saved + number))) moment ≡ Ok (pushed top (saved + (number + 1)), moment)
    others number within =
        let sum : saved + number + 1 ≡ saved + (number + 1) = omega arith in
        one_push top (saved + 5) moment few small may (saved + number) (omega (arith, within)) ∙ ap (λ (n : ℕ). Ok (pushed top n, moment)) sum
