-- What RET wants of an aligned frame.
use Rattle.std.proofs.Common.{◌≡◌, ℕ, suc, ◌+◌, ◌-◌, ◌*◌, ◌/◌, ◌%◌, ◌^◌, ◌<◌, ◌≤◌, ◌==◌, min, Bool, true, false, List, [], ◌∷◌, length, Err, None, eqb-true, refl, ap, sym, ◌∙◌, subst, arith}
use Rattle.std.specs.Prelude.{if◌then◌else◌}
use Rattle.std.proofs.lemmas.List.{length-set, get_or-set_same}
use Rattle.vax_form.specs.Pages.{first_bad}
use Rattle.vax_form.specs.Script.{Script, Moment, ◌>>=◌, ◌>>◌, change, run}
use Rattle.vax_form.specs.State.{register, with_register, with_psw, AP, FP, SP}
use Rattle.vax_form.specs.declared.pages.Pages.{Pages}
use Rattle.vax_form.specs.declared.script.End.{End}
use Rattle.vax_form.specs.declared.script.Stop.TheVariants.{Wants}
use Rattle.vt_words.specs.Values.{bit}
use Rattle.vax_meaning.specs.Codes.{go_to}
use Rattle.vax_meaning.specs.Memory.{low_bytes, read}
use Rattle.vax_long.specs.Calls.{leave, longwords_in, longwords_of, release_arguments, return_from_procedure, with_released}
use Rattle.vax_long.specs.Registers.{is_in_mask, pop, pop_register, pop_registers, registers_in}
use Rattle.vax_long.proofs.FramePages.{parts_allowed}
use Rattle.vax_long.proofs.Told.{IsAt, Wanting, Coming, first_wanting, then_wanting, none_wanting, at_once}
use Rattle.vax_long.proofs.Pops.{behind, longword_at, pops_from, pop_wanting, pop_coming, register_wanting, register_coming, registers_wanting, registers_coming}

-- what comes behind the saved registers, and behind SP
abbrev last : (status pc : ℕ) → Script End
last status pc = do
  change (with_released (status / 2 ^ 30))
  release_arguments (is_in_mask 29 status)
  change (with_psw (status % 2 ^ 16))
  go_to pc

abbrev behind_top : (status : ℕ) → Script End
behind_top status = do
  pop_register AP
  pop_register FP
  pc ← pop
  pop_registers 12 0 (status / 2 ^ 16)
  last status pc

abbrev longwords_left : (status : ℕ) → ℕ
longwords_left status = 1 + (1 + (1 + (registers_in 12 0 (status / 2 ^ 16) + bit (status / 2 ^ 29 == 1))))

module _ (pages : Pages) (top : ℕ) (small : top < 2 ^ 32) (aligned : top % 4 ≡ 0) where
  released_coming : (from bytes : ℕ) → bytes ≡ 0 → Coming (pops_from pages top) from 0 (change (with_released bytes))
  released_coming from bytes none = at_once (pops_from pages top) from (change (with_released bytes)) (λ moment here.
      let within : 14 < length moment.state.r = omega (arith, here.registers) in
      let same : (register SP moment.state + bytes) % 2 ^ 32 ≡ behind top from = omega (arith, here.stack, none) in (
        record {
          registers = length-set moment.state.r 14 ((register SP moment.state + bytes) % 2 ^ 32) ∙ here.registers;
          stack = get_or-set_same moment.state.r 14 ((register SP moment.state + bytes) % 2 ^ 32) 0 within ∙ same;
          over = here.over;
        },
        refl,
      ))

  arguments_wanting : (from : ℕ) (stack : Bool) → stack ≡ true → Wanting (pops_from pages top) from 1 (release_arguments stack)
  unfolding release_arguments
  arguments_wanting from true is = first_wanting (pops_from pages top) from 1 pop (λ count. change (with_released (count % 256 * 4))) (pop_wanting pages top aligned from)
  arguments_wanting from false is = absurd (cc is)

  last_wanting : (from status pc : ℕ) → Wanting (pops_from pages top) from (bit (status / 2 ^ 29 == 1)) (last status pc)
  last_wanting from status pc = by (status / 2 ^ 29 == 1) refl
    where
      by : (b : Bool) → (status / 2 ^ 29 == 1) ≡ b → Wanting (pops_from pages top) from (bit b) (last status pc)
      by false is = none_wanting (pops_from pages top) from (last status pc)
      by true is =
          let one : status / 2 ^ 29 ≡ 1 = eqb-true (status / 2 ^ 29) 1 is in
          let none : status / 2 ^ 30 ≡ 0 = omega (arith, one) in
          let stack : is_in_mask 29 status ≡ true = ap (λ (n : ℕ). n % 2 == 1) one in
          then_wanting (pops_from pages top) from 0 1 (change (with_released (status / 2 ^ 30))) (λ _. release_arguments (is_in_mask 29 status) >> (change (with_psw (status % 2 ^ 16)) >> go_to pc))
          (none_wanting (pops_from pages top) from (change (with_released (status / 2 ^ 30)))) (released_coming from (status / 2 ^ 30) none)
          (λ _. first_wanting (pops_from pages top) (from + 0) 1 (release_arguments (is_in_mask 29 status)) (λ _. change (with_psw (status % 2 ^ 16)) >> go_to pc)
          (arguments_wanting (from + 0) (is_in_mask 29 status) stack))

  top_wanting : (from status : ℕ) → Wanting (pops_from pages top) from (longwords_left status) (behind_top status)
  top_wanting from status =
      then_wanting (pops_from pages top) from 1 (1 + (1 + (saved + counted))) (pop_register AP) (λ _. pop_register FP >> (pop >>= others)) (register_wanting pages top aligned from AP) (register_coming pages top aligned from AP (omega arith)) (λ _.
      then_wanting (pops_from pages top) (from + 1) 1 (1 + (saved + counted)) (pop_register FP) (λ _. pop >>= others) (register_wanting pages top aligned (from + 1) FP) (register_coming pages top aligned (from + 1) FP (omega arith)) (λ _.
      then_wanting (pops_from pages top) (from + 1 + 1) 1 (saved + counted) pop others (pop_wanting pages top aligned (from + 1 + 1)) (pop_coming pages top aligned (from + 1 + 1)) (λ pc.
      then_wanting (pops_from pages top) (from + 1 + 1 + 1) saved counted (pop_registers 12 0 (status / 2 ^ 16)) (λ _. last status pc) (registers_wanting pages top aligned 12 0 (status / 2 ^ 16) (from + 1 + 1 + 1) (omega arith))
      (registers_coming pages top aligned 12 0 (status / 2 ^ 16) (from + 1 + 1 + 1) (omega arith)) (λ _. last_wanting (from + 1 + 1 + 1 + saved) status pc))))
    where
      saved : ℕ
      saved = registers_in 12 0 (status / 2 ^ 16)

      counted : ℕ
      counted = bit (status / 2 ^ 29 == 1)

      others : ℕ → Script End
      others pc = pop_registers 12 0 (status / 2 ^ 16) >> last status pc

abbrev status_of : (reply : ℕ) → ℕ
status_of reply = low_bytes 4 (low_bytes 4 reply)

frame_runs : (moment : Moment) (first reply : ℕ) (rest : List ℕ) → (register FP moment.state + 4) % 2 ^ 32 ≡ first → moment.replies ≡ reply ∷ rest → min 4 (8 - first % 8) ≡ 4
    → first_bad moment.pages false first 4 ≡ None → (status_of reply / 256 % 256 == 0) ≡ true
    → run return_from_procedure moment ≡ run (behind_top (status_of reply)) (record moment { state = with_register SP ((register FP moment.state + 8) % 2 ^ 32) moment.state; replies = rest })
unfolding return_from_procedure read leave
frame_runs moment first reply rest at is whole may user = rw (at, may, whole, is, user) refl

status_wanted : (moment : Moment) (first : ℕ) → (register FP moment.state + 4) % 2 ^ 32 ≡ first → moment.replies ≡ [] → min 4 (8 - first % 8) ≡ 4
    → first_bad moment.pages false first 4 ≡ None → run return_from_procedure moment ≡ Err (Wants (longword_at first), [])
unfolding return_from_procedure read
status_wanted moment first at is whole may = rw (at, may, whole, is) refl

four_within : (a : ℕ) → a % 4 ≡ 0 → min 4 (8 - a % 8) ≡ 4
four_within a e = omega (arith, e)

-- each longword of bytes that may be read
each_allowed : (pages : Pages) (first count number : ℕ) → first < 2 ^ 32 → number < count → first_bad pages false first (4 * count) ≡ None → first_bad pages false (behind first number) 4 ≡ None
each_allowed pages first count number small within may =
    let whole : 4 * count ≡ 4 * number + (4 + 4 * (count - (number + 1))) = omega (arith, within) in
    let behind_them = parts_allowed (4 * number) (4 + 4 * (count - (number + 1))) first pages false small (subst (λ (n : ℕ). first_bad pages false first n ≡ None) whole may) in
    (parts_allowed 4 (4 * (count - (number + 1))) (behind first number) pages false (omega arith) behind_them.1).0

-- behind the status
module _ (moment : Moment) (reply : ℕ) (rest : List ℕ) (first status : ℕ) (has : length moment.state.r ≡ 15) (is : moment.replies ≡ reply ∷ rest) (at : first ≡ (register FP moment.state + 4) % 2 ^ 32)
    (low : status ≡ low_bytes 4 reply) (user : (status / 256 % 256 == 0) ≡ true) (aligned : first % 4 ≡ 0) (few : length moment.replies < longwords_in status)
    (may : first_bad moment.pages false first (4 * (length moment.replies + 1)) ≡ None) where
  count : length moment.replies ≡ suc (length rest)
  count = ap length is

  small : first < 2 ^ 32
  small = omega (arith, at)

  same : status_of reply ≡ status
  same = omega (arith, low)

  abbrev behind_status : Moment
  behind_status = record moment { state = with_register SP ((register FP moment.state + 8) % 2 ^ 32) moment.state; replies = rest }

  each : (n : ℕ) → n ≤ length rest → first_bad moment.pages false (behind first (1 + n)) 4 ≡ None
  each n within = each_allowed moment.pages first (length moment.replies + 1) (1 + n) small (omega (arith, within, count)) may

  status_may : first_bad moment.pages false first 4 ≡ None
  status_may =
      let none : behind first 0 ≡ first = omega (arith, small) in
      subst (λ (a : ℕ). first_bad moment.pages false a 4 ≡ None) none (each_allowed moment.pages first (length moment.replies + 1) 0 small (omega arith) may)

  standing : IsAt moment.pages (behind first 1) behind_status
  standing =
      let there : (register FP moment.state + 8) % 2 ^ 32 ≡ behind first 1 = omega (arith, at) in
      let within : 14 < length moment.state.r = omega (arith, has) in
      record {
        registers = length-set moment.state.r 14 ((register FP moment.state + 8) % 2 ^ 32) ∙ has;
        stack = get_or-set_same moment.state.r 14 ((register FP moment.state + 8) % 2 ^ 32) 0 within ∙ there;
        over = refl;
      }

  fewer : length rest < longwords_left status
  fewer = omega (arith, few, count)

  others_wanted : run return_from_procedure moment ≡ Err (Wants (longword_at (behind first (length moment.replies))), [])
  others_wanted =
      let all : 1 + length rest ≡ length moment.replies = omega (arith, count) in
      frame_runs moment first reply rest (sym at) is (four_within first aligned) status_may (ap (λ (n : ℕ). n / 256 % 256 == 0) same ∙ user)
      ∙ (ap (λ (s : ℕ). run (behind_top s) behind_status) same
      ∙ (top_wanting moment.pages first small aligned 1 status behind_status standing fewer each
      ∙ ap (λ (n : ℕ). Err (Wants (longword_at (behind first n)), [])) all))

user_by : (b : Bool) (n few : ℕ) → few < (if b then n else 0) → (b ≡ true) × (few < n)
user_by true n few less = (refl, less)
user_by false n few less = absurd (omega (arith, less))

pub return_wants : (moment : Moment) (first : ℕ) → length moment.state.r ≡ 15 → first ≡ (register FP moment.state + 4) % 2 ^ 32 → first % 4 ≡ 0
    → length moment.replies < longwords_of moment.replies → first_bad moment.pages false first (4 * (length moment.replies + 1)) ≡ None
    → run return_from_procedure moment ≡ Err (Wants (longword_at (behind first (length moment.replies))), [])
return_wants moment first has at aligned few may = by moment.replies refl
  where
    by : (replies : List ℕ) → moment.replies ≡ replies → run return_from_procedure moment ≡ Err (Wants (longword_at (behind first (length moment.replies))), [])
    by [] is =
        let none : length moment.replies ≡ 0 = ap length is in
        let four : 4 * (length moment.replies + 1) ≡ 4 = omega (arith, none) in
        let here : first ≡ behind first (length moment.replies) = omega (arith, at, none) in
        status_wanted moment first (sym at) is (four_within first aligned) (subst (λ (n : ℕ). first_bad moment.pages false first n ≡ None) four may) ∙ ap (λ (a : ℕ). Err (Wants (longword_at a), [])) here
    by (reply ∷ rest) is =
        let less : length moment.replies < longwords_of (reply ∷ rest) = subst (λ (r : List ℕ). length moment.replies < longwords_of r) is few in
        let both = user_by (low_bytes 4 reply / 256 % 256 == 0) (longwords_in (low_bytes 4 reply)) (length moment.replies) less in
        others_wanted moment reply rest first (low_bytes 4 reply) has is at refl both.0 aligned both.1 may
