-- What a script pushes on an aligned stack.
use Rattle.std.proofs.Common.{◌≡◌, ℕ, zero, suc, ◌+◌, ◌-◌, ◌*◌, ◌%◌, ◌^◌, ◌<◌, ◌≤◌, min, Bool, true, false, List, [], ◌∷◌, length, Result, Ok, Err, refl, ap, sym, ◌∙◌, subst, arith}
use Rattle.std.specs.Prelude.{if◌then◌else◌, slice_index}
use Rattle.std.proofs.lemmas.List.{length-set, get_or-set_same, get_or_append_left, get_or-append-add}
use Rattle.vax_form.specs.Script.{Script, Moment, Halt, ◌>>◌, pure, run, when◌then◌else◌}
use Rattle.vax_form.specs.State.{register, with_register, AP, FP, SP}
use Rattle.vax_form.specs.declared.pages.Pages.{Pages}
use Rattle.vax_form.specs.declared.script.Stop.TheVariants.{Wants}
use Rattle.vax_form.specs.declared.state.Reference.{Reference}
use Rattle.vax_form.specs.declared.state.RefKind.TheVariants.{Write}
use Rattle.vax_form.specs.declared.state.VaxState.{VaxState}
use Rattle.vt_words.specs.Values.{bit}
use Rattle.vax_meaning.specs.Memory.{low_bytes, write}
use Rattle.vax_long.specs.Calls.{aligned, frame_status, frame_values, push_frame, saved_values}
use Rattle.vax_long.specs.Registers.{below, is_in_mask, push_checked, push_registers, registers_in}
use Rattle.vax_long.proofs.Counts.{one_more}
use Rattle.vax_long.proofs.Told.{IsAt, Comes, Course, Wanting, Coming, then_wanting, then_coming, none_wanting, nothing_coming}

-- so many longwords below an address
abbrev pub pushed : (top number : ℕ) → ℕ
pushed top number = (top + number * (2 ^ 32 - 4)) % 2 ^ 32

abbrev pub put_at : (address value : ℕ) → Reference
put_at address value = record { address = address; count = 4; kind = Write value }

abbrev pub written : (address value : ℕ) → Reference
written address value = put_at address (low_bytes 4 value)

-- the pushes of these values
abbrev pub pushes_from : Pages → (top : ℕ) → (values : List ℕ) → Course
pushes_from pages top values = record {
  pages = pages;
  at = pushed top;
  reference = λ n. written (pushed top (n + 1)) (slice_index values n);
  allowed = λ n. Unit {0};
}

abbrev push_made : (next value : ℕ) → Moment → List ℕ → Result (Unit {0} × Moment) Halt
push_made next value moment [] = Err (Wants (written next value), [])
push_made next value moment (reply ∷ rest) = Ok (tt, record moment { state = with_register SP next moment.state; replies = rest })

push_runs : (next value : ℕ) (moment : Moment) (replies : List ℕ) → below (register SP moment.state) ≡ next → moment.replies ≡ replies → min 4 (8 - next % 8) ≡ 4
    → run (push_checked value) moment ≡ push_made next value moment replies
unfolding push_checked write
push_runs next value moment [] at is whole = rw (at, whole, is) refl
push_runs next value moment (reply ∷ rest) at is whole = rw (at, whole, is) refl

length_of : (number mask : ℕ) (state : VaxState) → length (saved_values number mask state) ≡ registers_in number 0 mask
length_of zero mask state = refl
length_of (suc number) mask state = by (length_of number mask state) (is_in_mask number mask) refl
  where
    more : registers_in (suc number) 0 mask ≡ registers_in number 0 mask + bit (is_in_mask number mask)
    more =
        let same : 0 + number ≡ number = omega arith in
        one_more number 0 mask ∙ ap (λ (n : ℕ). registers_in number 0 mask + bit (is_in_mask n mask)) same

    by : length (saved_values number mask state) ≡ registers_in number 0 mask → (b : Bool) → is_in_mask number mask ≡ b → length (if b then register number state ∷ saved_values number mask state else saved_values number mask state) ≡ registers_in (suc number) 0 mask
    by others true is =
        let all : registers_in (suc number) 0 mask ≡ registers_in number 0 mask + 1 = more ∙ ap (λ (b : Bool). registers_in number 0 mask + bit b) is in
        omega (arith, all, others)
    by others false is =
        let all : registers_in (suc number) 0 mask ≡ registers_in number 0 mask + 0 = more ∙ ap (λ (b : Bool). registers_in number 0 mask + bit b) is in
        omega (arith, all, others)

pub saved_few : (mask : ℕ) (state : VaxState) → length (saved_values 12 mask state) ≡ registers_in 12 0 mask
saved_few mask state = length_of 12 mask state

pub saved_place : (pc : ℕ) (stack : Bool) (mask place : ℕ) (state : VaxState) → place < registers_in 12 0 mask
    → slice_index (frame_values pc stack mask state) place ≡ slice_index (saved_values 12 mask state) place
saved_place pc stack mask place state within =
    get_or_append_left (saved_values 12 mask state) (pc ∷ register FP state ∷ register AP state ∷ frame_status (register SP state % 4) stack mask state.psw ∷ 0 ∷ []) 0 place (omega (arith, within, saved_few mask state))

pub other_place : (pc : ℕ) (stack : Bool) (mask place : ℕ) (state : VaxState)
    → slice_index (frame_values pc stack mask state) (registers_in 12 0 mask + place) ≡ slice_index (pc ∷ register FP state ∷ register AP state ∷ frame_status (register SP state % 4) stack mask state.psw ∷ 0 ∷ []) place
other_place pc stack mask place state =
    let there : registers_in 12 0 mask + place ≡ length (saved_values 12 mask state) + place = omega (arith, saved_few mask state) in
    ap (λ (n : ℕ). slice_index (frame_values pc stack mask state) n) there
    ∙ get_or-append-add (saved_values 12 mask state) (pc ∷ register FP state ∷ register AP state ∷ frame_status (register SP state % 4) stack mask state.psw ∷ 0 ∷ []) place 0

none_first : (n : ℕ) → 0 + n ≡ n
none_first n = omega arith

module _ (pages : Pages) (top : ℕ) (aligned_top : top % 4 ≡ 0) (values : List ℕ) where
  whole_at : (n : ℕ) → min 4 (8 - pushed top n % 8) ≡ 4
  whole_at n = omega (arith, aligned_top)

  next_at : (sp from : ℕ) → sp ≡ pushed top from → below sp ≡ pushed top (from + 1)
  next_at sp from at = omega (arith, at)

  push_wanting : (from value : ℕ) → slice_index values from ≡ value → Wanting (pushes_from pages top values) from 1 (push_checked value)
  push_wanting from value same moment here few may = by moment.replies refl
    where
      by : (replies : List ℕ) → moment.replies ≡ replies
          → run (push_checked value) moment ≡ Err (Wants (written (pushed top (from + length moment.replies + 1)) (slice_index values (from + length moment.replies))), [])
      by [] is =
          let none : from ≡ from + length moment.replies = omega (arith, ap length is) in
          push_runs (pushed top (from + 1)) value moment [] (next_at (register SP moment.state) from here.stack) is (whole_at (from + 1))
          ∙ (ap (λ (v : ℕ). Err (Wants (written (pushed top (from + 1)) v), [])) (sym same)
          ∙ ap (λ (n : ℕ). Err (Wants (written (pushed top (n + 1)) (slice_index values n)), [])) none)
      by (reply ∷ rest) is =
          let some : length moment.replies ≡ suc (length rest) = ap length is in
          absurd (omega (arith, some, few))

  push_coming : (from value : ℕ) → Coming (pushes_from pages top values) from 1 (push_checked value)
  push_coming from value moment here enough may = by moment.replies refl
    where
      by : (replies : List ℕ) → moment.replies ≡ replies → Comes pages (pushed top (from + 1)) (length moment.replies - 1) (run (push_checked value) moment)
      by [] is =
          let none : length moment.replies ≡ 0 = ap length is in
          absurd (omega (arith, none, enough))
      by (reply ∷ rest) is =
          let some : length moment.replies ≡ suc (length rest) = ap length is in
          let left : length rest ≡ length moment.replies - 1 = omega (arith, some) in
          let within : 14 < length moment.state.r = omega (arith, here.registers) in
          subst (λ r. Comes pages (pushed top (from + 1)) (length moment.replies - 1) r)
          (sym (push_runs (pushed top (from + 1)) value moment (reply ∷ rest) (next_at (register SP moment.state) from here.stack) is (whole_at (from + 1)))) (
            record {
              registers = length-set moment.state.r 14 (pushed top (from + 1)) ∙ here.registers;
              stack = get_or-set_same moment.state.r 14 (pushed top (from + 1)) 0 within;
              over = here.over;
            },
            left,
          )

  choice_wanting : (b : Bool) (from value : ℕ) → (b ≡ true → slice_index values from ≡ value) → Wanting (pushes_from pages top values) from (bit b) (when b then push_checked value else pure tt)
  choice_wanting true from value same = push_wanting from value (same refl)
  choice_wanting false from value same = none_wanting (pushes_from pages top values) from (pure tt)

  choice_coming : (b : Bool) (from value : ℕ) → Coming (pushes_from pages top values) from (bit b) (when b then push_checked value else pure tt)
  choice_coming true from value = push_coming from value
  choice_coming false from value = nothing_coming (pushes_from pages top values) from

  sum_of : (count mask : ℕ) → bit (is_in_mask count mask) + registers_in count 0 mask ≡ registers_in (suc count) 0 mask
  sum_of count mask =
      let same : 0 + count ≡ count = omega arith in
      omega (arith, one_more count 0 mask, ap (λ (n : ℕ). bit (is_in_mask n mask)) same)

  saved_coming : (count mask from : ℕ) (state : VaxState) → Coming (pushes_from pages top values) from (registers_in count 0 mask) (push_registers count mask state)
  unfolding push_registers
  saved_coming zero mask from state = nothing_coming (pushes_from pages top values) from
  saved_coming (suc count) mask from state =
      subst (λ (n : ℕ). Coming (pushes_from pages top values) from n (push_registers (suc count) mask state)) (sum_of count mask)
      (then_coming (pushes_from pages top values) from (bit (is_in_mask count mask)) (registers_in count 0 mask) (when is_in_mask count mask then push_checked (register count state) else pure tt) (λ _. push_registers count mask state)
      (choice_coming (is_in_mask count mask) from (register count state)) (λ _. saved_coming count mask (from + bit (is_in_mask count mask)) state))

  -- the values of the saved registers stand there
  abbrev Stand : (count mask from : ℕ) → VaxState → Type 0
  Stand count mask from state = (n : ℕ) → n < registers_in count 0 mask → slice_index values (from + n) ≡ slice_index (saved_values count mask state) n

  first_stands : (b : Bool) (value from : ℕ) (rest : List ℕ) → ((n : ℕ) → n < bit b + length rest → slice_index values (from + n) ≡ slice_index (if b then value ∷ rest else rest) n)
      → (b ≡ true → slice_index values from ≡ value) × ((n : ℕ) → n < length rest → slice_index values (from + bit b + n) ≡ slice_index rest n)
  first_stands true value from rest each =
      let none : from ≡ from + 0 = omega arith in (
        λ is. ap (λ (n : ℕ). slice_index values n) none ∙ each 0 (omega arith),
        λ n within.
            let next : from + 1 + n ≡ from + suc n = omega arith in
            ap (λ (k : ℕ). slice_index values k) next ∙ each (suc n) (omega (arith, within)),
      )
  first_stands false value from rest each = (
    λ is. absurd (cc is),
    λ n within.
        let next : from + 0 + n ≡ from + n = omega arith in
        ap (λ (k : ℕ). slice_index values k) next ∙ each n (omega (arith, within)),
  )

  stands_on : (count mask from : ℕ) (state : VaxState) → Stand (suc count) mask from state
      → (is_in_mask count mask ≡ true → slice_index values from ≡ register count state) × Stand count mask (from + bit (is_in_mask count mask)) state
  stands_on count mask from state each =
      let long : length (saved_values count mask state) ≡ registers_in count 0 mask = length_of count mask state in
      let both = first_stands (is_in_mask count mask) (register count state) from (saved_values count mask state) (λ n within. each n (omega (arith, within, long, sum_of count mask))) in
      (both.0, λ n within. both.1 n (omega (arith, within, long)))

  saved_wanting : (count mask from : ℕ) (state : VaxState) → Stand count mask from state → Wanting (pushes_from pages top values) from (registers_in count 0 mask) (push_registers count mask state)
  unfolding push_registers
  saved_wanting zero mask from state each = none_wanting (pushes_from pages top values) from (pure tt)
  saved_wanting (suc count) mask from state each =
      let on = stands_on count mask from state each in
      subst (λ (n : ℕ). Wanting (pushes_from pages top values) from n (push_registers (suc count) mask state)) (sum_of count mask)
      (then_wanting (pushes_from pages top values) from (bit (is_in_mask count mask)) (registers_in count 0 mask) (when is_in_mask count mask then push_checked (register count state) else pure tt) (λ _. push_registers count mask state)
      (choice_wanting (is_in_mask count mask) from (register count state) on.0) (choice_coming (is_in_mask count mask) from (register count state)) (λ _. saved_wanting count mask (from + bit (is_in_mask count mask)) state on.1))

-- a frame's pushes behind its alignment
abbrev frame_pushes : (pc : ℕ) → (stack : Bool) → (mask : ℕ) → VaxState → Script (Unit {0})
frame_pushes pc stack mask state = do
  push_registers 12 mask state
  push_checked pc
  push_checked (register FP state)
  push_checked (register AP state)
  push_checked (frame_status (register SP state % 4) stack mask state.psw)
  push_checked 0

-- behind the last of them nothing stands, and the last is 0
past_others : (a b c d rest : ℕ) → slice_index (a ∷ b ∷ c ∷ d ∷ 0 ∷ []) (suc (suc (suc (suc rest)))) ≡ 0
past_others a b c d zero = refl
past_others a b c d (suc rest) = refl

pub last_place : (pc : ℕ) (stack : Bool) (mask place : ℕ) (state : VaxState) → 4 ≤ place → slice_index (frame_values pc stack mask state) (registers_in 12 0 mask + place) ≡ 0
last_place pc stack mask place state past =
    let is : place ≡ suc (suc (suc (suc (place - 4)))) = omega (arith, past) in
    other_place pc stack mask place state
    ∙ (ap (λ (n : ℕ). slice_index (pc ∷ register FP state ∷ register AP state ∷ frame_status (register SP state % 4) stack mask state.psw ∷ 0 ∷ []) n) is
    ∙ past_others pc (register FP state) (register AP state) (frame_status (register SP state % 4) stack mask state.psw) (place - 4))

module _ (pages : Pages) (top : ℕ) (aligned_top : top % 4 ≡ 0) (pc : ℕ) (stack : Bool) (mask : ℕ) (state : VaxState) where
  abbrev values : List ℕ
  values = frame_values pc stack mask state

  abbrev saved : ℕ
  saved = registers_in 12 0 mask

  at_place : (place : ℕ) → slice_index values (saved + place) ≡ slice_index (pc ∷ register FP state ∷ register AP state ∷ frame_status (register SP state % 4) stack mask state.psw ∷ 0 ∷ []) place
  at_place place = other_place pc stack mask place state

  all_wanting : Wanting (pushes_from pages top values) 0 (saved + (1 + (1 + (1 + (1 + 1))))) (frame_pushes pc stack mask state)
  all_wanting =
      then_wanting course 0 saved (1 + (1 + (1 + (1 + 1)))) (push_registers 12 mask state) (λ _. push_checked pc >> (push_checked (register FP state) >> (push_checked (register AP state) >> (push_checked status >> push_checked 0))))
      (saved_wanting pages top aligned_top values 12 mask 0 state (λ n within. ap (λ (k : ℕ). slice_index values k) (none_first n) ∙ saved_place pc stack mask n state within)) (saved_coming pages top aligned_top values 12 mask 0 state) (λ _.
      then_wanting course (0 + saved) 1 (1 + (1 + (1 + 1))) (push_checked pc) (λ _. push_checked (register FP state) >> (push_checked (register AP state) >> (push_checked status >> push_checked 0)))
      (one (0 + saved) pc (at_place_is 0 (0 + saved) (omega arith))) (push_coming pages top aligned_top values (0 + saved) pc) (λ _.
      then_wanting course (0 + saved + 1) 1 (1 + (1 + 1)) (push_checked (register FP state)) (λ _. push_checked (register AP state) >> (push_checked status >> push_checked 0))
      (one (0 + saved + 1) (register FP state) (at_place_is 1 (0 + saved + 1) (omega arith))) (push_coming pages top aligned_top values (0 + saved + 1) (register FP state)) (λ _.
      then_wanting course (0 + saved + 1 + 1) 1 (1 + 1) (push_checked (register AP state)) (λ _. push_checked status >> push_checked 0)
      (one (0 + saved + 1 + 1) (register AP state) (at_place_is 2 (0 + saved + 1 + 1) (omega arith))) (push_coming pages top aligned_top values (0 + saved + 1 + 1) (register AP state)) (λ _.
      then_wanting course (0 + saved + 1 + 1 + 1) 1 1 (push_checked status) (λ _. push_checked 0)
      (one (0 + saved + 1 + 1 + 1) status (at_place_is 3 (0 + saved + 1 + 1 + 1) (omega arith))) (push_coming pages top aligned_top values (0 + saved + 1 + 1 + 1) status)
      (λ _. one (0 + saved + 1 + 1 + 1 + 1) 0 (at_place_is 4 (0 + saved + 1 + 1 + 1 + 1) (omega arith)))))))
    where
      course : Course
      course = pushes_from pages top values

      status : ℕ
      status = frame_status (register SP state % 4) stack mask state.psw

      one : (from value : ℕ) → slice_index values from ≡ value → Wanting course from 1 (push_checked value)
      one from value same = push_wanting pages top aligned_top values from value same

      at_place_is : (place from : ℕ) → from ≡ saved + place → slice_index values from ≡ slice_index (pc ∷ register FP state ∷ register AP state ∷ status ∷ 0 ∷ []) place
      at_place_is place from is = ap (λ (n : ℕ). slice_index values n) is ∙ at_place place

frame_runs : (pc : ℕ) (stack : Bool) (mask : ℕ) (moment : Moment)
    → run (push_frame pc stack mask) moment ≡ run (frame_pushes pc stack mask moment.state) (record moment { state = with_register SP (aligned (register SP moment.state)) moment.state })
unfolding push_frame
frame_runs pc stack mask moment = refl

-- the push of a frame that has no reply
pub push_wanted : (pc : ℕ) (stack : Bool) (mask : ℕ) (moment : Moment) → length moment.state.r ≡ 15 → register SP moment.state < 2 ^ 32 → length moment.replies < registers_in 12 0 mask + 5
    → run (push_frame pc stack mask) moment
    ≡ Err (Wants (written (pushed (aligned (register SP moment.state)) (length moment.replies + 1)) (slice_index (frame_values pc stack mask moment.state) (length moment.replies))), [])
push_wanted pc stack mask moment has small few =
    let top : ℕ = aligned (register SP moment.state) in
    let within : 14 < length moment.state.r = omega (arith, has) in
    let even : top % 4 ≡ 0 = omega arith in
    let there : top ≡ pushed top 0 = omega (arith, small) in
    let standing : IsAt moment.pages (pushed top 0) (record moment { state = with_register SP top moment.state }) = record {
      registers = length-set moment.state.r 14 top ∙ has;
      stack = get_or-set_same moment.state.r 14 top 0 within ∙ there;
      over = refl;
    } in
    frame_runs pc stack mask moment ∙ all_wanting moment.pages top even pc stack mask moment.state (record moment { state = with_register SP top moment.state }) standing (omega (arith, few)) (λ n below. tt)
    ∙ ap (λ (n : ℕ). Err (Wants (written (pushed top (n + 1)) (slice_index (frame_values pc stack mask moment.state) n)), [])) (none_first (length moment.replies))
