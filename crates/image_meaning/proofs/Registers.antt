-- Lists of registers on the stack: each push goes to a place that was checked.
use Rattle.std.proofs.Common.{◌≡◌, ℕ, zero, suc, ◌+◌, ◌-◌, ◌%◌, ◌^◌, Bool, true, false, arith, List, refl, ap, ◌∙◌, subst, sym}
use Rattle.std.specs.Prelude.{if◌then◌else◌}
use Rattle.std.proofs.lemmas.List.{get_or-set_same}
use Rattle.vax_form.specs.State.{IsState, register, with_register}
use Rattle.vax_form.specs.Script.{Script, pure, choose, bind}
use Rattle.vax_form.specs.Tree.{Tree, tree_of}
use Rattle.vax_form.specs.declared.instr.Size.TheVariants.{Word}
use Rattle.vax_form.specs.declared.instr.Instr.{Instr}
use Rattle.vax_form.specs.declared.state.VaxState.{VaxState}
use Rattle.vax_meaning.specs.declared.evaluation.Evaluated.{Evaluated}
use Rattle.vax_meaning.specs.Codes.{go_to}
use Rattle.vax_meaning.specs.Evaluation.{value_of_place}
use Rattle.vax_long.specs.Registers.{is_in_mask, below, check_push, check_registers, push_checked, push_registers, pop_checked, pop, pop_register, pop_registers, push_by_mask, pop_by_mask}
use Rattle.vax_form.specs.declared.pages.Pages.{Pages}
use Rattle.image_meaning.proofs.Ranged.{Ranged, ranged_anywhere}
use Rattle.image_meaning.proofs.Allowed.{Allows}
use Rattle.image_meaning.proofs.Keeping.{Keeps, Any, keep_pure, keep_bind, keep_then, keep_either, stay_check_read, stay_check_write}
use Rattle.image_meaning.proofs.States.{IsLongword, low_longword, register_is, with_register_is}
use Rattle.image_meaning.proofs.Memory.{stay_read, stay_write}
use Rattle.image_meaning.proofs.Operands.{keep_set_register}
use Rattle.image_meaning.proofs.Codes.{FitsInstr, keep_go_to}

pub below_is : (top : ℕ) → IsLongword (below top)
below_is top = low_longword (top + (2 ^ 32 - 4))

-- ---- checks

-- the longword below a top of the stack may be written
abbrev pub CanPush : Pages → (top : ℕ) → Type 0
CanPush pages top = Allows pages true (below top) 4

-- the script checks what a fact says, gives a value, and leaves the state
pub record Checks {A : Type 0} (pages : Pages) (F : Type 0) (value : A) (script : Script A) : Type 0 where
  pub checks : (state : VaxState) (rest : A → VaxState → Tree) → (F → Ranged pages false (rest value state)) → Ranged pages false (tree_of pages script state rest)

pub check_pure : {pages : Pages} {A : Type 0} {F : Type 0} {value : A} → F → Checks pages F value (pure value)
check_pure {value = value} holds = record { checks = λ state rest onward. onward holds }

pub check_then : {pages : Pages} {A B : Type 0} {F G : Type 0} {value : A} {next : B} {m : Script A} {f : A → Script B}
    → Checks pages F value m → Checks pages G next (f value) → Checks pages (F × G) next (bind m f)
check_then {pages = pages} {f = f} first second = record {
  checks = λ state rest onward.
      first.checks state (λ x after. tree_of pages (f x) after rest) (λ holds. second.checks state rest (λ still. onward (holds, still)));
}

pub check_push_checks : {pages : Pages} (top : ℕ) → Checks pages (CanPush pages top) (below top) (check_push top)
unfolding check_push
check_push_checks top = record {
  checks = λ state rest onward. (stay_check_write (below top) 4 (below_is top)).stays state (λ _ after. rest (below top) after) (λ _ all. onward all);
}

-- the top behind a push where there is one
abbrev pub pushed : Bool → (top : ℕ) → ℕ
pushed chosen top = if chosen then below top else top

-- the top behind the pushes of the registers below that number by a mask
abbrev pub lowered : (number mask top : ℕ) → ℕ
lowered zero mask top = top
lowered (suc number) mask top = lowered number mask (pushed (is_in_mask number mask) top)

-- each of their places may be written
abbrev pub CanPushAll : Pages → (number mask top : ℕ) → Type 0
CanPushAll pages zero mask top = Unit {0}
CanPushAll pages (suc number) mask top =
    (is_in_mask number mask ≡ true → CanPush pages top) × CanPushAll pages number mask (pushed (is_in_mask number mask) top)

choice_checks : {pages : Pages} (chosen : Bool) (top : ℕ) → Checks pages (chosen ≡ true → CanPush pages top) (pushed chosen top) (choose chosen (check_push top) (pure top))
choice_checks true top = record { checks = λ state rest onward. (check_push_checks top).checks state rest (λ can. onward (λ _. can)) }
choice_checks false top = record { checks = λ state rest onward. onward (λ chosen. absurd cc) }

pub check_registers_checks : {pages : Pages} (number mask top : ℕ) → Checks pages (CanPushAll pages number mask top) (lowered number mask top) (check_registers number mask top)
unfolding check_registers
check_registers_checks zero mask top = check_pure tt
check_registers_checks (suc number) mask top =
    check_then (choice_checks (is_in_mask number mask) top) (check_registers_checks number mask (pushed (is_in_mask number mask) top))

-- ---- pushes

-- from the states with that top of the stack the script writes, and leaves a state with the other top
pub record Pushes (pages : Pages) (from : Bool) (top next : ℕ) (script : Script (Unit {0})) : Type 0 where
  pub pushes : (state : VaxState) (rest : Unit {0} → VaxState → Tree) → IsState state → register 14 state ≡ top
      → ((after : VaxState) → IsState after → register 14 after ≡ next → Ranged pages true (rest tt after))
      → Ranged pages from (tree_of pages script state rest)

pub push_then : {pages : Pages} {from : Bool} {top mid next : ℕ} {m n : Script (Unit {0})}
    → Pushes pages from top mid m → Pushes pages true mid next n → Pushes pages from top next (bind m (λ _. n))
push_then {pages = pages} {n = n} first second = record {
  pushes = λ state rest is at onward.
      first.pushes state (λ _ after. tree_of pages n after rest) is at (λ after still behind. second.pushes after rest still behind onward);
}

-- the stack pointer as it was set
pub top_set : (top : ℕ) (state : VaxState) → IsState state → register 14 (with_register 14 top state) ≡ top
top_set top state is = get_or-set_same state.r 14 top 0 (omega (arith, is.registers))

pub push_from : (pages : Pages) (w : Bool) (value : ℕ) (state : VaxState) (rest : Unit {0} → VaxState → Tree) → IsState state → CanPush pages (register 14 state)
    → ((after : VaxState) → IsState after → register 14 after ≡ below (register 14 state) → Ranged pages true (rest tt after))
    → Ranged pages w (tree_of pages (push_checked value) state rest)
unfolding push_checked
push_from pages w value state rest is can onward =
    let top = below (register 14 state) in
    (stay_write top 4 value (below_is (register 14 state)) (omega arith) (omega arith) can).stays state (λ _ after. rest tt (with_register 14 top after))
    (λ _ _. onward (with_register 14 top state) (with_register_is 14 top state (below_is (register 14 state)) is) (top_set top state is))

pub push_checked_pushes : {pages : Pages} {w : Bool} (value top : ℕ) → CanPush pages top → Pushes pages w top (below top) (push_checked value)
push_checked_pushes {pages = pages} {w = w} value top can = record {
  pushes = λ state rest is at onward.
      push_from pages w value state rest is (subst (CanPush pages) (sym at) can) (λ after still behind. onward after still (behind ∙ ap below at));
}

choice_pushes : {pages : Pages} {w : Bool} (chosen : Bool) (value top : ℕ) → (chosen ≡ true → CanPush pages top)
    → Pushes pages w top (pushed chosen top) (choose chosen (push_checked value) (pure tt))
choice_pushes true value top can = record { pushes = λ state rest is at onward. (push_checked_pushes value top (can refl)).pushes state rest is at onward }
choice_pushes {pages = pages} {w = w} false value top can = record {
  pushes = λ state rest is at onward. ranged_anywhere w pages (rest tt state) (onward state is at);
}

pub push_registers_pushes : {pages : Pages} {w : Bool} (number mask top : ℕ) (values : VaxState) → CanPushAll pages number mask top
    → Pushes pages w top (lowered number mask top) (push_registers number mask values)
unfolding push_registers
push_registers_pushes {pages = pages} {w = w} zero mask top values can = record {
  pushes = λ state rest is at onward. ranged_anywhere w pages (rest tt state) (onward state is at);
}
push_registers_pushes (suc number) mask top values can =
    push_then (choice_pushes (is_in_mask number mask) (register number values) top can.0)
    (push_registers_pushes number mask (pushed (is_in_mask number mask) top) values can.1)

-- ---- pops

-- pops a longword that may be read
pub pop_from : (pages : Pages) (w : Bool) (state : VaxState) (rest : ℕ → VaxState → Tree) → IsState state → Allows pages false (register 14 state) 4
    → ((value : ℕ) (after : VaxState) → IsLongword value → IsState after → register 14 after ≡ (register 14 state + 4) % 2 ^ 32 → Ranged pages w (rest value after))
    → Ranged pages w (tree_of pages pop_checked state rest)
unfolding pop_checked
pop_from pages w state rest is can onward =
    let top = (register 14 state + 4) % 2 ^ 32 in
    let small : IsLongword top = low_longword (register 14 state + 4) in
    (stay_read (register 14 state) 4 (register_is 14 state is) (omega arith) (omega arith) can).stays state
    (λ value after. rest (value % 2 ^ 32) (with_register 14 top after))
    (λ value _. onward (value % 2 ^ 32) (with_register 14 top state) (low_longword value) (with_register_is 14 top state small is) (top_set top state is))

pub keep_pop : {pages : Pages} {w : Bool} → Keeps pages w w IsLongword pop
unfolding pop
keep_pop {pages = pages} {w = w} = record {
  keeps = λ state rest is onward.
      (stay_check_read (register 14 state) 4 (register_is 14 state is)).stays state (λ _ after. tree_of pages pop_checked after rest) (λ _ can.
      pop_from pages w state rest is can (λ value after small still _. onward value after small still));
}

pub keep_pop_register : {pages : Pages} {w : Bool} (number : ℕ) → Keeps pages w w Any (pop_register number)
unfolding pop_register
keep_pop_register number = keep_bind keep_pop (λ value is. keep_set_register number value is)

pub keep_pop_registers : {pages : Pages} {w : Bool} (count number mask : ℕ) → Keeps pages w w Any (pop_registers count number mask)
unfolding pop_registers
keep_pop_registers zero number mask = keep_pure tt
keep_pop_registers (suc count) number mask =
    keep_then (keep_either (keep_pop_register number) (keep_pure tt)) (keep_pop_registers count (number + 1) mask)

pub keep_push_by_mask : {pages : Pages} (instr : Instr) (values : List Evaluated) → FitsInstr instr → Keeps pages false true Any (push_by_mask instr values)
unfolding push_by_mask
keep_push_by_mask {pages = pages} instr values fits =
    let mask = value_of_place values 0 Word in
    record {
      keeps = λ state rest is onward.
          let pushes = λ (after : VaxState). tree_of pages (bind (push_registers 15 mask state) (λ _. go_to instr.after)) after rest in
          (check_registers_checks 15 mask (register 14 state)).checks state (λ _ after. pushes after) (λ can.
          (push_registers_pushes 15 mask (register 14 state) state can).pushes state (λ _ after. tree_of pages (go_to instr.after) after rest) is refl (λ after still _.
          (keep_go_to instr.after fits.after).keeps after rest still onward));
    }

pub keep_pop_by_mask : {pages : Pages} {w : Bool} (instr : Instr) (values : List Evaluated) → FitsInstr instr → Keeps pages w w Any (pop_by_mask instr values)
unfolding pop_by_mask
keep_pop_by_mask instr values fits = keep_then (keep_pop_registers 15 0 (value_of_place values 0 Word)) (keep_go_to instr.after fits.after)
