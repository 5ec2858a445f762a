-- Scripts that keep to states and to references that memory can make: one rule for each constructor.
use Rattle.std.proofs.Common.{◌≡◌, ℕ, Bool, true, false, Option, Some, None, refl}
use Rattle.std.specs.Prelude.{◌||◌}
use Rattle.vax_form.specs.Pages.{code_byte_at}
use Rattle.vax_form.specs.Ranges.{is_write, FitsPage, IsFault}
use Rattle.vax_form.specs.State.{IsState, Answers}
use Rattle.vax_form.specs.Script.{Script, pure, bind, choose, ask, check_bytes, read_code, fail, get, change}
use Rattle.vax_form.specs.Tree.{Tree, tree_of, code_or_fault, ends_with, instruction_tree}
use Rattle.vax_form.specs.declared.pages.Pages.{Pages}
use Rattle.vax_form.specs.declared.state.VaxState.{VaxState}
use Rattle.vax_form.specs.declared.state.Reference.{Reference}
use Rattle.vax_form.specs.declared.state.Exception.{Exception}
use Rattle.vax_form.specs.declared.script.End.{End}
use Rattle.vax_form.specs.declared.script.End.TheVariants.{Done, Exits, Traps}
use Rattle.image_meaning.proofs.Ranged.{Ranged, ranged_anywhere}
use Rattle.image_meaning.proofs.Allowed.{Allows, all_allowed}
use Rattle.image_meaning.proofs.States.{IsLongword}

-- of any value
abbrev pub Any : {A : Type 0} → A → Type 0
Any x = Unit {0}

-- From each state the script gives such a value in a state: its tree is ranged where what comes behind it is. The flags
-- say whether something was written before it and behind it.
pub record Keeps {A : Type 0} (pages : Pages) (from to : Bool) (Q : A → Type 0) (script : Script A) : Type 0 where
  pub keeps : (state : VaxState) (rest : A → VaxState → Tree) → IsState state
      → ((x : A) (after : VaxState) → Q x → IsState after → Ranged pages to (rest x after))
      → Ranged pages from (tree_of pages script state rest)

-- from each state the script gives such a value, and leaves the state as it is
pub record Stays {A : Type 0} (pages : Pages) (from to : Bool) (Q : A → Type 0) (script : Script A) : Type 0 where
  pub stays : (state : VaxState) (rest : A → VaxState → Tree) → ((x : A) → Q x → Ranged pages to (rest x state))
      → Ranged pages from (tree_of pages script state rest)

pub kept : {pages : Pages} {from to : Bool} {A : Type 0} {Q : A → Type 0} {m : Script A} → Stays pages from to Q m → Keeps pages from to Q m
kept still = record { keeps = λ state rest is onward. still.stays state rest (λ x holds. onward x state holds is) }

-- ---- scripts that leave the state

pub stay_pure : {pages : Pages} {w : Bool} {A : Type 0} {Q : A → Type 0} {x : A} → Q x → Stays pages w w Q (pure x)
stay_pure {x = x} holds = record { stays = λ state rest onward. onward x holds }

pub stay_bind : {pages : Pages} {from mid to : Bool} {A B : Type 0} {P : A → Type 0} {Q : B → Type 0} {m : Script A} {f : A → Script B}
    → Stays pages from mid P m → ((x : A) → P x → Stays pages mid to Q (f x)) → Stays pages from to Q (bind m f)
stay_bind {pages = pages} {f = f} first each = record {
  stays = λ state rest onward. first.stays state (λ x after. tree_of pages (f x) after rest) (λ x holds. (each x holds).stays state rest onward);
}

pub stay_choice : {pages : Pages} {from to : Bool} {A : Type 0} {Q : A → Type 0} {b : Bool} {m n : Script A}
    → (b ≡ true → Stays pages from to Q m) → (b ≡ false → Stays pages from to Q n) → Stays pages from to Q (choose b m n)
stay_choice {b = true} first second = record { stays = λ state rest onward. (first refl).stays state rest onward }
stay_choice {b = false} first second = record { stays = λ state rest onward. (second refl).stays state rest onward }

pub stay_ask : {pages : Pages} {w : Bool} {Q : ℕ → Type 0} {reference : Reference} → FitsPage pages reference → ((reply : ℕ) → Answers reference reply → Q reply)
    → Stays pages w (is_write reference.kind || w) Q (ask reference)
stay_ask fits answers = record { stays = λ state rest onward. (fits, λ reply answer. onward reply (answers reply answer)) }

-- the bytes that were checked may be used
pub stay_check_read : {pages : Pages} {w : Bool} (address count : ℕ) → IsLongword address → Stays pages w w (λ _. Allows pages false address count) (check_bytes address count false)
stay_check_read {pages = pages} address count small = record {
  stays = λ state rest onward. (λ wrote. refl, λ holds. onward tt (all_allowed pages false address count small holds));
}

pub stay_check_write : {pages : Pages} (address count : ℕ) → IsLongword address → Stays pages false false (λ _. Allows pages true address count) (check_bytes address count true)
stay_check_write {pages = pages} address count small = record {
  stays = λ state rest onward. (λ wrote. absurd cc, λ holds. onward tt (all_allowed pages true address count small holds));
}

code_stays : (pages : Pages) (w : Bool) (byte : Option ℕ) (address : ℕ) (rest : ℕ → Tree) → ((b : ℕ) → Ranged pages w (rest b)) → Ranged pages w (code_or_fault byte address rest)
code_stays pages w None address rest onward = tt
code_stays pages w (Some byte) address rest onward = onward byte

pub stay_code : {pages : Pages} {w : Bool} {address : ℕ} → Stays pages w w Any (read_code address)
stay_code {pages = pages} {w = w} {address = address} = record {
  stays = λ state rest onward. code_stays pages w (code_byte_at pages address) address (λ byte. rest byte state) (λ byte. onward byte tt);
}

pub stay_fail : {pages : Pages} {from to : Bool} {A : Type 0} {Q : A → Type 0} {exception : Exception} → IsFault exception → Stays pages from to Q (fail exception)
stay_fail fault = record { stays = λ state rest onward. fault }

-- ---- scripts that leave a state

pub keep_pure : {pages : Pages} {w : Bool} {A : Type 0} {Q : A → Type 0} {x : A} → Q x → Keeps pages w w Q (pure x)
keep_pure holds = kept (stay_pure holds)

pub keep_bind : {pages : Pages} {from mid to : Bool} {A B : Type 0} {P : A → Type 0} {Q : B → Type 0} {m : Script A} {f : A → Script B}
    → Keeps pages from mid P m → ((x : A) → P x → Keeps pages mid to Q (f x)) → Keeps pages from to Q (bind m f)
keep_bind {pages = pages} {f = f} first each = record {
  keeps = λ state rest is onward.
      first.keeps state (λ x after. tree_of pages (f x) after rest) is (λ x after holds still. (each x holds).keeps after rest still onward);
}

-- where the first one's value does not matter
pub keep_then : {pages : Pages} {from mid to : Bool} {A B : Type 0} {P : A → Type 0} {Q : B → Type 0} {m : Script A} {n : Script B}
    → Keeps pages from mid P m → Keeps pages mid to Q n → Keeps pages from to Q (bind m (λ _. n))
keep_then first second = keep_bind first (λ _ _. second)

pub keep_choice : {pages : Pages} {from to : Bool} {A : Type 0} {Q : A → Type 0} {b : Bool} {m n : Script A}
    → (b ≡ true → Keeps pages from to Q m) → (b ≡ false → Keeps pages from to Q n) → Keeps pages from to Q (choose b m n)
keep_choice {b = true} first second = record { keeps = λ state rest is onward. (first refl).keeps state rest is onward }
keep_choice {b = false} first second = record { keeps = λ state rest is onward. (second refl).keeps state rest is onward }

-- where it does not matter why the one or the other is done
pub keep_either : {pages : Pages} {from to : Bool} {A : Type 0} {Q : A → Type 0} {b : Bool} {m n : Script A}
    → Keeps pages from to Q m → Keeps pages from to Q n → Keeps pages from to Q (choose b m n)
keep_either first second = keep_choice (λ _. first) (λ _. second)

pub keep_fail : {pages : Pages} {from to : Bool} {A : Type 0} {Q : A → Type 0} {exception : Exception} → IsFault exception → Keeps pages from to Q (fail exception)
keep_fail fault = kept (stay_fail fault)

pub keep_get : {pages : Pages} {w : Bool} {A : Type 0} {Q : A → Type 0} {f : VaxState → A} → ((state : VaxState) → IsState state → Q (f state)) → Keeps pages w w Q (get f)
keep_get {f = f} gives = record { keeps = λ state rest is onward. onward (f state) state (gives state is) is }

pub keep_change : {pages : Pages} {w : Bool} {f : VaxState → VaxState} → ((state : VaxState) → IsState state → IsState (f state)) → Keeps pages w w Any (change f)
keep_change {f = f} stays = record { keeps = λ state rest is onward. onward tt (f state) tt (stays state is) }

pub keep_written : {pages : Pages} {from to : Bool} {A : Type 0} {Q : A → Type 0} {m : Script A} → Keeps pages from to Q m → Keeps pages from true Q m
keep_written {pages = pages} {to = to} first = record {
  keeps = λ state rest is onward. first.keeps state rest is (λ x after holds still. ranged_anywhere to pages (rest x after) (onward x after holds still));
}

ends_kept : (pages : Pages) (w : Bool) (end : End) (state : VaxState) → IsState state → Ranged pages w (ends_with end state)
ends_kept pages w Done state is = is
ends_kept pages w Exits state is = is
ends_kept pages w (Traps kind) state is = is

-- the tree of an instruction's script, and of the last part of one
pub keeps_tree : (pages : Pages) (w v : Bool) (script : Script End) (state : VaxState) → Keeps pages w v Any script → IsState state
    → Ranged pages w (instruction_tree pages script state)
keeps_tree pages w v script state kept is = kept.keeps state ends_with is (λ end after _ still. ends_kept pages v end after still)
