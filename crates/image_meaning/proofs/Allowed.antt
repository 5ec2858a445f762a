-- Bytes that were checked may be used, each by itself and one after the other.
use Rattle.std.proofs.Common.{◌≡◌, ℕ, zero, suc, ◌+◌, ◌-◌, ◌/◌, ◌%◌, ◌^◌, ◌<◌, ◌≤◌, Bool, true, false, List, [], ◌∷◌, Option, Some, None, refl, sym, subst, arith, not, ◌&&◌, ◌||◌}
use Rattle.std.specs.Prelude.{if◌then◌else◌}
use Rattle.std.specs.List.{list_any}
use Rattle.vax_form.specs.Pages.{allows, is_allowed, first_bad}
use Rattle.vax_form.specs.declared.pages.PageRange.{PageRange}
use Rattle.vax_form.specs.declared.pages.Pages.{Pages}
use Rattle.vax_form.specs.PageTable.{has_page}
use Rattle.vax_long.specs.Strings.{beside, beginning}
use Rattle.image_meaning.proofs.States.{IsLongword}

-- each of the bytes from the address on
abbrev pub Allows : Pages → (write : Bool) → (address count : ℕ) → Type 0
Allows pages write address count = (i : ℕ) → i < count → is_allowed pages ((address + i) % 2 ^ 32) write ≡ true

here_allowed : (b : Bool) (address : ℕ) (later : Option ℕ) → (if b then later else Some address) ≡ None → (b ≡ true) × (later ≡ None)
here_allowed true address later none = (refl, none)
here_allowed false address later none = absurd cc

first_address : (address : ℕ) → IsLongword address → address ≡ (address + 0) % 2 ^ 32
first_address address small = omega arith

later_address : (address i : ℕ) → ((address + 1) % 2 ^ 32 + i) % 2 ^ 32 ≡ (address + suc i) % 2 ^ 32
later_address address i = omega arith

next_small : (address : ℕ) → IsLongword ((address + 1) % 2 ^ 32)
next_small address = omega arith

pub all_allowed : (pages : Pages) (write : Bool) (address count : ℕ) → IsLongword address → first_bad pages write address count ≡ None → Allows pages write address count
all_allowed pages write address zero small none i few = absurd (omega arith)
all_allowed pages write address (suc count) small none zero few =
    subst (λ (at : ℕ). is_allowed pages at write ≡ true) (first_address address small)
    (here_allowed (is_allowed pages address write) address (first_bad pages write ((address + 1) % 2 ^ 32) count) none).0
all_allowed pages write address (suc count) small none (suc i) few =
    subst (λ (at : ℕ). is_allowed pages at write ≡ true) (later_address address i)
    (all_allowed pages write ((address + 1) % 2 ^ 32) count (next_small address)
    (here_allowed (is_allowed pages address write) address (first_bad pages write ((address + 1) % 2 ^ 32) count) none).1 i (omega arith))

-- the first of them
pub first_allowed : (pages : Pages) (write : Bool) (address count : ℕ) → IsLongword address → 1 ≤ count → Allows pages write address count → is_allowed pages address write ≡ true
first_allowed pages write address count small some all =
    subst (λ (at : ℕ). is_allowed pages at write ≡ true) (sym (first_address address small)) (all 0 (omega arith))

-- some of them, from a place on
pub part_allowed : (pages : Pages) (write : Bool) (address count : ℕ) → Allows pages write address count → (place few : ℕ) → place + few ≤ count
    → Allows pages write ((address + place) % 2 ^ 32) few
part_allowed pages write address count all place few fits i less =
    subst (λ (at : ℕ). is_allowed pages at write ≡ true) (place_of address place i) (all (place + i) (omega arith))
  where
    place_of : (address place i : ℕ) → (address + (place + i)) % 2 ^ 32 ≡ ((address + place) % 2 ^ 32 + i) % 2 ^ 32
    place_of address place i = omega arith

-- ---- what may be written may be read

read_where : (has writable : Bool) → (has && (not true || writable)) ≡ true → (has && (not false || writable)) ≡ true
read_where true writable is = refl
read_where false writable is = is

either : (a b c d : Bool) → (a ≡ true → b ≡ true) → (c ≡ true → d ≡ true) → (a || c) ≡ true → (b || d) ≡ true
either true b c d first rest is = let here : b ≡ true = first refl in rw here refl
either false true c d first rest is = refl
either false false c d first rest is = rest is

any_read : (address : ℕ) (ranges : List PageRange) → list_any (allows address true) ranges ≡ true → list_any (allows address false) ranges ≡ true
any_read address [] is = is
any_read address (r ∷ ranges) is =
    either (allows address true r) (allows address false r) (list_any (allows address true) ranges) (list_any (allows address false) ranges)
    (read_where (has_page (address / 512) r) r.writable) (any_read address ranges) is

pub read_allowed : (pages : Pages) (address count : ℕ) → Allows pages true address count → Allows pages false address count
read_allowed pages address count all i few = any_read ((address + i) % 2 ^ 32) pages.ranges (all i few)

-- ---- one after the other

-- so many bytes from the address on, upward or downward
abbrev pub Walk : Pages → (write down : Bool) → (count address : ℕ) → Type 0
Walk pages write down zero address = Unit {0}
Walk pages write down (suc count) address = (is_allowed pages address write ≡ true) × Walk pages write down count (beside down address)

-- the first so many of the bytes from a place on, upward
pub walk_up : (pages : Pages) (write : Bool) (address count : ℕ) → Allows pages write address count
    → (left done : ℕ) → done + left ≤ count → Walk pages write false left ((address + done) % 2 ^ 32)
walk_up pages write address count all zero done fits = tt
walk_up pages write address count all (suc left) done fits = (
  all done (omega arith),
  subst (λ (at : ℕ). Walk pages write false left at) (up_one address done) (walk_up pages write address count all left (done + 1) (omega arith)),
)
  where
    up_one : (address done : ℕ) → (address + (done + 1)) % 2 ^ 32 ≡ ((address + done) % 2 ^ 32 + 1) % 2 ^ 32
    up_one address done = omega arith

-- and downward, from the last one of them
pub walk_down : (pages : Pages) (write : Bool) (address count : ℕ) → Allows pages write address count
    → (left : ℕ) → left ≤ count → Walk pages write true left (((address + left) % 2 ^ 32 + (2 ^ 32 - 1)) % 2 ^ 32)
walk_down pages write address count all zero fits = tt
walk_down pages write address count all (suc left) fits = (
  subst (λ (at : ℕ). is_allowed pages at write ≡ true) (last_one address left) (all left (omega arith)),
  subst (λ (at : ℕ). Walk pages write true left at) (down_one address left) (walk_down pages write address count all left (omega arith)),
)
  where
    last_one : (address left : ℕ) → (address + left) % 2 ^ 32 ≡ ((address + suc left) % 2 ^ 32 + (2 ^ 32 - 1)) % 2 ^ 32
    last_one address left = omega arith

    down_one : (address left : ℕ) → ((address + left) % 2 ^ 32 + (2 ^ 32 - 1)) % 2 ^ 32 ≡ (((address + suc left) % 2 ^ 32 + (2 ^ 32 - 1)) % 2 ^ 32 + (2 ^ 32 - 1)) % 2 ^ 32
    down_one address left = omega arith

-- a string of so many bytes that were checked
pub walk_string : (pages : Pages) (write down : Bool) (address whole count : ℕ) → IsLongword address → count ≤ whole → Allows pages write address whole
    → Walk pages write down count (beginning down address count)
walk_string pages write true address whole count small fits all = walk_down pages write address whole all count fits
walk_string pages write false address whole count small fits all =
    subst (λ (at : ℕ). Walk pages write false count at) (sym (first_address address small)) (walk_up pages write address whole all count 0 (omega arith))
