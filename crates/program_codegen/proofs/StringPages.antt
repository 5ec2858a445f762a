-- Bytes of a string that was checked, one after the other in either direction.
use Rattle.std.proofs.Common.{◌≡◌, ℕ, zero, suc, ◌+◌, ◌-◌, ◌%◌, ◌^◌, ◌<◌, ◌≤◌, subst, arith, Bool, true, false, None}
use Rattle.vax_form.specs.PageTable.{IsPageTable}
use Rattle.vax_form.specs.Pages.{first_bad, is_allowed}
use Rattle.vax_form.specs.declared.pages.Pages.{Pages}
use Rattle.vax_long.specs.Strings.{beside, beginning}
use Rattle.program_codegen.proofs.Operands.{IsUsable, each_byte, in_space}

-- each of the bytes from the address on
abbrev pub Allows : Pages → (write : Bool) → (address count : ℕ) → Type 0
Allows pages write address count = (i : ℕ) → i < count → is_allowed pages ((address + i) % 2 ^ 32) write ≡ true

pub checked_allows : (pages : Pages) (write : Bool) (address count : ℕ) → address < 2 ^ 32 → first_bad pages write address count ≡ None → Allows pages write address count
checked_allows pages write address count small passes i lt = each_byte pages write count address i small lt passes

-- so many bytes from the address on, upward or downward
abbrev pub Walk : Pages → (write down : Bool) → (count address : ℕ) → Type 0
Walk pages write down zero address = Unit {0}
Walk pages write down (suc count) address = (is_allowed pages address write ≡ true) × Walk pages write down count (beside down address)

module _ (pages : Pages) (write : Bool) (address count : ℕ) (all : Allows pages write address count) where
  walk_up : (left done : ℕ) → done + left ≤ count → Walk pages write false left ((address + done) % 2 ^ 32)
  walk_up zero done fits = tt
  walk_up (suc left) done fits =
      (all done (omega arith), subst (λ (at : ℕ). Walk pages write false left at) (up_one address done) (walk_up left (done + 1) (omega arith)))
    where
      up_one : (address done : ℕ) → (address + (done + 1)) % 2 ^ 32 ≡ ((address + done) % 2 ^ 32 + 1) % 2 ^ 32
      up_one address done = omega arith

  walk_down : (left : ℕ) → left ≤ count → Walk pages write true left (((address + left) % 2 ^ 32 + (2 ^ 32 - 1)) % 2 ^ 32)
  walk_down zero fits = tt
  walk_down (suc left) fits = (
    subst (λ (at : ℕ). is_allowed pages at write ≡ true) (last_one address left) (all left (omega arith)),
    subst (λ (at : ℕ). Walk pages write true left at) (down_one address left) (walk_down left (omega arith)),
  )
    where
      last_one : (address left : ℕ) → (address + left) % 2 ^ 32 ≡ ((address + suc left) % 2 ^ 32 + (2 ^ 32 - 1)) % 2 ^ 32
      last_one address left = omega arith

      down_one : (address left : ℕ) → ((address + left) % 2 ^ 32 + (2 ^ 32 - 1)) % 2 ^ 32 ≡ (((address + suc left) % 2 ^ 32 + (2 ^ 32 - 1)) % 2 ^ 32 + (2 ^ 32 - 1)) % 2 ^ 32
      down_one address left = omega arith

  -- a whole string
  pub walk_string : (down : Bool) → address < 2 ^ 32 → Walk pages write down count (beginning down address count)
  walk_string true small = walk_down count (omega arith)
  walk_string false small = subst (λ (at : ℕ). Walk pages write false count at) (first_address address small) (walk_up count 0 (omega arith))
    where
      first_address : (address : ℕ) → address < 2 ^ 32 → (address + 0) % 2 ^ 32 ≡ address
      first_address address small = omega arith

-- a byte that is allowed may be used
pub usable_byte : (pages : Pages) (write : Bool) (address : ℕ) → address < 2 ^ 32 → is_allowed pages address write ≡ true → IsUsable pages write address 1
usable_byte pages write address small may = record { small = small; bytes = λ i lt. subst (λ (at : ℕ). is_allowed pages at write ≡ true) (here i lt) may }
  where
    here : (i : ℕ) → i < 1 → address ≡ (address + i) % 2 ^ 32
    here i lt = omega arith

-- ---- addresses
-- what is added to an address behind each byte
abbrev pub stride : (down : Bool) → ℕ
stride true = 2 ^ 64 - 1
stride false = 1

-- between bytes that may be used no address wraps
pub next_address : (down : Bool) (address : ℕ) → address < 2 ^ 31 → beside down address < 2 ^ 31 → (address + stride down) % 2 ^ 64 ≡ beside down address
next_address true address small next = omega arith
next_address false address small next = omega arith

pub first_fits : (pages : Pages) (write down : Bool) (count address : ℕ) → IsPageTable pages → Walk pages write down (suc count) address → address < 2 ^ 31
first_fits pages write down count address table walk = in_space pages address write table walk.0

-- the last byte of a string, whose first may be used
pub last_address : (pages : Pages) (write : Bool) (address left : ℕ) → IsPageTable pages → Allows pages write address (suc left) → address < 2 ^ 32 → suc left < 2 ^ 16
    → ((address + suc left) % 2 ^ 64 + (2 ^ 64 - 1)) % 2 ^ 64 ≡ beginning true address (suc left)
last_address pages write address left table all small few =
    let here : (address + 0) % 2 ^ 32 ≡ address = omega arith in
    let low = in_space pages ((address + 0) % 2 ^ 32) write table (all 0 (omega arith)) in
    omega arith
