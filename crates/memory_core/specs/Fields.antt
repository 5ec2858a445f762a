-- What a memory keeps of its history.
use Rattle.std.specs.Prelude.{◌≡◌, ◌<◌, ◌-◌, ◌%◌, ℕ, suc, List, [], Option, Some, None, length, nat_le, slice_index_or, slice_set, if◌then◌else◌}
use Rattle.memory_core.specs.declared.entry.Entry.{Entry}
use Rattle.memory_core.specs.declared.entry.Limit.{Limit}
use Rattle.memory_core.specs.declared.entry.Limit.TheVariants.{Entries, Puts}
use Rattle.memory_core.specs.declared.entry.SetUp.{SetUp}
use Rattle.memory_core.specs.declared.reservation.Reservation.{Reservation}
use Rattle.memory_core.specs.Order.{left_by, reserved, tries}
use Rattle.memory_core.specs.Places.{quad_place}
use Rattle.memory_core.specs.Reservations.{holds, counted_tries}

-- one processor's reservation
pub record IsKept (miss : ℕ) (past : List Entry) (processor : ℕ) (r : Reservation) : Type 0 where
  pub block : (b : ℕ) → reserved past processor b ≡ holds r.block b
  pub tries : counted_tries miss (tries past processor) ≡ r.tries

-- the quadword of an address at its place, as the past left it
pub record IsAt (set_up : SetUp) (past : List Entry) (quads : List ℕ) (address place : ℕ) : Type 0 where
  pub within : place < length quads
  pub is : slice_index_or quads place 0 ≡ left_by set_up past (address - address % 8)

-- the quadwords of all addresses of the image's pages
abbrev pub AreCurrent : SetUp → List Entry → List ℕ → Type 0
AreCurrent set_up past quads =
    (address place : ℕ) → quad_place set_up.image.pages.ranges address ≡ Some place → IsAt set_up past quads address place

-- how many of so many bytes of input were asked for, once one more is; one more than there are stands for any more
abbrev pub next_taken : (count taken : ℕ) → ℕ
next_taken count taken = if nat_le taken count then suc taken else taken

-- the quadwords with one of them stored
abbrev pub stored_at : Option ℕ → ℕ → List ℕ → List ℕ
stored_at None value quads = quads
stored_at (Some place) value quads = slice_set quads place value

-- the entries of a history that are kept
abbrev pub kept_of : Limit → List Entry → List Entry
kept_of (Entries n) history = history
kept_of (Puts n) history = []

-- the greatest number of these
abbrev pub most_kept : Limit → ℕ
most_kept (Entries n) = n
most_kept (Puts n) = 0
