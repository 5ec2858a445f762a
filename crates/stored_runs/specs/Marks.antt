-- Marks of addresses, as the code keeps them.
use Rattle.std.specs.Prelude.{◌≡◌, ℕ, ◌-◌, ◌*◌, ◌==◌, ◌&&◌, Bool, true, false, List, [], ◌∷◌, length, replicate, nat_le, nat_lt, Option, Some, None, option_map, slice_get, if◌then◌else◌}
use Rattle.vax_form.specs.Pages.{is_code}
use Rattle.vax_form.specs.PageTable.{code_bytes, page_size}
use Rattle.vax_form.specs.declared.pages.PageRange.{PageRange}
use Rattle.vax_form.specs.declared.pages.Pages.{Pages}
use Rattle.stored_runs.specs.declared.marks.MarkedRange.{MarkedRange}
use Rattle.stored_runs.specs.declared.marks.Marks.{Marks}

-- the address has a mark in the range
abbrev pub has_place : ℕ → MarkedRange → Bool
has_place address r = nat_le r.start address && nat_lt (address - r.start) (length r.marks.items)

-- the mark of an address is that in the first range that has one for it; no mark where none has
abbrev pub mark_among : List MarkedRange → ℕ → Option Bool
mark_among [] address = None
mark_among (r ∷ ranges) address =
    if has_place address r then slice_get r.marks.items (address - r.start) else mark_among ranges address

abbrev pub mark_of : Marks → ℕ → Option Bool
mark_of marks = mark_among marks.ranges.items

-- the marks with that of an address set, where it has one
abbrev pub with_mark : (ℕ → Option Bool) → (address : ℕ) → ℕ → Option Bool
with_mark mark address at = if at == address then option_map (λ _. true) (mark at) else mark at

-- the marks of the code of a range of pages, none of them set
pub record IsUnmarked (range : PageRange) (r : MarkedRange) : Type 0 where
  pub start : r.start ≡ page_size * range.first
  pub marks : r.marks.items ≡ replicate (code_bytes range) false

-- a mark for each byte of the code and for no other, none of them set
abbrev pub AreUnmarked : Pages → Marks → Type 0
AreUnmarked pages marks = (address : ℕ) → mark_of marks address ≡ (if is_code pages address then Some false else None)

abbrev pub is_marked : Option Bool → Bool
is_marked None = false
is_marked (Some mark) = mark
