-- The points of translated code, and the exceptions that they name.
-- VAX Architecture Reference Manual, "Exceptions and Interrupts": the vectors of the System Control Block.
use Rattle.std.specs.Prelude.{◌≡◌, ◌<◌, ◌≤◌, ◌-◌, ◌==◌, ℕ, List, Option, Some, None, find, get_or, length, option_map, slice_get, take, if◌then◌else◌}
use Rattle.std.specs.List.{AllAdjacentBelow}
use Rattle.vax_form.specs.declared.state.Exception.{Exception}
use Rattle.vax_form.specs.declared.state.Exception.TheVariants.{ReservedInstruction, ReservedOperand, ReservedMode, Breakpoint}
use Rattle.exception_records.specs.declared.points.Point.{Point}
use Rattle.exception_records.specs.declared.points.PointRefusal.{PointRefusal}
use Rattle.exception_records.specs.declared.points.PointRefusal.TheVariants.{OutOfOrder}

-- the fault at a vector offset; an access violation is raised by the probe that finds it, and carries its address
abbrev pub raised_at : (offset : ℕ) → Option Exception
raised_at offset =
    if offset == 0x10 then Some ReservedInstruction
    else if offset == 0x18 then Some ReservedOperand
    else if offset == 0x1C then Some ReservedMode
    else if offset == 0x2C then Some Breakpoint
    else None

-- a word and its point
abbrev pub Entry : Type 0
Entry = ℕ × Point

-- each word is above its predecessor
abbrev pub WordsRise : List Entry → Type 0
WordsRise points = AllAdjacentBelow (λ p q. p.0 < q.0) points (length points)

-- the point beside a word
abbrev pub point_at : List Entry → (word : ℕ) → Option Point
point_at points word = option_map (λ p. p.1) (find (λ p. p.0 == word) points)

-- what is told of words: the place of a word's point, or that it has none
pub record ArePlacesOf (places : List (Option ℕ)) (points : List Entry) : Type 0 where
  pub there : (word place : ℕ) → slice_get places word ≡ Some (Some place) → (place < length points) × ((d : Entry) → (get_or points place d).0 ≡ word)
  pub none : (word : ℕ) → slice_get places word ≡ Some None → point_at points word ≡ None

-- the first pair whose word is not above its predecessor's is q, at the place, and its predecessor is p
pub record IsFirstFall (points : List Entry) (place : ℕ) (p q : Entry) : Type 0 where
  pub behind : 0 < place
  pub predecessor : slice_get points (place - 1) ≡ Some p
  pub pair : slice_get points place ≡ Some q
  pub rising_before : WordsRise (take place points)
  pub falls : q.0 ≤ p.0

-- the points have that flaw
abbrev pub HasFlaw : List Entry → PointRefusal → Type 0
HasFlaw points (OutOfOrder place) = (p : Entry) × (q : Entry) × IsFirstFall points place p q

-- the number of a refusal
abbrev pub number_of : PointRefusal → ℕ
number_of (OutOfOrder place) = 1
