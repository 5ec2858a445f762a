-- The numbers of the refusals of an order that can't be replayed. They go on behind those of order files.
use Rattle.std.specs.Prelude.{ℕ, List, [], ◌∷◌, Option, slice_get}
use Rattle.stored_runs.specs.declared.refusal.ReplayRefusal.{ReplayRefusal}
use Rattle.stored_runs.specs.declared.refusal.ReplayRefusal.TheVariants.{NotDriven, WrongEnd, WantOfMemory}

-- the number, and what the refusal tells of the order
abbrev pub numbers_of : ReplayRefusal → List ℕ
numbers_of NotDriven = 11 ∷ []
numbers_of (WrongEnd thread) = 12 ∷ thread ∷ []
numbers_of WantOfMemory = []

abbrev pub number_of : ReplayRefusal → Option ℕ
number_of refusal = slice_get (numbers_of refusal) 0
