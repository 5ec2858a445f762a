-- The numbers of refusals, and what they tell.
use Rattle.std.specs.Prelude.{ℕ, List, [], ◌∷◌, Option, slice_get}
use Rattle.run_files.specs.declared.refusal.OrderRefusal.{OrderRefusal}
use Rattle.run_files.specs.declared.refusal.OrderRefusal.TheVariants.{Truncated, BadMagic, BadVersion, WrongThreads, TooManyPicks, LongInput, Trailing, BadFlag, LargeCount, BadThread, WantOfMemory}

-- the number, and what the refusal tells of the file
abbrev pub numbers_of : OrderRefusal → List ℕ
numbers_of (Truncated at) = 1 ∷ at ∷ []
numbers_of BadMagic = 2 ∷ []
numbers_of (BadVersion found) = 3 ∷ found ∷ []
numbers_of (WrongThreads found) = 4 ∷ found ∷ []
numbers_of (TooManyPicks count) = 5 ∷ count ∷ []
numbers_of (LongInput length) = 6 ∷ length ∷ []
numbers_of (Trailing at) = 7 ∷ at ∷ []
numbers_of (BadFlag thread) = 8 ∷ thread ∷ []
numbers_of (LargeCount thread) = 9 ∷ thread ∷ []
numbers_of (BadThread place) = 10 ∷ place ∷ []
numbers_of WantOfMemory = []

abbrev pub number_of : OrderRefusal → Option ℕ
number_of refusal = slice_get (numbers_of refusal) 0
