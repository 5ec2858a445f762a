-- The numbers of refusals, and their places.
use Rattle.std.specs.Prelude.{ℕ, List, [], ◌∷◌, Option, slice_get}
use Rattle.image_file.specs.declared.refusal.ImageRefusal.{ImageRefusal}
use Rattle.image_file.specs.declared.refusal.ImageRefusal.TheVariants.{Truncated, BadMagic, BadVersion, NoThread, TooManyThreads, TooManySections, BadSection, Overlap, TooLarge, BadEntry, Trailing, TooManyEntries, WantOfMemory}

-- the number, and what the refusal tells of the file
abbrev pub numbers_of : ImageRefusal → List ℕ
numbers_of (Truncated at) = 1 ∷ at ∷ []
numbers_of BadMagic = 2 ∷ []
numbers_of (BadVersion found) = 3 ∷ found ∷ []
numbers_of NoThread = 4 ∷ []
numbers_of (TooManyThreads count) = 5 ∷ count ∷ []
numbers_of (TooManySections count) = 6 ∷ count ∷ []
numbers_of (BadSection place) = 7 ∷ place ∷ []
numbers_of (Overlap low high) = 8 ∷ low ∷ high ∷ []
numbers_of (TooLarge total) = 9 ∷ total ∷ []
numbers_of (BadEntry place) = 10 ∷ place ∷ []
numbers_of (Trailing at) = 11 ∷ at ∷ []
numbers_of (TooManyEntries count) = 12 ∷ count ∷ []
numbers_of WantOfMemory = []

abbrev pub number_of : ImageRefusal → Option ℕ
number_of refusal = slice_get (numbers_of refusal) 0
