-- The numbers of refusals, and their places.
use Rattle.std.specs.Prelude.{ℕ, List, [], ◌∷◌, Option, slice_get}
use Rattle.image_file.specs.Refusal as Image
use Rattle.translated_file.specs.declared.refusal.TranslatedRefusal.{TranslatedRefusal}
use Rattle.translated_file.specs.declared.refusal.TranslatedRefusal.TheVariants.{Truncated, BadMagic, BadVersion, Inner, NotTheTranslation, Trailing, BadHint, WantOfMemory}

-- the number, and what the refusal tells of the file; behind 4 stand the numbers of the image's refusal
abbrev pub numbers_of : TranslatedRefusal → List ℕ
numbers_of (Truncated at) = 1 ∷ at ∷ []
numbers_of BadMagic = 2 ∷ []
numbers_of (BadVersion found) = 3 ∷ found ∷ []
numbers_of (Inner refusal) = 4 ∷ Image.numbers_of refusal
numbers_of (NotTheTranslation place found wanted) = 5 ∷ place ∷ found ∷ wanted ∷ []
numbers_of (Trailing at) = 6 ∷ at ∷ []
numbers_of (BadHint place) = 7 ∷ place ∷ []
numbers_of WantOfMemory = []

abbrev pub number_of : TranslatedRefusal → Option ℕ
number_of refusal = slice_get (numbers_of refusal) 0
