-- Why no image is made: who refuses, the numbers of the refusal, and what a call's answer says of it.
use Rattle.std.specs.Prelude.{◌≡◌, ℕ, List, [], ◌∷◌, Option, Some, None, Result, Ok, Err}
use Rattle.image_file.specs.Refusal as image
use Rattle.image_file.specs.declared.refusal.ImageRefusal.{ImageRefusal}
use Rattle.image_file.specs.declared.refusal.ImageRefusal.TheVariants as of_images
use Rattle.elf_file.specs.Refusal as elf
use Rattle.elf_file.specs.declared.refusal.ElfRefusal.{ElfRefusal}
use Rattle.elf_file.specs.declared.refusal.ElfRefusal.TheVariants as of_files
use Rattle.image_parts.specs.declared.refusal.Judge.{Judge}
use Rattle.image_parts.specs.declared.refusal.Judge.TheVariants.{OfElf, OfParts, OfImage}
use Rattle.image_parts.specs.declared.refusal.MakeRefusal.{MakeRefusal}
use Rattle.image_parts.specs.declared.refusal.MakeRefusal.TheVariants.{Elf, SharedPage, StartOutside, StoredTooLong, TooMany, Image, WantOfMemory}

-- the file, the parts, or the image that they would be
abbrev pub judge_of : MakeRefusal → Option Judge
judge_of (Elf refusal) = Some OfElf
judge_of (SharedPage low high) = Some OfElf
judge_of (StartOutside address) = Some OfElf
judge_of (StoredTooLong place) = Some OfParts
judge_of (TooMany count) = Some OfParts
judge_of (Image refusal) = Some OfImage
judge_of WantOfMemory = None

-- the number, and what the refusal tells
abbrev pub numbers_of : MakeRefusal → List ℕ
numbers_of (Elf refusal) = elf.numbers_of refusal
numbers_of (SharedPage low high) = 11 ∷ low ∷ high ∷ []
numbers_of (StartOutside address) = 12 ∷ address ∷ []
numbers_of (StoredTooLong place) = 1 ∷ place ∷ []
numbers_of (TooMany count) = 3 ∷ count ∷ []
numbers_of (Image refusal) = image.numbers_of refusal
numbers_of WantOfMemory = []

-- a refusal of a file, and one of an image
abbrev pub of_elf : ElfRefusal → MakeRefusal
of_elf of_files.WantOfMemory = WantOfMemory
of_elf refusal = Elf refusal

abbrev pub of_image : ImageRefusal → MakeRefusal
of_image of_images.WantOfMemory = WantOfMemory
of_image refusal = Image refusal

abbrev pub refused_as : {X E F : Type 0} → (E → F) → Result X E → Result X F
refused_as f (Ok x) = Ok x
refused_as f (Err e) = Err (f e)

-- a call's answer, seen by view, is what the definition gives, unless memory ran out
abbrev pub Gives : {X Y : Type 0} → (X → Y) → Result X MakeRefusal → Result Y MakeRefusal → Type 0
Gives view (Ok x) made = made ≡ Ok (view x)
Gives view (Err WantOfMemory) made = Unit {0}
Gives view (Err e) made = made ≡ Err e
