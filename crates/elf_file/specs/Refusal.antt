-- The numbers of refusals, and what a call's answer says of them.
use Rattle.std.specs.Prelude.{◌≡◌, ℕ, List, [], ◌∷◌, Option, slice_get, Result, Ok, Err}
use Rattle.elf_file.specs.declared.refusal.ElfRefusal.{ElfRefusal}
use Rattle.elf_file.specs.declared.refusal.ElfRefusal.TheVariants.{Short, BadMagic, BadClass, BadMachine, BadType, BadHeaders, NotStatic, SegmentCut, BadSegment, WritableCode, SymbolsCut, WantOfMemory}

-- the number, and what the refusal tells of the file; 11 and 12 are those of images made of a program
abbrev pub numbers_of : ElfRefusal → List ℕ
numbers_of (Short length) = 1 ∷ length ∷ []
numbers_of BadMagic = 2 ∷ []
numbers_of (BadClass class order version) = 3 ∷ class ∷ order ∷ version ∷ []
numbers_of (BadMachine found) = 4 ∷ found ∷ []
numbers_of (BadType found) = 5 ∷ found ∷ []
numbers_of (BadHeaders at) = 6 ∷ at ∷ []
numbers_of (NotStatic place) = 7 ∷ place ∷ []
numbers_of (SegmentCut place) = 8 ∷ place ∷ []
numbers_of (BadSegment place) = 9 ∷ place ∷ []
numbers_of (WritableCode place) = 10 ∷ place ∷ []
numbers_of (SymbolsCut at) = 13 ∷ at ∷ []
numbers_of WantOfMemory = []

abbrev pub number_of : ElfRefusal → Option ℕ
number_of refusal = slice_get (numbers_of refusal) 0

-- a call's answer, seen by view, is what reading gives, unless memory ran out
abbrev pub Gives : {X Y : Type 0} → (X → Y) → Result X ElfRefusal → Result Y ElfRefusal → Type 0
Gives view (Ok x) read = read ≡ Ok (view x)
Gives view (Err WantOfMemory) read = Unit {0}
Gives view (Err e) read = read ≡ Err e
