-- What a desk of named files tells, and what its calls do to it.
use Rattle.std.specs.Prelude.{◌≡◌, ◌≢◌, ◌⊎◌, ℕ, ◌<◌, List, length, take, Option, None, Some}
use Rattle.vt_outside.specs.declared.desk.DeskRead.{DeskRead}
use Rattle.vt_outside.specs.declared.desk.DeskRead.TheVariants.{Bytes, Absent, TooLong, Failed, WantOfMemory}

-- the contents under each name
abbrev pub Files : Type 0
Files = List ℕ → Option (List ℕ)

-- the files, where the desk tells them, and how often reads and writes failed
pub record DeskMeaning : Type 0 where
  pub files : Option Files
  pub read_faults : ℕ
  pub write_faults : ℕ

-- where the answer of `read` is bytes, they have the property
abbrev pub IfRead : DeskRead → (List ℕ → Type 0) → Type 0
IfRead (Bytes bytes) property = property bytes.items
IfRead Absent property = Unit {0}
IfRead TooLong property = Unit {0}
IfRead Failed property = Unit {0}
IfRead WantOfMemory property = Unit {0}

-- the file has more than so many bytes
abbrev pub IsLonger : Option (List ℕ) → ℕ → Type 0
IsLonger None limit = ⊥
IsLonger (Some bytes) limit = limit < length bytes

-- the file is a prefix of these bytes
abbrev pub IsPrefix : Option (List ℕ) → List ℕ → Type 0
IsPrefix file bytes = (n : ℕ) × (file ≡ Some (take n bytes))

-- each other name has what it had
abbrev pub OthersStay : Files → Files → List ℕ → Type 0
OthersStay old new name = (other : List ℕ) → other ≢ name → new other ≡ old other

-- a write that is done: the name has the bytes, and each other name what it had
pub record Puts (old new : Files) (name bytes : List ℕ) : Type 0 where
  pub there : new name ≡ Some bytes
  pub others : OthersStay old new name

-- a write that failed: the name has what it had or a prefix of the bytes, and each other name what it had
pub record PutsPart (old new : Files) (name bytes : List ℕ) : Type 0 where
  pub part : (new name ≡ old name) ⊎ IsPrefix (new name) bytes
  pub others : OthersStay old new name

-- files that were told are told still, and are related so
abbrev pub BothTold : Option Files → Option Files → (Files → Files → Type 0) → Type 0
BothTold None new related = Unit {0}
BothTold (Some old) None related = ⊥
BothTold (Some old) (Some new) related = related old new
