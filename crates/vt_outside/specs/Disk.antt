-- What a disk tells, and what its calls do to it.
use Rattle.std.specs.Prelude.{◌≡◌, ◌≢◌, ◌<◌, length, ℕ, Bool, true, false, ◌∷◌, ◌++◌, List, Option, None, Some, Result, MatchResult, IsTrue}
use Rattle.std.specs.List.{AllByRecursion}
use Rattle.std.specs.Fs.{permissions_mode}
use Rattle.std_io.specs.declared.io.kind.ErrorKind.{ErrorKind}
use Rattle.std_io.specs.declared.io.kind.ErrorKind.TheVariants.{NotFound, NotADirectory, InvalidFilename, FilesystemLoop}
use Rattle.vt_outside.specs.declared.disk.Found.{Found}
use Rattle.vt_outside.specs.declared.disk.Found.TheVariants.{Nothing, Plain, Other}
use Rattle.vt_outside.specs.declared.disk.Made.{Made}
use Rattle.vt_outside.specs.declared.disk.Made.TheVariants.{Whole, Part, Taken, Refused}

-- what stands under a name: the bytes that a reader gets, the permissions, and whether it is a plain file, and so no folder, link,
-- device or pipe
pub record Node : Type 0 where
  pub bytes : List ℕ
  pub permissions : ℕ
  pub is_plain : Bool

-- what stands under each name
abbrev pub Names : Type 0
Names = List ℕ → Option Node

-- what stands there now, and what stood there at each moment before, newest first
pub record DiskMeaning : Type 0 where
  pub now : Names
  pub moments : List Names

-- what was told is told still, and is related so
abbrev pub StillTold : Option DiskMeaning → Option DiskMeaning → (DiskMeaning → DiskMeaning → Type 0) → Type 0
StillTold None new related = Unit {0}
StillTold (Some old) None related = ⊥
StillTold (Some old) (Some new) related = related old new

-- ---- what stands under one name

abbrev pub HasBytes : Option Node → List ℕ → Type 0
HasBytes None bytes = ⊥
HasBytes (Some node) bytes = node.bytes ≡ bytes

abbrev pub HasMoreBytes : Option Node → ℕ → Type 0
HasMoreBytes None limit = ⊥
HasMoreBytes (Some node) limit = limit < length node.bytes

abbrev pub IsPlain : Option Node → ℕ → Type 0
IsPlain None permissions = ⊥
IsPlain (Some node) permissions = (node.is_plain ≡ true) × (node.permissions ≡ permissions)

-- no plain file, and not nothing
abbrev pub IsOther : Option Node → Type 0
IsOther None = ⊥
IsOther (Some node) = node.is_plain ≡ false

-- a file that was there has its permissions still
abbrev pub KeepsPermissions : Option Node → Option Node → Type 0
KeepsPermissions None new = Unit {0}
KeepsPermissions (Some old) None = ⊥
KeepsPermissions (Some old) (Some new) = new.permissions ≡ old.permissions

-- what is found under the name is what stands there
abbrev pub IsFound : Found → Option Node → Type 0
IsFound Nothing node = node ≡ None
IsFound (Plain permissions) node = IsPlain node (permissions_mode permissions)
IsFound Other node = IsOther node

-- ---- what a call does

-- a file that was opened has these bytes left
abbrev pub Gives : Option (List ℕ) → Option Node → Type 0
Gives left None = ⊥
Gives left (Some node) = left ≡ Some node.bytes

-- the system says so where no file has the name, or none can have it
abbrev pub is_absence : ErrorKind → Bool
is_absence NotFound = true
is_absence NotADirectory = true
is_absence InvalidFilename = true
is_absence FilesystemLoop = true
is_absence kind = false

abbrev pub IsAbsence : ErrorKind → Type 0
IsAbsence kind = IsTrue (is_absence kind)

-- each other name has what it had
abbrev pub OthersKept : Names → (name : List ℕ) → Names → Type 0
OthersKept old name new = (other : List ℕ) → other ≢ name → new other ≡ old other

-- at each moment since, the last included, what stood there had the property
pub record Passes (P : Names → Type 0) (old new : DiskMeaning) : Type 0 where
  pub since : List Names
  pub moments : new.moments ≡ since ++ old.moments
  pub each : AllByRecursion P since
  pub last : P new.now

-- the other names keep what they have, at each moment
abbrev pub Touches : (name : List ℕ) → DiskMeaning → DiskMeaning → Type 0
Touches name old new = Passes (OthersKept old.now name) old new

pub record MakesWhole (name bytes : List ℕ) (old new : DiskMeaning) : Type 0 where
  pub free : old.now name ≡ None
  pub there : HasBytes (new.now name) bytes
  pub touches : Touches name old new

pub record MakesPart (name : List ℕ) (old new : DiskMeaning) : Type 0 where
  pub free : old.now name ≡ None
  pub touches : Touches name old new

-- a new file got all the bytes, or not all; or none was made
abbrev pub Makes : Made → (name bytes : List ℕ) → (old new : DiskMeaning) → Type 0
Makes Whole name bytes old new = MakesWhole name bytes old new
Makes Part name bytes old new = MakesPart name old new
Makes Taken name bytes old new = new ≡ old
Makes Refused name bytes old new = new ≡ old

-- the file has these permissions, and its bytes
pub record Permits (name : List ℕ) (permissions : ℕ) (old new : DiskMeaning) : Type 0 where
  pub there : (node : Node) → old.now name ≡ Some node → new.now name ≡ Some (record node { permissions = permissions })
  pub touches : Touches name old new

-- the second name has what the first had, all at one moment
pub record Renames (from to : List ℕ) (old new : DiskMeaning) : Type 0 where
  pub there : new.now to ≡ old.now from
  pub gone : new.now from ≡ None
  pub others : (other : List ℕ) → other ≢ from → other ≢ to → new.now other ≡ old.now other
  pub moments : new.moments ≡ new.now ∷ old.moments

pub record Removes (name : List ℕ) (old new : DiskMeaning) : Type 0 where
  pub gone : new.now name ≡ None
  pub touches : Touches name old new

pub record WritesOver (name bytes : List ℕ) (old new : DiskMeaning) : Type 0 where
  pub there : HasBytes (new.now name) bytes
  pub touches : Touches name old new

-- where the call failed, nothing has changed
abbrev pub OrNothing : {T E : Type 0} → Result T E → (DiskMeaning → DiskMeaning → Type 0) → DiskMeaning → DiskMeaning → Type 0
OrNothing result does old new = MatchResult result (λ _. does old new) (λ _. new ≡ old)

-- where the call failed, the other names kept what they have
abbrev pub OrTouches : {T E : Type 0} → Result T E → (name : List ℕ) → (DiskMeaning → DiskMeaning → Type 0) → DiskMeaning → DiskMeaning → Type 0
OrTouches result name does old new = MatchResult result (λ _. does old new) (λ _. Touches name old new)
