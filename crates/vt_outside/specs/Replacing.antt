-- How a file's contents are replaced.
use Rattle.std.specs.Prelude.{◌≡◌, ◌≢◌, ◌⊎◌, ℕ, List, Option, None, Some, Result, MatchResult}
use Rattle.std.specs.Fs.{permissions_mode}
use Rattle.std.specs.declared.fs.permissions.Permissions.{Permissions}
use Rattle.vt_outside.specs.Disk.{DiskMeaning, HasBytes, IsOther, IsPlain, KeepsPermissions, Names, Node, OthersKept, Passes, Touches, WritesOver}

-- the name has what it had, or these bytes whole
abbrev pub HasOldOrNew : (old : Names) → (name bytes : List ℕ) → Names → Type 0
HasOldOrNew old name bytes names = (names name ≡ old name) ⊎ HasBytes (names name) bytes

-- the name has the bytes and the permissions of what it had, and each other name what it had; and at each moment the name had
-- what it had, or the bytes whole
pub record Replaces (name bytes : List ℕ) (old new : DiskMeaning) : Type 0 where
  pub there : HasBytes (new.now name) bytes
  pub permissions : KeepsPermissions (old.now name) (new.now name)
  pub others : OthersKept old.now name new.now
  pub passes : Passes (HasOldOrNew old.now name bytes) old new

-- the name has what it had, and so has each other name but one at most, which had nothing: the new file's, where it could not be
-- removed; and at each moment the name had what it had, or the bytes whole
pub record Leaves (name bytes : List ℕ) (old new : DiskMeaning) : Type 0 where
  pub stays : new.now name ≡ old.now name
  pub kept : (other : List ℕ) (node : Node) → old.now other ≡ Some node → new.now other ≡ Some node
  pub one : (part : List ℕ) × OthersKept old.now part new.now
  pub passes : Passes (HasOldOrNew old.now name bytes) old new

-- a plain file is replaced whole, or left as it was; what is none is written where it stands
abbrev pub Written : (name bytes : List ℕ) → (old new : DiskMeaning) → Type 0
Written name bytes old new = Replaces name bytes old new ⊎ (IsOther (old.now name) × WritesOver name bytes old new)

abbrev pub Unwritten : (name bytes : List ℕ) → (old new : DiskMeaning) → Type 0
Unwritten name bytes old new = Leaves name bytes old new ⊎ (IsOther (old.now name) × Touches name old new)

-- what a write does that was done, or that failed
abbrev pub WritesFile : {T E : Type 0} → Result T E → (name bytes : List ℕ) → (old new : DiskMeaning) → Type 0
WritesFile result name bytes old new = MatchResult result (λ _. Written name bytes old new) (λ _. Unwritten name bytes old new)

-- ---- on the way

-- these permissions, if any, are those of what stands there, and there is nothing where there are none
abbrev pub AreOf : Option Permissions → Option Node → Type 0
AreOf None node = node ≡ None
AreOf (Some permissions) node = IsPlain node (permissions_mode permissions)

-- the name has what it had, at each moment, and so has each other name but the new file's
pub record Keeps (name bytes beside : List ℕ) (old new : DiskMeaning) : Type 0 where
  pub stays : new.now name ≡ old.now name
  pub others : OthersKept old.now beside new.now
  pub passes : Passes (HasOldOrNew old.now name bytes) old new

-- the new file has taken the name
pub record TakesPlace (name bytes beside : List ℕ) (old new : DiskMeaning) : Type 0 where
  pub there : HasBytes (new.now name) bytes
  pub permissions : KeepsPermissions (old.now name) (new.now name)
  pub gone : new.now beside ≡ None
  pub others : (other : List ℕ) → other ≢ beside → other ≢ name → new.now other ≡ old.now other
  pub passes : Passes (HasOldOrNew old.now name bytes) old new

abbrev pub Places : {T E : Type 0} → Result T E → (name bytes beside : List ℕ) → (old new : DiskMeaning) → Type 0
Places result name bytes beside old new =
    MatchResult result (λ _. TakesPlace name bytes beside old new) (λ _. Keeps name bytes beside old new)

-- the new file, that has these bytes, takes the place of what has these permissions
abbrev pub PlacesBytes : {T E : Type 0} → Result T E → (name beside : List ℕ) → Option Permissions → (old new : DiskMeaning) → Type 0
PlacesBytes result name beside permissions old new = (bytes : List ℕ) → beside ≢ name → HasBytes (old.now beside) bytes
    → AreOf permissions (old.now name) → Places result name bytes beside old new

-- the name has the bytes whole, or what it had
abbrev pub Settles : {T E : Type 0} → Result T E → (name bytes : List ℕ) → (old new : DiskMeaning) → Type 0
Settles result name bytes old new = MatchResult result (λ _. Replaces name bytes old new) (λ _. Leaves name bytes old new)

-- where these are the permissions of what had the name, it has the bytes whole, or what it had
abbrev pub SettlesBy : {T E : Type 0} → Result T E → (name bytes : List ℕ) → Option Permissions → (old new : DiskMeaning) → Type 0
SettlesBy result name bytes permissions old new = AreOf permissions (old.now name) → Settles result name bytes old new
