-- References as accesses to aligned quadwords of memory.
use Rattle.std.specs.Prelude.{◌≡◌, ℕ, ◌+◌, ◌-◌, ◌*◌, ◌%◌, ◌^◌, true}
use Rattle.memory_core.specs.declared.entry.Change.{Change}
use Rattle.memory_core.specs.declared.entry.Change.TheVariants as changes
use Rattle.memory_core.specs.declared.entry.Kind.TheVariants as kinds
use Rattle.memory_core.specs.declared.entry.Entry.{Entry}
use Rattle.memory_core.specs.Bytes.{quad_of}
use Rattle.memory_core.specs.Changes.{changed}
use Rattle.memory_core.specs.Kinds.{is_memory}
use Rattle.vax_form.specs.declared.state.Reference.{Reference}
use Rattle.vax_form.specs.declared.state.RefKind.{RefKind}
use Rattle.vax_form.specs.declared.state.RefKind.TheVariants.{Read, Write, Add, SetBit, ClearBit, Put, Get}
use Rattle.vax_form.specs.References.{FitsQuadword}
use Rattle.block_law.specs.References.{reply_by}

-- the quadword at an address of a memory of bytes
abbrev pub quad_at : (byte : ℕ → ℕ) → (address : ℕ) → ℕ
quad_at byte address = quad_of (λ at. byte (address + at))

-- the byte of its quadword at which a reference begins
abbrev pub place_of : Reference → ℕ
place_of reference = reference.address % 8

-- the address of that quadword
abbrev pub quad_address : Reference → ℕ
quad_address reference = reference.address - reference.address % 8

-- so many bytes of a value from that byte of a quadword on
abbrev pub stored : (place count value : ℕ) → Change
stored place count value = changes.Bytes (2 ^ (place + count) - 2 ^ place) (value * 2 ^ (8 * place))

-- what a kind of reference to so many bytes from that byte on makes of the quadword
abbrev pub change_by : RefKind → (place count : ℕ) → Change
change_by Read place count = changes.Nothing
change_by (Write value) place count = stored place count value
change_by (Add value) place count = changes.AddWord place value
change_by (SetBit bit) place count = changes.SetBit (8 * place + bit)
change_by (ClearBit bit) place count = changes.ClearBit (8 * place + bit)
change_by (Put byte) place count = changes.Byte byte
change_by Get place count = changes.Nothing

-- what a reference makes of its quadword
abbrev pub change_of : Reference → Change
change_of reference = change_by reference.kind (place_of reference) reference.count

-- the reply to a reference whose access finds that
abbrev pub reply_found : Reference → (before : ℕ) → ℕ
reply_found reference before = reply_by reference.kind (place_of reference) reference.count before

-- the reply that an entry gives to its reference
abbrev pub reply_from : Reference → Entry → ℕ
reply_from reference e = reply_found reference e.before

-- an access to the reference's quadword, within which the reference is, that leaves it changed by the reference
pub record IsAccess (reference : Reference) (e : Entry) : Type 0 where
  pub memory : is_memory e.kind ≡ true
  pub fits : FitsQuadword reference
  pub quad : e.quad ≡ quad_address reference
  pub after : e.after ≡ changed (change_of reference) e.before

-- an entry that may stand for a reference of that kind: a PUT of its byte, a GET, else an access
abbrev pub IsOfKind : RefKind → Reference → Entry → Type 0
IsOfKind Read reference e = IsAccess reference e
IsOfKind (Write value) reference e = IsAccess reference e
IsOfKind (Add value) reference e = IsAccess reference e
IsOfKind (SetBit bit) reference e = IsAccess reference e
IsOfKind (ClearBit bit) reference e = IsAccess reference e
IsOfKind (Put byte) reference e = (e.kind ≡ kinds.Put) × (e.after ≡ byte)
IsOfKind Get reference e = e.kind ≡ kinds.Get

-- an entry that may stand for the reference
abbrev pub IsOf : Reference → Entry → Type 0
IsOf reference e = IsOfKind reference.kind reference e
