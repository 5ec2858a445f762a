-- A history against the references that were made. Both lists are newest first.
use Rattle.std.specs.Prelude.{◌≡◌, ℕ, ◌+◌, ◌<◌, ◌≤◌, ◌⊎◌, true, List, [], ◌∷◌, MatchBool}
use Rattle.std.specs.Int.{byte_at}
use Rattle.vax_form.specs.declared.state.Reference.{Reference}
use Rattle.vax_form.specs.declared.state.RefKind.{RefKind}
use Rattle.vax_form.specs.declared.state.RefKind.TheVariants.{Read, Write, Add, SetBit, ClearBit, Put, Get}
use Rattle.memory_core.specs.declared.entry.Kind.TheVariants as kinds
use Rattle.memory_core.specs.declared.entry.Entry.{Entry}
use Rattle.memory_core.specs.Kinds.{is_memory}
use Rattle.vax_form.specs.References.{changed, byte_count}
use Rattle.vax_form.specs.Made.{Made, bytes_after}
use Rattle.system_model.specs.Counted.{is_counted}
use Rattle.system_model.specs.Quadwords.{quad_at, place_of, quad_address}

-- the counted entries and the references stand in step, and that holds of each entry, its reference and the references
-- before it
abbrev pub InStep : (Entry → Made → List Made → Type 0) → List Entry → List Made → Type 0
InStep Holds [] [] = Unit {0}
InStep Holds [] (m ∷ made) = ⊥
InStep Holds (e ∷ past) made =
    MatchBool (is_counted e)
    ((m : Made) × (before : List Made) × (made ≡ m ∷ before) × Holds e m before × InStep Holds past before)
    (InStep Holds past made)

-- an access to the reference's quadword, with that quadword before and after the reference
pub record IsSameAccess (byte : ℕ → ℕ) (reference : Reference) (e : Entry) : Type 0 where
  pub memory : is_memory e.kind ≡ true
  pub quad : e.quad ≡ quad_address reference
  pub before : e.before ≡ quad_at byte e.quad
  pub after : e.after ≡ quad_at (changed reference byte) e.quad

-- by the kind of the reference: an access, a PUT of its byte, or a GET of its reply
abbrev pub IsSameKind : RefKind → (byte : ℕ → ℕ) → Made → Entry → Type 0
IsSameKind Read byte m e = IsSameAccess byte m.reference e
IsSameKind (Write value) byte m e = IsSameAccess byte m.reference e
IsSameKind (Add value) byte m e = IsSameAccess byte m.reference e
IsSameKind (SetBit bit) byte m e = IsSameAccess byte m.reference e
IsSameKind (ClearBit bit) byte m e = IsSameAccess byte m.reference e
IsSameKind (Put value) byte m e = (e.kind ≡ kinds.Put) × (e.after ≡ value)
IsSameKind Get byte m e = (e.kind ≡ kinds.Get) × (e.after ≡ m.reply)

-- the entry of a reference as it was made, where memory was so before: a PUT of its byte, a GET of its reply, else an
-- access to its quadword
pub record IsSame (byte : ℕ → ℕ) (m : Made) (e : Entry) : Type 0 where
  pub thread : e.processor ≡ m.thread
  pub kind : IsSameKind m.reference.kind byte m e

-- each counted entry is that of its reference, from the bytes before the first
abbrev pub Matches : (byte : ℕ → ℕ) → List Entry → List Made → Type 0
Matches byte entries made = InStep (λ e m past. IsSame (bytes_after byte past) m e) entries made

-- the bytes of an access that its reference doesn't name stand
abbrev pub KeepsOthers : Entry → Reference → Type 0
KeepsOthers e reference = is_memory e.kind ≡ true → (at : ℕ) → at < 8
    → (at < place_of reference) ⊎ (place_of reference + byte_count reference ≤ at) → byte_at at e.after ≡ byte_at at e.before

-- each counted access differs from what it found in bytes of its reference alone
abbrev pub KeepNeighbours : List Entry → List Made → Type 0
KeepNeighbours entries made = InStep (λ e m past. KeepsOthers e m.reference) entries made
