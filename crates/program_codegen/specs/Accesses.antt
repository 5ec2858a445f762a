-- By which accesses to memory the words of a program make its references.
use Rattle.std.specs.Prelude.{ℕ, ◌==◌, ◌||◌, Bool, true, false, Option, Some, None, if◌then◌else◌}
use Rattle.vax_form.specs.declared.state.Reference.{Reference}
use Rattle.vax_form.specs.declared.state.RefKind.{RefKind}
use Rattle.vax_form.specs.declared.state.RefKind.TheVariants.{Read, Write, Add, SetBit, ClearBit, Put, Get}
use Rattle.alpha_meaning.specs.declared.access.AlphaKind.TheVariants.{Load, LoadLocked, Store, StoreConditional}
use Rattle.alpha_meaning.specs.Pieces.{Kinds}
use Rattle.byte_sequences.specs.Promises.{bw_stored_bytes}

-- longwords and quadwords are loaded
abbrev pub by_loads : Kinds
by_loads Load bytes = bytes == 4 || bytes == 8
by_loads kind bytes = false

-- whole longwords and quadwords are stored; others are changed in their quadword, by a load-locked access and a store
-- conditional
abbrev pub by_stores : Kinds
by_stores Load bytes = false
by_stores Store bytes = bytes == 4 || bytes == 8
by_stores LoadLocked bytes = bytes == 8
by_stores StoreConditional bytes = bytes == 8

-- a quadword is changed by a load-locked access and a store conditional
abbrev pub by_locks : Kinds
by_locks LoadLocked bytes = bytes == 8
by_locks StoreConditional bytes = bytes == 8
by_locks kind bytes = false

-- a byte of the output or the input is no access
abbrev pub by_nothing : Kinds
by_nothing kind bytes = false

-- by the accesses of a read and of a write
abbrev pub accesses_by : (loads stores : Kinds) → RefKind → Kinds
accesses_by loads stores Read = loads
accesses_by loads stores (Write value) = stores
accesses_by loads stores (Add value) = by_locks
accesses_by loads stores (SetBit n) = by_locks
accesses_by loads stores (ClearBit n) = by_locks
accesses_by loads stores (Put byte) = by_nothing
accesses_by loads stores Get = by_nothing

-- ---- the byte-word extension
-- bytes and words are loaded, too
abbrev pub bw_by_loads : Kinds
bw_by_loads Load bytes = bytes == 1 || (bytes == 2 || (bytes == 4 || bytes == 8))
bw_by_loads kind bytes = false

-- by a store of so many bytes, or, where no number is told, in the quadword
abbrev pub by_stored : Option ℕ → Kinds
by_stored (Some count) Store bytes = bytes == count
by_stored (Some count) kind bytes = false
by_stored None kind bytes = by_locks kind bytes

-- a whole operand of so many bytes is stored by its size and place; a part of one that crosses is written as ever
abbrev pub bw_by_stores : (bytes : ℕ) → Reference → Kinds
bw_by_stores bytes reference =
    if reference.count == bytes then by_stored (bw_stored_bytes reference.address bytes) else by_stores

-- ---- both
-- what the words need for a reference of an instruction that writes an operand of so many bytes, without the byte-word
-- extension and with it
abbrev pub needed : (byte_word : Bool) (bytes : ℕ) → Reference → Kinds
needed false bytes reference = accesses_by by_loads by_stores reference.kind
needed true bytes reference = accesses_by bw_by_loads (bw_by_stores bytes reference) reference.kind
