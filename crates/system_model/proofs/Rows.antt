-- The definitions at worked rows.
use Rattle.std.proofs.Common.{◌≡◌, ℕ, true, false, Bool, [], ◌∷◌, refl}
use Rattle.vax_driven.proofs.Rows.{at, pick}
use Rattle.vax_form.specs.declared.state.RefKind.TheVariants.{Read, Write, Add, SetBit, ClearBit, Get}
use Rattle.memory_core.specs.declared.entry.Entry.{Entry}
use Rattle.memory_core.specs.declared.entry.Kind.{Kind}
use Rattle.memory_core.specs.declared.entry.Kind.TheVariants as kinds
use Rattle.memory_core.specs.Bytes.{with_bytes}
use Rattle.memory_core.specs.Changes.{changed}
use Rattle.system_model.specs.Counted.{order}
use Rattle.system_model.specs.Quadwords.{quad_address, change_of, reply_found}

abbrev entry : (processor retired : ℕ) → Kind → (success : Bool) → Entry
entry processor retired kind success =
    record { retired = retired; before = 0; after = 0; quad = 0x1000; processor = processor; kind = kind; success = success }

-- a byte is stored by two processors, the first of which fails once
stores : order (entry 0 2 kinds.LoadLocked true ∷ entry 1 7 kinds.LoadLocked true ∷ entry 1 7 kinds.StoreConditional true
    ∷ entry 0 2 kinds.StoreConditional false ∷ entry 0 2 kinds.LoadLocked true ∷ entry 0 2 kinds.StoreConditional true ∷ [])
    ≡ pick 1 7 ∷ pick 0 2 ∷ []
stores = refl

-- a PUT, an interpreted write and a GET
others : order (entry 0 1 kinds.Put true ∷ entry 1 0 kinds.TieWrite true ∷ entry 0 3 kinds.Get true ∷ []) ≡ pick 0 1 ∷ pick 1 0 ∷ pick 0 3 ∷ []
others = refl

quad : quad_address (at Read 0x1003 1) ≡ 0x1000
quad = refl

-- byte EE at 1003
third_byte : changed (change_of (at (Write 0xEE) 0x1003 1)) 0xA7A6A5A4A3A2A1A0 ≡ 0xA7A6A5A4EEA2A1A0
unfolding with_bytes
third_byte = refl

-- the last byte of a quadword and the first of the next
last_byte : changed (change_of (at (Write 0xDD) 0x1007 1)) 0 ≡ 0xDD00000000000000
unfolding with_bytes
last_byte = refl

next_byte : changed (change_of (at (Write 0xEE) 0x1008 1)) 0 ≡ 0xEE
unfolding with_bytes
next_byte = refl

long : changed (change_of (at (Write 0x11223344) 0x1002 4)) 0xFFFFFFFFFFFFFFFF ≡ 0xFFFF11223344FFFF
unfolding with_bytes
long = refl

-- FFFF added to the word A5A4
sum : changed (change_of (at (Add 0xFFFF) 0x1004 2)) 0xA7A6A5A4A3A2A1A0 ≡ 0xA7A6A5A3A3A2A1A0
unfolding with_bytes
sum = refl

set : changed (change_of (at (SetBit 6) 0x1001 1)) 0xA7A6A5A4A3A2A1A0 ≡ 0xA7A6A5A4A3A2E1A0
set = refl

clear : changed (change_of (at (ClearBit 7) 0x1001 1)) 0xA7A6A5A4A3A2A1A0 ≡ 0xA7A6A5A4A3A221A0
clear = refl

read : reply_found (at Read 0x1002 2) 0xA7A6A5A4A3A2A1A0 ≡ 0xA3A2
read = refl

word : reply_found (at (Add 1) 0x1004 2) 0xA7A6A5A4A3A2A1A0 ≡ 0xA5A4
word = refl

bit : reply_found (at (SetBit 6) 0x1001 1) 0xA7A6A5A4A3A2A1A0 ≡ 0xA1
bit = refl

got : reply_found (at Get 0 0) 0x41 ≡ 0x41
got = refl
