-- By which accesses the words of each target read and write an operand, and that a block may make them.
use Rattle.std.proofs.Common.{◌≡◌, ℕ, ◌+◌, ◌-◌, ◌%◌, ◌^◌, ◌<◌, refl, sym, subst, arith, List, [], ◌∷◌, Option, Some, None, Bool, true, false, eq-eqb, ne_eqb, eqb-true}
use Rattle.std.specs.Prelude.{◌==◌, ◌&&◌, ◌||◌, nat_le, if◌then◌else◌}
use Rattle.std.proofs.lemmas.Bool.Decides.{nat_tests}
use Rattle.vt_words.specs.Quad.{IsCount, one as c1, two as c2, four as c4, eight as c8}
use Rattle.vax_form.specs.Parts.{parts}
use Rattle.vax_form.specs.declared.state.Reference.{Reference}
use Rattle.vax_form.specs.declared.state.RefKind.TheVariants as references
use Rattle.alpha_meaning.specs.declared.access.AlphaKind.{AlphaKind}
use Rattle.alpha_meaning.specs.declared.access.AlphaKind.TheVariants.{Load, LoadLocked, Store, StoreConditional}
use Rattle.alpha_meaning.specs.Pieces.{Kinds}
use Rattle.micro_ops.specs.declared.program.LockedOp.{LockedOp}
use Rattle.micro_ops.specs.declared.program.LockedOp.TheVariants.{AddWord, SetBit, ClearBit}
use Rattle.micro_ops.specs.Meaning.{locked_count, locked_kind}
use Rattle.byte_sequences.specs.Instructions.{IsArgument}
use Rattle.byte_sequences.specs.Promises.{ReadsPlan, WritesPlan, loaded_bytes, bw_loaded_bytes, stored_bytes, bw_stored_bytes}
use Rattle.byte_sequences.proofs.ByteWordLaws.{bw_reads, bw_writes}
use Rattle.byte_sequences.proofs.ReadLaws.{reads}
use Rattle.byte_sequences.proofs.WriteLaws.{writes}
use Rattle.block_law.specs.Laws.{MoreKinds}
use Rattle.program_codegen.specs.Accesses.{by_loads, bw_by_loads, by_stores, by_stored, by_locks, needed}
use Rattle.program_codegen.specs.Words.{read_by, write_by}

-- ---- by target
abbrev pub loads_of : (byte_word : Bool) → Kinds
loads_of false = by_loads
loads_of true = bw_by_loads

abbrev pub loaded_of : (byte_word : Bool) (address count : ℕ) → ℕ
loaded_of false = loaded_bytes
loaded_of true = bw_loaded_bytes

abbrev pub stores_of : (byte_word : Bool) (address count : ℕ) → Kinds
stores_of false address count = by_stores
stores_of true address count = by_stored (bw_stored_bytes address count)

abbrev pub stored_of : (byte_word : Bool) (address count : ℕ) → Option ℕ
stored_of false = stored_bytes
stored_of true = bw_stored_bytes

pub reads_by : (byte_word : Bool) (place count to : ℕ) → IsCount count → IsArgument place → IsArgument to → ReadsPlan (loaded_of byte_word) place count to (read_by byte_word place count to)
reads_by false = reads
reads_by true = bw_reads

pub writes_by : (byte_word : Bool) (place count from : ℕ) → IsCount count → IsArgument place → IsArgument from → WritesPlan (stored_of byte_word) place count from (write_by byte_word place count from)
writes_by false = writes
writes_by true = bw_writes

-- ---- the accesses of the words
pub load_kinds : (byte_word : Bool) (address : ℕ) {count : ℕ} → IsCount count → loads_of byte_word Load (loaded_of byte_word address count) ≡ true
load_kinds false address c1 = refl
load_kinds false address c2 = refl
load_kinds false address c4 = by (address % 4 == 0)
  where
    by : (aligned : Bool) → by_loads Load (if aligned then 4 else 8) ≡ true
    by true = refl
    by false = refl
load_kinds false address c8 = refl
load_kinds true address c1 = refl
load_kinds true address c2 = by (address % 2 == 0)
  where
    by : (even : Bool) → bw_by_loads Load (if even then 2 else 8) ≡ true
    by true = refl
    by false = refl
load_kinds true address c4 = by (address % 4 == 0)
  where
    by : (aligned : Bool) → bw_by_loads Load (if aligned then 4 else 8) ≡ true
    by true = refl
    by false = refl
load_kinds true address c8 = refl

-- the store is one of these, or, where none is told, the loop's accesses are
abbrev pub SomeStore : Kinds → Option ℕ → Type 0
SomeStore kinds (Some bytes) = kinds Store bytes ≡ true
SomeStore kinds None = (kinds LoadLocked 8 ≡ true) × (kinds StoreConditional 8 ≡ true)

its_store : (stored : Option ℕ) → SomeStore (by_stored stored) stored
its_store (Some bytes) = eq-eqb bytes bytes refl
its_store None = (refl, refl)

whole_store : (whole longs : Bool) → SomeStore by_stores (if whole then Some 8 else if longs then Some 4 else None)
whole_store true longs = refl
whole_store false true = refl
whole_store false false = (refl, refl)

pub store_kinds : (byte_word : Bool) (address count : ℕ) → SomeStore (stores_of byte_word address count) (stored_of byte_word address count)
store_kinds false address count = whole_store (count == 8 && address % 8 == 0) (nat_le 4 count && address % 4 == 0)
store_kinds true address count = its_store (bw_stored_bytes address count)

-- ---- what a block may do
pub read_kinds : (byte_word : Bool) (bytes : ℕ) (each : Reference → Kinds) → MoreKinds (needed byte_word bytes) each → (address count : ℕ) (kind : AlphaKind) (n : ℕ) → loads_of byte_word kind n ≡ true
    → each (record { address = address; count = count; kind = references.Read }) kind n ≡ true
read_kinds false bytes each kinds address count = kinds (record { address = address; count = count; kind = references.Read })
read_kinds true bytes each kinds address count = kinds (record { address = address; count = count; kind = references.Read })

pub lock_kinds : (byte_word : Bool) (bytes : ℕ) (each : Reference → Kinds) → MoreKinds (needed byte_word bytes) each → (op : LockedOp) (address from : ℕ) (kind : AlphaKind) (n : ℕ) → by_locks kind n ≡ true
    → each (record { address = address; count = locked_count op; kind = locked_kind op from }) kind n ≡ true
lock_kinds false bytes each kinds AddWord address from = kinds (record { address = address; count = locked_count AddWord; kind = locked_kind AddWord from })
lock_kinds false bytes each kinds SetBit address from = kinds (record { address = address; count = locked_count SetBit; kind = locked_kind SetBit from })
lock_kinds false bytes each kinds ClearBit address from = kinds (record { address = address; count = locked_count ClearBit; kind = locked_kind ClearBit from })
lock_kinds true bytes each kinds AddWord address from = kinds (record { address = address; count = locked_count AddWord; kind = locked_kind AddWord from })
lock_kinds true bytes each kinds SetBit address from = kinds (record { address = address; count = locked_count SetBit; kind = locked_kind SetBit from })
lock_kinds true bytes each kinds ClearBit address from = kinds (record { address = address; count = locked_count ClearBit; kind = locked_kind ClearBit from })

-- the part may be written by these accesses, whatever is written
abbrev pub MayBe : Kinds → (Reference → Kinds) → ℕ × ℕ → Type 0
MayBe stores each part = (value : ℕ) (kind : AlphaKind) (n : ℕ) → stores kind n ≡ true → each (record { address = part.0; count = part.1; kind = references.Write value }) kind n ≡ true

abbrev pub Each : Kinds → (Reference → Kinds) → List (ℕ × ℕ) → Type 0
Each stores each [] = Unit {0}
Each stores each (part ∷ xs) = MayBe stores each part × Each stores each xs

-- ---- stores of parts that cross
-- by a longword, a quadword, or a loop
abbrev IsLong : Option ℕ → Type 0
IsLong (Some bytes) = (bytes == 4 || bytes == 8) ≡ true
IsLong None = Unit {0}

among : (stored : Option ℕ) → IsLong stored → (kind : AlphaKind) (n : ℕ) → by_stored stored kind n ≡ true → by_stores kind n ≡ true
among (Some bytes) long Store n e = subst (λ m. (m == 4 || m == 8) ≡ true) (sym (eqb-true n bytes e)) long
among (Some bytes) long Load n e = absurd (cc e)
among (Some bytes) long LoadLocked n e = absurd (cc e)
among (Some bytes) long StoreConditional n e = absurd (cc e)
among None long Load n e = absurd (cc e)
among None long Store n e = absurd (cc e)
among None long LoadLocked n e = e
among None long StoreConditional n e = e

odd : (a : ℕ) → 8 - a % 8 < 2 → (a % 2 == 0) ≡ false
odd a lt = ne_eqb (a % 2) 0 (λ (e : a % 2 ≡ 0). absurd (omega arith))

long_store : (address : ℕ) {count : ℕ} → IsCount count → 8 - address % 8 < count → IsLong (bw_stored_bytes address count)
long_store address c1 lt = absurd (omega arith)
long_store address c2 lt = by (address % 2 == 0) (odd address lt)
  where
    by : (even : Bool) → even ≡ false → IsLong (if even then Some 2 else None)
    by true e = absurd (cc e)
    by false e = tt
long_store address c4 lt = by (address % 4 == 0)
  where
    by : (longs : Bool) → IsLong (if longs then Some 4 else None)
    by true = refl
    by false = tt
long_store address c8 lt = by (address % 8 == 0) (address % 4 == 0)
  where
    by : (whole longs : Bool) → IsLong (if whole then Some 8 else if longs then Some 4 else None)
    by true longs = refl
    by false true = refl
    by false false = tt

-- ---- the parts of an operand that is written
module _ (bytes : ℕ) (each : Reference → Kinds) where
  any_part : MoreKinds (needed false bytes) each → (part : ℕ × ℕ) → MayBe by_stores each part
  any_part kinds part value = kinds (record { address = part.0; count = part.1; kind = references.Write value })

  whole_part : MoreKinds (needed true bytes) each → (address : ℕ) → MayBe (by_stored (bw_stored_bytes address bytes)) each (address, bytes)
  whole_part kinds address value kind n e =
      kinds (record { address = address; count = bytes; kind = references.Write value }) kind n
      (subst (λ whole. (if whole then by_stored (bw_stored_bytes address bytes) else by_stores) kind n ≡ true) (sym (eq-eqb bytes bytes refl)) e)

  crossing_part : MoreKinds (needed true bytes) each → (stored : Option ℕ) → IsLong stored → (part : ℕ × ℕ) → (part.1 == bytes) ≡ false → MayBe (by_stored stored) each part
  crossing_part kinds stored long part not_whole value kind n e =
      kinds (record { address = part.0; count = part.1; kind = references.Write value }) kind n
      (subst (λ whole. (if whole then by_stored (bw_stored_bytes part.0 bytes) else by_stores) kind n ≡ true) (sym not_whole) (among stored long kind n e))

  pub write_kinds : (byte_word : Bool) → MoreKinds (needed byte_word bytes) each → (address : ℕ) → IsCount bytes → Each (stores_of byte_word address bytes) each (parts address bytes)
  write_kinds false kinds address is = by (bytes == 0) (nat_le bytes (8 - address % 8))
    where
      by : (none in_one : Bool)
          → Each by_stores each (if none then [] else if in_one then (address, bytes) ∷ [] else (address, 8 - address % 8) ∷ ((address + (8 - address % 8)) % 2 ^ 32, bytes - (8 - address % 8)) ∷ [])
      by true in_one = tt
      by false true = (any_part kinds (address, bytes), tt)
      by false false = (any_part kinds (address, 8 - address % 8), (any_part kinds ((address + (8 - address % 8)) % 2 ^ 32, bytes - (8 - address % 8)), tt))
  write_kinds true kinds address is = by (bytes == 0) (nat_le bytes (8 - address % 8)) refl
    where
      by : (none in_one : Bool) → nat_le bytes (8 - address % 8) ≡ in_one
          → Each (by_stored (bw_stored_bytes address bytes)) each (if none then [] else if in_one then (address, bytes) ∷ [] else (address, 8 - address % 8) ∷ ((address + (8 - address % 8)) % 2 ^ 32, bytes - (8 - address % 8)) ∷ [])
      by true in_one e = tt
      by false true e = (whole_part kinds address, tt)
      by false false e =
          let crosses : 8 - address % 8 < bytes = crossing bytes (8 - address % 8) e in
          let long = long_store address is crosses in (
            crossing_part kinds (bw_stored_bytes address bytes) long (address, 8 - address % 8) (ne_eqb (8 - address % 8) bytes (λ (e : 8 - address % 8 ≡ bytes). absurd (omega arith))),
            (crossing_part kinds (bw_stored_bytes address bytes) long ((address + (8 - address % 8)) % 2 ^ 32, bytes - (8 - address % 8)) (ne_eqb (bytes - (8 - address % 8)) bytes (λ (e : bytes - (8 - address % 8) ≡ bytes). absurd (omega arith))), tt),
          )
        where
          crossing : (a b : ℕ) → nat_le a b ≡ false → b < a
          crossing a b e = grind (arith, nat_tests, e)
