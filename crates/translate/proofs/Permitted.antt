-- The accesses that a program's words need are those that code for the target's processors may make.
use Rattle.std.proofs.Common.{◌≡◌, ℕ, ◌%◌, refl, sym, ◌∙◌, subst, Some, Bool, true, false, eqb-true, inl, inr}
use Rattle.std.specs.Prelude.{◌==◌, ◌||◌, ◌&&◌, ◌⊎◌, if◌then◌else◌}
use Rattle.std.proofs.lemmas.Bool.{and_parts, or_cases}
use Rattle.vax_form.specs.declared.pages.Pages.{Pages}
use Rattle.vax_form.specs.declared.state.Reference.{Reference}
use Rattle.vax_form.specs.declared.state.RefKind.{RefKind}
use Rattle.vax_form.specs.declared.state.RefKind.TheVariants.{Read, Write, Add, SetBit, ClearBit, Put, Get}
use Rattle.alpha_meaning.specs.declared.access.AlphaKind.{AlphaKind}
use Rattle.alpha_meaning.specs.declared.access.AlphaKind.TheVariants.{Load, LoadLocked, Store, StoreConditional}
use Rattle.block_law.specs.Laws.{MoreKinds}
use Rattle.byte_sequences.specs.Promises.{bw_stored_bytes, stored_bytes}
use Rattle.image_meaning.specs.Permits.{any_kinds, by_store, bytes_written, is_whole, is_write, kinds_of}
use Rattle.image_meaning.specs.declared.target.Target.{Target}
use Rattle.image_meaning.specs.declared.target.Target.TheVariants.{Original, ByteWord}
use Rattle.program_codegen.specs.Accesses.{accesses_by, by_loads, by_locks, by_stored, by_stores, bw_by_loads, bw_by_stores, needed}
use Rattle.translate.specs.Compiled.{has_byte_word}

-- ---- without the byte-word extension they have 4 or 8 bytes
eight : (four eight : Bool) → eight ≡ true → (four || eight) ≡ true
eight true b e = refl
eight false b e = e

loads_are_whole : (kind : AlphaKind) (bytes : ℕ) → by_loads kind bytes ≡ true → (bytes == 4 || bytes == 8) ≡ true
loads_are_whole Load bytes e = e
loads_are_whole kind bytes e = absurd (cc e)

stores_are_whole : (kind : AlphaKind) (bytes : ℕ) → by_stores kind bytes ≡ true → (bytes == 4 || bytes == 8) ≡ true
stores_are_whole Load bytes e = absurd (cc e)
stores_are_whole Store bytes e = e
stores_are_whole LoadLocked bytes e = eight (bytes == 4) (bytes == 8) e
stores_are_whole StoreConditional bytes e = eight (bytes == 4) (bytes == 8) e

locks_are_whole : (kind : AlphaKind) (bytes : ℕ) → by_locks kind bytes ≡ true → (bytes == 4 || bytes == 8) ≡ true
locks_are_whole LoadLocked bytes e = eight (bytes == 4) (bytes == 8) e
locks_are_whole StoreConditional bytes e = eight (bytes == 4) (bytes == 8) e
locks_are_whole kind bytes e = absurd (cc e)

are_whole : (of : RefKind) (kind : AlphaKind) (bytes : ℕ) → accesses_by by_loads by_stores of kind bytes ≡ true → (bytes == 4 || bytes == 8) ≡ true
are_whole Read kind bytes e = loads_are_whole kind bytes e
are_whole (Write value) kind bytes e = stores_are_whole kind bytes e
are_whole (Add value) kind bytes e = locks_are_whole kind bytes e
are_whole (SetBit n) kind bytes e = locks_are_whole kind bytes e
are_whole (ClearBit n) kind bytes e = locks_are_whole kind bytes e
are_whole (Put byte) kind bytes e = absurd (cc e)
are_whole Get kind bytes e = absurd (cc e)

-- ---- with it a whole operand is one store
one_store : (count bytes : ℕ) → count ≡ bytes → (kind : AlphaKind) (n : ℕ) → by_stored (Some bytes) kind n ≡ true → by_store count kind n ≡ true
one_store count bytes same Store n e = subst (λ m. (n == m) ≡ true) (sym same) e
one_store count bytes same Load n e = absurd (cc e)
one_store count bytes same LoadLocked n e = absurd (cc e)
one_store count bytes same StoreConditional n e = absurd (cc e)

stored_whole : (count address bytes : ℕ) → count ≡ bytes → (bytes ≡ 1) ⊎ (bytes ≡ 2) → (address % bytes == 0) ≡ true → (kind : AlphaKind) (n : ℕ) → by_stored (bw_stored_bytes address bytes) kind n ≡ true → by_store count kind n ≡ true
stored_whole count address bytes same (inl one) even kind n e =
    one_store count 1 (same ∙ one) kind n (subst (λ m. by_stored (bw_stored_bytes address m) kind n ≡ true) one e)
stored_whole count address bytes same (inr two) even kind n e =
    let even_2 : (address % 2 == 0) ≡ true = subst (λ m. (address % m == 0) ≡ true) two even in
    one_store count 2 (same ∙ two) kind n
    (subst (λ whole. by_stored (if whole then Some 2 else stored_bytes address 2) kind n ≡ true) even_2 (subst (λ m. by_stored (bw_stored_bytes address m) kind n ≡ true) two e))

either_size : (bytes : ℕ) → (bytes == 1 || bytes == 2) ≡ true → (bytes ≡ 1) ⊎ (bytes ≡ 2)
either_size bytes e = by (or_cases (bytes == 1) (bytes == 2) e)
  where
    by : ((bytes == 1) ≡ true) ⊎ ((bytes == 2) ≡ true) → (bytes ≡ 1) ⊎ (bytes ≡ 2)
    by (inl one) = inl (eqb-true bytes 1 one)
    by (inr two) = inr (eqb-true bytes 2 two)

-- what the parts of `is_whole` say
pub record Whole (bytes : ℕ) (reference : Reference) : Type 0 where
  pub writes : is_write reference.kind ≡ true
  pub all : (reference.count == bytes) ≡ true
  pub size : (bytes == 1 || bytes == 2) ≡ true
  pub even : (reference.address % bytes == 0) ≡ true

whole_of : (bytes : ℕ) (reference : Reference) → is_whole bytes reference ≡ true → Whole bytes reference
whole_of bytes reference e =
    let a = and_parts (is_write reference.kind && reference.count == bytes && (bytes == 1 || bytes == 2)) (reference.address % bytes == 0) e in
    let b = and_parts (is_write reference.kind && reference.count == bytes) (bytes == 1 || bytes == 2) a.0 in
    let c = and_parts (is_write reference.kind) (reference.count == bytes) b.0 in
    record { writes = c.0; all = c.1; size = b.1; even = a.1 }

-- the accesses of a write are those of an operand that is stored as a whole
writes_whole : (bytes : ℕ) (reference : Reference) (of : RefKind) → is_write of ≡ true → (reference.count == bytes) ≡ true → (kind : AlphaKind) (n : ℕ)
    → accesses_by bw_by_loads (bw_by_stores bytes reference) of kind n ≡ true → by_stored (bw_stored_bytes reference.address bytes) kind n ≡ true
writes_whole bytes reference (Write value) is all kind n e =
    subst (λ whole. (if whole then by_stored (bw_stored_bytes reference.address bytes) else by_stores) kind n ≡ true) all e
writes_whole bytes reference Read is all kind n e = absurd (cc is)
writes_whole bytes reference (Add value) is all kind n e = absurd (cc is)
writes_whole bytes reference (SetBit bit) is all kind n e = absurd (cc is)
writes_whole bytes reference (ClearBit bit) is all kind n e = absurd (cc is)
writes_whole bytes reference (Put byte) is all kind n e = absurd (cc is)
writes_whole bytes reference Get is all kind n e = absurd (cc is)

by_whole : (address bytes : ℕ) (reference : Reference) (kind : AlphaKind) (n : ℕ) → needed true bytes reference kind n ≡ true
    → (if is_whole bytes reference then by_store reference.count else any_kinds address reference) kind n ≡ true
by_whole address bytes reference kind n e = by (is_whole bytes reference) refl
  where
    by : (whole : Bool) → is_whole bytes reference ≡ whole → (if whole then by_store reference.count else any_kinds address reference) kind n ≡ true
    by false is = refl
    by true is =
        let w = whole_of bytes reference is in
        stored_whole reference.count reference.address bytes (eqb-true reference.count bytes w.all) (either_size bytes w.size) w.even kind n
        (writes_whole bytes reference reference.kind w.writes w.all kind n e)

-- ---- for each target
pub permitted : (target : Target) (pages : Pages) (address bytes : ℕ) → bytes_written pages address ≡ bytes → MoreKinds (needed (has_byte_word target) bytes) (kinds_of target pages address)
permitted Original pages address bytes is = λ reference kind n may. are_whole reference.kind kind n may
permitted ByteWord pages address bytes is = λ reference kind n may.
    subst (λ m. (if is_whole m reference then by_store reference.count else any_kinds address reference) kind n ≡ true) (sym is) (by_whole address bytes reference kind n may)

-- where no operand is stored as a whole, so many bytes are written by the same accesses
pub permitted_long : (target : Target) (pages : Pages) (address bytes : ℕ) → bytes_written pages address ≡ 0 → MoreKinds (needed (has_byte_word target) bytes) (kinds_of target pages address)
permitted_long Original pages address bytes is = λ reference kind n may. are_whole reference.kind kind n may
permitted_long ByteWord pages address bytes is = λ reference kind n may.
    subst (λ m. (if is_whole m reference then by_store reference.count else any_kinds address reference) kind n ≡ true) (sym is)
    (subst (λ whole. (if whole then by_store reference.count else any_kinds address reference) kind n ≡ true) (sym (none_whole reference)) refl)
  where
    by : (a b d : Bool) → (a && b && (0 == 1 || 0 == 2) && d) ≡ false
    by true true d = refl
    by true false d = refl
    by false b d = refl

    none_whole : (reference : Reference) → is_whole 0 reference ≡ false
    none_whole reference = by (is_write reference.kind) (reference.count == 0) (reference.address % 0 == 0)
