-- The words that read and write an operand with the byte-word extension.
use Rattle.std.proofs.Common.{◌≡◌, ℕ, ◌+◌, ◌-◌, ◌*◌, ◌/◌, ◌%◌, ◌^◌, ◌<◌, ◌≤◌, refl, sym, subst, arith, Bool, true, false, eqb-true, lit<, lit≤, Option, Some, None}
use Rattle.std.specs.Prelude.{pos, ◌==◌, All, if◌then◌else◌}
use Rattle.std.proofs.lemmas.Nat.{mod_below, pow_pos}
use Rattle.std.proofs.lemmas.Bool.Decides.{nat_tests}
use Rattle.vt_words.specs.Quad.{IsCount, one as c1, two as c2, four as c4, eight as c8, field_of, with_field_of}
use Rattle.alpha_encode.specs.declared.instr.MemoryOp.TheVariants.{Ldbu, Ldwu, Stb, Stw}
use Rattle.alpha_encode.specs.declared.instr.BranchOp.TheVariants.{Blbs, Br}
use Rattle.alpha_encode.specs.declared.instr.AlphaInstr.TheVariants.{Memory, Branch}
use Rattle.alpha_meaning.specs.declared.access.AlphaKind.TheVariants.{Load, Store}
use Rattle.alpha_meaning.specs.State.{Regs, put, at_place}
use Rattle.alpha_meaning.specs.Act.{target_of}
use Rattle.alpha_meaning.specs.Result.{plus}
use Rattle.alpha_meaning.specs.Pieces.{Fetch, Terms, Over, Plain, Piece, Runs, HasAt, piece}
use Rattle.alpha_meaning.proofs.Rules.{Always, done, roomy, goes, passes, skips, load, store, put_only, changed_low}
use Rattle.alpha_meaning.proofs.Registers.{eqb_self, put_same}
use Rattle.byte_sequences.specs.Instructions.{IsArgument, is_scratch_or}
use Rattle.byte_sequences.specs.Words.{bw_word_read, bw_read_code, bw_word_write, bw_write_code}
use Rattle.byte_sequences.specs.Plans.{quad_of_part, read_plan, write_plan}
use Rattle.byte_sequences.specs.Promises.{Holds, Keeps, MayRead, MayWrite, MayStore, ReadsPlan, WritesPlan, bw_loaded_bytes, bw_stored_bytes}
use Rattle.byte_sequences.proofs.Operands.{other, lies_within, parts_by, byte_within}
use Rattle.byte_sequences.proofs.ReadLaws.{reads, word_reads}
use Rattle.byte_sequences.proofs.WriteLaws.{writes, any_is}

-- ---- even addresses
even_within : (a : ℕ) → a % 2 ≡ 0 → lies_within a 2 ≡ true
even_within a h = let le : 2 ≤ 8 - a % 8 = omega arith in grind (arith, nat_tests, le)

odd_is : (a : ℕ) → (a % 2 == 0) ≡ false → a % 2 ≡ 1
odd_is a h = grind (arith, nat_tests, h)

-- ---- reads
module _ (fetch : Fetch) (terms : Terms) (pc : ℕ) (f : Regs) (place to : ℕ) (a_place : IsArgument place) (a_to : IsArgument to) (fits : f place < 2 ^ 32) where
  same_place : plus (f place) 0 ≡ f place
  same_place = omega arith

  -- what a load leaves
  behind : (c v : ℕ) → v < 2 ^ (8 * c) → Holds f to c v (put f to v)
  behind c v range = record {
    holds = put_same f to v (other to 31 a_to (lit< tt));
    fits = range;
    only = put_only (is_scratch_or to) f f to v (rw (eqb_self to) refl) (λ n _. refl);
  }

  behind_load : (c b : ℕ) → Holds f to c (field_of b (f place % 8) c) (put f to (field_of b (plus (f place) 0 % 8) c))
  behind_load c b =
      subst (λ a. Holds f to c (field_of b (f place % 8) c) (put f to (field_of b (a % 8) c))) (sym same_place)
      (behind c (field_of b (f place % 8) c) (mod_below _ (2 ^ (8 * c)) (pow_pos (8 * c))))

  bw_byte_reads : terms.allowed false (f place / 8 * 8) ≡ true → terms.kinds Load 1 ≡ true → HasAt fetch pc (bw_read_code place 1 to) → (most : ℕ)
      → Always (piece fetch terms pc (pc + 1)) (Holds f to 1) most 1 Plain (at_place f pc) (read_plan (parts_by true (f place) 1))
  bw_byte_reads page kind has most =
      let p = piece fetch terms pc (pc + 1) in
      load p (Holds f to 1) most 0 (at_place f pc) (Memory Ldbu to place (pos 0)) (plus (f place) 0) 1 (f place / 8 * 8) (λ b. b) _ has.0 refl (omega arith) (omega arith) (omega arith) (rw same_place refl) page kind (λ b. refl)
      (λ b lt. done p (Holds f to 1) most (at_place (put f to (field_of b (plus (f place) 0 % 8) 1)) (pc + 1)) (field_of b (f place % 8) 1) refl (behind_load 1 b))

  module _ (low : pc + 12 ≤ 2 ^ 23) (may : MayRead bw_loaded_bytes terms (f place) 2) (has : HasAt fetch pc (bw_word_read place to)) where
    abbrev read_piece : Piece
    read_piece = piece fetch terms pc (pc + 12)

    load_kind : (b : Bool) → (f place % 2 == 0) ≡ b → terms.kinds Load (if b then 2 else 8) ≡ true
    load_kind b e = subst (λ b. terms.kinds Load (if b then 2 else 8) ≡ true) e may.loads

    even_reads : (most : ℕ) → f place % 2 ≡ 0 → terms.kinds Load 2 ≡ true → terms.allowed false (f place / 8 * 8) ≡ true → Always read_piece (Holds f to 2) most 3 Plain (at_place f pc) (read_plan (parts_by true (f place) 2))
    even_reads most even kind page =
        let end : target_of (pc + 1 + 1) (pos 9) ≡ pc + 12 = omega arith in
        passes read_piece (Holds f to 2) most 2 Plain (at_place f pc) Blbs place (pos 2) _ has.0 (rw even refl) (omega arith) (omega arith)
        (load read_piece (Holds f to 2) most 1 (at_place f (pc + 1)) (Memory Ldwu to place (pos 0)) (plus (f place) 0) 2 (f place / 8 * 8) (λ b. b) _ has.1.0 refl (omega arith) (omega arith) (rw same_place even) (rw same_place refl) page kind (λ b. refl)
        (λ b lt. goes read_piece (Holds f to 2) most 0 Plain (at_place (put f to (field_of b (plus (f place) 0 % 8) 2)) (pc + 1 + 1)) (at_place (put f to (field_of b (plus (f place) 0 % 8) 2)) (pc + 12)) (Branch Br 31 (pos 9)) (Over (field_of b (f place % 8) 2)) has.1.1.0 (rw end refl) (omega arith) (omega arith) (omega arith)
        (done read_piece (Holds f to 2) most (at_place (put f to (field_of b (plus (f place) 0 % 8) 2)) (pc + 12)) (field_of b (f place % 8) 2) refl (behind_load 2 b))))

    bw_word_reads : (most : ℕ) (b : Bool) → (f place % 2 == 0) ≡ b → Always read_piece (Holds f to 2) most 12 Plain (at_place f pc) (read_plan (parts_by (lies_within (f place) 2) (f place) 2))
    bw_word_reads most true e =
        let even = eqb-true (f place % 2) 0 e in
        let inside = even_within (f place) even in
        let pages = subst (λ b. All (λ part. terms.allowed false (quad_of_part part) ≡ true) (parts_by b (f place) 2)) inside may.pages in
        subst (λ b. Always read_piece (Holds f to 2) most 12 Plain (at_place f pc) (read_plan (parts_by b (f place) 2))) (sym inside)
        (roomy read_piece (Holds f to 2) most 3 12 Plain (at_place f pc) _ (lit≤ tt) (even_reads most even (load_kind true e) (pages 0 (0, 0) (lit< tt))))
    bw_word_reads most false e =
        let there : target_of pc (pos 2) ≡ pc + 1 + 1 + 1 = omega arith in
        roomy read_piece (Holds f to 2) most 10 12 Plain (at_place f pc) _ (lit≤ tt)
        (skips read_piece (Holds f to 2) most 9 Plain (at_place f pc) Blbs place (pos 2) (pc + 1 + 1 + 1) _ has.0 refl (rw (odd_is (f place) e) refl) there (omega arith) (omega arith) (omega arith)
        (word_reads read_piece (pc + 1 + 1 + 1) f place to a_place a_to low (omega arith) (omega arith) fits may.within may.pages (load_kind false e) has.1.1.1 most))

pub bw_reads : (place count to : ℕ) → IsCount count → IsArgument place → IsArgument to → ReadsPlan bw_loaded_bytes place count to (bw_read_code place count to)
bw_reads place count to c1 a_place a_to fetch terms pc f low may has n =
    let within = may.within in
    let pages = subst (λ b. All (λ part. terms.allowed false (quad_of_part part) ≡ true) (parts_by b (f place) 1)) (byte_within (f place)) may.pages in
    subst (λ b. Runs (piece fetch terms pc (pc + 1)) (Holds f to 1) n Plain 1 (at_place f pc) (read_plan (parts_by b (f place) 1))) (sym (byte_within (f place)))
    (bw_byte_reads fetch terms pc f place to a_place a_to (omega arith) (pages 0 (0, 0) (lit< tt)) may.loads has n n 1 (omega arith) (lit≤ tt))
bw_reads place count to c2 a_place a_to fetch terms pc f low may has n =
    bw_word_reads fetch terms pc f place to a_place a_to (let within = may.within in omega arith) low may has n (f place % 2 == 0) refl n 12 (omega arith) (lit≤ tt)
bw_reads place count to c4 a_place a_to fetch terms pc f low may has n =
    reads place 4 to c4 a_place a_to fetch terms pc f low (record { within = may.within; pages = may.pages; loads = may.loads }) has n
bw_reads place count to c8 a_place a_to fetch terms pc f low may has n =
    reads place 8 to c8 a_place a_to fetch terms pc f low (record { within = may.within; pages = may.pages; loads = may.loads }) has n

-- ---- writes
module _ (fetch : Fetch) (terms : Terms) (pc : ℕ) (f : Regs) (place from : ℕ) (a_place : IsArgument place) (a_from : IsArgument from) (fits : f place < 2 ^ 32) where
  place_same : plus (f place) 0 ≡ f place
  place_same = omega arith

  stored_low : (c b : ℕ) → with_field_of b (plus (f place) 0 % 8) c (f from % 2 ^ (8 * c)) ≡ with_field_of b (f place % 8) c (f from)
  stored_low c b = rw place_same (changed_low b (f place % 8) c (f from))

  bw_byte_writes : terms.allowed true (f place / 8 * 8) ≡ true → terms.kinds Store 1 ≡ true → HasAt fetch pc (bw_write_code place 1 from) → (most : ℕ)
      → Always (piece fetch terms pc (pc + 1)) (Keeps f) most 1 Plain (at_place f pc) (write_plan (parts_by true (f place) 1) (f from))
  bw_byte_writes page kind has most =
      let p = piece fetch terms pc (pc + 1) in
      store p (Keeps f) most 0 (at_place f pc) (Memory Stb from place (pos 0)) (plus (f place) 0) 1 (f from % 2 ^ 8) (f place / 8 * 8) _ (λ _. Over tt) has.0 refl (omega arith) (omega arith) (omega arith) (rw place_same refl) page kind (λ b lt. stored_low 1 b)
      (λ b lt. done p (Keeps f) most (at_place f (pc + 1)) tt refl (record { only = λ n _. refl }))

  module _ (low : pc + 20 ≤ 2 ^ 23) (may : MayWrite bw_stored_bytes terms (f place) 2) (has : HasAt fetch pc (bw_word_write place from)) where
    abbrev write_piece : Piece
    write_piece = piece fetch terms pc (pc + 20)

    -- how a word may be stored
    abbrev stored_2 : Bool → Option ℕ
    stored_2 b = if b then Some 2 else None

    store_kind : (b : Bool) → (f place % 2 == 0) ≡ b → MayStore terms (stored_2 b)
    store_kind b e = subst (λ b. MayStore terms (stored_2 b)) e may.stores

    even_writes : (most : ℕ) → f place % 2 ≡ 0 → terms.kinds Store 2 ≡ true → terms.allowed true (f place / 8 * 8) ≡ true → Always write_piece (Keeps f) most 3 Plain (at_place f pc) (write_plan (parts_by true (f place) 2) (f from))
    even_writes most even kind page =
        let end : target_of (pc + 1 + 1) (pos 17) ≡ pc + 20 = omega arith in
        passes write_piece (Keeps f) most 2 Plain (at_place f pc) Blbs place (pos 2) _ has.0 (rw even refl) (omega arith) (omega arith)
        (store write_piece (Keeps f) most 1 (at_place f (pc + 1)) (Memory Stw from place (pos 0)) (plus (f place) 0) 2 (f from % 2 ^ 16) (f place / 8 * 8) _ (λ _. Over tt) has.1.0 refl (omega arith) (omega arith) (rw place_same even) (rw place_same refl) page kind (λ b lt. stored_low 2 b)
        (λ b lt. goes write_piece (Keeps f) most 0 Plain (at_place f (pc + 1 + 1)) (at_place f (pc + 20)) (Branch Br 31 (pos 17)) (Over tt) has.1.1.0 (rw end refl) (omega arith) (omega arith) (omega arith)
        (done write_piece (Keeps f) most (at_place f (pc + 20)) tt refl (record { only = λ n _. refl }))))

    bw_word_writes : (most : ℕ) (b : Bool) → (f place % 2 == 0) ≡ b → Always write_piece (Keeps f) most 20 Plain (at_place f pc) (write_plan (parts_by (lies_within (f place) 2) (f place) 2) (f from))
    bw_word_writes most true e =
        let even = eqb-true (f place % 2) 0 e in
        let inside = even_within (f place) even in
        let pages = subst (λ b. All (λ part. terms.allowed true (quad_of_part part) ≡ true) (parts_by b (f place) 2)) inside may.pages in
        subst (λ b. Always write_piece (Keeps f) most 20 Plain (at_place f pc) (write_plan (parts_by b (f place) 2) (f from))) (sym inside)
        (roomy write_piece (Keeps f) most 3 20 Plain (at_place f pc) _ (lit≤ tt) (even_writes most even (store_kind true e) (pages 0 (0, 0) (lit< tt))))
    bw_word_writes most false e =
        let there : target_of pc (pos 2) ≡ pc + 1 + 1 + 1 = omega arith in
        roomy write_piece (Keeps f) most 18 20 Plain (at_place f pc) _ (lit≤ tt)
        (skips write_piece (Keeps f) most 17 Plain (at_place f pc) Blbs place (pos 2) (pc + 1 + 1 + 1) _ has.0 refl (rw (odd_is (f place) e) refl) there (omega arith) (omega arith) (omega arith)
        (any_is write_piece f place from a_place a_from low fits 2 c2 may.within (store_kind false e) may.pages may.readable most (pc + 1 + 1 + 1) f (λ n _. refl) has.1.1.1 (omega arith) (omega arith)))

pub bw_writes : (place count from : ℕ) → IsCount count → IsArgument place → IsArgument from → WritesPlan bw_stored_bytes place count from (bw_write_code place count from)
bw_writes place count from c1 a_place a_from fetch terms pc f low may has n =
    let within = may.within in
    let pages = subst (λ b. All (λ part. terms.allowed true (quad_of_part part) ≡ true) (parts_by b (f place) 1)) (byte_within (f place)) may.pages in
    subst (λ b. Runs (piece fetch terms pc (pc + 1)) (Keeps f) n Plain 1 (at_place f pc) (write_plan (parts_by b (f place) 1) (f from))) (sym (byte_within (f place)))
    (bw_byte_writes fetch terms pc f place from a_place a_from (omega arith) (pages 0 (0, 0) (lit< tt)) may.stores has n n 1 (omega arith) (lit≤ tt))
bw_writes place count from c2 a_place a_from fetch terms pc f low may has n =
    bw_word_writes fetch terms pc f place from a_place a_from (let within = may.within in omega arith) low may has n (f place % 2 == 0) refl n 20 (omega arith) (lit≤ tt)
bw_writes place count from c4 a_place a_from fetch terms pc f low may has n =
    writes place 4 from c4 a_place a_from fetch terms pc f low (record { within = may.within; pages = may.pages; readable = may.readable; stores = may.stores }) has n
bw_writes place count from c8 a_place a_from fetch terms pc f low may has n =
    writes place 8 from c8 a_place a_from fetch terms pc f low (record { within = may.within; pages = may.pages; readable = may.readable; stores = may.stores }) has n
