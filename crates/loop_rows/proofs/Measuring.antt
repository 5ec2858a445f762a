-- The block that reads the length of a string from memory, and then copies the string, follows its tree.
use Rattle.std.proofs.Common.{◌≡◌, ℕ, zero, suc, ◌+◌, ◌-◌, ◌*◌, ◌%◌, ◌^◌, ◌<◌, refl, sym, ap, ◌∙◌, subst, arith, add-zero, zero-add, List, [], ◌∷◌, ◌++◌, length, Option, Some, None, Bool, true, false, lit<, lit≤}
use Rattle.std.specs.Prelude.{nat_le, slice_get, slice_index, if◌then◌else◌}
use Rattle.std.proofs.lemmas.Bool.Decides.{nat_tests}
use Rattle.vt_words.specs.Quad.{sign_extended, two as c2}
use Rattle.vt_words.proofs.Longwords.{same_extended}
use Rattle.vax_form.specs.PageTable.{IsPageTable}
use Rattle.vax_form.specs.Pages.{first_bad}
use Rattle.vax_form.specs.Parts.{parts}
use Rattle.vax_form.specs.State.{with_pc}
use Rattle.vax_form.specs.Tree.{Tree, Check, Ask}
use Rattle.vax_form.specs.declared.pages.Pages.{Pages}
use Rattle.vax_form.specs.declared.state.Flags.{Flags}
use Rattle.vax_form.specs.declared.state.RefKind.TheVariants.{Read}
use Rattle.vax_form.specs.declared.state.VaxState.{VaxState}
use Rattle.alpha_encode.specs.declared.instr.AlphaInstr.{AlphaInstr}
use Rattle.alpha_encode.specs.declared.instr.AlphaInstr.TheVariants.{Operate, Pal}
use Rattle.alpha_encode.specs.declared.instr.OperateOp.TheVariants.{Addq, Extll}
use Rattle.alpha_encode.specs.declared.instr.Second.TheVariants.{Register, Literal}
use Rattle.alpha_meaning.specs.State.{Regs, at_place}
use Rattle.alpha_meaning.specs.Loops.{effect}
use Rattle.alpha_meaning.specs.Pieces.{HasAt, Only, Plain}
use Rattle.byte_sequences.specs.Plans.{read_plan}
use Rattle.byte_sequences.specs.Promises.{Holds, MayRead, loaded_bytes}
use Rattle.byte_sequences.specs.Words.{read_code}
use Rattle.byte_sequences.proofs.ReadLaws.{reads}
use Rattle.micro_ops.specs.declared.known.Checked.TheVariants.{At}
use Rattle.exception_records.specs.Codes.{all_ready}
use Rattle.exception_records.specs.Shown.{Shows, registers_shown}
use Rattle.block_law.proofs.Laid.{has_each}
use Rattle.block_law.specs.Blocks.{is_exit_word}
use Rattle.block_law.specs.Follows.{Follows, LeadsTo}
use Rattle.block_law.specs.Placements.{Placement, InForm}
use Rattle.block_law.specs.Rounds.{block_steps, Round, new_round}
use Rattle.block_law.specs.Translations.{Code, placed, fetch_of}
use Rattle.block_law.proofs.Blocks.{Begins, piece_terms}
use Rattle.block_law.proofs.Rounds.{fits_spare}
use Rattle.block_law.proofs.Rules.{Always, IsAt, goes, probes, runs}
use Rattle.branch_layout.proofs.Filling.{has_by}
use Rattle.program_codegen.specs.Accesses.{by_loads}
use Rattle.program_codegen.proofs.Operands.{may_read, usable}
use Rattle.loop_rows.specs.Copying.{copied, copy_permit, loop_words}
use Rattle.loop_rows.specs.Measuring.{length_words, measured_meaning, measured_tree, measured_value, measured_words, word_point, word_read, Measures}
use Rattle.loop_rows.proofs.Copying.{Told}
use Rattle.loop_rows.proofs.Looping.{Here, address_into, copies_string, free_put, free_scratch, is_free}

-- ---- a word in its parts
abbrev word_parts : (address : ℕ) → (in_one : Bool) → List (ℕ × ℕ)
word_parts address in_one = if in_one then (address, 2) ∷ [] else (address, 1) ∷ ((address + 1) % 2 ^ 32, 1) ∷ []

parts_of_word : (address : ℕ) (in_one : Bool) → nat_le 2 (8 - address % 8) ≡ in_one → parts address 2 ≡ word_parts address in_one
parts_of_word address true e = rw e refl
parts_of_word address false e = let last : 8 - address % 8 ≡ 1 = grind (arith, nat_tests, e) in rw (e, last) refl

-- ---- the words of the front, and those behind it
in_front_of : (xs ys : List AlphaInstr) (k : ℕ) (i : AlphaInstr) → slice_get xs k ≡ Some i → slice_get (xs ++ ys) k ≡ Some i
in_front_of [] ys k i e = absurd (cc e)
in_front_of (x ∷ xs) ys zero i e = e
in_front_of (x ∷ xs) ys (suc k) i e = in_front_of xs ys k i e

behind_front : (xs ys : List AlphaInstr) (k : ℕ) → slice_get (xs ++ ys) (length xs + k) ≡ slice_get ys k
behind_front [] ys k = ap (slice_get ys) (zero-add k)
behind_front (x ∷ xs) ys k = let there : suc (length xs) + k ≡ suc (length xs + k) = omega arith in ap (slice_get (x ∷ (xs ++ ys))) there ∙ behind_front xs ys k

module _ (pages : Pages) (table : IsPageTable pages) (after : ℕ) (code : Code) (first thread : ℕ) (state : VaxState) (held : Flags) (address : ℕ) (start : Regs) where
  abbrev p : Placement
  p = placed (measured_meaning pages after) copy_permit code thread state held first

  abbrev In : Option Round
  In = Some new_round

  abbrev length_at : ℕ
  length_at = start 2 % 2 ^ 32

  abbrev strings : ℕ → Tree
  strings count = Told after count state start

  begins_word : (in_one : Bool) → nat_le 2 (8 - length_at % 8) ≡ in_one
      → Begins by_loads p.kinds strings None (read_plan (word_parts length_at in_one)) (if in_one then Ask (record { address = length_at; count = 2; kind = Read }) strings else Ask (record { address = length_at; count = 1; kind = Read }) (λ low. Ask (record { address = (length_at + 1) % 2 ^ 32; count = 1; kind = Read }) (λ high. strings (low + high * 2 ^ 8)))) None
  begins_word true e = (refl, λ kind bytes may. may, λ before lt. (refl, (refl, refl)))
  begins_word false e = (refl, λ kind bytes may. may, λ before lt. (refl, (refl, λ kind bytes may. may, λ before' lt'. (refl, (refl, refl)))))

  begins : Begins by_loads p.kinds strings None (read_plan (parts length_at 2)) (word_read length_at strings) None
  begins =
      subst (λ (xs : List (ℕ × ℕ)). Begins by_loads p.kinds strings None (read_plan xs) (word_read length_at strings) None) (sym (parts_of_word length_at (nat_le 2 (8 - length_at % 8)) refl))
      (begins_word (nat_le 2 (8 - length_at % 8)) refl)

  -- the front in its place
  record Front : Type 0 where
    word : (k : ℕ) (i : AlphaInstr) → k < 12 → slice_get length_words k ≡ Some i → p.fetch (first + k) ≡ Some i
    inside : (k : ℕ) → 0 < k → k < 13 → p.stops (first + k) ≡ None
    point : p.points (first + 1) ≡ Some (word_point address)

  module _ (front : Front) (here : Here (measured_tree after) pages after code first (first + 12) thread state held address start) (form : InForm start) (shows : Shows start address all_ready held state) where
    at : (k : ℕ) (i : AlphaInstr) → k < 12 → slice_get length_words k ≡ Some i → IsAt p (first + k) i
    at k i lt is = record { is = front.word k i lt is; low = omega arith; high = (let high = here.high in omega arith) }

    has : (j : ℕ) (i : AlphaInstr) → slice_get (read_code 22 2 21) j ≡ Some i → (3 + j < 12) × (slice_get length_words (3 + j) ≡ Some i)
    has zero i e = (lit< tt, e)
    has (suc zero) i e = (lit< tt, e)
    has (suc (suc zero)) i e = (lit< tt, e)
    has (suc (suc (suc zero))) i e = (lit< tt, e)
    has (suc (suc (suc (suc zero)))) i e = (lit< tt, e)
    has (suc (suc (suc (suc (suc zero))))) i e = (lit< tt, e)
    has (suc (suc (suc (suc (suc (suc zero)))))) i e = (lit< tt, e)
    has (suc (suc (suc (suc (suc (suc (suc zero))))))) i e = (lit< tt, e)
    has (suc (suc (suc (suc (suc (suc (suc (suc zero)))))))) i e = (lit< tt, e)
    has (suc (suc (suc (suc (suc (suc (suc (suc (suc j))))))))) i e = absurd (cc e)

    read_has : HasAt p.fetch (first + 3) (read_code 22 2 21)
    read_has = has_by p.fetch (first + 3) (read_code 22 2 21) (λ j i e. let there : first + (3 + j) ≡ first + 3 + j = omega arith in let x = has j i e in subst (λ pc. p.fetch pc ≡ Some i) there (front.word (3 + j) i x.0 x.1))

    -- the first temporary gets the word
    reads_word : (f : Regs) → f 22 ≡ length_at → Only is_free start f → first_bad pages false length_at 2 ≡ None → Always p None 30 (at_place f (first + 3)) (word_read length_at strings)
    reads_word f in_22 only ok =
        let low = here.low in
        let high = here.high in
        let small : length_at < 2 ^ 32 = omega arith in
        let end : first + 3 + 9 ≡ first + 12 = omega arith in
        let usage = usable pages (At 0 2 false) (λ temp. length_at) 0 2 false small refl ok in
        runs p None 21 (first + 3) 9 (Holds f 21 2) by_loads strings None f (read_plan (parts (f 22) 2)) (word_read length_at strings)
        (omega arith) (omega arith) (λ q gt le. let there : q ≡ first + (q - first) = omega arith in ap p.stops there ∙ front.inside (q - first) (omega arith) (omega arith))
        (subst (λ a. Begins by_loads p.kinds strings None (read_plan (parts a 2)) (word_read length_at strings) None) (sym in_22) begins)
        (λ n. reads 22 2 21 c2 (record { high = lit≤ tt }) (record { high = lit≤ tt }) p.fetch (piece_terms p by_loads) (first + 3) f (omega arith)
        (subst (λ a. MayRead loaded_bytes (piece_terms p by_loads) a 2) (sym in_22) (may_read p table false length_at 2 c2 usage)) read_has n)
        (λ count g h. subst (λ pc. Always p None 21 (at_place g pc) (strings count)) (sym end)
        (copies_string (measured_tree after) pages after code first (first + 12) thread state held address start here form shows None count g h.fits (word_fits count (g 21) h.holds h.fits) (word_is count (g 21) h.holds h.fits)
        (λ n out. h.only n (free_scratch 21 refl n out) ∙ only n out)))
      where
        word_fits : (count v : ℕ) → v ≡ count → count < 2 ^ 16 → v < 2 ^ 64
        word_fits count v e lt = omega arith

        word_is : (count v : ℕ) → v ≡ count → count < 2 ^ 16 → v % 2 ^ 16 ≡ count
        word_is count v e lt = omega arith

    whole : Always p In 33 (at_place start first) (Check length_at 2 false (word_read length_at strings))
    whole =
        let f1 = effect (Operate Addq 31 (Register 2) 27) start in
        let f2 = effect (Operate Extll 2 (Literal 0) 22) f1 in
        let zero_in = form.zero in
        let two : first + 1 + 1 ≡ first + 2 = omega arith in
        let three : first + 2 + 1 ≡ first + 3 = omega arith in
        let long : start 2 ≡ sign_extended length_at 32 = sym (form.longwords 2 (lit< tt)) ∙ same_extended (start 2) length_at (again (start 2)) in
        goes p In 32 (at_place start first) (at_place f1 (first + 1)) (Operate Addq 31 (Register 2) 27) _ (subst (λ pc. IsAt p pc (Operate Addq 31 (Register 2) 27)) (add-zero first) (at 0 (Operate Addq 31 (Register 2) 27) (lit< tt) refl)) refl (omega arith) (front.inside 1 (lit< tt) (lit< tt))
        (probes p In None 31 length_at 2 false (at_place f1 (first + 1)) (word_read length_at strings) (word_point address) (at 1 (Pal 0x80) (lit< tt) refl) front.point (ap p.stops two ∙ front.inside 2 (lit< tt) (lit< tt)) (sym (sum_long (start 31) (start 2) zero_in)) refl refl
        (λ spare round fits. fits_spare p.bonus In 31 spare round fits)
        (λ ok. subst (λ pc. Always p None 31 (at_place f1 pc) (word_read length_at strings)) (sym two)
        (goes p None 30 (at_place f1 (first + 2)) (at_place f2 (first + 2 + 1)) (Operate Extll 2 (Literal 0) 22) (word_read length_at strings) (at 2 (Operate Extll 2 (Literal 0) 22) (lit< tt) refl) refl (omega arith) (ap p.stops three ∙ front.inside 3 (lit< tt) (lit< tt))
        (subst (λ pc. Always p None 30 (at_place f2 pc) (word_read length_at strings)) (sym three)
        (reads_word f2 (address_into f1 2 length_at long (omega arith)) (λ n out. free_put f1 22 _ refl n out ∙ free_put start 27 _ refl n out) ok)))))
      where
        sum_long : (z x : ℕ) → z ≡ 0 → (z + x) % 2 ^ 64 % 2 ^ 32 ≡ x % 2 ^ 32
        sum_long z x e = omega arith

        again : (x : ℕ) → x % 2 ^ 32 ≡ x % 2 ^ 32 % 2 ^ 32
        again x = omega arith

-- ---- wherever it stands
pub measures : (address after : ℕ) → Measures address after (measured_value address after)
measures address after pages table code first thread n state held regs few s is form shows leads =
    let count : length s.words ≡ 36 = s.like.count in
    let ends = s.ends in
    let within = s.within in
    let p = placed (measured_meaning pages after) copy_permit code thread state held first in
    let there : (k : ℕ) → first + 12 + k ≡ first + (12 + k) = λ k. omega arith in
    let word : (k : ℕ) (i : AlphaInstr) → k < 33 → slice_get measured_words k ≡ Some i → p.fetch (first + k) ≡ Some i = λ k i lt e. has_each (fetch_of code.words) first s.words s.stand k i (s.like.same k (no_exit k lt) ∙ e) in
    let here : Here (measured_tree after) pages after code first (first + 12) thread state held address regs = record {
      word = λ k i lt e. ap p.fetch (there k) ∙ word (12 + k) i (omega arith) (behind_front length_words loop_words k ∙ e);
      inside = λ k lt. ap p.stops (there k) ∙ s.alone (12 + k) (omega arith) (omega arith);
      read_point = ap p.points (there 1) ∙ s.points 13 (omega arith);
      write_point = ap p.points (there 3) ∙ s.points 15 (omega arith);
      above = omega arith;
      high = omega arith;
      low = omega arith;
      exit = subst (λ w. LeadsTo p w after all_ready 3) (sym (there 21)) (leads 0 (33, after) refl);
    } in
    let front : Front pages table after code first thread state held address regs = record {
      word = λ k i lt e. word k i (omega arith) (in_front_of length_words loop_words k i e);
      inside = λ k some lt. s.alone k some (omega arith);
      point = s.points 1 (omega arith);
    } in
    let r : state.r ≡ registers_shown regs = ap (λ (s : VaxState). s.r) shows in
    let tree : measured_tree after state ≡ Check (regs 2 % 2 ^ 32) 2 false (word_read (regs 2 % 2 ^ 32) (λ count. Told after count state regs)) =
    ap (λ (xs : List ℕ). Check (slice_index xs 2) 2 false (word_read (slice_index xs 2) (λ count. Check (slice_index xs 1) count false (Check (slice_index xs 3) count true (copied count (slice_index xs 1) (slice_index xs 3) (with_pc after state)))))) r in
    subst (λ (t : Tree). Follows p n Plain block_steps new_round (at_place regs first) t) (sym tree)
    (whole pages table after code first thread state held address regs front here form shows n block_steps new_round (record { refs = record { reads = refl; writes = refl; others = refl }; within = lit≤ tt; earned = lit≤ tt }))
  where
    no_exit : (k : ℕ) → k < 33 → is_exit_word ((33, after) ∷ []) k ≡ false
    no_exit k lt = let e : nat_le 33 k ≡ false = grind (arith, nat_tests) in rw e refl
