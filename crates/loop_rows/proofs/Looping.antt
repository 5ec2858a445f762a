-- The loop that copies a string follows its tree, wherever it stands in a block.
use Rattle.std.proofs.Common.{◌≡◌, ℕ, zero, suc, ◌+◌, ◌-◌, ◌*◌, ◌/◌, ◌%◌, ◌^◌, ◌<◌, ◌≤◌, refl, sym, ap, ◌∙◌, subst, arith, add-zero, List, [], ◌∷◌, All, Option, Some, None, Bool, true, false, inl, inr, lit<, lit≤}
use Rattle.std.specs.Prelude.{◌==◌, ◌&&◌, ◌||◌, ◌⊎◌, not, nat_lt, nat_le, pos, negsuc, slice_get, slice_set}
use Rattle.std.proofs.lemmas.Bool.Decides.{nat_tests}
use Rattle.std.proofs.lemmas.List.Elements.{All-cons, All-nil}
use Rattle.vt_words.specs.Quad.{sign_extended, ext_low, field_of, with_field_of, two as c2, four as c4, one as c1}
use Rattle.vt_words.proofs.Fields.{extracted}
use Rattle.vt_words.proofs.Longwords.{same_extended, extended_again, extended_fits}
use Rattle.vax_form.specs.Pages.{is_allowed, first_bad}
use Rattle.vax_form.specs.Parts.{parts}
use Rattle.vax_form.specs.State.{with_core, with_pc, register}
use Rattle.vax_form.specs.Tree.{Tree, Check, Ask, Ends, Finish}
use Rattle.vax_form.specs.declared.pages.Pages.{Pages}
use Rattle.vax_form.specs.declared.state.Flags.{Flags}
use Rattle.vax_form.specs.declared.state.RefKind.TheVariants.{Write}
use Rattle.vax_form.specs.declared.state.VaxState.{VaxState}
use Rattle.alpha_encode.specs.declared.instr.AlphaInstr.{AlphaInstr}
use Rattle.alpha_encode.specs.declared.instr.AlphaInstr.TheVariants.{Branch, Operate, Pal}
use Rattle.alpha_encode.specs.declared.instr.BranchOp.TheVariants.{Br, Beq}
use Rattle.alpha_encode.specs.declared.instr.OperateOp.TheVariants.{Addq, Addl, Subl, Extwl, Extll}
use Rattle.alpha_encode.specs.declared.instr.Second.TheVariants.{Register, Literal}
use Rattle.alpha_meaning.specs.State.{Regs, put, at_place}
use Rattle.alpha_meaning.specs.Act.{Goes, act, target_of}
use Rattle.alpha_meaning.specs.Loops.{effect}
use Rattle.alpha_meaning.specs.Pieces.{HasAt, Only, Plain}
use Rattle.byte_sequences.specs.Instructions.{is_scratch, is_scratch_or}
use Rattle.byte_sequences.specs.Plans.{read_plan, write_plan}
use Rattle.byte_sequences.specs.Promises.{Holds, Keeps}
use Rattle.byte_sequences.specs.Words.{read_code, write_code}
use Rattle.byte_sequences.proofs.ReadLaws.{reads}
use Rattle.byte_sequences.proofs.WriteLaws.{writes}
use Rattle.exception_records.specs.Codes.{all_ready}
use Rattle.exception_records.specs.Shown.{Shows, registers_shown, psw_shown, still_held}
use Rattle.exception_records.specs.declared.points.Point.{Point}
use Rattle.block_law.specs.Follows.{Follows, LeadsTo, probe_count}
use Rattle.block_law.specs.Laws.{shows_psw}
use Rattle.block_law.specs.Placements.{Placement, InForm, state_behind}
use Rattle.block_law.specs.Rounds.{block_steps, Round, new_round}
use Rattle.block_law.specs.Tidy.{is_kept}
use Rattle.block_law.specs.Translations.{Code, placed}
use Rattle.block_law.proofs.Blocks.{Begins, piece_terms}
use Rattle.block_law.proofs.Kept.{same_status}
use Rattle.block_law.proofs.Rounds.{fits_spare, fits_anew}
use Rattle.block_law.proofs.Rules.{Always, IsAt, goes, passes, skips, probes, runs, roomy, comes_back}
use Rattle.program_codegen.proofs.Operands.{readable, in_quad, first_passes}
use Rattle.branch_layout.proofs.Filling.{has_by}
use Rattle.program_codegen.specs.Accesses.{by_loads, by_stores}
use Rattle.loop_rows.specs.Copying.{behind, copied, copy_permit, string_meaning, point_of, loop_words}

-- ---- numbers
long_low : (v : ℕ) → v < 2 ^ 32 → sign_extended v 32 % 2 ^ 32 ≡ v
long_low v lt = grind (arith, nat_tests)

long_small : (v : ℕ) → v < 2 ^ 16 → sign_extended v 32 ≡ v
long_small v lt = grind (arith, nat_tests)

-- one more, and one less
long_next : (v : ℕ) → v < 2 ^ 32 → sign_extended ((sign_extended v 32 + 1) % 2 ^ 64) 32 ≡ sign_extended ((v + 1) % 2 ^ 32) 32
long_next v lt =
    let low = long_low v lt in
    let e : (sign_extended v 32 + 1) % 2 ^ 64 % 2 ^ 32 ≡ (v + 1) % 2 ^ 32 % 2 ^ 32 = next (sign_extended v 32) v low in
    same_extended ((sign_extended v 32 + 1) % 2 ^ 64) ((v + 1) % 2 ^ 32) e
  where
    next : (x v : ℕ) → x % 2 ^ 32 ≡ v → (x + 1) % 2 ^ 64 % 2 ^ 32 ≡ (v + 1) % 2 ^ 32 % 2 ^ 32
    next x v e = omega arith

long_before : (left : ℕ) → suc left < 2 ^ 16 → sign_extended ((suc left + (2 ^ 64 - 1)) % 2 ^ 64) 32 ≡ left
long_before left lt =
    let e : (suc left + (2 ^ 64 - 1)) % 2 ^ 64 ≡ left = omega arith in
    ap (λ x. sign_extended x 32) e ∙ long_small left (omega arith)

not_zero : (n : ℕ) → (suc n == 0) ≡ false
not_zero n = grind (arith, nat_tests)

-- the low longword and the low word as numbers
low_long : (v : ℕ) → v < 2 ^ 32 → field_of (sign_extended v 32) 0 4 ≡ v
low_long v lt = let low = long_low v lt in by (sign_extended v 32) low
  where
    by : (x : ℕ) → x % 2 ^ 32 ≡ v → x / 1 % 2 ^ 32 ≡ v
    by x e = omega arith

low_in : (f : Regs) (r v : ℕ) → f r ≡ sign_extended v 32 → v < 2 ^ 32 → field_of (f r) 0 4 ≡ v
low_in f r v e lt = ap (λ x. field_of x 0 4) e ∙ low_long v lt

long_extracted : (x : ℕ) → x < 2 ^ 64 → ext_low 15 x 0 ≡ field_of x 0 4
long_extracted x lt = extracted x 0 0 lt c4

-- an address that a register holds, as a number
pub address_into : (f : Regs) (r v : ℕ) → f r ≡ sign_extended v 32 → v < 2 ^ 32 → ext_low 15 (f r) 0 ≡ v
address_into f r v e lt = long_extracted (f r) (subst (λ x. x < 2 ^ 64) (sym e) (extended_fits v)) ∙ low_in f r v e lt

-- ---- parts
-- a byte is one part
one_part : (a : ℕ) → parts a 1 ≡ (a, 1) ∷ []
one_part a = let e : nat_le 1 (8 - a % 8) ≡ true = grind (arith, nat_tests) in rw e refl

-- ---- registers
-- the registers between the loop's
abbrev pub is_free : (register : ℕ) → Bool
is_free register = nat_le 21 register && nat_lt register 28

-- R0, R1 and R3 are the loop's
abbrev is_still : (register : ℕ) → Bool
is_still register = is_kept register && not (register == 0 || (register == 1 || register == 3))

psw_still : (n : ℕ) → shows_psw n ≡ true → is_still n ≡ true
psw_still n e = grind (arith, nat_tests, e)

code_still : (n : ℕ) → 16 ≤ n → n < 20 → is_still n ≡ true
code_still n ge lt = grind (arith, nat_tests)

moved_ones : (n : ℕ) → n < 15 → is_still n ≡ false → (n ≡ 0) ⊎ ((n ≡ 1) ⊎ (n ≡ 3))
moved_ones n lt e = grind (arith, nat_tests, e)

still_is_not : (n : ℕ) → is_still n ≡ true → (is_free n ≡ false) × (((n == 0) ≡ false) × (((n == 1) ≡ false) × ((n == 3) ≡ false)))
still_is_not n e = (grind (arith, nat_tests, e), (grind (arith, nat_tests, e), (grind (arith, nat_tests, e), grind (arith, nat_tests, e))))

pub free_scratch : (to : ℕ) → is_free to ≡ true → (n : ℕ) → is_free n ≡ false → is_scratch_or to n ≡ false
free_scratch to free n e = grind (arith, nat_tests, free, e)

free_scratch_only : (n : ℕ) → is_free n ≡ false → is_scratch n ≡ false
free_scratch_only n e = grind (arith, nat_tests, e)

pub free_put : (f : Regs) (r v : ℕ) → is_free r ≡ true → Only is_free f (put f r v)
free_put f r v free n out = let other : (n == r) ≡ false = grind (arith, nat_tests, free, out) in let real : (r == 31) ≡ false = grind (arith, nat_tests, free) in rw (real, other) refl

module _ (meant : VaxState → Tree) (pages : Pages) (after : ℕ) (code : Code) (first base thread : ℕ) (state : VaxState) (held : Flags) (address : ℕ) (start : Regs) where
  abbrev pub p : Placement
  p = placed (string_meaning pages meant) copy_permit code thread state held first

  abbrev pub In : Option Round
  In = Some new_round

  -- the loop in its place, behind the front of the block
  pub record Here : Type 0 where
    pub word : (k : ℕ) (i : AlphaInstr) → k < 21 → slice_get loop_words k ≡ Some i → p.fetch (base + k) ≡ Some i
    pub inside : (k : ℕ) → k < 24 → p.stops (base + k) ≡ None
    pub read_point : p.points (base + 1) ≡ Some (point_of address false)
    pub write_point : p.points (base + 3) ≡ Some (point_of address true)
    pub above : first < base
    pub high : base + 24 ≤ p.end
    pub low : base + 24 ≤ 2 ^ 23
    pub exit : LeadsTo p (base + 21) after all_ready 3

  module _ (here : Here) where
    at : (k : ℕ) (i : AlphaInstr) → k < 21 → slice_get loop_words k ≡ Some i → IsAt p (base + k) i
    at k i lt is = record { is = here.word k i lt is; low = (let above = here.above in omega arith); high = (let h = here.high in omega arith) }

    inside_of : (k : ℕ) → k < 24 → (q : ℕ) → q ≡ base + k → p.stops q ≡ None
    inside_of k lt q e = ap p.stops e ∙ here.inside k lt

    -- one operate word
    one : (made : Option Round) (need k : ℕ) (i : AlphaInstr) (f : Regs) (t : Tree) → k < 21 → slice_get loop_words k ≡ Some i → act i (at_place f (base + k)) ≡ Goes (at_place (effect i f) (base + k + 1))
        → Always p made need (at_place (effect i f) (base + (k + 1))) t → Always p made (need + 1) (at_place f (base + k)) t
    one made need k i f t lt is acts rest =
        let there : base + (k + 1) ≡ base + k + 1 = omega arith in
        goes p made need (at_place f (base + k)) (at_place (effect i f) (base + k + 1)) i t (at k i lt is) acts (omega arith) (inside_of (k + 1) (omega arith) (base + k + 1) (sym there))
        (subst (λ pc. Always p made need (at_place (effect i f) pc) t) there rest)

    -- the words of a piece
    has : (k : ℕ) (is : List AlphaInstr) → ((j : ℕ) (i : AlphaInstr) → slice_get is j ≡ Some i → (k + j < 21) × (slice_get loop_words (k + j) ≡ Some i)) → HasAt p.fetch (base + k) is
    has k is h = has_by p.fetch (base + k) is (λ j i e. let there : base + (k + j) ≡ base + k + j = omega arith in let x = h j i e in subst (λ pc. p.fetch pc ≡ Some i) there (here.word (k + j) i x.0 x.1))

    -- ---- a turn of the loop
    -- so many bytes are left, and these are the next addresses
    record Turn (left source target : ℕ) (regs : Regs) : Type 0 where
      left_in : regs 0 ≡ left
      source_in : regs 1 ≡ sign_extended source 32
      target_in : regs 3 ≡ sign_extended target 32
      others : (n : ℕ) → is_still n ≡ true → regs n ≡ start n
      zero_in : regs 31 ≡ 0

    abbrev pub Ended : VaxState
    Ended = with_pc after state

    abbrev Byte : (source target left : ℕ) → ℕ → Tree
    Byte source target left byte =
        Ask (record { address = target; count = 1; kind = Write byte }) (λ done. copied left ((source + 1) % 2 ^ 32) ((target + 1) % 2 ^ 32) Ended)

    -- the references that were made in the round
    abbrev Read_one : Round
    Read_one = record { reads = 1; writes = 0; others = 0; failed = 0; steps = 0 }

    abbrev Both_made : Round
    Both_made = record { reads = 1; writes = 1; others = 0; failed = 0; steps = 0 }

    -- ---- the pieces
    reads_byte : (need source target left : ℕ) (f : Regs) → f 22 ≡ source → source < 2 ^ 32 → is_allowed pages source false ≡ true
        → ((byte : ℕ) (g : Regs) → byte < 2 ^ 8 → g 23 ≡ byte → Only is_free f g → Always p (Some Read_one) need (at_place g (base + 9)) (Byte source target left byte))
        → Always p In (2 + need) (at_place f (base + 7)) (copied (suc left) source target Ended)
    reads_byte need source target left f in_22 small may rest =
        let above = here.above in
        let low = here.low in
        let high = here.high in
        let end : base + 9 ≡ base + 7 + 2 = omega arith in
        runs p In need (base + 7) 2 (Holds f 23 1) by_loads (Byte source target left) (Some Read_one) f (read_plan (parts (f 22) 1)) (copied (suc left) source target Ended)
        (omega arith) (omega arith) (λ q gt le. inside_of (q - base) (omega arith) q (omega arith))
        (subst (λ (xs : List (ℕ × ℕ)). Begins by_loads p.kinds (Byte source target left) (Some Read_one) (read_plan xs) (copied (suc left) source target Ended) In) (sym (ap (λ a. parts a 1) in_22 ∙ one_part source))
        (refl, λ kind bytes may. may, λ before lt. (refl, (refl, refl))))
        (λ n. reads 22 1 23 c1 (record { high = lit≤ tt }) (record { high = lit≤ tt }) p.fetch (piece_terms p by_loads) (base + 7) f (omega arith)
        (record { within = omega arith; pages = may_read; loads = refl })
        (has 7 (read_code 22 1 23) read_words) n)
        (λ byte g h. subst (λ pc. Always p (Some Read_one) need (at_place g pc) (Byte source target left byte)) end
        (rest byte g h.fits h.holds (λ n out. h.only n (free_scratch 23 refl n out))))
      where
        may_read : All (λ part. is_allowed pages (part.0 / 8 * 8) false ≡ true) (parts (f 22) 1)
        may_read = rw (ap (λ a. parts a 1) in_22 ∙ one_part source) (All-cons (λ (part : ℕ × ℕ). is_allowed pages (part.0 / 8 * 8) false ≡ true) (source, 1) [] (in_quad pages false source may) (All-nil (λ (part : ℕ × ℕ). is_allowed pages (part.0 / 8 * 8) false ≡ true)))

        read_words : (j : ℕ) (i : AlphaInstr) → slice_get (read_code 22 1 23) j ≡ Some i → (7 + j < 21) × (slice_get loop_words (7 + j) ≡ Some i)
        read_words zero i e = (lit< tt, e)
        read_words (suc zero) i e = (lit< tt, e)
        read_words (suc (suc j)) i e = absurd (cc e)

    writes_byte : (need source target left byte : ℕ) (f : Regs) → f 24 ≡ target → f 23 ≡ byte → target < 2 ^ 32 → is_allowed pages target true ≡ true
        → ((g : Regs) → Only is_free f g → Always p (Some Both_made) need (at_place g (base + 17)) (copied left ((source + 1) % 2 ^ 32) ((target + 1) % 2 ^ 32) Ended))
        → Always p (Some Read_one) (7 + need) (at_place f (base + 10)) (Byte source target left byte)
    writes_byte need source target left byte f in_24 in_23 small may rest =
        let above = here.above in
        let low = here.low in
        let high = here.high in
        let end : base + 17 ≡ base + 10 + 7 = omega arith in
        let next = copied left ((source + 1) % 2 ^ 32) ((target + 1) % 2 ^ 32) Ended in
        runs p (Some Read_one) need (base + 10) 7 (Keeps f) by_stores (λ done. next) (Some Both_made) f (write_plan (parts (f 24) 1) (f 23)) (Byte source target left byte)
        (omega arith) (omega arith) (λ q gt le. inside_of (q - base) (omega arith) q (omega arith))
        (subst (λ (xs : List (ℕ × ℕ)). Begins by_stores p.kinds (λ done. next) (Some Both_made) (write_plan xs (f 23)) (Byte source target left byte) (Some Read_one)) (sym (ap (λ a. parts a 1) in_24 ∙ one_part target))
        (refl, λ kind bytes may. may, λ before lt. (ap (with_field_of before (target % 8) 1) in_23, (refl, refl))))
        (λ n. writes 24 1 23 c1 (record { high = lit≤ tt }) (record { high = lit≤ tt }) p.fetch (piece_terms p by_stores) (base + 10) f (omega arith)
        (record { within = omega arith; pages = may_write; readable = λ quad e. readable pages quad e; stores = record { loads = refl; stores = refl } })
        (has 10 (write_code 24 1 23) write_words) n)
        (λ done g h. subst (λ pc. Always p (Some Both_made) need (at_place g pc) next) end (rest g (λ n out. h.only n (free_scratch_only n out))))
      where
        may_write : All (λ part. is_allowed pages (part.0 / 8 * 8) true ≡ true) (parts (f 24) 1)
        may_write = rw (ap (λ a. parts a 1) in_24 ∙ one_part target) (All-cons (λ (part : ℕ × ℕ). is_allowed pages (part.0 / 8 * 8) true ≡ true) (target, 1) [] (in_quad pages true target may) (All-nil (λ (part : ℕ × ℕ). is_allowed pages (part.0 / 8 * 8) true ≡ true)))

        write_words : (j : ℕ) (i : AlphaInstr) → slice_get (write_code 24 1 23) j ≡ Some i → (10 + j < 21) × (slice_get loop_words (10 + j) ≡ Some i)
        write_words zero i e = (lit< tt, e)
        write_words (suc zero) i e = (lit< tt, e)
        write_words (suc (suc zero)) i e = (lit< tt, e)
        write_words (suc (suc (suc zero))) i e = (lit< tt, e)
        write_words (suc (suc (suc (suc zero)))) i e = (lit< tt, e)
        write_words (suc (suc (suc (suc (suc zero))))) i e = (lit< tt, e)
        write_words (suc (suc (suc (suc (suc (suc zero)))))) i e = (lit< tt, e)
        write_words (suc (suc (suc (suc (suc (suc (suc j))))))) i e = absurd (cc e)

    -- the turn's last words: R1, R3 and R0 go on, and the loop begins again
    turns_back : (need source target left : ℕ) (f : Regs) (t : Tree) → suc left < 2 ^ 16 → source < 2 ^ 32 → target < 2 ^ 32 → f 0 ≡ suc left → f 1 ≡ sign_extended source 32 → f 3 ≡ sign_extended target 32
        → f 31 ≡ 0 → ((n : ℕ) → is_still n ≡ true → f n ≡ start n) → need ≤ block_steps
        → ((g : Regs) → Turn left ((source + 1) % 2 ^ 32) ((target + 1) % 2 ^ 32) g → Always p In need (at_place g (base + 5)) t)
        → Always p (Some Both_made) 4 (at_place f (base + 17)) t
    turns_back need source target left f t few small small' in_0 in_1 in_3 in_31 same fits rest =
        let f1 = effect (Operate Addl 1 (Literal 1) 1) f in
        let f2 = effect (Operate Addl 3 (Literal 1) 3) f1 in
        let f3 = effect (Operate Subl 0 (Literal 1) 0) f2 in
        let back : target_of (base + 20) (negsuc 15) ≡ base + 5 = (let low = here.low in omega arith) in
        one (Some Both_made) 3 17 (Operate Addl 1 (Literal 1) 1) f t (lit< tt) refl refl
        (one (Some Both_made) 2 18 (Operate Addl 3 (Literal 1) 3) f1 t (lit< tt) refl refl
        (one (Some Both_made) 1 19 (Operate Subl 0 (Literal 1) 0) f2 t (lit< tt) refl refl
        (comes_back p Both_made need (at_place f3 (base + 20)) (at_place f3 (base + 5)) (Branch Br 31 (negsuc 15)) t (at 20 (Branch Br 31 (negsuc 15)) (lit< tt) refl)
        (branches f3 back) (let above = here.above in omega arith) (omega arith) (here.inside 5 (lit< tt)) (lit< tt) (lit≤ tt) refl refl refl fits
        (rest f3 (record {
          left_in = ap (λ x. sign_extended ((x + (2 ^ 64 - 1)) % 2 ^ 64) 32) in_0 ∙ long_before left few;
          source_in = ap (λ x. sign_extended ((x + 1) % 2 ^ 64) 32) in_1 ∙ long_next source small;
          target_in = ap (λ x. sign_extended ((x + 1) % 2 ^ 64) 32) in_3 ∙ long_next target small';
          others = λ n is. (let no = still_is_not n is in rw (no.1.0, no.1.1.0, no.1.1.1) (same n is));
          zero_in = in_31;
        })))))
      where
        branches : (g : Regs) → target_of (base + 20) (negsuc 15) ≡ base + 5 → act (Branch Br 31 (negsuc 15)) (at_place g (base + 20)) ≡ Goes (at_place g (base + 5))
        branches g e = ap (λ pc. Goes (at_place g pc)) e

    -- ---- the loop
    loops : (left source target : ℕ) (f : Regs) → left < 2 ^ 16 → source < 2 ^ 32 → target < 2 ^ 32 → first_bad pages false source left ≡ None → first_bad pages true target left ≡ None → Turn left source target f
        → ((source target : ℕ) (g : Regs) → source < 2 ^ 32 → target < 2 ^ 32 → Turn 0 source target g → Always p In 3 (at_place g (base + 21)) (copied 0 source target Ended))
        → Always p In 16 (at_place f (base + 5)) (copied left source target Ended)
    loops zero source target f few small small' ok ok' turn leave =
        roomy p In 4 16 (at_place f (base + 5)) (copied 0 source target Ended) (lit≤ tt)
        (skips p In 3 (at_place f (base + 5)) Beq 0 (pos 15) (base + 21) (copied 0 source target Ended) (at 5 (Branch Beq 0 (pos 15)) (lit< tt) refl) refl (rw turn.left_in refl)
        (let low = here.low in omega arith) (omega arith) (here.inside 21 (lit< tt)) (leave source target f small small' turn))
    loops (suc left) source target f few small small' ok ok' turn leave =
        let now = first_passes pages false source left ok in
        let now' = first_passes pages true target left ok' in
        let f1 = effect (Operate Extll 1 (Literal 0) 22) f in
        let six : base + 6 ≡ base + 5 + 1 = omega arith in
        passes p In 15 (at_place f (base + 5)) Beq 0 (pos 15) (copied (suc left) source target Ended) (at 5 (Branch Beq 0 (pos 15)) (lit< tt) refl) (rw turn.left_in (not_zero left)) (inside_of 6 (lit< tt) (base + 5 + 1) (sym six))
        (subst (λ pc. Always p In 15 (at_place f pc) (copied (suc left) source target Ended)) six
        (one In 14 6 (Operate Extll 1 (Literal 0) 22) f (copied (suc left) source target Ended) (lit< tt) refl refl
        (reads_byte 12 source target left f1 (address_into f 1 source turn.source_in small) small now.0
        (λ byte g lt in_23 only.
        let g1 = effect (Operate Extll 3 (Literal 0) 24) g in
        let g_3 : g 3 ≡ sign_extended target 32 = only 3 refl ∙ turn.target_in in
        one (Some Read_one) 11 9 (Operate Extll 3 (Literal 0) 24) g (Byte source target left byte) (lit< tt) refl refl
        (writes_byte 4 source target left byte g1 (address_into g 3 target g_3 small') in_23 small' now'.0
        (λ h only'.
        turns_back 16 source target left h (copied left ((source + 1) % 2 ^ 32) ((target + 1) % 2 ^ 32) Ended) few small small'
        (kept_in f g h only only' 0 refl ∙ turn.left_in) (kept_in f g h only only' 1 refl ∙ turn.source_in) (kept_in f g h only only' 3 refl ∙ turn.target_in) (kept_in f g h only only' 31 refl ∙ turn.zero_in)
        (λ n is. kept_in f g h only only' n (still_is_not n is).0 ∙ turn.others n is) (lit≤ tt)
        (λ k again. loops left ((source + 1) % 2 ^ 32) ((target + 1) % 2 ^ 32) k (omega arith) (omega arith) (omega arith) now.1 now'.1 again leave)))))))
      where
        kept_in : (f g h : Regs) → Only is_free (effect (Operate Extll 1 (Literal 0) 22) f) g → Only is_free (effect (Operate Extll 3 (Literal 0) 24) g) h → (n : ℕ) → is_free n ≡ false → h n ≡ f n
        kept_in f g h only only' n out = only' n out ∙ (free_put g 24 _ refl n out ∙ (only n out ∙ free_put f 22 _ refl n out))

    -- ---- behind the loop
    module _ (form : InForm start) (shows : Shows start address all_ready held state) (source target : ℕ) (small : source < 2 ^ 32) (small' : target < 2 ^ 32) (g : Regs) (turn : Turn 0 source target g) where
      low_1 : g 1 % 2 ^ 32 ≡ source
      low_1 = ap (λ x. x % 2 ^ 32) turn.source_in ∙ long_low source small

      low_3 : g 3 % 2 ^ 32 ≡ target
      low_3 = ap (λ x. x % 2 ^ 32) turn.target_in ∙ long_low target small'

      registers_behind : registers_shown g ≡ slice_set (slice_set (slice_set (registers_shown start) 0 0) 1 source) 3 target
      registers_behind =
          rw (low_1, low_3, turn.left_in, turn.others 2 refl, turn.others 4 refl, turn.others 5 refl, turn.others 6 refl, turn.others 7 refl, turn.others 8 refl, turn.others 9 refl, turn.others 10 refl, turn.others 11 refl, turn.others 12 refl, turn.others 13 refl, turn.others 14 refl) refl

      psw_behind : (other : Flags) → psw_shown g all_ready other ≡ state.psw
      psw_behind other = same_status start g all_ready other (λ n e. turn.others n (psw_still n e)) ∙ sym (ap (λ (s : VaxState). s.psw) shows)

      state_is : behind 0 source target Ended ≡ state_behind p g after all_ready
      state_is =
          let r : state.r ≡ registers_shown start = ap (λ (s : VaxState). s.r) shows in
          ap (λ (xs : List ℕ). with_core state (slice_set (slice_set (slice_set xs 0 0) 1 source) 3 target) after state.psw) r
          ∙ ap (λ (xs : List ℕ). with_core state xs after state.psw) (sym registers_behind)
          ∙ ap (with_core state (registers_shown g) after) (sym (psw_behind (still_held held p.written)))

      form_behind : InForm g
      form_behind = record {
        longwords = λ n lt. by n lt (is_still n) refl;
        codes = λ n ge lt. rw (turn.others n (code_still n ge lt)) (form.codes n ge lt);
        status = rw (turn.others 20 refl) form.status;
        status_only = rw (turn.others 20 refl) form.status_only;
        zero = turn.zero_in;
      }
        where
          moved : (n : ℕ) → (n ≡ 0) ⊎ ((n ≡ 1) ⊎ (n ≡ 3)) → sign_extended (g n) 32 ≡ g n
          moved n (inl e) = rw (e, turn.left_in) refl
          moved n (inr (inl e)) = rw (e, turn.source_in) (extended_again source)
          moved n (inr (inr e)) = rw (e, turn.target_in) (extended_again target)

          by : (n : ℕ) → n < 15 → (b : Bool) → is_still n ≡ b → sign_extended (g n) 32 ≡ g n
          by n lt true e = rw (turn.others n e) (form.longwords n lt)
          by n lt false e = moved n (moved_ones n lt e)

      leaves : Always p In 3 (at_place g (base + 21)) (copied 0 source target Ended)
      leaves n spare round fits =
          subst (λ (s : VaxState). Follows p n Plain spare round (at_place g (base + 21)) (Ends (Finish s))) (sym state_is)
          (here.exit n spare round g (fits_spare p.bonus In 3 spare round fits) form_behind)

    -- ---- the probes, and the loop
    module _ (form : InForm start) (shows : Shows start address all_ready held state) where
      abbrev pub source : ℕ
      source = start 1 % 2 ^ 32

      abbrev pub target : ℕ
      target = start 3 % 2 ^ 32

      held_long : (n : ℕ) → n < 15 → start n ≡ sign_extended (start n % 2 ^ 32) 32
      held_long n lt = sym (form.longwords n lt) ∙ same_extended (start n) (start n % 2 ^ 32) (let e : start n % 2 ^ 32 ≡ start n % 2 ^ 32 % 2 ^ 32 = omega arith in e)

      -- where the first temporary has the count
      pub copies_string : (made : Option Round) (count : ℕ) (f : Regs) → count < 2 ^ 16 → f 21 < 2 ^ 64 → f 21 % 2 ^ 16 ≡ count → Only is_free start f
          → Always p made 21 (at_place f base) (Check source count false (Check target count true (copied count source target Ended)))
      copies_string made count f few fits count_in only =
          let f2 = effect (Operate Addq 31 (Register 1) 27) f in
          let f3 = effect (Operate Addq 31 (Register 3) 27) f2 in
          let f4 = effect (Operate Extwl 21 (Literal 0) 0) f3 in
          let zero_in : f 31 ≡ 0 = only 31 refl ∙ form.zero in
          let in_1 : f 1 ≡ start 1 = only 1 refl in
          let in_3 : f 3 ≡ start 3 = only 3 refl in
          subst (λ pc. Always p made 21 (at_place f pc) (Check source count false (Check target count true (copied count source target Ended)))) (add-zero base)
          (one made 20 0 (Operate Addq 31 (Register 1) 27) f _ (lit< tt) refl refl
          (probing made 19 1 source count false f2 _ (point_of address false) (lit< tt) (lit≤ tt) refl (sym here.read_point) (sym (sum_long (f 31) (f 1) zero_in ∙ ap (λ x. x % 2 ^ 32) in_1)) (sym count_in) refl
          (λ ok. one In 18 2 (Operate Addq 31 (Register 3) 27) f2 _ (lit< tt) refl refl
          (probing In 17 3 target count true f3 _ (point_of address true) (lit< tt) (lit≤ tt) refl (sym here.write_point) (sym (sum_long (f 31) (f 3) zero_in ∙ ap (λ x. x % 2 ^ 32) in_3)) (sym count_in) refl
          (λ ok'. one In 16 4 (Operate Extwl 21 (Literal 0) 0) f3 _ (lit< tt) refl refl
          (loops count source target f4 few (omega arith) (omega arith) ok ok' (record {
            left_in = extracted (f 21) 0 0 fits c2 ∙ (word_low (f 21) ∙ count_in);
            source_in = in_1 ∙ held_long 1 (lit< tt);
            target_in = in_3 ∙ held_long 3 (lit< tt);
            others = λ n is. (let no = still_is_not n is in kept4 n no.0 no.1.0 ∙ only n no.0);
            zero_in = zero_in;
          })
          (λ source target g small small' turn. leaves form shows source target small small' g turn)))))))
        where
          sum_long : (z x : ℕ) → z ≡ 0 → (z + x) % 2 ^ 64 % 2 ^ 32 ≡ x % 2 ^ 32
          sum_long z x e = omega arith

          word_low : (x : ℕ) → field_of x 0 2 ≡ x % 2 ^ 16
          word_low x = omega arith

          kept4 : (n : ℕ) → is_free n ≡ false → (n == 0) ≡ false
              → effect (Operate Extwl 21 (Literal 0) 0) (effect (Operate Addq 31 (Register 3) 27) (effect (Operate Addq 31 (Register 1) 27) f)) n ≡ f n
          kept4 n free not_0 =
              let b : (n == 27) ≡ false = grind (arith, nat_tests, free) in
              rw (not_0, b) refl

          probing : (made : Option Round) (need k address' count' : ℕ) (write : Bool) (f : Regs) (t : Tree) (point : Point) → k < 21 → need ≤ 256 → slice_get loop_words k ≡ Some (Pal 0x80) → Some point ≡ p.points (base + k)
              → address' ≡ f 27 % 2 ^ 32 → count' ≡ probe_count point f → write ≡ point.write
              → (first_bad pages write address' count' ≡ None → Always p In need (at_place f (base + (k + 1))) t)
              → Always p made (need + 1) (at_place f (base + k)) (Check address' count' write t)
          probing made need k address' count' write f t point lt few is has is_address is_count is_write rest =
              let there : base + (k + 1) ≡ base + k + 1 = omega arith in
              probes p made In need address' count' write (at_place f (base + k)) t point (at k (Pal 0x80) lt is) (sym has) (inside_of (k + 1) (omega arith) (base + k + 1) (sym there)) is_address is_count is_write (λ spare round fits. fits_anew p.bonus made need spare round few fits)
              (λ ok. subst (λ pc. Always p In need (at_place f pc) t) there (rest ok))
