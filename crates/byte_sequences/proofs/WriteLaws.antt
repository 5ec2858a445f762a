-- The words that write an operand.
use Rattle.std.proofs.Common.{◌≡◌, ℕ, ◌+◌, ◌-◌, ◌*◌, ◌/◌, ◌%◌, ◌^◌, ◌<◌, ◌≤◌, refl, sym, ap, ◌∙◌, subst, arith, [], ◌∷◌, ◌++◌, Bool, true, false, eqb-true, lit<, lit≤, Option, Some, None}
use Rattle.std.specs.Prelude.{pos, nat_lt, bit_and, bit_or, ◌==◌, All, if◌then◌else◌}
use Rattle.std.specs.Int.Bits.{or_comm}
use Rattle.std.proofs.lemmas.Nat.{and_mask, mul-add-lt, mod_below, pow_pos, shr_below, pow-add}
use Rattle.std.proofs.lemmas.Nat.Bits.{and_high_mask}
use Rattle.std.proofs.lemmas.Bool.Decides.{nat_tests}
use Rattle.vt_words.specs.Quad.{IsCount, one as c1, two as c2, four as c4, eight as c8, with_field_of, ins_low, ins_high, msk_low, msk_high}
use Rattle.vt_words.proofs.Fields.{replaced, replaced_first, replaced_second, count_le}
use Rattle.alpha_encode.specs.declared.instr.MemoryOp.TheVariants.{Stl, Stq}
use Rattle.alpha_encode.specs.declared.instr.BranchOp.TheVariants.{Beq, Bne, Br}
use Rattle.alpha_encode.specs.declared.instr.OperateOp.{OperateOp}
use Rattle.alpha_encode.specs.declared.instr.OperateOp.TheVariants.{And, Bic, Addq, Srl}
use Rattle.alpha_encode.specs.declared.instr.Second.TheVariants.{Literal}
use Rattle.alpha_encode.specs.declared.instr.AlphaInstr.{AlphaInstr}
use Rattle.alpha_encode.specs.declared.instr.AlphaInstr.TheVariants.{Memory, Branch, Operate}
use Rattle.alpha_meaning.specs.declared.access.AlphaKind.TheVariants.{Store}
use Rattle.alpha_meaning.specs.State.{Regs, put, at_place}
use Rattle.alpha_meaning.specs.Act.{target_of}
use Rattle.alpha_meaning.specs.Result.{plus, result_of, one_if}
use Rattle.alpha_meaning.specs.Pieces.{Fetch, Terms, Plan, Access, Over, Plain, Piece, Runs, HasAt, piece, Only}
use Rattle.alpha_meaning.specs.Loops.{is_operate, effect, effects, retry}
use Rattle.alpha_meaning.proofs.Rules.{Always, done, roomy, goes, passes, skips, store, operates, put_only, effects_only, has_front, has_back, changed_low}
use Rattle.alpha_meaning.proofs.Retry.{Changes, turns}
use Rattle.alpha_meaning.proofs.Rows.{count_some}
use Rattle.byte_sequences.specs.Instructions.{IsArgument, is_scratch}
use Rattle.byte_sequences.specs.Words.{insert_low, insert_high, mask_low, mask_high, replacing, first_write, second_write, write_test, tested_second_write, unaligned_write, longword_write, quadword_write, write_code}
use Rattle.byte_sequences.specs.Plans.{quad_of_part, write_plan}
use Rattle.byte_sequences.specs.Promises.{MayRetry, MayStore, MayWrite, stored_bytes, Keeps, WritesPlan}
use Rattle.byte_sequences.proofs.Operands.{other, lies_within, next_of, parts_by, is_within, is_across, test_same, byte_within, aligned_within, aligned_within_8, across_8, eqb_pos, next_quad}

-- a changed quadword is one
pub with_field_fits : (q at c v : ℕ) → at + c ≤ 8 → q < 2 ^ 64 → with_field_of q at c v < 2 ^ 64
with_field_fits q at c v le hq =
    let n = 8 * (at + c) in let k = 8 * at in let j = 8 * c in
    let inner = mul-add-lt (v % 2 ^ j) (2 ^ k) (q % 2 ^ k) (2 ^ j) (mod_below v (2 ^ j) (pow_pos j)) (mod_below q (2 ^ k) (pow_pos k)) in
    let sum : k + j ≡ n = omega arith in
    let e : 2 ^ k * 2 ^ j ≡ 2 ^ n = sym (pow-add 2 k j) ∙ ap (λ x. 2 ^ x) sum in
    let inner' = subst (λ x. v % 2 ^ j * 2 ^ k + q % 2 ^ k < x) e inner in
    let room : 64 ≡ 64 - n + n = omega arith in
    let high = shr_below q (64 - n) n (subst (λ x. q < 2 ^ x) room hq) in
    let outer = mul-add-lt (q / 2 ^ n) (2 ^ n) (v % 2 ^ j * 2 ^ k + q % 2 ^ k) (2 ^ (64 - n)) high inner' in
    let room' : n + (64 - n) ≡ 64 = omega arith in
    subst (λ x. with_field_of q at c v < x) (sym (pow-add 2 n (64 - n)) ∙ ap (λ x. 2 ^ x) room') outer

mask_low_is : {c : ℕ} → IsCount c → (a b held : ℕ) → result_of (mask_low c) a b held ≡ msk_low (2 ^ c - 1) a b
mask_low_is c1 a b held = refl
mask_low_is c2 a b held = refl
mask_low_is c4 a b held = refl
mask_low_is c8 a b held = refl

insert_low_is : {c : ℕ} → IsCount c → (a b held : ℕ) → result_of (insert_low c) a b held ≡ ins_low (2 ^ c - 1) a b
insert_low_is c1 a b held = refl
insert_low_is c2 a b held = refl
insert_low_is c4 a b held = refl
insert_low_is c8 a b held = refl

mask_high_is : {c : ℕ} → IsCount c → 1 < c → (a b held : ℕ) → result_of (mask_high c) a b held ≡ msk_high (2 ^ c - 1) a b
mask_high_is c1 l a b held = absurd (omega arith)
mask_high_is c2 l a b held = refl
mask_high_is c4 l a b held = refl
mask_high_is c8 l a b held = refl

insert_high_is : {c : ℕ} → IsCount c → 1 < c → (a b held : ℕ) → result_of (insert_high c) a b held ≡ ins_high (2 ^ c - 1) a b
insert_high_is c1 l a b held = absurd (omega arith)
insert_high_is c2 l a b held = refl
insert_high_is c4 l a b held = refl
insert_high_is c8 l a b held = refl

-- in a loop R27 holds the quadword's address, and only some registers have changed
pub record IsReady (may : ℕ → Bool) (f : Regs) (q : ℕ) (g : Regs) : Type 0 where
  pub address : g 27 ≡ q
  pub only : Only may f g

-- a change that a part's loop makes, and its quadword
pub record IsLoop (q v a : ℕ) (mask insert : OperateOp) (change : ℕ → ℕ) : Type 0 where
  pub aligned : q % 8 ≡ 0
  pub below : q < 2 ^ 33
  pub value : (x held : ℕ) → x < 2 ^ 64 → bit_or (result_of mask x a x) (result_of insert v a held) ≡ change x
  pub fits : (x : ℕ) → x < 2 ^ 64 → change x < 2 ^ 64

module _ (p : Piece) (f : Regs) (place from : ℕ) (a_place : IsArgument place) (a_from : IsArgument from) (low : p.to ≤ 2 ^ 23) (fits : f place < 2 ^ 32) where
  out : (n : ℕ) → IsArgument n → is_scratch n ≡ false
  out n is = rw (other n 25 is (lit< tt), other n 26 is (lit< tt), other n 27 is (lit< tt)) refl

  place_in : (g : Regs) → Only is_scratch f g → g place ≡ f place
  place_in g o = o place (out place a_place)

  from_in : (g : Regs) → Only is_scratch f g → g from ≡ f from
  from_in g o = o from (out from a_from)

  changes : (q : ℕ) (mask insert : OperateOp) (change : ℕ → ℕ) → IsLoop q (f from) (f place) mask insert change → Changes q (replacing mask insert place from) change (IsReady is_scratch f q) (λ before. IsReady is_scratch f q)
  changes q mask insert change is = record {
    aligned = is.aligned;
    below = let b = is.below in omega arith;
    operate = refl;
    short = omega arith;
    address = λ g r. r.address;
    value = λ g x r lt.
        let e1 = place_in g r.only in let e2 = from_in g r.only in
        rw (other place 25 a_place (lit< tt), other from 25 a_from (lit< tt), e1, e2) (is.value x _ lt);
    fits = is.fits;
    ready = λ g x r. record { address = r.address; only = effects_only (replacing mask insert place from) is_scratch f (put g 25 x) refl (put_only is_scratch f g 25 x refl r.only) };
    ready_25 = λ g x r. record { address = r.address; only = put_only is_scratch f g 25 x refl r.only };
    ends = λ g x r lt. record { address = r.address; only = put_only is_scratch f (effects (replacing mask insert place from) (put g 25 x)) 25 1 refl (effects_only (replacing mask insert place from) is_scratch f (put g 25 x) refl (put_only is_scratch f g 25 x refl r.only)) };
  }

  -- one instruction for the address, and the loop
  part : (most need L : ℕ) (g : Regs) (i : AlphaInstr) (q : ℕ) (mask insert : OperateOp) (change : ℕ → ℕ) (k : ℕ → Plan (Unit {0})) → is_operate i ≡ true → IsReady is_scratch f q (effect i g) → IsLoop q (f from) (f place) mask insert change
      → HasAt p.fetch L (i ∷ retry (replacing mask insert place from)) → p.from ≤ L → L + 7 ≤ p.to → p.terms.allowed false q ≡ true → p.terms.allowed true q ≡ true → MayRetry p.terms
      → ((x : ℕ) (g : Regs) → x < 2 ^ 64 → IsReady is_scratch f q g → Always p (Keeps f) most need Plain (at_place g (L + 7)) (k x))
      → Always p (Keeps f) most (1 + (6 + need)) Plain (at_place g L) (Access q change k)
  part most need L g i q mask insert change k ok ready is has in_from in_to may_load may_store retries rest =
      let behind : L + 1 + 6 ≡ L + 7 = omega arith in
      operates p (Keeps f) most (6 + need) Plain (i ∷ []) g L (Access q change k) (has.0, tt) (rw ok refl) in_from (omega arith)
      (turns p (Keeps f) (L + 1) q (replacing mask insert place from) change (IsReady is_scratch f q) (λ before. IsReady is_scratch f q) (changes q mask insert change is) need k (omega arith) (omega arith) (omega arith) has.1 may_load may_store retries.loads retries.stores most
      (λ x h lt r. subst (λ z. Always p (Keeps f) most need Plain (at_place h z) (k x)) (sym behind) (rest x h lt r))
      (effect i g) ready)

  first_ready : (g : Regs) → Only is_scratch f g → IsReady is_scratch f (f place / 8 * 8) (effect (Operate Bic place (Literal 7) 27) g)
  first_ready g o = record {
    address = ap (λ x. bit_and x (2 ^ 64 - 1 - 7)) (place_in g o) ∙ and_high_mask 64 3 (lit≤ tt) (f place) (omega arith);
    only = put_only is_scratch f g 27 _ refl o;
  }

  -- ---- the parts' changes
  module _ (c : ℕ) (is_count : IsCount c) (within : f place + c ≤ 2 ^ 32) where
    second_ready : (g : Regs) → 8 < f place % 8 + c → IsReady is_scratch f (f place / 8 * 8) g → IsReady is_scratch f (next_of (f place) / 8 * 8) (effect (Operate Addq 27 (Literal 8) 27) g)
    second_ready g gt r =
        let le = count_le is_count in
        let next = next_quad (f place) c le within gt in
        record {
          address = ap (λ x. plus x 8) r.address ∙ omega arith;
          only = put_only is_scratch f g 27 _ refl r.only;
        }

    abbrev first_change : Bool → ℕ → ℕ
    first_change true before = with_field_of before (f place % 8) c (f from)
    first_change false before = with_field_of before (f place % 8) (8 - f place % 8) (f from)

    abbrev second_change : ℕ → ℕ
    second_change before = with_field_of before (next_of (f place) % 8) (c - (8 - f place % 8)) (f from / 2 ^ (8 * (8 - f place % 8)))

    abbrev write_rest : Bool → Plan (Unit {0})
    write_rest true = Over tt
    write_rest false = Access (next_of (f place) / 8 * 8) second_change (λ _. Over tt)

    low_value : (change : ℕ → ℕ) → ((x : ℕ) → x < 2 ^ 64 → bit_or (ins_low (2 ^ c - 1) (f from) (f place)) (msk_low (2 ^ c - 1) x (f place)) ≡ change x) → (x held : ℕ) → x < 2 ^ 64 → bit_or (result_of (mask_low c) x (f place) x) (result_of (insert_low c) (f from) (f place) held) ≡ change x
    low_value change h x held lt =
        ap (λ u. bit_or u (result_of (insert_low c) (f from) (f place) held)) (mask_low_is is_count x (f place) x) ∙
        ap (λ u. bit_or (msk_low (2 ^ c - 1) x (f place)) u) (insert_low_is is_count (f from) (f place) held) ∙
        or_comm (msk_low (2 ^ c - 1) x (f place)) (ins_low (2 ^ c - 1) (f from) (f place)) ∙ h x lt

    high_value : 1 < c → (change : ℕ → ℕ) → ((x : ℕ) → x < 2 ^ 64 → bit_or (ins_high (2 ^ c - 1) (f from) (f place)) (msk_high (2 ^ c - 1) x (f place)) ≡ change x) → (x held : ℕ) → x < 2 ^ 64 → bit_or (result_of (mask_high c) x (f place) x) (result_of (insert_high c) (f from) (f place) held) ≡ change x
    high_value l change h x held lt =
        ap (λ u. bit_or u (result_of (insert_high c) (f from) (f place) held)) (mask_high_is is_count l x (f place) x) ∙
        ap (λ u. bit_or (msk_high (2 ^ c - 1) x (f place)) u) (insert_high_is is_count l (f from) (f place) held) ∙
        or_comm (msk_high (2 ^ c - 1) x (f place)) (ins_high (2 ^ c - 1) (f from) (f place)) ∙ h x lt

    first_loop : (b : Bool) → lies_within (f place) c ≡ b → IsLoop (f place / 8 * 8) (f from) (f place) (mask_low c) (insert_low c) (first_change b)
    first_loop true e =
        let le = is_within (f place) c e (count_some is_count) in
        record { aligned = omega arith; below = omega arith; value = low_value (first_change true) (λ x lt. replaced x (f from) (f place) lt is_count le); fits = λ x lt. with_field_fits x (f place % 8) c (f from) le lt }
    first_loop false e =
        let gt = is_across (f place) c e in
        record { aligned = omega arith; below = omega arith; value = low_value (first_change false) (λ x lt. replaced_first x (f from) (f place) lt is_count gt); fits = λ x lt. with_field_fits x (f place % 8) (8 - f place % 8) (f from) (omega arith) lt }

    second_value : (x : ℕ) → 8 < f place % 8 + c → with_field_of x 0 (f place % 8 + c - 8) (f from / 2 ^ (8 * (8 - f place % 8))) ≡ second_change x
    second_value x gt =
        let le = count_le is_count in
        let next = next_quad (f place) c le within gt in
        let at : next_of (f place) % 8 ≡ 0 = omega arith in
        let size : c - (8 - f place % 8) ≡ f place % 8 + c - 8 = omega arith in
        rw (at, size) refl

    second_loop : lies_within (f place) c ≡ false → IsLoop (next_of (f place) / 8 * 8) (f from) (f place) (mask_high c) (insert_high c) second_change
    second_loop e =
        let gt = is_across (f place) c e in let le8 = count_le is_count in
        record {
          aligned = omega arith;
          below = omega arith;
          value = high_value (omega arith) second_change (λ x lt. replaced_second x (f from) (f place) lt is_count gt ∙ second_value x gt);
          fits = λ x lt. subst (λ v. v < 2 ^ 64) (second_value x gt) (with_field_fits x 0 (f place % 8 + c - 8) (f from / 2 ^ (8 * (8 - f place % 8))) (omega arith) lt);
        }

    -- ---- the words for any place
    module _ (retries : MayRetry p.terms) (pages : All (λ part. p.terms.allowed true (quad_of_part part) ≡ true) (parts_by (lies_within (f place) c) (f place) c)) (readable : (quad : ℕ) → p.terms.allowed true quad ≡ true → p.terms.allowed false quad ≡ true) where
      pages_of : (b : Bool) → lies_within (f place) c ≡ b → All (λ part. p.terms.allowed true (quad_of_part part) ≡ true) (parts_by b (f place) c)
      pages_of b e = subst (λ b. All (λ part. p.terms.allowed true (quad_of_part part) ≡ true) (parts_by b (f place) c)) e pages

      first_may : (b : Bool) → lies_within (f place) c ≡ b → p.terms.allowed true (f place / 8 * 8) ≡ true
      first_may true e = pages_of true e 0 (0, 0) (lit< tt)
      first_may false e = pages_of false e 0 (0, 0) (lit< tt)

      second_may : lies_within (f place) c ≡ false → p.terms.allowed true (next_of (f place) / 8 * 8) ≡ true
      second_may e = pages_of false e 1 (0, 0) (lit< tt)

      finish : (most L : ℕ) (g : Regs) → L ≡ p.to → Only is_scratch f g → Always p (Keeps f) most 0 Plain (at_place g L) (Over tt)
      finish most L g e o = done p (Keeps f) most (at_place g L) tt e (record { only = o })

      first_part : (most need L : ℕ) (g : Regs) (b : Bool) (k : ℕ → Plan (Unit {0})) → lies_within (f place) c ≡ b → Only is_scratch f g → HasAt p.fetch L (first_write place c from) → p.from ≤ L → L + 7 ≤ p.to
          → ((x : ℕ) (g : Regs) → x < 2 ^ 64 → IsReady is_scratch f (f place / 8 * 8) g → Always p (Keeps f) most need Plain (at_place g (L + 7)) (k x))
          → Always p (Keeps f) most (1 + (6 + need)) Plain (at_place g L) (Access (f place / 8 * 8) (first_change b) k)
      first_part most need L g b k e o has in_from in_to rest =
          part most need L g (Operate Bic place (Literal 7) 27) (f place / 8 * 8) (mask_low c) (insert_low c) (first_change b) k refl (first_ready g o) (first_loop b e) has in_from in_to (readable (f place / 8 * 8) (first_may b e)) (first_may b e) retries rest

      -- what comes behind, wherever only scratch has changed
      abbrev Behind : (most need to : ℕ) → Type 0
      Behind most need to = (g : Regs) → Only is_scratch f g → Always p (Keeps f) most need Plain (at_place g to) (Over tt)

      at_other : (most need to to' : ℕ) → to ≡ to' → Behind most need to → Behind most need to'
      at_other most need to to' same behind = subst (λ z. Behind most need z) same behind

      second_part : (most need L : ℕ) (g : Regs) → lies_within (f place) c ≡ false → IsReady is_scratch f (f place / 8 * 8) g → HasAt p.fetch L (second_write place c from) → p.from ≤ L → L + 7 ≤ p.to → Behind most need (L + 7)
          → Always p (Keeps f) most (1 + (6 + need)) Plain (at_place g L) (write_rest false)
      second_part most need L g e r has in_from in_to behind =
          part most need L g (Operate Addq 27 (Literal 8) 27) (next_of (f place) / 8 * 8) (mask_high c) (insert_high c) second_change (λ _. Over tt) refl (second_ready g (is_across (f place) c e) r) (second_loop e) has in_from in_to (readable (next_of (f place) / 8 * 8) (second_may e)) (second_may e) retries
          (λ x h lt r. behind h r.only)

      abbrev tested : Regs → Regs
      tested g = effects (write_test place c) g

      ready_tested : (g : Regs) → IsReady is_scratch f (f place / 8 * 8) g → IsReady is_scratch f (f place / 8 * 8) (effects (write_test place c) g)
      ready_tested g r = record { address = r.address; only = effects_only (write_test place c) is_scratch f g refl r.only }

      test_is : (g : Regs) → IsReady is_scratch f (f place / 8 * 8) g → effects (write_test place c) g 25 ≡ one_if (lies_within (f place) c)
      test_is g r =
          ap (λ x. one_if (nat_lt (bit_and x 7) (9 - c))) (place_in g r.only) ∙ ap (λ x. one_if (nat_lt x (9 - c))) (and_mask (f place) 3) ∙
          ap one_if (test_same (f place) c (count_some is_count) (count_le is_count))

      tail : (most need L : ℕ) (g : Regs) (b : Bool) → lies_within (f place) c ≡ b → IsReady is_scratch f (f place / 8 * 8) g → HasAt p.fetch (L + 2) (Branch Bne 25 (pos 7) ∷ second_write place c from) → p.from ≤ L → L + 10 ≤ p.to → Behind most need (L + 10)
          → Always p (Keeps f) most (1 + (6 + need) + 1) Plain (at_place (effects (write_test place c) g) (L + 2)) (write_rest b)
      tail most need L g true e r has in_from in_to behind =
          let there : target_of (L + 2) (pos 7) ≡ L + 10 = omega arith in
          roomy p (Keeps f) most (need + 1) (1 + (6 + need) + 1) Plain (at_place (tested g) (L + 2)) (Over tt) (omega arith)
          (goes p (Keeps f) most need Plain (at_place (tested g) (L + 2)) (at_place (tested g) (L + 10)) (Branch Bne 25 (pos 7)) (Over tt) has.0 (rw (test_is g r, e, there) refl) (omega arith) (omega arith) (omega arith)
          (behind (tested g) (ready_tested g r).only))
      tail most need L g false e r has in_from in_to behind =
          goes p (Keeps f) most (1 + (6 + need)) Plain (at_place (tested g) (L + 2)) (at_place (tested g) (L + 2 + 1)) (Branch Bne 25 (pos 7)) (write_rest false) has.0 (rw (test_is g r, e) refl) (omega arith) (omega arith) (omega arith)
          (second_part most need (L + 2 + 1) (tested g) e (ready_tested g r) has.1 (omega arith) (omega arith) (at_other most need (L + 10) (L + 2 + 1 + 7) (omega arith) behind))

      any : (most need L : ℕ) (g : Regs) (b : Bool) → lies_within (f place) c ≡ b → Only is_scratch f g → HasAt p.fetch L (unaligned_write place c from) → p.from ≤ L → L + 17 ≤ p.to → Behind most need (L + 17)
          → Always p (Keeps f) most (17 + need) Plain (at_place g L) (Access (f place / 8 * 8) (first_change b) (λ _. write_rest b))
      any most need L g b e o has in_from in_to behind =
          let words = has_back p.fetch L (first_write place c from) (tested_second_write place c from) has in
          roomy p (Keeps f) most (1 + (6 + (2 + (1 + (6 + need) + 1)))) (17 + need) Plain (at_place g L) (Access (f place / 8 * 8) (first_change b) (λ _. write_rest b)) (omega arith)
          (first_part most (2 + (1 + (6 + need) + 1)) L g b (λ _. write_rest b) e o (has_front p.fetch L (first_write place c from) (tested_second_write place c from) has) in_from (omega arith)
          (λ x h lt r. operates p (Keeps f) most (1 + (6 + need) + 1) Plain (write_test place c) h (L + 7) (write_rest b) (has_front p.fetch (L + 7) (write_test place c) (Branch Bne 25 (pos 7) ∷ second_write place c from) words) refl (omega arith) (omega arith)
          (tail most need (L + 7) h b e r (has_back p.fetch (L + 7) (write_test place c) (Branch Bne 25 (pos 7) ∷ second_write place c from) words) (omega arith) (omega arith) (at_other most need (L + 17) (L + 7 + 10) (omega arith) behind))))

      -- in the midst of a piece
      pub any_then : (most need L : ℕ) (g : Regs) → Only is_scratch f g → HasAt p.fetch L (unaligned_write place c from) → p.from ≤ L → L + 17 ≤ p.to → Behind most need (L + 17)
          → Always p (Keeps f) most (17 + need) Plain (at_place g L) (write_plan (parts_by (lies_within (f place) c) (f place) c) (f from))
      any_then most need L g o has in_from in_to behind = by (lies_within (f place) c) refl
        where
          by : (b : Bool) → lies_within (f place) c ≡ b → Always p (Keeps f) most (17 + need) Plain (at_place g L) (write_plan (parts_by b (f place) c) (f from))
          by true e = any most need L g true e o has in_from in_to behind
          by false e = any most need L g false e o has in_from in_to behind

      -- at its end
      pub any_is : (most L : ℕ) (g : Regs) → Only is_scratch f g → HasAt p.fetch L (unaligned_write place c from) → p.from ≤ L → L + 17 ≡ p.to → Always p (Keeps f) most 17 Plain (at_place g L) (write_plan (parts_by (lies_within (f place) c) (f place) c) (f from))
      any_is most L g o has in_from in_to = any_then most 0 L g o has in_from (omega arith) (λ h o. finish most (L + 17) h in_to o)

-- ---- one store
-- how an aligned longword and an aligned quadword may be stored
abbrev stored_4 : Bool → Option ℕ
stored_4 b = if b then Some 4 else None

abbrev stored_8 : (by_eight by_four : Bool) → Option ℕ
stored_8 by_eight by_four = if by_eight then Some 8 else if by_four then Some 4 else None

module _ (fetch : Fetch) (terms : Terms) (pc : ℕ) (f : Regs) (place from : ℕ) (a_place : IsArgument place) (a_from : IsArgument from) (low : pc + 21 ≤ 2 ^ 23) (fits : f place < 2 ^ 32) (may : MayWrite stored_bytes terms (f place) 4) (has : HasAt fetch pc (longword_write place from)) where
  abbrev longs : Piece
  longs = piece fetch terms pc (pc + 21)

  abbrev low_bits : Regs
  low_bits = effects (Operate And place (Literal 3) 25 ∷ []) f

  only_low : Only is_scratch f low_bits
  only_low = put_only is_scratch f f 25 _ refl (λ n _. refl)

  bits_are : low_bits 25 ≡ f place % 4
  bits_are = and_mask (f place) 2

  kinds_of : (b : Bool) → (f place % 4 == 0) ≡ b → MayStore terms (stored_4 b)
  kinds_of b e = subst (λ b. MayStore terms (stored_4 b)) e may.stores

  -- the last words, behind those for two quadwords
  has_end : HasAt fetch (pc + 19) (Branch Br 31 (pos 1) ∷ Memory Stl from place (pos 0) ∷ [])
  has_end =
      has_back fetch pc (Operate And place (Literal 3) 25 ∷ Branch Beq 25 (pos 18) ∷ unaligned_write place 4 from) (Branch Br 31 (pos 1) ∷ Memory Stl from place (pos 0) ∷ []) has

  long_end : (most : ℕ) (g : Regs) → Only is_scratch f g → Always longs (Keeps f) most 0 Plain (at_place g (pc + 21)) (Over tt)
  long_end most g o = done longs (Keeps f) most (at_place g (pc + 21)) tt refl (record { only = o })

  long_is : (most : ℕ) (b : Bool) → (f place % 4 == 0) ≡ b → Always longs (Keeps f) most 19 Plain (at_place low_bits (pc + 1)) (write_plan (parts_by (lies_within (f place) 4) (f place) 4) (f from))
  long_is most true e =
      let even : f place % 4 ≡ 0 = eqb-true _ _ e in
      let inside = aligned_within (f place) even in
      let page = subst (λ b. All (λ part. terms.allowed true (quad_of_part part) ≡ true) (parts_by b (f place) 4)) inside may.pages in
      let there : target_of (pc + 1) (pos 18) ≡ pc + 19 + 1 = omega arith in
      let behind : pc + 19 + 1 + 1 ≡ pc + 21 = omega arith in
      let same : low_bits place ≡ f place = place_in longs f place from a_place a_from (omega arith) fits low_bits only_low in
      let same' : low_bits from ≡ f from = from_in longs f place from a_place a_from (omega arith) fits low_bits only_low in
      let at : plus (low_bits place) 0 ≡ f place = rw same (omega arith) in
      subst (λ b. Always longs (Keeps f) most 19 Plain (at_place low_bits (pc + 1)) (write_plan (parts_by b (f place) 4) (f from))) (sym inside)
      (roomy longs (Keeps f) most 2 19 Plain (at_place low_bits (pc + 1)) (write_plan (parts_by true (f place) 4) (f from)) (lit≤ tt)
      (skips longs (Keeps f) most 1 Plain (at_place low_bits (pc + 1)) Beq 25 (pos 18) (pc + 19 + 1) (write_plan (parts_by true (f place) 4) (f from)) has.1.0 refl (rw (bits_are, even) refl) there (omega arith) (omega arith) (omega arith)
      (store longs (Keeps f) most 0 (at_place low_bits (pc + 19 + 1)) (Memory Stl from place (pos 0)) (plus (low_bits place) 0) 4 (low_bits from % 2 ^ 32) (f place / 8 * 8) _ (λ _. Over tt) has_end.1.0 refl (omega arith) (omega arith)
      (rw at even) (rw at refl) (page 0 (0, 0) (lit< tt)) (kinds_of true e) (λ b lt. rw (at, same') (changed_low b (f place % 8) 4 (f from)))
      (λ b lt. subst (λ z. Always longs (Keeps f) most 0 Plain (at_place low_bits z) (Over tt)) (sym behind) (long_end most low_bits only_low)))))
  long_is most false e =
      let there : target_of (pc + 19) (pos 1) ≡ pc + 21 = omega arith in
      let here : pc + 1 + 1 + 17 ≡ pc + 19 = omega arith in
      let words = has_front fetch (pc + 1 + 1) (unaligned_write place 4 from) (Branch Br 31 (pos 1) ∷ Memory Stl from place (pos 0) ∷ []) has.1.1 in
      passes longs (Keeps f) most 18 Plain (at_place low_bits (pc + 1)) Beq 25 (pos 18) (write_plan (parts_by (lies_within (f place) 4) (f place) 4) (f from)) has.1.0 (rw (bits_are, e) refl) (omega arith) (omega arith)
      (any_then longs f place from a_place a_from (omega arith) fits 4 c4 may.within (kinds_of false e) may.pages may.readable most 1 (pc + 1 + 1) low_bits only_low words (omega arith) (omega arith)
      (λ g o. subst (λ z. Always longs (Keeps f) most 1 Plain (at_place g z) (Over tt)) (sym here)
      (goes longs (Keeps f) most 0 Plain (at_place g (pc + 19)) (at_place g (pc + 21)) (Branch Br 31 (pos 1)) (Over tt) has_end.0 (rw there refl) (omega arith) (omega arith) (omega arith)
      (long_end most g o))))

  long_writes : (most : ℕ) → Always longs (Keeps f) most 21 Plain (at_place f pc) (write_plan (parts_by (lies_within (f place) 4) (f place) 4) (f from))
  long_writes most =
      roomy longs (Keeps f) most 20 21 Plain (at_place f pc) (write_plan (parts_by (lies_within (f place) 4) (f place) 4) (f from)) (lit≤ tt)
      (operates longs (Keeps f) most 19 Plain (Operate And place (Literal 3) 25 ∷ []) f pc (write_plan (parts_by (lies_within (f place) 4) (f place) 4) (f from)) (has.0, tt) refl (omega arith) (omega arith) (long_is most (f place % 4 == 0) refl))

module _ (fetch : Fetch) (terms : Terms) (pc : ℕ) (f : Regs) (place from : ℕ) (a_place : IsArgument place) (a_from : IsArgument from) (low : pc + 24 ≤ 2 ^ 23) (fits : f place < 2 ^ 32) (may : MayWrite stored_bytes terms (f place) 8) (has : HasAt fetch pc (quadword_write place from)) where
  abbrev quads : Piece
  quads = piece fetch terms pc (pc + 24)

  abbrev plan_by : Bool → Plan (Unit {0})
  plan_by b = write_plan (parts_by b (f place) 8) (f from)

  abbrev four_bits : Regs
  four_bits = effects (Operate And place (Literal 3) 25 ∷ []) f

  abbrev eight_bits : Regs
  eight_bits = effects (Operate And place (Literal 7) 25 ∷ []) four_bits

  abbrev upper : Regs
  upper = effects (Operate Srl from (Literal 32) 25 ∷ []) eight_bits

  only_four : Only is_scratch f four_bits
  only_four = put_only is_scratch f f 25 _ refl (λ n _. refl)

  only_eight : Only is_scratch f eight_bits
  only_eight = put_only is_scratch f four_bits 25 _ refl only_four

  only_upper : Only is_scratch f upper
  only_upper = put_only is_scratch f eight_bits 25 _ refl only_eight

  place_of : (g : Regs) → Only is_scratch f g → g place ≡ f place
  place_of g o = place_in quads f place from a_place a_from (omega arith) fits g o

  from_of : (g : Regs) → Only is_scratch f g → g from ≡ f from
  from_of g o = from_in quads f place from a_place a_from (omega arith) fits g o

  four_is : four_bits 25 ≡ f place % 4
  four_is = and_mask (f place) 2

  eight_is : eight_bits 25 ≡ f place % 8
  eight_is = ap (λ x. bit_and x 7) (place_of four_bits only_four) ∙ and_mask (f place) 3

  upper_is : upper 25 ≡ f from / 2 ^ 32
  upper_is = ap (λ x. x / 2 ^ 32) (from_of eight_bits only_eight)

  at_end : (most : ℕ) (g : Regs) → Only is_scratch f g → Always quads (Keeps f) most 0 Plain (at_place g (pc + 24)) (Over tt)
  at_end most g o = done quads (Keeps f) most (at_place g (pc + 24)) tt refl (record { only = o })

  stores_of : (b d : Bool) → (f place % 8 == 0) ≡ b → (f place % 4 == 0) ≡ d → MayStore terms (stored_8 b d)
  stores_of b d e e' = subst (λ d. MayStore terms (stored_8 b d)) e' (subst (λ b. MayStore terms (stored_8 b (f place % 4 == 0))) e may.stores)

  parts_of : (b : Bool) → lies_within (f place) 8 ≡ b → All (λ part. terms.allowed true (quad_of_part part) ≡ true) (parts_by b (f place) 8)
  parts_of b e = subst (λ b. All (λ part. terms.allowed true (quad_of_part part) ≡ true) (parts_by b (f place) 8)) e may.pages

  -- at a multiple of 8
  aligned_8 : (most : ℕ) → f place % 8 ≡ 0 → (f place % 8 == 0) ≡ true → Always quads (Keeps f) most 3 Plain (at_place eight_bits (pc + 1 + 1 + 1)) (plan_by true)
  aligned_8 most even e =
      let end : target_of (pc + 1 + 1 + 1 + 1 + 1) (pos 18) ≡ pc + 24 = omega arith in
      let same = place_of eight_bits only_eight in
      let same' = from_of eight_bits only_eight in
      let at : plus (eight_bits place) 0 ≡ f place = rw same (omega arith) in
      goes quads (Keeps f) most 2 Plain (at_place eight_bits (pc + 1 + 1 + 1)) (at_place eight_bits (pc + 1 + 1 + 1 + 1)) (Branch Bne 25 (pos 2)) (plan_by true) has.1.1.1.0 (rw (eight_is, even) refl) (omega arith) (omega arith) (omega arith)
      (store quads (Keeps f) most 1 (at_place eight_bits (pc + 1 + 1 + 1 + 1)) (Memory Stq from place (pos 0)) (plus (eight_bits place) 0) 8 (eight_bits from % 2 ^ 64) (f place / 8 * 8) _ (λ _. Over tt) has.1.1.1.1.0 refl (omega arith) (omega arith)
      (rw at even) (rw at refl) (parts_of true (aligned_within_8 (f place) even) 0 (0, 0) (lit< tt)) (stores_of true (f place % 4 == 0) e refl) (λ b lt. rw (at, same') (changed_low b (f place % 8) 8 (f from)))
      (λ b lt. goes quads (Keeps f) most 0 Plain (at_place eight_bits (pc + 1 + 1 + 1 + 1 + 1)) (at_place eight_bits (pc + 24)) (Branch Br 31 (pos 18)) (Over tt) has.1.1.1.1.1.0 (rw end refl) (omega arith) (omega arith) (omega arith)
      (at_end most eight_bits only_eight)))

  -- at 4 modulo 8
  low_half : (x : ℕ) → f place % 8 ≡ 4 → with_field_of x (f place % 8) 4 (f from % 2 ^ 32) ≡ with_field_of x (f place % 8) (8 - f place % 8) (f from)
  low_half x four = rw four (changed_low x 4 4 (f from))

  high_half : (x : ℕ) → f place % 8 ≡ 4 → next_of (f place) ≡ f place + 4 → with_field_of x 0 4 (f from / 2 ^ 32 % 2 ^ 32) ≡ with_field_of x (next_of (f place) % 8) (8 - (8 - f place % 8)) (f from / 2 ^ (8 * (8 - f place % 8)))
  high_half x four next =
      let at : next_of (f place) % 8 ≡ 0 = omega arith in
      rw (at, four) (changed_low x 0 4 (f from / 2 ^ 32))

  halves : (most : ℕ) → f place % 8 ≡ 4 → (f place % 8 == 0) ≡ false → (f place % 4 == 0) ≡ true → Always quads (Keeps f) most 5 Plain (at_place eight_bits (pc + 1 + 1 + 1)) (plan_by false)
  halves most four e e' =
      let across : lies_within (f place) 8 ≡ false = across_8 (f place) (omega arith) in
      let kind : terms.kinds Store 4 ≡ true = stores_of false true e e' in
      let within = may.within in
      let next : next_of (f place) ≡ f place + 4 = omega arith in
      let there : target_of (pc + 1 + 1 + 1) (pos 2) ≡ pc + 1 + 1 + 1 + 1 + 1 + 1 = omega arith in
      let end : target_of (pc + 1 + 1 + 1 + 1 + 1 + 1 + 1 + 1 + 1) (pos 14) ≡ pc + 24 = omega arith in
      let same = place_of eight_bits only_eight in
      let same' = from_of eight_bits only_eight in
      let same'' = place_of upper only_upper in
      let at : plus (eight_bits place) 0 ≡ f place = rw same (omega arith) in
      let at' : plus (upper place) 4 ≡ f place + 4 = rw same'' (omega arith) in
      let low : (f place + 4) % 8 ≡ 0 = omega arith in
      goes quads (Keeps f) most 4 Plain (at_place eight_bits (pc + 1 + 1 + 1)) (at_place eight_bits (pc + 1 + 1 + 1 + 1 + 1 + 1)) (Branch Bne 25 (pos 2)) (plan_by false) has.1.1.1.0 (rw (eight_is, four, there) refl) (omega arith) (omega arith) (omega arith)
      (store quads (Keeps f) most 3 (at_place eight_bits (pc + 1 + 1 + 1 + 1 + 1 + 1)) (Memory Stl from place (pos 0)) (plus (eight_bits place) 0) 4 (eight_bits from % 2 ^ 32) (f place / 8 * 8) _ _ has.1.1.1.1.1.1.0 refl (omega arith) (omega arith)
      (rw at (omega arith)) (rw at refl) (parts_of false across 0 (0, 0) (lit< tt)) kind (λ b lt. rw (at, same') (low_half b four))
      (λ b lt. operates quads (Keeps f) most 2 Plain (Operate Srl from (Literal 32) 25 ∷ []) eight_bits (pc + 1 + 1 + 1 + 1 + 1 + 1 + 1) _ (has.1.1.1.1.1.1.1.0, tt) refl (omega arith) (omega arith)
      (store quads (Keeps f) most 1 (at_place upper (pc + 1 + 1 + 1 + 1 + 1 + 1 + 1 + 1)) (Memory Stl 25 place (pos 4)) (plus (upper place) 4) 4 (upper 25 % 2 ^ 32) (next_of (f place) / 8 * 8) _ (λ _. Over tt) has.1.1.1.1.1.1.1.1.0 refl (omega arith) (omega arith)
      (rw at' (omega arith)) (rw (at', next) refl) (parts_of false across 1 (0, 0) (lit< tt)) kind (λ b lt. rw (at', low, upper_is) (high_half b four next))
      (λ b lt. goes quads (Keeps f) most 0 Plain (at_place upper (pc + 1 + 1 + 1 + 1 + 1 + 1 + 1 + 1 + 1)) (at_place upper (pc + 24)) (Branch Br 31 (pos 14)) (Over tt) has.1.1.1.1.1.1.1.1.1.0 (rw end refl) (omega arith) (omega arith) (omega arith)
      (at_end most upper only_upper)))))

  -- anywhere else the operand crosses
  crossing_8 : (most : ℕ) → 0 < f place % 8 → MayRetry terms → Always quads (Keeps f) most 14 Plain (at_place four_bits (pc + 10)) (plan_by false)
  crossing_8 most some retries =
      let e = across_8 (f place) some in
      let at : pc + 1 + 1 + 1 + 1 + 1 + 1 + 1 + 1 + 1 + 1 ≡ pc + 10 = omega arith in
      let words = subst (λ x. HasAt fetch x (first_write place 8 from ++ second_write place 8 from)) at has.1.1.1.1.1.1.1.1.1.1 in
      first_part quads f place from a_place a_from (omega arith) fits 8 c8 may.within retries may.pages may.readable most 7 (pc + 10) four_bits false _ e only_four (has_front fetch (pc + 10) (first_write place 8 from) (second_write place 8 from) words) (omega arith) (omega arith)
      (λ x g lt r. second_part quads f place from a_place a_from (omega arith) fits 8 c8 may.within retries may.pages may.readable most 0 (pc + 10 + 7) g e r (has_back fetch (pc + 10) (first_write place 8 from) (second_write place 8 from) words) (omega arith) (omega arith)
      (λ h o. finish quads f place from a_place a_from (omega arith) fits 8 c8 may.within retries may.pages may.readable most (pc + 10 + 7 + 7) h (omega arith) o))

  by_eight : (most : ℕ) → f place % 4 ≡ 0 → (f place % 4 == 0) ≡ true → (b : Bool) → (f place % 8 == 0) ≡ b → Always quads (Keeps f) most 5 Plain (at_place eight_bits (pc + 1 + 1 + 1)) (plan_by (lies_within (f place) 8))
  by_eight most even is_even true e =
      let even' = eqb-true (f place % 8) 0 e in
      subst (λ b. Always quads (Keeps f) most 5 Plain (at_place eight_bits (pc + 1 + 1 + 1)) (plan_by b)) (sym (aligned_within_8 (f place) even'))
      (roomy quads (Keeps f) most 3 5 Plain (at_place eight_bits (pc + 1 + 1 + 1)) (plan_by true) (lit≤ tt) (aligned_8 most even' e))
  by_eight most even is_even false e =
      let some = eqb_pos (f place % 8) e in
      subst (λ b. Always quads (Keeps f) most 5 Plain (at_place eight_bits (pc + 1 + 1 + 1)) (plan_by b)) (sym (across_8 (f place) some))
      (halves most (omega arith) e is_even)

  by_four : (most : ℕ) (b : Bool) → (f place % 4 == 0) ≡ b → Always quads (Keeps f) most 15 Plain (at_place four_bits (pc + 1)) (plan_by (lies_within (f place) 8))
  by_four most true e =
      let even = eqb-true (f place % 4) 0 e in
      roomy quads (Keeps f) most 7 15 Plain (at_place four_bits (pc + 1)) (plan_by (lies_within (f place) 8)) (lit≤ tt)
      (goes quads (Keeps f) most 6 Plain (at_place four_bits (pc + 1)) (at_place four_bits (pc + 1 + 1)) (Branch Bne 25 (pos 8)) (plan_by (lies_within (f place) 8)) has.1.0 (rw (four_is, even) refl) (omega arith) (omega arith) (omega arith)
      (operates quads (Keeps f) most 5 Plain (Operate And place (Literal 7) 25 ∷ []) four_bits (pc + 1 + 1) (plan_by (lies_within (f place) 8)) (has.1.1.0, tt) refl (omega arith) (omega arith)
      (by_eight most even e (f place % 8 == 0) refl)))
  by_four most false e =
      let some = eqb_pos (f place % 4) e in
      let some' : 0 < f place % 8 = omega arith in
      let not_8 : (f place % 8 == 0) ≡ false = grind (arith, nat_tests, some') in
      let there : target_of (pc + 1) (pos 8) ≡ pc + 10 = omega arith in
      subst (λ b. Always quads (Keeps f) most 15 Plain (at_place four_bits (pc + 1)) (plan_by b)) (sym (across_8 (f place) some'))
      (goes quads (Keeps f) most 14 Plain (at_place four_bits (pc + 1)) (at_place four_bits (pc + 10)) (Branch Bne 25 (pos 8)) (plan_by false) has.1.0 (rw (four_is, e, there) refl) (omega arith) (omega arith) (omega arith)
      (crossing_8 most some' (stores_of false false not_8 e)))

  quad_writes : (most : ℕ) → Always quads (Keeps f) most 24 Plain (at_place f pc) (plan_by (lies_within (f place) 8))
  quad_writes most =
      roomy quads (Keeps f) most 16 24 Plain (at_place f pc) (plan_by (lies_within (f place) 8)) (lit≤ tt)
      (operates quads (Keeps f) most 15 Plain (Operate And place (Literal 3) 25 ∷ []) f pc (plan_by (lies_within (f place) 8)) (has.0, tt) refl (omega arith) (omega arith) (by_four most (f place % 4 == 0) refl))

-- ---- the whole
pub writes : (place count from : ℕ) → IsCount count → IsArgument place → IsArgument from → WritesPlan stored_bytes place count from (write_code place count from)
writes place count from c1 a_place a_from fetch terms pc f low may has n =
    let within = may.within in
    let fits : f place < 2 ^ 32 = omega arith in
    let p = piece fetch terms pc (pc + 7) in
    subst (λ b. Runs (piece fetch terms pc (pc + 7)) (Keeps f) n Plain 7 (at_place f pc) (write_plan (parts_by b (f place) 1) (f from))) (sym (byte_within (f place)))
    (first_part p f place from a_place a_from low fits 1 c1 may.within may.stores may.pages may.readable n 0 pc f true (λ _. Over tt) (byte_within (f place)) (λ n _. refl) has (omega arith) (omega arith)
    (λ x g lt r. finish p f place from a_place a_from low fits 1 c1 may.within may.stores may.pages may.readable n (pc + 7) g refl r.only) n 7 (omega arith) (lit≤ tt))
writes place count from c2 a_place a_from fetch terms pc f low may has n =
    any_is (piece fetch terms pc (pc + 17)) f place from a_place a_from low (let within = may.within in omega arith) 2 c2 may.within may.stores may.pages may.readable n pc f (λ n _. refl) has (omega arith) refl n 17 (omega arith) (lit≤ tt)
writes place count from c4 a_place a_from fetch terms pc f low may has n =
    long_writes fetch terms pc f place from a_place a_from low (let within = may.within in omega arith) may has n n 21 (omega arith) (lit≤ tt)
writes place count from c8 a_place a_from fetch terms pc f low may has n =
    quad_writes fetch terms pc f place from a_place a_from low (let within = may.within in omega arith) may has n n 24 (omega arith) (lit≤ tt)
