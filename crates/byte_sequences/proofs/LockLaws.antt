-- The words of an interlocked change.
use Rattle.std.proofs.Common.{◌≡◌, ℕ, ◌+◌, ◌*◌, ◌/◌, ◌%◌, ◌^◌, ◌<◌, ◌≤◌, refl, ap, ◌∙◌, arith, List, [], ◌∷◌, length, true, false, eqb, lit<, lit≤, ne_eqb}
use Rattle.std.specs.Prelude.{bit_and, bit_or, ◌≢◌}
use Rattle.std.specs.List.{list_all}
use Rattle.std.specs.Int.Bits.{or_comm}
use Rattle.std.proofs.lemmas.Nat.Bits.{and_high_mask}
use Rattle.std.proofs.Math.Bool.{or-true}
use Rattle.vt_words.proofs.Spreads.{below_8}
use Rattle.vt_words.specs.Quad.{one as c1, two as c2, field_of, with_field_of, left, ins_low, msk_low}
use Rattle.vt_words.proofs.Fields.{replaced, extracted}
use Rattle.alpha_encode.specs.declared.instr.OperateOp.{OperateOp}
use Rattle.alpha_encode.specs.declared.instr.OperateOp.TheVariants.{Bis, Bic}
use Rattle.alpha_encode.specs.declared.instr.Second.TheVariants.{Literal}
use Rattle.alpha_encode.specs.declared.instr.AlphaInstr.{AlphaInstr}
use Rattle.alpha_encode.specs.declared.instr.AlphaInstr.TheVariants.{Operate}
use Rattle.alpha_meaning.specs.State.{Regs, put, at_place}
use Rattle.alpha_meaning.specs.Result.{plus, inverse, result_of}
use Rattle.alpha_meaning.specs.Pieces.{Fetch, Terms, Access, Over, Plain, Runs, HasAt, piece, Only}
use Rattle.alpha_meaning.specs.Loops.{is_operate, effect, effects, fine}
use Rattle.alpha_meaning.proofs.Rules.{done, operates, put_only, effects_only}
use Rattle.alpha_meaning.proofs.Retry.{Changes, turns}
use Rattle.alpha_meaning.proofs.Registers.{eqb_self}
use Rattle.micro_ops.specs.declared.program.LockedOp.{LockedOp}
use Rattle.micro_ops.specs.declared.program.LockedOp.TheVariants.{AddWord, SetBit, ClearBit}
use Rattle.byte_sequences.specs.Instructions.{IsArgument, is_scratch, is_scratch_or}
use Rattle.byte_sequences.specs.Words.{word_added, bit_changed, locked_loop, locked_code}
use Rattle.byte_sequences.specs.Promises.{MayRetry, Holds, LockedPlan}
use Rattle.byte_sequences.proofs.Operands.{other}
use Rattle.byte_sequences.proofs.WriteLaws.{with_field_fits, IsReady}

-- one shifted to a bit of a byte
shifted : (v : ℕ) → v < 8 → left 1 (v % 64) ≡ 2 ^ v
shifted = below_8 (λ v. left 1 (v % 64) ≡ 2 ^ v) refl refl refl refl refl refl refl refl

-- a word keeps the low 16 bits of a sum
word_sum : (x at a b : ℕ) → with_field_of x at 2 (plus a b) ≡ with_field_of x at 2 (a + b)
word_sum x at a b =
    let e : (a + b) % 2 ^ 64 % 2 ^ 16 ≡ (a + b) % 2 ^ 16 = omega arith in
    ap (λ y. x / 2 ^ (8 * (at + 2)) * 2 ^ (8 * (at + 2)) + (y * 2 ^ (8 * at) + x % 2 ^ (8 * at))) e

module _ (place from to : ℕ) (f : Regs) (a_place : IsArgument place) (a_from : IsArgument from) (a_to : IsArgument to) (place_to : eqb place to ≡ false) (from_to : eqb from to ≡ false) (fits : f place < 2 ^ 32) where
  out : (n : ℕ) → IsArgument n → eqb n to ≡ false → is_scratch_or to n ≡ false
  out n is not_to = rw (not_to, other n 25 is (lit< tt), other n 26 is (lit< tt), other n 27 is (lit< tt)) refl

  may : (n : ℕ) → is_scratch n ≡ true → is_scratch_or to n ≡ true
  may n h = rw h (or-true (eqb n to))

  may_to : is_scratch_or to to ≡ true
  may_to = rw (eqb_self to) refl

  to_25 : eqb 25 to ≡ false
  to_25 = let low = a_to.high in ne_eqb 25 to (λ (e : 25 ≡ to). absurd (omega arith))

  to_26 : eqb 26 to ≡ false
  to_26 = let low = a_to.high in ne_eqb 26 to (λ (e : 26 ≡ to). absurd (omega arith))

  to_27 : eqb 27 to ≡ false
  to_27 = let low = a_to.high in ne_eqb 27 to (λ (e : 27 ≡ to). absurd (omega arith))

  place_in : (g : Regs) → IsReady (is_scratch_or to) f (f place / 8 * 8) g → g place ≡ f place
  place_in g r = r.only place (out place a_place place_to)

  from_in : (g : Regs) → IsReady (is_scratch_or to) f (f place / 8 * 8) g → g from ≡ f from
  from_in g r = r.only from (out from a_from from_to)

  -- the registers at the end of a loop
  record Left (old : ℕ → ℕ) (x : ℕ) (g : Regs) : Type 0 where
    value : g to ≡ old x
    only : Only (is_scratch_or to) f g

  -- words that change R25 and leave the old value in `to`
  record IsMiddle (middle : List AlphaInstr) (change old : ℕ → ℕ) : Type 0 where
    operate : list_all is_operate middle ≡ true
    fine_all : list_all (fine (is_scratch_or to)) middle ≡ true
    short : length middle ≤ 13
    keeps : (g : Regs) → effects middle g 27 ≡ g 27
    value : (g : Regs) (x : ℕ) → g place ≡ f place → g from ≡ f from → x < 2 ^ 64 → effects middle (put g 25 x) 25 ≡ change x
    old_is : (g : Regs) (x : ℕ) → g place ≡ f place → x < 2 ^ 64 → effects middle (put g 25 x) to ≡ old x
    within : (x : ℕ) → x < 2 ^ 64 → change x < 2 ^ 64

  changes : (middle : List AlphaInstr) (change old : ℕ → ℕ) → IsMiddle middle change old → Changes (f place / 8 * 8) middle change (IsReady (is_scratch_or to) f (f place / 8 * 8)) (Left old)
  changes middle change old m = record {
    aligned = omega arith;
    below = omega arith;
    operate = m.operate;
    short = m.short;
    address = λ g r. r.address;
    value = λ g x r lt. m.value g x (place_in g r) (from_in g r) lt;
    fits = m.within;
    ready = λ g x r. record { address = m.keeps (put g 25 x) ∙ r.address; only = effects_only middle (is_scratch_or to) f (put g 25 x) m.fine_all (put_only (is_scratch_or to) f g 25 x (may 25 refl) r.only) };
    ready_25 = λ g x r. record { address = r.address; only = put_only (is_scratch_or to) f g 25 x (may 25 refl) r.only };
    ends = λ g x r lt. record {
      value = rw (other to 25 a_to (lit< tt)) (m.old_is g x (place_in g r) lt);
      only = put_only (is_scratch_or to) f (effects middle (put g 25 x)) 25 1 (may 25 refl) (effects_only middle (is_scratch_or to) f (put g 25 x) m.fine_all (put_only (is_scratch_or to) f g 25 x (may 25 refl) r.only));
    };
  }

  add_is : f place % 8 + 2 ≤ 8 → IsMiddle (word_added place from to) (λ x. with_field_of x (f place % 8) 2 (field_of x (f place % 8) 2 + f from)) (λ x. field_of x (f place % 8) 2)
  add_is inside = record {
    operate = refl;
    fine_all = rw (may_to, may 26 refl, may 25 refl) refl;
    short = omega arith;
    keeps = λ g. rw (other to 31 a_to (lit< tt), to_27) refl;
    value = λ g x at_place at_from lt.
        rw (other to 31 a_to (lit< tt), place_to, from_to, to_25, eqb_self to, other place 25 a_place (lit< tt), other place 26 a_place (lit< tt), other from 25 a_from (lit< tt), at_place, at_from, extracted x (f from) (f place) lt c2)
        (or_comm (msk_low 3 x (f place)) _ ∙ replaced x _ (f place) lt c2 (omega arith) ∙ word_sum x (f place % 8) (field_of x (f place % 8) 2) (f from));
    old_is = λ g x at_place lt.
        rw (other to 31 a_to (lit< tt), other to 25 a_to (lit< tt), other to 26 a_to (lit< tt), eqb_self to, other place 25 a_place (lit< tt), at_place) (extracted x 0 (f place) lt c2);
    within = λ x lt. with_field_fits x (f place % 8) 2 _ (omega arith) lt;
  }

  -- the new byte of a bit
  module _ (op : OperateOp) (new : ℕ → ℕ) (bit : f from < 8) (op_is : (a held : ℕ) → result_of op a (2 ^ f from) held ≡ new a) where
    bit_is : IsMiddle (bit_changed op place from to) (λ x. with_field_of x (f place % 8) 1 (new (field_of x (f place % 8) 1))) (λ x. field_of x (f place % 8) 1)
    bit_is = record {
      operate = refl;
      fine_all = rw (may_to, may 26 refl, may 25 refl) refl;
      short = omega arith;
      keeps = λ g. rw (other to 31 a_to (lit< tt), to_27) refl;
      value = λ g x at_place at_from lt.
          rw (other to 31 a_to (lit< tt), place_to, from_to, to_25, eqb_self to, other to 26 a_to (lit< tt), other place 25 a_place (lit< tt), other place 26 a_place (lit< tt), other from 25 a_from (lit< tt), other from 26 a_from (lit< tt), eqb_self x, at_place, at_from, shifted (f from) bit, extracted x 0 (f place) lt c1)
          (ap (λ u. bit_or (msk_low 1 x (f place)) (ins_low 1 u (f place))) (op_is (field_of x (f place % 8) 1) _) ∙ or_comm (msk_low 1 x (f place)) _ ∙ replaced x _ (f place) lt c1 (omega arith));
      old_is = λ g x at_place lt.
          rw (other to 31 a_to (lit< tt), other to 25 a_to (lit< tt), other to 26 a_to (lit< tt), eqb_self to, other place 25 a_place (lit< tt), at_place) (extracted x 0 (f place) lt c1);
      within = λ x lt. with_field_fits x (f place % 8) 1 _ (omega arith) lt;
    }

  module _ (fetch : Fetch) (terms : Terms) (pc : ℕ) (n : ℕ) (retries : MayRetry terms) (page : terms.allowed true (f place / 8 * 8) ≡ true) (readable : (quad : ℕ) → terms.allowed true quad ≡ true → terms.allowed false quad ≡ true) where
    -- the address, and the loop
    whole : (middle : List AlphaInstr) (change old : ℕ → ℕ) (count : ℕ) → ((x : ℕ) → old x < 2 ^ (8 * count)) → IsMiddle middle change old → pc + (1 + (length middle + 3)) ≤ 2 ^ 23
        → HasAt fetch pc (locked_loop place middle)
        → Runs (piece fetch terms pc (pc + (1 + (length middle + 3)))) (Holds f to count) n Plain (1 + (length middle + 3)) (at_place f pc) (Access (f place / 8 * 8) change (λ x. Over (old x)))
    whole middle change old count ranges m low has =
        let p = piece fetch terms pc (pc + (1 + (length middle + 3))) in
        let short = m.short in
        let enough : 1 + (length middle + 3 + 0) ≤ 1 + (length middle + 3) = omega arith in
        let end : pc + 1 + (length middle + 3) ≡ pc + (1 + (length middle + 3)) = omega arith in
        let ready : IsReady (is_scratch_or to) f (f place / 8 * 8) (effect (Operate Bic place (Literal 7) 27) f) = record { address = and_high_mask 64 3 (lit≤ tt) (f place) (omega arith); only = put_only (is_scratch_or to) f f 27 _ (may 27 refl) (λ n _. refl) } in
        operates p (Holds f to count) n (length middle + 3 + 0) Plain (Operate Bic place (Literal 7) 27 ∷ []) f pc (Access (f place / 8 * 8) change (λ x. Over (old x))) (has.0, tt) refl (omega arith) (omega arith)
        (turns p (Holds f to count) (pc + 1) (f place / 8 * 8) middle change (IsReady (is_scratch_or to) f (f place / 8 * 8)) (Left old) (changes middle change old m) 0 (λ x. Over (old x)) (omega arith) (omega arith) (omega arith) has.1 (readable (f place / 8 * 8) page) page retries.loads retries.stores n
        (λ x g lt l. done p (Holds f to count) n (at_place g (pc + 1 + (length middle + 3))) (old x) end (record { holds = l.value; fits = ranges x; only = l.only }))
        (effect (Operate Bic place (Literal 7) 27) f) ready)
        n (1 + (length middle + 3)) (omega arith) enough

pub locks : (kind : LockedOp) (place from to : ℕ) → IsArgument place → IsArgument from → IsArgument to → place ≢ to → from ≢ to → LockedPlan kind place from to (locked_code kind place from to)
locks AddWord place from to a_place a_from a_to p_to f_to fetch terms pc f low may has n =
    whole place from to f a_place a_from a_to (ne_eqb place to p_to) (ne_eqb from to f_to) (let within = may.within in omega arith) fetch terms pc n may.retries may.page may.readable _ _ _ 2 (λ x. omega arith)
    (add_is place from to f a_place a_from a_to (ne_eqb place to p_to) (ne_eqb from to f_to) (let within = may.within in omega arith) may.operand) low has
locks SetBit place from to a_place a_from a_to p_to f_to fetch terms pc f low may has n =
    whole place from to f a_place a_from a_to (ne_eqb place to p_to) (ne_eqb from to f_to) (let within = may.within in omega arith) fetch terms pc n may.retries may.page may.readable _ _ _ 1 (λ x. omega arith)
    (bit_is place from to f a_place a_from a_to (ne_eqb place to p_to) (ne_eqb from to f_to) (let within = may.within in omega arith) Bis (λ a. bit_or a (2 ^ f from)) may.operand (λ a held. refl)) low has
locks ClearBit place from to a_place a_from a_to p_to f_to fetch terms pc f low may has n =
    whole place from to f a_place a_from a_to (ne_eqb place to p_to) (ne_eqb from to f_to) (let within = may.within in omega arith) fetch terms pc n may.retries may.page may.readable _ _ _ 1 (λ x. omega arith)
    (bit_is place from to f a_place a_from a_to (ne_eqb place to p_to) (ne_eqb from to f_to) (let within = may.within in omega arith) Bic (λ a. bit_and a (inverse (2 ^ f from))) may.operand (λ a held. refl)) low has
