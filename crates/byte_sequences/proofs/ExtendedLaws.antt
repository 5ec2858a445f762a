-- The words that read a longword and extend it with its sign.
use Rattle.std.proofs.Common.{◌≡◌, ℕ, ◌+◌, ◌*◌, ◌/◌, ◌%◌, ◌^◌, ◌<◌, ◌≤◌, refl, sym, ap, ◌∙◌, subst, arith, List, [], ◌∷◌, Bool, true, false, eqb-true, lit<, lit≤, rules}
use Rattle.std.specs.Prelude.{pos, bit_and, All, ◌==◌, ◌++◌, if◌then◌else◌}
use Rattle.std.proofs.lemmas.Nat.{and_mask, mod_below, pow_pos}
use Rattle.std.proofs.lemmas.Nat.Bits.{and_pow}
use Rattle.std.proofs.Math.Nat.{mod-eq_of_lt}
use Rattle.vt_words.specs.Quad.{four as c4, field_of, sign_extended}
use Rattle.vt_words.proofs.Fields.{extracted}
use Rattle.vt_words.proofs.Longwords.{extended_again, extended_low}
use Rattle.alpha_encode.specs.declared.instr.BranchOp.TheVariants.{Beq, Br}
use Rattle.alpha_encode.specs.declared.instr.OperateOp.TheVariants.{Addl, And}
use Rattle.alpha_encode.specs.declared.instr.Second.TheVariants.{Literal}
use Rattle.alpha_encode.specs.declared.instr.AlphaInstr.{AlphaInstr}
use Rattle.alpha_encode.specs.declared.instr.MemoryOp.TheVariants.{Ldl}
use Rattle.alpha_encode.specs.declared.instr.AlphaInstr.TheVariants.{Memory, Branch, Operate}
use Rattle.alpha_meaning.specs.declared.access.AlphaKind.TheVariants.{Load}
use Rattle.alpha_meaning.specs.State.{Regs, put, at_place}
use Rattle.alpha_meaning.specs.Act.{target_of}
use Rattle.alpha_meaning.specs.Result.{plus}
use Rattle.alpha_meaning.specs.Pieces.{Fetch, Terms, Plan, Access, Over, Plain, Piece, HasAt, piece, Only}
use Rattle.alpha_meaning.specs.Loops.{effects}
use Rattle.alpha_meaning.proofs.Rules.{Always, done, roomy, goes, passes, skips, load, operates, put_only, has_back}
use Rattle.alpha_meaning.proofs.Registers.{put_same, put_other}
use Rattle.byte_sequences.specs.Instructions.{IsArgument, is_scratch_or}
use Rattle.byte_sequences.specs.Words.{first_read, second_read, extended_read}
use Rattle.byte_sequences.specs.Plans.{quad_of_part, read_plan}
use Rattle.byte_sequences.specs.Promises.{HoldsExtended, MayRead, ReadsExtended, loaded_bytes}
use Rattle.byte_sequences.proofs.Encoded.{EachEncodable, all_encodable}
use Rattle.byte_sequences.proofs.Operands.{other, lies_within, parts_by, aligned_within, eqb_pos, unaligned_within}
use Rattle.byte_sequences.proofs.ReadLaws.{Got, crosses, loads, own_too, rest, scratch_too}
use Rattle.alpha_encode.specs.Words.{IsEncodable}

module _ (fetch : Fetch) (terms : Terms) (pc : ℕ) (f : Regs) (place to : ℕ) (a_place : IsArgument place) (a_to : IsArgument to) (low : pc + 12 ≤ 2 ^ 23) (fits : f place < 2 ^ 32) (may : MayRead loaded_bytes terms (f place) 4) (has : HasAt fetch pc (extended_read place to)) where
  abbrev longs : Piece
  longs = piece fetch terms pc (pc + 12)

  abbrev long_plan : Bool → Plan ℕ
  long_plan b = read_plan (parts_by b (f place) 4)

  -- behind the test of the address
  abbrev low_bits : Regs
  low_bits = effects (Operate And place (Literal 3) 25 ∷ []) f

  low_are : low_bits 25 ≡ f place % 4
  low_are = and_mask (f place) 2

  only_low : Only (is_scratch_or to) f low_bits
  only_low = put_only (is_scratch_or to) f f 25 _ (scratch_too to 25 refl) (λ n _. refl)

  place_low : low_bits place ≡ f place
  place_low = put_other f 25 _ place (other place 25 a_place (lit< tt))

  long_kind : (b : Bool) → (f place % 4 == 0) ≡ b → terms.kinds Load (if b then 4 else 8) ≡ true
  long_kind b e = subst (λ b. terms.kinds Load (if b then 4 else 8) ≡ true) e may.loads

  abbrev long_end : List AlphaInstr
  long_end = Operate Addl 25 (Literal 0) to ∷ Branch Br 31 (pos 1) ∷ Memory Ldl to place (pos 0) ∷ []

  has_end : HasAt fetch (pc + 9) long_end
  has_end =
      has_back fetch pc
      (Operate And place (Literal 3) 25 ∷ Branch Beq 25 (pos 9) ∷ Operate And place (Literal 4) 26 ∷ (first_read place 4 ++ (Branch Beq 26 (pos 3) ∷ second_read place 4 25))) long_end has

  -- the register behind an extension
  holds : (g : Regs) (x v : ℕ) → Only (is_scratch_or to) f g → x % 2 ^ 32 ≡ v → HoldsExtended f to v (put g to (sign_extended x 32))
  holds g x v o e =
      let same : put g to (sign_extended x 32) to ≡ sign_extended x 32 = put_same g to _ (other to 31 a_to (lit< tt)) in
      record {
        holds = ap (λ n. n % 2 ^ 32) same ∙ (extended_low x ∙ e);
        extended = ap (λ n. sign_extended n 32) same ∙ (extended_again x ∙ sym same);
        only = put_only (is_scratch_or to) f g to _ (own_too to) o;
      }

  extends : (most : ℕ) (g : Regs) (v : ℕ) → Only (is_scratch_or to) f g → g 25 % 2 ^ 32 ≡ v → Always longs (HoldsExtended f to) most 2 Plain (at_place g (pc + 9)) (Over v)
  extends most g v o e =
      let there : target_of (pc + 9 + 1) (pos 1) ≡ pc + 12 = omega arith in
      let h = put g to (sign_extended (plus (g 25) 0) 32) in
      operates longs (HoldsExtended f to) most 1 Plain (Operate Addl 25 (Literal 0) to ∷ []) g (pc + 9) (Over v) (has_end.0, tt) refl (omega arith) (omega arith)
      (goes longs (HoldsExtended f to) most 0 Plain (at_place (put g to (sign_extended (plus (g 25) 0) 32)) (pc + 9 + 1)) (at_place (put g to (sign_extended (plus (g 25) 0) 32)) (pc + 12)) (Branch Br 31 (pos 1)) (Over v) has_end.1.0 (rw there refl) (omega arith) (omega arith) (omega arith)
      (done longs (HoldsExtended f to) most (at_place (put g to (sign_extended (plus (g 25) 0) 32)) (pc + 12)) v refl
      (holds g (plus (g 25) 0) v o (sum (g 25) ∙ e))))
    where
      sum : (n : ℕ) → plus n 0 % 2 ^ 32 ≡ n % 2 ^ 32
      sum n = omega arith

  -- an aligned one
  whole_long : (most : ℕ) → f place % 4 ≡ 0 → terms.kinds Load 4 ≡ true → terms.allowed false (f place / 8 * 8) ≡ true → Always longs (HoldsExtended f to) most 2 Plain (at_place low_bits (pc + 1)) (long_plan true)
  whole_long most even kind page =
      let there : target_of (pc + 1) (pos 9) ≡ pc + 9 + 1 + 1 = omega arith in
      let at : plus (low_bits place) 0 ≡ f place = rw place_low (omega arith) in
      skips longs (HoldsExtended f to) most 1 Plain (at_place low_bits (pc + 1)) Beq 25 (pos 9) (pc + 9 + 1 + 1) (long_plan true) has.1.0 refl (rw (low_are, even) refl) there (omega arith) (omega arith) (omega arith)
      (load longs (HoldsExtended f to) most 0 (at_place low_bits (pc + 9 + 1 + 1)) (Memory Ldl to place (pos 0)) (plus (low_bits place) 0) 4 (f place / 8 * 8) (λ b. b) _ has_end.1.1.0 refl (omega arith) (omega arith) (rw at even) (rw at refl) page kind (λ b. refl)
      (λ b lt.
      done longs (HoldsExtended f to) most (at_place (put low_bits to (sign_extended (field_of b (plus (low_bits place) 0 % 8) 4) 32)) (pc + 9 + 1 + 1 + 1)) (field_of b (f place % 8) 4) (omega arith)
      (holds low_bits (field_of b (plus (low_bits place) 0 % 8) 4) (field_of b (f place % 8) 4) only_low
      (ap (λ a. field_of b (a % 8) 4 % 2 ^ 32) at ∙ mod-eq_of_lt (mod_below (b / 2 ^ (8 * (f place % 8))) (2 ^ 32) (pow_pos 32))))))

  -- another: behind the test of bit 2
  abbrev third_bit : Regs
  third_bit = effects (Operate And place (Literal 4) 26 ∷ []) low_bits

  third_is : 0 < f place % 4 → (third_bit 26 == 0) ≡ lies_within (f place) 4
  third_is some = ap (λ x. bit_and x 4 == 0) place_low ∙ ap (λ x. x == 0) (and_pow (f place) 2) ∙ unaligned_within (f place) some

  only_third : Only (is_scratch_or to) f third_bit
  only_third = put_only (is_scratch_or to) f low_bits 26 _ (scratch_too to 26 refl) only_low

  place_third : third_bit place ≡ f place
  place_third = put_other low_bits 26 _ place (other place 26 a_place (lit< tt)) ∙ place_low

  long_branch : (most q : ℕ) (g : Regs) (b : Bool) → 0 < f place % 4 → terms.kinds Load 8 ≡ true → lies_within (f place) 4 ≡ b → q < 2 ^ 64 → Got f place 4 to (third_bit 26) q g
      → Always longs (HoldsExtended f to) most 6 Plain (at_place g (pc + 1 + 1 + 1 + 1 + 1)) (rest b (f place) 4 q)
  long_branch most q g true some kind e lt got =
      let there : target_of (pc + 1 + 1 + 1 + 1 + 1) (pos 3) ≡ pc + 9 = omega arith in
      let range = mod_below (q / 2 ^ (8 * (f place % 8))) (2 ^ 32) (pow_pos 32) in
      let is : g 25 ≡ field_of q (f place % 8) 4 = got.low ∙ extracted q 0 (f place) lt c4 in
      roomy longs (HoldsExtended f to) most 3 6 Plain (at_place g (pc + 1 + 1 + 1 + 1 + 1)) (rest true (f place) 4 q) (lit≤ tt)
      (skips longs (HoldsExtended f to) most 2 Plain (at_place g (pc + 1 + 1 + 1 + 1 + 1)) Beq 26 (pos 3) (pc + 9) (rest true (f place) 4 q) has.1.1.1.1.1.0 refl (ap (λ x. x == 0) got.flag ∙ third_is some ∙ e) there (omega arith) (omega arith) (omega arith)
      (extends most g (field_of q (f place % 8) 4) got.only (ap (λ x. x % 2 ^ 32) is ∙ mod-eq_of_lt range)))
  long_branch most q g false some kind e lt got =
      let behind : pc + 1 + 1 + 1 + 1 + 1 + 1 + 1 + 2 ≡ pc + 9 = omega arith in
      passes longs (HoldsExtended f to) most 5 Plain (at_place g (pc + 1 + 1 + 1 + 1 + 1)) Beq 26 (pos 3) (rest false (f place) 4 q) has.1.1.1.1.1.0 (ap (λ x. x == 0) got.flag ∙ third_is some ∙ e) (omega arith) (omega arith)
      (crosses longs (HoldsExtended f to) f place 4 to c4 a_place fits may.within may.pages kind most 2 (pc + 1 + 1 + 1 + 1 + 1 + 1) 25 g q (third_bit 26) refl (scratch_too to 25 refl) e lt got
      (has.1.1.1.1.1.1.0, (has.1.1.1.1.1.1.1.0, (has.1.1.1.1.1.1.1.1.0, tt))) (omega arith) (omega arith)
      (λ h v range o is. subst (λ z. Always longs (HoldsExtended f to) most 2 Plain (at_place h z) (Over v)) (sym behind)
      (extends most h v o (ap (λ x. x % 2 ^ 32) is ∙ mod-eq_of_lt range))))

  long_loaded : (most : ℕ) (b : Bool) → 0 < f place % 4 → terms.kinds Load 8 ≡ true → lies_within (f place) 4 ≡ b
      → Always longs (HoldsExtended f to) most 8 Plain (at_place third_bit (pc + 1 + 1 + 1)) (Access (f place / 8 * 8) (λ q. q) (rest b (f place) 4))
  long_loaded most b some kind e =
      loads longs (HoldsExtended f to) f place 4 to c4 a_place fits may.within may.pages kind most 6 (pc + 1 + 1 + 1) third_bit b e only_third place_third (has.1.1.1.0, (has.1.1.1.1.0, tt)) (omega arith) (omega arith)
      (λ g q lt got. long_branch most q g b some kind e lt got)

  unaligned_long : (most : ℕ) (b : Bool) → 0 < f place % 4 → terms.kinds Load 8 ≡ true → lies_within (f place) 4 ≡ b → Always longs (HoldsExtended f to) most 8 Plain (at_place third_bit (pc + 1 + 1 + 1)) (long_plan b)
  unaligned_long most true some kind e = long_loaded most true some kind e
  unaligned_long most false some kind e = long_loaded most false some kind e

  by_low_bits : (most : ℕ) (b : Bool) → (f place % 4 == 0) ≡ b → Always longs (HoldsExtended f to) most 11 Plain (at_place low_bits (pc + 1)) (long_plan (lies_within (f place) 4))
  by_low_bits most true e =
      let even = eqb-true (f place % 4) 0 e in
      let inside = aligned_within (f place) even in
      let pages = subst (λ b. All (λ part. terms.allowed false (quad_of_part part) ≡ true) (parts_by b (f place) 4)) inside may.pages in
      subst (λ b. Always longs (HoldsExtended f to) most 11 Plain (at_place low_bits (pc + 1)) (long_plan b)) (sym inside)
      (roomy longs (HoldsExtended f to) most 2 11 Plain (at_place low_bits (pc + 1)) (long_plan true) (lit≤ tt) (whole_long most even (long_kind true e) (pages 0 (0, 0) (lit< tt))))
  by_low_bits most false e =
      roomy longs (HoldsExtended f to) most 10 11 Plain (at_place low_bits (pc + 1)) (long_plan (lies_within (f place) 4)) (lit≤ tt)
      (passes longs (HoldsExtended f to) most 9 Plain (at_place low_bits (pc + 1)) Beq 25 (pos 9) (long_plan (lies_within (f place) 4)) has.1.0 (ap (λ x. x == 0) low_are ∙ e) (omega arith) (omega arith)
      (operates longs (HoldsExtended f to) most 8 Plain (Operate And place (Literal 4) 26 ∷ []) low_bits (pc + 1 + 1) (long_plan (lies_within (f place) 4)) (has.1.1.0, tt) refl (omega arith) (omega arith)
      (unaligned_long most (lies_within (f place) 4) (eqb_pos (f place % 4) e) (long_kind false e) refl)))

  long_reads : (most : ℕ) → Always longs (HoldsExtended f to) most 12 Plain (at_place f pc) (long_plan (lies_within (f place) 4))
  long_reads most =
      operates longs (HoldsExtended f to) most 11 Plain (Operate And place (Literal 3) 25 ∷ []) f pc (long_plan (lies_within (f place) 4)) (has.0, tt) refl (omega arith) (omega arith) (by_low_bits most (f place % 4 == 0) refl)

pub extends_read : (place to : ℕ) → IsArgument place → IsArgument to → ReadsExtended place to (extended_read place to)
extends_read place to a_place a_to fetch terms pc f low may has n =
    long_reads fetch terms pc f place to a_place a_to low (let within = may.within in omega arith) may has n n 12 (omega arith) (lit≤ tt)

-- ---- encodings
module _ (place to : ℕ) (p : place < 32) (q : to < 32) where
  pub extended_each : EachEncodable (extended_read place to)
  extended_each = search rules

pub extended_encodable : (place to : ℕ) → IsArgument place → IsArgument to → All IsEncodable (extended_read place to)
extended_encodable place to a_place a_to =
    let high = a_place.high in
    let high' = a_to.high in
    all_encodable (extended_read place to) (extended_each place to (omega arith) (omega arith))
