-- The words that read an operand.
use Rattle.std.proofs.Common.{◌≡◌, ℕ, ◌+◌, ◌-◌, ◌*◌, ◌/◌, ◌%◌, ◌^◌, ◌<◌, ◌≤◌, refl, sym, ap, ◌∙◌, subst, arith, List, [], ◌∷◌, Bool, true, false, eqb, eqb-true, lit<, lit≤}
use Rattle.std.specs.Prelude.{pos, nat_lt, bit_and, bit_or, All, ◌==◌, ◌++◌, if◌then◌else◌}
use Rattle.std.specs.Int.{cast_unsigned, w64}
use Rattle.std.specs.Int.Bits.{or_zero_r}
use Rattle.std.proofs.lemmas.Nat.{and_mask, mod_below, pow_pos}
use Rattle.std.proofs.lemmas.Nat.Bits.{and_pow}
use Rattle.std.proofs.lemmas.Bool.Decides.{nat_tests}
use Rattle.std.proofs.Math.Nat.{mod-eq_of_lt}
use Rattle.std.proofs.Math.Bool.{or-true}
use Rattle.vt_words.specs.Quad.{IsCount, one as c1, two as c2, four as c4, eight as c8, field_of, ext_low, ext_high, kept, spread, sign_extended}
use Rattle.vt_words.proofs.Fields.{extracted, count_le}
use Rattle.vt_words.proofs.Joined.{joined}
use Rattle.alpha_encode.specs.declared.instr.BranchOp.TheVariants.{Beq, Bne, Br}
use Rattle.alpha_encode.specs.declared.instr.OperateOp.TheVariants.{And, Bis, Extbl, Zapnot}
use Rattle.alpha_encode.specs.declared.instr.Second.TheVariants.{Register, Literal}
use Rattle.alpha_encode.specs.declared.instr.AlphaInstr.{AlphaInstr}
use Rattle.alpha_encode.specs.declared.instr.MemoryOp.TheVariants.{Ldl, Ldq}
use Rattle.alpha_encode.specs.declared.instr.AlphaInstr.TheVariants.{Memory, Branch, Operate}
use Rattle.alpha_meaning.specs.declared.access.AlphaKind.TheVariants.{Load}
use Rattle.alpha_meaning.specs.State.{Regs, put, at_place}
use Rattle.alpha_meaning.specs.Act.{target_of}
use Rattle.alpha_meaning.specs.Result.{plus, times, result_of, one_if}
use Rattle.alpha_meaning.specs.Pieces.{Fetch, Terms, Plan, Access, Over, Plain, Piece, Runs, HasAt, piece, Only}
use Rattle.alpha_meaning.specs.Loops.{effects}
use Rattle.alpha_meaning.proofs.Rules.{Always, done, roomy, goes, passes, skips, load, operates, put_only, effects_only, has_front, has_back, loaded_whole}
use Rattle.alpha_meaning.proofs.Registers.{eqb_self, put_same, put_other}
use Rattle.byte_sequences.specs.Instructions.{IsArgument, is_scratch, is_scratch_or}
use Rattle.byte_sequences.specs.Words.{extract_low, extract_high, byte_read, first_read, second_read, word_test, tested_word_read, word_read, longword_read, quadword_read, read_code}
use Rattle.byte_sequences.specs.Plans.{quad_of_part, read_plan}
use Rattle.byte_sequences.specs.Promises.{Holds, MayRead, ReadsPlan, loaded_bytes}
use Rattle.byte_sequences.proofs.Operands.{other, lies_within, next_of, parts_by, is_across, test_same, byte_within, aligned_within, aligned_within_8, across_8, eqb_pos, unaligned_within, disp_is, next_quad, of_parts, crossing_is}

low_is : {c : ℕ} → IsCount c → (a b held : ℕ) → result_of (extract_low c) a b held ≡ ext_low (2 ^ c - 1) a b
low_is c1 a b held = refl
low_is c2 a b held = refl
low_is c4 a b held = refl
low_is c8 a b held = refl

high_is : {c : ℕ} → IsCount c → 1 < c → (a b held : ℕ) → result_of (extract_high c) a b held ≡ ext_high (2 ^ c - 1) a b
high_is c1 l a b held = absurd (omega arith)
high_is c2 l a b held = refl
high_is c4 l a b held = refl
high_is c8 l a b held = refl

-- ---- a byte
module _ (fetch : Fetch) (terms : Terms) (pc : ℕ) (f : Regs) (place to : ℕ) (a_place : IsArgument place) (a_to : IsArgument to) (fits : f place < 2 ^ 32) (may : terms.allowed false (f place / 8 * 8) ≡ true) (kind : terms.kinds Load 8 ≡ true) (has : HasAt fetch pc (byte_read place to)) where
  abbrev byte_to : ℕ → Regs
  byte_to x = effects (Operate Extbl 25 (Register place) to ∷ []) (put f 25 x)

  byte_value : (before x : ℕ) → before < 2 ^ 64 → x ≡ before → byte_to x to ≡ field_of before (f place % 8) 1
  byte_value before x lt e =
      put_same (put f 25 x) to _ (other to 31 a_to (lit< tt)) ∙
      ap (λ a. ext_low 1 x a) (put_other f 25 x place (other place 25 a_place (lit< tt))) ∙
      ap (λ v. ext_low 1 v (f place)) e ∙ extracted before 0 (f place) lt c1

  byte_only : (x : ℕ) → Only (is_scratch_or to) f (byte_to x)
  byte_only x = effects_only (Operate Extbl 25 (Register place) to ∷ []) (is_scratch_or to) f (put f 25 x) (rw (eqb_self to) refl) (put_only (is_scratch_or to) f f 25 x (or-true (eqb 25 to)) (λ n _. refl))

  byte_reads : (most : ℕ) → Always (piece fetch terms pc (pc + 2)) (Holds f to 1) most 2 Plain (at_place f pc) (read_plan (parts_by true (f place) 1))
  byte_reads most =
      let p = piece fetch terms pc (pc + 2) in
      load p (Holds f to 1) most 1 (at_place f pc) _ (plus (f place) 0 / 8 * 8) 8 (f place / 8 * 8) (λ b. b) _ has.0 refl (omega arith) (omega arith) (omega arith) (omega arith) may kind (λ b. refl)
      (λ b lt. operates p (Holds f to 1) most 0 Plain (Operate Extbl 25 (Register place) to ∷ []) (put f 25 (field_of b (plus (f place) 0 / 8 * 8 % 8) 8)) (pc + 1) _ has.1 refl (omega arith) (omega arith)
      (let x = field_of b (plus (f place) 0 / 8 * 8 % 8) 8 in
      done p (Holds f to 1) most (at_place (byte_to (field_of b (plus (f place) 0 / 8 * 8 % 8) 8)) (pc + 1 + 1)) _ (omega arith)
      (record { holds = byte_value b x lt (loaded_whole b (plus (f place) 0 / 8 * 8) lt (omega arith)); fits = omega arith; only = byte_only x })))

-- ---- an operand that may go on in the next quadword, in any piece
pub scratch_too : (to n : ℕ) → is_scratch n ≡ true → is_scratch_or to n ≡ true
scratch_too to n h = rw h (or-true (eqb n to))

pub own_too : (to : ℕ) → is_scratch_or to to ≡ true
own_too to = rw (eqb_self to) refl

-- its value where it does, by both quadwords
abbrev pub value_of_both : (a c q q' : ℕ) → ℕ
value_of_both a c q q' = field_of q (a % 8) (8 - a % 8) + field_of q' (next_of a % 8) (c - (8 - a % 8)) * 2 ^ (8 * (8 - a % 8))

-- what is left behind the first load
abbrev pub rest : Bool → (a c q : ℕ) → Plan ℕ
rest true a c q = Over (field_of q (a % 8) c)
rest false a c q = Access (next_of a / 8 * 8) (λ b. b) (λ q'. Over (value_of_both a c q q'))

-- the registers behind the first load and the first extraction: the flag stands in 26
pub record Got (f : Regs) (place c to told q : ℕ) (g : Regs) : Type 0 where
  pub only : Only (is_scratch_or to) f g
  pub same : g place ≡ f place
  pub low : g 25 ≡ ext_low (2 ^ c - 1) q (f place)
  pub flag : g 26 ≡ told

module _ (whole : Piece) (Ends : ℕ → Regs → Type 0) (f : Regs) (place c to : ℕ) (is_count : IsCount c) (a_place : IsArgument place) (fits : f place < 2 ^ 32) (within : f place + c ≤ 2 ^ 32)
    (pages : All (λ part. whole.terms.allowed false (quad_of_part part) ≡ true) (parts_by (lies_within (f place) c) (f place) c)) (kind : whole.terms.kinds Load 8 ≡ true) where
  pages_of : (b : Bool) → lies_within (f place) c ≡ b → All (λ part. whole.terms.allowed false (quad_of_part part) ≡ true) (parts_by b (f place) c)
  pages_of b e = subst (λ b. All (λ part. whole.terms.allowed false (quad_of_part part) ≡ true) (parts_by b (f place) c)) e pages

  may_first : (b : Bool) → lies_within (f place) c ≡ b → whole.terms.allowed false (f place / 8 * 8) ≡ true
  may_first true e = pages_of true e 0 (0, 0) (lit< tt)
  may_first false e = pages_of false e 0 (0, 0) (lit< tt)

  -- the first quadword
  abbrev first_of : Regs → ℕ
  first_of g = plus (g place) 0 / 8 * 8

  abbrev extracts : List AlphaInstr
  extracts = Operate (extract_low c) 25 (Register place) 25 ∷ []

  got_is : (before : Regs) (q x : ℕ) → Only (is_scratch_or to) f before → before place ≡ f place → x ≡ q → Got f place c to (before 26) q (effects extracts (put before 25 x))
  got_is before q x only same is =
      let place_got : put before 25 x place ≡ f place = put_other before 25 x place (other place 25 a_place (lit< tt)) ∙ same in
      record {
        only = effects_only extracts (is_scratch_or to) f (put before 25 x) (rw (scratch_too to 25 refl) refl) (put_only (is_scratch_or to) f before 25 x (scratch_too to 25 refl) only);
        same = put_other (put before 25 x) 25 _ place (other place 25 a_place (lit< tt)) ∙ place_got;
        low = low_is is_count x (put before 25 x place) x ∙ ap (λ a. ext_low (2 ^ c - 1) x a) place_got ∙ ap (λ v. ext_low (2 ^ c - 1) v (f place)) is;
        flag = refl;
      }

  pub loads : (most need pc : ℕ) (before : Regs) (b : Bool) → lies_within (f place) c ≡ b → Only (is_scratch_or to) f before → before place ≡ f place
      → HasAt whole.fetch pc (first_read place c) → whole.from ≤ pc → pc + 2 ≤ whole.to
      → ((g : Regs) (q : ℕ) → q < 2 ^ 64 → Got f place c to (before 26) q g → Always whole Ends most need Plain (at_place g (pc + 1 + 1)) (rest b (f place) c q))
      → Always whole Ends most (1 + need + 1) Plain (at_place before pc) (Access (f place / 8 * 8) (λ q. q) (rest b (f place) c))
  loads most need pc before b e only same has from room behind =
      load whole Ends most (1 + need) (at_place before pc) _ (first_of before) 8 (f place / 8 * 8) (λ q. q) (rest b (f place) c) has.0 refl from (omega arith) (omega arith) (rw same (omega arith)) (may_first b e) kind (λ q. refl)
      (λ q lt.
      operates whole Ends most need Plain extracts (put before 25 (field_of q (first_of before % 8) 8)) (pc + 1) (rest b (f place) c q) (has.1.0, tt) refl (omega arith) (omega arith)
      (behind (effects extracts (put before 25 (field_of q (first_of before % 8) 8))) q lt
      (got_is before q (field_of q (first_of before % 8) 8) only same (loaded_whole q (first_of before) lt (omega arith)))))

  -- and the second
  abbrev second_of : Regs → ℕ
  second_of g = plus (g place) (times (cast_unsigned w64 (pos (c - 1))) 1) / 8 * 8

  second_quad : (g : Regs) → g place ≡ f place → 8 < f place % 8 + c → second_of g ≡ next_of (f place) / 8 * 8
  second_quad g same gt =
      let le = count_le is_count in
      let next = next_quad (f place) c le within gt in
      rw (same, disp_is is_count) (omega arith)

  abbrev joins : (r : ℕ) → List AlphaInstr
  joins r = Operate (extract_high c) 26 (Register place) 26 ∷ Operate Bis 25 (Register 26) r ∷ []

  value_is : (q q' : ℕ) → 8 < f place % 8 + c → q < 2 ^ 64 → of_parts q q' (f place % 8) c ≡ value_of_both (f place) c q q'
  value_is q q' gt lt =
      let le = count_le is_count in
      let at : next_of (f place) % 8 ≡ 0 = omega (arith, next_quad (f place) c le within gt) in
      rw at refl

  joined_is : (g : Regs) (q q' y r told : ℕ) → eqb r 31 ≡ false → 8 < f place % 8 + c → q < 2 ^ 64 → Got f place c to told q g → y ≡ q' → effects (joins r) (put g 26 y) r ≡ value_of_both (f place) c q q'
  joined_is g q q' y r told named gt lt got ey =
      let le = count_le is_count in
      put_same (put (put g 26 y) 26 (result_of (extract_high c) y (put g 26 y place) y)) r _ named ∙
      ap (λ u. bit_or u (result_of (extract_high c) y (put g 26 y place) y)) got.low ∙
      ap (λ u. bit_or (ext_low (2 ^ c - 1) q (f place)) u) (high_is is_count (omega arith) y (put g 26 y place) y ∙ ap (λ a. ext_high (2 ^ c - 1) y a) (put_other g 26 y place (other place 26 a_place (lit< tt)) ∙ got.same) ∙ ap (λ v. ext_high (2 ^ c - 1) v (f place)) ey) ∙
      joined q q' (f place) lt is_count gt ∙ crossing_is is_count q q' lt (f place % 8) (omega arith) gt ∙ value_is q q' gt lt

  value_fits : (q q' : ℕ) → 8 < f place % 8 + c → q < 2 ^ 64 → value_of_both (f place) c q q' < 2 ^ (8 * c)
  value_fits q q' gt lt =
      subst (λ v. v < 2 ^ (8 * c)) (crossing_is is_count q q' lt (f place % 8) (omega arith) gt ∙ value_is q q' gt lt) (mod_below _ (2 ^ (8 * c)) (pow_pos (8 * c)))

  pub crosses : (most need pc r : ℕ) (g : Regs) (q told : ℕ) → eqb r 31 ≡ false → is_scratch_or to r ≡ true → lies_within (f place) c ≡ false → q < 2 ^ 64 → Got f place c to told q g
      → HasAt whole.fetch pc (second_read place c r) → whole.from ≤ pc → pc + 3 ≤ whole.to
      → ((h : Regs) (v : ℕ) → v < 2 ^ (8 * c) → Only (is_scratch_or to) f h → h r ≡ v → Always whole Ends most need Plain (at_place h (pc + 1 + 2)) (Over v))
      → Always whole Ends most (2 + need + 1) Plain (at_place g pc) (rest false (f place) c q)
  crosses most need pc r g q told named may_r e lt got has from room behind =
      let gt = is_across (f place) c e in
      load whole Ends most (2 + need) (at_place g pc) _ (second_of g) 8 (next_of (f place) / 8 * 8) (λ b. b) _ has.0 refl from (omega arith) (omega arith)
      (rw (second_quad g got.same gt) (omega arith)) (pages_of false e 1 (0, 0) (lit< tt)) kind (λ b. refl)
      (λ b lt'.
      operates whole Ends most need Plain (joins r) (put g 26 (field_of b (second_of g % 8) 8)) (pc + 1) _ (has.1.0, (has.1.1.0, tt)) refl (omega arith) (omega arith)
      (behind (effects (joins r) (put g 26 (field_of b (second_of g % 8) 8))) (value_of_both (f place) c q b) (value_fits q b gt lt)
      (effects_only (joins r) (is_scratch_or to) f (put g 26 (field_of b (second_of g % 8) 8)) (rw (scratch_too to 26 refl, may_r) refl) (put_only (is_scratch_or to) f g 26 (field_of b (second_of g % 8) 8) (scratch_too to 26 refl) got.only))
      (joined_is g q b (field_of b (second_of g % 8) 8) r told named gt lt got (loaded_whole b (second_of g) lt' (omega arith)))))

-- ---- a word, in any piece that ends behind it
module _ (whole : Piece) (pc : ℕ) (f : Regs) (place to : ℕ) (a_place : IsArgument place) (a_to : IsArgument to) (low : whole.to ≤ 2 ^ 23) (in_from : whole.from ≤ pc) (in_to : pc + 9 ≡ whole.to) (fits : f place < 2 ^ 32) (within : f place + 2 ≤ 2 ^ 32)
    (pages : All (λ part. whole.terms.allowed false (quad_of_part part) ≡ true) (parts_by (lies_within (f place) 2) (f place) 2)) (kind : whole.terms.kinds Load 8 ≡ true) (has : HasAt whole.fetch pc (word_read place to)) where
  -- behind the test
  abbrev tested : Regs
  tested = effects (word_test place) f

  only_tested : Only (is_scratch_or to) f tested
  only_tested = effects_only (word_test place) (is_scratch_or to) f f (rw (scratch_too to 26 refl) refl) (λ n _. refl)

  place_tested : tested place ≡ f place
  place_tested = rw (other place 26 a_place (lit< tt)) refl

  test_is : tested 26 ≡ one_if (lies_within (f place) 2)
  test_is = ap (λ y. one_if (nat_lt y 7)) (and_mask (f place) 3) ∙ ap one_if (test_same (f place) 2 (lit≤ tt) (lit≤ tt))

  has_behind : HasAt whole.fetch (pc + 2) (tested_word_read place to)
  has_behind = has_back whole.fetch pc (word_test place) (tested_word_read place to) has

  -- the move at the end
  moves : (most : ℕ) (g : Regs) (v : ℕ) → v < 2 ^ 16 → Only (is_scratch_or to) f g → g 25 ≡ v → Always whole (Holds f to 2) most 1 Plain (at_place g (pc + 8)) (Over v)
  moves most g v range o e =
      let at : pc + 2 + 1 + 1 + 1 + 1 + 1 + 1 ≡ pc + 8 = omega arith in
      let last = subst (λ x. HasAt whole.fetch x (Operate Bis 25 (Literal 0) to ∷ [])) at has_behind.1.1.1.1.1.1 in
      operates whole (Holds f to 2) most 0 Plain (Operate Bis 25 (Literal 0) to ∷ []) g (pc + 8) (Over v) last refl (omega arith) (omega arith)
      (done whole (Holds f to 2) most (at_place (effects (Operate Bis 25 (Literal 0) to ∷ []) g) (pc + 8 + 1)) v (omega arith)
      (record { holds = put_same g to _ (other to 31 a_to (lit< tt)) ∙ or_zero_r (g 25) ∙ e; fits = range; only = put_only (is_scratch_or to) f g to _ (own_too to) o }))

  branch : (most q : ℕ) (g : Regs) (b : Bool) → lies_within (f place) 2 ≡ b → q < 2 ^ 64 → Got f place 2 to (tested 26) q g → Always whole (Holds f to 2) most 5 Plain (at_place g (pc + 2 + 1 + 1)) (rest b (f place) 2 q)
  branch most q g true e lt got =
      let there : target_of (pc + 2 + 1 + 1) (pos 3) ≡ pc + 8 = omega arith in
      let flag : g 26 ≡ one_if (lies_within (f place) 2) = got.flag ∙ test_is in
      roomy whole (Holds f to 2) most 2 5 Plain (at_place g (pc + 2 + 1 + 1)) (rest true (f place) 2 q) (lit≤ tt)
      (skips whole (Holds f to 2) most 1 Plain (at_place g (pc + 2 + 1 + 1)) Bne 26 (pos 3) (pc + 8) (rest true (f place) 2 q) has_behind.1.1.0 refl (rw (flag, e) refl) there (omega arith) (omega arith) (omega arith)
      (moves most g (field_of q (f place % 8) 2) (mod_below _ (2 ^ 16) (pow_pos 16)) got.only (got.low ∙ extracted q 0 (f place) lt c2)))
  branch most q g false e lt got =
      let flag : g 26 ≡ one_if (lies_within (f place) 2) = got.flag ∙ test_is in
      let there : pc + 2 + 1 + 1 + 1 + 1 + 2 ≡ pc + 8 = omega arith in
      passes whole (Holds f to 2) most 4 Plain (at_place g (pc + 2 + 1 + 1)) Bne 26 (pos 3) (rest false (f place) 2 q) has_behind.1.1.0 (rw (flag, e) refl) (omega arith) (omega arith)
      (crosses whole (Holds f to 2) f place 2 to c2 a_place fits within pages kind most 1 (pc + 2 + 1 + 1 + 1) 25 g q (tested 26) refl (scratch_too to 25 refl) e lt got
      (has_behind.1.1.1.0, (has_behind.1.1.1.1.0, (has_behind.1.1.1.1.1.0, tt))) (omega arith) (omega arith)
      (λ h v range o is. subst (λ z. Always whole (Holds f to 2) most 1 Plain (at_place h z) (Over v)) (sym there) (moves most h v range o is)))

  loaded : (most : ℕ) (b : Bool) → lies_within (f place) 2 ≡ b → Always whole (Holds f to 2) most 7 Plain (at_place tested (pc + 2)) (Access (f place / 8 * 8) (λ q. q) (rest b (f place) 2))
  loaded most b e =
      loads whole (Holds f to 2) f place 2 to c2 a_place fits within pages kind most 5 (pc + 2) tested b e only_tested place_tested (has_behind.0, (has_behind.1.0, tt)) (omega arith) (omega arith)
      (λ g q lt got. branch most q g b e lt got)

  pub word_reads : (most : ℕ) → Always whole (Holds f to 2) most 9 Plain (at_place f pc) (read_plan (parts_by (lies_within (f place) 2) (f place) 2))
  word_reads most = by (lies_within (f place) 2) refl
    where
      start : (t : Plan ℕ) → Always whole (Holds f to 2) most 7 Plain (at_place tested (pc + 2)) t → Always whole (Holds f to 2) most 9 Plain (at_place f pc) t
      start t h = operates whole (Holds f to 2) most 7 Plain (word_test place) f pc t (has_front whole.fetch pc (word_test place) (tested_word_read place to) has) refl (omega arith) (omega arith) h

      by : (b : Bool) → lies_within (f place) 2 ≡ b → Always whole (Holds f to 2) most 9 Plain (at_place f pc) (read_plan (parts_by b (f place) 2))
      by true e = start (read_plan (parts_by true (f place) 2)) (loaded most true e)
      by false e = start (read_plan (parts_by false (f place) 2)) (loaded most false e)

-- ---- a longword
-- ZAPNOT keeps the low longword
long_kept : (n : ℕ) → kept 0x0f n ≡ n % 2 ^ 32
unfolding spread
long_kept n = and_mask n 32

-- which LDL has extended
pub long_extended : (n : ℕ) → n < 2 ^ 32 → sign_extended n 32 % 2 ^ 32 ≡ n
long_extended n lt = grind (arith, nat_tests)

module _ (fetch : Fetch) (terms : Terms) (pc : ℕ) (f : Regs) (place to : ℕ) (a_place : IsArgument place) (a_to : IsArgument to) (low : pc + 12 ≤ 2 ^ 23) (fits : f place < 2 ^ 32) (may : MayRead loaded_bytes terms (f place) 4) (has : HasAt fetch pc (longword_read place to)) where
  abbrev longs : Piece
  longs = piece fetch terms pc (pc + 12)

  abbrev long_plan : Bool → Plan ℕ
  long_plan b = read_plan (parts_by b (f place) 4)

  -- behind the test of the address
  abbrev low_bits : Regs
  low_bits = effects (Operate And place (Literal 3) 25 ∷ []) f

  low_are : low_bits 25 ≡ f place % 4
  low_are = and_mask (f place) 2

  only_low : Only (is_scratch_or to) f low_bits
  only_low = put_only (is_scratch_or to) f f 25 _ (scratch_too to 25 refl) (λ n _. refl)

  place_low : low_bits place ≡ f place
  place_low = put_other f 25 _ place (other place 25 a_place (lit< tt))

  long_kind : (b : Bool) → (f place % 4 == 0) ≡ b → terms.kinds Load (if b then 4 else 8) ≡ true
  long_kind b e = subst (λ b. terms.kinds Load (if b then 4 else 8) ≡ true) e may.loads

  -- the last words, behind those for two quadwords
  abbrev long_end : List AlphaInstr
  long_end = Branch Br 31 (pos 1) ∷ Memory Ldl 25 place (pos 0) ∷ Operate Zapnot 25 (Literal 0x0f) to ∷ []

  has_end : HasAt fetch (pc + 9) long_end
  has_end =
      has_back fetch pc
      (Operate And place (Literal 3) 25 ∷ Branch Beq 25 (pos 8) ∷ Operate And place (Literal 4) 26 ∷ (first_read place 4 ++ (Branch Beq 26 (pos 5) ∷ second_read place 4 25))) long_end has

  zaps : (most : ℕ) (g : Regs) (v : ℕ) → v < 2 ^ 32 → Only (is_scratch_or to) f g → g 25 % 2 ^ 32 ≡ v → Always longs (Holds f to 4) most 1 Plain (at_place g (pc + 9 + 1 + 1)) (Over v)
  zaps most g v range o e =
      operates longs (Holds f to 4) most 0 Plain (Operate Zapnot 25 (Literal 0x0f) to ∷ []) g (pc + 9 + 1 + 1) (Over v) has_end.1.1 refl (omega arith) (omega arith)
      (done longs (Holds f to 4) most (at_place (effects (Operate Zapnot 25 (Literal 0x0f) to ∷ []) g) (pc + 9 + 1 + 1 + 1)) v (omega arith)
      (record { holds = put_same g to _ (other to 31 a_to (lit< tt)) ∙ long_kept (g 25) ∙ e; fits = range; only = put_only (is_scratch_or to) f g to _ (own_too to) o }))

  -- an aligned one
  whole_long : (most : ℕ) → f place % 4 ≡ 0 → terms.kinds Load 4 ≡ true → terms.allowed false (f place / 8 * 8) ≡ true → Always longs (Holds f to 4) most 3 Plain (at_place low_bits (pc + 1)) (long_plan true)
  whole_long most even kind page =
      let there : target_of (pc + 1) (pos 8) ≡ pc + 9 + 1 = omega arith in
      let at : plus (low_bits place) 0 ≡ f place = rw place_low (omega arith) in
      skips longs (Holds f to 4) most 2 Plain (at_place low_bits (pc + 1)) Beq 25 (pos 8) (pc + 9 + 1) (long_plan true) has.1.0 refl (rw (low_are, even) refl) there (omega arith) (omega arith) (omega arith)
      (load longs (Holds f to 4) most 1 (at_place low_bits (pc + 9 + 1)) (Memory Ldl 25 place (pos 0)) (plus (low_bits place) 0) 4 (f place / 8 * 8) (λ b. b) _ has_end.1.0 refl (omega arith) (omega arith) (rw at even) (rw at refl) page kind (λ b. refl)
      (λ b lt.
      let range = mod_below (b / 2 ^ (8 * (f place % 8))) (2 ^ 32) (pow_pos 32) in
      zaps most (put low_bits 25 (sign_extended (field_of b (plus (low_bits place) 0 % 8) 4) 32)) (field_of b (f place % 8) 4) range
      (put_only (is_scratch_or to) f low_bits 25 _ (scratch_too to 25 refl) only_low)
      (ap (λ a. sign_extended (field_of b (a % 8) 4) 32 % 2 ^ 32) at ∙ long_extended (field_of b (f place % 8) 4) range)))

  -- another: behind the test of bit 2
  abbrev third_bit : Regs
  third_bit = effects (Operate And place (Literal 4) 26 ∷ []) low_bits

  third_is : 0 < f place % 4 → (third_bit 26 == 0) ≡ lies_within (f place) 4
  third_is some = ap (λ x. bit_and x 4 == 0) place_low ∙ ap (λ x. x == 0) (and_pow (f place) 2) ∙ unaligned_within (f place) some

  only_third : Only (is_scratch_or to) f third_bit
  only_third = put_only (is_scratch_or to) f low_bits 26 _ (scratch_too to 26 refl) only_low

  place_third : third_bit place ≡ f place
  place_third = put_other low_bits 26 _ place (other place 26 a_place (lit< tt)) ∙ place_low

  long_branch : (most q : ℕ) (g : Regs) (b : Bool) → 0 < f place % 4 → terms.kinds Load 8 ≡ true → lies_within (f place) 4 ≡ b → q < 2 ^ 64 → Got f place 4 to (third_bit 26) q g
      → Always longs (Holds f to 4) most 6 Plain (at_place g (pc + 1 + 1 + 1 + 1 + 1)) (rest b (f place) 4 q)
  long_branch most q g true some kind e lt got =
      let there : target_of (pc + 1 + 1 + 1 + 1 + 1) (pos 5) ≡ pc + 9 + 1 + 1 = omega arith in
      let range = mod_below (q / 2 ^ (8 * (f place % 8))) (2 ^ 32) (pow_pos 32) in
      let is : g 25 ≡ field_of q (f place % 8) 4 = got.low ∙ extracted q 0 (f place) lt c4 in
      roomy longs (Holds f to 4) most 2 6 Plain (at_place g (pc + 1 + 1 + 1 + 1 + 1)) (rest true (f place) 4 q) (lit≤ tt)
      (skips longs (Holds f to 4) most 1 Plain (at_place g (pc + 1 + 1 + 1 + 1 + 1)) Beq 26 (pos 5) (pc + 9 + 1 + 1) (rest true (f place) 4 q) has.1.1.1.1.1.0 refl (ap (λ x. x == 0) got.flag ∙ third_is some ∙ e) there (omega arith) (omega arith) (omega arith)
      (zaps most g (field_of q (f place % 8) 4) range got.only (ap (λ x. x % 2 ^ 32) is ∙ mod-eq_of_lt range)))
  long_branch most q g false some kind e lt got =
      let behind : pc + 1 + 1 + 1 + 1 + 1 + 1 + 1 + 2 ≡ pc + 9 = omega arith in
      let there : target_of (pc + 9) (pos 1) ≡ pc + 9 + 1 + 1 = omega arith in
      passes longs (Holds f to 4) most 5 Plain (at_place g (pc + 1 + 1 + 1 + 1 + 1)) Beq 26 (pos 5) (rest false (f place) 4 q) has.1.1.1.1.1.0 (ap (λ x. x == 0) got.flag ∙ third_is some ∙ e) (omega arith) (omega arith)
      (crosses longs (Holds f to 4) f place 4 to c4 a_place fits may.within may.pages kind most 2 (pc + 1 + 1 + 1 + 1 + 1 + 1) 25 g q (third_bit 26) refl (scratch_too to 25 refl) e lt got
      (has.1.1.1.1.1.1.0, (has.1.1.1.1.1.1.1.0, (has.1.1.1.1.1.1.1.1.0, tt))) (omega arith) (omega arith)
      (λ h v range o is. subst (λ z. Always longs (Holds f to 4) most 2 Plain (at_place h z) (Over v)) (sym behind)
      (goes longs (Holds f to 4) most 1 Plain (at_place h (pc + 9)) (at_place h (pc + 9 + 1 + 1)) (Branch Br 31 (pos 1)) (Over v) has_end.0 (rw there refl) (omega arith) (omega arith) (omega arith)
      (zaps most h v range o (ap (λ x. x % 2 ^ 32) is ∙ mod-eq_of_lt range)))))

  long_loaded : (most : ℕ) (b : Bool) → 0 < f place % 4 → terms.kinds Load 8 ≡ true → lies_within (f place) 4 ≡ b
      → Always longs (Holds f to 4) most 8 Plain (at_place third_bit (pc + 1 + 1 + 1)) (Access (f place / 8 * 8) (λ q. q) (rest b (f place) 4))
  long_loaded most b some kind e =
      loads longs (Holds f to 4) f place 4 to c4 a_place fits may.within may.pages kind most 6 (pc + 1 + 1 + 1) third_bit b e only_third place_third (has.1.1.1.0, (has.1.1.1.1.0, tt)) (omega arith) (omega arith)
      (λ g q lt got. long_branch most q g b some kind e lt got)

  unaligned_long : (most : ℕ) (b : Bool) → 0 < f place % 4 → terms.kinds Load 8 ≡ true → lies_within (f place) 4 ≡ b → Always longs (Holds f to 4) most 8 Plain (at_place third_bit (pc + 1 + 1 + 1)) (long_plan b)
  unaligned_long most true some kind e = long_loaded most true some kind e
  unaligned_long most false some kind e = long_loaded most false some kind e

  by_low_bits : (most : ℕ) (b : Bool) → (f place % 4 == 0) ≡ b → Always longs (Holds f to 4) most 11 Plain (at_place low_bits (pc + 1)) (long_plan (lies_within (f place) 4))
  by_low_bits most true e =
      let even = eqb-true (f place % 4) 0 e in
      let inside = aligned_within (f place) even in
      let pages = subst (λ b. All (λ part. terms.allowed false (quad_of_part part) ≡ true) (parts_by b (f place) 4)) inside may.pages in
      subst (λ b. Always longs (Holds f to 4) most 11 Plain (at_place low_bits (pc + 1)) (long_plan b)) (sym inside)
      (roomy longs (Holds f to 4) most 3 11 Plain (at_place low_bits (pc + 1)) (long_plan true) (lit≤ tt) (whole_long most even (long_kind true e) (pages 0 (0, 0) (lit< tt))))
  by_low_bits most false e =
      roomy longs (Holds f to 4) most 10 11 Plain (at_place low_bits (pc + 1)) (long_plan (lies_within (f place) 4)) (lit≤ tt)
      (passes longs (Holds f to 4) most 9 Plain (at_place low_bits (pc + 1)) Beq 25 (pos 8) (long_plan (lies_within (f place) 4)) has.1.0 (ap (λ x. x == 0) low_are ∙ e) (omega arith) (omega arith)
      (operates longs (Holds f to 4) most 8 Plain (Operate And place (Literal 4) 26 ∷ []) low_bits (pc + 1 + 1) (long_plan (lies_within (f place) 4)) (has.1.1.0, tt) refl (omega arith) (omega arith)
      (unaligned_long most (lies_within (f place) 4) (eqb_pos (f place % 4) e) (long_kind false e) refl)))

  long_reads : (most : ℕ) → Always longs (Holds f to 4) most 12 Plain (at_place f pc) (long_plan (lies_within (f place) 4))
  long_reads most =
      operates longs (Holds f to 4) most 11 Plain (Operate And place (Literal 3) 25 ∷ []) f pc (long_plan (lies_within (f place) 4)) (has.0, tt) refl (omega arith) (omega arith) (by_low_bits most (f place % 4 == 0) refl)

-- ---- a quadword
module _ (fetch : Fetch) (terms : Terms) (pc : ℕ) (f : Regs) (place to : ℕ) (a_place : IsArgument place) (a_to : IsArgument to) (low : pc + 9 ≤ 2 ^ 23) (fits : f place < 2 ^ 32) (may : MayRead loaded_bytes terms (f place) 8) (has : HasAt fetch pc (quadword_read place to)) where
  abbrev quads : Piece
  quads = piece fetch terms pc (pc + 9)

  abbrev quad_plan : Bool → Plan ℕ
  quad_plan b = read_plan (parts_by b (f place) 8)

  -- behind the test of the address
  abbrev three_bits : Regs
  three_bits = effects (Operate And place (Literal 7) 25 ∷ []) f

  three_are : three_bits 25 ≡ f place % 8
  three_are = and_mask (f place) 3

  only_three : Only (is_scratch_or to) f three_bits
  only_three = put_only (is_scratch_or to) f f 25 _ (scratch_too to 25 refl) (λ n _. refl)

  place_three : three_bits place ≡ f place
  place_three = put_other f 25 _ place (other place 25 a_place (lit< tt))

  abbrev quad_end : List AlphaInstr
  quad_end = Branch Br 31 (pos 1) ∷ Memory Ldq to place (pos 0) ∷ []

  has_quad_end : HasAt fetch (pc + 7) quad_end
  has_quad_end = has_back fetch pc (Operate And place (Literal 7) 25 ∷ Branch Beq 25 (pos 6) ∷ (first_read place 8 ++ second_read place 8 to)) quad_end has

  -- an aligned one
  whole_quad : (most : ℕ) → f place % 8 ≡ 0 → terms.allowed false (f place / 8 * 8) ≡ true → Always quads (Holds f to 8) most 2 Plain (at_place three_bits (pc + 1)) (quad_plan true)
  whole_quad most even page =
      let there : target_of (pc + 1) (pos 6) ≡ pc + 7 + 1 = omega arith in
      let at : plus (three_bits place) 0 ≡ f place = rw place_three (omega arith) in
      skips quads (Holds f to 8) most 1 Plain (at_place three_bits (pc + 1)) Beq 25 (pos 6) (pc + 7 + 1) (quad_plan true) has.1.0 refl (rw (three_are, even) refl) there (omega arith) (omega arith) (omega arith)
      (load quads (Holds f to 8) most 0 (at_place three_bits (pc + 7 + 1)) (Memory Ldq to place (pos 0)) (plus (three_bits place) 0) 8 (f place / 8 * 8) (λ b. b) _ has_quad_end.1.0 refl (omega arith) (omega arith) (rw at even) (rw at refl) page may.loads (λ b. refl)
      (λ b lt. done quads (Holds f to 8) most (at_place (put three_bits to (field_of b (plus (three_bits place) 0 % 8) 8)) (pc + 7 + 1 + 1)) (field_of b (f place % 8) 8) (omega arith)
      (record {
        holds = put_same three_bits to _ (other to 31 a_to (lit< tt)) ∙ ap (λ a. field_of b (a % 8) 8) at;
        fits = mod_below _ (2 ^ 64) (pow_pos 64);
        only = put_only (is_scratch_or to) f three_bits to _ (own_too to) only_three;
      })))

  -- another
  both_quads : (most : ℕ) → lies_within (f place) 8 ≡ false → Always quads (Holds f to 8) most 6 Plain (at_place three_bits (pc + 1 + 1)) (quad_plan false)
  both_quads most e =
      let behind : pc + 1 + 1 + 1 + 1 + 1 + 2 ≡ pc + 7 = omega arith in
      let there : target_of (pc + 7) (pos 1) ≡ pc + 9 = omega arith in
      loads quads (Holds f to 8) f place 8 to c8 a_place fits may.within may.pages may.loads most 4 (pc + 1 + 1) three_bits false e only_three place_three (has.1.1.0, (has.1.1.1.0, tt)) (omega arith) (omega arith)
      (λ g q lt got.
      crosses quads (Holds f to 8) f place 8 to c8 a_place fits may.within may.pages may.loads most 1 (pc + 1 + 1 + 1 + 1) to g q (three_bits 26) (other to 31 a_to (lit< tt)) (own_too to) e lt got
      (has.1.1.1.1.0, (has.1.1.1.1.1.0, (has.1.1.1.1.1.1.0, tt))) (omega arith) (omega arith)
      (λ h v range o is. subst (λ z. Always quads (Holds f to 8) most 1 Plain (at_place h z) (Over v)) (sym behind)
      (goes quads (Holds f to 8) most 0 Plain (at_place h (pc + 7)) (at_place h (pc + 9)) (Branch Br 31 (pos 1)) (Over v) has_quad_end.0 (rw there refl) (omega arith) (omega arith) (omega arith)
      (done quads (Holds f to 8) most (at_place h (pc + 9)) v refl (record { holds = is; fits = range; only = o })))))

  by_three_bits : (most : ℕ) (b : Bool) → (f place % 8 == 0) ≡ b → Always quads (Holds f to 8) most 8 Plain (at_place three_bits (pc + 1)) (quad_plan (lies_within (f place) 8))
  by_three_bits most true e =
      let even = eqb-true (f place % 8) 0 e in
      let inside = aligned_within_8 (f place) even in
      let pages = subst (λ b. All (λ part. terms.allowed false (quad_of_part part) ≡ true) (parts_by b (f place) 8)) inside may.pages in
      subst (λ b. Always quads (Holds f to 8) most 8 Plain (at_place three_bits (pc + 1)) (quad_plan b)) (sym inside)
      (roomy quads (Holds f to 8) most 2 8 Plain (at_place three_bits (pc + 1)) (quad_plan true) (lit≤ tt) (whole_quad most even (pages 0 (0, 0) (lit< tt))))
  by_three_bits most false e =
      let across = across_8 (f place) (eqb_pos (f place % 8) e) in
      subst (λ b. Always quads (Holds f to 8) most 8 Plain (at_place three_bits (pc + 1)) (quad_plan b)) (sym across)
      (roomy quads (Holds f to 8) most 7 8 Plain (at_place three_bits (pc + 1)) (quad_plan false) (lit≤ tt)
      (passes quads (Holds f to 8) most 6 Plain (at_place three_bits (pc + 1)) Beq 25 (pos 6) (quad_plan false) has.1.0 (ap (λ x. x == 0) three_are ∙ e) (omega arith) (omega arith) (both_quads most across)))

  quad_reads : (most : ℕ) → Always quads (Holds f to 8) most 9 Plain (at_place f pc) (quad_plan (lies_within (f place) 8))
  quad_reads most =
      operates quads (Holds f to 8) most 8 Plain (Operate And place (Literal 7) 25 ∷ []) f pc (quad_plan (lies_within (f place) 8)) (has.0, tt) refl (omega arith) (omega arith) (by_three_bits most (f place % 8 == 0) refl)

-- ---- the whole
pub reads : (place count to : ℕ) → IsCount count → IsArgument place → IsArgument to → ReadsPlan loaded_bytes place count to (read_code place count to)
reads place count to c1 a_place a_to fetch terms pc f low may has n =
    let within = may.within in
    let pages = subst (λ b. All (λ part. terms.allowed false (quad_of_part part) ≡ true) (parts_by b (f place) 1)) (byte_within (f place)) may.pages in
    subst (λ b. Runs (piece fetch terms pc (pc + 2)) (Holds f to 1) n Plain 2 (at_place f pc) (read_plan (parts_by b (f place) 1))) (sym (byte_within (f place)))
    (byte_reads fetch terms pc f place to a_place a_to (omega arith) (pages 0 (0, 0) (lit< tt)) may.loads has n n 2 (omega arith) (lit≤ tt))
reads place count to c2 a_place a_to fetch terms pc f low may has n =
    word_reads (piece fetch terms pc (pc + 9)) pc f place to a_place a_to low (omega arith) refl (let within = may.within in omega arith) may.within may.pages may.loads has n n 9 (omega arith) (lit≤ tt)
reads place count to c4 a_place a_to fetch terms pc f low may has n =
    long_reads fetch terms pc f place to a_place a_to low (let within = may.within in omega arith) may has n n 12 (omega arith) (lit≤ tt)
reads place count to c8 a_place a_to fetch terms pc f low may has n =
    quad_reads fetch terms pc f place to a_place a_to low (let within = may.within in omega arith) may has n n 9 (omega arith) (lit≤ tt)
