-- Words that leave the codes, over the homes of the temporaries that they read.
use Rattle.std.proofs.Common.{◌≡◌, ℕ, ◌+◌, ◌-◌, ◌/◌, ◌%◌, ◌^◌, refl, sym, ap, ◌∙◌, subst, arith, List, [], ◌∷◌, Option, Some, None, Bool, true, false, lit≤, eqb-true}
use Rattle.std.specs.Prelude.{◌==◌, ◌&&◌, ◌||◌, not, nat_lt, int_lt, bit_or, option_map, option_and_then, if◌then◌else◌}
use Rattle.std.specs.List.{list_all}
use Rattle.std.proofs.lemmas.Bool.Decides.{nat_tests}
use Rattle.std.proofs.lemmas.Bool.{and_parts, ltb-true}
use Rattle.std.proofs.lemmas.Nat.{or_mod}
use Rattle.std.proofs.lemmas.Option.{same_Some}
use Rattle.vt_words.specs.Quad.{left}
use Rattle.alpha_encode.specs.declared.instr.AlphaInstr.{AlphaInstr}
use Rattle.alpha_encode.specs.declared.instr.AlphaInstr.TheVariants.{Memory, Branch, Operate, Jump, Pal}
use Rattle.alpha_encode.specs.declared.instr.OperateOp.{OperateOp}
use Rattle.alpha_encode.specs.declared.instr.OperateOp.TheVariants as row
use Rattle.alpha_encode.specs.declared.instr.Second.{Second}
use Rattle.alpha_encode.specs.declared.instr.Second.TheVariants.{Register, Literal}
use Rattle.alpha_meaning.specs.Act.{second_value}
use Rattle.alpha_meaning.specs.Loops.{effect, effects, fine}
use Rattle.alpha_meaning.specs.Result.{one_if, result_of, signed}
use Rattle.alpha_meaning.specs.State.{Regs, put}
use Rattle.alpha_meaning.proofs.Registers.{put_same, put_other}
use Rattle.block_law.specs.CodeWords.{may_be_written}
use Rattle.micro_ops.specs.declared.codes.CodeSources.{CodeSources}
use Rattle.program_codegen.specs.Homes.{AreLasting, IsLasting, home_at, is_choice}
use Rattle.program_codegen.specs.Ends.{compared_raised, have_homes, is_operand, is_operand_second, is_raised, lowered_word, moved_both, moved_by, moved_first, moved_from, moved_operand, moved_step, moved_word, raised_at, raised_home, raised_second, raised_step, second_home, unmoved, when, with_raised, with_word}
use Rattle.program_codegen.specs.declared.direct.Raised.{Raised}
use Rattle.program_codegen.specs.declared.homes.Homes.{Homes}
use Rattle.program_codegen.proofs.Numbers.{all_three}
use Rattle.program_codegen.proofs.Coded.{low_stays, others_stay, temp_stays}
use Rattle.program_codegen.proofs.HomeNumbers.{IsExtended, extended_below, extended_equal, extended_sign, extended_zero, raised_less, raised_low}

-- ---- words
pub when_some : (b : Bool) (word j : AlphaInstr) → when b word ≡ Some j → (b ≡ true) × (word ≡ j)
when_some true word j e = (refl, same_Some word j e)
when_some false word j e = absurd (cc e)

not_either : (a b c : Bool) → not (a || b || c) ≡ true → (a ≡ false) × (b ≡ false) × (c ≡ false)
not_either false false false e = (refl, refl, refl)
not_either true b c e = absurd (cc e)
not_either false true c e = absurd (cc e)
not_either false false true e = absurd (cc e)

not_false : (b : Bool) → not b ≡ true → b ≡ false
not_false false e = refl
not_false true e = absurd (cc e)

-- only a conditional move reads what it writes
pub held_unread : (op : OperateOp) (a b h h' : ℕ) → is_choice op ≡ false → result_of op a b h ≡ result_of op a b h'
held_unread row.Cmoveq a b h h' e = absurd (cc e)
held_unread row.Cmovne a b h h' e = absurd (cc e)
held_unread op a b h h' e = refl

pub when_picked : (b : Bool) (o : Option ℕ) (x : ℕ) → (if b then o else None) ≡ Some x → (b ≡ true) × (o ≡ Some x)
when_picked true o x e = (refl, e)
when_picked false o x e = absurd (cc e)

-- behind a word, if there is one
abbrev pub after : Option AlphaInstr → Regs → Regs
after None f = f
after (Some word) f = effect word f

with_effects : (word : Option AlphaInstr) (words : List AlphaInstr) (f : Regs) → effects (with_word word words) f ≡ effects words (after word f)
with_effects None words f = refl
with_effects (Some word) words f = refl

-- ---- registers that no word for the codes writes
pub home_is : (homes : Homes) → AreLasting homes → (n r : ℕ) → home_at homes n ≡ Some r → IsLasting (Some r)
home_is homes are n r e = by (n == 21) (n == 22) (n == 23) e
  where
    picked : (o : Option ℕ) → IsLasting o → o ≡ Some r → IsLasting (Some r)
    picked o is same = subst IsLasting same is

    by : (a b c : Bool) → (if a then homes.first else if b then homes.second else if c then homes.result else None) ≡ Some r → IsLasting (Some r)
    by true b c e = picked homes.first are.0 e
    by false true c e = picked homes.second are.1 e
    by false false true e = picked homes.result are.2 e
    by false false false e = absurd (cc e)

pub home_stays : (sources : CodeSources) (r : ℕ) → IsLasting (Some r) → may_be_written sources r ≡ false
home_stays sources r is = by (nat_lt r 15) refl
  where
    by : (b : Bool) → nat_lt r 15 ≡ b → may_be_written sources r ≡ false
    by true e = low_stays sources r (ltb-true r 15 e)
    by false e =
        let low = is.1 e in
        let high = is.0 in
        let same : 21 + (r - 21) ≡ r = omega arith in
        let three : (r - 21 == 3) ≡ false = grind (arith, nat_tests) in
        let four : (r - 21 == 4) ≡ false = grind (arith, nat_tests) in
        subst (λ n. may_be_written sources n ≡ false) same (temp_stays sources (r - 21) (omega arith) three four)

pub zero_stays : (sources : CodeSources) → may_be_written sources 31 ≡ false
zero_stays sources = others_stay sources 31 refl refl refl refl refl refl refl refl refl refl

pub apart : (sources : CodeSources) (c r : ℕ) → may_be_written sources c ≡ true → may_be_written sources r ≡ false → (r == c) ≡ false
apart sources c r may stays = by (r == c) refl
  where
    by : (b : Bool) → (r == c) ≡ b → b ≡ false
    by true e = let same : false ≡ true = sym stays ∙ (ap (may_be_written sources) (eqb-true r c e) ∙ may) in absurd (cc same)
    by false e = refl

-- ---- what is to be raised
raised_same : (c : ℕ) (o : Option ℕ) (raised : Raised) → is_raised c ≡ true → raised_at (with_raised c o raised) c ≡ o
raised_same c o raised is = by (c == 24) refl (c == 25) refl is
  where
    by : (a : Bool) → (c == 24) ≡ a → (b : Bool) → (c == 25) ≡ b → (a || b) ≡ true → raised_at (with_raised c o raised) c ≡ o
    by true e b f is = rw e refl
    by false e true f is = rw (e, f) refl
    by false e false f is = absurd (cc is)

none_left : (c : ℕ) (raised : Raised) → raised_at (with_raised c None raised) c ≡ None
none_left c raised = by (c == 24) refl (c == 25) refl
  where
    by : (a : Bool) → (c == 24) ≡ a → (b : Bool) → (c == 25) ≡ b → raised_at (with_raised c None raised) c ≡ None
    by true e b f = rw e refl
    by false e true f = rw (e, f) refl
    by false e false f = rw (e, f) refl

raised_other : (c n : ℕ) (o : Option ℕ) (raised : Raised) → (n == c) ≡ false → raised_at (with_raised c o raised) n ≡ raised_at raised n
raised_other c n o raised out = by (c == 24) refl (c == 25) refl
  where
    by : (a : Bool) → (c == 24) ≡ a → (b : Bool) → (c == 25) ≡ b → raised_at (with_raised c o raised) n ≡ raised_at raised n
    by true e b f = let other : (n == 24) ≡ false = grind (arith, nat_tests, e, out) in rw (e, other) refl
    by false e true f = let other : (n == 25) ≡ false = grind (arith, nat_tests, f, out) in rw (e, f, other) refl
    by false e false f = rw (e, f) refl

-- such a register holds no operand and has no home
raised_apart : (c : ℕ) (homes : Homes) → is_raised c ≡ true → (is_operand c ≡ false) × (home_at homes c ≡ None) × ((c == 31) ≡ false)
raised_apart c homes is = by (c == 24) refl (c == 25) refl is
  where
    is_so : (k : ℕ) → (c == k) ≡ true → ((is_operand k ≡ false) × (home_at homes k ≡ None) × ((k == 31) ≡ false)) → (is_operand c ≡ false) × (home_at homes c ≡ None) × ((c == 31) ≡ false)
    is_so k e x = subst (λ n. (is_operand n ≡ false) × (home_at homes n ≡ None) × ((n == 31) ≡ false)) (sym (eqb-true c k e)) x

    by : (a : Bool) → (c == 24) ≡ a → (b : Bool) → (c == 25) ≡ b → (a || b) ≡ true → (is_operand c ≡ false) × (home_at homes c ≡ None) × ((c == 31) ≡ false)
    by true e b f is = is_so 24 e (refl, refl, refl)
    by false e true f is = is_so 25 f (refl, refl, refl)
    by false e false f is = absurd (cc is)

-- ---- two files of registers
-- In the second the temporaries stand in their homes, and what is to be raised isn't; the operands of rules have the same low
-- longwords in both, and all other registers are the same.
pub record Moved (homes : Homes) (raised : Raised) (own placed : Regs) : Type 0 where
  pub same : (n : ℕ) → is_operand n ≡ false → home_at homes n ≡ None → raised_at raised n ≡ None → own n ≡ placed n
  pub loose : (n : ℕ) → is_operand n ≡ true → own n % 2 ^ 32 ≡ placed n % 2 ^ 32
  pub there : (n r : ℕ) → home_at homes n ≡ Some r → (own n ≡ placed r % 2 ^ 32) × IsExtended (placed r)
  pub lifted : (n r : ℕ) → raised_at raised n ≡ Some r → (own n ≡ left (placed r) 32) × IsExtended (placed r) × IsLasting (Some r)

put_here : (c : ℕ) → (c == 31) ≡ false → (f : Regs) (v n : ℕ) → (n == c) ≡ true → put f c v n ≡ v
put_here c not_zero f v n e = subst (λ k. put f c v k ≡ v) (sym (eqb-true n c e)) (put_same f c v not_zero)

module _ (sources : CodeSources) (homes : Homes) (are : AreLasting homes) where
  -- a register is written alike
  written_alike : (c x y : ℕ) (raised : Raised) (own placed : Regs) → may_be_written sources c ≡ true → x % 2 ^ 32 ≡ y % 2 ^ 32 → (is_operand c ≡ false → x ≡ y) → Moved homes raised own placed → Moved homes (with_raised c None raised) (put own c x) (put placed c y)
  written_alike c x y raised own placed may low same m = record {
    same = λ n not_so none down. sames n not_so none down (n == c) refl;
    loose = λ n is. looses n is (n == c) refl;
    there = λ n r e.
        let other : (n == c) ≡ false = apart sources c n may (owned n r e) in
        let home : (r == c) ≡ false = apart sources c r may (home_stays sources r (home_is homes are n r e)) in
        let found = m.there n r e in
        let kept = put_other placed c y r home in (
          put_other own c x n other ∙ (found.0 ∙ ap (λ v. v % 2 ^ 32) (sym kept)),
          subst IsExtended (sym kept) found.1,
        );
    lifted = λ n r e.
        let other = not_here n r e (n == c) refl in
        let found = m.lifted n r (sym (raised_other c n None raised other) ∙ e) in
        let home : (r == c) ≡ false = apart sources c r may (home_stays sources r found.2) in
        let kept = put_other placed c y r home in (
          put_other own c x n other ∙ (found.0 ∙ ap (λ v. left v 32) (sym kept)),
          subst IsExtended (sym kept) found.1,
          found.2,
        );
  }
    where
      not_here : (n r : ℕ) → raised_at (with_raised c None raised) n ≡ Some r → (b : Bool) → (n == c) ≡ b → (n == c) ≡ false
      not_here n r e true f =
          let none : None ≡ Some r = sym (none_left c raised) ∙ subst (λ k. raised_at (with_raised c None raised) k ≡ Some r) (eqb-true n c f) e in
          absurd (cc none)
      not_here n r e false f = f

      not_zero : (c == 31) ≡ false
      not_zero = flip (apart sources c 31 may (zero_stays sources))
        where
          flip : (31 == c) ≡ false → (c == 31) ≡ false
          flip e = grind (arith, nat_tests, e)

      owned : (n r : ℕ) → home_at homes n ≡ Some r → may_be_written sources n ≡ false
      owned n r e = by (n == 21) refl (n == 22) refl (n == 23) refl e
        where
          by : (a : Bool) → (n == 21) ≡ a → (b : Bool) → (n == 22) ≡ b → (d : Bool) → (n == 23) ≡ d
              → (if a then homes.first else if b then homes.second else if d then homes.result else None) ≡ Some r → may_be_written sources n ≡ false
          by true e b f d g h = subst (λ n. may_be_written sources n ≡ false) (sym (eqb-true n 21 e)) (temp_stays sources 0 (lit≤ tt) refl refl)
          by false e true f d g h = subst (λ n. may_be_written sources n ≡ false) (sym (eqb-true n 22 f)) (temp_stays sources 1 (lit≤ tt) refl refl)
          by false e false f true g h = subst (λ n. may_be_written sources n ≡ false) (sym (eqb-true n 23 g)) (temp_stays sources 2 (lit≤ tt) refl refl)
          by false e false f false g h = absurd (cc h)

      here : (f : Regs) (v n : ℕ) → (n == c) ≡ true → put f c v n ≡ v
      here f v n e = put_here c not_zero f v n e

      sames : (n : ℕ) → is_operand n ≡ false → home_at homes n ≡ None → raised_at (with_raised c None raised) n ≡ None → (b : Bool) → (n == c) ≡ b → put own c x n ≡ put placed c y n
      sames n not_so none down true e = here own x n e ∙ (same (subst (λ k. is_operand k ≡ false) (eqb-true n c e) not_so) ∙ sym (here placed y n e))
      sames n not_so none down false e = put_other own c x n e ∙ (m.same n not_so none (sym (raised_other c n None raised e) ∙ down) ∙ sym (put_other placed c y n e))

      looses : (n : ℕ) → is_operand n ≡ true → (b : Bool) → (n == c) ≡ b → put own c x n % 2 ^ 32 ≡ put placed c y n % 2 ^ 32
      looses n is true e = ap (λ v. v % 2 ^ 32) (here own x n e) ∙ (low ∙ ap (λ v. v % 2 ^ 32) (sym (here placed y n e)))
      looses n is false e = ap (λ v. v % 2 ^ 32) (put_other own c x n e) ∙ (m.loose n is ∙ ap (λ v. v % 2 ^ 32) (sym (put_other placed c y n e)))

  alike : (c x y : ℕ) (raised : Raised) (own placed : Regs) → may_be_written sources c ≡ true → x ≡ y → Moved homes raised own placed → Moved homes (with_raised c None raised) (put own c x) (put placed c y)
  alike c x y raised own placed may e m = written_alike c x y raised own placed may (ap (λ v. v % 2 ^ 32) e) (λ not_so. e) m

  module _ (raised : Raised) (own placed : Regs) (m : Moved homes raised own placed) where
    abbrev lowered : ℕ → Raised
    lowered c = with_raised c None raised

    abbrev lifting : (c x : ℕ) → Raised
    lifting c x = with_raised c (Some x) raised

    -- ---- one that reads no home
    second_same : (b : Second) → is_operand_second b ≡ false → second_home homes b ≡ None → raised_second raised b ≡ None → second_value b own ≡ second_value b placed
    second_same (Register n) not_so none down = m.same n not_so none down
    second_same (Literal value) not_so none down = refl

    unmoved_is : (op : OperateOp) (a : ℕ) (b : Second) (c : ℕ) (j : AlphaInstr) → may_be_written sources c ≡ true → home_at homes a ≡ None → second_home homes b ≡ None → raised_at raised a ≡ None → raised_second raised b ≡ None → unmoved op a b c ≡ Some j → Moved homes (lowered c) (effect (Operate op a b c) own) (effect j placed)
    unmoved_is op a b c j may none none' down down' e =
        let x = when_some (not (is_operand a || is_operand_second b || is_choice op)) (Operate op a b c) j e in
        let y = not_either (is_operand a) (is_operand_second b) (is_choice op) x.0 in
        subst (λ j. Moved homes (lowered c) (effect (Operate op a b c) own) (effect j placed)) x.1
        (alike c (result_of op (own a) (second_value b own) (own c)) (result_of op (placed a) (second_value b placed) (placed c)) raised own placed may
        (ap (λ v. result_of op v (second_value b own) (own c)) (m.same a y.0 none down)
        ∙ (ap (λ v. result_of op (placed a) v (own c)) (second_same b y.1 none' down') ∙ held_unread op (placed a) (second_value b placed) (own c) (placed c) y.2)) m)

    -- ---- an operand of a rule
    operand_is : (op : OperateOp) (a n home c : ℕ) (j : AlphaInstr) → may_be_written sources c ≡ true → home_at homes a ≡ None → home_at homes n ≡ Some home → raised_at raised a ≡ None → moved_operand op a home c ≡ Some j → Moved homes (lowered c) (effect (Operate op a (Register n) c) own) (effect j placed)
    operand_is row.Bis a n home c j may none some down e =
        let x = when_some (not (is_operand a) && is_operand c) (Operate row.Bis a (Register home) c) j e in
        let y = and_parts (not (is_operand a)) (is_operand c) x.0 in
        let same = m.same a (not_false (is_operand a) y.0) none down in
        let there = m.there n home some in
        let low : own n % 2 ^ 32 ≡ placed home % 2 ^ 32 = twice (own n) (placed home) there.0 in
        subst (λ j. Moved homes (lowered c) (effect (Operate row.Bis a (Register n) c) own) (effect j placed)) x.1
        (written_alike c (bit_or (own a) (own n)) (bit_or (placed a) (placed home)) raised own placed may
        (or_mod (own a) (own n) 32 ∙ (ap (λ v. bit_or (own a % 2 ^ 32) v) low ∙ (ap (λ v. bit_or (v % 2 ^ 32) (placed home % 2 ^ 32)) same ∙ sym (or_mod (placed a) (placed home) 32))))
        (λ not_so. let false_true : false ≡ true = sym not_so ∙ y.1 in absurd (cc false_true)) m)
      where
        twice : (x y : ℕ) → x ≡ y % 2 ^ 32 → x % 2 ^ 32 ≡ y % 2 ^ 32
        twice x y e = omega arith
    operand_is op a n home c j may none some down e = absurd (cc e)

    -- ---- comparisons
    both_is : (op : OperateOp) (a n x y c : ℕ) (j : AlphaInstr) → may_be_written sources c ≡ true → home_at homes a ≡ Some x → home_at homes n ≡ Some y → moved_both op x y c ≡ Some j → Moved homes (lowered c) (effect (Operate op a (Register n) c) own) (effect j placed)
    both_is row.Cmpeq a n x y c j may some some' e =
        let p = m.there a x some in
        let q = m.there n y some' in
        subst (λ j. Moved homes (lowered c) (effect (Operate row.Cmpeq a (Register n) c) own) (effect j placed)) (same_Some (Operate row.Cmpeq x (Register y) c) j e)
        (alike c (one_if (own a == own n)) (one_if (placed x == placed y)) raised own placed may
        (ap (λ v. one_if (v == own n)) p.0 ∙ (ap (λ v. one_if ((placed x % 2 ^ 32) == v)) q.0 ∙ ap one_if (extended_equal (placed x) (placed y) p.1 q.1))) m)
    both_is row.Cmpult a n x y c j may some some' e =
        let p = m.there a x some in
        let q = m.there n y some' in
        subst (λ j. Moved homes (lowered c) (effect (Operate row.Cmpult a (Register n) c) own) (effect j placed)) (same_Some (Operate row.Cmpult x (Register y) c) j e)
        (alike c (one_if (nat_lt (own a) (own n))) (one_if (nat_lt (placed x) (placed y))) raised own placed may
        (ap (λ v. one_if (nat_lt v (own n))) p.0 ∙ (ap (λ v. one_if (nat_lt (placed x % 2 ^ 32) v)) q.0 ∙ ap one_if (extended_below (placed x) (placed y) p.1 q.1))) m)
    both_is op a n x y c j may some some' e = absurd (cc e)

    -- ---- by literals
    first_is : (op : OperateOp) (a x : ℕ) (b : Second) (c : ℕ) (j : AlphaInstr) → may_be_written sources c ≡ true → home_at homes a ≡ Some x → moved_first op x b c ≡ Some j → Moved homes (lowered c) (effect (Operate op a b c) own) (effect j placed)
    first_is row.Cmpeq a x (Literal value) c j may some e =
        let w = when_some (value == 0) (Operate row.Cmpeq x (Literal 0) c) j e in
        let p = m.there a x some in
        subst (λ j. Moved homes (lowered c) (effect (Operate row.Cmpeq a (Literal value) c) own) (effect j placed)) w.1
        (alike c (one_if (own a == value)) (one_if (placed x == 0)) raised own placed may
        (ap (λ v. one_if (own a == v)) (eqb-true value 0 w.0) ∙ (ap (λ v. one_if (v == 0)) p.0 ∙ ap one_if (extended_zero (placed x) p.1))) m)
    first_is row.Sll a x (Literal value) c j may some e =
        let w = when_some (value == 32) (Operate row.Sll x (Literal 32) c) j e in
        let p = m.there a x some in
        subst (λ j. Moved homes (lowered c) (effect (Operate row.Sll a (Literal value) c) own) (effect j placed)) w.1
        (alike c (result_of row.Sll (own a) value (own c)) (result_of row.Sll (placed x) 32 (placed c)) raised own placed may
        (ap (λ v. result_of row.Sll (own a) v (own c)) (eqb-true value 32 w.0) ∙ (ap (λ v. left v 32) p.0 ∙ raised_low (placed x))) m)
    first_is row.Srl a x (Literal value) c j may some e =
        let w = when_some (value == 31) (Operate row.Srl x (Literal 63) c) j e in
        let p = m.there a x some in
        subst (λ j. Moved homes (lowered c) (effect (Operate row.Srl a (Literal value) c) own) (effect j placed)) w.1
        (alike c (result_of row.Srl (own a) value (own c)) (result_of row.Srl (placed x) 63 (placed c)) raised own placed may
        (ap (λ v. result_of row.Srl (own a) v (own c)) (eqb-true value 31 w.0) ∙ (ap (λ v. v / 2 ^ 31) p.0 ∙ extended_sign (placed x) p.1)) m)
    first_is op a x b c j may some e = absurd (cc e)

    -- ---- what is to be raised
    compared_is : (op : OperateOp) (a n x y c : ℕ) (j : AlphaInstr) → may_be_written sources c ≡ true → raised_at raised a ≡ Some x → raised_at raised n ≡ Some y → compared_raised op x y c ≡ Some j → Moved homes (lowered c) (effect (Operate op a (Register n) c) own) (effect j placed)
    compared_is row.Cmplt a n x y c j may some some' e =
        let p = m.lifted a x some in
        let q = m.lifted n y some' in
        subst (λ j. Moved homes (lowered c) (effect (Operate row.Cmplt a (Register n) c) own) (effect j placed)) (same_Some (Operate row.Cmplt x (Register y) c) j e)
        (alike c (one_if (int_lt (signed (own a)) (signed (own n)))) (one_if (int_lt (signed (placed x)) (signed (placed y)))) raised own placed may
        (ap (λ v. one_if (int_lt (signed v) (signed (own n)))) p.0 ∙ (ap (λ v. one_if (int_lt (signed (left (placed x) 32)) (signed v))) q.0 ∙ ap one_if (raised_less (placed x) (placed y) p.1 q.1))) m)
    compared_is op a n x y c j may some some' e = absurd (cc e)

    -- a register is to hold a home's low longword, raised
    to_raise : (a x v c : ℕ) → is_raised c ≡ true → home_at homes a ≡ Some x → v ≡ left (placed x) 32 → Moved homes (with_raised c (Some x) raised) (put own c v) placed
    to_raise a x v c is some value = record {
      same = λ n not_so none down.
          let other = not_down n down (n == c) refl in
          put_other own c v n other ∙ m.same n not_so none (sym (raised_other c n (Some x) raised other) ∙ down);
      loose = λ n so. ap (λ v. v % 2 ^ 32) (put_other own c v n (not_operand n so (n == c) refl)) ∙ m.loose n so;
      there = λ n r e. let found = m.there n r e in (put_other own c v n (not_home n r e (n == c) refl) ∙ found.0, found.1);
      lifted = λ n r e. lifts n r e (n == c) refl;
    }
      where
        there : (own a ≡ placed x % 2 ^ 32) × IsExtended (placed x)
        there = m.there a x some

        not_down : (n : ℕ) → raised_at (lifting c x) n ≡ None → (b : Bool) → (n == c) ≡ b → (n == c) ≡ false
        not_down n down true f =
            let none : Some x ≡ None = sym (raised_same c (Some x) raised is) ∙ subst (λ k. raised_at (lifting c x) k ≡ None) (eqb-true n c f) down in
            absurd (cc none)
        not_down n down false f = f

        not_operand : (n : ℕ) → is_operand n ≡ true → (b : Bool) → (n == c) ≡ b → (n == c) ≡ false
        not_operand n so true f =
            let none : false ≡ true = sym (raised_apart c homes is).0 ∙ subst (λ k. is_operand k ≡ true) (eqb-true n c f) so in
            absurd (cc none)
        not_operand n so false f = f

        not_home : (n r : ℕ) → home_at homes n ≡ Some r → (b : Bool) → (n == c) ≡ b → (n == c) ≡ false
        not_home n r e true f =
            let none : None ≡ Some r = sym (raised_apart c homes is).1 ∙ subst (λ k. home_at homes k ≡ Some r) (eqb-true n c f) e in
            absurd (cc none)
        not_home n r e false f = f

        lifts : (n r : ℕ) → raised_at (lifting c x) n ≡ Some r → (b : Bool) → (n == c) ≡ b → (put own c v n ≡ left (placed r) 32) × IsExtended (placed r) × IsLasting (Some r)
        lifts n r e true f =
            let same : x ≡ r = same_Some x r (sym (raised_same c (Some x) raised is) ∙ subst (λ k. raised_at (lifting c x) k ≡ Some r) (eqb-true n c f) e) in
            subst (λ (r : ℕ). (put own c v n ≡ left (placed r) 32) × IsExtended (placed r) × IsLasting (Some r)) same
            (put_here c (raised_apart c homes is).2 own v n f ∙ value, there.1, home_is homes are a x some)
        lifts n r e false f =
            let found = m.lifted n r (sym (raised_other c n (Some x) raised f) ∙ e) in
            (put_other own c v n f ∙ found.0, found.1, found.2)

    raised_is : (op : OperateOp) (a : ℕ) (b : Second) (c x : ℕ) → raised_home homes op a b c ≡ Some x → Moved homes (with_raised c (Some x) raised) (effect (Operate op a b c) own) placed
    raised_is row.Sll a (Literal value) c x e =
        let w = when_picked (value == 32 && is_raised c && have_homes homes) (home_at homes a) x e in
        let y = all_three (value == 32) (is_raised c) (have_homes homes) w.0 in
        let there = m.there a x w.1 in
        to_raise a x (result_of row.Sll (own a) value (own c)) c y.1 w.1
        (ap (λ v. result_of row.Sll (own a) v (own c)) (eqb-true value 32 y.0) ∙ (ap (λ v. left v 32) there.0 ∙ raised_low (placed x)))
    raised_is op a b c x e = absurd (cc e)

    -- ---- any word
    word_is : (op : OperateOp) (a : ℕ) (b : Second) (c : ℕ) (j : AlphaInstr) → may_be_written sources c ≡ true → raised_at raised a ≡ None → raised_second raised b ≡ None → (o : Option ℕ) → home_at homes a ≡ o → (q : Option ℕ) → second_home homes b ≡ q → moved_by o q op a b c ≡ Some j
        → Moved homes (lowered c) (effect (Operate op a b c) own) (effect j placed)
    word_is op a b c j may down down' None none None none' e = unmoved_is op a b c j may none none' down down' e
    word_is op a (Register n) c j may down down' None none (Some y) some e = operand_is op a n y c j may none some down e
    word_is op a (Literal value) c j may down down' None none (Some y) some e = absurd (cc some)
    word_is op a b c j may down down' (Some x) some None none e = first_is op a x b c j may some e
    word_is op a (Register n) c j may down down' (Some x) some (Some y) some' e = both_is op a n x y c j may some some' e
    word_is op a (Literal value) c j may down down' (Some x) some (Some y) some' e = absurd (cc some')

    read_is : (op : OperateOp) (a : ℕ) (b : Second) (c : ℕ) (j : AlphaInstr) → may_be_written sources c ≡ true → (o : Option ℕ) → raised_at raised a ≡ o → (q : Option ℕ) → raised_second raised b ≡ q → moved_word o q homes op a b c ≡ Some j
        → Moved homes (lowered c) (effect (Operate op a b c) own) (effect j placed)
    read_is op a b c j may None down None down' e = word_is op a b c j may down down' (home_at homes a) refl (second_home homes b) refl e
    read_is op a b c j may None down (Some y) some e = absurd (cc e)
    read_is op a b c j may (Some x) some None down e = absurd (cc e)
    read_is op a (Register n) c j may (Some x) some (Some y) some' e = compared_is op a n x y c j may some some' e
    read_is op a (Literal value) c j may (Some x) some (Some y) some' e = absurd (cc some')

    abbrev Stepped : (op : OperateOp) (a : ℕ) (b : Second) (c : ℕ) → Raised × Option AlphaInstr → Type 0
    Stepped op a b c step = Moved homes step.0 (effect (Operate op a b c) own) (after step.1 placed)

    step_is : (op : OperateOp) (a : ℕ) (b : Second) (c : ℕ) (step : Raised × Option AlphaInstr) → may_be_written sources c ≡ true → moved_step homes raised (Operate op a b c) ≡ Some step → Moved homes step.0 (effect (Operate op a b c) own) (after step.1 placed)
    step_is op a b c step may e = by (raised_home homes op a b c) refl e
      where
        reads : (q : Option AlphaInstr) → moved_word (raised_at raised a) (raised_second raised b) homes op a b c ≡ q → lowered_word raised c q ≡ Some step → Stepped op a b c step
        reads None f e = absurd (cc e)
        reads (Some j) f e = let made : Raised × Option AlphaInstr = (lowered c, Some j) in subst (Stepped op a b c) (same_Some made step e) (read_is op a b c j may (raised_at raised a) refl (raised_second raised b) refl f)

        by : (o : Option ℕ) → raised_home homes op a b c ≡ o → raised_step o raised c (moved_word (raised_at raised a) (raised_second raised b) homes op a b c) ≡ Some step → Stepped op a b c step
        by (Some x) some e = let made : Raised × Option AlphaInstr = (with_raised c (Some x) raised, None) in subst (Stepped op a b c) (same_Some made step e) (raised_is op a b c x some)
        by None none e = reads (moved_word (raised_at raised a) (raised_second raised b) homes op a b c) refl e

  moved_effect : (i : AlphaInstr) (raised : Raised) (step : Raised × Option AlphaInstr) (own placed : Regs) → fine (may_be_written sources) i ≡ true → moved_step homes raised i ≡ Some step → Moved homes raised own placed
      → Moved homes step.0 (effect i own) (after step.1 placed)
  moved_effect (Operate op a b c) raised step own placed ok e m = step_is raised own placed m op a b c step ok e
  moved_effect (Memory op a b d) raised step own placed ok e m = absurd (cc e)
  moved_effect (Branch op a d) raised step own placed ok e m = absurd (cc e)
  moved_effect (Jump a b) raised step own placed ok e m = absurd (cc e)
  moved_effect (Pal n) raised step own placed ok e m = absurd (cc e)

-- ---- rows of words
pub record Split (homes : Homes) (raised : Raised) (i : AlphaInstr) (is js : List AlphaInstr) : Type 0 where
  pub step : Raised × Option AlphaInstr
  pub rest : List AlphaInstr
  pub first : moved_step homes raised i ≡ Some step
  pub behind : moved_from homes step.0 is ≡ Some rest
  pub whole : js ≡ with_word step.1 rest

pub split : (homes : Homes) (raised : Raised) (i : AlphaInstr) (is js : List AlphaInstr) → moved_from homes raised (i ∷ is) ≡ Some js → Split homes raised i is js
split homes raised i is js e = by (moved_step homes raised i) refl e
  where
    rests : (step : Raised × Option AlphaInstr) → moved_step homes raised i ≡ Some step → (q : Option (List AlphaInstr)) → moved_from homes step.0 is ≡ q
        → option_map (λ (rest : List AlphaInstr). with_word step.1 rest) q ≡ Some js → Split homes raised i is js
    rests step f None g e = absurd (cc e)
    rests step f (Some rest) g e = record { step = step; rest = rest; first = f; behind = g; whole = sym (same_Some (with_word step.1 rest) js e) }

    by : (o : Option (Raised × Option AlphaInstr)) → moved_step homes raised i ≡ o
        → option_and_then (λ (step : Raised × Option AlphaInstr). option_map (λ (rest : List AlphaInstr). with_word step.1 rest) (moved_from homes step.0 is)) o ≡ Some js → Split homes raised i is js
    by None f e = absurd (cc e)
    by (Some step) f e = rests step f (moved_from homes step.0 is) refl e

module _ (sources : CodeSources) (homes : Homes) (are : AreLasting homes) where
  pub moved_effects : (is js : List AlphaInstr) (raised : Raised) (own placed : Regs) → list_all (fine (may_be_written sources)) is ≡ true → moved_from homes raised is ≡ Some js → Moved homes raised own placed
      → (behind : Raised) × Moved homes behind (effects is own) (effects js placed)
  moved_effects [] js raised own placed ok e m = (raised, subst (λ js. Moved homes raised own (effects js placed)) (same_Some [] js e) m)
  moved_effects (i ∷ is) js raised own placed ok e m =
      let s = split homes raised i is js e in
      let x = and_parts (fine (may_be_written sources) i) (list_all (fine (may_be_written sources)) is) ok in
      let rest = moved_effects is s.rest s.step.0 (effect i own) (after s.step.1 placed) x.1 s.behind (moved_effect sources homes are i raised s.step own placed x.0 s.first m) in
      (rest.0, subst (λ (f : Regs). Moved homes rest.0 (effects is (effect i own)) f) (sym (ap (λ (js : List AlphaInstr). effects js placed) s.whole ∙ with_effects s.step.1 s.rest placed)) rest.1)
