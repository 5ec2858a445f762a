-- Words that leave the codes, over homes, by themselves: they write what they wrote, and have encodings.
use Rattle.std.proofs.Common.{◌≡◌, ℕ, ◌<◌, ◌≤◌, refl, sym, ap, ◌∙◌, subst, arith, List, [], ◌∷◌, length, suc, Option, Some, None, Bool, true, false, lit<, lit≤, eqb-true}
use Rattle.std.specs.Prelude.{◌==◌, ◌&&◌, ◌||◌, not, All, if◌then◌else◌}
use Rattle.std.specs.List.{list_all}
use Rattle.std.proofs.lemmas.Bool.Decides.{nat_tests}
use Rattle.std.proofs.lemmas.Bool.{and_parts, and_from}
use Rattle.std.proofs.lemmas.List.Elements.{All-cons, All-head, All-tail}
use Rattle.std.proofs.lemmas.Option.{same_Some}
use Rattle.alpha_encode.specs.Words.{IsEncodable}
use Rattle.alpha_encode.specs.declared.instr.AlphaInstr.{AlphaInstr}
use Rattle.alpha_encode.specs.declared.instr.AlphaInstr.TheVariants.{Memory, Branch, Operate, Jump, Pal}
use Rattle.alpha_encode.specs.declared.instr.OperateOp.{OperateOp}
use Rattle.alpha_encode.specs.declared.instr.OperateOp.TheVariants as row
use Rattle.alpha_encode.specs.declared.instr.Second.{Second}
use Rattle.alpha_encode.specs.declared.instr.Second.TheVariants.{Register, Literal}
use Rattle.alpha_meaning.specs.Loops.{fine, is_operate, written}
use Rattle.block_law.specs.Tidy.{register_written, writes_register}
use Rattle.program_codegen.specs.Homes.{AreLasting, IsLasting, home_at, is_choice}
use Rattle.program_codegen.specs.Ends.{compared_raised, have_homes, is_operand, is_operand_second, is_raised, lowered_word, moved_both, moved_by, moved_first, moved_from, moved_operand, moved_step, moved_word, moved_words, none_raised, raised_at, raised_home, raised_second, raised_step, second_home, unmoved, with_raised, with_word}
use Rattle.program_codegen.specs.declared.direct.Raised.{Raised}
use Rattle.program_codegen.specs.declared.homes.Homes.{Homes}
use Rattle.program_codegen.proofs.HomeCodes.{home_is, split, when_picked, when_some}
use Rattle.program_codegen.proofs.Numbers.{all_three}

-- what is kept of a word
pub record Kept (i j : AlphaInstr) : Type 0 where
  pub operates : is_operate j ≡ true
  pub same : written j ≡ written i
  pub writes : register_written j ≡ register_written i
  pub encodes : IsEncodable i → IsEncodable j

-- one that has no word writes no code
abbrev pub WordKept : (i : AlphaInstr) → Option AlphaInstr → Type 0
WordKept i None = 20 ≤ register_written i
WordKept i (Some j) = Kept i j

abbrev pub AreRaised : Raised → Type 0
AreRaised raised = IsLasting raised.first × IsLasting raised.second

pub record StepKept (i : AlphaInstr) (step : Raised × Option AlphaInstr) : Type 0 where
  pub word : WordKept i step.1
  pub behind : AreRaised step.0

module _ (homes : Homes) (are : AreLasting homes) where
  small : (n r : ℕ) → home_at homes n ≡ Some r → r < 32
  small n r e = let lt = (home_is homes are n r e).0 in omega arith

  unmoved_kept : (op : OperateOp) (a : ℕ) (b : Second) (c : ℕ) (j : AlphaInstr) → unmoved op a b c ≡ Some j → Kept (Operate op a b c) j
  unmoved_kept op a b c j e =
      let w = when_some (not (is_operand a || is_operand_second b || is_choice op)) (Operate op a b c) j e in
      subst (Kept (Operate op a b c)) w.1 (record { operates = refl; same = refl; writes = refl; encodes = λ h. h })

  operand_kept : (op : OperateOp) (a n home c : ℕ) (j : AlphaInstr) → home < 32 → moved_operand op a home c ≡ Some j → Kept (Operate op a (Register n) c) j
  operand_kept row.Bis a n home c j lt e =
      let w = when_some (not (is_operand a) && is_operand c) (Operate row.Bis a (Register home) c) j e in
      subst (Kept (Operate row.Bis a (Register n) c)) w.1 (record { operates = refl; same = refl; writes = refl; encodes = λ h. (h.0, lt, h.2) })
  operand_kept op a n home c j lt e = absurd (cc e)

  both_kept : (op : OperateOp) (a n x y c : ℕ) (j : AlphaInstr) → x < 32 → y < 32 → moved_both op x y c ≡ Some j → Kept (Operate op a (Register n) c) j
  both_kept row.Cmpeq a n x y c j lt lt' e = subst (Kept (Operate row.Cmpeq a (Register n) c)) (same_Some (Operate row.Cmpeq x (Register y) c) j e) (record { operates = refl; same = refl; writes = refl; encodes = λ h. (lt, lt', h.2) })
  both_kept row.Cmpult a n x y c j lt lt' e = subst (Kept (Operate row.Cmpult a (Register n) c)) (same_Some (Operate row.Cmpult x (Register y) c) j e) (record { operates = refl; same = refl; writes = refl; encodes = λ h. (lt, lt', h.2) })
  both_kept op a n x y c j lt lt' e = absurd (cc e)

  first_kept : (op : OperateOp) (a x : ℕ) (b : Second) (c : ℕ) (j : AlphaInstr) → x < 32 → moved_first op x b c ≡ Some j → Kept (Operate op a b c) j
  first_kept row.Cmpeq a x (Literal value) c j lt e =
      let w = when_some (value == 0) (Operate row.Cmpeq x (Literal 0) c) j e in
      subst (Kept (Operate row.Cmpeq a (Literal value) c)) w.1 (record { operates = refl; same = refl; writes = refl; encodes = λ h. (lt, lit< tt, h.2) })
  first_kept row.Sll a x (Literal value) c j lt e =
      let w = when_some (value == 32) (Operate row.Sll x (Literal 32) c) j e in
      subst (Kept (Operate row.Sll a (Literal value) c)) w.1 (record { operates = refl; same = refl; writes = refl; encodes = λ h. (lt, lit< tt, h.2) })
  first_kept row.Srl a x (Literal value) c j lt e =
      let w = when_some (value == 31) (Operate row.Srl x (Literal 63) c) j e in
      subst (Kept (Operate row.Srl a (Literal value) c)) w.1 (record { operates = refl; same = refl; writes = refl; encodes = λ h. (lt, lit< tt, h.2) })
  first_kept op a x b c j lt e = absurd (cc e)

  by_homes : (op : OperateOp) (a : ℕ) (b : Second) (c : ℕ) (j : AlphaInstr) → (o : Option ℕ) → home_at homes a ≡ o → (q : Option ℕ) → second_home homes b ≡ q → moved_by o q op a b c ≡ Some j → Kept (Operate op a b c) j
  by_homes op a b c j None none None none' e = unmoved_kept op a b c j e
  by_homes op a (Register n) c j None none (Some y) some e = operand_kept op a n y c j (small n y some) e
  by_homes op a (Literal value) c j None none (Some y) some e = absurd (cc some)
  by_homes op a b c j (Some x) some None none e = first_kept op a x b c j (small a x some) e
  by_homes op a (Register n) c j (Some x) some (Some y) some' e = both_kept op a n x y c j (small a x some) (small n y some') e
  by_homes op a (Literal value) c j (Some x) some (Some y) some' e = absurd (cc some')

  word_kept : (op : OperateOp) (a : ℕ) (b : Second) (c : ℕ) (j : AlphaInstr) → moved_by (home_at homes a) (second_home homes b) op a b c ≡ Some j → Kept (Operate op a b c) j
  word_kept op a b c j e = by_homes op a b c j (home_at homes a) refl (second_home homes b) refl e

  -- ---- what is to be raised
  raised_small : (raised : Raised) (n x : ℕ) → AreRaised raised → raised_at raised n ≡ Some x → x < 32
  raised_small raised n x is e = by (n == 24) (n == 25) e
    where
      picked : (o : Option ℕ) → IsLasting o → o ≡ Some x → x < 32
      picked o is same = let home = subst IsLasting same is in let lt = home.0 in omega arith

      by : (a b : Bool) → (if a then raised.first else if b then raised.second else None) ≡ Some x → x < 32
      by true b e = picked raised.first is.0 e
      by false true e = picked raised.second is.1 e
      by false false e = absurd (cc e)

  raised_are : (c : ℕ) (o : Option ℕ) (raised : Raised) → IsLasting o → AreRaised raised → AreRaised (with_raised c o raised)
  raised_are c o raised home is = by (c == 24) (c == 25)
    where
      by : (a b : Bool) → AreRaised (if a then record raised { first = o } else if b then record raised { second = o } else raised)
      by true b = (home, is.1)
      by false true = (is.0, home)
      by false false = is

  compared_kept : (op : OperateOp) (a n x y c : ℕ) (j : AlphaInstr) → x < 32 → y < 32 → compared_raised op x y c ≡ Some j → Kept (Operate op a (Register n) c) j
  compared_kept row.Cmplt a n x y c j lt lt' e = subst (Kept (Operate row.Cmplt a (Register n) c)) (same_Some (Operate row.Cmplt x (Register y) c) j e) (record { operates = refl; same = refl; writes = refl; encodes = λ h. (lt, lt', h.2) })
  compared_kept op a n x y c j lt lt' e = absurd (cc e)

  raises : (op : OperateOp) (a : ℕ) (b : Second) (c x : ℕ) → raised_home homes op a b c ≡ Some x → (20 ≤ c) × IsLasting (Some x)
  raises row.Sll a (Literal value) c x e =
      let w = when_picked (value == 32 && is_raised c && have_homes homes) (home_at homes a) x e in
      let y = all_three (value == 32) (is_raised c) (have_homes homes) w.0 in
      (high (c == 24) refl (c == 25) refl y.1, home_is homes are a x w.1)
    where
      high : (a : Bool) → (c == 24) ≡ a → (b : Bool) → (c == 25) ≡ b → (a || b) ≡ true → 20 ≤ c
      high true e b f is = let same = eqb-true c 24 e in omega arith
      high false e true f is = let same = eqb-true c 25 f in omega arith
      high false e false f is = absurd (cc is)
  raises op a b c x e = absurd (cc e)

  module _ (raised : Raised) (is_so : AreRaised raised) where
    read_kept : (op : OperateOp) (a : ℕ) (b : Second) (c : ℕ) (j : AlphaInstr) → (o : Option ℕ) → raised_at raised a ≡ o → (q : Option ℕ) → raised_second raised b ≡ q → moved_word o q homes op a b c ≡ Some j → Kept (Operate op a b c) j
    read_kept op a b c j None down None down' e = word_kept op a b c j e
    read_kept op a b c j None down (Some y) some e = absurd (cc e)
    read_kept op a b c j (Some x) some None down e = absurd (cc e)
    read_kept op a (Register n) c j (Some x) some (Some y) some' e = compared_kept op a n x y c j (raised_small raised a x is_so some) (raised_small raised n y is_so some') e
    read_kept op a (Literal value) c j (Some x) some (Some y) some' e = absurd (cc some')

    operate_kept : (op : OperateOp) (a : ℕ) (b : Second) (c : ℕ) (step : Raised × Option AlphaInstr) → moved_step homes raised (Operate op a b c) ≡ Some step → StepKept (Operate op a b c) step
    operate_kept op a b c step e = by (raised_home homes op a b c) refl e
      where
        reads : (q : Option AlphaInstr) → moved_word (raised_at raised a) (raised_second raised b) homes op a b c ≡ q → lowered_word raised c q ≡ Some step → StepKept (Operate op a b c) step
        reads None f e = absurd (cc e)
        reads (Some j) f e =
            let made : Raised × Option AlphaInstr = (with_raised c None raised, Some j) in
            subst (StepKept (Operate op a b c)) (same_Some made step e)
            (record { word = read_kept op a b c j (raised_at raised a) refl (raised_second raised b) refl f; behind = raised_are c None raised tt is_so })

        by : (o : Option ℕ) → raised_home homes op a b c ≡ o → raised_step o raised c (moved_word (raised_at raised a) (raised_second raised b) homes op a b c) ≡ Some step → StepKept (Operate op a b c) step
        by (Some x) some e =
            let r = raises op a b c x some in
            let made : Raised × Option AlphaInstr = (with_raised c (Some x) raised, None) in
            subst (StepKept (Operate op a b c)) (same_Some made step e) (record { word = r.0; behind = raised_are c (Some x) raised r.1 is_so })
        by None none e = reads (moved_word (raised_at raised a) (raised_second raised b) homes op a b c) refl e

    step_kept : (i : AlphaInstr) (step : Raised × Option AlphaInstr) → moved_step homes raised i ≡ Some step → StepKept i step
    step_kept (Operate op a b c) step e = operate_kept op a b c step e
    step_kept (Memory op a b d) step e = absurd (cc e)
    step_kept (Branch op a d) step e = absurd (cc e)
    step_kept (Jump a b) step e = absurd (cc e)
    step_kept (Pal n) step e = absurd (cc e)

  -- ---- rows
  row_length : (is js : List AlphaInstr) (raised : Raised) → moved_from homes raised is ≡ Some js → length js ≤ length is
  row_length [] js raised e = subst (λ (js : List AlphaInstr). length js ≤ 0) (same_Some [] js e) (lit≤ tt)
  row_length (i ∷ is) js raised e =
      let s = split homes raised i is js e in
      let rest = row_length is s.rest s.step.0 s.behind in
      subst (λ (js : List AlphaInstr). length js ≤ suc (length is)) (sym s.whole) (by s.step.1 s.rest rest)
    where
      by : (word : Option AlphaInstr) (rest : List AlphaInstr) → length rest ≤ length is → length (with_word word rest) ≤ suc (length is)
      by None rest le = omega arith
      by (Some word) rest le = omega arith

  row_encodable : (is js : List AlphaInstr) (raised : Raised) → AreRaised raised → moved_from homes raised is ≡ Some js → All IsEncodable is → All IsEncodable js
  row_encodable [] js raised are e all = subst (All IsEncodable) (same_Some [] js e) all
  row_encodable (i ∷ is) js raised are e all =
      let s = split homes raised i is js e in
      let k = step_kept raised are i s.step s.first in
      subst (All IsEncodable) (sym s.whole) (by s.step.1 k.word s.rest (row_encodable is s.rest s.step.0 k.behind s.behind (All-tail IsEncodable i is all)))
    where
      by : (word : Option AlphaInstr) → WordKept i word → (rest : List AlphaInstr) → All IsEncodable rest → All IsEncodable (with_word word rest)
      by None k rest all' = all'
      by (Some word) k rest all' = All-cons IsEncodable word rest (k.encodes (All-head IsEncodable i is all)) all'

  row_fine : (may : ℕ → Bool) (is js : List AlphaInstr) (raised : Raised) → AreRaised raised → moved_from homes raised is ≡ Some js → list_all (fine may) is ≡ true → list_all (fine may) js ≡ true
  row_fine may [] js raised are e ok = subst (λ (js : List AlphaInstr). list_all (fine may) js ≡ true) (same_Some [] js e) refl
  row_fine may (i ∷ is) js raised are e ok =
      let s = split homes raised i is js e in
      let x = and_parts (fine may i) (list_all (fine may) is) ok in
      let k = step_kept raised are i s.step s.first in
      subst (λ (js : List AlphaInstr). list_all (fine may) js ≡ true) (sym s.whole) (by x.0 s.step.1 k.word s.rest (row_fine may is s.rest s.step.0 k.behind s.behind x.1))
    where
      by : fine may i ≡ true → (word : Option AlphaInstr) → WordKept i word → (rest : List AlphaInstr) → list_all (fine may) rest ≡ true → list_all (fine may) (with_word word rest) ≡ true
      by ok None k rest all = all
      by ok (Some word) k rest all =
          and_from (fine may word) (list_all (fine may) rest) (and_from (is_operate word) (may (written word)) k.operates (ap may k.same ∙ (and_parts (is_operate i) (may (written i)) ok).1)) all

  row_writes : (r : ℕ) → r < 20 → (is js : List AlphaInstr) (raised : Raised) → AreRaised raised → moved_from homes raised is ≡ Some js → writes_register r js ≡ writes_register r is
  row_writes r low [] js raised are e = ap (writes_register r) (sym (same_Some [] js e))
  row_writes r low (i ∷ is) js raised are e =
      let s = split homes raised i is js e in
      let k = step_kept raised are i s.step s.first in
      ap (writes_register r) s.whole ∙ (by s.step.1 k.word s.rest ∙ ap (λ b. (register_written i == r) || b) (row_writes r low is s.rest s.step.0 k.behind s.behind))
    where
      by : (word : Option AlphaInstr) → WordKept i word → (rest : List AlphaInstr) → writes_register r (with_word word rest) ≡ ((register_written i == r) || writes_register r rest)
      by None high rest = let other : (register_written i == r) ≡ false = grind (arith, nat_tests, high, low) in ap (λ b. b || writes_register r rest) (sym other)
      by (Some word) k rest = ap (λ n. (n == r) || writes_register r rest) k.writes

  pub moved_length : (is js : List AlphaInstr) → moved_words homes is ≡ Some js → length js ≤ length is
  moved_length is js e = row_length is js none_raised e

  pub moved_encodable : (is js : List AlphaInstr) → moved_words homes is ≡ Some js → All IsEncodable is → All IsEncodable js
  moved_encodable is js e all = row_encodable is js none_raised (tt, tt) e all

  pub moved_fine : (may : ℕ → Bool) (is js : List AlphaInstr) → moved_words homes is ≡ Some js → list_all (fine may) is ≡ true → list_all (fine may) js ≡ true
  moved_fine may is js e ok = row_fine may is js none_raised (tt, tt) e ok

  pub moved_writes : (r : ℕ) → r < 20 → (is js : List AlphaInstr) → moved_words homes is ≡ Some js → writes_register r js ≡ writes_register r is
  moved_writes r low is js e = row_writes r low is js none_raised (tt, tt) e
