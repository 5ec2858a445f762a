-- A computation of one word waits, and needs no copy before it where it reads what that copies and writes over it.
use Rattle.std.proofs.Common.{◌≡◌, ℕ, ◌<◌, refl, sym, ap, ◌∙◌, subst, arith, List, [], ◌∷◌, Option, Some, None, Bool, true, false, eqb-true, lit≤}
use Rattle.std.specs.Prelude.{◌==◌, ◌&&◌, not, nat_lt, option_map, if◌then◌else◌}
use Rattle.std.proofs.lemmas.Bool.Decides.{nat_tests}
use Rattle.std.proofs.lemmas.Bool.{and_parts, ltb-true, not-true}
use Rattle.std.proofs.lemmas.Option.{same_Some}
use Rattle.alpha_encode.specs.Words.{IsFirst}
use Rattle.alpha_encode.specs.declared.instr.AlphaInstr.{AlphaInstr}
use Rattle.alpha_encode.specs.declared.instr.AlphaInstr.TheVariants.{Memory, Branch, Operate, Jump, Pal}
use Rattle.alpha_encode.specs.declared.instr.OperateOp.{OperateOp}
use Rattle.alpha_encode.specs.declared.instr.OperateOp.TheVariants as row
use Rattle.alpha_encode.specs.declared.instr.Second.{Second}
use Rattle.alpha_encode.specs.declared.instr.Second.TheVariants as seconds
use Rattle.alpha_meaning.specs.Act.{second_value}
use Rattle.alpha_meaning.specs.Loops.{effect, is_operate}
use Rattle.alpha_meaning.specs.Pieces.{Runs, Terms}
use Rattle.alpha_meaning.specs.Result.{result_of}
use Rattle.alpha_meaning.specs.State.{Regs}
use Rattle.alpha_meaning.proofs.Registers.{put_other, put_same}
use Rattle.compute_sequences.specs.Promises.{Leaves, LeavesAt}
use Rattle.program_codegen.specs.Homes.{copied_to, is_choice, is_temporary, only_word, passed, reads_over, second_reads}
use Rattle.program_codegen.proofs.HomeCodes.{held_unread}
use Rattle.program_codegen.proofs.HomeNumbers.{IsExtended}
use Rattle.program_codegen.proofs.Numbers.{all_three, all_four, committed_is}

-- ---- one word
pub only_is : (words : List AlphaInstr) (word : AlphaInstr) → only_word words ≡ Some word → (words ≡ word ∷ []) × (is_operate word ≡ true)
only_is (Operate op first second to ∷ []) word e =
    let same = same_Some (Operate op first second to) word e in
    (ap (λ (w : AlphaInstr). w ∷ []) same, subst (λ (w : AlphaInstr). is_operate w ≡ true) same refl)
only_is [] word e = absurd (cc e)
only_is (Operate op first second to ∷ next ∷ more) word e = absurd (cc e)
only_is (Memory op ra rb disp ∷ more) word e = absurd (cc e)
only_is (Branch op ra disp ∷ more) word e = absurd (cc e)
only_is (Jump ra rb ∷ more) word e = absurd (cc e)
only_is (Pal number ∷ more) word e = absurd (cc e)

some_terms : Terms
some_terms = record { allowed = λ store quad. true; kinds = λ kind bytes. true; bonus = 0 }

-- what it promises wherever it stands, of the registers behind it
pub one_leaves : (Is : ℕ → Type 0) (to : ℕ) (word : AlphaInstr) (regs : Regs) → is_operate word ≡ true → LeavesAt Is to (word ∷ []) regs → Leaves Is to regs tt (effect word regs)
unfolding Runs
one_leaves Is to (Operate op first second c) regs operate law = (law (λ pc. Some (Operate op first second c)) some_terms 0 2 (lit≤ tt) (refl, tt)).3.2
one_leaves Is to (Memory op ra rb disp) regs operate law = absurd (cc operate)
one_leaves Is to (Branch op ra disp) regs operate law = absurd (cc operate)
one_leaves Is to (Jump ra rb) regs operate law = absurd (cc operate)
one_leaves Is to (Pal number) regs operate law = absurd (cc operate)

-- ---- a copy that has no use
pub record Passed (waiting : Option AlphaInstr) (word shorter : AlphaInstr) : Type 0 where
  pub operation : OperateOp
  pub from : ℕ
  pub second : Second
  pub to : ℕ
  pub is_copy : waiting ≡ Some (Operate row.Addl from (seconds.Literal 0) to)
  pub is_word : word ≡ Operate operation to second to
  pub is : shorter ≡ Operate operation from second to
  pub register : from < 15
  pub high : 20 < to
  pub low : to < 27
  pub unread : second_reads second to ≡ false
  pub unheld : is_choice operation ≡ false

record Copied (to : ℕ) (waiting : Option AlphaInstr) (from : ℕ) : Type 0 where
  pub is : waiting ≡ Some (Operate row.Addl from (seconds.Literal 0) to)
  pub register : from < 15

copied_is : (to : ℕ) (waiting : Option AlphaInstr) (from : ℕ) → copied_to to waiting ≡ Some from → Copied to waiting from
copied_is to None from e = absurd (cc e)
copied_is to (Some (Operate row.Addl first (seconds.Literal value) place)) from e = by (place == to && value == 0 && nat_lt first 15) refl e
  where
    by : (c : Bool) → (place == to && value == 0 && nat_lt first 15) ≡ c → (if c then Some first else None) ≡ Some from → Copied to (Some (Operate row.Addl first (seconds.Literal value) place)) from
    by true is e =
        let x = all_three (place == to) (value == 0) (nat_lt first 15) is in
        let same = same_Some first from e in
        record {
          is = ap (λ n. Some (Operate row.Addl n (seconds.Literal value) place)) same
              ∙ (ap (λ n. Some (Operate row.Addl from (seconds.Literal n) place)) (eqb-true value 0 x.1) ∙ ap (λ n. Some (Operate row.Addl from (seconds.Literal 0) n)) (eqb-true place to x.0));
          register = subst (λ n. n < 15) same (ltb-true first 15 x.2);
        }
    by false is e = absurd (cc e)
copied_is to (Some word) from e = absurd (cc e)

pub passed_is : (waiting : Option AlphaInstr) (word shorter : AlphaInstr) → passed waiting word ≡ Some shorter → Passed waiting word shorter
passed_is waiting (Operate op first second to) shorter e = by (reads_over op first second to) refl (copied_to to waiting) refl e
  where
    by : (c : Bool) → reads_over op first second to ≡ c → (o : Option ℕ) → copied_to to waiting ≡ o → (if c then option_map (λ from. Operate op from second to) o else None) ≡ Some shorter → Passed waiting (Operate op first second to) shorter
    by true is (Some from) f e =
        let x = all_four (first == to) (not (second_reads second to)) (not (is_choice op)) (is_temporary to) is in
        let bounds = and_parts (nat_lt 20 to) (nat_lt to 27) x.3 in
        let c = copied_is to waiting from f in
        record {
          operation = op;
          from = from;
          second = second;
          to = to;
          is_copy = c.is;
          is_word = ap (λ n. Operate op n second to) (eqb-true first to x.0);
          is = sym (same_Some (Operate op from second to) shorter e);
          register = c.register;
          high = ltb-true 20 to bounds.0;
          low = ltb-true to 27 bounds.1;
          unread = not-true (second_reads second to) x.1;
          unheld = not-true (is_choice op) x.2;
        }
    by true is None f e = absurd (cc e)
    by false is o f e = absurd (cc e)
passed_is waiting (Memory op ra rb disp) shorter e = absurd (cc e)
passed_is waiting (Branch op ra disp) shorter e = absurd (cc e)
passed_is waiting (Jump ra rb) shorter e = absurd (cc e)
passed_is waiting (Pal number) shorter e = absurd (cc e)

-- it has an encoding where the other has one
pub passed_fits : (op : OperateOp) (to from : ℕ) → to < 27 → from < 15 → IsFirst op to → IsFirst op from
passed_fits row.Sextb to from low register is = let none : ⊥ = omega (arith, low, is) in absurd none
passed_fits row.Sextw to from low register is = let none : ⊥ = omega (arith, low, is) in absurd none
passed_fits op to from low register is = omega (arith, register)

-- what is copied outlasts it
pub outlasts : (from to : ℕ) → 20 < to → from < 15 → (regs : Regs) → effect (Operate row.Addl from (seconds.Literal 0) to) regs from ≡ regs from
outlasts from to high register regs = let apart : (from == to) ≡ false = grind (arith, nat_tests, high, register) in put_other regs to (result_of row.Addl (regs from) 0 (regs to)) from apart

-- both leave the same
module _ (op : OperateOp) (from : ℕ) (second : Second) (to : ℕ) (low : to < 27) (unread : second_reads second to ≡ false) (unheld : is_choice op ≡ false) (regs : Regs) (extended : IsExtended (regs from)) where
  abbrev copy : AlphaInstr
  copy = Operate row.Addl from (seconds.Literal 0) to

  last : (to == 31) ≡ false
  last = grind (arith, nat_tests, low)

  there : effect copy regs to ≡ regs from
  there = put_same regs to (result_of row.Addl (regs from) 0 (regs to)) last ∙ (committed_is (regs from) ∙ extended)

  same_second : (s : Second) → second_reads s to ≡ false → second_value s (effect copy regs) ≡ second_value s regs
  same_second (seconds.Register number) e = put_other regs to (result_of row.Addl (regs from) 0 (regs to)) number e
  same_second (seconds.Literal value) e = refl

  made : result_of op (effect copy regs to) (second_value second (effect copy regs)) (effect copy regs to) ≡ result_of op (regs from) (second_value second regs) (regs to)
  made =
      ap (λ n. result_of op n (second_value second (effect copy regs)) (effect copy regs to)) there
      ∙ (ap (λ n. result_of op (regs from) n (effect copy regs to)) (same_second second unread)
      ∙ held_unread op (regs from) (second_value second regs) (effect copy regs to) (regs to) unheld)

  pub passes : (n : ℕ) → effect (Operate op from second to) regs n ≡ effect (Operate op to second to) (effect copy regs) n
  passes n = by (n == to) refl
    where
      by : (c : Bool) → (n == to) ≡ c → effect (Operate op from second to) regs n ≡ effect (Operate op to second to) (effect copy regs) n
      by true e =
          subst (λ n. effect (Operate op from second to) regs n ≡ effect (Operate op to second to) (effect copy regs) n) (sym (eqb-true n to e))
          (put_same regs to (result_of op (regs from) (second_value second regs) (regs to)) last
          ∙ sym (put_same (effect copy regs) to (result_of op (effect copy regs to) (second_value second (effect copy regs)) (effect copy regs to)) last ∙ made))
      by false e =
          put_other regs to (result_of op (regs from) (second_value second regs) (regs to)) n e
          ∙ sym (put_other (effect copy regs) to (result_of op (effect copy regs to) (second_value second (effect copy regs)) (effect copy regs to)) n e
          ∙ put_other regs to (result_of row.Addl (regs from) 0 (regs to)) n e)
