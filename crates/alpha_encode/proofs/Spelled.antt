-- From a word to its instruction and back.
use Rattle.std.proofs.Common.{◌≡◌, ℕ, ◌+◌, ◌-◌, ◌/◌, ◌%◌, ◌^◌, ◌<◌, refl, sym, ap, ◌∙◌, subst, arith, inl, inr, ⊎_elim, Option, Some, None, Bool, true, false, cond, eqb, eqb-true, leb-true, ltb-true}
use Rattle.std.specs.Prelude.{◌⊎◌, ◌≢◌, pos, negsuc, ◌<ℤ◌, ◌≤ℤ◌, nat_lt, nat_le, ◌&&◌, IfSome, IfNone}
use Rattle.std.specs.Int.{cast_unsigned, cast_signed, w16, w32}
use Rattle.std.specs.Option.{option_or}
use Rattle.std.proofs.lemmas.Bool.{and_parts}
use borrow.Author.Gap.{read_sfits}
use Rattle.std.proofs.lemmas.Int.{of_z-to_z, ints}
use Rattle.alpha_encode.specs.declared.instr.Second.{Second}
use Rattle.alpha_encode.specs.declared.instr.Second.TheVariants.{Register, Literal}
use Rattle.alpha_encode.specs.declared.instr.AlphaInstr.{AlphaInstr}
use Rattle.alpha_encode.specs.declared.instr.AlphaInstr.TheVariants.{Memory, Branch, Operate, Jump, Pal}
use Rattle.alpha_encode.specs.Rows.{memory_at, branch_at, operate_at}
use Rattle.alpha_encode.specs.declared.instr.OperateOp.{OperateOp}
use Rattle.alpha_encode.specs.declared.instr.OperateOp.TheVariants as row
use Rattle.alpha_encode.specs.Words.{IsFirst, is_first, if_first, IsEncodable, IsSecond, Spells, word_of, instr_at, second_at, second_field, with_some, with_both, jump_at, pal_at, signed_21}
use Rattle.alpha_encode.proofs.Rows.{chosen, memory_of_found, branch_of_found, operate_of_found}
use Rattle.alpha_encode.proofs.Reread.{again}

option_or_of : {A : Type 0} (a b : Option A) (x : A) → option_or a b ≡ Some x → (a ≡ Some x) ⊎ (b ≡ Some x)
option_or_of None b x e = inr e
option_or_of (Some a) b x e = inl e

with_some_of : {A B : Type 0} (o : Option A) (f : A → B) (x : B) → with_some o f ≡ Some x → (a : A) × (o ≡ Some a) × (f a ≡ x)
with_some_of None f x e = cc
with_some_of (Some a) f x e = (a, refl, cc)

with_both_of : {A B C : Type 0} (o : Option A) (p : Option B) (f : A → B → C) (x : C) → with_both o p f ≡ Some x → (a : A) × (b : B) × (o ≡ Some a) × (p ≡ Some b) × (f a b ≡ x)
with_both_of None p f x e = cc
with_both_of (Some a) None f x e = cc
with_both_of (Some a) (Some b) f x e = (a, b, refl, refl, cc)

signed_21_bits : (n : ℕ) → n < 2 ^ 21 → (b : Bool) → (cond b n (n + (2 ^ 32 - 2 ^ 21)) < 2 ^ 32) × (cond b n (n + (2 ^ 32 - 2 ^ 21)) % 2 ^ 21 ≡ n)
signed_21_bits n h true = (omega arith, omega arith)
signed_21_bits n h false = (omega arith, omega arith)

signed_21_again : (n : ℕ) → n < 2 ^ 21 → cast_unsigned w32 (signed_21 n) % 2 ^ 21 ≡ n
signed_21_again n h =
    let bits = signed_21_bits n h (nat_lt n (2 ^ 20)) in
    ap (λ x. x % 2 ^ 21) (of_z-to_z w32 (cond (nat_lt n (2 ^ 20)) n (n + (2 ^ 32 - 2 ^ 21))) bits.0) ∙ bits.1

-- 21 bits are a displacement of 21 signed bits
signed_21_low : (n : ℕ) → n < 2 ^ 21 → negsuc (2 ^ 20 - 1) ≤ℤ signed_21 n
signed_21_low n h = grind (arith, ints)

signed_21_high : (n : ℕ) → n < 2 ^ 21 → signed_21 n <ℤ pos (2 ^ 20)
signed_21_high n h = grind (arith, ints)

memory_spells : (w : ℕ) (i : AlphaInstr) → w < 2 ^ 32 → with_some (memory_at (w / 2 ^ 26)) (λ op. Memory op (w / 2 ^ 21 % 32) (w / 2 ^ 16 % 32) (cast_signed w16 (w % 2 ^ 16))) ≡ Some i → Spells w i
memory_spells w i h e =
    let f = with_some_of (memory_at (w / 2 ^ 26)) (λ op. Memory op (w / 2 ^ 21 % 32) (w / 2 ^ 16 % 32) (cast_signed w16 (w % 2 ^ 16))) i e in
    let key = memory_of_found (w / 2 ^ 26) f.0 f.1 in
    let low = of_z-to_z w16 (w % 2 ^ 16) (omega arith) in
    subst (Spells w) f.2 (((omega arith), (omega arith), read_sfits w16 (w % 2 ^ 16)), omega arith)

branch_spells : (w : ℕ) (i : AlphaInstr) → w < 2 ^ 32 → with_some (branch_at (w / 2 ^ 26)) (λ op. Branch op (w / 2 ^ 21 % 32) (signed_21 (w % 2 ^ 21))) ≡ Some i → Spells w i
branch_spells w i h e =
    let f = with_some_of (branch_at (w / 2 ^ 26)) (λ op. Branch op (w / 2 ^ 21 % 32) (signed_21 (w % 2 ^ 21))) i e in
    let key = branch_of_found (w / 2 ^ 26) f.0 f.1 in
    let lt : w % 2 ^ 21 < 2 ^ 21 = omega arith in
    let low = signed_21_again (w % 2 ^ 21) lt in
    subst (Spells w) f.2 ((omega arith, signed_21_low (w % 2 ^ 21) lt, signed_21_high (w % 2 ^ 21) lt), omega arith)

second_spells : (n : ℕ) → n < 512 → (rb : Second) → second_at n ≡ Some rb → IsSecond rb × (second_field rb ≡ n)
second_spells n h rb e =
    ⊎_elim
    (λ (a : (eqb (n % 2) 1 ≡ true) × (Literal (n / 2) ≡ rb)).
    let odd = eqb-true (n % 2) 1 a.0 in
    subst (λ rb. IsSecond rb × (second_field rb ≡ n)) a.1 (omega arith, omega arith))
    (λ (a : (eqb (n % 2) 1 ≡ false) × (cond (eqb (n % 16) 0) (Some (Register (n / 16))) None ≡ Some rb)).
    ⊎_elim
    (λ (b : (eqb (n % 16) 0 ≡ true) × (Register (n / 16) ≡ rb)).
    let zeros = eqb-true (n % 16) 0 b.0 in
    subst (λ rb. IsSecond rb × (second_field rb ≡ n)) b.1 (omega arith, omega arith))
    (λ (b : (eqb (n % 16) 0 ≡ false) × (None ≡ Some rb)). let no = b.1 in cc)
    (chosen (eqb (n % 16) 0) (Register (n / 16)) rb None a.1))
    (chosen (eqb (n % 2) 1) (Literal (n / 2)) rb (cond (eqb (n % 16) 0) (Some (Register (n / 16))) None) e)

first_of : (op : OperateOp) (ra : ℕ) → is_first op ra ≡ true → IsFirst op ra
first_of row.Sextb ra h = eqb-true ra 31 h
first_of row.Sextw ra h = eqb-true ra 31 h
first_of op ra h = ltb-true ra 32 h

if_first_of : (ra : ℕ) (o : Option OperateOp) (op : OperateOp) → if_first ra o ≡ Some op → (o ≡ Some op) × IsFirst op ra
if_first_of ra None op e = cc
if_first_of ra (Some op') op e =
    ⊎_elim
    (λ (a : (is_first op' ra ≡ true) × (op' ≡ op)). (ap Some a.1, subst (λ o. IsFirst o ra) a.1 (first_of op' ra a.0)))
    (λ (a : (is_first op' ra ≡ false) × (None ≡ Some op)). let no = a.1 in cc)
    (chosen (is_first op' ra) op' op None e)

operate_spells : (w : ℕ) (i : AlphaInstr) → w < 2 ^ 32 → with_both (if_first (w / 2 ^ 21 % 32) (operate_at (w / 2 ^ 26) (w / 2 ^ 5 % 128))) (second_at (w / 2 ^ 12 % 512)) (λ op rb. Operate op (w / 2 ^ 21 % 32) rb (w % 32)) ≡ Some i → Spells w i
operate_spells w i h e =
    let f = with_both_of (if_first (w / 2 ^ 21 % 32) (operate_at (w / 2 ^ 26) (w / 2 ^ 5 % 128))) (second_at (w / 2 ^ 12 % 512)) (λ op rb. Operate op (w / 2 ^ 21 % 32) rb (w % 32)) i e in
    let first = if_first_of (w / 2 ^ 21 % 32) (operate_at (w / 2 ^ 26) (w / 2 ^ 5 % 128)) f.0 f.2 in
    let key = operate_of_found (w / 2 ^ 26) (w / 2 ^ 5 % 128) f.0 first.0 in
    let opcode = key.0 in let function = key.1 in
    let second = second_spells (w / 2 ^ 12 % 512) (omega arith) f.1 f.3 in
    let field = second.1 in
    subst (Spells w) f.4 ((first.1, second.0, omega arith), omega arith)

jump_spells : (w : ℕ) (i : AlphaInstr) → w < 2 ^ 32 → jump_at w ≡ Some i → Spells w i
jump_spells w i h e =
    ⊎_elim
    (λ (a : (eqb (w / 2 ^ 26) 0x1a && eqb (w % 2 ^ 16) 0 ≡ true) × (Jump (w / 2 ^ 21 % 32) (w / 2 ^ 16 % 32) ≡ i)).
    let parts = and_parts (eqb (w / 2 ^ 26) 0x1a) (eqb (w % 2 ^ 16) 0) a.0 in
    let opcode = eqb-true (w / 2 ^ 26) 0x1a parts.0 in
    let zeros = eqb-true (w % 2 ^ 16) 0 parts.1 in
    subst (Spells w) a.1 ((omega arith, omega arith), omega arith))
    (λ (a : (eqb (w / 2 ^ 26) 0x1a && eqb (w % 2 ^ 16) 0 ≡ false) × (None ≡ Some i)). let no = a.1 in cc)
    (chosen (eqb (w / 2 ^ 26) 0x1a && eqb (w % 2 ^ 16) 0) (Jump (w / 2 ^ 21 % 32) (w / 2 ^ 16 % 32)) i None e)

pal_spells : (w : ℕ) (i : AlphaInstr) → pal_at w ≡ Some i → Spells w i
pal_spells w i e =
    ⊎_elim
    (λ (a : (nat_le 0x80 w && nat_le w 0x86 ≡ true) × (Pal w ≡ i)).
    let parts = and_parts (nat_le 0x80 w) (nat_le w 0x86) a.0 in
    subst (Spells w) a.1 ((leb-true 0x80 w parts.0, leb-true w 0x86 parts.1), refl))
    (λ (a : (nat_le 0x80 w && nat_le w 0x86 ≡ false) × (None ≡ Some i)). let no = a.1 in cc)
    (chosen (nat_le 0x80 w && nat_le w 0x86) (Pal w) i None e)

pub spelled : (w : ℕ) (i : AlphaInstr) → w < 2 ^ 32 → instr_at w ≡ Some i → Spells w i
spelled w i h e =
    ⊎_elim (memory_spells w i h) (λ e.
    ⊎_elim (branch_spells w i h) (λ e.
    ⊎_elim (operate_spells w i h) (λ e.
    ⊎_elim (jump_spells w i h) (pal_spells w i)
    (option_or_of _ _ i e)) (option_or_of _ _ i e)) (option_or_of _ _ i e)) (option_or_of _ _ i e)

-- what a call that gives this answer may promise
pub found_of : (w : ℕ) → w < 2 ^ 32 → (r : Option AlphaInstr) → r ≡ instr_at w → IfSome r (Spells w)
found_of w h None e = tt
found_of w h (Some i) e = spelled w i h (sym e)

pub none_of : (w : ℕ) → (r : Option AlphaInstr) → r ≡ instr_at w → IfNone r ((i : AlphaInstr) → IsEncodable i → word_of i ≢ w)
none_of w None e = λ i h same. let a = again i h in let b = subst (λ n. instr_at n ≡ Some i) same a in cc
none_of w (Some i) e = tt
