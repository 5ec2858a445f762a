-- Computations of a program whose operands are used where they stand.
use Rattle.std.proofs.Common.{inl, inr, ◌≡◌, ℕ, ◌+◌, ◌-◌, ◌%◌, ◌^◌, ◌<◌, ◌≤◌, refl, sym, ap, ap₂, ◌∙◌, subst, arith, List, [], ◌∷◌, ◌++◌, length, map, Option, Some, None, Bool, true, false, eqb-true}
use Rattle.std.specs.Prelude.{◌⊎◌, ◌==◌, ◌&&◌, ◌||◌, bit_and, bit_or, bit_xor, is_some, not, nat_lt, option_map, if◌then◌else◌}
use Rattle.std.specs.List.{list_all}
use Rattle.std.proofs.Math.Nat.{mod-eq_of_lt}
use Rattle.std.proofs.lemmas.Bool.Decides.{nat_tests}
use Rattle.std.proofs.lemmas.Bool.{and_parts, ltb-true, not-true}
use Rattle.std.proofs.Math.Nat.{mod-eq_of_lt}
use Rattle.std.specs.Int.Bits.{or_zero_l}
use Rattle.std.proofs.lemmas.Nat.{and_le_l, and_mod}
use Rattle.std.proofs.lemmas.Option.{same_Some}
use Rattle.vt_words.proofs.Longwords.{extended_again, extended_fits, extended_low}
use Rattle.vax_form.specs.Tree.{Tree}
use Rattle.vax_form.specs.declared.instr.Size.{Size}
use Rattle.vax_form.specs.declared.instr.Size.TheVariants.{Byte, Word, Long, Quad}
use Rattle.alpha_encode.specs.declared.instr.AlphaInstr.{AlphaInstr}
use Rattle.alpha_encode.specs.declared.instr.AlphaInstr.TheVariants.{Operate}
use Rattle.alpha_encode.specs.declared.instr.OperateOp.{OperateOp}
use Rattle.alpha_encode.specs.declared.instr.OperateOp.TheVariants as row
use Rattle.alpha_encode.specs.declared.instr.Second.{Second}
use Rattle.alpha_encode.specs.declared.instr.Second.TheVariants as seconds
use Rattle.alpha_meaning.specs.Act.{second_value}
use Rattle.alpha_meaning.specs.Loops.{effect, is_operate}
use Rattle.alpha_meaning.specs.Result.{inverse, minus, one_if, plus, result_of}
use Rattle.alpha_meaning.specs.State.{Regs, at_place, put}
use Rattle.alpha_meaning.proofs.Registers.{put_other, put_same}
use Rattle.exception_records.specs.Codes.{is_ready}
use Rattle.micro_ops.specs.declared.known.Known.{Known}
use Rattle.micro_ops.specs.declared.program.Arg.{Arg}
use Rattle.micro_ops.specs.declared.program.Arg.TheVariants as arguments
use Rattle.micro_ops.specs.declared.program.Micro.TheVariants.{Compute}
use Rattle.micro_ops.specs.declared.program.MicroOp.{MicroOp}
use Rattle.micro_ops.specs.declared.program.MicroOp.TheVariants.{Move, ZeroExtend, SignExtend, SelectNonzero, Add, Sub, And, Or, Xor, AndNot, Equal, Less, LessUnsigned}
use Rattle.micro_ops.specs.Fits.{argument_fits, computation_fits, holding_of}
use Rattle.micro_ops.specs.Known.{behind_write, holds}
use Rattle.micro_ops.specs.Meaning.{Standing, value_of_arg, with_value}
use Rattle.micro_ops.specs.Uses.{is_flag, is_quad, is_select, is_unary, leaves_longword, takes}
use Rattle.micro_ops.specs.Values.{computed, limit_of, low, value_from}
use Rattle.compute_sequences.specs.Promises.{IsComputed, Leaves, LeavesAt}
use Rattle.compute_sequences.specs.Registers.{IsArgument, IsTarget, may_change, value_at}
use Rattle.compute_sequences.specs.Words.{compute_code, is_constant, is_moved, is_short}
use Rattle.compute_sequences.proofs.WholeLaws.{leaves_computed}
use Rattle.compute_sequences.proofs.Numbers.{adds, ands, clears, ors, subtracts, xors}
use Rattle.block_law.specs.Placements.{Placement}
use Rattle.block_law.specs.Tidy.{is_kept}
use Rattle.block_law.proofs.Rules.{Always, operates, roomy}
use Rattle.program_codegen.specs.declared.homes.Homes.{Homes}
use Rattle.program_codegen.specs.declared.lines.Line.{Line}
use Rattle.program_codegen.specs.declared.points.Site.{Site}
use Rattle.program_codegen.specs.Homes.{AreHomes, IsHome, code_by, compared, comparison, copied, direct_code, extended_first, extended_register, extended_second, home_by, home_of, is_copying, is_shared, is_short_constant, joined_word, literal_word, long_operation, made, made_operation, made_size, new_home, one_word, placed, stands_in, sum_operation, with_home}
use Rattle.program_codegen.specs.Direct.{is_direct, is_exact, is_sized}
use Rattle.program_codegen.specs.Programs.{rule_of}
use Rattle.program_codegen.specs.Words.{holder, plain}
use Rattle.program_codegen.proofs.Computing.{argument_is, computation_runs, computed_holds, kept_apart, temp_apart, zero_apart}
use Rattle.program_codegen.proofs.HomeHolding.{Direct, extended_home, hidden, home_is, home_self, placed_exact, placed_fits, placed_is, placed_value, written}
use Rattle.program_codegen.proofs.HomeWaiting.{one_leaves}
use Rattle.program_codegen.proofs.HomeNumbers.{IsExtended, extended_and, extended_below, extended_equal, extended_inverse, extended_less, extended_or, extended_small, extended_xor, zero_extended}
use Rattle.program_codegen.proofs.Holding.{found}
use Rattle.program_codegen.proofs.Numbers.{all_three, all_four}
use Rattle.program_codegen.proofs.Walk.{Within, is_inside, row_length, row_words}

-- ---- numbers
-- the low bytes of a size below a quadword are those of the longword
low_from : (size : Size) (x y : ℕ) → is_quad size ≡ false → x % 2 ^ 32 ≡ y % 2 ^ 32 → low size x ≡ low size y
low_from Byte x y q e = omega arith
low_from Word x y q e = omega arith
low_from Long x y q e = e
low_from Quad x y q e = absurd (cc q)

-- a computation that reads low bytes alone
computed_low : (op : MicroOp) (size : Size) (a a' b b' held held' : ℕ) → low size a ≡ low size a' → (is_unary op ≡ false → low size b ≡ low size b') → is_select op ≡ false
    → computed op size a b held ≡ computed op size a' b' held'
unfolding value_from
computed_low Move size a a' b b' held held' ea eb not_so = ea
computed_low ZeroExtend size a a' b b' held held' ea eb not_so = ea
computed_low SignExtend size a a' b b' held held' ea eb not_so = ap (λ x. value_from SignExtend size x (low size b) held) ea
computed_low SelectNonzero size a a' b b' held held' ea eb not_so = absurd (cc not_so)
computed_low op size a a' b b' held held' ea eb not_so =
    ap (λ x. value_from op size x (low size b) held) ea ∙ ap (λ y. value_from op size (low size a') y held) (eb refl)

-- a longword operation on extended longwords gives one
pub record Gives (op : MicroOp) (y x s held : ℕ) : Type 0 where
  pub extended : IsExtended y
  pub value : y % 2 ^ 32 ≡ value_from op Long (x % 2 ^ 32) (s % 2 ^ 32) held

fits : (x : ℕ) → IsExtended x → x < 2 ^ 64
fits x is = subst (λ n. n < 2 ^ 64) is (extended_fits x)

gives : (op : MicroOp) (o : OperateOp) (x s h held : ℕ) → long_operation op ≡ Some o → IsExtended x → IsExtended s → Gives op (result_of o x s h) x s held
gives Add o x s h held e is is' =
    subst (λ o. Gives Add (result_of o x s h) x s held) (same_Some row.Addl o e)
    (record { extended = extended_again (plus x s); value = extended_low (plus x s) ∙ adds.lowers Long x s h held (fits x is) (fits s is') })
gives Sub o x s h held e is is' =
    subst (λ o. Gives Sub (result_of o x s h) x s held) (same_Some row.Subl o e)
    (record { extended = extended_again (minus x s); value = extended_low (minus x s) ∙ subtracts.lowers Long x s h held (fits x is) (fits s is') })
gives And o x s h held e is is' =
    subst (λ o. Gives And (result_of o x s h) x s held) (same_Some row.And o e)
    (record { extended = extended_and x s is is'; value = ands.lowers Long x s h held (fits x is) (fits s is') })
gives Or o x s h held e is is' =
    subst (λ o. Gives Or (result_of o x s h) x s held) (same_Some row.Bis o e)
    (record { extended = extended_or x s is is'; value = ors.lowers Long x s h held (fits x is) (fits s is') })
gives Xor o x s h held e is is' =
    subst (λ o. Gives Xor (result_of o x s h) x s held) (same_Some row.Xor o e)
    (record { extended = extended_xor x s is is'; value = xors.lowers Long x s h held (fits x is) (fits s is') })
gives AndNot o x s h held e is is' =
    subst (λ o. Gives AndNot (result_of o x s h) x s held) (same_Some row.Bic o e)
    (record { extended = extended_and x (inverse s) is (extended_inverse s is'); value = clears.lowers Long x s h held (fits x is) (fits s is') })
gives op o x s h held e is is' = absurd (cc e)

-- what is made is a long operation
pub made_long : (to : ℕ) (op : MicroOp) (o : OperateOp) → made_operation to op ≡ Some o → long_operation op ≡ Some o
made_long to op o e = by (to == 2) op e
  where
    by : (c : Bool) (op : MicroOp) → (if c then long_operation op else sum_operation op) ≡ Some o → long_operation op ≡ Some o
    by true op e = e
    by false Add e = e
    by false Sub e = e
    by false op e = absurd (cc e)

pub few_low : (to : ℕ) → nat_lt to 3 ≡ true → nat_lt to 4 ≡ true
few_low to lt = grind (arith, nat_tests, lt)

-- a comparison tells what it tells of the low longwords
tells : (op : MicroOp) (o : OperateOp) (x s h held : ℕ) → comparison op ≡ Some o → IsExtended x → IsExtended s → result_of o x s h ≡ value_from op Long (x % 2 ^ 32) (s % 2 ^ 32) held
unfolding value_from
tells Equal o x s h held e is is' = subst (λ o. result_of o x s h ≡ value_from Equal Long (x % 2 ^ 32) (s % 2 ^ 32) held) (same_Some row.Cmpeq o e) (ap one_if (sym (extended_equal x s is is')))
tells Less o x s h held e is is' = subst (λ o. result_of o x s h ≡ value_from Less Long (x % 2 ^ 32) (s % 2 ^ 32) held) (same_Some row.Cmplt o e) (ap one_if (sym (extended_less x s is is')))
tells LessUnsigned o x s h held e is is' = subst (λ o. result_of o x s h ≡ value_from LessUnsigned Long (x % 2 ^ 32) (s % 2 ^ 32) held) (same_Some row.Cmpult o e) (ap one_if (sym (extended_below x s is is')))
tells op o x s h held e is is' = absurd (cc e)

-- what is cleared in a number does not depend on the bits above it
cleared : (a r s : ℕ) → a < 2 ^ 32 → r % 2 ^ 32 ≡ s → bit_and a r ≡ bit_and a s
cleared a r s lt same =
    let le = and_le_l a r in
    let below : bit_and a r < 2 ^ 32 = omega (arith, le, lt) in
    sym (mod-eq_of_lt below) ∙ and_mod a r 32 ∙ ap (λ x. bit_and x (r % 2 ^ 32)) (mod-eq_of_lt lt) ∙ ap (λ x. bit_and a x) same

-- of longwords it gives the same at the size at which it is made
same_made : (op : MicroOp) (size : Size) (x y held : ℕ) → made_size op size ≡ Long → x < 2 ^ 32 → y < 2 ^ 32
    → computed op size x y held ≡ value_from op Long (x % 2 ^ 32) (y % 2 ^ 32) held
unfolding value_from
same_made op Byte x y held e lt lt' = absurd (cc e)
same_made op Word x y held e lt lt' = absurd (cc e)
same_made op Long x y held e lt lt' = refl
same_made And Quad x y held e lt lt' =
    let a : x % 2 ^ 64 ≡ x % 2 ^ 32 = omega (arith, lt) in
    let b : y % 2 ^ 64 ≡ y % 2 ^ 32 = omega (arith, lt') in
    ap₂ bit_and a b
same_made Or Quad x y held e lt lt' =
    let a : x % 2 ^ 64 ≡ x % 2 ^ 32 = omega (arith, lt) in
    let b : y % 2 ^ 64 ≡ y % 2 ^ 32 = omega (arith, lt') in
    ap₂ bit_or a b
same_made Xor Quad x y held e lt lt' =
    let a : x % 2 ^ 64 ≡ x % 2 ^ 32 = omega (arith, lt) in
    let b : y % 2 ^ 64 ≡ y % 2 ^ 32 = omega (arith, lt') in
    ap₂ bit_xor a b
same_made AndNot Quad x y held e lt lt' =
    let a : x % 2 ^ 64 ≡ x % 2 ^ 32 = omega (arith, lt) in
    let below : x % 2 ^ 32 < 2 ^ 32 = omega arith in
    let low : (2 ^ 64 - 1 - y % 2 ^ 64) % 2 ^ 32 ≡ 2 ^ 32 - 1 - y % 2 ^ 32 = omega (arith, lt') in
    ap (λ n. bit_and n (2 ^ 64 - 1 - y % 2 ^ 64)) a ∙ cleared (x % 2 ^ 32) (2 ^ 64 - 1 - y % 2 ^ 64) (2 ^ 32 - 1 - y % 2 ^ 32) below low
same_made op Quad x y held e lt lt' = absurd (cc e)

-- it is no copy
never_moved : (op : MicroOp) (o : OperateOp) → comparison op ≡ Some o → is_moved op ≡ false
never_moved Equal o e = refl
never_moved Less o e = refl
never_moved LessUnsigned o e = refl
never_moved op o e = absurd (cc e)

-- ---- words of the form
pub record Joined (homes : Homes) (found : Option OperateOp) (a b : Arg) (to : ℕ) (word : AlphaInstr) : Type 0 where
  pub operation : OperateOp
  pub first : ℕ
  pub second : Second
  pub is_operation : found ≡ Some operation
  pub is_first : extended_first homes a ≡ Some first
  pub is_second : extended_second homes b ≡ Some second
  pub is : word ≡ Operate operation first second to

joined : (homes : Homes) (found : Option OperateOp) (a b : Arg) (to : ℕ) (word : AlphaInstr) → joined_word found (extended_first homes a) (extended_second homes b) to ≡ Some word → Joined homes found a b to word
joined homes found a b to word e = by found refl (extended_first homes a) refl (extended_second homes b) refl e
  where
    by : (o : Option OperateOp) → found ≡ o → (x : Option ℕ) → extended_first homes a ≡ x → (s : Option Second) → extended_second homes b ≡ s → joined_word o x s to ≡ Some word → Joined homes found a b to word
    by (Some o) f (Some x) g (Some s) h e = record { operation = o; first = x; second = s; is_operation = f; is_first = g; is_second = h; is = sym (same_Some (Operate o x s to) word e) }
    by None f x g s h e = absurd (cc e)
    by (Some o) f None g s h e = absurd (cc e)
    by (Some o) f (Some x) g None h e = absurd (cc e)

joined_long : (homes : Homes) (found : Option OperateOp) (size : Size) (a b : Arg) (to : ℕ) (word : AlphaInstr) → one_word found homes size a b to ≡ Some word → (size ≡ Long) × Joined homes found a b to word
joined_long homes found Long a b to word e = (refl, joined homes found a b to word e)
joined_long homes found Byte a b to word e = absurd (cc e)
joined_long homes found Word a b to word e = absurd (cc e)
joined_long homes found Quad a b to word e = absurd (cc e)

-- a constant's word
pub record Literally (to : ℕ) (op : MicroOp) (size : Size) (a : Arg) (word : AlphaInstr) : Type 0 where
  pub few : nat_lt to 3 ≡ true
  pub copies : is_moved op ≡ true
  pub value : ℕ
  pub constant : a ≡ arguments.Const value
  pub small : value < 256
  pub is : word ≡ Operate row.Bis 31 (seconds.Literal value) (21 + to)

pub made_word : (homes : Homes) (to : ℕ) (op : MicroOp) (size : Size) (a b : Arg) (word : AlphaInstr) → made homes to op size a b ≡ Some word
    → Literally to op size a word ⊎ ((nat_lt to 4 ≡ true) × (made_size op size ≡ Long) × Joined homes (made_operation to op) a b (21 + to) word)
made_word homes to op size a b word e = first (nat_lt to 3 && is_moved op) refl e
  where
    by : (c : Bool) → nat_lt to 4 ≡ c → (if c then one_word (made_operation to op) homes (made_size op size) a b (21 + to) else None) ≡ Some word → (nat_lt to 4 ≡ true) × (made_size op size ≡ Long) × Joined homes (made_operation to op) a b (21 + to) word
    by true is e = let s = joined_long homes (made_operation to op) (made_size op size) a b (21 + to) word e in (is, s.0, s.1)
    by false is e = absurd (cc e)

    literal : (a : Arg) → nat_lt to 3 ≡ true → is_moved op ≡ true → literal_word (21 + to) a ≡ Some word → Literally to op size a word
    literal (arguments.Const value) few copies e = small (nat_lt value 256) refl e
      where
        small : (c : Bool) → nat_lt value 256 ≡ c → (if c then Some (Operate row.Bis 31 (seconds.Literal value) (21 + to)) else None) ≡ Some word → Literally to op size (arguments.Const value) word
        small true lt e = record { few = few; copies = copies; value = value; constant = refl; small = ltb-true value 256 lt; is = sym (same_Some (Operate row.Bis 31 (seconds.Literal value) (21 + to)) word e) }
        small false lt e = absurd (cc e)
    literal (arguments.Temp temp) few copies e = absurd (cc e)
    literal (arguments.Register number) few copies e = absurd (cc e)
    literal (arguments.Flag flag) few copies e = absurd (cc e)

    first : (c : Bool) → (nat_lt to 3 && is_moved op) ≡ c → (if c then literal_word (21 + to) a else if nat_lt to 4 then one_word (made_operation to op) homes (made_size op size) a b (21 + to) else None) ≡ Some word
        → Literally to op size a word ⊎ ((nat_lt to 4 ≡ true) × (made_size op size ≡ Long) × Joined homes (made_operation to op) a b (21 + to) word)
    first true is e = let x = and_parts (nat_lt to 3) (is_moved op) is in inl (literal a x.0 x.1 e)
    first false is e = inr (by (nat_lt to 4) refl e)

pub made_operates : (homes : Homes) (to : ℕ) (op : MicroOp) (size : Size) (a b : Arg) (word : AlphaInstr) → made homes to op size a b ≡ Some word → is_operate word ≡ true
made_operates homes to op size a b word e = by (made_word homes to op size a b word e)
  where
    by : Literally to op size a word ⊎ ((nat_lt to 4 ≡ true) × (made_size op size ≡ Long) × Joined homes (made_operation to op) a b (21 + to) word) → is_operate word ≡ true
    by (inl c) = subst (λ (w : AlphaInstr). is_operate w ≡ true) (sym c.is) refl
    by (inr m) = subst (λ (w : AlphaInstr). is_operate w ≡ true) (sym m.2.is) refl

pub compared_operates : (homes : Homes) (to : ℕ) (op : MicroOp) (size : Size) (a b : Arg) (word : AlphaInstr) → compared homes to op size a b ≡ Some word → is_operate word ≡ true
compared_operates homes to op size a b word e = subst (λ (w : AlphaInstr). is_operate w ≡ true) (sym (joined_long homes (comparison op) size a b (21 + to) word e).1.is) refl

-- what is not made is narrow, or its arguments stand exactly
abbrev pub Sized : Homes → Size → (a b : Arg) → Type 0
Sized homes size a b = (is_quad size ≡ false) ⊎ ((is_exact homes a ≡ true) × (is_exact homes b ≡ true))

pub sized_unmade : (homes : Homes) (size : Size) (a b : Arg) (q : Option AlphaInstr) → (not (is_quad size) || is_some q || (is_exact homes a && is_exact homes b)) ≡ true → q ≡ None → Sized homes size a b
sized_unmade homes size a b None either none = by (is_quad size) refl either
  where
    by : (quad : Bool) → is_quad size ≡ quad → (not quad || false || (is_exact homes a && is_exact homes b)) ≡ true → Sized homes size a b
    by false is either = inl is
    by true is either = inr (and_parts (is_exact homes a) (is_exact homes b) either)
sized_unmade homes size a b (Some word) either none = absurd (cc none)

pub compared_word : (homes : Homes) (to : ℕ) (op : MicroOp) (size : Size) (a b : Arg) (word : AlphaInstr) → compared homes to op size a b ≡ Some word → (size ≡ Long) × Joined homes (comparison op) a b (21 + to) word
compared_word homes to op size a b word e = joined_long homes (comparison op) size a b (21 + to) word e

pub copying : (op : MicroOp) (size : Size) → is_copying op size ≡ true → (is_moved op ≡ true) × (size ≡ Long)
copying op Long e = (e, refl)
copying op Byte e = absurd (cc e)
copying op Word e = absurd (cc e)
copying op Quad e = absurd (cc e)

moved_value : (op : MicroOp) (x y held : ℕ) → is_moved op ≡ true → computed op Long x y held ≡ x % 2 ^ 32
unfolding value_from
moved_value Move x y held e = refl
moved_value ZeroExtend x y held e = refl
moved_value op x y held e = absurd (cc e)

-- a literal is itself at each size
literal_value : (op : MicroOp) (size : Size) (x y held : ℕ) → is_moved op ≡ true → x < 256 → computed op size x y held ≡ x
unfolding value_from
literal_value Move Byte x y held e lt = mod-eq_of_lt (omega (arith, lt))
literal_value Move Word x y held e lt = mod-eq_of_lt (omega (arith, lt))
literal_value Move Long x y held e lt = mod-eq_of_lt (omega (arith, lt))
literal_value Move Quad x y held e lt = mod-eq_of_lt (omega (arith, lt))
literal_value ZeroExtend Byte x y held e lt = mod-eq_of_lt (omega (arith, lt))
literal_value ZeroExtend Word x y held e lt = mod-eq_of_lt (omega (arith, lt))
literal_value ZeroExtend Long x y held e lt = mod-eq_of_lt (omega (arith, lt))
literal_value ZeroExtend Quad x y held e lt = mod-eq_of_lt (omega (arith, lt))
literal_value op size x y held e lt = absurd (cc e)

picked : (A : Type 0) (c : Bool) (o : Option A) (r : A) → (if c then o else None) ≡ Some r → (c ≡ true) × (o ≡ Some r)
picked A true o r e = (refl, e)
picked A false o r e = absurd (cc e)

-- ---- where a register is shared
pub not_shared : (homes : Homes) (to : ℕ) → is_shared homes to ≡ false → (temp r : ℕ) → (temp == to) ≡ false → home_of homes temp ≡ Some r → (r == (21 + to)) ≡ false
not_shared homes to none temp r other e = by (temp == 0) refl (temp == 1) refl (temp == 2) refl (temp == 3) refl e
  where
    four : (a b c d : Bool) → (a || b || c || d) ≡ false → (a ≡ false) × (b ≡ false) × (c ≡ false) × (d ≡ false)
    four false false false false e = (refl, refl, refl, refl)
    four true b c d e = absurd (cc e)
    four false true c d e = absurd (cc e)
    four false false true d e = absurd (cc e)
    four false false false true e = absurd (cc e)

    parts : ((not (to == 0) && stands_in homes.first (21 + to)) ≡ false) × ((not (to == 1) && stands_in homes.second (21 + to)) ≡ false) × ((not (to == 2) && stands_in homes.result (21 + to)) ≡ false) × ((not (to == 3) && stands_in homes.place (21 + to)) ≡ false)
    parts = four (not (to == 0) && stands_in homes.first (21 + to)) (not (to == 1) && stands_in homes.second (21 + to)) (not (to == 2) && stands_in homes.result (21 + to)) (not (to == 3) && stands_in homes.place (21 + to)) none

    differs : (k : ℕ) → (temp == k) ≡ true → (to == k) ≡ false
    differs k e = let is = eqb-true temp k e in flip k (subst (λ n. (n == to) ≡ false) is other)
      where
        flip : (k : ℕ) → (k == to) ≡ false → (to == k) ≡ false
        flip k e = grind (arith, nat_tests, e)

    only : (c : Bool) (o : Option ℕ) → c ≡ false → (not c && stands_in o (21 + to)) ≡ false → o ≡ Some r → (r == (21 + to)) ≡ false
    only false o f e is = subst (λ o. stands_in o (21 + to) ≡ false) is e
    only true o f e is = absurd (cc f)

    by : (a : Bool) → (temp == 0) ≡ a → (b : Bool) → (temp == 1) ≡ b → (c : Bool) → (temp == 2) ≡ c → (k : Bool) → (temp == 3) ≡ k
        → (if a then homes.first else if b then homes.second else if c then homes.result else if k then homes.place else None) ≡ Some r → (r == (21 + to)) ≡ false
    by true e b f c g k h is = only (to == 0) homes.first (differs 0 e) parts.0 is
    by false e true f c g k h is = only (to == 1) homes.second (differs 1 f) parts.1 is
    by false e false f true g k h is = only (to == 2) homes.result (differs 2 g) parts.2 is
    by false e false f false g true h is = only (to == 3) homes.place (differs 3 h) parts.3 is
    by false e false f false g false h is = absurd (cc is)

scratch_apart : (homes : Homes) → AreHomes homes → (temp r : ℕ) → home_of homes temp ≡ Some r → (r == 27) ≡ false
scratch_apart homes are temp r e = let lt = (home_is homes are temp r e).0 in grind (arith, nat_tests)

module _ (p : Placement) (site : Site) (known : Known) (homes : Homes) (standing : Standing) (regs : Regs) (d : Direct p site known homes standing regs) where
  abbrev Ready : Arg → Type 0
  Ready a = (flag : ℕ) → flag < 4 → is_flag flag a ≡ true → is_ready (rule_of flag site.before) ≡ true

  abbrev value : Arg → ℕ
  value a = value_of_arg (found p site) standing.temps a

  -- ---- sign-extended registers
  extended_is : (a : Arg) (r : ℕ) → IsArgument a → argument_fits known a ≡ true → extended_register homes a ≡ Some r → IsHome (Some r) × (value a % 2 ^ 32 ≡ regs r % 2 ^ 32) × IsExtended (regs r)
  extended_is (arguments.Temp temp) r is ok e =
      let v = d.values temp r e in (
        home_is homes d.are temp r e,
        (let once : value (arguments.Temp temp) ≡ regs r % 2 ^ 32 = v.0 in again (value (arguments.Temp temp)) (regs r) once),
        v.1,
      )
    where
      again : (x y : ℕ) → x ≡ y % 2 ^ 32 → x % 2 ^ 32 ≡ y % 2 ^ 32
      again x y e = omega arith
  extended_is (arguments.Register number) r is ok e =
      let same = same_Some number r e in
      let v = argument_is p site (hidden homes known) standing regs d.holds (arguments.Register number) is ok (λ flag lt not_so. absurd (cc not_so)) in (
        extended_home homes d.are (arguments.Register number) r is e,
        subst (λ n. value (arguments.Register number) % 2 ^ 32 ≡ regs n % 2 ^ 32) same (again (value (arguments.Register number)) (regs number) (sym v)),
        subst (λ n. IsExtended (regs n)) same (d.holds.form.longwords number is),
      )
    where
      again : (x y : ℕ) → x ≡ y % 2 ^ 32 → x % 2 ^ 32 ≡ y % 2 ^ 32
      again x y e = omega arith
  extended_is (arguments.Flag flag) r is ok e = absurd (cc e)
  extended_is (arguments.Const value) r is ok e = absurd (cc e)

  first_is : (a : Arg) (r : ℕ) → IsArgument a → argument_fits known a ≡ true → extended_first homes a ≡ Some r → (value a % 2 ^ 32 ≡ regs r % 2 ^ 32) × IsExtended (regs r)
  first_is (arguments.Const number) r is ok e =
      let x = picked ℕ (number == 0) (Some 31) r e in
      let zero : regs 31 ≡ 0 = d.holds.form.zero in
      subst (λ n. (number % 2 ^ 32 ≡ regs n % 2 ^ 32) × IsExtended (regs n)) (same_Some 31 r x.1)
      (ap (λ n. n % 2 ^ 32) (eqb-true number 0 x.0 ∙ sym zero), subst IsExtended (sym zero) zero_extended)
  first_is (arguments.Temp temp) r is ok e = let v = extended_is (arguments.Temp temp) r is ok e in (v.1, v.2)
  first_is (arguments.Register number) r is ok e = let v = extended_is (arguments.Register number) r is ok e in (v.1, v.2)
  first_is (arguments.Flag flag) r is ok e = absurd (cc e)

  by_register : (b : Arg) (s : Second) → IsArgument b → argument_fits known b ≡ true → option_map seconds.Register (extended_register homes b) ≡ Some s → (value b % 2 ^ 32 ≡ second_value s regs % 2 ^ 32) × IsExtended (second_value s regs)
  by_register b s is ok e = by (extended_register homes b) refl e
    where
      by : (o : Option ℕ) → extended_register homes b ≡ o → option_map seconds.Register o ≡ Some s → (value b % 2 ^ 32 ≡ second_value s regs % 2 ^ 32) × IsExtended (second_value s regs)
      by None f e = absurd (cc e)
      by (Some r) f e =
          let x = extended_is b r is ok f in
          subst (λ s. (value b % 2 ^ 32 ≡ second_value s regs % 2 ^ 32) × IsExtended (second_value s regs)) (same_Some (seconds.Register r) s e) (x.1, x.2)

  second_is : (b : Arg) (s : Second) → IsArgument b → argument_fits known b ≡ true → extended_second homes b ≡ Some s → (value b % 2 ^ 32 ≡ second_value s regs % 2 ^ 32) × IsExtended (second_value s regs)
  second_is (arguments.Const number) s is ok e = by (nat_lt number 256) refl e
    where
      by : (c : Bool) → nat_lt number 256 ≡ c → (if c then Some (seconds.Literal number) else None) ≡ Some s → (number % 2 ^ 32 ≡ second_value s regs % 2 ^ 32) × IsExtended (second_value s regs)
      by true lt e =
          let same = same_Some (seconds.Literal number) s e in
          let small = ltb-true number 256 lt in
          subst (λ s. (number % 2 ^ 32 ≡ second_value s regs % 2 ^ 32) × IsExtended (second_value s regs)) same (refl, extended_small number (omega arith))
      by false lt e = absurd (cc e)
  second_is (arguments.Temp temp) s is ok e = by_register (arguments.Temp temp) s is ok e
  second_is (arguments.Register number) s is ok e = by_register (arguments.Register number) s is ok e
  second_is (arguments.Flag flag) s is ok e = absurd (cc e)

  -- ---- and longwords
  register_below : (a : Arg) (r : ℕ) → IsArgument a → argument_fits known a ≡ true → extended_register homes a ≡ Some r → value a < 2 ^ 32
  register_below (arguments.Temp temp) r is ok e = let v = d.values temp r e in below (value (arguments.Temp temp)) (regs r) v.0
    where
      below : (x y : ℕ) → x ≡ y % 2 ^ 32 → x < 2 ^ 32
      below x y e = omega arith
  register_below (arguments.Register number) r is ok e =
      let v = argument_is p site (hidden homes known) standing regs d.holds (arguments.Register number) is ok (λ flag lt not_so. absurd (cc not_so)) in
      below (value (arguments.Register number)) (regs number) (sym v)
    where
      below : (x y : ℕ) → x ≡ y % 2 ^ 32 → x < 2 ^ 32
      below x y e = omega arith
  register_below (arguments.Flag flag) r is ok e = absurd (cc e)
  register_below (arguments.Const value) r is ok e = absurd (cc e)

  first_below : (a : Arg) (r : ℕ) → IsArgument a → argument_fits known a ≡ true → extended_first homes a ≡ Some r → value a < 2 ^ 32
  first_below (arguments.Const number) r is ok e =
      let x = picked ℕ (number == 0) (Some 31) r e in
      let zero = eqb-true number 0 x.0 in
      omega (arith, zero)
  first_below (arguments.Temp temp) r is ok e = register_below (arguments.Temp temp) r is ok e
  first_below (arguments.Register number) r is ok e = register_below (arguments.Register number) r is ok e
  first_below (arguments.Flag flag) r is ok e = absurd (cc e)

  second_register_below : (b : Arg) (s : Second) → IsArgument b → argument_fits known b ≡ true → option_map seconds.Register (extended_register homes b) ≡ Some s → value b < 2 ^ 32
  second_register_below b s is ok e = by (extended_register homes b) refl e
    where
      by : (o : Option ℕ) → extended_register homes b ≡ o → option_map seconds.Register o ≡ Some s → value b < 2 ^ 32
      by None f e = absurd (cc e)
      by (Some r) f e = register_below b r is ok f

  second_below : (b : Arg) (s : Second) → IsArgument b → argument_fits known b ≡ true → extended_second homes b ≡ Some s → value b < 2 ^ 32
  second_below (arguments.Const number) s is ok e = by (nat_lt number 256) refl e
    where
      by : (c : Bool) → nat_lt number 256 ≡ c → (if c then Some (seconds.Literal number) else None) ≡ Some s → number < 2 ^ 32
      by true lt e = let small = ltb-true number 256 lt in omega (arith, small)
      by false lt e = absurd (cc e)
  second_below (arguments.Temp temp) s is ok e = second_register_below (arguments.Temp temp) s is ok e
  second_below (arguments.Register number) s is ok e = second_register_below (arguments.Register number) s is ok e
  second_below (arguments.Flag flag) s is ok e = absurd (cc e)

  -- ---- what a computation leaves
  abbrev After : (to : ℕ) → MicroOp → Size → (a b : Arg) → Regs → Type 0
  After to op size a b g =
      Direct p site (behind_write to (holding_of (leaves_longword (Compute to op size a b))) known) (with_home to (new_home homes to op size a b) homes)
      (with_value to (computed op size (value a) (value b) (standing.temps to)) standing) g

  -- a copy
  copies : (to : ℕ) (op : MicroOp) (size : Size) (a b : Arg) (r : ℕ) → IsArgument a → argument_fits known a ≡ true → copied homes to op size a ≡ Some r → After to op size a b regs
  copies to op size a b r is ok e =
      let x = picked ℕ (nat_lt to 4 && is_copying op size) (extended_register homes a) r e in
      let y = and_parts (nat_lt to 4) (is_copying op size) x.0 in
      let c = copying op size y.1 in
      let v = extended_is a r is ok x.1 in
      let low_value : computed op size (value a) (value b) (standing.temps to) ≡ regs r % 2 ^ 32 =
      ap (λ size. computed op size (value a) (value b) (standing.temps to)) c.1 ∙ (moved_value op (value a) (value b) (standing.temps to) c.0 ∙ v.1) in
      subst (λ o. Direct p site (behind_write to (holding_of (leaves_longword (Compute to op size a b))) known) (with_home to o homes) (with_value to (computed op size (value a) (value b) (standing.temps to)) standing) regs)
      (sym (ap (λ o. home_by o (made homes to op size a b) (is_short_constant to op size a) to) e))
      (written p site known homes (Some r) (holding_of (leaves_longword (Compute to op size a b))) to (computed op size (value a) (value b) (standing.temps to)) standing regs regs
      (λ n kept. refl) refl (λ temp lt other. refl)
      (λ none lt. let some = home_self to (Some r) homes y.0 in absurd (cc (sym none ∙ some)))
      v.0 (λ q same. subst (λ n. (computed op size (value a) (value b) (standing.temps to) ≡ regs n % 2 ^ 32) × IsExtended (regs n)) (same_Some r q same) (low_value, v.2))
      (λ temp q other home. refl) d)

  -- one word
  makes : (to : ℕ) (op : MicroOp) (size : Size) (a b : Arg) (word : AlphaInstr) → IsArgument a → argument_fits known a ≡ true → IsArgument b → argument_fits known b ≡ true
      → copied homes to op size a ≡ None → made homes to op size a b ≡ Some word → (nat_lt to 4 ≡ true) × (made_size op size ≡ Long) × Joined homes (made_operation to op) a b (21 + to) word → is_shared homes to ≡ false → After to op size a b (effect word regs)
  makes to op size a b word is ok is' ok' none e m alone =
      let j = m.2 in
      subst (λ (w : AlphaInstr). After to op size a b (effect w regs)) (sym j.is) (by j.operation j.first j.second m.1 (made_long to op j.operation j.is_operation) j.is_first j.is_second)
    where
      low : to < 4
      low = ltb-true to 4 m.0

      own_apart : (temp : ℕ) → (temp == to) ≡ false → ((21 + temp) == (21 + to)) ≡ false
      own_apart temp e = grind (arith, nat_tests, e)

      kept_own : (n : ℕ) → to < 4 → is_kept n ≡ true → (n == (21 + to)) ≡ false
      kept_own n lt e = grind (arith, nat_tests, e)

      not_zero : to < 4 → (31 == (21 + to)) ≡ false
      not_zero lt = grind (arith, nat_tests)

      not_last : to < 4 → ((21 + to) == 31) ≡ false
      not_last lt = grind (arith, nat_tests)

      by : (o : OperateOp) (x : ℕ) (s : Second) → made_size op size ≡ Long → long_operation op ≡ Some o → extended_first homes a ≡ Some x → extended_second homes b ≡ Some s
          → After to op size a b (put regs (21 + to) (result_of o (regs x) (second_value s regs) (regs (21 + to))))
      by o x s longword is_o is_x is_s =
          let y = result_of o (regs x) (second_value s regs) (regs (21 + to)) in
          let v = first_is a x is ok is_x in
          let w = second_is b s is' ok' is_s in
          let g = gives op o (regs x) (second_value s regs) (regs (21 + to)) (standing.temps to) is_o v.1 w.1 in
          let there : put regs (21 + to) (result_of o (regs x) (second_value s regs) (regs (21 + to))) (21 + to) ≡ result_of o (regs x) (second_value s regs) (regs (21 + to)) =
          put_same regs (21 + to) (result_of o (regs x) (second_value s regs) (regs (21 + to))) (not_last low) in
          let result : computed op size (value a) (value b) (standing.temps to) ≡ result_of o (regs x) (second_value s regs) (regs (21 + to)) % 2 ^ 32 =
          same_made op size (value a) (value b) (standing.temps to) longword (first_below a x is ok is_x) (second_below b s is' ok' is_s)
          ∙ (ap (λ n. value_from op Long n (value b % 2 ^ 32) (standing.temps to)) v.0
          ∙ (ap (λ n. value_from op Long (regs x % 2 ^ 32) n (standing.temps to)) w.0 ∙ sym g.value)) in
          let home : home_by (copied homes to op size a) (made homes to op size a b) (is_short_constant to op size a) to ≡ Some (21 + to) =
          ap (λ o. home_by o (made homes to op size a b) (is_short_constant to op size a) to) none
          ∙ ap (λ o. home_by None o (is_short_constant to op size a) to) e in
          subst (λ o. Direct p site (behind_write to (holding_of (leaves_longword (Compute to op size a b))) known) (with_home to o homes) (with_value to (computed op size (value a) (value b) (standing.temps to)) standing) (put regs (21 + to) y))
          (sym home)
          (written p site known homes (Some (21 + to)) (holding_of (leaves_longword (Compute to op size a b))) to (computed op size (value a) (value b) (standing.temps to)) standing regs (put regs (21 + to) y)
          (λ n kept. put_other regs (21 + to) y n (kept_own n low kept)) (put_other regs (21 + to) y 31 (not_zero low))
          (λ temp lt other. put_other regs (21 + to) y (21 + temp) (own_apart temp other))
          (λ free lt. let some = home_self to (Some (21 + to)) homes m.0 in absurd (cc (sym free ∙ some)))
          (omega (arith, low), λ not_so. omega arith)
          (λ q same. subst (λ n. (computed op size (value a) (value b) (standing.temps to) ≡ put regs (21 + to) y n % 2 ^ 32) × IsExtended (put regs (21 + to) y n)) (same_Some (21 + to) q same)
          (result ∙ ap (λ n. n % 2 ^ 32) (sym there), subst IsExtended (sym there) g.extended))
          (λ temp q other home. put_other regs (21 + to) y q (not_shared homes to alone temp q other home)) d)

  -- a constant
  loads : (to : ℕ) (op : MicroOp) (size : Size) (a b : Arg) (word : AlphaInstr) → copied homes to op size a ≡ None → made homes to op size a b ≡ Some word → Literally to op size a word → is_shared homes to ≡ false → After to op size a b (effect word regs)
  loads to op size a b word none e c alone =
      subst (λ (w : AlphaInstr). After to op size a b (effect w regs)) (sym c.is)
      (subst (λ o. Direct p site (behind_write to (holding_of (leaves_longword (Compute to op size a b))) known) (with_home to o homes) (with_value to (computed op size (value a) (value b) (standing.temps to)) standing) (put regs (21 + to) (bit_or (regs 31) c.value)))
      (sym (ap (λ o. home_by o (made homes to op size a b) (is_short_constant to op size a) to) none ∙ ap (λ o. home_by None o (is_short_constant to op size a) to) e))
      (written p site known homes (Some (21 + to)) (holding_of (leaves_longword (Compute to op size a b))) to (computed op size (value a) (value b) (standing.temps to)) standing regs (put regs (21 + to) (bit_or (regs 31) c.value))
      (λ n kept. put_other regs (21 + to) (bit_or (regs 31) c.value) n (own_kept n few kept)) (put_other regs (21 + to) (bit_or (regs 31) c.value) 31 (zero_apart_to few))
      (λ temp lt other. put_other regs (21 + to) (bit_or (regs 31) c.value) (21 + temp) (apart temp other))
      (λ free lt. let some = home_self to (Some (21 + to)) homes (few_low to c.few) in absurd (cc (sym free ∙ some)))
      (omega (arith, few), λ not_so. omega arith)
      (λ q same. subst (λ n. (computed op size (value a) (value b) (standing.temps to) ≡ put regs (21 + to) (bit_or (regs 31) c.value) n % 2 ^ 32) × IsExtended (put regs (21 + to) (bit_or (regs 31) c.value) n)) (same_Some (21 + to) q same)
      (is_value ∙ (sym low ∙ ap (λ n. n % 2 ^ 32) (sym there)), subst IsExtended (sym there) (extended_small c.value (let lt = c.small in omega arith))))
      (λ temp q other home. put_other regs (21 + to) (bit_or (regs 31) c.value) q (not_shared homes to alone temp q other home)) d))
    where
      few : to < 3
      few = ltb-true to 3 c.few

      own_kept : (n : ℕ) → to < 3 → is_kept n ≡ true → (n == (21 + to)) ≡ false
      own_kept n lt e = grind (arith, nat_tests, e)

      zero_apart_to : to < 3 → (31 == (21 + to)) ≡ false
      zero_apart_to lt = grind (arith, nat_tests)

      apart : (temp : ℕ) → (temp == to) ≡ false → ((21 + temp) == (21 + to)) ≡ false
      apart temp e = grind (arith, nat_tests, e)

      there : put regs (21 + to) (bit_or (regs 31) c.value) (21 + to) ≡ c.value
      there = put_same regs (21 + to) (bit_or (regs 31) c.value) (last few) ∙ (ap (λ n. bit_or n c.value) d.holds.form.zero ∙ or_zero_l c.value)
        where
          last : to < 3 → ((21 + to) == 31) ≡ false
          last lt = grind (arith, nat_tests)

      low : c.value % 2 ^ 32 ≡ c.value
      low = let lt = c.small in mod-eq_of_lt (omega arith)

      is_value : computed op size (value a) (value b) (standing.temps to) ≡ c.value
      is_value =
          ap (λ a. computed op size (value a) (value b) (standing.temps to)) c.constant
          ∙ literal_value op size c.value (value b) (standing.temps to) c.copies c.small

  -- a comparison
  compares : (to : ℕ) (op : MicroOp) (size : Size) (a b : Arg) (word : AlphaInstr) → IsTarget (holder to) → IsArgument a → argument_fits known a ≡ true → IsArgument b → argument_fits known b ≡ true
      → copied homes to op size a ≡ None → made homes to op size a b ≡ None → compared homes to op size a b ≡ Some word → is_shared homes to ≡ false → After to op size a b (effect word regs)
  compares to op size a b word target is ok is' ok' none none' e alone =
      let m = compared_word homes to op size a b word e in
      let j = m.1 in
      subst (λ (w : AlphaInstr). After to op size a b (effect w regs)) (sym j.is) (by j.operation j.first j.second m.0 j.is_operation j.is_first j.is_second)
    where
      low_to : 21 ≤ 21 + to
      low_to = target.low

      high_to : 21 + to ≤ 26
      high_to = target.high

      own_apart : (temp : ℕ) → (temp == to) ≡ false → ((21 + temp) == (21 + to)) ≡ false
      own_apart temp e = grind (arith, nat_tests, e)

      kept_own : (n : ℕ) → 21 + to ≤ 26 → is_kept n ≡ true → (n == (21 + to)) ≡ false
      kept_own n high e = grind (arith, nat_tests, e)

      not_zero : (n : ℕ) → n ≤ 26 → (31 == n) ≡ false
      not_zero n high = grind (arith, nat_tests)

      not_last : (n : ℕ) → n ≤ 26 → (n == 31) ≡ false
      not_last n high = grind (arith, nat_tests)

      constant : (c d : Bool) → ((c && false) && d) ≡ false
      constant true d = refl
      constant false d = refl

      by : (o : OperateOp) (x : ℕ) (s : Second) → size ≡ Long → comparison op ≡ Some o → extended_first homes a ≡ Some x → extended_second homes b ≡ Some s
          → After to op size a b (put regs (21 + to) (result_of o (regs x) (second_value s regs) (regs (21 + to))))
      by o x s longword is_o is_x is_s =
          let y = result_of o (regs x) (second_value s regs) (regs (21 + to)) in
          let v = first_is a x is ok is_x in
          let w = second_is b s is' ok' is_s in
          let result : result_of o (regs x) (second_value s regs) (regs (21 + to)) ≡ computed op size (value a) (value b) (standing.temps to) =
          tells op o (regs x) (second_value s regs) (regs (21 + to)) (standing.temps to) is_o v.1 w.1
          ∙ (ap (λ n. value_from op Long n (second_value s regs % 2 ^ 32) (standing.temps to)) (sym v.0)
          ∙ (ap (λ n. value_from op Long (value a % 2 ^ 32) n (standing.temps to)) (sym w.0)
          ∙ ap (λ size. computed op size (value a) (value b) (standing.temps to)) (sym longword))) in
          let unmoved : is_copying op Long ≡ false = never_moved op o is_o in
          let plain_one : is_short_constant to op size a ≡ false =
          ap (λ size. is_short_constant to op size a) longword
          ∙ (ap (λ c. nat_lt to 3 && c && is_constant (is_short Long) a) unmoved ∙ constant (nat_lt to 3) (is_constant (is_short Long) a)) in
          let home : home_by (copied homes to op size a) (made homes to op size a b) (is_short_constant to op size a) to ≡ None =
          ap (λ o. home_by o (made homes to op size a b) (is_short_constant to op size a) to) none
          ∙ (ap (λ o. home_by None o (is_short_constant to op size a) to) none' ∙ ap (λ c. home_by None None c to) plain_one) in
          subst (λ o. Direct p site (behind_write to (holding_of (leaves_longword (Compute to op size a b))) known) (with_home to o homes) (with_value to (computed op size (value a) (value b) (standing.temps to)) standing) (put regs (21 + to) y))
          (sym home)
          (written p site known homes None (holding_of (leaves_longword (Compute to op size a b))) to (computed op size (value a) (value b) (standing.temps to)) standing regs (put regs (21 + to) y)
          (λ n kept. put_other regs (21 + to) y n (kept_own n high_to kept)) (put_other regs (21 + to) y 31 (not_zero (21 + to) high_to))
          (λ temp lt other. put_other regs (21 + to) y (21 + temp) (own_apart temp other))
          (λ free lt. computed_holds op to size a b (value a) (value b) (standing.temps to) (put regs (21 + to) y (21 + to)) (put_same regs (21 + to) y (not_last (21 + to) high_to) ∙ result))
          tt (λ q some. absurd (cc some))
          (λ temp q other home. put_other regs (21 + to) y q (not_shared homes to alone temp q other home)) d)

  -- the words of a computation
  constant_value : (op : MicroOp) (size : Size) (a b : Arg) (x held : ℕ) → is_copying op size ≡ true → is_constant (is_short Long) a ≡ true → computed op size (value_at regs a) x held < 2 ^ 15
  constant_value op size (arguments.Const number) b x held moves short =
      let c = copying op size moves in
      let small = and_parts (nat_lt number (limit_of Long)) (nat_lt number (2 ^ 15)) short in
      let lt = ltb-true number (2 ^ 15) small.1 in
      let same : computed op size number x held ≡ number % 2 ^ 32 = ap (λ size. computed op size number x held) c.1 ∙ moved_value op number x held c.0 in
      subst (λ n. n < 2 ^ 15) (sym same) (omega arith)
  constant_value op size (arguments.Temp temp) b x held moves short = absurd (cc short)
  constant_value op size (arguments.Register number) b x held moves short = absurd (cc short)
  constant_value op size (arguments.Flag flag) b x held moves short = absurd (cc short)

  pub computes_words : (to : ℕ) (op : MicroOp) (size : Size) (a b : Arg) (g : Regs) → IsTarget (holder to) → IsArgument a → argument_fits known a ≡ true → Ready a
      → (is_unary op ≡ false → IsArgument b × (argument_fits known b ≡ true) × Ready b) → Sized homes size a b → is_select op ≡ false → is_shared homes to ≡ false
      → copied homes to op size a ≡ None → made homes to op size a b ≡ None
      → (done : Unit {0}) → Leaves (IsComputed op size (placed homes a) (placed homes b) (holder to) regs) (holder to) regs done g → After to op size a b g
  computes_words to op size a b g target is ok ready second narrow unselected alone none none' done l =
      subst (λ o. Direct p site (behind_write to (holding_of (leaves_longword (Compute to op size a b))) known) (with_home to o homes) (with_value to (computed op size (value a) (value b) (standing.temps to)) standing) g)
      (sym (ap (λ o. home_by o (made homes to op size a b) (is_short_constant to op size a) to) none ∙ ap (λ o. home_by None o (is_short_constant to op size a) to) none'))
      (by (is_short_constant to op size a) refl)
    where
      low_to : 21 ≤ 21 + to
      low_to = target.low

      high_to : 21 + to ≤ 26
      high_to = target.high

      is_value : g (21 + to) ≡ (computed op size (value a) (value b) (standing.temps to))
      is_value =
          l.holds
          ∙ computed_low op size (value_at regs (placed homes a)) (value a) (value_at regs (placed homes b)) (value b) (regs (21 + to)) (standing.temps to)
          (first_low narrow) (λ two. let x = second two in second_low x.0 x.1 x.2 narrow)
          unselected
        where
          first_low : Sized homes size a b → low size (value_at regs (placed homes a)) ≡ low size (value a)
          first_low (inl narrow) = low_from size (value_at regs (placed homes a)) (value a) narrow (placed_value p site known homes standing regs d a is ok ready)
          first_low (inr exact) = ap (low size) (placed_exact p site known homes standing regs d a is ok ready exact.0)

          second_low : IsArgument b → argument_fits known b ≡ true → Ready b → Sized homes size a b → low size (value_at regs (placed homes b)) ≡ low size (value b)
          second_low is' ok' ready' (inl narrow) = low_from size (value_at regs (placed homes b)) (value b) narrow (placed_value p site known homes standing regs d b is' ok' ready')
          second_low is' ok' ready' (inr exact) = ap (low size) (placed_exact p site known homes standing regs d b is' ok' ready' exact.1)

      scratch : (r : ℕ) → (r == 27) ≡ false → (r == (21 + to)) ≡ false → may_change (21 + to) r ≡ false
      scratch r e f = rw (f, e) refl

      homed : (home : Option ℕ) → IsHome home → ((r : ℕ) → home ≡ Some r → ((computed op size (value a) (value b) (standing.temps to)) ≡ g r % 2 ^ 32) × IsExtended (g r))
          → Direct p site (behind_write to (holding_of (leaves_longword (Compute to op size a b))) known) (with_home to home homes) (with_value to (computed op size (value a) (value b) (standing.temps to)) standing) g
      homed home home_fits there =
          written p site known homes home (holding_of (leaves_longword (Compute to op size a b))) to (computed op size (value a) (value b) (standing.temps to)) standing regs g
          (λ n kept. l.only n (kept_apart (21 + to) n low_to high_to kept)) (l.only 31 (zero_apart (21 + to) low_to high_to))
          (λ temp lt other. l.only (21 + temp) (temp_apart to temp lt other))
          (λ free lt. computed_holds op to size a b (value a) (value b) (standing.temps to) (g (21 + to)) is_value)
          home_fits there
          (λ temp r other home. l.only r (scratch r (scratch_apart homes d.are temp r home) (not_shared homes to alone temp r other home))) d

      by : (c : Bool) → is_short_constant to op size a ≡ c → Direct p site (behind_write to (holding_of (leaves_longword (Compute to op size a b))) known) (with_home to (if c then Some (21 + to) else None) homes) (with_value to (computed op size (value a) (value b) (standing.temps to)) standing) g
      by false e = homed None tt (λ r same. absurd (cc same))
      by true e =
          let x = all_three (nat_lt to 3) (is_copying op size) (is_constant (is_short Long) a) e in
          let small : (computed op size (value a) (value b) (standing.temps to)) < 2 ^ 15 = constant_is x.1 x.2 in
          let few = ltb-true to 3 x.0 in
          let fits : (computed op size (value a) (value b) (standing.temps to)) % 2 ^ 32 ≡ (computed op size (value a) (value b) (standing.temps to)) = mod-eq_of_lt (omega arith) in
          homed (Some (21 + to)) (omega arith, λ not_so. omega arith)
          (λ r same. subst (λ n. ((computed op size (value a) (value b) (standing.temps to)) ≡ g n % 2 ^ 32) × IsExtended (g n)) (same_Some (21 + to) r same)
          (sym fits ∙ ap (λ n. n % 2 ^ 32) (sym is_value), subst IsExtended (sym is_value) (extended_small (computed op size (value a) (value b) (standing.temps to)) (omega arith))))
        where
          constant_is : is_copying op size ≡ true → is_constant (is_short Long) a ≡ true → (computed op size (value a) (value b) (standing.temps to)) < 2 ^ 15
          constant_is moves short = of a refl short
            where
              of : (a' : Arg) → a ≡ a' → is_constant (is_short Long) a' ≡ true → (computed op size (value a) (value b) (standing.temps to)) < 2 ^ 15
              of (arguments.Const number) same short =
                  subst (λ n. computed op size n (value b) (standing.temps to) < 2 ^ 15) (sym (ap (λ x. value x) same)) (constant_value op size (arguments.Const number) b (value b) (standing.temps to) moves short)
              of (arguments.Temp temp) same short = absurd (cc short)
              of (arguments.Register number) same short = absurd (cc short)
              of (arguments.Flag flag) same short = absurd (cc short)

  binary : (op : MicroOp) (o : OperateOp) → long_operation op ≡ Some o → is_unary op ≡ false
  binary Move o e = absurd (cc e)
  binary SignExtend o e = absurd (cc e)
  binary ZeroExtend o e = absurd (cc e)
  binary op o e = refl

  two_compared : (op : MicroOp) (o : OperateOp) → comparison op ≡ Some o → is_unary op ≡ false
  two_compared Move o e = absurd (cc e)
  two_compared SignExtend o e = absurd (cc e)
  two_compared ZeroExtend o e = absurd (cc e)
  two_compared op o e = refl

  right : (u f : Bool) → u ≡ false → (u || f) ≡ true → f ≡ true
  right true f e h = absurd (cc e)
  right false f e h = h

  takes_by : (first second unary : Bool) → first ≡ true → (first || (not unary && second)) ≡ true
  takes_by true second unary e = refl
  takes_by false second unary e = absurd (cc e)

  takes_other : (first second unary : Bool) → unary ≡ false → second ≡ true → (first || (not unary && second)) ≡ true
  takes_other true second unary u e = refl
  takes_other false true false u e = refl
  takes_other false false unary u e = absurd (cc e)
  takes_other false true true u e = absurd (cc u)

  -- What a computation leaves that is given its value: any registers that are the same, but for its own.
  pub given : (to : ℕ) (op : MicroOp) (size : Size) (a b : Arg) → computation_fits known to op a b ≡ true → IsTarget (holder to) → IsArgument a → (is_unary op ≡ false → IsArgument b)
      → ((flag : ℕ) → flag < 4 → takes (is_flag flag) op a b ≡ true → is_ready (rule_of flag site.before) ≡ true) → is_direct homes to op size a b ≡ true
      → is_quad size ≡ false → is_select op ≡ false → copied homes to op size a ≡ None → made homes to op size a b ≡ None
      → After to op size a b (put regs (21 + to) (computed op size (value_at regs (placed homes a)) (value_at regs (placed homes b)) (regs (21 + to))))
  given to op size a b ok target a_is b_is ready direct narrow unselected uncopied unmade =
      let x = all_four (nat_lt to 64) (argument_fits known a) (is_unary op || argument_fits known b) (not (is_select op) || holds known to) ok in
      let y = all_three (is_sized homes to op size a b) (not (is_select op)) (not (is_shared homes to)) direct in
      let low = target.low in
      let high = target.high in
      let last : ((21 + to) == 31) ≡ false = grind (arith, nat_tests) in
      computes_words to op size a b (put regs (21 + to) (computed op size (value_at regs (placed homes a)) (value_at regs (placed homes b)) (regs (21 + to)))) target a_is x.1
      (λ flag lt e. ready flag lt (takes_by (is_flag flag a) (is_flag flag b) (is_unary op) e))
      (λ two. (b_is two, right (is_unary op) (argument_fits known b) two x.2, λ flag lt e. ready flag lt (takes_other (is_flag flag a) (is_flag flag b) (is_unary op) two e)))
      (inl narrow) unselected (not-true (is_shared homes to) y.2) uncopied unmade tt
      (record {
        holds = put_same regs (21 + to) (computed op size (value_at regs (placed homes a)) (value_at regs (placed homes b)) (regs (21 + to))) last;
        only = λ n out. put_other regs (21 + to) (computed op size (value_at regs (placed homes a)) (value_at regs (placed homes b)) (regs (21 + to))) n (first_of (n == (21 + to)) (n == 27) out);
      })
    where
      first_of : (a b : Bool) → (a || b) ≡ false → a ≡ false
      first_of false b e = refl
      first_of true b e = absurd (cc e)

  -- a copy, and a word that makes the result
  pub copies_then : (to : ℕ) (op : MicroOp) (size : Size) (a b : Arg) (r : ℕ) → computation_fits known to op a b ≡ true → IsArgument a → copied homes to op size a ≡ Some r → After to op size a b regs
  copies_then to op size a b r ok a_is e =
      let x = all_four (nat_lt to 64) (argument_fits known a) (is_unary op || argument_fits known b) (not (is_select op) || holds known to) ok in
      copies to op size a b r a_is x.1 e

  pub makes_then : (to : ℕ) (op : MicroOp) (size : Size) (a b : Arg) (word : AlphaInstr) → computation_fits known to op a b ≡ true → IsArgument a → (is_unary op ≡ false → IsArgument b) → is_direct homes to op size a b ≡ true
      → copied homes to op size a ≡ None → made homes to op size a b ≡ Some word → After to op size a b (effect word regs)
  makes_then to op size a b word ok a_is b_is direct none e =
      let x = all_four (nat_lt to 64) (argument_fits known a) (is_unary op || argument_fits known b) (not (is_select op) || holds known to) ok in
      let y = all_three (is_sized homes to op size a b) (not (is_select op)) (not (is_shared homes to)) direct in
      by (made_word homes to op size a b word e) (not-true (is_shared homes to) y.2) x.1 x.2
    where
      by : Literally to op size a word ⊎ ((nat_lt to 4 ≡ true) × (made_size op size ≡ Long) × Joined homes (made_operation to op) a b (21 + to) word) → is_shared homes to ≡ false → argument_fits known a ≡ true → (is_unary op || argument_fits known b) ≡ true → After to op size a b (effect word regs)
      by (inl c) alone a_fits b_fits = loads to op size a b word none e c alone
      by (inr m) alone a_fits b_fits =
          let two = binary op m.2.operation (made_long to op m.2.operation m.2.is_operation) in
          makes to op size a b word a_is a_fits (b_is two) (right (is_unary op) (argument_fits known b) two b_fits) none e m alone

  pub compares_then : (to : ℕ) (op : MicroOp) (size : Size) (a b : Arg) (word : AlphaInstr) → computation_fits known to op a b ≡ true → IsTarget (holder to) → IsArgument a → (is_unary op ≡ false → IsArgument b) → is_direct homes to op size a b ≡ true
      → copied homes to op size a ≡ None → made homes to op size a b ≡ None → compared homes to op size a b ≡ Some word → After to op size a b (effect word regs)
  compares_then to op size a b word ok target a_is b_is direct none unmade e =
      let x = all_four (nat_lt to 64) (argument_fits known a) (is_unary op || argument_fits known b) (not (is_select op) || holds known to) ok in
      let y = all_three (is_sized homes to op size a b) (not (is_select op)) (not (is_shared homes to)) direct in
      let m = compared_word homes to op size a b word e in
      let two = two_compared op m.1.operation m.1.is_operation in
      compares to op size a b word target a_is x.1 (b_is two) (right (is_unary op) (argument_fits known b) two x.2) none unmade e (not-true (is_shared homes to) y.2)

  -- one word of its own, or registers that are the same behind it
  pub one_computes : (to : ℕ) (op : MicroOp) (size : Size) (a b : Arg) (word : AlphaInstr) (g : Regs)
      → computation_fits known to op a b ≡ true → IsTarget (holder to) → IsArgument a → (is_unary op ≡ false → IsArgument b)
      → ((flag : ℕ) → flag < 4 → takes (is_flag flag) op a b ≡ true → is_ready (rule_of flag site.before) ≡ true)
      → is_direct homes to op size a b ≡ true → copied homes to op size a ≡ None → made homes to op size a b ≡ None
      → compute_code op size (placed homes a) (placed homes b) (holder to) ≡ word ∷ [] → is_operate word ≡ true → ((n : ℕ) → g n ≡ effect word regs n) → After to op size a b g
  one_computes to op size a b word g ok target a_is b_is ready direct none none' code operate same =
      let x = all_four (nat_lt to 64) (argument_fits known a) (is_unary op || argument_fits known b) (not (is_select op) || holds known to) ok in
      let y = all_three (is_sized homes to op size a b) (not (is_select op)) (not (is_shared homes to)) direct in
      let unselected = not-true (is_select op) y.1 in
      let b_fits : is_unary op ≡ false → argument_fits known b ≡ true = λ two. right (is_unary op) (argument_fits known b) two x.2 in
      let law = leaves_computed (placed homes a) (placed homes b) (21 + to) (placed_is homes d.are a a_is) target op size (λ two. placed_is homes d.are b (b_is two)) regs
      (record {
        zero = d.holds.form.zero;
        first = placed_fits p site known homes standing regs d a a_is x.1;
        second = λ two. placed_fits p site known homes standing regs d b (b_is two) (b_fits two);
        held = λ is_so. let both : false ≡ true = sym unselected ∙ is_so in absurd (cc both);
      }) in
      let l = one_leaves (IsComputed op size (placed homes a) (placed homes b) (21 + to) regs) (21 + to) word regs operate
      (subst (λ (words : List AlphaInstr). LeavesAt (IsComputed op size (placed homes a) (placed homes b) (21 + to) regs) (21 + to) words regs) code law) in
      computes_words to op size a b g target a_is x.1
      (λ flag lt e. ready flag lt (takes_by (is_flag flag a) (is_flag flag b) (is_unary op) e))
      (λ two. (b_is two, b_fits two, λ flag lt e. ready flag lt (takes_other (is_flag flag a) (is_flag flag b) (is_unary op) two e)))
      (sized_unmade homes size a b (made homes to op size a b) y.0 none') unselected (not-true (is_shared homes to) y.2) none none' tt
      (record { holds = same (21 + to) ∙ l.holds; only = λ n out. same n ∙ l.only n out })

  -- the words of a computation, and then what comes behind
  pub computes : (need pc to : ℕ) (op : MicroOp) (size : Size) (a b : Arg) (rest : List Line) (t : Tree)
      → Within p site.behind pc (map plain (direct_code homes to op size a b) ++ rest) → 1 ≤ length rest
      → computation_fits known to op a b ≡ true → IsTarget (holder to) → IsArgument a → (is_unary op ≡ false → IsArgument b)
      → ((flag : ℕ) → flag < 4 → takes (is_flag flag) op a b ≡ true → is_ready (rule_of flag site.before) ≡ true)
      → is_direct homes to op size a b ≡ true
      → ((g : Regs) → After to op size a b g → Always p None need (at_place g (pc + length (direct_code homes to op size a b))) t)
      → Always p None (length (direct_code homes to op size a b) + need) (at_place regs pc) t
  computes need pc to op size a b rest t w some ok target a_is b_is ready direct behind =
      let x = all_four (nat_lt to 64) (argument_fits known a) (is_unary op || argument_fits known b) (not (is_select op) || holds known to) ok in
      let y = all_three (is_sized homes to op size a b) (not (is_select op)) (not (is_shared homes to)) direct in
      let second : is_unary op ≡ false → IsArgument b × (argument_fits known b ≡ true) × Ready b = λ two. (b_is two, right (is_unary op) (argument_fits known b) two x.2, λ flag lt e. ready flag lt (takes_second flag two e)) in
      by (λ flag lt e. ready flag lt (takes_first flag e)) second x.1 y.0 (not-true (is_select op) y.1) (not-true (is_shared homes to) y.2)
      (copied homes to op size a) refl (made homes to op size a b) refl (compared homes to op size a b) refl w behind
    where
      takes_first : (flag : ℕ) → is_flag flag a ≡ true → takes (is_flag flag) op a b ≡ true
      takes_first flag e = takes_by (is_flag flag a) (is_flag flag b) (is_unary op) e

      takes_second : (flag : ℕ) → is_unary op ≡ false → is_flag flag b ≡ true → takes (is_flag flag) op a b ≡ true
      takes_second flag u e = takes_other (is_flag flag a) (is_flag flag b) (is_unary op) u e

      by : Ready a → (is_unary op ≡ false → IsArgument b × (argument_fits known b ≡ true) × Ready b) → argument_fits known a ≡ true → (is_sized homes to op size a b) ≡ true → is_select op ≡ false → is_shared homes to ≡ false
          → (o : Option ℕ) → copied homes to op size a ≡ o → (q : Option AlphaInstr) → made homes to op size a b ≡ q → (u : Option AlphaInstr) → compared homes to op size a b ≡ u
          → Within p site.behind pc (map plain (code_by o q u (compute_code op size (placed homes a) (placed homes b) (holder to))) ++ rest)
          → ((g : Regs) → After to op size a b g → Always p None need (at_place g (pc + length (code_by o q u (compute_code op size (placed homes a) (placed homes b) (holder to))))) t)
          → Always p None (length (code_by o q u (compute_code op size (placed homes a) (placed homes b) (holder to))) + need) (at_place regs pc) t
      by ready_a second a_fits narrow unselected alone (Some r) e q f u h w behind =
          let here : pc + 0 ≡ pc = omega arith in
          roomy p None need (0 + need) (at_place regs pc) t (omega arith)
          (subst (λ n. Always p None need (at_place regs n) t) here (behind regs (copies to op size a b r a_is a_fits e)))
      by ready_a second a_fits narrow unselected alone None e (Some word) f u h w behind =
          let count = row_length p site.behind (word ∷ []) rest in
          let high = w.high in
          let operate = made_operates homes to op size a b word f in
          operates p None need (word ∷ []) regs pc t (row_words p site.behind pc (word ∷ []) rest w)
          (ap (λ c. c && true) operate) w.low (omega arith)
          (λ n lt le. is_inside p site.behind pc n (map plain (word ∷ []) ++ rest) w lt (omega arith))
          (behind (effect word regs) (makes_then to op size a b word ok a_is b_is direct e f))
      by ready_a second a_fits narrow unselected alone None e None f (Some word) h w behind =
          let m = compared_word homes to op size a b word h in
          let two = two_compared op m.1.operation m.1.is_operation in
          let s = second two in
          let count = row_length p site.behind (word ∷ []) rest in
          let high = w.high in
          operates p None need (word ∷ []) regs pc t (row_words p site.behind pc (word ∷ []) rest w)
          (subst (λ (i : AlphaInstr). list_all is_operate (i ∷ []) ≡ true) (sym m.1.is) refl) w.low (omega arith)
          (λ n lt le. is_inside p site.behind pc n (map plain (word ∷ []) ++ rest) w lt (omega arith))
          (behind (effect word regs) (compares to op size a b word target a_is a_fits s.0 s.1 e f h alone))
      by ready_a second a_fits narrow unselected alone None e None f None h w behind =
          computation_runs p site need pc to op size (placed homes a) (placed homes b) rest regs t w some target
          (placed_is homes d.are a a_is) (λ two. placed_is homes d.are b (b_is two))
          (record {
            zero = d.holds.form.zero;
            first = placed_fits p site known homes standing regs d a a_is a_fits;
            second = λ two. let s = second two in placed_fits p site known homes standing regs d b s.0 s.1;
            held = λ is_so. let both : false ≡ true = sym unselected ∙ is_so in absurd (cc both);
          })
          (λ done g l. behind g (computes_words to op size a b g target a_is a_fits ready_a second (sized_unmade homes size a b (made homes to op size a b) narrow f) unselected alone e f done l))
