-- What a code's register and its rule show behind an instruction.
use Rattle.std.proofs.Common.{◌≡◌, ℕ, ◌%◌, ◌<◌, refl, sym, ap, ◌∙◌, subst, arith, Bool, true, false, eqb, eqb-true}
use Rattle.std.specs.Prelude.{◌==◌, ◌&&◌, not}
use Rattle.std.proofs.lemmas.Bool.Decides.{nat_tests}
use Rattle.micro_ops.specs.Meaning.{flag_of}
use Rattle.micro_ops.specs.declared.codes.CodeSource.{CodeSource}
use Rattle.micro_ops.specs.declared.codes.CodeSource.TheVariants.{Kept, Computed, Psw}
use Rattle.exception_records.specs.Codes.{is_ready}
use Rattle.exception_records.specs.Shown.{Regs, is_set, code_shown}
use Rattle.exception_records.specs.declared.rules.CodeRule.{CodeRule}
use Rattle.block_law.specs.CodeWords.{HoldCodes}
use Rattle.micro_ops.specs.Sources.{is_written}
use Rattle.code_runs.specs.Rules.{rule_of, rule_behind}
use Rattle.flag_codegen.specs.Made.{is_made}

set_is : (register flag : ℕ) → register ≡ flag → flag < 2 → is_set register ≡ (flag == 1)
set_is register flag e lt = ap is_set e ∙ small flag lt
  where
    small : (n : ℕ) → n < 2 → (n % 2 == 1) ≡ (n == 1)
    small n lt = grind (arith, nat_tests)

still : (held in_register by_rule : Bool) (before : CodeRule) → code_shown before (held && true) in_register by_rule ≡ code_shown before held in_register by_rule
still true in_register by_rule before = refl
still false in_register by_rule before = refl

-- by its rule, which isn't ready, where it isn't held
by_rule_alone : (held in_register by_rule : Bool) (before : CodeRule) → is_ready before ≡ false → code_shown before (held && false) in_register by_rule ≡ by_rule
by_rule_alone true in_register by_rule before e = rw e refl
by_rule_alone false in_register by_rule before e = rw e refl

-- what is known of a code behind an instruction
pub record Facts (source : CodeSource) (live held : Bool) (before : CodeRule) (register : ℕ) (told : CodeRule → Bool) (flag : ℕ) : Type 0 where
  pub kept : is_written source ≡ false → code_shown before held (is_set register) (told before) ≡ (flag == 1)
  pub made : is_made source live ≡ true → register ≡ flag
  pub ruled : live ≡ false → is_written source ≡ true → is_ready (rule_of source) ≡ false → told (rule_of source) ≡ (flag == 1)
  pub small : flag < 2

-- it is shown
abbrev Shows : (source : CodeSource) (live held : Bool) (before : CodeRule) (register : ℕ) (told : CodeRule → Bool) (flag : ℕ) → Type 0
Shows source live held before register told flag =
    code_shown (rule_behind source live before) (held && not (is_written source)) (is_set register) (told (rule_behind source live before)) ≡ (flag == 1)

pub shown_behind : (source : CodeSource) (live held : Bool) (before : CodeRule) (register : ℕ) (told : CodeRule → Bool) (flag : ℕ) → Facts source live held before register told flag → Shows source live held before register told flag
shown_behind Kept live held before register told flag facts = still held (is_set register) (told before) before ∙ facts.kept refl
shown_behind (Computed size) true held before register told flag facts = set_is register flag (facts.made refl) facts.small
shown_behind (Computed size) false held before register told flag facts = set_is register flag (facts.made refl) facts.small
shown_behind Psw true held before register told flag facts = set_is register flag (facts.made refl) facts.small
shown_behind Psw false held before register told flag facts = set_is register flag (facts.made refl) facts.small
shown_behind source true held before register told flag facts = set_is register flag (facts.made refl) facts.small
shown_behind source false held before register told flag facts =
    by_rule_alone held (is_set register) (told (rule_of source)) (rule_of source) refl ∙ facts.ruled refl refl refl

pub flag_small : (flag psw : ℕ) → flag_of flag psw < 2
flag_small flag psw = omega arith

-- the registers of the codes hold 0 or 1, each of the four
pub hold_four : (f : Regs) → f 16 < 2 → f 17 < 2 → f 18 < 2 → f 19 < 2 → HoldCodes f
hold_four f n z v c m low high = by (eqb m 16) refl (eqb m 17) refl (eqb m 18) refl
  where
    by : (a : Bool) → eqb m 16 ≡ a → (b : Bool) → eqb m 17 ≡ b → (d : Bool) → eqb m 18 ≡ d → f m < 2
    by true e b e' d e'' = subst (λ k. f k < 2) (sym (eqb-true m 16 e)) n
    by false e true e' d e'' = subst (λ k. f k < 2) (sym (eqb-true m 17 e')) z
    by false e false e' true e'' = subst (λ k. f k < 2) (sym (eqb-true m 18 e'')) v
    by false e false e' false e'' = let last : m ≡ 19 = grind (arith, nat_tests, e, e', e'', low, high) in subst (λ k. f k < 2) (sym last) c
