-- What the rules tell of the operands that are kept for them.
use Rattle.std.proofs.Common.{◌≡◌, ℕ, ◌<◌, refl, sym, ap, ◌∙◌, Bool, true, false}
use Rattle.std.specs.Prelude.{◌==◌}
use Rattle.std.proofs.Math.Nat.{mod-eq_of_lt}
use Rattle.vax_form.specs.Codes.{none}
use Rattle.vax_form.specs.Size.{bytes_of}
use Rattle.vax_form.specs.declared.instr.Size.{Size}
use Rattle.vax_form.specs.declared.state.Flags.{Flags}
use Rattle.vt_words.specs.Values.{bit}
use Rattle.vt_words.specs.Arithmetic.{coded_value}
use Rattle.alpha_meaning.specs.State.{Regs}
use Rattle.alpha_meaning.specs.Loops.{effects}
use Rattle.micro_ops.specs.Meaning.{Temps, flag_of}
use Rattle.micro_ops.specs.Values.{limit_of}
use Rattle.micro_ops.specs.Leaving.{sum, difference, comparison_of, SignsComeFrom, CarryComesFrom}
use Rattle.micro_ops.specs.declared.codes.CodeSource.{CodeSource}
use Rattle.micro_ops.specs.declared.codes.CodeSource.TheVariants.{Kept, Zero, Result, Add, Sub, Compare, Computed, Psw}
use Rattle.exception_records.specs.Codes.{low, codes_of, sum_codes, difference_codes, comparison_codes, codes_by, is_ready}
use Rattle.code_runs.specs.Rules.{rule_of}
use Rattle.flag_codegen.specs.Words.{operand_words}
use Rattle.flag_codegen.proofs.Values.{Hold, moved}

-- two numbers are the operands that the rule of the source needs
abbrev pub AreOperands : CodeSource → (first second : ℕ) → Temps → Type 0
AreOperands (Result size) first second temps = first ≡ temps 2
AreOperands (Add size) first second temps = (first ≡ temps 0) × (second ≡ temps 1)
AreOperands (Sub size) first second temps = (first ≡ temps 0) × (second ≡ temps 1)
AreOperands (Compare size) first second temps = (first ≡ temps 0) × (second ≡ temps 1)
AreOperands source first second temps = Unit {0}

pub operands_kept : (source : CodeSource) (k : Regs) (temps : Temps) → Hold k temps → let kept = effects (operand_words source 28 29) k in AreOperands source (kept 28) (kept 29) temps
operands_kept Kept k temps hold = tt
operands_kept Zero k temps hold = tt
operands_kept (Result size) k temps hold = moved (k 31) (k 23) (temps 2) hold.zero hold.result
operands_kept (Add size) k temps hold = (moved (k 31) (k 21) (temps 0) hold.zero hold.first, moved (k 31) (k 22) (temps 1) hold.zero hold.second)
operands_kept (Sub size) k temps hold = (moved (k 31) (k 21) (temps 0) hold.zero hold.first, moved (k 31) (k 22) (temps 1) hold.zero hold.second)
operands_kept (Compare size) k temps hold = (moved (k 31) (k 21) (temps 0) hold.zero hold.first, moved (k 31) (k 22) (temps 1) hold.zero hold.second)
operands_kept (Computed size) k temps hold = tt
operands_kept Psw k temps hold = tt

pub carry_operands_kept : (source : CodeSource) (k : Regs) (temps : Temps) → Hold k temps → let kept = effects (operand_words source 15 30) k in AreOperands source (kept 15) (kept 30) temps
carry_operands_kept Kept k temps hold = tt
carry_operands_kept Zero k temps hold = tt
carry_operands_kept (Result size) k temps hold = moved (k 31) (k 23) (temps 2) hold.zero hold.result
carry_operands_kept (Add size) k temps hold = (moved (k 31) (k 21) (temps 0) hold.zero hold.first, moved (k 31) (k 22) (temps 1) hold.zero hold.second)
carry_operands_kept (Sub size) k temps hold = (moved (k 31) (k 21) (temps 0) hold.zero hold.first, moved (k 31) (k 22) (temps 1) hold.zero hold.second)
carry_operands_kept (Compare size) k temps hold = (moved (k 31) (k 21) (temps 0) hold.zero hold.first, moved (k 31) (k 22) (temps 1) hold.zero hold.second)
carry_operands_kept (Computed size) k temps hold = tt
carry_operands_kept Psw k temps hold = tt

-- ---- the codes that a rule tells
held_low : (size : Size) (r t : ℕ) → r ≡ t → t < limit_of size → low size r ≡ t
held_low size r t e lt = ap (low size) e ∙ mod-eq_of_lt lt

two_held : (codes : (first second : ℕ) → Flags) (size : Size) (r s t u : ℕ) → r ≡ t → s ≡ u → t < limit_of size → u < limit_of size → codes (low size r) (low size s) ≡ codes t u
two_held codes size r s t u e e' lt lt' = ap (λ n. codes n (low size s)) (held_low size r t e lt) ∙ ap (codes t) (held_low size s u e' lt')

-- by the operands themselves
abbrev pub codes_told : CodeSource → Temps → Flags
codes_told Zero temps = none
codes_told (Result size) temps = codes_of (coded_value (bytes_of size) (temps 2) false false)
codes_told (Add size) temps = codes_of (sum size temps)
codes_told (Sub size) temps = codes_of (difference size temps)
codes_told (Compare size) temps = codes_of (comparison_of size (temps 0) (temps 1))
codes_told source temps = none

module _ (temps : Temps) (found left first second : ℕ) where
  told : (source : CodeSource) → AreOperands source first second temps → SignsComeFrom source found left temps → codes_by (rule_of source) first second ≡ codes_told source temps
  told Zero are h = refl
  told (Result size) are h = ap (λ n. codes_of (coded_value (bytes_of size) n false false)) (held_low size first (temps 2) are h.0)
  told (Add size) are h = two_held (sum_codes size) size first second (temps 0) (temps 1) are.0 are.1 h.0.0 h.0.1
  told (Sub size) are h = two_held (difference_codes size) size first second (temps 0) (temps 1) are.0 are.1 h.0.0 h.0.1
  told (Compare size) are h = two_held (comparison_codes size) size first second (temps 0) (temps 1) are.0 are.1 h.0.0 h.0.1
  told source are h = refl

  by_bit : (b : Bool) (flag : ℕ) → flag ≡ bit b → b ≡ (flag == 1)
  by_bit true flag e = sym (ap (λ n. n == 1) e)
  by_bit false flag e = sym (ap (λ n. n == 1) e)

  negative_of : (source : CodeSource) → is_ready (rule_of source) ≡ false → SignsComeFrom source found left temps → (codes_told source temps).n ≡ (flag_of 0 left == 1)
  negative_of Zero w h = by_bit false (flag_of 0 left) h.0
  negative_of (Result size) w h = by_bit _ (flag_of 0 left) h.1.0
  negative_of (Add size) w h = by_bit _ (flag_of 0 left) h.2.0
  negative_of (Sub size) w h = by_bit _ (flag_of 0 left) h.2.0
  negative_of (Compare size) w h = by_bit _ (flag_of 0 left) h.1.0
  negative_of source w h = absurd (cc w)

  zero_of : (source : CodeSource) → is_ready (rule_of source) ≡ false → SignsComeFrom source found left temps → (codes_told source temps).z ≡ (flag_of 1 left == 1)
  zero_of Zero w h = by_bit false (flag_of 1 left) h.1
  zero_of (Result size) w h = by_bit _ (flag_of 1 left) h.1.1
  zero_of (Add size) w h = by_bit _ (flag_of 1 left) h.2.1
  zero_of (Sub size) w h = by_bit _ (flag_of 1 left) h.2.1
  zero_of (Compare size) w h = by_bit _ (flag_of 1 left) h.1.1
  zero_of source w h = absurd (cc w)

  overflow_of : (source : CodeSource) → is_ready (rule_of source) ≡ false → SignsComeFrom source found left temps → (codes_told source temps).v ≡ (flag_of 2 left == 1)
  overflow_of Zero w h = by_bit false (flag_of 2 left) h.2
  overflow_of (Result size) w h = by_bit _ (flag_of 2 left) h.1.2
  overflow_of (Add size) w h = by_bit _ (flag_of 2 left) h.2.2
  overflow_of (Sub size) w h = by_bit _ (flag_of 2 left) h.2.2
  overflow_of (Compare size) w h = by_bit _ (flag_of 2 left) h.1.2
  overflow_of source w h = absurd (cc w)

  pub negative_told : (source : CodeSource) → is_ready (rule_of source) ≡ false → AreOperands source first second temps → SignsComeFrom source found left temps → (codes_by (rule_of source) first second).n ≡ (flag_of 0 left == 1)
  negative_told source w are h = ap (λ (codes : Flags). codes.n) (told source are h) ∙ negative_of source w h

  pub zero_told : (source : CodeSource) → is_ready (rule_of source) ≡ false → AreOperands source first second temps → SignsComeFrom source found left temps → (codes_by (rule_of source) first second).z ≡ (flag_of 1 left == 1)
  zero_told source w are h = ap (λ (codes : Flags). codes.z) (told source are h) ∙ zero_of source w h

  pub overflow_told : (source : CodeSource) → is_ready (rule_of source) ≡ false → AreOperands source first second temps → SignsComeFrom source found left temps → (codes_by (rule_of source) first second).v ≡ (flag_of 2 left == 1)
  overflow_told source w are h = ap (λ (codes : Flags). codes.v) (told source are h) ∙ overflow_of source w h

  pub carry_told : (source : CodeSource) → is_ready (rule_of source) ≡ false → AreOperands source first second temps → CarryComesFrom source found left temps → (codes_by (rule_of source) first second).c ≡ (flag_of 3 left == 1)
  carry_told Zero w are h = by_bit false (flag_of 3 left) h
  carry_told (Result size) w are h = by_bit false (flag_of 3 left) h
  carry_told (Add size) w are h = ap (λ (codes : Flags). codes.c) (two_held (sum_codes size) size first second (temps 0) (temps 1) are.0 are.1 h.0.0 h.0.1) ∙ by_bit _ (flag_of 3 left) h.1
  carry_told (Sub size) w are h = ap (λ (codes : Flags). codes.c) (two_held (difference_codes size) size first second (temps 0) (temps 1) are.0 are.1 h.0.0 h.0.1) ∙ by_bit _ (flag_of 3 left) h.1
  carry_told (Compare size) w are h = ap (λ (codes : Flags). codes.c) (two_held (comparison_codes size) size first second (temps 0) (temps 1) are.0 are.1 h.0.0 h.0.1) ∙ by_bit _ (flag_of 3 left) h.1
  carry_told source w are h = absurd (cc w)
