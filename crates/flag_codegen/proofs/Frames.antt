-- Which registers the words of each code write.
use Rattle.std.proofs.Common.{◌≡◌, ℕ, refl, List, [], ◌∷◌, ◌++◌, Bool, true, false, ◌∙◌}
use Rattle.std.proofs.lemmas.Bool.{and_from}
use Rattle.std.proofs.lemmas.List.Folds.{list_all-append}
use Rattle.std.specs.Prelude.{◌==◌, ◌&&◌, ◌||◌}
use Rattle.std.specs.List.{list_all}
use Rattle.alpha_encode.specs.declared.instr.AlphaInstr.{AlphaInstr}
use Rattle.alpha_meaning.specs.State.{Regs}
use Rattle.alpha_meaning.specs.Loops.{effect, effects, fine}
use Rattle.alpha_meaning.proofs.Rules.{effects_only}
use Rattle.micro_ops.specs.declared.codes.CodeSource.{CodeSource}
use Rattle.micro_ops.specs.declared.codes.CodeSource.TheVariants.{Kept}
use Rattle.micro_ops.specs.Sources.{is_written}
use Rattle.flag_codegen.specs.Words.{negative_words, zero_words, overflow_words, carry_words, operand_words, when}

-- ---- rows of words
pub effects_append : (is js : List AlphaInstr) (f : Regs) → effects (is ++ js) f ≡ effects js (effects is f)
effects_append [] js f = refl
effects_append (i ∷ is) js f = effects_append is js (effect i f)

pub all_append : (test : AlphaInstr → Bool) (is js : List AlphaInstr) → list_all test is ≡ true → list_all test js ≡ true → list_all test (is ++ js) ≡ true
all_append test is js h k = list_all-append test is js ∙ and_from _ _ h k

pub all_when : (test : AlphaInstr → Bool) (b : Bool) (is : List AlphaInstr) → list_all test is ≡ true → list_all test (when b is) ≡ true
all_when test true is h = h
all_when test false is h = refl

-- what no word writes stays
pub stays : (may : ℕ → Bool) (is : List AlphaInstr) (f : Regs) (n : ℕ) → list_all (fine may) is ≡ true → may n ≡ false → effects is f n ≡ f n
stays may is f n ok out = effects_only is may f f ok (λ m _. refl) n out

-- ---- which registers
abbrev pub may_negative : ℕ → Bool
may_negative n = (n == 16) || (n == 24) || (n == 25)

abbrev pub may_zero : ℕ → Bool
may_zero n = n == 17

abbrev pub may_overflow : ℕ → Bool
may_overflow n = (n == 18) || (n == 24) || (n == 25)

abbrev pub may_carry : ℕ → Bool
may_carry n = n == 19

abbrev pub may_operands : ℕ → Bool
may_operands n = (n == 28) || (n == 29)

abbrev pub may_carry_operands : ℕ → Bool
may_carry_operands n = (n == 15) || (n == 30)

-- only where the codes of that source are written
abbrev pub written_there : CodeSource → (may : ℕ → Bool) → ℕ → Bool
written_there source may n = is_written source && may n

pub negative_fine : (source : CodeSource) → list_all (fine (written_there source may_negative)) (negative_words source) ≡ true
negative_fine Kept = refl
negative_fine source = refl

pub zero_fine : (source : CodeSource) → list_all (fine (written_there source may_zero)) (zero_words source) ≡ true
zero_fine Kept = refl
zero_fine source = refl

pub overflow_fine : (source : CodeSource) → list_all (fine (written_there source may_overflow)) (overflow_words source) ≡ true
overflow_fine Kept = refl
overflow_fine source = refl

pub carry_fine : (source : CodeSource) → list_all (fine (written_there source may_carry)) (carry_words source) ≡ true
carry_fine Kept = refl
carry_fine source = refl

pub operands_fine : (source : CodeSource) → list_all (fine (written_there source may_operands)) (operand_words source 28 29) ≡ true
operands_fine Kept = refl
operands_fine source = refl

pub carry_operands_fine : (source : CodeSource) → list_all (fine (written_there source may_carry_operands)) (operand_words source 15 30) ≡ true
carry_operands_fine Kept = refl
carry_operands_fine source = refl
