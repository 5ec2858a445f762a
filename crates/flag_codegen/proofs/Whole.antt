-- The words as a whole: how many they are, which registers they write, and that they have encodings.
use Rattle.std.proofs.Common.{◌≡◌, ℕ, ◌<◌, ◌≤◌, refl, ◌∙◌, arith, List, [], ◌∷◌, ◌++◌, Bool, true, false, lit<, lit≤, length, length-append}
use Rattle.std.proofs.lemmas.List.Folds.{list_any-append}
use Rattle.std.specs.Prelude.{◌==◌, ◌||◌, not, All}
use Rattle.std.specs.List.{list_all}
use Rattle.vax_form.specs.Codes.{codes}
use Rattle.vax_form.specs.declared.instr.Size.{Size}
use Rattle.vax_form.specs.declared.instr.Size.TheVariants as size_of
use Rattle.vax_form.specs.declared.state.Flags.{Flags}
use Rattle.alpha_encode.specs.declared.instr.AlphaInstr.{AlphaInstr}
use Rattle.alpha_encode.specs.declared.instr.AlphaInstr.TheVariants.{Operate}
use Rattle.alpha_encode.specs.declared.instr.OperateOp.TheVariants as row
use Rattle.alpha_encode.specs.declared.instr.Second.TheVariants.{Register}
use Rattle.alpha_encode.specs.Words.{IsEncodable}
use Rattle.alpha_meaning.specs.Loops.{fine}
use Rattle.micro_ops.specs.declared.codes.CodeSource.{CodeSource}
use Rattle.micro_ops.specs.declared.codes.CodeSource.TheVariants.{Kept, Zero, Result, Add, Sub, Compare, Computed, Psw}
use Rattle.micro_ops.specs.declared.codes.CodeSources.{CodeSources}
use Rattle.micro_ops.specs.Sources.{from}
use Rattle.compute_sequences.specs.Words.{raise}
use Rattle.compute_sequences.proofs.Straight.{Each, each_append, all_of}
use Rattle.block_law.specs.CodeWords.{most_code_words, may_be_written}
use Rattle.block_law.specs.Tidy.{register_written, writes_register, codes_written}
use Rattle.flag_codegen.specs.Made.{is_made, codes_made}
use Rattle.flag_codegen.specs.Words.{sign, less_words, unlike_words, all_live, when, negative_words, zero_words, overflow_words, carry_words, operand_words, carry_code, signs_code, code_words}
use Rattle.flag_codegen.specs.Promises.{most_words}
use Rattle.flag_codegen.proofs.Frames.{all_append, all_when}

-- ---- all of them pass a test
abbrev pub makes_negative : CodeSource → Flags → List AlphaInstr
makes_negative source live = when (is_made source live.n) (negative_words source) ++ when (is_made source live.z) (zero_words source)

abbrev pub makes_overflow : CodeSource → Flags → List AlphaInstr
makes_overflow source live = when (is_made source live.v) (overflow_words source) ++ makes_negative source live

pub signs_pass : (test : AlphaInstr → Bool) (source : CodeSource) (live : Flags)
    → list_all test (operand_words source 28 29) ≡ true → list_all test (overflow_words source) ≡ true
    → list_all test (negative_words source) ≡ true → list_all test (zero_words source) ≡ true → list_all test (signs_code source live) ≡ true
signs_pass test source live a b c d =
    all_append test (when (not (all_live live)) (operand_words source 28 29)) (makes_overflow source live) (all_when test (not (all_live live)) (operand_words source 28 29) a)
    (all_append test (when (is_made source live.v) (overflow_words source)) (makes_negative source live) (all_when test (is_made source live.v) (overflow_words source) b)
    (all_append test (when (is_made source live.n) (negative_words source)) (when (is_made source live.z) (zero_words source))
    (all_when test (is_made source live.n) (negative_words source) c) (all_when test (is_made source live.z) (zero_words source) d)))

pub words_pass : (test : AlphaInstr → Bool) (sources : CodeSources) (live : Flags)
    → list_all test (operand_words sources.c 15 30) ≡ true → list_all test (carry_words sources.c) ≡ true
    → list_all test (signs_code sources.nzv live) ≡ true → list_all test (code_words sources live) ≡ true
words_pass test sources live a b c =
    all_append test (carry_code sources.c live.c) (signs_code sources.nzv live)
    (all_append test (when (not live.c) (operand_words sources.c 15 30)) (when (is_made sources.c live.c) (carry_words sources.c))
    (all_when test (not live.c) (operand_words sources.c 15 30) a) (all_when test (is_made sources.c live.c) (carry_words sources.c) b))
    c

-- ---- they write what they may
abbrev May : (nzv c : CodeSource) → List AlphaInstr → Type 0
May nzv c words = list_all (fine (may_be_written (from nzv c))) words ≡ true

negative_may : (nzv c : CodeSource) → May nzv c (negative_words nzv)
negative_may Kept c = refl
negative_may nzv c = refl

zero_may : (nzv c : CodeSource) → May nzv c (zero_words nzv)
zero_may Kept c = refl
zero_may nzv c = refl

overflow_may : (nzv c : CodeSource) → May nzv c (overflow_words nzv)
overflow_may Kept c = refl
overflow_may nzv c = refl

operands_may : (nzv c : CodeSource) → May nzv c (operand_words nzv 28 29)
operands_may Kept c = refl
operands_may nzv c = refl

carry_may : (nzv c : CodeSource) → May nzv c (carry_words c)
carry_may Kept Kept = refl
carry_may nzv Kept = refl
carry_may nzv c = refl

carry_operands_may : (nzv c : CodeSource) → May nzv c (operand_words c 15 30)
carry_operands_may Kept Kept = refl
carry_operands_may nzv Kept = refl
carry_operands_may nzv c = refl

pub words_only : (sources : CodeSources) (live : Flags) → list_all (fine (may_be_written sources)) (code_words sources live) ≡ true
words_only sources live =
    let may = fine (may_be_written sources) in
    let nzv = sources.nzv in
    let c = sources.c in
    words_pass may sources live (carry_operands_may nzv c) (carry_may nzv c)
    (signs_pass may nzv live (operands_may nzv c) (overflow_may nzv c) (negative_may nzv c) (zero_may nzv c))

-- ---- they write the codes that are made
carry_writes : (source : CodeSource) (live : Bool) → (writes_register 16 (carry_code source live) ≡ false) × (writes_register 17 (carry_code source live) ≡ false) × (writes_register 18 (carry_code source live) ≡ false) × (writes_register 19 (carry_code source live) ≡ is_made source live)
carry_writes Kept true = (refl, refl, refl, refl)
carry_writes Kept false = (refl, refl, refl, refl)
carry_writes source true = (refl, refl, refl, refl)
carry_writes source false = (refl, refl, refl, refl)

abbrev WritesSigns : CodeSource → Flags → Type 0
WritesSigns source live =
    (writes_register 16 (signs_code source live) ≡ is_made source live.n) × (writes_register 17 (signs_code source live) ≡ is_made source live.z)
    × (writes_register 18 (signs_code source live) ≡ is_made source live.v) × (writes_register 19 (signs_code source live) ≡ false)

signs_writes : (source : CodeSource) (n z v c : Bool) → WritesSigns source (record { n = n; z = z; v = v; c = c })
signs_writes Kept true true true c = (refl, refl, refl, refl)
signs_writes Kept true true false c = (refl, refl, refl, refl)
signs_writes Kept true false true c = (refl, refl, refl, refl)
signs_writes Kept true false false c = (refl, refl, refl, refl)
signs_writes Kept false true true c = (refl, refl, refl, refl)
signs_writes Kept false true false c = (refl, refl, refl, refl)
signs_writes Kept false false true c = (refl, refl, refl, refl)
signs_writes Kept false false false c = (refl, refl, refl, refl)
signs_writes source true true true c = (refl, refl, refl, refl)
signs_writes source true true false c = (refl, refl, refl, refl)
signs_writes source true false true c = (refl, refl, refl, refl)
signs_writes source true false false c = (refl, refl, refl, refl)
signs_writes source false true true c = (refl, refl, refl, refl)
signs_writes source false true false c = (refl, refl, refl, refl)
signs_writes source false false true c = (refl, refl, refl, refl)
signs_writes source false false false c = (refl, refl, refl, refl)

pub same_flags : {n z v c n' z' v' c' : Bool} → n ≡ n' → z ≡ z' → v ≡ v' → c ≡ c' → codes n z v c ≡ codes n' z' v' c'
same_flags a b d e = rw (a, b, d, e) refl

pub words_write : (sources : CodeSources) (live : Flags) → codes_written (code_words sources live) ≡ codes_made sources live
words_write sources live =
    let front = carry_writes sources.c live.c in
    let back = signs_writes sources.nzv live.n live.z live.v live.c in
    same_flags (written 16 ∙ either front.0 back.0) (written 17 ∙ either front.1 back.1) (written 18 ∙ either front.2 back.2) (written 19 ∙ or_false front.3 back.3)
  where
    written : (register : ℕ) → writes_register register (code_words sources live) ≡ (writes_register register (carry_code sources.c live.c) || writes_register register (signs_code sources.nzv live))
    written register = list_any-append (λ i. register_written i == register) (carry_code sources.c live.c) (signs_code sources.nzv live)

    either : {a b c : Bool} → a ≡ false → b ≡ c → (a || b) ≡ c
    either e e' = rw e e'

    or_false : {a b c : Bool} → a ≡ c → b ≡ false → (a || b) ≡ c
    or_false {a} {b} {c} e e' = rw (e, e') (elim c as (λ x. (x || false) ≡ x) [ true ↦ refl | false ↦ refl ])

-- ---- they are few
carry_few : (source : CodeSource) (live : Bool) → length (carry_code source live) ≤ 2
carry_few Kept true = lit≤ tt
carry_few Kept false = lit≤ tt
carry_few source true = lit≤ tt
carry_few source false = lit≤ tt

signs_few : (source : CodeSource) (n z v c : Bool) → length (signs_code source (codes n z v c)) ≤ 8
signs_few Kept true true true c = lit≤ tt
signs_few Kept true true false c = lit≤ tt
signs_few Kept true false true c = lit≤ tt
signs_few Kept true false false c = lit≤ tt
signs_few Kept false true true c = lit≤ tt
signs_few Kept false true false c = lit≤ tt
signs_few Kept false false true c = lit≤ tt
signs_few Kept false false false c = lit≤ tt
signs_few source true true true c = lit≤ tt
signs_few source true true false c = lit≤ tt
signs_few source true false true c = lit≤ tt
signs_few source true false false c = lit≤ tt
signs_few source false true true c = lit≤ tt
signs_few source false true false c = lit≤ tt
signs_few source false false true c = lit≤ tt
signs_few source false false false c = lit≤ tt

pub words_few : (sources : CodeSources) (live : Flags) → length (code_words sources live) ≤ most_words
words_few sources live =
    let front = carry_few sources.c live.c in
    let back = signs_few sources.nzv live.n live.z live.v live.c in
    let both = length-append (carry_code sources.c live.c) (signs_code sources.nzv live) in
    omega arith

pub words_fit : (sources : CodeSources) (live : Flags) → length (code_words sources live) ≤ most_code_words
words_fit sources live = let few = words_few sources live in omega arith

-- ---- they have encodings
sign_encodable : (size : Size) (from to : ℕ) → from < 32 → to < 32 → IsEncodable (sign size from to)
sign_encodable size_of.Byte from to lt lt' = (lt, lit< tt, lt')
sign_encodable size_of.Word from to lt lt' = (lt, lit< tt, lt')
sign_encodable size_of.Long from to lt lt' = (lt, lit< tt, lt')
sign_encodable size_of.Quad from to lt lt' = (lt, lit< tt, lt')

raise_encodable : (size : Size) (from to : ℕ) → from < 32 → to < 32 → IsEncodable (raise size from to)
raise_encodable size_of.Byte from to lt lt' = (lt, lit< tt, lt')
raise_encodable size_of.Word from to lt lt' = (lt, lit< tt, lt')
raise_encodable size_of.Long from to lt lt' = (lt, lit< tt, lt')
raise_encodable size_of.Quad from to lt lt' = (lt, lit< tt, lt')

encodable_when : (b : Bool) (is : List AlphaInstr) → Each IsEncodable is → Each IsEncodable (when b is)
encodable_when true is h = h
encodable_when false is h = tt

less_encodable : (size : Size) (a b to : ℕ) → a < 32 → b < 32 → to < 32 → Each IsEncodable (less_words size a b to)
less_encodable size a b to lt lt' to_fits = (raise_encodable size a 24 lt (lit< tt), (raise_encodable size b 25 lt' (lit< tt), ((lit< tt, lit< tt, to_fits), tt)))

unlike_encodable : (size : Size) (a b negative to : ℕ) → a < 32 → b < 32 → negative < 32 → to < 32 → Each IsEncodable (unlike_words size a b negative to)
unlike_encodable size a b negative to lt lt' fits to_fits =
    each_append IsEncodable (less_words size a b 24) (sign size negative 25 ∷ Operate row.Xor 24 (Register 25) to ∷ [])
    (less_encodable size a b 24 lt lt' (lit< tt)) (sign_encodable size negative 25 fits (lit< tt), ((lit< tt, lit< tt, to_fits), tt))

negative_encodable : (source : CodeSource) → Each IsEncodable (negative_words source)
negative_encodable Kept = tt
negative_encodable Zero = ((lit< tt, lit< tt, lit< tt), tt)
negative_encodable (Compare size) = less_encodable size 21 22 16 (lit< tt) (lit< tt) (lit< tt)
negative_encodable Psw = ((lit< tt, lit< tt, lit< tt), ((lit< tt, lit< tt, lit< tt), tt))
negative_encodable (Result size) = (sign_encodable size 23 16 (lit< tt) (lit< tt), tt)
negative_encodable (Add size) = (sign_encodable size 23 16 (lit< tt) (lit< tt), tt)
negative_encodable (Sub size) = (sign_encodable size 23 16 (lit< tt) (lit< tt), tt)
negative_encodable (Computed size) = (sign_encodable size 23 16 (lit< tt) (lit< tt), tt)

zero_encodable : (source : CodeSource) → Each IsEncodable (zero_words source)
zero_encodable Kept = tt
zero_encodable Psw = ((lit< tt, lit< tt, lit< tt), ((lit< tt, lit< tt, lit< tt), tt))
zero_encodable source = ((lit< tt, lit< tt, lit< tt), tt)

overflow_encodable : (source : CodeSource) → Each IsEncodable (overflow_words source)
overflow_encodable Kept = tt
overflow_encodable (Add size) = unlike_encodable size 23 21 22 18 (lit< tt) (lit< tt) (lit< tt) (lit< tt)
overflow_encodable (Sub size) = unlike_encodable size 21 22 23 18 (lit< tt) (lit< tt) (lit< tt) (lit< tt)
overflow_encodable Psw = ((lit< tt, lit< tt, lit< tt), ((lit< tt, lit< tt, lit< tt), tt))
overflow_encodable source = ((lit< tt, lit< tt, lit< tt), tt)

carry_encodable : (source : CodeSource) → Each IsEncodable (carry_words source)
carry_encodable Kept = tt
carry_encodable source = ((lit< tt, lit< tt, lit< tt), tt)

operands_encodable : (source : CodeSource) (a b : ℕ) → a < 32 → b < 32 → Each IsEncodable (operand_words source a b)
operands_encodable Kept a b lt lt' = tt
operands_encodable Zero a b lt lt' = tt
operands_encodable (Computed size) a b lt lt' = tt
operands_encodable Psw a b lt lt' = tt
operands_encodable (Result size) a b lt lt' = ((lit< tt, lit< tt, lt), tt)
operands_encodable source a b lt lt' = ((lit< tt, lit< tt, lt), ((lit< tt, lit< tt, lt'), tt))

signs_encodable : (source : CodeSource) (live : Flags) → Each IsEncodable (signs_code source live)
signs_encodable source live =
    each_append IsEncodable (when (not (all_live live)) (operand_words source 28 29)) (makes_overflow source live)
    (encodable_when (not (all_live live)) (operand_words source 28 29) (operands_encodable source 28 29 (lit< tt) (lit< tt)))
    (each_append IsEncodable (when (is_made source live.v) (overflow_words source)) (makes_negative source live)
    (encodable_when (is_made source live.v) (overflow_words source) (overflow_encodable source))
    (each_append IsEncodable (when (is_made source live.n) (negative_words source)) (when (is_made source live.z) (zero_words source))
    (encodable_when (is_made source live.n) (negative_words source) (negative_encodable source))
    (encodable_when (is_made source live.z) (zero_words source) (zero_encodable source))))

carry_code_encodable : (source : CodeSource) (live : Bool) → Each IsEncodable (carry_code source live)
carry_code_encodable source live =
    each_append IsEncodable (when (not live) (operand_words source 15 30)) (when (is_made source live) (carry_words source))
    (encodable_when (not live) (operand_words source 15 30) (operands_encodable source 15 30 (lit< tt) (lit< tt)))
    (encodable_when (is_made source live) (carry_words source) (carry_encodable source))

pub words_encodable : (sources : CodeSources) (live : Flags) → All IsEncodable (code_words sources live)
words_encodable sources live =
    all_of IsEncodable (code_words sources live)
    (each_append IsEncodable (carry_code sources.c live.c) (signs_code sources.nzv live) (carry_code_encodable sources.c live.c) (signs_encodable sources.nzv live))
