-- How far one look at a word comes, and which steps arrive at another block.
use Rattle.std.proofs.Common.{◌≡◌, ℕ, zero, suc, ◌+◌, ◌-◌, ◌<◌, ◌≤◌, ◌==◌, ◌&&◌, ◌||◌, if◌then◌else◌, Bool, true, false, true≢false, min, nat_lt, ltb-true, eqb-true, eq-eqb, List, length, get_or, Option, Some, None, refl, sym, ap, ◌∙◌, arith}
use Rattle.std.specs.Prelude.{is_some, is_none, option_and_then, slice_index}
use Rattle.std.proofs.lemmas.Bool.{or_from, or_left, or_right}
use Rattle.std.proofs.lemmas.Option.{slice_get_read}
use Rattle.address_map.specs.Pairs.{address_at}
use Rattle.alpha_encode.specs.Words.{instr_at}
use Rattle.alpha_meaning.specs.State.{Alpha}
use Rattle.block_law.specs.Translations.{Code}
use Rattle.prepared_code.specs.Inside.{local_by, step_in, steps_in, unless_begun}
use Rattle.prepared_code.specs.Known.{AreKnown, flat_at, flat_of, most_straight, straight_words}
use Rattle.prepared_code.specs.Strides.{arrives, fork_of, lands_behind, lands_next, one_of, steps_next, stride_of, tells_landing}
use Rattle.prepared_code.specs.declared.flat.Flat.{Flat}
use Rattle.prepared_code.specs.declared.run.Stride.{Stride}
use Rattle.prepared_code.specs.declared.run.Stride.TheVariants.{Inside, Landed}
use Rattle.prepared_code.proofs.Known.{none_behind, other_behind}

-- ---- the word that is looked up
pub known_there : (code : Code) (flats : List Flat) (place : ℕ) (f : Flat) → AreKnown code flats → place < length flats → f ≡ get_or flats place f → f ≡ flat_of code place
known_there code flats place f known within found = known.each place f (slice_get_read flats (length flats) place f refl within found)

pub number_there : (code : Code) (flats : List Flat) (place : ℕ) (f : Flat) → AreKnown code flats → place < length flats → f ≡ get_or flats place f → f.number ≡ straight_words code place most_straight
number_there code flats place f known within found = ap (λ (g : Flat). g.number) (known_there code flats place f known within found)

pub tells_there : (code : Code) (flats : List Flat) (place : ℕ) (f : Flat) → AreKnown code flats → place < length flats → f ≡ get_or flats place f
    → tells_landing (flat_at code place).way ≡ tells_landing f.way
tells_there code flats place f known within found = sym (ap (λ (g : Flat). tells_landing g.way) (known_there code flats place f known within found))

-- ---- whether its step leads to another block
nowhere : (code : Code) (c : Alpha) (n m : ℕ) → steps_in code c n ≡ None → steps_in code c (n + m) ≡ None
nowhere code c n zero e = let same : n + zero ≡ n = omega arith in ap (steps_in code c) same ∙ e
nowhere code c n (suc m) e =
    let same : n + suc m ≡ suc (n + m) = omega arith in
    ap (steps_in code c) same ∙ ap (option_and_then (step_in code)) (nowhere code c n m e)

pub not_told : (code : Code) (c : Alpha) → tells_landing (flat_at code c.pc).way ≡ false → lands_next code c ≡ false
unfolding lands_next
not_told code c e = ap (λ b. b && is_none (step_in code c)) e

pub not_landing : (code : Code) (c d : Alpha) → step_in code c ≡ Some d → lands_next code c ≡ false
unfolding lands_next
not_landing code c d e = by (tells_landing (flat_at code c.pc).way)
  where
    by : (b : Bool) → (b && is_none (step_in code c)) ≡ false
    by true = ap is_none e
    by false = refl

pub told : (code : Code) (c : Alpha) → tells_landing (flat_at code c.pc).way ≡ true → step_in code c ≡ None → lands_next code c ≡ true
unfolding lands_next
told code c e stop = ap (λ b. b && is_none (step_in code c)) e ∙ ap is_none stop

pub some_inside : (code : Code) (c d : Alpha) (n : ℕ) → steps_in code c n ≡ Some d → 0 < n → lands_next code c ≡ false
some_inside code c d n ran some = by (step_in code c) refl
  where
    is_not : (x : Alpha) → None ≡ Some x → ⊥
    is_not x e = cc e

    by : (o : Option Alpha) → step_in code c ≡ o → lands_next code c ≡ false
    by None e =
        let all : 1 + (n - 1) ≡ n = omega (arith, some) in
        let none : steps_in code c n ≡ None = ap (steps_in code c) (sym all) ∙ nowhere code c 1 (n - 1) e in
        absurd (is_not d (sym none ∙ ran))
    by (Some e) is = not_landing code c e is

-- ---- how many steps stay inside
pub straight_steps : (code : Code) (c : Alpha) (most number : ℕ) → number ≡ straight_words code c.pc most_straight → 0 < number → min most number ≡ steps_next code c most
unfolding steps_next
straight_steps code c most number e some = by (straight_words code c.pc most_straight == 0) refl
  where
    by : (b : Bool) → (straight_words code c.pc most_straight == 0) ≡ b → min most number ≡ (if b then one_of (step_in code c) else min most (straight_words code c.pc most_straight))
    by true is = absurd (omega (arith, e, some, eqb-true (straight_words code c.pc most_straight) 0 is))
    by false is = ap (min most) e

pub other_steps : (code : Code) (c : Alpha) (most number steps : ℕ) → number ≡ straight_words code c.pc most_straight → number ≤ 0 → steps ≡ one_of (step_in code c) → steps ≡ steps_next code c most
unfolding steps_next
other_steps code c most number steps e none one =
    let zero_words : straight_words code c.pc most_straight ≡ 0 = omega (arith, e, none) in
    one ∙ sym (ap (λ n. if n == 0 then one_of (step_in code c) else min most n) zero_words)

-- none behind the words
pub no_steps : (code : Code) (c : Alpha) → length code.words ≤ c.pc → step_in code c ≡ None
no_steps code c past = by (nat_lt c.pc (length code.words)) refl
  where
    by : (b : Bool) → nat_lt c.pc (length code.words) ≡ b
        → option_and_then (λ (d : Alpha). unless_begun (address_at code.map d.pc) d) (local_by (if b then instr_at (slice_index code.words c.pc) else None) c) ≡ None
    by true e = absurd (omega (arith, ltb-true c.pc (length code.words) e, past))
    by false e = refl

not_told_behind : (code : Code) (place : ℕ) → length code.words ≤ place → tells_landing (flat_at code place).way ≡ false
not_told_behind code place past = ap (λ (f : Flat). tells_landing f.way) (other_behind code place past)

-- one step or none
pub one_or_none : (code : Code) (c d : Alpha) (steps : ℕ) → steps ≤ 1 → steps_in code c steps ≡ Some d → (steps ≡ 0 → step_in code d ≡ None) → steps ≡ one_of (step_in code c)
one_or_none code c d zero few ran stops =
    let same : c ≡ d = cc ran in
    sym (ap one_of (ap (step_in code) same ∙ stops refl))
one_or_none code c d (suc zero) few ran stops = sym (ap one_of ran)
one_or_none code c d (suc (suc n)) few ran stops = absurd (omega (arith, few))

-- ---- what one look comes to
pub inside_is : (code : Code) (c : Alpha) (most steps : ℕ) → lands_next code c ≡ false → steps ≡ steps_next code c most → Inside steps ≡ stride_of code c most
inside_is code c most steps none counted = ap Inside counted ∙ sym (ap (λ b. if b then Landed else Inside (steps_next code c most)) none)

pub landed_is : (code : Code) (c : Alpha) (most : ℕ) → lands_next code c ≡ true → Landed ≡ stride_of code c most
landed_is code c most lands = sym (ap (λ b. if b then Landed else Inside (steps_next code c most)) lands)

pub fork_is : (code : Code) (c : Alpha) (most number : ℕ) (s : Stride) → tells_landing (flat_at code c.pc).way ≡ true → number ≡ straight_words code c.pc most_straight → number ≤ 0 → s ≡ fork_of code c → s ≡ stride_of code c most
fork_is code c most number s tells counted none is = is ∙ by (step_in code c) refl
  where
    by : (o : Option Alpha) → step_in code c ≡ o → (if is_some o then Inside 1 else Landed) ≡ stride_of code c most
    by None e = landed_is code c most (told code c tells e)
    by (Some d) e = inside_is code c most 1 (not_landing code c d e) (other_steps code c most number 1 counted none (sym (ap one_of e)))

pub nowhere_is : (code : Code) (c : Alpha) (most : ℕ) → length code.words ≤ c.pc → Inside 0 ≡ stride_of code c most
nowhere_is code c most past =
    inside_is code c most 0 (not_told code c (not_told_behind code c.pc past))
    (other_steps code c most 0 0 (sym (none_behind code c.pc past)) (omega arith) (sym (ap one_of (no_steps code c past))))

-- it makes no step only where none stays inside
pub stuck : (code : Code) (c : Alpha) (most : ℕ) → 0 < most → Inside 0 ≡ stride_of code c most → (step_in code c ≡ None) × (lands_next code c ≡ false)
unfolding steps_next
stuck code c most some is = by (lands_next code c) refl is
  where
    none : (o : Option Alpha) → 0 ≡ one_of o → o ≡ None
    none None e = refl
    none (Some d) e = absurd (omega (arith, e))

    looked : (b : Bool) → (straight_words code c.pc most_straight == 0) ≡ b → 0 ≡ (if b then one_of (step_in code c) else min most (straight_words code c.pc most_straight)) → step_in code c ≡ None
    looked true e counted = none (step_in code c) counted
    looked false e counted =
        let no : straight_words code c.pc most_straight ≡ 0 = omega (arith, counted, some) in
        absurd (true≢false (sym (eq-eqb (straight_words code c.pc most_straight) 0 no) ∙ e))

    by : (b : Bool) → lands_next code c ≡ b → Inside 0 ≡ (if b then Landed else Inside (steps_next code c most)) → (step_in code c ≡ None) × (lands_next code c ≡ false)
    by true e is = absurd (cc is)
    by false e is = let counted : 0 ≡ steps_next code c most = cc is in (looked (straight_words code c.pc most_straight == 0) refl counted, e)

pub has_landed : (code : Code) (c : Alpha) (most : ℕ) → Landed ≡ stride_of code c most → lands_next code c ≡ true
has_landed code c most is = by (lands_next code c) refl is
  where
    by : (b : Bool) → lands_next code c ≡ b → Landed ≡ (if b then Landed else Inside (steps_next code c most)) → lands_next code c ≡ true
    by true e is = e
    by false e is = absurd (cc is)

-- ---- many steps
-- none of them arrives that are made inside the block
pub none_inside : (code : Code) (c d : Alpha) (n : ℕ) → steps_in code c n ≡ Some d → arrives code c n ≡ false
none_inside code c d zero ran = refl
none_inside code c d (suc n) ran = by (steps_in code c n) refl ran (λ e. none_inside code c e n)
  where
    by : (o : Option Alpha) → steps_in code c n ≡ o → option_and_then (step_in code) o ≡ Some d → ((e : Alpha) → steps_in code c n ≡ Some e → arrives code c n ≡ false)
        → (arrives code c n || lands_behind code o) ≡ false
    by None is r before = absurd (cc r)
    by (Some e) is r before = or_from (arrives code c n) (lands_next code e) (before e is) (not_landing code e d r)

later : (code : Code) (c : Alpha) (n m : ℕ) → arrives code c n ≡ true → arrives code c (n + m) ≡ true
later code c n zero e = let same : n + zero ≡ n = omega arith in ap (arrives code c) same ∙ e
later code c n (suc m) e =
    let same : n + suc m ≡ suc (n + m) = omega arith in
    ap (arrives code c) same ∙ or_left (arrives code c (n + m)) (lands_behind code (steps_in code c (n + m))) (later code c n m e)

-- the one behind them does
pub arrives_there : (code : Code) (c d : Alpha) (n most : ℕ) → steps_in code c n ≡ Some d → lands_next code d ≡ true → n < most → arrives code c most ≡ true
arrives_there code c d n most ran lands few =
    let all : most ≡ suc n + (most - suc n) = omega (arith, few) in
    ap (arrives code c) all
    ∙ later code c (suc n) (most - suc n) (or_right (arrives code c n) (lands_behind code (steps_in code c n)) (ap (lands_behind code) ran ∙ lands))

never : (code : Code) (c : Alpha) (n m : ℕ) → steps_in code c n ≡ None → arrives code c n ≡ false → arrives code c (n + m) ≡ false
never code c n zero none e = let same : n + zero ≡ n = omega arith in ap (arrives code c) same ∙ e
never code c n (suc m) none e =
    let same : n + suc m ≡ suc (n + m) = omega arith in
    ap (arrives code c) same
    ∙ or_from (arrives code c (n + m)) (lands_behind code (steps_in code c (n + m))) (never code c n m none e) (ap (lands_behind code) (nowhere code c n m none))

-- none does where the one behind them stays nowhere
pub arrives_nowhere : (code : Code) (c d : Alpha) (n most : ℕ) → steps_in code c n ≡ Some d → step_in code d ≡ None → lands_next code d ≡ false → n < most → arrives code c most ≡ false
arrives_nowhere code c d n most ran stop lands few =
    let all : most ≡ suc n + (most - suc n) = omega (arith, few) in
    ap (arrives code c) all
    ∙ never code c (suc n) (most - suc n) (ap (option_and_then (step_in code)) ran ∙ stop)
    (or_from (arrives code c n) (lands_behind code (steps_in code c n)) (none_inside code c d n ran) (ap (lands_behind code) ran ∙ lands))
