-- The words leave the codes: from the registers that an instruction's program leaves to those behind its codes.
use Rattle.std.proofs.Common.{◌≡◌, ℕ, ◌<◌, refl, sym, ap, ◌∙◌, subst, List, Bool, true, false, lit<, lit≤}
use Rattle.std.proofs.lemmas.Bool.{and_parts, and_right}
use Rattle.std.specs.Prelude.{◌==◌, ◌&&◌, ◌||◌, not}
use Rattle.std.specs.List.{list_all}
use Rattle.vax_form.specs.declared.state.Flags.{Flags}
use Rattle.vax_form.specs.declared.state.VaxState.{VaxState}
use Rattle.alpha_encode.specs.declared.instr.AlphaInstr.{AlphaInstr}
use Rattle.alpha_meaning.specs.State.{Regs}
use Rattle.alpha_meaning.specs.Loops.{effects, fine}
use Rattle.micro_ops.specs.Meaning.{Temps, Departure, flag_of}
use Rattle.micro_ops.specs.Leaving.{SignsComeFrom, CarryComesFrom, CodesComeFrom, state_left}
use Rattle.micro_ops.specs.declared.codes.CodeSource.{CodeSource}
use Rattle.micro_ops.specs.declared.codes.CodeSource.TheVariants.{Kept, Add}
use Rattle.micro_ops.specs.declared.codes.CodeSources.{CodeSources}
use Rattle.exception_records.specs.Codes.{codes_by, is_ready}
use Rattle.exception_records.specs.Shown.{codes_shown, still_held}
use Rattle.exception_records.specs.declared.rules.Rules.{Rules}
use Rattle.block_law.specs.CodeWords.{codes_in, temps_in, ShowCodes}
use Rattle.micro_ops.specs.Sources.{is_written, codes_written_by}
use Rattle.code_runs.specs.Rules.{rule_of, rules_behind}
use Rattle.flag_codegen.specs.Made.{is_made}
use Rattle.flag_codegen.specs.Words.{when, all_live, negative_words, zero_words, overflow_words, carry_words, operand_words, carry_code, signs_code, code_words}
use Rattle.flag_codegen.proofs.Frames.{stays, effects_append, written_there, may_negative, may_zero, may_overflow, may_carry, may_operands, may_carry_operands, negative_fine, zero_fine, overflow_fine, carry_fine, operands_fine, carry_operands_fine}
use Rattle.flag_codegen.proofs.Values.{Hold, SumIsResult, negative_is, zero_is, overflow_is, carry_is}
use Rattle.flag_codegen.proofs.Told.{AreOperands, operands_kept, carry_operands_kept, negative_told, zero_told, overflow_told, carry_told}
use Rattle.flag_codegen.proofs.Shown.{Facts, shown_behind, flag_small, hold_four}
use Rattle.flag_codegen.proofs.Whole.{makes_negative, makes_overflow, same_flags}

-- ---- words that may be left out
abbrev step : Bool → List AlphaInstr → Regs → Regs
step b words f = effects (when b words) f

stays_when : (may : ℕ → Bool) (b : Bool) (is : List AlphaInstr) (f : Regs) (n : ℕ) → list_all (fine may) is ≡ true → may n ≡ false → step b is f n ≡ f n
stays_when may true is f n ok out = stays may is f n ok out
stays_when may false is f n ok out = refl

left_out : (b : Bool) (is : List AlphaInstr) (f : Regs) (n : ℕ) → b ≡ false → step b is f n ≡ f n
left_out true is f n e = absurd (cc e)
left_out false is f n e = refl

stands : (b : Bool) (is : List AlphaInstr) (f : Regs) (n v : ℕ) → b ≡ true → effects is f n ≡ v → step b is f n ≡ v
stands true is f n v e h = h
stands false is f n v e h = absurd (cc e)

-- one that the source's words never write, or any where its codes stay
out_of : (source : CodeSource) (may : ℕ → Bool) (n : ℕ) → may n ≡ false → written_there source may n ≡ false
out_of source may n e = rw e (never (is_written source))
  where
    never : (b : Bool) → (b && false) ≡ false
    never true = refl
    never false = refl

out_where : (source : CodeSource) (may : ℕ → Bool) (n : ℕ) → is_written source ≡ false → written_there source may n ≡ false
out_where source may n e = rw e refl

hold_on : (f g : Regs) (temps : Temps) → Hold f temps → g 31 ≡ f 31 → g 21 ≡ f 21 → g 22 ≡ f 22 → g 23 ≡ f 23 → Hold g temps
hold_on f g temps hold z a b r = record { zero = z ∙ hold.zero; first = a ∙ hold.first; second = b ∙ hold.second; result = r ∙ hold.result }

same_operands : (source : CodeSource) (temps : Temps) (a b a' b' : ℕ) → a' ≡ a → b' ≡ b → AreOperands source a b temps → AreOperands source a' b' temps
same_operands source temps a b a' b' e e' h = subst (λ x. AreOperands source x b' temps) (sym e) (subst (λ x. AreOperands source a x temps) (sym e') h)

-- ---- flags that stay
signs_stay : (source : CodeSource) (found left : ℕ) (temps : Temps) → is_written source ≡ false → SignsComeFrom source found left temps
    → (flag_of 0 left ≡ flag_of 0 found) × (flag_of 1 left ≡ flag_of 1 found) × (flag_of 2 left ≡ flag_of 2 found)
signs_stay Kept found left temps w h = h
signs_stay source found left temps w h = absurd (cc w)

carry_stays : (source : CodeSource) (found left : ℕ) (temps : Temps) → is_written source ≡ false → CarryComesFrom source found left temps → flag_of 3 left ≡ flag_of 3 found
carry_stays Kept found left temps w h = h
carry_stays source found left temps w h = absurd (cc w)

-- ---- a sum's carry comes with its result
abbrev pub pairs : (c nzv : CodeSource) → Type 0
pairs (Add size) nzv = nzv ≡ Add size
pairs c nzv = Unit {0}

result_is_sum : (c nzv : CodeSource) (found left : ℕ) (temps : Temps) → pairs c nzv → SignsComeFrom nzv found left temps → SumIsResult temps c
result_is_sum (Add size) nzv found left temps e h = (subst (λ source. SignsComeFrom source found left temps) e h).1
result_is_sum c nzv found left temps e h = tt

-- ---- the registers behind each part of the words
hold_when : (source : CodeSource) (may : ℕ → Bool) (b : Bool) (is : List AlphaInstr) (f : Regs) (temps : Temps) → list_all (fine (written_there source may)) is ≡ true
    → may 31 ≡ false → may 21 ≡ false → may 22 ≡ false → may 23 ≡ false → Hold f temps → Hold (step b is f) temps
hold_when source may b is f temps ok z x y r hold = hold_on f (step b is f) temps hold (same 31 z) (same 21 x) (same 22 y) (same 23 r)
  where
    same : (n : ℕ) → may n ≡ false → step b is f n ≡ f n
    same n e = stays_when (written_there source may) b is f n ok (out_of source may n e)

step_taken : (b : Bool) (is : List AlphaInstr) (f : Regs) → b ≡ true → effects is f ≡ step b is f
step_taken true is f e = refl
step_taken false is f e = absurd (cc e)

some_dead : (live : Flags) (b : Bool) → b ≡ false → all_live live ≡ b → not (all_live live) ≡ true
some_dead live b e e' = rw (e', e) refl

made_written : (source : CodeSource) (live : Bool) → is_made source live ≡ true → is_written source ≡ true
made_written source live h = (and_parts (is_written source) (live || is_ready (rule_of source)) h).0

first_dead : (live : Flags) → live.n ≡ false → all_live live ≡ false
first_dead live e = rw e refl

second_dead : (live : Flags) → live.z ≡ false → all_live live ≡ false
second_dead live e = rw e (never live.n)
  where
    never : (b : Bool) → (b && false && live.v) ≡ false
    never true = refl
    never false = refl

third_dead : (live : Flags) → live.v ≡ false → all_live live ≡ false
third_dead live e = and_right (live.n && live.z) live.v e

module _ (sources : CodeSources) (live : Flags) (before : Rules) (regs : Regs) (held : Flags) (found : VaxState) (departure : Departure)
    (show : ShowCodes regs before held found) (come : CodesComeFrom sources found (record { departure = departure; temps = temps_in regs })) (pair : pairs sources.c sources.nzv) where
  abbrev left : ℕ
  left = (state_left departure).psw

  abbrev temps : Temps
  temps = temps_in regs

  abbrev behind_a : Regs
  behind_a = step (not live.c) (operand_words sources.c 15 30) regs

  abbrev behind_b : Regs
  behind_b = step (is_made sources.c live.c) (carry_words sources.c) behind_a

  abbrev behind_d : Regs
  behind_d = step (not (all_live live)) (operand_words sources.nzv 28 29) behind_b

  abbrev behind_e : Regs
  behind_e = step (is_made sources.nzv live.v) (overflow_words sources.nzv) behind_d

  abbrev behind_f : Regs
  behind_f = step (is_made sources.nzv live.n) (negative_words sources.nzv) behind_e

  abbrev behind : Regs
  behind = step (is_made sources.nzv live.z) (zero_words sources.nzv) behind_f

  whole : effects (code_words sources live) regs ≡ behind
  whole =
      effects_append (carry_code sources.c live.c) (signs_code sources.nzv live) regs
      ∙ (ap (effects (signs_code sources.nzv live)) (effects_append (when (not live.c) (operand_words sources.c 15 30)) (when (is_made sources.c live.c) (carry_words sources.c)) regs)
      ∙ (effects_append (when (not (all_live live)) (operand_words sources.nzv 28 29)) (makes_overflow sources.nzv live) behind_b
      ∙ (effects_append (when (is_made sources.nzv live.v) (overflow_words sources.nzv)) (makes_negative sources.nzv live) behind_d
      ∙ effects_append (when (is_made sources.nzv live.n) (negative_words sources.nzv)) (when (is_made sources.nzv live.z) (zero_words sources.nzv)) behind_e)))

  -- ---- what stays
  a_stays : (n : ℕ) → may_carry_operands n ≡ false → behind_a n ≡ regs n
  a_stays n e = stays_when (written_there sources.c may_carry_operands) (not live.c) (operand_words sources.c 15 30) regs n (carry_operands_fine sources.c) (out_of sources.c may_carry_operands n e)

  b_stays : (n : ℕ) → may_carry n ≡ false → behind_b n ≡ behind_a n
  b_stays n e = stays_when (written_there sources.c may_carry) (is_made sources.c live.c) (carry_words sources.c) behind_a n (carry_fine sources.c) (out_of sources.c may_carry n e)

  d_stays : (n : ℕ) → written_there sources.nzv may_operands n ≡ false → behind_d n ≡ behind_b n
  d_stays n e = stays_when (written_there sources.nzv may_operands) (not (all_live live)) (operand_words sources.nzv 28 29) behind_b n (operands_fine sources.nzv) e

  e_stays : (n : ℕ) → written_there sources.nzv may_overflow n ≡ false → behind_e n ≡ behind_d n
  e_stays n e = stays_when (written_there sources.nzv may_overflow) (is_made sources.nzv live.v) (overflow_words sources.nzv) behind_d n (overflow_fine sources.nzv) e

  f_stays : (n : ℕ) → written_there sources.nzv may_negative n ≡ false → behind_f n ≡ behind_e n
  f_stays n e = stays_when (written_there sources.nzv may_negative) (is_made sources.nzv live.n) (negative_words sources.nzv) behind_e n (negative_fine sources.nzv) e

  g_stays : (n : ℕ) → written_there sources.nzv may_zero n ≡ false → behind n ≡ behind_f n
  g_stays n e = stays_when (written_there sources.nzv may_zero) (is_made sources.nzv live.z) (zero_words sources.nzv) behind_f n (zero_fine sources.nzv) e

  -- behind the words of C, and behind the operands of the rule of the other codes
  by_carry : (n : ℕ) → may_carry n ≡ false → may_carry_operands n ≡ false → behind_b n ≡ regs n
  by_carry n e e' = b_stays n e ∙ a_stays n e'

  by_codes : (n : ℕ) → may_overflow n ≡ false → may_negative n ≡ false → may_zero n ≡ false → behind n ≡ behind_d n
  by_codes n v x z = g_stays n (out_of sources.nzv may_zero n z) ∙ (f_stays n (out_of sources.nzv may_negative n x) ∙ e_stays n (out_of sources.nzv may_overflow n v))

  by_signs : (n : ℕ) → may_overflow n ≡ false → may_negative n ≡ false → may_zero n ≡ false → may_operands n ≡ false → behind n ≡ behind_b n
  by_signs n v x z o = by_codes n v x z ∙ d_stays n (out_of sources.nzv may_operands n o)

  -- where N, Z and V stay
  idle : (n : ℕ) → is_written sources.nzv ≡ false → may_carry n ≡ false → may_carry_operands n ≡ false → behind n ≡ regs n
  idle n w e e' =
      g_stays n (out_where sources.nzv may_zero n w)
      ∙ (f_stays n (out_where sources.nzv may_negative n w)
      ∙ (e_stays n (out_where sources.nzv may_overflow n w)
      ∙ (d_stays n (out_where sources.nzv may_operands n w) ∙ by_carry n e e')))

  -- ---- the temporaries
  hold : Hold regs temps
  hold = record { zero = show.zero; first = refl; second = refl; result = refl }

  hold_a : Hold behind_a temps
  hold_a = hold_when sources.c may_carry_operands (not live.c) (operand_words sources.c 15 30) regs temps (carry_operands_fine sources.c) refl refl refl refl hold

  hold_b : Hold behind_b temps
  hold_b = hold_when sources.c may_carry (is_made sources.c live.c) (carry_words sources.c) behind_a temps (carry_fine sources.c) refl refl refl refl hold_a

  hold_d : Hold behind_d temps
  hold_d = hold_when sources.nzv may_operands (not (all_live live)) (operand_words sources.nzv 28 29) behind_b temps (operands_fine sources.nzv) refl refl refl refl hold_b

  hold_e : Hold behind_e temps
  hold_e = hold_when sources.nzv may_overflow (is_made sources.nzv live.v) (overflow_words sources.nzv) behind_d temps (overflow_fine sources.nzv) refl refl refl refl hold_d

  hold_f : Hold behind_f temps
  hold_f = hold_when sources.nzv may_negative (is_made sources.nzv live.n) (negative_words sources.nzv) behind_e temps (negative_fine sources.nzv) refl refl refl refl hold_e

  -- ---- the operands that are kept
  operands : not (all_live live) ≡ true → AreOperands sources.nzv (behind 28) (behind 29) temps
  operands dead =
      same_operands sources.nzv temps (behind_d 28) (behind_d 29) (behind 28) (behind 29) (by_codes 28 refl refl refl) (by_codes 29 refl refl refl)
      (subst (λ (f : Regs). AreOperands sources.nzv (f 28) (f 29) temps) (step_taken (not (all_live live)) (operand_words sources.nzv 28 29) behind_b dead) (operands_kept sources.nzv behind_b temps hold_b))

  carry_operands : live.c ≡ false → AreOperands sources.c (behind 15) (behind 30) temps
  carry_operands dead =
      same_operands sources.c temps (behind_a 15) (behind_a 30) (behind 15) (behind 30) (by_signs 15 refl refl refl refl ∙ b_stays 15 refl) (by_signs 30 refl refl refl refl ∙ b_stays 30 refl)
      (subst (λ (f : Regs). AreOperands sources.c (f 15) (f 30) temps) (step_taken (not live.c) (operand_words sources.c 15 30) regs (rw dead refl)) (carry_operands_kept sources.c regs temps hold))

  -- ---- the registers of the codes
  negative_made : is_made sources.nzv live.n ≡ true → behind 16 ≡ flag_of 0 left
  negative_made made =
      g_stays 16 (out_of sources.nzv may_zero 16 refl)
      ∙ stands (is_made sources.nzv live.n) (negative_words sources.nzv) behind_e 16 (flag_of 0 left) made (negative_is behind_e temps found.psw left hold_e sources.nzv (made_written sources.nzv live.n made) come.signs)

  zero_made : is_made sources.nzv live.z ≡ true → behind 17 ≡ flag_of 1 left
  zero_made made = stands (is_made sources.nzv live.z) (zero_words sources.nzv) behind_f 17 (flag_of 1 left) made (zero_is behind_f temps found.psw left hold_f sources.nzv (made_written sources.nzv live.z made) come.signs)

  overflow_made : is_made sources.nzv live.v ≡ true → behind 18 ≡ flag_of 2 left
  overflow_made made =
      g_stays 18 (out_of sources.nzv may_zero 18 refl)
      ∙ (f_stays 18 (out_of sources.nzv may_negative 18 refl)
      ∙ stands (is_made sources.nzv live.v) (overflow_words sources.nzv) behind_d 18 (flag_of 2 left) made
      (overflow_is behind_d temps found.psw left hold_d sources.nzv (made_written sources.nzv live.v made) (d_stays 24 (out_of sources.nzv may_operands 24 refl) ∙ by_carry 24 refl refl) come.signs))

  carry_made : is_made sources.c live.c ≡ true → behind 19 ≡ flag_of 3 left
  carry_made made =
      by_signs 19 refl refl refl refl
      ∙ stands (is_made sources.c live.c) (carry_words sources.c) behind_a 19 (flag_of 3 left) made
      (carry_is behind_a temps found.psw left hold_a sources.c (made_written sources.c live.c made) (a_stays 25 refl) (result_is_sum sources.c sources.nzv found.psw left temps pair come.signs) come.carry)

  -- ---- what is known of each code
  negative_facts : Facts sources.nzv live.n held.n before.n (behind 16) (λ rule. (codes_by rule (behind 28) (behind 29)).n) (flag_of 0 left)
  negative_facts = record {
    kept = λ w. rw (idle 16 w refl refl, idle 28 w refl refl, idle 29 w refl refl) (ap (λ (codes : Flags). codes.n) show.codes ∙ ap (λ n. n == 1) (sym (signs_stay sources.nzv found.psw left temps w come.signs).0));
    made = negative_made;
    ruled = λ dead w ruled. negative_told temps found.psw left (behind 28) (behind 29) sources.nzv ruled (operands (some_dead live false refl (first_dead live dead))) come.signs;
    small = flag_small 0 left;
  }

  zero_facts : Facts sources.nzv live.z held.z before.z (behind 17) (λ rule. (codes_by rule (behind 28) (behind 29)).z) (flag_of 1 left)
  zero_facts = record {
    kept = λ w. rw (idle 17 w refl refl, idle 28 w refl refl, idle 29 w refl refl) (ap (λ (codes : Flags). codes.z) show.codes ∙ ap (λ n. n == 1) (sym (signs_stay sources.nzv found.psw left temps w come.signs).1));
    made = zero_made;
    ruled = λ dead w ruled. zero_told temps found.psw left (behind 28) (behind 29) sources.nzv ruled (operands (some_dead live false refl (second_dead live dead))) come.signs;
    small = flag_small 1 left;
  }

  overflow_facts : Facts sources.nzv live.v held.v before.v (behind 18) (λ rule. (codes_by rule (behind 28) (behind 29)).v) (flag_of 2 left)
  overflow_facts = record {
    kept = λ w. rw (idle 18 w refl refl, idle 28 w refl refl, idle 29 w refl refl) (ap (λ (codes : Flags). codes.v) show.codes ∙ ap (λ n. n == 1) (sym (signs_stay sources.nzv found.psw left temps w come.signs).2));
    made = overflow_made;
    ruled = λ dead w ruled. overflow_told temps found.psw left (behind 28) (behind 29) sources.nzv ruled (operands (some_dead live false refl (third_dead live dead))) come.signs;
    small = flag_small 2 left;
  }

  -- where C stays
  carry_idle : (n : ℕ) → is_written sources.c ≡ false → may_overflow n ≡ false → may_negative n ≡ false → may_zero n ≡ false → may_operands n ≡ false → behind n ≡ regs n
  carry_idle n w v x z o =
      by_signs n v x z o
      ∙ (stays_when (written_there sources.c may_carry) (is_made sources.c live.c) (carry_words sources.c) behind_a n (carry_fine sources.c) (out_where sources.c may_carry n w)
      ∙ stays_when (written_there sources.c may_carry_operands) (not live.c) (operand_words sources.c 15 30) regs n (carry_operands_fine sources.c) (out_where sources.c may_carry_operands n w))

  carry_facts : Facts sources.c live.c held.c before.c (behind 19) (λ rule. (codes_by rule (behind 15) (behind 30)).c) (flag_of 3 left)
  carry_facts = record {
    kept = λ w. rw (carry_idle 19 w refl refl refl refl, carry_idle 15 w refl refl refl refl, carry_idle 30 w refl refl refl refl) (ap (λ (codes : Flags). codes.c) show.codes ∙ ap (λ n. n == 1) (sym (carry_stays sources.c found.psw left temps w come.carry)));
    made = carry_made;
    ruled = λ dead w ruled. carry_told temps found.psw left (behind 15) (behind 30) sources.c ruled (carry_operands dead) come.carry;
    small = flag_small 3 left;
  }

  -- ---- all that is shown
  shown : codes_shown behind (rules_behind sources live before) (still_held held (codes_written_by sources)) ≡ codes_in left
  shown = same_flags
      (shown_behind sources.nzv live.n held.n before.n (behind 16) (λ rule. (codes_by rule (behind 28) (behind 29)).n) (flag_of 0 left) negative_facts)
      (shown_behind sources.nzv live.z held.z before.z (behind 17) (λ rule. (codes_by rule (behind 28) (behind 29)).z) (flag_of 1 left) zero_facts)
      (shown_behind sources.nzv live.v held.v before.v (behind 18) (λ rule. (codes_by rule (behind 28) (behind 29)).v) (flag_of 2 left) overflow_facts)
      (shown_behind sources.c live.c held.c before.c (behind 19) (λ rule. (codes_by rule (behind 15) (behind 30)).c) (flag_of 3 left) carry_facts)

  -- a code's register holds its flag, or what it held
  small : (b : Bool) (register old flag : ℕ) → (b ≡ true → register ≡ flag) → (b ≡ false → register ≡ old) → flag < 2 → old < 2 → register < 2
  small true register old flag made out lt lt' = subst (λ n. n < 2) (sym (made refl)) lt
  small false register old flag made out lt lt' = subst (λ n. n < 2) (sym (out refl)) lt'

  negative_out : is_made sources.nzv live.n ≡ false → behind 16 ≡ regs 16
  negative_out e =
      g_stays 16 (out_of sources.nzv may_zero 16 refl)
      ∙ (left_out (is_made sources.nzv live.n) (negative_words sources.nzv) behind_e 16 e
      ∙ (e_stays 16 (out_of sources.nzv may_overflow 16 refl) ∙ (d_stays 16 (out_of sources.nzv may_operands 16 refl) ∙ by_carry 16 refl refl)))

  zero_out : is_made sources.nzv live.z ≡ false → behind 17 ≡ regs 17
  zero_out e =
      left_out (is_made sources.nzv live.z) (zero_words sources.nzv) behind_f 17 e
      ∙ (f_stays 17 (out_of sources.nzv may_negative 17 refl)
      ∙ (e_stays 17 (out_of sources.nzv may_overflow 17 refl) ∙ (d_stays 17 (out_of sources.nzv may_operands 17 refl) ∙ by_carry 17 refl refl)))

  overflow_out : is_made sources.nzv live.v ≡ false → behind 18 ≡ regs 18
  overflow_out e =
      g_stays 18 (out_of sources.nzv may_zero 18 refl)
      ∙ (f_stays 18 (out_of sources.nzv may_negative 18 refl)
      ∙ (left_out (is_made sources.nzv live.v) (overflow_words sources.nzv) behind_d 18 e ∙ (d_stays 18 (out_of sources.nzv may_operands 18 refl) ∙ by_carry 18 refl refl)))

  carry_out : is_made sources.c live.c ≡ false → behind 19 ≡ regs 19
  carry_out e = by_signs 19 refl refl refl refl ∙ (left_out (is_made sources.c live.c) (carry_words sources.c) behind_a 19 e ∙ a_stays 19 refl)

  show_behind : ShowCodes behind (rules_behind sources live before) (still_held held (codes_written_by sources)) (state_left departure)
  show_behind = record {
    zero = by_codes 31 refl refl refl ∙ (d_stays 31 (out_of sources.nzv may_operands 31 refl) ∙ (by_carry 31 refl refl ∙ show.zero));
    hold = hold_four behind
        (small (is_made sources.nzv live.n) (behind 16) (regs 16) (flag_of 0 left) negative_made negative_out (flag_small 0 left) (show.hold 16 (lit≤ tt) (lit< tt)))
        (small (is_made sources.nzv live.z) (behind 17) (regs 17) (flag_of 1 left) zero_made zero_out (flag_small 1 left) (show.hold 17 (lit≤ tt) (lit< tt)))
        (small (is_made sources.nzv live.v) (behind 18) (regs 18) (flag_of 2 left) overflow_made overflow_out (flag_small 2 left) (show.hold 18 (lit≤ tt) (lit< tt)))
        (small (is_made sources.c live.c) (behind 19) (regs 19) (flag_of 3 left) carry_made carry_out (flag_small 3 left) (show.hold 19 (lit≤ tt) (lit< tt)));
    codes = shown;
  }

  pub shown_left : ShowCodes (effects (code_words sources live) regs) (rules_behind sources live before) (still_held held (codes_written_by sources)) (state_left departure)
  shown_left = subst (λ (f : Regs). ShowCodes f (rules_behind sources live before) (still_held held (codes_written_by sources)) (state_left departure)) (sym whole) show_behind
