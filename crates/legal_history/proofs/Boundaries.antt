-- Boundaries: registers set from a state show it, and a mapped boundary begins a block.
use Rattle.std.proofs.Common.{◌≡◌, ℕ, zero, suc, ◌<◌, ◌≤◌, ◌+◌, ◌*◌, ◌/◌, ◌%◌, ◌^◌, ◌==◌, Bool, true, false, if◌then◌else◌, List, [], ◌∷◌, length, Option, Some, None, refl, sym, ap, ◌∙◌, arith, lit<, All}
use Rattle.block_law.specs.Rounds.{block_steps, new_round}
use Rattle.std.specs.Prelude.{nat_lt, map, slice_index}
use Rattle.std.specs.List.{list_any}
use Rattle.std.proofs.lemmas.Bool.Decides.{nat_tests}
use Rattle.vt_words.specs.Quad.{sign_extended}
use Rattle.vt_words.specs.Values.{bit}
use Rattle.vt_words.proofs.Longwords.{extended_low, extended_again}
use Rattle.address_map.specs.Pairs.{word_at}
use Rattle.alpha_meaning.specs.Pieces.{Plain}
use Rattle.alpha_meaning.specs.State.{Regs, at_place}
use Rattle.exception_records.specs.Codes.{codes_by}
use Rattle.exception_records.specs.Shown.{registers_shown, code_shown, is_set, psw_shown}
use Rattle.exception_records.specs.declared.rules.CodeRule.{CodeRule}
use Rattle.exception_records.specs.declared.rules.CodeRule.TheVariants.{Ready, Zero, Result, Add, Sub, Compare}
use Rattle.exception_records.specs.declared.rules.Rules.{Rules}
use Rattle.vax_form.specs.State.{IsState, with_core}
use Rattle.vax_form.specs.declared.state.Flags.{Flags}
use Rattle.vax_form.specs.declared.state.Pending.{Pending}
use Rattle.vax_form.specs.declared.state.Pending.TheVariants.{Nothing, Deliver, Resume}
use Rattle.vax_form.specs.declared.state.VaxState.{VaxState}
use Rattle.block_law.specs.Placements.{InForm}
use Rattle.block_law.specs.Translations.{Meets, Permit}
use Rattle.system_model.specs.Settings.{Setting, goes_on, unless_pending}
use Rattle.system_model.specs.Ranges.{covers, word_for}
use Rattle.system_model.specs.Processors.{all_held, registers_of}
use Rattle.block_law.specs.Sound.{IsSound, AllowsFew}
use Rattle.legal_history.proofs.Blocks.{IsForm, Owes}

low_small : (x : ℕ) → x < 2 ^ 32 → sign_extended x 32 % 2 ^ 32 ≡ x
low_small x h = extended_low x ∙ small
  where
    small : x % 2 ^ 32 ≡ x
    small = omega arith

all_registers : (r : List ℕ) → length r ≡ 15 → All (λ v. v < 2 ^ 32) r
    → map (λ n. sign_extended (slice_index r n) 32 % 2 ^ 32) (0 ∷ 1 ∷ 2 ∷ 3 ∷ 4 ∷ 5 ∷ 6 ∷ 7 ∷ 8 ∷ 9 ∷ 10 ∷ 11 ∷ 12 ∷ 13 ∷ 14 ∷ []) ≡ r
all_registers (a ∷ b ∷ c ∷ d ∷ e ∷ f ∷ g ∷ h ∷ i ∷ j ∷ k ∷ l ∷ m ∷ n ∷ o ∷ []) len all =
    let ea = low_small a (all 0 0 (lit< tt)) in
    let eb = low_small b (all 1 0 (lit< tt)) in
    let ec = low_small c (all 2 0 (lit< tt)) in
    let ed = low_small d (all 3 0 (lit< tt)) in
    let ee = low_small e (all 4 0 (lit< tt)) in
    let ef = low_small f (all 5 0 (lit< tt)) in
    let eg = low_small g (all 6 0 (lit< tt)) in
    let eh = low_small h (all 7 0 (lit< tt)) in
    let ei = low_small i (all 8 0 (lit< tt)) in
    let ej = low_small j (all 9 0 (lit< tt)) in
    let ek = low_small k (all 10 0 (lit< tt)) in
    let el = low_small l (all 11 0 (lit< tt)) in
    let em = low_small m (all 12 0 (lit< tt)) in
    let en = low_small n (all 13 0 (lit< tt)) in
    let eo = low_small o (all 14 0 (lit< tt)) in
    rw (ea, eb, ec, ed, ee, ef, eg, eh, ei, ej, ek, el, em, en, eo) refl
all_registers r len all = absurd (omega arith)

held_code : (rule : CodeRule) (x y : Bool) → code_shown rule true x y ≡ x
held_code Ready x y = refl
held_code Zero x y = refl
held_code (Result size) x y = refl
held_code (Add size) x y = refl
held_code (Sub size) x y = refl
held_code (Compare size) x y = refl

bit_of : (n : ℕ) → n < 2 → bit (is_set n) ≡ n
bit_of zero h = refl
bit_of (suc zero) h = refl
bit_of (suc (suc n)) h = absurd (omega arith)

below_15 : (n : ℕ) → n < 15 → nat_lt n 15 ≡ true
below_15 n h = grind (arith, nat_tests)

register_below : (state : VaxState) (n : ℕ) → n < 15 → registers_of state n ≡ sign_extended (slice_index state.r n) 32
unfolding registers_of
register_below state n h = ap (λ b. if b then sign_extended (slice_index state.r n) 32
    else if n == 16 then state.psw / 8 % 2
    else if n == 17 then state.psw / 4 % 2
    else if n == 18 then state.psw / 2 % 2
    else if n == 19 then state.psw % 2
    else if n == 20 then state.psw / 16 % 16 * 16
    else 0) (below_15 n h)

code_below : (state : VaxState) (n : ℕ) → 16 ≤ n → n < 20 → registers_of state n < 2
unfolding registers_of
code_below state n low high = by (nat_lt n 15) (n == 16) (n == 17) (n == 18) (n == 19) (n == 20) refl refl
  where
    by : (under a b c d e : Bool) → nat_lt n 15 ≡ under → (n == 20) ≡ e
        → (if under then sign_extended (slice_index state.r n) 32 else if a then state.psw / 8 % 2 else if b then state.psw / 4 % 2 else if c then state.psw / 2 % 2 else if d then state.psw % 2 else if e then state.psw / 16 % 16 * 16 else 0) < 2
    by true a b c d e u z = absurd (grind (arith, nat_tests))
    by false true b c d e u z = omega arith
    by false false true c d e u z = omega arith
    by false false false true d e u z = omega arith
    by false false false false true e u z = omega arith
    by false false false false false true u z = absurd (grind (arith, nat_tests))
    by false false false false false false u z = omega arith

status_of : (state : VaxState) → registers_of state 20 ≡ state.psw / 16 % 16 * 16
unfolding registers_of
status_of state = refl

zero_of : (state : VaxState) → registers_of state 31 ≡ 0
unfolding registers_of
zero_of state = refl

n_of : (state : VaxState) → registers_of state 16 ≡ state.psw / 8 % 2
unfolding registers_of
n_of state = refl

z_of : (state : VaxState) → registers_of state 17 ≡ state.psw / 4 % 2
unfolding registers_of
z_of state = refl

v_of : (state : VaxState) → registers_of state 18 ≡ state.psw / 2 % 2
unfolding registers_of
v_of state = refl

c_of : (state : VaxState) → registers_of state 19 ≡ state.psw % 2
unfolding registers_of
c_of state = refl

form_of : (state : VaxState) → InForm (registers_of state)
form_of state = record {
  longwords = λ n h. ap (λ x. sign_extended x 32) (register_below state n h) ∙ extended_again (slice_index state.r n) ∙ sym (register_below state n h);
  codes = λ n low high. code_below state n low high;
  status = omega (arith, status_of state);
  status_only = omega (arith, status_of state);
  zero = zero_of state;
}

code_is : (rule : CodeRule) (value from : ℕ) (by_rule : Bool) → value ≡ from → from < 2 → bit (code_shown rule true (is_set value) by_rule) ≡ from
code_is rule value from by_rule e h = ap bit (held_code rule (is_set value) by_rule) ∙ ap (λ n. bit (is_set n)) e ∙ bit_of from h

psw_sum : (psw r n z v c : ℕ) → psw < 256 → r ≡ psw / 16 % 16 * 16 → n ≡ psw / 8 % 2 → z ≡ psw / 4 % 2 → v ≡ psw / 2 % 2 → c ≡ psw % 2 → r / 16 % 16 * 16 + (n * 8 + z * 4 + v * 2 + c) ≡ psw
psw_sum psw r n z v c h er en ez ev ec = omega (arith, h, er, en, ez, ev, ec)

psw_is : (state : VaxState) (rules : Rules) → state.psw < 256 → psw_shown (registers_of state) rules all_held ≡ state.psw
psw_is state rules h =
    let regs = registers_of state in
    psw_sum state.psw (regs 20) (bit (code_shown rules.n true (is_set (regs 16)) (codes_by rules.n (regs 28) (regs 29)).n)) (bit (code_shown rules.z true (is_set (regs 17)) (codes_by rules.z (regs 28) (regs 29)).z))
    (bit (code_shown rules.v true (is_set (regs 18)) (codes_by rules.v (regs 28) (regs 29)).v)) (bit (code_shown rules.c true (is_set (regs 19)) (codes_by rules.c (regs 15) (regs 30)).c)) h
    (status_of state)
    (code_is rules.n (regs 16) (state.psw / 8 % 2) (codes_by rules.n (regs 28) (regs 29)).n (n_of state) (omega arith))
    (code_is rules.z (regs 17) (state.psw / 4 % 2) (codes_by rules.z (regs 28) (regs 29)).z (z_of state) (omega arith))
    (code_is rules.v (regs 18) (state.psw / 2 % 2) (codes_by rules.v (regs 28) (regs 29)).v (v_of state) (omega arith))
    (code_is rules.c (regs 19) (state.psw % 2) (codes_by rules.c (regs 15) (regs 30)).c (c_of state) (omega arith))

registers_are : (state : VaxState) → IsState state → registers_shown (registers_of state) ≡ state.r
registers_are state is =
    let at = λ (n : ℕ) (h : n < 15). ap (λ x. x % 2 ^ 32) (register_below state n h) in
    rw (at 0 (lit< tt), at 1 (lit< tt), at 2 (lit< tt), at 3 (lit< tt), at 4 (lit< tt), at 5 (lit< tt), at 6 (lit< tt), at 7 (lit< tt), at 8 (lit< tt), at 9 (lit< tt), at 10 (lit< tt), at 11 (lit< tt), at 12 (lit< tt), at 13 (lit< tt), at 14 (lit< tt))
    (all_registers state.r is.registers is.longwords)

-- registers set from a state show it, whatever the rules are, where all codes are held
pub fresh : (setting : Setting) (state : VaxState) → IsState state → IsForm setting state all_held (registers_of state)
fresh setting state is = record {
  form = form_of state;
  shows = λ word point w h. sym (ap (λ r. with_core state r state.pc (psw_shown (registers_of state) point.rules all_held)) (registers_are state is) ∙ ap (with_core state state.r state.pc) (psw_is state point.rules is.psw));
}

mapped : (b : Bool) (o : Option ℕ) (word : ℕ) → (if b then None else o) ≡ Some word → o ≡ Some word
mapped true o word h = absurd (cc h)
mapped false o word h = h

pub awake : (pending : Pending) (o : Option ℕ) (word : ℕ) → unless_pending pending o ≡ Some word → (pending ≡ Nothing) × (o ≡ Some word)
awake Nothing o word h = (refl, h)
awake (Deliver x) o word h = absurd (cc h)
awake Resume o word h = absurd (cc h)

-- where a thread goes on in Alpha code, its block follows its instruction's tree
pub enter : (setting : Setting) (permit : Permit) (thread : ℕ) (sound : IsSound setting.meaning) (allows : AllowsFew permit) (meets : Meets setting.meaning permit setting.code) → thread < 256
    → (state : VaxState) (held : Flags) (regs : Regs) (word : ℕ) → IsState state → IsForm setting state held regs → goes_on setting thread state ≡ Some word
    → Owes setting permit thread sound allows meets.map_rises state held None block_steps (at_place regs word) (setting.meaning.tree thread state)
enter setting permit thread sound allows meets lt state held regs word is form goes =
    let at = mapped (list_any (covers thread state.pc) setting.ranges) (word_at setting.code.map state.pc) word (awake state.pending (word_for setting.code.map setting.ranges thread state.pc) word goes).1 in
    let block = meets.blocks state.pc word at in
    record { first = word; round = new_round; phase = Plain; is_lock = refl; ever = λ n. block.follows thread n state held regs lt is refl form.form (form.shows word block.point at block.has_point) }
