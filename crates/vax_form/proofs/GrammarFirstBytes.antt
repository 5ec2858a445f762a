-- The first byte of a specifier against its addressing mode, both ways.
use Rattle.std.proofs.Common.{◌≡◌, ℕ, ◌+◌, ◌*◌, ◌/◌, ◌%◌, ◌<◌, ◌≤◌, Bool, eqb, ltb, refl, sym, ap, ◌∙◌, subst, inl, inr, arith}
use Rattle.std.proofs.lemmas.Bool.{cases_eq, cond-false, cond-true, cond_both, eq-eqb, eqb-false, eqb-true, le-ltb, lt-ltb, ltb-false, ltb-true, ne_eqb}
use Rattle.vax_form.specs.Grammar.{first_byte}
use Rattle.vax_form.specs.GrammarModes.{mode_of, program_counter_mode, register_mode}
use Rattle.vax_form.specs.declared.mode.Mode.{Mode}
use Rattle.vax_form.specs.declared.mode.Mode.TheVariants as mode
use Rattle.vax_form.specs.declared.instr.Size.TheVariants.{Byte, Word, Long, Quad}

-- ---- from the byte to the mode

pub mode_of-literal : (first : ℕ) → first < 0x40 → mode_of first ≡ mode.Literal
unfolding mode_of
mode_of-literal first h = cond-true _ _ _ (lt-ltb first 0x40 h)

pub mode_of-register : (high n first : ℕ) → first ≡ 16 * high + n → n < 15 → 4 ≤ high → mode_of first ≡ register_mode high
unfolding mode_of
mode_of-register high n first e below above =
    let quotient : first / 16 ≡ high = omega arith in
    cond-false _ _ _ (le-ltb first 0x40 (omega arith))
    ∙ cond-false _ _ _ (ne_eqb (first % 16) 15 (λ h. omega arith)) ∙ ap register_mode quotient

pub mode_of-program_counter : (high first : ℕ) → first ≡ 16 * high + 15 → 4 ≤ high → mode_of first ≡ program_counter_mode high
unfolding mode_of
mode_of-program_counter high first e above =
    let quotient : first / 16 ≡ high = omega arith in
    cond-false _ _ _ (le-ltb first 0x40 (omega arith))
    ∙ cond-true _ _ _ (eq-eqb (first % 16) 15 (omega arith)) ∙ ap program_counter_mode quotient

-- ---- from the mode to the byte

abbrev pub IsOfRegister : ℕ → ℕ → Type 0
IsOfRegister mode first = (first % 16 < 15) × (first ≡ mode + first % 16)

abbrev pub IsDisplaced : ℕ → Bool → ℕ → Type 0
IsDisplaced mode is_deferred first = (first % 16 < 15) × (first ≡ first_byte mode is_deferred (first % 16))

-- the first bytes of each mode
abbrev pub IsFirst : ℕ → Mode → Type 0
IsFirst first mode.Literal = first < 0x40
IsFirst first mode.Index = IsOfRegister 0x40 first
IsFirst first mode.Register = IsOfRegister 0x50 first
IsFirst first mode.Deferred = IsOfRegister 0x60 first
IsFirst first mode.Decrement = IsOfRegister 0x70 first
IsFirst first mode.Increment = IsOfRegister 0x80 first
IsFirst first mode.IncrementDeferred = IsOfRegister 0x90 first
IsFirst first mode.Immediate = first ≡ 0x8F
IsFirst first mode.Absolute = first ≡ 0x9F
IsFirst first (mode.Displacement Byte is_deferred) = IsDisplaced 0xA0 is_deferred first
IsFirst first (mode.Displacement Word is_deferred) = IsDisplaced 0xC0 is_deferred first
IsFirst first (mode.Displacement Long is_deferred) = IsDisplaced 0xE0 is_deferred first
IsFirst first (mode.Displacement Quad is_deferred) = ⊥
IsFirst first (mode.Relative Byte is_deferred) = first ≡ first_byte 0xA0 is_deferred 15
IsFirst first (mode.Relative Word is_deferred) = first ≡ first_byte 0xC0 is_deferred 15
IsFirst first (mode.Relative Long is_deferred) = first ≡ first_byte 0xE0 is_deferred 15
IsFirst first (mode.Relative Quad is_deferred) = ⊥
IsFirst first mode.Reserved = (first % 16 ≡ 15) × (first / 16 < 8) × (4 ≤ first / 16)

by_equality : (P : ℕ → Type 0) (high k : ℕ) → P k → ((high ≡ k → ⊥) → P high) → P high
by_equality P high k this others = elim (cases_eq high k) [ inl e ↦ subst P (sym e) this | inr other ↦ others other ]

-- a number from 4 to 15 is one of these
from_four : (P : ℕ → Type 0) (high : ℕ) → 4 ≤ high → high < 16
    → P 4 → P 5 → P 6 → P 7 → P 8 → P 9 → P 10 → P 11 → P 12 → P 13 → P 14 → P 15 → P high
from_four P high above below p4 p5 p6 p7 p8 p9 p10 p11 p12 p13 p14 p15 =
    by_equality P high 4 p4 λ n4. by_equality P high 5 p5 λ n5. by_equality P high 6 p6 λ n6.
    by_equality P high 7 p7 λ n7. by_equality P high 8 p8 λ n8. by_equality P high 9 p9 λ n9.
    by_equality P high 10 p10 λ n10. by_equality P high 11 p11 λ n11. by_equality P high 12 p12 λ n12.
    by_equality P high 13 p13 λ n13. by_equality P high 14 p14 λ n14.
    (let last : high ≡ 15 = omega arith in subst P (sym last) p15)

register_first : (first : ℕ) → first < 256 → 0x40 ≤ first → (first % 16 ≡ 15 → ⊥) → IsFirst first (register_mode (first / 16))
register_first first byte above other =
    let n : first % 16 < 15 = omega arith in
    let P : ℕ → Type 0 = λ high. first / 16 ≡ high → IsFirst first (register_mode high) in
    from_four P (first / 16) (omega arith) (omega arith)
    (λ e. (n, omega arith)) (λ e. (n, omega arith)) (λ e. (n, omega arith)) (λ e. (n, omega arith))
    (λ e. (n, omega arith)) (λ e. (n, omega arith)) (λ e. (n, omega arith)) (λ e. (n, omega arith))
    (λ e. (n, omega arith)) (λ e. (n, omega arith)) (λ e. (n, omega arith)) (λ e. (n, omega arith)) refl

program_counter_first : (first : ℕ) → first < 256 → 0x40 ≤ first → first % 16 ≡ 15 → IsFirst first (program_counter_mode (first / 16))
program_counter_first first byte above pc =
    let P : ℕ → Type 0 = λ high. first / 16 ≡ high → IsFirst first (program_counter_mode high) in
    from_four P (first / 16) (omega arith) (omega arith)
    (λ e. (pc, omega arith, omega arith)) (λ e. (pc, omega arith, omega arith))
    (λ e. (pc, omega arith, omega arith)) (λ e. (pc, omega arith, omega arith))
    (λ e. omega arith) (λ e. omega arith) (λ e. omega arith) (λ e. omega arith)
    (λ e. omega arith) (λ e. omega arith) (λ e. omega arith) (λ e. omega arith) refl

pub is_first : (first : ℕ) → first < 256 → IsFirst first (mode_of first)
unfolding mode_of
is_first first byte =
    let P : Mode → Type 0 = IsFirst first in
    cond_both (ltb first 0x40) _ _ P (λ e. ltb-true _ _ e) λ e.
    let above : 0x40 ≤ first = ltb-false _ _ e in
    cond_both (eqb (first % 16) 15) _ _ P (λ e. program_counter_first first byte above (eqb-true _ _ e))
    (λ e. register_first first byte above (eqb-false _ _ e))
