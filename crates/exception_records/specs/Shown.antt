-- The VAX state that the registers of translated code show at a boundary between instructions. R0 to R14 hold the VAX
-- registers, R16 to R19 hold N, Z, V and C, and R20 holds the other bits of the processor status word in place. R28 and
-- R29 hold the operands of the rule of N, Z and V, R15 and R30 those of the rule of C.
-- VAX Architecture Reference Manual, "Processor State" and "Processor Status Longword".
use Rattle.std.specs.Prelude.{ℕ, ◌+◌, ◌*◌, ◌/◌, ◌%◌, ◌^◌, ◌==◌, ◌&&◌, ◌||◌, not, Bool, List, [], ◌∷◌, map, if◌then◌else◌, ◌≡◌}
use Rattle.vt_words.specs.Values.{bit}
use Rattle.vax_form.specs.State.{with_core}
use Rattle.vax_form.specs.declared.state.Flags.{Flags}
use Rattle.vax_form.specs.declared.state.VaxState.{VaxState}
use Rattle.vax_form.specs.declared.state.Pending.TheVariants.{Nothing}
use Rattle.alpha_encode.specs.Registers.{CARRY_FIRST, NEGATIVE, IS_ZERO, OVERFLOW, CARRY, STATUS, RULE_FIRST, RULE_SECOND, CARRY_SECOND}
use Rattle.exception_records.specs.declared.rules.CodeRule.{CodeRule}
use Rattle.exception_records.specs.declared.rules.Rules.{Rules}
use Rattle.exception_records.specs.Codes.{codes_by, is_ready}

-- what each Alpha register holds
abbrev pub Regs : Type 0
Regs = ℕ → ℕ

-- the low longwords of R0 to R14
abbrev pub registers_shown : Regs → List ℕ
registers_shown regs = map (λ n. regs n % 2 ^ 32) (0 ∷ 1 ∷ 2 ∷ 3 ∷ 4 ∷ 5 ∷ 6 ∷ 7 ∷ 8 ∷ 9 ∷ 10 ∷ 11 ∷ 12 ∷ 13 ∷ 14 ∷ [])

-- a code in a register
abbrev pub is_set : (value : ℕ) → Bool
is_set value = value % 2 == 1

-- in its register where it is ready or held there, else by its rule
abbrev pub code_shown : CodeRule → (held in_register by_rule : Bool) → Bool
code_shown rule held in_register by_rule = if is_ready rule || held then in_register else by_rule

-- the codes, of which some are held in their registers
abbrev pub codes_shown : Regs → Rules → (held : Flags) → Flags
codes_shown regs rules held = record {
  n = code_shown rules.n held.n (is_set (regs NEGATIVE)) (codes_by rules.n (regs RULE_FIRST) (regs RULE_SECOND)).n;
  z = code_shown rules.z held.z (is_set (regs IS_ZERO)) (codes_by rules.z (regs RULE_FIRST) (regs RULE_SECOND)).z;
  v = code_shown rules.v held.v (is_set (regs OVERFLOW)) (codes_by rules.v (regs RULE_FIRST) (regs RULE_SECOND)).v;
  c = code_shown rules.c held.c (is_set (regs CARRY)) (codes_by rules.c (regs CARRY_FIRST) (regs CARRY_SECOND)).c;
}

-- bits 7:4 of a processor status word, with these codes
abbrev pub psw_with : (upper : ℕ) → Flags → ℕ
psw_with upper codes = upper / 16 % 16 * 16 + (bit codes.n * 8 + bit codes.z * 4 + bit codes.v * 2 + bit codes.c)

-- the processor status word: bits 7:4 by R20, and the codes
abbrev pub psw_shown : Regs → Rules → (held : Flags) → ℕ
psw_shown regs rules held = psw_with (regs STATUS) (codes_shown regs rules held)

-- the state: R0 to R14 by their low longwords, the PC, and the processor status word
abbrev pub shown : Regs → (vax_pc : ℕ) → Rules → (held : Flags) → (handler : ℕ) → VaxState
shown regs vax_pc rules held handler = record { r = registers_shown regs; pc = vax_pc; psw = psw_shown regs rules held; handler = handler; pending = Nothing }

-- the registers show R0 to R14, the PC and the processor status word of a state
abbrev pub Shows : Regs → (vax_pc : ℕ) → Rules → (held : Flags) → VaxState → Type 0
Shows regs vax_pc rules held state = state ≡ with_core state (registers_shown regs) vax_pc (psw_shown regs rules held)

-- the held codes behind an instruction that wrote some
abbrev pub still_held : (held written : Flags) → Flags
still_held held written = record { n = held.n && not written.n; z = held.z && not written.z; v = held.v && not written.v; c = held.c && not written.c }
