-- What the words have to do that leave the condition codes of an instruction. In a block they stand behind its commits,
-- where R21 to R26 hold the temporaries 0 to 5 of its micro program.
-- VAX Architecture Reference Manual, "Processor Status Longword", the condition codes.
use Rattle.std.specs.Prelude.{◌≡◌, ℕ, ◌<◌, ◌≤◌, ◌+◌, ◌==◌, ◌&&◌, ◌||◌, Bool, true, List, length}
use Rattle.std.specs.List.{list_all}
use Rattle.vax_form.specs.declared.state.Flags.{Flags}
use Rattle.vax_form.specs.declared.state.VaxState.{VaxState}
use Rattle.micro_ops.specs.declared.codes.CodeSources.{CodeSources}
use Rattle.micro_ops.specs.Meaning.{Temps, Departure, flag_of}
use Rattle.micro_ops.specs.Leaving.{CodesComeFrom, state_left}
use Rattle.micro_ops.specs.Sources.{is_written, codes_written_by}
use Rattle.alpha_encode.specs.declared.instr.AlphaInstr.{AlphaInstr}
use Rattle.alpha_encode.specs.Registers.{CARRY_FIRST, NEGATIVE, IS_ZERO, OVERFLOW, CARRY, STATUS, TEMPORARIES, RULE_FIRST, RULE_SECOND, CARRY_SECOND, ZERO}
use Rattle.alpha_meaning.specs.State.{Regs}
use Rattle.alpha_meaning.specs.Loops.{fine, effects}
use Rattle.exception_records.specs.Shown.{codes_shown, still_held}
use Rattle.exception_records.specs.declared.rules.Rules.{Rules}

-- of the 256 words of a block
abbrev pub most_code_words : ℕ
most_code_words = 32

-- R21 to R26 hold the temporaries 0 to 5
abbrev pub temps_in : Regs → Temps
temps_in regs = λ temp. regs (TEMPORARIES + temp)

-- the codes of a processor status word
abbrev pub codes_in : (psw : ℕ) → Flags
codes_in psw = record { n = flag_of 0 psw == 1; z = flag_of 1 psw == 1; v = flag_of 2 psw == 1; c = flag_of 3 psw == 1 }

-- R16 to R19 hold codes
abbrev pub HoldCodes : Regs → Type 0
HoldCodes regs = (n : ℕ) → NEGATIVE ≤ n → n < STATUS → regs n < 2

-- The registers that the words may write: R24 and R25; where N, Z and V are written, theirs and those of the operands of
-- their rule; and where C is, its own and those of the operands of its rule.
abbrev pub may_be_written : CodeSources → (register : ℕ) → Bool
may_be_written sources register =
    (register == TEMPORARIES + 3) || (register == TEMPORARIES + 4)
    || (is_written sources.nzv && ((register == NEGATIVE) || (register == IS_ZERO) || (register == OVERFLOW) || (register == RULE_FIRST) || (register == RULE_SECOND)))
    || (is_written sources.c && ((register == CARRY) || (register == CARRY_FIRST) || (register == CARRY_SECOND)))

-- R31 reads zero, the registers of the codes hold 0 or 1, and the registers show the codes of a state by these rules, of
-- which some are held
pub record ShowCodes (regs : Regs) (rules : Rules) (held : Flags) (state : VaxState) : Type 0 where
  pub zero : regs ZERO ≡ 0
  pub hold : HoldCodes regs
  pub codes : codes_shown regs rules held ≡ codes_in state.psw

-- Operate instructions, not too many, that write these registers alone. From registers that show the codes of the state
-- found, by the rules before, and hold the temporaries that the codes of the state left come from, they show these codes
-- by the rules behind, with those that are written no longer held.
pub record LeavesCodes (sources : CodeSources) (before behind : Rules) (words : List AlphaInstr) : Type 0 where
  pub few : length words ≤ most_code_words
  pub only : list_all (fine (may_be_written sources)) words ≡ true
  pub leaves : (regs : Regs) (held : Flags) (found : VaxState) (departure : Departure)
      → ShowCodes regs before held found
      → CodesComeFrom sources found (record { departure = departure; temps = temps_in regs })
      → ShowCodes (effects words regs) behind (still_held held (codes_written_by sources)) (state_left departure)
