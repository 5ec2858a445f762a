-- What changes of a state leave a state.
use Rattle.std.proofs.Common.{ℕ, ◌+◌, ◌*◌, ◌/◌, ◌%◌, ◌<◌, ◌≤◌, ◌^◌, Bool, length, ◌∙◌, arith, lit<, inl, inr}
use Rattle.std.proofs.lemmas.Bool.{cases_lt}
use Rattle.std.proofs.lemmas.List.{length-set, get_or_past}
use Rattle.std.proofs.lemmas.List.Elements.{All-set}
use Rattle.vt_words.proofs.Tests.{bit_most}
use Rattle.vax_form.specs.State.{IsState, register, with_register, with_pc, with_psw, with_handler, with_pending}
use Rattle.vax_form.specs.declared.state.Pending.{Pending}
use Rattle.vax_form.specs.declared.state.VaxState.{VaxState}
use Rattle.vt_words.specs.Values.{bit}
use Rattle.vax_meaning.specs.Codes.{with_codes}

abbrev pub IsLongword : ℕ → Type 0
IsLongword value = value < 2 ^ 32

pub low_longword : (value : ℕ) → IsLongword (value % 2 ^ 32)
low_longword value = omega arith

-- a register has a longword, and one that is not there 0
pub register_is : (n : ℕ) (state : VaxState) → IsState state → IsLongword (register n state)
register_is n state is = elim (cases_lt n (length state.r)) [
  | inl h ↦ is.longwords n 0 h
  | inr h ↦ rw (get_or_past state.r n 0 h) (lit< tt)
]

pub with_register_is : (n value : ℕ) (state : VaxState) → IsLongword value → IsState state → IsState (with_register n value state)
with_register_is n value state small is = record {
  registers = length-set state.r n value ∙ is.registers;
  longwords = All-set IsLongword state.r n value small is.longwords;
  pc = is.pc;
  psw = is.psw;
  handler = is.handler;
}

pub with_pc_is : (pc : ℕ) (state : VaxState) → IsLongword pc → IsState state → IsState (with_pc pc state)
with_pc_is pc state small is = record { registers = is.registers; longwords = is.longwords; pc = small; psw = is.psw; handler = is.handler }

pub with_psw_is : (psw : ℕ) (state : VaxState) → psw < 256 → IsState state → IsState (with_psw psw state)
with_psw_is psw state small is = record { registers = is.registers; longwords = is.longwords; pc = is.pc; psw = small; handler = is.handler }

pub with_handler_is : (handler : ℕ) (state : VaxState) → IsLongword handler → IsState state → IsState (with_handler handler state)
with_handler_is handler state small is = record { registers = is.registers; longwords = is.longwords; pc = is.pc; psw = is.psw; handler = small }

pub with_pending_is : (pending : Pending) (state : VaxState) → IsState state → IsState (with_pending pending state)
with_pending_is pending state is = record { registers = is.registers; longwords = is.longwords; pc = is.pc; psw = is.psw; handler = is.handler }

codes_below : (psw n z v c : ℕ) → psw < 256 → n ≤ 1 → z ≤ 1 → v ≤ 1 → c ≤ 1 → psw / 16 * 16 + (n * 8 + z * 4 + v * 2 + c) < 256
codes_below psw n z v c small a b d e = omega arith

pub with_codes_is : (n z v c : Bool) (state : VaxState) → IsState state → IsState (with_codes n z v c state)
with_codes_is n z v c state is = with_psw_is _ state (codes_below state.psw (bit n) (bit z) (bit v) (bit c) is.psw (bit_most n) (bit_most z) (bit_most v) (bit_most c)) is
