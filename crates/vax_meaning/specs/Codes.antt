-- Condition codes in the status word: C is bit 0, V 1, Z 2, N 3, and integer overflow traps where bit 5 is set.
-- VAX Architecture Reference Manual, "Processor Status Longword".
use Rattle.std.specs.Prelude.{ℕ, ◌+◌, ◌*◌, ◌/◌, ◌%◌, ◌^◌, nat_le, ◌==◌, Bool, false, if◌then◌else◌, ◌&&◌}
use Rattle.vax_form.specs.Size.{bytes_of}
use Rattle.vax_form.specs.State.{with_pc, with_psw}
use Rattle.vax_form.specs.Script.{Script, ◌>>◌, pure, get, change}
use Rattle.vax_form.specs.declared.instr.Size.{Size}
use Rattle.vax_form.specs.declared.script.End.{End}
use Rattle.vax_form.specs.declared.script.End.TheVariants.{Done, Traps}
use Rattle.vax_form.specs.declared.state.VaxState.{VaxState}
use Rattle.vt_words.specs.Values.{bit}
use Rattle.vt_words.specs.declared.arithmetic.Coded.{Coded}

abbrev pub is_bit_set : ℕ → ℕ → Bool
is_bit_set unit psw = psw / unit % 2 == 1

abbrev pub carry_of : VaxState → Bool
carry_of state = state.psw % 2 == 1

abbrev pub overflow_of : VaxState → Bool
overflow_of state = is_bit_set 2 state.psw

abbrev pub zero_of : VaxState → Bool
zero_of state = is_bit_set 4 state.psw

abbrev pub negative_of : VaxState → Bool
negative_of state = is_bit_set 8 state.psw

abbrev pub trap_enabled : VaxState → Bool
trap_enabled state = is_bit_set 32 state.psw

abbrev pub with_codes : (n z v c : Bool) → VaxState → VaxState
with_codes n z v c state = with_psw (state.psw / 16 * 16 + (bit n * 8 + bit z * 4 + bit v * 2 + bit c)) state

-- the four codes as arithmetic gave them
abbrev pub with_all : Coded → VaxState → VaxState
with_all coded = with_codes coded.n coded.z coded.v coded.c

-- N, Z and V as arithmetic gave them, and C kept
abbrev pub with_three : Coded → VaxState → VaxState
with_three coded state = with_codes coded.n coded.z coded.v (carry_of state) state

-- the sign of a value of that size
abbrev pub sign_of : Size → ℕ → Bool
sign_of size value = nat_le (2 ^ (8 * bytes_of size) / 2) value

-- N and Z by a value, V 0, and C kept
abbrev pub with_result : Size → ℕ → VaxState → VaxState
with_result size value state = with_codes (sign_of size value) (value == 0) false (carry_of state) state

-- goes on at an address
abbrev pub go_to : ℕ → Script End
go_to pc = do
  change (with_pc pc)
  pure Done

-- goes on at an address, and traps where the instruction overflowed and integer overflow is enabled
unfoldable pub finish : ℕ → Script End
finish pc = do
  change (with_pc pc)
  get (λ state. if overflow_of state && trap_enabled state then Traps 1 else Done)
