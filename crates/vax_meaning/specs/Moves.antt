-- Moves, tests and the processor status.
-- VAX Architecture Reference Manual, "Integer Arithmetic and Logical Instructions", "Address Instructions" and
-- "Miscellaneous Instructions"; the entry is named at each.
use Rattle.std.specs.Prelude.{ℕ, ◌+◌, ◌-◌, ◌%◌, ◌^◌, nat_lt, int_lt, ◌==◌, List, Bool, true, false, bit_and, bit_or, if◌then◌else◌}
use Rattle.vax_form.specs.Size.{bytes_of, size_of}
use Rattle.vax_form.specs.State.{with_psw, psl_of, SP}
use Rattle.vax_form.specs.Script.{Script, ◌>>=◌, ◌>>◌, get, change, fail, when◌then◌else◌}
use Rattle.vax_form.specs.declared.instr.Size.{Size}
use Rattle.vax_form.specs.declared.instr.Size.TheVariants.{Word, Long}
use Rattle.vax_form.specs.declared.instr.Width.{Width}
use Rattle.vax_form.specs.declared.instr.Instr.{Instr}
use Rattle.vax_form.specs.declared.script.End.{End}
use Rattle.vax_form.specs.declared.state.Exception.TheVariants.{ReservedOperand}
use Rattle.vax_form.specs.declared.state.VaxState.{VaxState}
use Rattle.vt_words.specs.Values.{signed_value}
use Rattle.vt_words.specs.Shifts.{complement_of}
use Rattle.vax_meaning.specs.declared.evaluation.Evaluated.{Evaluated}
use Rattle.vax_meaning.specs.Memory.{check, write}
use Rattle.vax_meaning.specs.Operands.{get_register, set_register, store}
use Rattle.vax_meaning.specs.Evaluation.{value_of_place, location_of_place}
use Rattle.vax_meaning.specs.Codes.{with_codes, with_result, sign_of, carry_of, go_to}

-- writes a result to the operand of that place; N and Z are by the result, V is 0, and C is kept
unfoldable pub give : Instr → (place : ℕ) → Size → (value : ℕ) → List Evaluated → Script End
give instr place size value values = do
  store (location_of_place values place) size value
  change (with_result size value)
  go_to instr.after

-- MOV
abbrev pub move_value : Instr → Size → List Evaluated → Script End
move_value instr size values = give instr 1 size (value_of_place values 0 size) values

-- CLR
abbrev pub clear : Instr → Size → List Evaluated → Script End
clear instr size values = give instr 0 size 0 values

-- MOVA
abbrev pub move_address : Instr → List Evaluated → Script End
move_address instr values = give instr 1 Long (value_of_place values 0 Long) values

-- MCOM
abbrev pub move_complemented : Instr → Width → List Evaluated → Script End
move_complemented instr width values = give instr 1 (size_of width) (complement_of (bytes_of (size_of width)) (value_of_place values 0 (size_of width))) values

-- MOVZ: N is 0
unfoldable pub move_zero_extended : Instr → (from to : Width) → List Evaluated → Script End
move_zero_extended instr from to values = do
  let value = value_of_place values 0 (size_of from)
  store (location_of_place values 1) (size_of to) value
  change (λ state. with_codes false (value == 0) false (carry_of state) state)
  go_to instr.after

-- pushes a longword: SP is lowered by 4
unfoldable pub push : ℕ → Script (Unit {0})
push value = do
  stack ← get_register SP
  let top = (stack + (2 ^ 32 - 4)) % 2 ^ 32
  check top 4 true
  write top 4 value
  set_register SP top

-- PUSHL and PUSHA
unfoldable pub push_value : Instr → List Evaluated → Script End
push_value instr values = do
  let value = value_of_place values 0 Long
  push value
  change (with_result Long value)
  go_to instr.after

-- N where the first is less as a signed number, Z where they are equal, V 0, C where the first is less
abbrev pub with_comparison : Width → (first second : ℕ) → VaxState → VaxState
with_comparison width first second = with_codes
    (int_lt (signed_value (bytes_of (size_of width)) first) (signed_value (bytes_of (size_of width)) second))
    (first == second) false (nat_lt first second)

-- CMP
unfoldable pub compare : Instr → Width → List Evaluated → Script End
compare instr width values = do
  change (with_comparison width (value_of_place values 0 (size_of width)) (value_of_place values 1 (size_of width)))
  go_to instr.after

-- TST: V and C are 0
unfoldable pub test_value : Instr → Width → List Evaluated → Script End
test_value instr width values = do
  let value = value_of_place values 0 (size_of width)
  change (with_codes (sign_of (size_of width) value) (value == 0) false false)
  go_to instr.after

-- BIT
unfoldable pub bit_test : Instr → Width → List Evaluated → Script End
bit_test instr width values = do
  change (with_result (size_of width) (bit_and (value_of_place values 0 (size_of width)) (value_of_place values 1 (size_of width))))
  go_to instr.after

-- MOVPSL: the codes are kept
unfoldable pub move_psl : Instr → List Evaluated → Script End
move_psl instr values = do
  psl ← get psl_of
  store (location_of_place values 0) Long psl
  go_to instr.after

-- BISPSW, and BICPSW where the bits are not set but cleared: the mask has no bit above 7
unfoldable pub change_psw : Instr → (set : Bool) → List Evaluated → Script End
change_psw instr set values = do
  let mask = value_of_place values 0 Word
  when nat_lt 255 mask
      then fail ReservedOperand
      else (do
        change (λ state. with_psw (if set then bit_or state.psw mask else bit_and state.psw (65535 - mask)) state)
        go_to instr.after)
