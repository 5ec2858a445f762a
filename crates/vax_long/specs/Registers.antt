-- Lists of registers on the stack, by the bits of a mask.
-- VAX Architecture Reference Manual, "Miscellaneous Instructions": PUSHR and POPR.
use Rattle.std.specs.Prelude.{ℕ, zero, suc, ◌+◌, ◌-◌, ◌/◌, ◌%◌, ◌^◌, ◌==◌, List, Bool, true, false}
use Rattle.vax_form.specs.State.{register, SP}
use Rattle.vax_form.specs.Script.{Script, ◌>>=◌, ◌>>◌, pure, get, when◌then◌else◌}
use Rattle.vax_form.specs.declared.instr.Size.TheVariants.{Word}
use Rattle.vax_form.specs.declared.instr.Instr.{Instr}
use Rattle.vax_form.specs.declared.script.End.{End}
use Rattle.vax_form.specs.declared.state.VaxState.{VaxState}
use Rattle.vt_words.specs.Values.{bit}
use Rattle.vax_meaning.specs.declared.evaluation.Evaluated.{Evaluated}
use Rattle.vax_meaning.specs.Memory.{low_bytes, check, read, write}
use Rattle.vax_meaning.specs.Operands.{get_register, set_register}
use Rattle.vax_meaning.specs.Evaluation.{value_of_place}
use Rattle.vax_meaning.specs.Codes.{go_to}

-- the bit of that number is set
abbrev pub is_in_mask : (number mask : ℕ) → Bool
is_in_mask number mask = mask / 2 ^ number % 2 == 1

-- how many of so many registers from that number on are in the mask
abbrev pub registers_in : (count number mask : ℕ) → ℕ
registers_in zero number mask = 0
registers_in (suc count) number mask = bit (is_in_mask number mask) + registers_in count (number + 1) mask

-- the longword below an address
abbrev pub below : ℕ → ℕ
below address = (address + (2 ^ 32 - 4)) % 2 ^ 32

-- checks the longword below the top of the stack, and gives its address, the next top
unfoldable pub check_push : (top : ℕ) → Script ℕ
check_push top = do
  check (below top) 4 true
  pure (below top)

-- checks the pushes of the registers below that number by a mask, highest first, and gives the top behind them
unfoldable pub check_registers : (number mask top : ℕ) → Script ℕ
check_registers zero mask top = pure top
check_registers (suc number) mask top = do
  next ← when is_in_mask number mask then check_push top else pure top
  check_registers number mask next

-- pushes a longword whose place was checked: SP is lowered by 4
unfoldable pub push_checked : (value : ℕ) → Script (Unit {0})
push_checked value = do
  top ← get_register SP
  write (below top) 4 value
  set_register SP (below top)

-- pushes the registers below that number by a mask, highest first, with the values that a state has
unfoldable pub push_registers : (number mask : ℕ) → VaxState → Script (Unit {0})
push_registers zero mask values = pure tt
push_registers (suc number) mask values = do
  when is_in_mask number mask then push_checked (register number values) else pure tt
  push_registers number mask values

-- pops a longword whose place was checked: SP is raised by 4
unfoldable pub pop_checked : Script ℕ
pop_checked = do
  top ← get_register SP
  value ← read top 4
  set_register SP ((top + 4) % 2 ^ 32)
  pure (low_bytes 4 value)

-- checks and pops a longword
unfoldable pub pop : Script ℕ
pop = do
  top ← get_register SP
  check top 4 false
  pop_checked

-- pops into a register
unfoldable pub pop_register : (number : ℕ) → Script (Unit {0})
pop_register number = do
  value ← pop
  set_register number value

-- pops so many registers from that number on by a mask, lowest first
unfoldable pub pop_registers : (count number mask : ℕ) → Script (Unit {0})
pop_registers zero number mask = pure tt
pop_registers (suc count) number mask = do
  when is_in_mask number mask then pop_register number else pure tt
  pop_registers count (number + 1) mask

-- PUSHR: all pushes are checked before the first; SP is pushed as it was behind the specifier
unfoldable pub push_by_mask : Instr → List Evaluated → Script End
push_by_mask instr values = do
  let mask = value_of_place values 0 Word
  state ← get (λ state. state)
  check_registers 15 mask (register SP state)
  push_registers 15 mask state
  go_to instr.after

-- POPR: SP comes last, and one that is popped is the final SP
unfoldable pub pop_by_mask : Instr → List Evaluated → Script End
pop_by_mask instr values = do
  pop_registers 15 0 (value_of_place values 0 Word)
  go_to instr.after
