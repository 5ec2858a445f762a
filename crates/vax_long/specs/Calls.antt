-- Procedure calls.
-- VAX Architecture Reference Manual, "Procedure Call Instructions": CALLG, CALLS and RET, and the call frame.
use Rattle.std.specs.Prelude.{ℕ, zero, suc, ◌+◌, ◌*◌, ◌/◌, ◌%◌, ◌^◌, ◌==◌, List, [], ◌∷◌, ◌++◌, Bool, true, false, if◌then◌else◌}
use Rattle.vax_form.specs.State.{register, with_register, with_psw, AP, FP, SP}
use Rattle.vax_form.specs.Script.{Script, ◌>>=◌, ◌>>◌, pure, get, change, fail, when◌then◌else◌}
use Rattle.vax_form.specs.declared.instr.Size.TheVariants.{Long}
use Rattle.vax_form.specs.declared.instr.Instr.{Instr}
use Rattle.vax_form.specs.declared.script.End.{End}
use Rattle.vax_form.specs.declared.state.Exception.TheVariants.{ReservedOperand}
use Rattle.vax_form.specs.declared.state.VaxState.{VaxState}
use Rattle.vt_words.specs.Values.{bit}
use Rattle.vax_meaning.specs.declared.evaluation.Evaluated.{Evaluated}
use Rattle.vax_meaning.specs.Memory.{low_bytes, fetch, code_word}
use Rattle.vax_meaning.specs.Operands.{get_register, set_register}
use Rattle.vax_meaning.specs.Evaluation.{value_of_place}
use Rattle.vax_meaning.specs.Codes.{go_to}
use Rattle.vax_long.specs.Registers.{is_in_mask, check_push, check_registers, push_checked, push_registers, pop, pop_register, pop_registers, registers_in}

-- the longword in which an address lies
abbrev pub aligned : ℕ → ℕ
aligned address = address / 4 * 4

-- bits 13:12 of an entry mask are 0
abbrev pub is_entry_mask : (mask : ℕ) → Bool
is_entry_mask mask = mask / 4096 % 4 == 0

-- the entry mask at a procedure's address
unfoldable pub entry_mask : (destination : ℕ) → Script ℕ
entry_mask destination = do
  mask ← code_word destination
  when is_entry_mask mask then pure mask else fail ReservedOperand

-- checks the pushes of a call frame from that top on
unfoldable pub check_frame : (mask top : ℕ) → Script (Unit {0})
check_frame mask top = do
  saved ← check_registers 12 mask top
  pc ← check_push saved
  fp ← check_push pc
  ap ← check_push fp
  status ← check_push ap
  handler ← check_push status
  pure tt

-- the longword of a frame that has the low bits of SP before it was aligned in 31:30, S in 29, the mask in 27:16 and
-- the PSW in 15:5
abbrev pub frame_status : (low : ℕ) → (stack : Bool) → (mask psw : ℕ) → ℕ
frame_status low stack mask psw = low * 2 ^ 30 + bit stack * 2 ^ 29 + mask % 4096 * 2 ^ 16 + psw / 32 * 32

-- the values of the saved registers, highest first
abbrev pub saved_values : (number mask : ℕ) → VaxState → List ℕ
saved_values zero mask state = []
saved_values (suc number) mask state = if is_in_mask number mask then register number state ∷ saved_values number mask state else saved_values number mask state

-- the longwords of a call frame as they are pushed
abbrev pub frame_values : (pc : ℕ) → (stack : Bool) → (mask : ℕ) → VaxState → List ℕ
frame_values pc stack mask state =
    saved_values 12 mask state ++ pc ∷ register FP state ∷ register AP state ∷ frame_status (register SP state % 4) stack mask state.psw ∷ 0 ∷ []

-- aligns SP, and pushes a call frame: the registers by the mask, the PC, FP, AP, the status and no handler
unfoldable pub push_frame : (pc : ℕ) → (stack : Bool) → (mask : ℕ) → Script (Unit {0})
push_frame pc stack mask = do
  state ← get (λ state. state)
  set_register SP (aligned (register SP state))
  push_registers 12 mask state
  push_checked pc
  push_checked (register FP state)
  push_checked (register AP state)
  push_checked (frame_status (register SP state % 4) stack mask state.psw)
  push_checked 0

-- the PSW in a procedure: N, Z, V, C and FU are 0, DV is bit 15 of the mask, IV bit 14
abbrev pub entry_psw : (mask psw : ℕ) → ℕ
entry_psw mask psw = psw / 256 * 256 + mask / 2 ^ 15 % 2 * 128 + mask / 2 ^ 14 % 2 * 32 + psw / 16 % 2 * 16

-- enters a procedure behind its mask: FP is SP, and AP is the address of the argument list
unfoldable pub enter : (destination mask list : ℕ) → Script End
enter destination mask list = do
  frame ← get_register SP
  set_register FP frame
  set_register AP list
  change (λ state. with_psw (entry_psw mask state.psw) state)
  go_to ((destination + 2) % 2 ^ 32)

-- CALLG: the argument list stands where the first operand says
unfoldable pub call_general : Instr → List Evaluated → Script End
call_general instr values = do
  let destination = value_of_place values 1 Long
  mask ← entry_mask destination
  top ← get_register SP
  check_frame mask (aligned top)
  push_frame instr.after false mask
  enter destination mask (value_of_place values 0 Long)

-- CALLS: the argument list is on the stack, below its count, which is pushed
unfoldable pub call_stack : Instr → List Evaluated → Script End
call_stack instr values = do
  let destination = value_of_place values 1 Long
  mask ← entry_mask destination
  top ← get_register SP
  list ← check_push top
  check_frame mask (aligned list)
  push_checked (value_of_place values 0 Long)
  push_frame instr.after true mask
  enter destination mask list

-- SP raised by so many bytes
abbrev pub with_released : (bytes : ℕ) → VaxState → VaxState
with_released bytes state = with_register SP ((register SP state + bytes) % 2 ^ 32) state

-- the argument list of CALLS goes: its count, and the longwords that the count's low byte says
unfoldable pub release_arguments : (stack : Bool) → Script (Unit {0})
release_arguments stack =
    when stack
    then (do
      count ← pop
      change (with_released (count % 256 * 4)))
    else pure tt

-- leaves a frame by its status, in reverse order
unfoldable pub leave : (frame status : ℕ) → Script End
leave frame status = do
  set_register SP ((frame + 8) % 2 ^ 32)
  pop_register AP
  pop_register FP
  pc ← pop
  pop_registers 12 0 (status / 2 ^ 16)
  change (with_released (status / 2 ^ 30))
  release_arguments (is_in_mask 29 status)
  change (with_psw (status % 2 ^ 16))
  go_to pc

-- how many longwords RET reads one behind the other, from the status on: it, AP, FP and the PC, the saved registers, and
-- the count of arguments where there is one and SP was aligned
abbrev pub longwords_in : (status : ℕ) → ℕ
longwords_in status = 4 + registers_in 12 0 (status / 2 ^ 16) + bit (status / 2 ^ 29 == 1)

abbrev pub longwords_by : (status : ℕ) → ℕ
longwords_by status = if status / 256 % 256 == 0 then longwords_in status else 0

-- the same by the longwords that were read: the status alone at first, and none where it is not one of a frame
abbrev pub longwords_of : List ℕ → ℕ
longwords_of [] = 1
longwords_of (longword ∷ others) = longwords_by (low_bytes 4 longword)

-- RET: the frame is at FP, and its status at FP + 4; bits 15:8 of the status are 0
unfoldable pub return_from_procedure : Script End
return_from_procedure = do
  frame ← get_register FP
  longword ← fetch ((frame + 4) % 2 ^ 32) 4
  let status = low_bytes 4 longword
  when status / 256 % 256 == 0 then leave frame status else fail ReservedOperand
