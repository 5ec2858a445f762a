-- What a thread does at a state: the instruction there, whose exceptions its handler takes, or what is pending.
-- VAX Architecture Reference Manual, "Exceptions and Interrupts": an exception pushes the processor status longword, the PC
-- and its parameters, and an exception handler returns behind them. The handler and its frame are this system's own.
use Rattle.std.specs.Prelude.{ℕ, ◌+◌, ◌-◌, ◌*◌, ◌/◌, ◌%◌, ◌^◌, ◌==◌, Bool, true, false}
use Rattle.vax_form.specs.Exceptions.{vector_of, parameter_of, intent_of}
use Rattle.vax_form.specs.Moments.{handled}
use Rattle.vax_form.specs.Pages.{first_bad}
use Rattle.vax_form.specs.Script.{Script, ◌>>=◌, ◌>>◌, get, change, fail, when◌then◌else◌}
use Rattle.vax_form.specs.State.{register, with_psw, with_pending, user_mode, psl_of, SP}
use Rattle.vax_form.specs.Tree.{Tree, Fault, instruction_tree, unless_bad}
use Rattle.vax_form.specs.declared.pages.Pages.{Pages}
use Rattle.vax_form.specs.declared.script.End.{End}
use Rattle.vax_form.specs.declared.state.Exception.{Exception}
use Rattle.vax_form.specs.declared.state.Exception.TheVariants.{ReservedOperand}
use Rattle.vax_form.specs.declared.state.Pending.{Pending}
use Rattle.vax_form.specs.declared.state.Pending.TheVariants.{Nothing, Deliver, Resume}
use Rattle.vax_form.specs.declared.state.VaxState.{VaxState}
use Rattle.vax_meaning.specs.Memory.{check}
use Rattle.vax_meaning.specs.Operands.{get_register}
use Rattle.vax_meaning.specs.Codes.{go_to}
use Rattle.vax_long.specs.Registers.{push_checked, pop_checked}
use Rattle.vax_long.specs.Instructions.{tree_at}

-- ---- delivery

-- a frame of an exception has five longwords
abbrev pub frame_bytes : ℕ
frame_bytes = 20

-- where the frame stands, below SP
abbrev pub frame_address : VaxState → ℕ
frame_address state = (register SP state + (2 ^ 32 - frame_bytes)) % 2 ^ 32

-- goes on at an address with that PSW, and nothing pending
unfoldable pub go_on : (pc psw : ℕ) → Script End
go_on pc psw = do
  change (with_psw psw)
  change (with_pending Nothing)
  go_to pc

-- pushes the frame: the processor status longword, the PC, the intent, the parameter and the vector; and goes on at the
-- handler
unfoldable pub push_exception : Exception → Script End
push_exception exception = do
  state ← get (λ state. state)
  push_checked (psl_of state)
  push_checked state.pc
  push_checked (intent_of exception)
  push_checked (parameter_of exception)
  push_checked (vector_of exception)
  go_on state.handler 0

-- the handler is given the exception; where the frame can't be written, the exception is raised and ends the thread
abbrev pub delivery : Pages → Exception → VaxState → Tree
delivery pages exception state =
    unless_bad (first_bad pages true (frame_address state) frame_bytes) (λ _. Fault exception) true (instruction_tree pages (push_exception exception) state)

-- ---- resumption

-- user mode, and a low word whose high byte is 0
abbrev pub is_user_psl : ℕ → Bool
is_user_psl psl = psl / 256 * 256 == user_mode

-- goes on as the frame at SP says, from its vector up: its PC, and the low byte of its processor status longword
unfoldable pub resume : Script End
resume = do
  frame ← get_register SP
  check frame frame_bytes false
  vector ← pop_checked
  parameter ← pop_checked
  intent ← pop_checked
  pc ← pop_checked
  psl ← pop_checked
  when is_user_psl psl then go_on pc (psl % 256) else fail ReservedOperand

-- ---- the moment

abbrev pub moment_of : Pages → (thread : ℕ) → VaxState → Pending → Tree
moment_of pages thread state Nothing = handled pages state (tree_at pages thread state)
moment_of pages thread state (Deliver exception) = delivery pages exception state
moment_of pages thread state Resume = handled pages state (instruction_tree pages resume state)

-- what a thread does at a state: with nothing pending its instruction, else a delivery or a resumption. The handler takes
-- the exceptions of an instruction and of a resumption
abbrev pub moment_at : Pages → (thread : ℕ) → VaxState → Tree
moment_at pages thread state = moment_of pages thread state state.pending
