-- The state of a thread, and the numbers that a reference may be answered with.
-- VAX Architecture Reference Manual, "Processor State" and "Processor Status Longword".
use Rattle.std.specs.Prelude.{◌≡◌, ℕ, ◌+◌, ◌*◌, ◌^◌, ◌<◌, ◌⊎◌, All, List, length, slice_index, slice_set}
use Rattle.vax_form.specs.declared.state.VaxState.{VaxState}
use Rattle.vax_form.specs.declared.state.Pending.{Pending}
use Rattle.vax_form.specs.declared.state.Reference.{Reference}
use Rattle.vax_form.specs.declared.state.RefKind.{RefKind}
use Rattle.vax_form.specs.declared.state.RefKind.TheVariants.{Read, Write, Add, SetBit, ClearBit, Put, Get}

-- the argument pointer, the frame pointer and the stack pointer
abbrev pub AP : ℕ
AP = 12

abbrev pub FP : ℕ
FP = 13

abbrev pub SP : ℕ
SP = 14

-- a state with other registers R0 to R14, PC and PSW
abbrev pub with_core : VaxState → (r : List ℕ) → (pc psw : ℕ) → VaxState
with_core state r pc psw = record state { r = r; pc = pc; psw = psw }

abbrev pub with_pc : (pc : ℕ) → VaxState → VaxState
with_pc pc state = with_core state state.r pc state.psw

abbrev pub with_psw : (psw : ℕ) → VaxState → VaxState
with_psw psw state = with_core state state.r state.pc psw

abbrev pub with_handler : (handler : ℕ) → VaxState → VaxState
with_handler handler state = record state { handler = handler }

abbrev pub with_pending : Pending → VaxState → VaxState
with_pending pending state = record state { pending = pending }

-- a register, or 0 where there is none of that number
abbrev pub register : (number : ℕ) → VaxState → ℕ
register number state = slice_index state.r number

abbrev pub with_register : (number value : ℕ) → VaxState → VaxState
with_register number value state = with_core state (slice_set state.r number value) state.pc state.psw

-- the processor status longword: user mode, now and before, and the low word
abbrev pub user_mode : ℕ
user_mode = 0x03C0_0000

abbrev pub psl_of : VaxState → ℕ
psl_of state = user_mode + state.psw

-- 15 longwords, a longword, the low byte of the processor status, and a longword for the handler
pub record IsState (state : VaxState) : Type 0 where
  pub registers : length state.r ≡ 15
  pub longwords : All (λ value. value < 2 ^ 32) state.r
  pub pc : state.pc < 2 ^ 32
  pub psw : state.psw < 256
  pub handler : state.handler < 2 ^ 32

-- what a reference of so many bytes may be answered with: what was read, 0 for a write, what was there before for an
-- interlocked one, and the next byte of the input or FFFFFFFF at its end
abbrev pub AnswersKind : RefKind → (count : ℕ) → ℕ → Type 0
AnswersKind Read count reply = reply < 2 ^ (8 * count)
AnswersKind (Write value) count reply = reply ≡ 0
AnswersKind (Add value) count reply = reply < 65536
AnswersKind (SetBit bit) count reply = reply < 256
AnswersKind (ClearBit bit) count reply = reply < 256
AnswersKind (Put byte) count reply = reply ≡ 0
AnswersKind Get count reply = (reply < 256) ⊎ (reply ≡ 0xFFFFFFFF)

abbrev pub Answers : Reference → ℕ → Type 0
Answers reference reply = AnswersKind reference.kind reference.count reply
