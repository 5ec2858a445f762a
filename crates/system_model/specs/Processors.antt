-- Processors: each runs one thread, by Alpha steps in translated code and by interpreted steps elsewhere.
use Rattle.std.specs.Prelude.{◌≡◌, ℕ, zero, suc, ◌*◌, ◌/◌, ◌%◌, ◌==◌, Bool, List, [], ◌∷◌, ◌++◌, Option, Some, None, nat_lt, slice_index, if◌then◌else◌}
use Rattle.alpha_encode.specs.Registers.{NEGATIVE, IS_ZERO, OVERFLOW, CARRY, STATUS}
use Rattle.alpha_meaning.specs.State.{Alpha, Regs, at_place}
use Rattle.memory_core.specs.declared.entry.Entry.{Entry}
use Rattle.memory_core.specs.declared.entry.Kind.{Kind}
use Rattle.memory_core.specs.declared.entry.Kind.TheVariants as kinds
use Rattle.memory_core.specs.declared.entry.Request.{Request}
pub use Rattle.memory_core.specs.Order.{entry_by}
use Rattle.vax_form.specs.Codes.{all}
use Rattle.vax_form.specs.State.{register}
use Rattle.vax_form.specs.Tree.{Finish, Exit, Trap, Answer, answer}
use Rattle.vax_form.specs.Tree as trees
use Rattle.vax_form.specs.declared.state.Exception.TheVariants.{Arithmetic}
use Rattle.vax_form.specs.declared.state.Flags.{Flags}
use Rattle.vax_form.specs.declared.state.Reference.{Reference}
use Rattle.vax_form.specs.declared.state.RefKind.{RefKind}
use Rattle.vax_form.specs.declared.state.RefKind.TheVariants.{Read, Write, Add, SetBit, ClearBit, Put, Get}
use Rattle.vax_form.specs.declared.state.VaxState.{VaxState}
use Rattle.vt_words.specs.Quad.{sign_extended}
use Rattle.vax_driven.specs.declared.thread.End.{End}
use Rattle.vax_driven.specs.declared.thread.End.TheVariants as ends
use Rattle.system_model.specs.Quadwords.{quad_address, change_of, reply_found}
use Rattle.system_model.specs.Settings.{Setting, goes_on}
use Rattle.system_model.specs.Steps.{Last, Comes, Fails, Place, Inside, Lands, Leaves, Next, Moves, Wants, Moment, next, settled_last}
use Rattle.system_model.specs.Steps as step

-- what a processor is at
pub data Mode : Type 0 where
  -- before its first turn
  New : Mode
  -- in translated code
  Runs : Alpha → Mode
  -- at an interpreted instruction, with the replies to its references so far
  Interprets : VaxState → List ℕ → Mode
  Ended : End → Mode

-- the boundary is the state at which the latest instruction began, or which an ended thread shows; held codes stand in
-- their registers since the processor's last interpreted instruction
pub record Processor : Type 0 where
  pub thread : ℕ
  pub mode : Mode
  pub boundary : VaxState
  pub held : Flags
  pub retired : ℕ
  pub steps : ℕ
  pub interpreted : ℕ

-- each code is held in its register
abbrev pub all_held : Flags
all_held = all

-- Alpha registers with the values of a state: R0 to R14 as sign-extended longwords, N, Z, V and C in R16 to R19, bits
-- 7:4 of the processor status word in R20, and all others 0
unfoldable pub registers_of : VaxState → Regs
registers_of state n =
    if nat_lt n 15 then sign_extended (slice_index state.r n) 32
    else if n == NEGATIVE then state.psw / 8 % 2
    else if n == IS_ZERO then state.psw / 4 % 2
    else if n == OVERFLOW then state.psw / 2 % 2
    else if n == CARRY then state.psw % 2
    else if n == STATUS then state.psw / 16 % 16 * 16
    else 0

-- the mode at a boundary, with these registers in Alpha code
abbrev pub mode_by : Option ℕ → VaxState → Regs → Mode
mode_by None state regs = Interprets state []
mode_by (Some word) state regs = Runs (at_place regs word)

-- the mode at a boundary of the thread: in Alpha code where the thread goes on there, else interpreting
abbrev pub mode_at : Setting → (thread : ℕ) → VaxState → Regs → Mode
mode_at setting thread state regs = mode_by (goes_on setting thread state) state regs

-- the processor of a thread that starts so: it has retired nothing
abbrev pub begun : (thread : ℕ) → VaxState → Processor
begun thread start = record { thread = thread; mode = New; boundary = start; held = all_held; retired = 0; steps = 0; interpreted = 0 }

-- what its steps of Alpha code know of it
abbrev pub moment_of : Processor → Moment
moment_of p = record { thread = p.thread; retired = p.retired; boundary = p.boundary; held = p.held }

-- one more step
abbrev pub stepped : Processor → Processor
stepped p = record p { steps = suc p.steps }

-- one more interpreted step
abbrev pub tied : Processor → Processor
tied p = record p { steps = suc p.steps; interpreted = suc p.interpreted }

-- it retires its instruction and arrives at a boundary
abbrev pub arrived : Setting → Processor → VaxState → (held : Flags) → Regs → Processor
arrived setting p state held regs =
    record p { mode = mode_at setting p.thread state regs; boundary = state; held = held; retired = suc p.retired }

-- its instruction ended: it goes on, or it ends. A fault retires nothing and leaves the boundary
abbrev pub left : Setting → Processor → Last → Processor
left setting p (Comes (Finish state)) = arrived setting p state all_held (registers_of state)
left setting p (Comes (Exit state)) = record p { mode = Ended (ends.Exit (register 0 state)); boundary = state; retired = suc p.retired }
left setting p (Comes (Trap kind state)) = record p { mode = Ended (ends.Raised (Arithmetic kind)); boundary = state; retired = suc p.retired }
left setting p (Fails exception) = record p { mode = Ended (ends.Raised exception) }

-- it goes on inside a block, lands on a mapped word, or leaves Alpha code
abbrev pub placed : Setting → Processor → Place → Processor
placed setting p (Inside alpha) = record p { mode = Runs alpha }
placed setting p (Lands state held regs) = arrived setting p state held regs
placed setting p (Leaves last) = left setting p (settled_last p.boundary last)

-- what a processor does in its turn
pub data Turn : Type 0 where
  Went : Processor → Turn
  Asks : Request → ((before : ℕ) → (success : Bool) → Processor) → Turn
  -- it has ended
  Over : Turn
  -- it has no step
  Stuck : Turn

-- a turn in Alpha code is one step of it
abbrev pub alpha_turn : Setting → Processor → Next → Turn
alpha_turn setting p (Moves place) = Went (placed setting (stepped p) place)
alpha_turn setting p (Wants request on) = Asks request (λ before success. placed setting (stepped p) (on before success))
alpha_turn setting p step.Stuck = Stuck

-- ---- references as accesses
-- the kind of access that an interpreted reference makes
abbrev pub kind_by : RefKind → Kind
kind_by Read = kinds.TieRead
kind_by (Write value) = kinds.TieWrite
kind_by (Add value) = kinds.TieLocked
kind_by (SetBit n) = kinds.TieLocked
kind_by (ClearBit n) = kinds.TieLocked
kind_by (Put byte) = kinds.Put
kind_by Get = kinds.Get

-- an interpreted reference is one access to its quadword
abbrev pub request_of : (thread retired : ℕ) → Reference → Request
request_of thread retired reference = record {
  processor = thread;
  retired = retired;
  kind = kind_by reference.kind;
  quad = quad_address reference;
  change = change_of reference;
}

-- ---- turns
-- an interpreted turn: the reference that the instruction wants, or its fault, or its end
abbrev pub tie_turn : Setting → Processor → VaxState → (replies : List ℕ) → Answer → Turn
tie_turn setting p state replies (trees.Wants reference) =
    Asks (request_of p.thread p.retired reference) (λ before success. record (tied p) { mode = Interprets state (replies ++ reply_found reference before ∷ []) })
tie_turn setting p state replies (trees.Fails exception) = Went (left setting (tied p) (Fails exception))
tie_turn setting p state replies (trees.Comes e rest) = Went (left setting (tied p) (Comes e))

-- a turn in each mode. The instruction's tree is answered with its replies so far
abbrev pub turn_in : Setting → Processor → Mode → Turn
turn_in setting p New = Stuck
turn_in setting p (Runs alpha) = alpha_turn setting p (next setting (moment_of p) alpha)
turn_in setting p (Interprets state replies) = tie_turn setting p state replies (answer setting.meaning.pages (setting.meaning.moment p.thread state) replies)
turn_in setting p (Ended end) = Over

-- a new processor is at its first boundary
abbrev pub mode_of : Setting → Processor → Mode → Mode
mode_of setting p New = mode_at setting p.thread p.boundary (registers_of p.boundary)
mode_of setting p mode = mode

-- what the processor does in its next turn
abbrev pub turn : Setting → Processor → Turn
turn setting p = turn_in setting p (mode_of setting p p.mode)

-- a processor that began so, after so many turns, with its own entries, newest first
pub data Reaches (setting : Setting) (first : Processor) : ℕ → List Entry → Processor → Type 0 where
  Begins : Reaches setting first zero [] first
  Steps : {n : ℕ} {mine : List Entry} {p q : Processor} → Reaches setting first n mine p
      → turn setting p ≡ Went q → Reaches setting first (suc n) mine q
  Takes : {n : ℕ} {mine : List Entry} {p : Processor} {request : Request} {on : ℕ → Bool → Processor} → Reaches setting first n mine p
      → turn setting p ≡ Asks request on → (before : ℕ) (success : Bool)
      → Reaches setting first (suc n) (entry_by request before success ∷ mine) (on before success)
