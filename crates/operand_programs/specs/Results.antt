-- A result goes to memory or to a register, and what the specifiers added goes into the registers.
-- VAX Architecture Reference Manual, "Operand Specifier Formats": a byte or a word keeps the upper bits of its register.
use Rattle.std.specs.Prelude.{◌≡◌, ℕ, ◌+◌, ◌-◌, ◌^◌, ◌<◌, ◌==◌, false, Some, List, [], ◌∷◌, ◌++◌, length, min, slice_index, slice_set, if◌then◌else◌}
use Rattle.vax_form.specs.Size.{bytes_of}
use Rattle.vax_form.specs.Script.{Script}
use Rattle.vax_form.specs.State.{register, with_core, SP}
use Rattle.vax_form.specs.Tree.{Tree, tree_of}
use Rattle.vax_form.specs.declared.instr.Operand.{Operand}
use Rattle.vax_form.specs.declared.instr.Operand.TheVariants as operands
use Rattle.vax_form.specs.declared.instr.Size.{Size}
use Rattle.vax_form.specs.declared.instr.Size.TheVariants.{Byte, Word, Long, Quad}
use Rattle.vax_form.specs.declared.pages.Pages.{Pages}
use Rattle.vax_form.specs.declared.state.VaxState.{VaxState}
use Rattle.vax_meaning.specs.Moves.{push}
use Rattle.vax_meaning.specs.Operands.{store, put, put_register}
use Rattle.vax_meaning.specs.declared.operands.Location.{Location}
use Rattle.vax_meaning.specs.declared.operands.Location.TheVariants.{InMemory, InRegister}
use Rattle.micro_ops.specs.Leaving.{CodesComeFrom}
use Rattle.micro_ops.specs.Meaning.{Temps, Found, Standing, course_of}
use Rattle.micro_ops.specs.declared.codes.CodeSources.{CodeSources}
use Rattle.micro_ops.specs.declared.program.Arg.TheVariants.{Temp, Register, Const}
use Rattle.micro_ops.specs.declared.program.Micro.{Micro}
use Rattle.micro_ops.specs.declared.program.Micro.TheVariants.{Compute, Write, Commit}
use Rattle.micro_ops.specs.declared.program.MicroOp.TheVariants as ops
use Rattle.operand_programs.specs.Specifiers.{stepped, with_step, sum_into, store_program, commit_program}
use Rattle.operand_programs.specs.Pieces.{Agrees, Kept, with_temps, leaving}
use Rattle.operand_programs.specs.Operands.{IsAt, IsOfSize}

-- ---- memory
-- a result for an operand in memory is checked with write intent and written
abbrev pub result_program : Operand → Size → (place from : ℕ) → List Micro
result_program (operands.Place base index) size place from = store_program size place from
result_program operand size place from = []

-- a result for an operand that was modified was checked before
abbrev pub replacement_program : Operand → Size → (place from : ℕ) → List Micro
replacement_program (operands.Place base index) size place from = Write place (bytes_of size) from ∷ []
replacement_program operand size place from = []

-- the state behind a result: memory is no part of it
abbrev pub given : Location → Size → (value : ℕ) → VaxState → VaxState
given (InRegister n) size value state = put_register n size value state
given (InMemory address) size value state = state

-- the piece does what the instruction does that gives the temporary's value to where the operand is
abbrev pub Gives : (Location → Size → (value : ℕ) → Script (Unit {0})) → Operand → Size → (place from : ℕ) → List Micro → Type 0
Gives give operand size place from piece = (sources : CodeSources) (start : VaxState) (pages : Pages) (thread : ℕ) (program : List Micro) (found : Found) (standing : Standing)
    (location : Location) (state : VaxState) (rest : Unit {0} → VaxState → Tree)
    → IsAt operand location (standing.temps place)
    → Agrees (CodesComeFrom sources start) (leaving pages thread) (course_of program found standing) (rest tt (given location size (standing.temps from) state))
    → Agrees (CodesComeFrom sources start) (leaving pages thread) (course_of (piece ++ program) found standing)
    (tree_of pages (give location size (standing.temps from)) state rest)

-- the value is checked and stored
abbrev pub StoresResult : Operand → Size → (place from : ℕ) → List Micro → Type 0
StoresResult = Gives store

-- the value replaces that of an operand that was checked before
abbrev pub ReplacesOperand : Operand → Size → (place from : ℕ) → List Micro → Type 0
ReplacesOperand = Gives put

-- ---- registers
-- the steps of the registers that take no result
abbrev pub steps_left : Operand → Size → (steps : List ℕ) → List ℕ
steps_left (operands.Register n) Quad steps = slice_set (slice_set steps n 0) (min (n + 1) 255) 0
steps_left (operands.Register n) size steps = slice_set steps n 0
steps_left operand size steps = steps

-- a register without the bits of a mask; one to which something was added is taken with that
abbrev pub cleared_program : (number step mask : ℕ) → List Micro
cleared_program n step mask =
    if step == 0
    then Compute 5 ops.AndNot Long (Register n) (Const mask) ∷ []
    else Compute 5 ops.Add Long (Register n) (Const step) ∷ Compute 5 ops.AndNot Long (Temp 5) (Const mask) ∷ []

-- the low bits, those of the mask, are replaced
abbrev pub low_program : (number : ℕ) → (steps : List ℕ) → (mask from : ℕ) → List Micro
low_program n steps mask from = cleared_program n (slice_index steps n) mask ++ Compute 5 ops.Or Quad (Temp 5) (Temp from) ∷ Commit n 5 ∷ []

-- the halves of a quadword go into a register and the next one
abbrev pub pair_program : (number from : ℕ) → List Micro
pair_program n from = Commit n from ∷ Compute 5 ops.ShiftRight Quad (Temp from) (Const 32) ∷ Commit (min (n + 1) 255) 5 ∷ []

-- a quadword in registers has a next one
abbrev pub IsGivable : Operand → Size → Type 0
IsGivable (operands.Register n) Quad = n < 255
IsGivable operand size = Unit {0}

-- the result goes into its register
abbrev pub give_program : Operand → Size → (steps : List ℕ) → (from : ℕ) → List Micro
give_program (operands.Register n) Byte steps from = low_program n steps 0xFF from
give_program (operands.Register n) Word steps from = low_program n steps 0xFFFF from
give_program (operands.Register n) Long steps from = Commit n from ∷ []
give_program (operands.Register n) Quad steps from = pair_program n from
give_program operand size steps from = []

-- each register is committed once: with the result, or with what the specifiers added
abbrev pub finish_program : Operand → Size → (steps : List ℕ) → (from : ℕ) → List Micro
finish_program operand size steps from = commit_program 0 (steps_left operand size steps) ++ give_program operand size steps from

-- a standing with the registers of a state
abbrev pub with_registers_of : VaxState → Temps → Standing → Standing
with_registers_of state temps standing = record standing { temps = temps; state = with_core standing.state state.r standing.state.pc standing.state.psw }

-- all temporaries but 5 are as they were
abbrev pub KeptBut5 : (before after : Temps) → Type 0
KeptBut5 before after = (temp : ℕ) → (temp == 5) ≡ false → after temp ≡ before temp

-- each register is a longword
abbrev pub AreLongwords : List ℕ → Type 0
AreLongwords r = (number : ℕ) → slice_index r number < 2 ^ 32

-- the piece leaves in the registers what the specifiers added, and the result where the operand is a register
abbrev pub Finishes : Operand → Size → (steps : List ℕ) → (from : ℕ) → List Micro → Type 0
Finishes operand size steps from piece = (sources : CodeSources) (start : VaxState) (pages : Pages) (thread : ℕ) (program : List Micro) (found : Found) (standing : Standing)
    (location : Location) (address : ℕ) (tree : Tree)
    → length steps ≡ length found.state.r → standing.state.r ≡ found.state.r → AreLongwords found.state.r
    → IsAt operand location address → IsOfSize size (standing.temps from)
    → ((temps : Temps) → KeptBut5 standing.temps temps
    → Agrees (CodesComeFrom sources start) (leaving pages thread)
    (course_of program found (with_registers_of (given location size (standing.temps from) (stepped steps found.state)) temps standing)) tree)
    → Agrees (CodesComeFrom sources start) (leaving pages thread) (course_of (piece ++ program) found standing) tree

-- the piece leaves in the registers what the specifiers added
abbrev pub CommitsSteps : (steps : List ℕ) → List Micro → Type 0
CommitsSteps steps piece = (sources : CodeSources) (start : VaxState) (pages : Pages) (thread : ℕ) (program : List Micro) (found : Found) (standing : Standing) (tree : Tree)
    → length steps ≡ length found.state.r → standing.state.r ≡ found.state.r → AreLongwords found.state.r
    → ((temps : Temps) → KeptBut5 standing.temps temps
    → Agrees (CodesComeFrom sources start) (leaving pages thread) (course_of program found (with_registers_of (stepped steps found.state) temps standing)) tree)
    → Agrees (CodesComeFrom sources start) (leaving pages thread) (course_of (piece ++ program) found standing) tree

-- ---- the stack
-- where a longword is pushed
abbrev pub steps_behind_push : (steps : List ℕ) → List ℕ
steps_behind_push steps = with_step SP (2 ^ 32 - 4) steps

-- the temporary's longword is checked with write intent and written below the stack
abbrev pub push_program : (steps : List ℕ) → (place from : ℕ) → List Micro
push_program steps place from = sum_into place (Some SP) (slice_index (steps_behind_push steps) SP) ∷ store_program Long place from

-- the piece pushes the temporary's value as the instruction does, and leaves the stack pointer in the place
abbrev pub Pushes : (steps : List ℕ) → (place from : ℕ) → List Micro → Type 0
Pushes steps place from piece = (sources : CodeSources) (start : VaxState) (pages : Pages) (thread : ℕ) (program : List Micro) (found : Found) (standing : Standing)
    (rest : Unit {0} → VaxState → Tree)
    → length steps ≡ length found.state.r → SP < length steps
    → ((temps : Temps) → Kept place place standing.temps temps → temps place ≡ register SP (stepped (steps_behind_push steps) found.state)
    → Agrees (CodesComeFrom sources start) (leaving pages thread) (course_of program found (with_temps temps standing)) (rest tt (stepped (steps_behind_push steps) found.state)))
    → Agrees (CodesComeFrom sources start) (leaving pages thread) (course_of (piece ++ program) found standing)
    (tree_of pages (push (standing.temps from)) (stepped steps found.state) rest)
