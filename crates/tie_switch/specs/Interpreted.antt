-- What a thread does at a state, interpreted a reference at a time.
use Rattle.std.specs.Prelude.{◌≡◌, ◌≢◌, ◌<◌, ◌||◌, ℕ, Bool, true, false, List, [], length, take, Option, Some, None}
use Rattle.vax_form.specs.Grammar.{Found, instruction, reserved_instruction, reserved_mode, past}
use Rattle.vax_form.specs.GrammarFound.{found}
use Rattle.vax_form.specs.Moments.{handled_ending, handled_failure}
use Rattle.vax_form.specs.Tree.{Answer, Wants, Fails, Comes, Finish, Exit, Trap, answer, instruction_tree, outcome}
use Rattle.vax_form.specs.declared.instr.Instr.{Instr}
use Rattle.vax_form.specs.Targets.{operand_of}
use Rattle.vax_form.specs.declared.instr.Operand.{Operand}
use Rattle.vax_form.specs.declared.instr.Operand.TheVariants.{Place}
use Rattle.vax_form.specs.declared.operation.LongOperation.{LongOperation}
use Rattle.vax_form.specs.declared.operation.Operation.{Operation}
use Rattle.vax_form.specs.declared.operation.Operation.TheVariants as operations
use Rattle.vax_form.specs.declared.pages.Pages.{Pages}
use Rattle.vax_form.specs.declared.state.Exception.{Exception}
use Rattle.vax_form.specs.declared.state.Exception.TheVariants.{Arithmetic}
use Rattle.vax_form.specs.declared.state.Pending.TheVariants.{Nothing}
use Rattle.vax_form.specs.declared.state.VaxState.{VaxState}
use Rattle.vax_long.specs.Instructions.{long_at, script_found, tree_at}
use Rattle.tie_operands.specs.Replies.{replies_of}
use Rattle.tie_operands.specs.Steps as made
use Rattle.tie_operands.specs.Steps.{FailsByFault, IfWant}
use Rattle.tie_operands.specs.declared.step.TieStep.{TieStep}
use Rattle.tie_operands.specs.declared.step.TieStep.TheVariants as ties
use Rattle.tie_strings.specs.Bodies.{plain_of}
use Rattle.tie_strings.specs.Whole as long
use Rattle.tie_switch.specs.declared.place.Last.{Last}
use Rattle.tie_switch.specs.declared.place.Last.TheVariants as lasts
use Rattle.tie_switch.specs.declared.place.Ending.{Ending}
use Rattle.tie_switch.specs.declared.place.Ending.TheVariants as endings
use Rattle.tie_switch.specs.declared.interpreted.Interpreted.{Interpreted}
use Rattle.tie_switch.specs.declared.interpreted.Interpreted.TheVariants.{Plays, Long, Awaits}
use Rattle.tie_switch.specs.declared.played.Played.{Played}
use Rattle.tie_switch.specs.declared.interpreted.Step.{Step}
use Rattle.tie_switch.specs.declared.interpreted.Step.TheVariants as steps
use Rattle.tie_switch.specs.declared.interpreted.Came.{Came}
use Rattle.tie_switch.specs.declared.interpreted.Came.TheVariants as comes

-- a delivery and a resumption make so many references at most
abbrev pub replies_of_pending : ℕ
replies_of_pending = 10

-- an answer of a tree as a step
abbrev pub step_of : Answer → Step
step_of (Wants reference) = steps.Wants reference
step_of (Fails exception) = steps.Leaves (lasts.Fault exception)
step_of (Comes (Finish state) left) = steps.Leaves (lasts.Finish state)
step_of (Comes (Exit state) left) = steps.Leaves (lasts.Exit state)
step_of (Comes (Trap kind state) left) = steps.Leaves (lasts.Trap kind state)

-- ---- an end and a step with the state behind them
abbrev pub last_with : Ending → VaxState → Last
last_with endings.Finish after = lasts.Finish after
last_with endings.Exit after = lasts.Exit after
last_with (endings.Trap kind) after = lasts.Trap kind after
last_with (endings.Fault exception) after = lasts.Fault exception

abbrev pub step_with : Came → VaxState → Step
step_with (comes.Wants reference) after = steps.Wants reference
step_with (comes.Leaves ending) after = steps.Leaves (last_with ending after)

-- ---- what is interpreted
abbrev pub HasStringsBy : Option LongOperation → Type 0
HasStringsBy None = ⊥
HasStringsBy (Some operation) = plain_of operation ≡ None

-- an instruction with strings was found
abbrev pub HasStrings : Found → Type 0
HasStrings (instruction instr) = HasStringsBy (long_at instr.opcode)
HasStrings reserved_instruction = ⊥
HasStrings reserved_mode = ⊥
HasStrings (past address) = ⊥

-- an instruction without strings makes so many references at most
abbrev pub replies_of_instruction : ℕ
replies_of_instruction = 60

-- the replies so far
abbrev pub kept_of : Played → List ℕ
kept_of played = take played.count played.values

-- it keeps the state and the replies. One with strings has none
pub record IsPlayed (pages : Pages) (thread : ℕ) (played : Played) (state : VaxState) (replies : List ℕ) : Type 0 where
  pub nothing : state.pending ≡ Nothing
  pub before : played.before ≡ state
  pub of_thread : played.thread ≡ thread
  pub kept : kept_of played ≡ replies
  pub room : length replies < replies_of_instruction
  pub whole : HasStrings (found pages state.pc) → replies ≡ []

-- it stands for what the thread does at that state, with these replies made
abbrev pub Stands : Pages → (thread : ℕ) → Interpreted → VaxState → (replies : List ℕ) → Type 0
Stands pages thread (Plays played) state replies = IsPlayed pages thread played state replies
Stands pages thread (Long tie) state replies = (state.pending ≡ Nothing) × long.Stands pages tie state (tree_at pages thread state) replies
Stands pages thread (Awaits tie) state replies = (state.pending ≢ Nothing) × (tie.before ≡ state) × (replies_of tie.kept ≡ replies) × (length replies < replies_of_pending)

-- a fact where a step wants a reply
abbrev pub IfWants : Step → Type 0 → Type 0
IfWants (steps.Wants reference) P = P
IfWants (steps.Leaves last) P = Unit {0}

-- a step of an instruction without strings is what it comes to with these replies
pub record ComesTo (pages : Pages) (thread : ℕ) (before : VaxState) (there : Found) (replies : List ℕ) (step : TieStep) : Type 0 where
  pub answers : step ≡ made.step_of (outcome before (answer pages (instruction_tree pages (script_found there thread) before) replies))
  pub faults : FailsByFault (answer pages (instruction_tree pages (script_found there thread) before) replies)
  pub few : IfWant step (length replies < replies_of_instruction)
  pub whole : HasStrings there → ⊥

-- ---- the handler
-- an instruction's answer where the handler takes its exceptions
abbrev pub handled_answer : (before : VaxState) → Answer → Answer
handled_answer before (Wants reference) = Wants reference
handled_answer before (Fails exception) = handled_failure before exception []
handled_answer before (Comes e left) = Comes (handled_ending e) left

-- a step of an instruction without strings is what it comes to with these replies, and its handler took its exceptions
pub record StepsBy (pages : Pages) (thread : ℕ) (before : VaxState) (there : Found) (replies : List ℕ) (step : Step) : Type 0 where
  pub answers : step ≡ step_of (handled_answer before (answer pages (instruction_tree pages (script_found there thread) before) replies))
  pub few : IfWants step (length replies < replies_of_instruction)
  pub whole : HasStrings there → ⊥

-- an arithmetic exception of an instruction is a trap, and every other a fault
abbrev pub raised_last : Exception → VaxState → Last
raised_last (Arithmetic kind) state = lasts.Trap kind state
raised_last exception state = lasts.Fault exception

-- a step of an instruction wants a reply
abbrev pub IsWant : TieStep → Type 0
IsWant (ties.Want reference) = Unit {0}
IsWant (ties.Retired state) = ⊥
IsWant (ties.Exited state) = ⊥
IsWant (ties.Raised exception state) = ⊥

-- a processor stands before that instruction with nothing pending, and no reply was made to it
pub record IsBefore (pages : Pages) (boundary : VaxState) (instr : Instr) (state : VaxState) (replies : List ℕ) : Type 0 where
  pub there : found pages boundary.pc ≡ instruction instr
  pub nothing : boundary.pending ≡ Nothing
  pub same : state ≡ boundary
  pub none : replies ≡ []

-- ---- what is gone through at once
-- an operation makes references besides those of its operands
abbrev pub asks_beyond_operands : Option Operation → Bool
asks_beyond_operands (Some operations.PushLong) = true
asks_beyond_operands (Some (operations.PushAddress size)) = true
asks_beyond_operands (Some (operations.BranchToSubroutine width)) = true
asks_beyond_operands (Some operations.JumpToSubroutine) = true
asks_beyond_operands (Some operations.ReturnFromSubroutine) = true
asks_beyond_operands (Some operations.ChangeMode) = true
asks_beyond_operands (Some _) = false
asks_beyond_operands None = false

-- an operand is in memory
abbrev pub is_place : Operand → Bool
is_place (Place base index) = true
is_place _ = false

-- one of the operands that are looked at is: few instructions have more
abbrev pub has_places : Instr → Bool
has_places instr = is_place (operand_of instr 0) || (is_place (operand_of instr 1) || is_place (operand_of instr 2))
