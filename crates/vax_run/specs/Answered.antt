-- Answers of instructions as the code sees them.
use Rattle.std.specs.Prelude.{ℕ, ◌≤◌, List, Option, Some, None, Result, Ok, Err, drop, if◌then◌else◌}
use Rattle.vax_form.specs.Moments.{delivering, has_handler}
use Rattle.vax_form.specs.Tree as trees
use Rattle.vax_form.specs.Tree.{Retired, ending}
use Rattle.vax_form.specs.declared.script.End.{End}
use Rattle.vax_form.specs.declared.script.End.TheVariants as ends
use Rattle.vax_form.specs.declared.script.Stop.{Stop}
use Rattle.vax_form.specs.declared.script.Stop.TheVariants as stops
use Rattle.vax_form.specs.declared.state.Exception.TheVariants.{Arithmetic}
use Rattle.vax_form.specs.declared.state.VaxState.{VaxState}
use Rattle.vax_run.specs.declared.answered.Answer.{Answer}
use Rattle.vax_run.specs.declared.answered.Answer.TheVariants.{Wants, Fails, Comes}
use Rattle.vax_run.specs.declared.advance.Life.{Life}
use Rattle.vax_run.specs.declared.advance.Life.TheVariants.{Runs, Exited, Trapped}
use Rattle.vax_run.specs.declared.advance.Place.{Place}

-- the answer to these replies
abbrev pub answer_to : List ℕ → Answer → trees.Answer
answer_to replies (Wants reference) = trees.Wants reference
answer_to replies (Fails exception) = trees.Fails exception
answer_to replies (Comes end state taken) = trees.Comes (ending end state) (drop taken replies)

-- it took no more replies than there were
abbrev pub IsWithin : (count : ℕ) → Answer → Type 0
IsWithin count (Wants reference) = Unit {0}
IsWithin count (Fails exception) = Unit {0}
IsWithin count (Comes end state taken) = taken ≤ count

-- what a script that was run comes to
abbrev pub answer_of : Result End Stop → VaxState → (taken : ℕ) → Answer
answer_of (Ok end) state taken = Comes end state taken
answer_of (Err (stops.Wants reference)) state taken = Wants reference
answer_of (Err (stops.Fails exception)) state taken = Fails exception

-- the end of what a thread does at a state, where the handler takes a trap
abbrev pub handled_end : VaxState → End → (taken : ℕ) → Answer
handled_end state ends.Done taken = Comes ends.Done state taken
handled_end state ends.Exits taken = Comes ends.Exits state taken
handled_end state (ends.Traps kind) taken =
    if has_handler state then Comes ends.Done (delivering (Arithmetic kind) state) taken else Comes (ends.Traps kind) state taken

-- what a script that was run comes to, where the handler takes the exceptions
abbrev pub handled_answer : (before state : VaxState) → Result End Stop → (taken : ℕ) → Answer
handled_answer before state (Ok end) taken = handled_end state end taken
handled_answer before state (Err (stops.Wants reference)) taken = Wants reference
handled_answer before state (Err (stops.Fails exception)) taken =
    if has_handler before then Comes ends.Done (delivering exception before) taken else Fails exception

-- how a thread goes on, as the trees say it
abbrev pub life_of : Life → trees.Life
life_of Runs = trees.Runs
life_of Exited = trees.Exited
life_of (Trapped kind) = trees.Trapped kind

-- how a thread goes on behind an end
abbrev pub life_behind_of : End → Life
life_behind_of ends.Done = Runs
life_behind_of ends.Exits = Exited
life_behind_of (ends.Traps kind) = Trapped kind

-- a thread that got these replies
abbrev pub reached_of : List ℕ → Option Place → Option Retired
reached_of replies None = None
reached_of replies (Some place) = Some (record { life = life_of place.life; state = place.state; left = drop place.taken replies })

-- a place among so many replies
abbrev pub IsPlace : (count : ℕ) → Option Place → Type 0
IsPlace count None = Unit {0}
IsPlace count (Some place) = place.taken ≤ count
