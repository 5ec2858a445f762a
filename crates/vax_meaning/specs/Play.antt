-- What a function of the code does to a cursor, said by a script.
use Rattle.std.specs.Prelude.{◌≡◌, ℕ, List, ◌+◌, ◌<◌, ◌≤◌, length, Result, Ok, Err}
use Rattle.vax_form.specs.declared.script.Stop.{Stop}
use Rattle.vax_form.specs.declared.script.Stop.TheVariants.{Wants, Fails}
use Rattle.vax_form.specs.declared.state.Outcome.{Outcome}
use Rattle.vax_form.specs.declared.state.Outcome.TheVariants as outcomes
pub use Rattle.vax_form.specs.Ranges.{IsFault}
use Rattle.vax_form.specs.Script.{Script, Moment, run}
use Rattle.vax_meaning.specs.declared.cursor.Cursor.{Cursor}

abbrev pub view : Cursor → Moment
view c = record { state = c.state; pages = c.pages.now; replies = c.replies.now }

-- a function of the code, from one cursor to another, does what the script does
abbrev pub Plays : {A : Type 0} → Script A → Cursor → Result A Stop → Cursor → Type 0
Plays script old (Ok x) new = run script (view old) ≡ Ok (x, view new)
Plays script old (Err e) new = run script (view old) ≡ Err (e, new.replies.now)

-- how many replies are used at most: what wants one more had fewer, and what fails does so by a fault
abbrev pub Uses : {A : Type 0} → ℕ → Cursor → Result A Stop → Cursor → Type 0
Uses most old (Ok x) new = length old.replies.now ≤ length new.replies.now + most
Uses most old (Err (Wants reference)) new = length old.replies.now < most
Uses most old (Err (Fails exception)) new = IsFault exception

-- an outcome that wants a reference had fewer replies
abbrev pub Within : ℕ → List ℕ → Outcome → Type 0
Within most replies (outcomes.Wants reference) = length replies < most
Within most replies (outcomes.Done state) = Unit {0}
Within most replies (outcomes.Exits state) = Unit {0}
Within most replies (outcomes.Raises exception state) = Unit {0}
