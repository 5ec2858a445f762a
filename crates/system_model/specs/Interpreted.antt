-- The interpreted steps of a driven thread.
use Rattle.std.specs.Prelude.{ℕ, zero, suc, ◌+◌, Bool, true, false, List, [], ◌∷◌, Option, Some, None, if◌then◌else◌}
use Rattle.std.specs.Option.{is_some}
use Rattle.vax_form.specs.Pages.{first_bad}
use Rattle.vax_form.specs.Tree.{Tree, Check, Ask, Fault, Ends, Life, Runs, Exited, Trapped, Retired}
use Rattle.vax_form.specs.declared.pages.Pages.{Pages}
use Rattle.vax_form.specs.declared.state.VaxState.{VaxState}
use Rattle.vax_driven.specs.Threads.{Threads, reached}
use Rattle.vax_driven.specs.declared.thread.End.TheVariants as ends
use Rattle.system_model.specs.Processors.{Mode, Ended}
use Rattle.system_model.specs.Settings.{Setting, goes_on}

-- the threads that start so, by what instructions mean
abbrev pub threads_of : Setting → (starts : ℕ → Option VaxState) → Threads
threads_of setting starts = record { pages = setting.meaning.pages; start = starts; tree = setting.meaning.moment }

-- the thread's instruction at this address runs in Alpha code: it is mapped, and in no range of the thread
abbrev pub is_translated : Setting → (thread : ℕ) → VaxState → Bool
is_translated setting thread state = is_some (goes_on setting thread state)

-- ---- references
-- nothing where a check fails
abbrev pub unless : Option ℕ → ℕ → ℕ
unless None n = n
unless (Some address) n = 0

-- how many references a tree makes with these replies
abbrev pub made_in : Pages → Tree → List ℕ → ℕ
made_in pages (Check address count write tree) w = unless (first_bad pages write address count) (made_in pages tree w)
made_in pages (Ask r on) [] = 0
made_in pages (Ask r on) (v ∷ w) = suc (made_in pages (on v) w)
made_in pages (Fault x) w = 0
made_in pages (Ends e) w = 0

-- those of an instruction that is interpreted
abbrev pub interpreted_by : Setting → (thread : ℕ) → Life → VaxState → List ℕ → ℕ
interpreted_by setting thread Runs state w = if is_translated setting thread state then 0 else made_in setting.meaning.pages (setting.meaning.moment thread state) w
interpreted_by setting thread Exited state w = 0
interpreted_by setting thread (Trapped kind) state w = 0

-- those of the instruction at which a thread stands, where it is interpreted
abbrev pub interpreted_in : Setting → (thread : ℕ) → Option Retired → ℕ
interpreted_in setting thread None = 0
interpreted_in setting thread (Some here) = interpreted_by setting thread here.life here.state here.left

-- ---- ends
-- one for the end of an instruction that is interpreted
abbrev pub end_by : Setting → (thread : ℕ) → Life → VaxState → ℕ
end_by setting thread Runs state = if is_translated setting thread state then 0 else 1
end_by setting thread Exited state = 0
end_by setting thread (Trapped kind) state = 0

-- that of the instruction at which a thread stands, where it is interpreted
abbrev pub end_in : Setting → (thread : ℕ) → Option Retired → ℕ
end_in setting thread None = 0
end_in setting thread (Some here) = end_by setting thread here.life here.state

-- the processor reported that its thread raised an exception
abbrev pub has_raised : Mode → Bool
has_raised (Ended (ends.Raised exception)) = true
has_raised mode = false

-- ---- steps
-- the references and ends of the interpreted ones among the first n instructions of the driven thread
abbrev pub interpreted_of : Setting → (starts : ℕ → Option VaxState) → (thread n : ℕ) → List ℕ → ℕ
interpreted_of setting starts thread zero w = 0
interpreted_of setting starts thread (suc n) w =
    interpreted_of setting starts thread n w
    + (end_in setting thread (reached (threads_of setting starts) thread n w) + interpreted_in setting thread (reached (threads_of setting starts) thread n w))

-- the references of the instruction behind them, and its fault where the processor reported one
abbrev pub interpreted_open : Setting → (thread : ℕ) → Option Retired → Mode → ℕ
interpreted_open setting thread here mode = interpreted_in setting thread here + (if has_raised mode then end_in setting thread here else 0)

-- the interpreted steps of a driven thread, after so many instructions and with these replies: over its instructions that
-- are interpreted, the references made, and one for each end that the processor reported
abbrev pub interpreted : Setting → (starts : ℕ → Option VaxState) → (thread retired : ℕ) → (replies : List ℕ) → Mode → ℕ
interpreted setting starts thread retired replies mode =
    interpreted_of setting starts thread retired replies + interpreted_open setting thread (reached (threads_of setting starts) thread retired replies) mode
