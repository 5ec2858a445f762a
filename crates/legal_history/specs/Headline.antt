-- What the headline says of one thread and its processor.
use Rattle.std.specs.Prelude.{◌≡◌, ℕ, ◌+◌, ◌*◌, ◌≤◌, true, false, List, Option, Some}
use Rattle.memory_core.specs.declared.entry.Entry.{Entry}
use Rattle.vax_form.specs.State.{register}
use Rattle.vax_form.specs.declared.state.VaxState.{VaxState}
use Rattle.vax_driven.specs.declared.ThreadRun.{ThreadRun}
use Rattle.alpha_meaning.specs.Pieces.{retry_steps}
use Rattle.block_law.specs.Rounds.{block_steps}
use Rattle.system_model.specs.Interpreted.{interpreted}
use Rattle.system_model.specs.Settings.{Setting}
use Rattle.system_model.specs.Processors.{Mode, New, Runs, Interprets, Ended, Processor}
use Rattle.vax_driven.specs.declared.thread.End.TheVariants as ends
use Rattle.legal_history.specs.Entries.{counted_in, failed_in}

-- what a processor's end claims of its driven thread: the thread exited with that R0, or raised that exception, and
-- else it has not exited
abbrev pub Claims : Mode → ThreadRun → Type 0
Claims (Ended (ends.Exit value)) run = (run.exited ≡ true) × (value ≡ register 0 run.state)
Claims (Ended (ends.Raised exception)) run = run.raised ≡ Some exception
Claims (Ended ends.Spent) run = run.exited ≡ false
Claims New run = run.exited ≡ false
Claims (Runs alpha) run = run.exited ≡ false
Claims (Interprets state replies) run = run.exited ≡ false

-- its steps are bounded by the instructions it retired, the references it made, and the stores that failed
abbrev pub HasFewSteps : Processor → List Entry → Type 0
HasFewSteps p mine = p.steps ≤ block_steps * (p.retired + counted_in mine + 1) + retry_steps * failed_in mine

-- its interpreted steps are those of its driven thread
abbrev pub HasInterpreted : Setting → (starts : ℕ → Option VaxState) → (thread : ℕ) → List ℕ → Processor → Type 0
HasInterpreted setting starts thread replies p = p.interpreted ≡ interpreted setting starts thread p.retired replies p.mode
