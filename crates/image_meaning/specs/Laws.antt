-- What the VAX instructions do stays in range, and goes with processors.
use Rattle.std.specs.Prelude.{◌≡◌, ℕ, ◌<◌, ◌^◌}
use Rattle.vax_form.specs.Grammar.{instruction}
use Rattle.vax_form.specs.GrammarFound.{found}
use Rattle.vax_form.specs.GrammarLaws.{AreBytes}
use Rattle.vax_form.specs.Operation.{operation_at}
use Rattle.vax_form.specs.Ranges.{StaysInRange, FailsByFaults}
use Rattle.vax_form.specs.State.{IsState}
use Rattle.vax_form.specs.Tree.{instruction_tree}
use Rattle.vax_form.specs.declared.instr.Instr.{Instr}
use Rattle.vax_form.specs.declared.pages.Pages.{Pages}
use Rattle.vax_form.specs.declared.state.Flags.{Flags}
use Rattle.vax_form.specs.declared.state.VaxState.{VaxState}
use Rattle.vax_meaning.specs.Control.{serve}
use Rattle.vax_long.specs.Instructions.{tree_at}
use Rattle.vax_long.specs.Pending.{moment_at}
use Rattle.block_law.specs.Services.{service}
use Rattle.block_law.specs.Sound.{IsSound}
use Rattle.image_meaning.specs.Meant.{codes_of, codes_written, vax_meaning}

-- whatever stands at the PC of a state of a thread, where the code has bytes alone
abbrev pub TreeAtStaysInRange : Type 0
TreeAtStaysInRange = (pages : Pages) (thread : ℕ) → AreBytes pages.code → thread < 256 → StaysInRange pages (tree_at pages thread)

-- whatever a thread does at a state
abbrev pub MomentsStayInRange : Type 0
MomentsStayInRange = (pages : Pages) (thread : ℕ) → AreBytes pages.code → thread < 256 → StaysInRange pages (moment_at pages thread)

-- no instruction's fault is arithmetic
abbrev pub TreeAtFailsByFaults : Type 0
TreeAtFailsByFaults = (pages : Pages) (thread : ℕ) → AreBytes pages.code → thread < 256 → (state : VaxState) → IsState state
    → FailsByFaults pages (tree_at pages thread state)

-- what CHMK does by its code is the service
abbrev pub ServicesAre : Type 0
ServicesAre = (pages : Pages) (thread code : ℕ) (state : VaxState) → instruction_tree pages (serve code thread) state ≡ service thread code state

-- what is written of the codes at an instruction's address is what its operation writes
abbrev pub CodesWrittenAreTheOperations : Type 0
CodesWrittenAreTheOperations = (pages : Pages) (address : ℕ) (instr : Instr) → AreBytes pages.code → address < 2 ^ 32
    → found pages address ≡ instruction instr → codes_written pages address ≡ codes_of (operation_at instr.opcode)

-- where the code has bytes alone
abbrev pub VaxMeaningIsSound : Type 0
VaxMeaningIsSound = (pages : Pages) (written : ℕ → Flags) → AreBytes pages.code → IsSound (vax_meaning pages written)
