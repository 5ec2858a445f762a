-- Turns that ask nothing: what the local steps of a processor are, told by the code alone.
use Rattle.std.specs.Prelude.{◌≡◌, ℕ, zero, suc, ◌+◌, Bool, true, false, Option, Some, None, is_some, option_and_then}
use Rattle.address_map.specs.Pairs.{address_at}
use Rattle.alpha_meaning.specs.State.{Alpha, at_place}
use Rattle.exception_records.specs.Codes.{all_ready}
use Rattle.exception_records.specs.declared.rules.Rules.{Rules}
use Rattle.vax_form.specs.declared.pages.Pages.{Pages}
use Rattle.vax_form.specs.declared.state.Flags.{Flags}
use Rattle.vax_form.specs.declared.state.VaxState.{VaxState}
use Rattle.prepared_code.specs.Inside.{local_at, steps_in, landing, landed}
use Rattle.prepared_code.specs.Probes.{Passes}
use Rattle.prepared_code.specs.Sources.{Source}
use Rattle.prepared_code.specs.declared.blocks.Block.{Block}
use Rattle.system_model.specs.Processors.{Mode, New, Runs, Interprets, Ended, Processor, Turn, Went, Asks, Over, Stuck, turn, mode_of, moment_of, stepped, arrived}
use Rattle.system_model.specs.Ranges.{word_for}
use Rattle.system_model.specs.Settings.{Setting}
use Rattle.system_model.specs.Steps.{state_at, held_behind}

-- the processor behind a turn that asks nothing
abbrev pub went_by : Turn → Option Processor
went_by (Went p) = Some p
went_by (Asks request on) = None
went_by Over = None
went_by Stuck = None

-- the processor after so many turns, none of which asks
abbrev pub went : Setting → Processor → ℕ → Option Processor
went setting p zero = Some p
went setting p (suc n) = option_and_then (λ q. went_by (turn setting q)) (went setting p n)

-- in Alpha code there, with so many steps more
abbrev pub ran : Processor → Alpha → ℕ → Processor
ran p c n = record p { mode = Runs c; steps = p.steps + n }

-- steps inside a block are turns, which change the registers and the count of steps alone
abbrev pub StepsAreTurns : Type 0
StepsAreTurns = (setting : Setting) (p : Processor) (c d : Alpha) (n : ℕ) → p.mode ≡ Runs c
    → steps_in setting.code c n ≡ Some d → went setting p n ≡ Some (ran p d n)

-- the thread goes on in Alpha code at the next word: inside a block, or at the block of an address that it does not interpret
abbrev pub goes_on_at : Setting → (thread : ℕ) → Option ℕ → Bool
goes_on_at setting thread None = true
goes_on_at setting thread (Some address) = is_some (word_for setting.code.map setting.ranges thread address)

abbrev pub goes_on_behind : Setting → (thread : ℕ) → Option Alpha → Bool
goes_on_behind setting thread None = false
goes_on_behind setting thread (Some d) = goes_on_at setting thread (address_at setting.code.map d.pc)

-- the word there is a local instruction, and the thread goes on in Alpha code behind it
abbrev pub goes_on_locally : Setting → (thread : ℕ) → Alpha → Bool
goes_on_locally setting thread c = goes_on_behind setting thread (local_at setting.code c)

abbrev pub is_local_in : Setting → (thread : ℕ) → Mode → Bool
is_local_in setting thread New = false
is_local_in setting thread (Runs c) = goes_on_locally setting thread c
is_local_in setting thread (Interprets state replies) = false
is_local_in setting thread (Ended end) = false

-- the processor's next turn is such a step, where nothing is pending
abbrev pub is_local : Setting → Processor → Bool
is_local setting p = is_local_in setting p.thread (mode_of setting p p.mode)

-- ---- a step that lands
-- the rules of a block, without which all codes stand in their registers
abbrev pub block_rules : Option Rules → Rules
block_rules None = all_ready
block_rules (Some rules) = rules

-- the state at a block's first word, and all else as it was at the boundary
abbrev pub state_there : (boundary : VaxState) → Alpha → Block → (held : Flags) → VaxState
state_there boundary c block held = state_at boundary c.regs block.address (block_rules block.rules) held

abbrev pub source_in : Setting → Pages → Source
source_in setting pages = record { code = setting.code; pages = pages }

-- a step that lands is a turn that arrives at the block
abbrev pub LandingsAreTurns : Type 0
LandingsAreTurns = (setting : Setting) (pages : Pages) (p : Processor) (c d : Alpha) (block : Block) → p.mode ≡ Runs c
    → landing (source_in setting pages) c ≡ Some (landed d block)
    → turn setting p
    ≡ Went (arrived setting (stepped p) (state_there p.boundary d block (held_behind setting (moment_of p))) (held_behind setting (moment_of p)) d.regs)

-- ---- a probe inside a block
-- it is a turn that goes on at the next word
abbrev pub ProbesAreTurns : Type 0
ProbesAreTurns = (setting : Setting) (p : Processor) (c : Alpha) → p.mode ≡ Runs c → Passes (source_in setting setting.meaning.pages) c
    → turn setting p ≡ Went (record (stepped p) { mode = Runs (at_place c.regs (c.pc + 1)) })
