-- What contracts see of a processor in Alpha code whose boundary is not worked out.
use Rattle.std.specs.Prelude.{◌≡◌, ℕ, suc, ◌+◌, false, Option, Some, None, IfSome, option_map}
use Rattle.std.specs.Option.{option_or}
use Rattle.alpha_machine.specs.Step.{state_of}
use Rattle.alpha_machine.specs.declared.cpu.Cpu.{Cpu}
use Rattle.prepared_code.specs.Sources.{Source, block_at}
use Rattle.vax_form.specs.Pages.{code_byte_at}
use Rattle.vax_form.specs.declared.pages.Pages.{Pages}
use Rattle.vax_form.specs.declared.state.Flags.{Flags}
use Rattle.vax_form.specs.declared.state.VaxState.{VaxState}
use Rattle.system_model.specs.Processors.{Runs, Processor}
use Rattle.system_model.specs.Settings.{Setting}
use Rattle.tie_switch.specs.Inside.{state_there, went}
use Rattle.tie_switch.specs.declared.course.Course.{Course}
use Rattle.tie_switch.specs.declared.course.Landed.{Landed}

-- the boundary behind its latest landing, if it landed since the boundary before
abbrev pub boundary_by : (before : VaxState) → (held : Flags) → Option Landed → VaxState
boundary_by before held None = before
boundary_by before held (Some l) = state_there before (state_of l.cpu) l.block held

-- the processor of the model
abbrev pub course_of : (thread : ℕ) → (before : VaxState) → (interpreted : ℕ) → Course → (steps : ℕ) → Processor
course_of thread before interpreted course steps = record {
  thread = thread;
  mode = Runs (state_of course.cpu);
  boundary = boundary_by before course.held course.landed;
  held = course.held;
  retired = course.retired;
  steps = steps;
  interpreted = interpreted;
}

-- the opcode that is kept of the block where it landed is the byte there
abbrev pub HasOpcode : Pages → Option Landed → Type 0
HasOpcode pages landed = IfSome landed (λ l. l.block.opcode ≡ code_byte_at pages l.block.address)

-- it makes so many turns, none of which asks
abbrev pub Goes : Setting → (thread : ℕ) → (before : VaxState) → (old new : Course) → ℕ → Type 0
Goes setting thread before old new n =
    (interpreted steps : ℕ) → went setting (course_of thread before interpreted old steps) n ≡ Some (course_of thread before interpreted new (steps + n))

-- the turns of the one are those of the other
abbrev pub Begins : Setting → (p q : Processor) → Type 0
Begins setting p q = (n : ℕ) → went setting p (suc n) ≡ went setting q (suc n)

-- it holds no code
abbrev pub HoldsNone : Flags → Type 0
HoldsNone held = (held.n ≡ false) × (held.z ≡ false) × (held.v ≡ false) × (held.c ≡ false)

-- the block that begins where it stands is where it landed
abbrev pub landed_there : Source → Cpu → Option Landed → Option Landed
landed_there source cpu before = option_or (option_map (λ block. record { cpu = cpu; block = block }) (block_at source cpu.pc)) before
