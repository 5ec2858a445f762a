-- What a step answers, and the processor that it leaves.
use Rattle.std.specs.Prelude.{ℕ, List, ◌≡◌, ◌%◌, ◌^◌, slice_index, Option}
use Rattle.alpha_encode.specs.declared.instr.AlphaInstr.{AlphaInstr}
use Rattle.alpha_encode.specs.Words.{instr_at}
use Rattle.alpha_meaning.specs.State.{Alpha, regs_of}
use Rattle.alpha_meaning.specs.Act.{Does, Goes, Asks, Calls}
use Rattle.alpha_machine.specs.declared.cpu.Cpu.{Cpu}
use Rattle.alpha_machine.specs.declared.cpu.AlphaStep.{AlphaStep}
use Rattle.alpha_machine.specs.declared.cpu.AlphaStep.TheVariants.{Local, Want, Pal}

-- the registers and the program counter of a processor
abbrev pub state_of : Cpu → Alpha
state_of cpu = record { regs = regs_of cpu.r; pc = cpu.pc }

-- the program counter is modulo 2^32 words
abbrev pub wrapped : Alpha → Alpha
wrapped s = record { regs = s.regs; pc = s.pc % 2 ^ 32 }

-- the instruction at the program counter
abbrev pub current : List ℕ → Cpu → Option AlphaInstr
current code cpu = instr_at (slice_index code cpu.pc)

-- A local instruction is done whole. An access and a PALcode call are left to the caller.
abbrev pub IsStep : Does → AlphaStep → Cpu → Cpu → Type 0
IsStep (Goes s) answer old new = (answer ≡ Local) × (state_of new ≡ wrapped s)
IsStep (Asks access) answer old new = (answer ≡ Want access) × (new ≡ old)
IsStep (Calls n) answer old new = (answer ≡ Pal n) × (new ≡ old)

-- Only a local step changes the processor.
abbrev pub IsUnchangedUnlessLocal : AlphaStep → Cpu → Cpu → Type 0
IsUnchangedUnlessLocal Local old new = Unit {0}
IsUnchangedUnlessLocal (Want access) old new = new ≡ old
IsUnchangedUnlessLocal (Pal n) old new = new ≡ old
