-- Local steps that stay inside a block, and those that arrive at one, by the code alone.
use Rattle.std.specs.Prelude.{◌≡◌, ℕ, zero, suc, Option, Some, None, option_and_then, option_map}
use Rattle.address_map.specs.Pairs.{address_at, word_at}
use Rattle.alpha_encode.specs.declared.instr.AlphaInstr.{AlphaInstr}
use Rattle.alpha_machine.specs.Step.{state_of}
use Rattle.alpha_machine.specs.declared.cpu.Cpu.{Cpu}
use Rattle.alpha_meaning.specs.Act.{act}
use Rattle.alpha_meaning.specs.State.{Alpha}
use Rattle.block_law.specs.Translations.{Code, fetch_of}
use Rattle.prepared_code.specs.Effects.{local}
use Rattle.prepared_code.specs.Sources.{Source, block_at}
use Rattle.prepared_code.specs.declared.blocks.Block.{Block}

abbrev pub local_by : Option AlphaInstr → Alpha → Option Alpha
local_by None c = None
local_by (Some i) c = local (act i c)

-- what the local instruction of the word there leaves
abbrev pub local_at : Code → Alpha → Option Alpha
local_at code c = local_by (fetch_of code.words c.pc) c

abbrev pub unless_begun : Option ℕ → Alpha → Option Alpha
unless_begun None c = Some c
unless_begun (Some address) c = None

-- the local step of the word there, where no block begins at the next
abbrev pub step_in : Code → Alpha → Option Alpha
step_in code c = option_and_then (λ d. unless_begun (address_at code.map d.pc) d) (local_at code c)

-- so many of them
abbrev pub steps_in : Code → Alpha → ℕ → Option Alpha
steps_in code c zero = Some c
steps_in code c (suc n) = option_and_then (step_in code) (steps_in code c n)

-- the processor at the first word of a block
abbrev pub landed : Alpha → Block → Alpha × Block
landed c block = (c, block)

-- the local step of the word there, where a block begins at the next
abbrev pub landing : Source → Alpha → Option (Alpha × Block)
landing source c = option_and_then (λ d. option_map (landed d) (block_at source d.pc)) (local_at source.code c)

-- the local step of the word there leads to the first word of the block of an address
pub record Lands (code : Code) (c d : Alpha) : Type 0 where
  pub leads : local_at code c ≡ Some d
  pub address : ℕ
  pub there : address_at code.map d.pc ≡ Some address
  pub back : word_at code.map address ≡ Some d.pc

-- so many local steps: inside a block, and the last to another
pub record Crosses (code : Code) (c d : Cpu) (steps : ℕ) : Type 0 where
  pub inside : ℕ
  pub counted : steps ≡ suc inside
  pub last : Cpu
  pub ran : steps_in code (state_of c) inside ≡ Some (state_of last)
  pub lands : Lands code (state_of last) (state_of d)
