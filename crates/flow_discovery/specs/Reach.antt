-- The addresses of instructions that can be reached: the least set that has the starts, and with each of its members
-- the addresses to which that goes on, as far as instructions stand there.
use Rattle.std.specs.Prelude.{◌≡◌, ◌↔◌, ◌<◌, ℕ, Bool, IsTrue, List, [], All, Option, Some, None, is_some, length, map}
use Rattle.std.specs.Option.{option_map_or}
use Rattle.std.specs.List.Sorted.{IsStrictlyIncreasing}
use Rattle.vax_form.specs.Grammar.{Found, instruction, past, reserved_instruction, reserved_mode}
use Rattle.vax_form.specs.declared.instr.Instr.{Instr}
use Rattle.vax_form.specs.declared.pages.Pages.{Pages}
use Rattle.vax_form.specs.GrammarFound.{found}
use Rattle.vax_form.specs.Targets.{has}
use Rattle.flow_discovery.specs.Flow.{goes_on}

abbrev pub instruction_in : Found → Option Instr
instruction_in (instruction instr) = Some instr
instruction_in reserved_instruction = None
instruction_in reserved_mode = None
instruction_in (past address) = None

-- The instruction at an address, where one stands there. HALT and the opcodes that the instruction set lacks are none.
unfoldable pub instruction_at : Pages → ℕ → Option Instr
instruction_at pages address = instruction_in (found pages address)

-- an instruction stands at the address
abbrev pub decodes : Pages → ℕ → Bool
decodes pages address = is_some (instruction_at pages address)

-- the addresses to which the instruction at an address goes on
abbrev pub successors : Pages → ℕ → List ℕ
successors pages address = option_map_or (goes_on pages) (instruction_at pages address) []

-- A start is a member where an instruction stands, and so is an address to which a member goes on.
pub data Member (pages : Pages) (starts : List ℕ) : ℕ → Type 0 where
  start : (address : ℕ) → IsTrue (has starts address) → IsTrue (decodes pages address) → Member pages starts address
  step : (from address : ℕ) → Member pages starts from → IsTrue (has (successors pages from) address)
      → IsTrue (decodes pages address) → Member pages starts address

-- the list has the members, and nothing else
abbrev pub HasMembers : Pages → List ℕ → List ℕ → Type 0
HasMembers pages starts addresses = (address : ℕ) → IsTrue (has addresses address) ↔ Member pages starts address

-- the members in rising order
pub record AreReached (pages : Pages) (starts addresses : List ℕ) : Type 0 where
  pub members : HasMembers pages starts addresses
  pub rising : IsStrictlyIncreasing addresses

-- the instructions at the members, in rising order of address
pub record IsReach (pages : Pages) (starts : List ℕ) (instrs : List Instr) : Type 0 where
  pub reached : AreReached pages starts (map (λ instr. instr.at) instrs)
  pub decoded : All (λ instr. instruction_at pages instr.at ≡ Some instr) instrs

-- more members are not taken
abbrev pub most : ℕ
most = 32768

-- there are so many members, and they are too many
abbrev pub AreTooMany : Pages → List ℕ → ℕ → Type 0
AreTooMany pages starts count = (addresses : List ℕ) × AreReached pages starts addresses
    × (length addresses ≡ count) × (most < count)
