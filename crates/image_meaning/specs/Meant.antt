-- What the VAX instructions of a page table mean, for processors that run them.
use Rattle.std.specs.Prelude.{ℕ, Option, Some, None}
use Rattle.vax_form.specs.Operation.{operation_at}
use Rattle.vax_form.specs.Pages.{code_byte_at}
use Rattle.vax_form.specs.Tree.{instruction_tree}
use Rattle.vax_form.specs.declared.operation.Operation.{Operation}
use Rattle.vax_form.specs.declared.pages.Pages.{Pages}
use Rattle.vax_form.specs.declared.state.Flags.{Flags}
use Rattle.vax_meaning.specs.Control.{serve}
use Rattle.vax_long.specs.Instructions.{tree_at}
use Rattle.vax_long.specs.Pending.{moment_at}
use Rattle.vax_form.specs.Codes.{none}
use Rattle.cc_liveness.specs.Uses.{code_use_of}
use Rattle.block_law.specs.Translations.{Meaning}

-- what stands at a state's PC, what a thread does at a state, and what CHMK does, with what a translation says of each
-- address
abbrev pub vax_meaning : Pages → (written : ℕ → Flags) → Meaning
vax_meaning pages written = record {
  pages = pages;
  tree = tree_at pages;
  moment = moment_at pages;
  serve = λ thread code state. instruction_tree pages (serve code thread) state;
  written = written;
}

abbrev pub codes_of : Option Operation → Flags
codes_of None = none
codes_of (Some operation) = (code_use_of operation).writes

-- those of an opcode; without one, none
abbrev pub codes_by : (opcode : Option ℕ) → Flags
codes_by None = none
codes_by (Some opcode) = codes_of (operation_at opcode)

-- the condition codes that the instruction at an address writes, which its opcode tells
abbrev pub codes_written : Pages → (address : ℕ) → Flags
codes_written pages address = codes_by (code_byte_at pages address)

-- what the instructions of an image with these pages mean
abbrev pub image_meaning : Pages → Meaning
image_meaning pages = vax_meaning pages (codes_written pages)
