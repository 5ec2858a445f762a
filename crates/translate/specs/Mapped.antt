-- Which addresses of an image a translation's map has.
use Rattle.std.specs.Prelude.{◌↔◌, ℕ, IsSome, List}
use Rattle.vax_form.specs.declared.pages.Pages.{Pages}
use Rattle.address_map.specs.Pairs.{word_at}
use Rattle.block_law.specs.Translations.{Code}
use Rattle.flow_discovery.specs.Mapped.{Mapped}

-- the code's map has the mapped addresses, and no others
abbrev pub HasMapped : Pages → (starts : List ℕ) → Code → Type 0
HasMapped pages starts code = (address : ℕ) → IsSome (word_at code.map address) ↔ Mapped pages starts address
