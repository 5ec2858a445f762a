-- What a code is made ready from, and what is known of the blocks that begin in it.
use Rattle.std.specs.Prelude.{ℕ, List, Option, option_map}
use Rattle.address_map.specs.Pairs.{Pair, address_at}
use Rattle.block_law.specs.Translations.{Code}
use Rattle.exception_records.specs.Points.{Entry, point_at}
use Rattle.exception_records.specs.declared.points.Point.{Point}
use Rattle.vax_form.specs.Pages.{code_byte_at}
use Rattle.vax_form.specs.declared.pages.Pages.{Pages}
use Rattle.prepared_code.specs.declared.blocks.Block.{Block}

-- a code, and the pages of its image
pub record Source : Type 0 where
  pub code : Code
  pub pages : Pages

abbrev pub source_of : List ℕ → List Pair → List Entry → Pages → Source
source_of words map points pages = record { code = record { words = words; map = map; points = points }; pages = pages }

-- the block of the instruction at that address, which begins at that word
abbrev pub block_by : List Entry → Pages → (address word : ℕ) → Block
block_by points pages address word = record {
  address = address;
  opcode = code_byte_at pages address;
  rules = option_map (λ (p : Point). p.rules) (point_at points word);
}

-- the block of a pair
abbrev pub block_of : List Entry → Pages → Pair → Block
block_of points pages p = block_by points pages p.0 p.1

-- the block that begins at a word
abbrev pub block_at : Source → (word : ℕ) → Option Block
block_at source word = option_map (λ address. block_by source.code.points source.pages address word) (address_at source.code.map word)
