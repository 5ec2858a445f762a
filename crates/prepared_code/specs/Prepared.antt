-- Words made ready: the instruction of each, and the number of the block that begins there.
use Rattle.std.specs.Prelude.{◌≡◌, ℕ, zero, suc, ◌<◌, ◌≤◌, ◌-◌, ◌==◌, if◌then◌else◌, List, map, length, get_or, slice_get, Option, Some, None, IfSome}
use Rattle.address_map.specs.Pairs.{Pair, AllRise, address_at}
use Rattle.alpha_encode.specs.Words.{IsEncodable}
use Rattle.alpha_meaning.specs.Pieces.{most_words}
use Rattle.block_law.specs.Translations.{fetch_of}
use Rattle.prepared_code.specs.Sources.{Source, block_of}
use Rattle.prepared_code.specs.Known.{AreKnown}
use Rattle.prepared_code.specs.declared.blocks.Block.{Block}
use Rattle.prepared_code.specs.declared.flat.Flat.{Flat}
use Rattle.prepared_code.specs.declared.prepared.Word.{Word}

-- the pairs of a map whose words stand before that place are those before `next`
pub record IsNext (pairs : List Pair) (next place : ℕ) : Type 0 where
  pub within : next ≤ length pairs
  pub few : next ≤ place
  pub passed : (k : ℕ) (d : Pair) → k < next → (get_or pairs k d).1 < place
  pub ahead : (k : ℕ) (d : Pair) → next ≤ k → k < length pairs → place ≤ (get_or pairs k d).1

-- the number is 0 where no pair has the word, else one more than the place of its pair
abbrev pub IsNumber : List Pair → (word number : ℕ) → Type 0
IsNumber pairs word zero = address_at pairs word ≡ None
IsNumber pairs word (suc k) = (p : Pair) × (slice_get pairs k ≡ Some p) × (p.1 ≡ word) × (address_at pairs word ≡ Some p.0)

-- a word of these words, with the number of its pair
pub record IsReady (words : List ℕ) (pairs : List Pair) (place : ℕ) (w : Word) : Type 0 where
  pub instr : w.instr ≡ fetch_of words place
  pub encodable : IfSome w.instr IsEncodable
  pub block : IsNumber pairs place w.block

-- so many words are ready
pub record AreReady (words : List ℕ) (pairs : List Pair) (ready : List Word) (n : ℕ) : Type 0 where
  pub counted : length ready ≡ n
  pub each : (k : ℕ) (w : Word) → k < n → slice_get ready k ≡ Some w → IsReady words pairs k w

abbrev pub AreEncodable : List Word → Type 0
AreEncodable ready = (k : ℕ) (w : Word) → slice_get ready k ≡ Some w → IfSome w.instr IsEncodable

-- the block with that number
abbrev pub begun : List Block → (number : ℕ) → Option Block
begun blocks number = if number == 0 then None else slice_get blocks (number - 1)

pub record IsPrepared (source : Source) (made : List Block) (ready : List Word) (flats : List Flat) : Type 0 where
  pub few : length source.code.words ≤ most_words
  pub rise : AllRise source.code.map
  pub words : AreReady source.code.words source.code.map ready (length source.code.words)
  pub blocks : made ≡ map (block_of source.code.points source.pages) source.code.map
  pub few_flats : length flats ≤ most_words
  pub known : AreKnown source.code flats
