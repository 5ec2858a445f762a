-- What the code's values mean.
use Rattle.std.specs.Prelude.{ℕ, Bool, List, map}
use Rattle.address_map.specs.Pairs.{Pair}
use Rattle.image_file.specs.Values.{ImageValue}
use Rattle.image_file.specs.declared.image.Start.{Start}
use Rattle.dis_text.specs.declared.covered.Covered.{Covered as CoveredCode}
use Rattle.dis_text.specs.declared.labels.Name.{Name}
use Rattle.dis_text.specs.declared.pieces.Listing.{Listing}
use Rattle.dis_text.specs.declared.pieces.Range.{Range}
use Rattle.dis_text.specs.Before.{text_before}
use Rattle.dis_text.specs.Labels.{NameValue, labels}
use Rattle.dis_text.specs.Listing.{Listed}
use Rattle.dis_text.specs.Pieces.{Covered}

abbrev pub covered_value : CoveredCode → Covered
covered_value c = record { end = c.end; by = c.by; words = c.words }

abbrev pub listed : Listing → Listed
listed l = record {
  pages = l.pages.now;
  before = text_before l.before.now;
  words = l.code.words.now;
  pairs = l.code.map.now;
  with_words = l.code.is_told;
  first = l.range.first;
  last = l.range.last;
}

abbrev pub name_value : Name → NameValue
name_value n = record { address = n.address; text = n.text.items }

-- an image with the hints of its translation, names, the words of the translation and its map, whether the words are
-- listed, and of which addresses the lines
abbrev pub asked : ImageValue → (hints : List ℕ) → List NameValue → (words : List ℕ) → List Pair → (with_words : Bool) → Range → Listed
asked image hints names words pairs with_words range = record {
  pages = image.pages;
  before = labels (map (λ (t : Start). t.pc) image.threads) image.entries hints names;
  words = words;
  pairs = pairs;
  with_words = with_words;
  first = range.first;
  last = range.last;
}
