-- What a translated file can hold.
use Rattle.std.specs.Prelude.{◌≡◌, ℕ, ◌≤◌, ◌<◌, ◌^◌, true, List, length}
use Rattle.std.specs.List.{AllByRecursion, AllAdjacentBelow}
use Rattle.address_map.specs.Pairs.{Pair}
use Rattle.image_file.specs.Whole.{IsWhole}
use Rattle.translated_file.specs.Limits.{MOST_HINTS, MOST_WORDS, MOST_PAIRS, is_version}
use Rattle.translated_file.specs.Values.{PartsValue}

abbrev pub IsLong : ℕ → Type 0
IsLong number = number < 2 ^ 32

abbrev pub IsLongPair : Pair → Type 0
IsLongPair p = IsLong p.0 × IsLong p.1

-- each is above its predecessor
abbrev pub Rise : List ℕ → Type 0
Rise numbers = AllAdjacentBelow (λ (before n : ℕ). before < n) numbers (length numbers)

-- numbers of 32 bits, not too many, that rise
pub record AreHints (hints : List ℕ) : Type 0 where
  pub few : length hints ≤ MOST_HINTS
  pub fit : AllByRecursion IsLong hints
  pub rise : Rise hints

-- a version of the format, a whole image, and hints; the tail may be any bytes
pub record AreWhole (parts : PartsValue) : Type 0 where
  pub version : is_version parts.version ≡ true
  pub image : IsWhole parts.image
  pub hints : AreHints parts.hints

-- words and pairs of 32 bits, not too many
pub record IsTranslation (words : List ℕ) (pairs : List Pair) : Type 0 where
  pub few_words : length words ≤ MOST_WORDS
  pub few_pairs : length pairs ≤ MOST_PAIRS
  pub words_fit : AllByRecursion IsLong words
  pub pairs_fit : AllByRecursion IsLongPair pairs
