-- Files that are cut.
use Rattle.std.specs.Prelude.{◌≡◌, ◌<◌, ℕ, List, length, take, Ok, Err}
use Rattle.image_file.specs.declared.refusal.ImageRefusal.TheVariants.{Truncated}
use Rattle.image_file.specs.Values.{ImageValue}
use Rattle.image_file.specs.Reading.{image_of}

-- every proper prefix of an accepted file is refused as Truncated, with the prefix's length
abbrev pub PrefixesAreRefused : Type 0
PrefixesAreRefused = (bytes : List ℕ) (image : ImageValue) (kept : ℕ) → image_of bytes ≡ Ok image → kept < length bytes → image_of (take kept bytes) ≡ Err (Truncated kept)
