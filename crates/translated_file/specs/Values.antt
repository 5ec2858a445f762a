-- The parts of a translated file as numbers and lists.
use Rattle.std.specs.Prelude.{ℕ, List}
use Rattle.image_file.specs.Values.{ImageValue}

-- the tail is the bytes behind the hints
pub record PartsValue : Type 0 where
  pub version : ℕ
  pub image : ImageValue
  pub hints : List ℕ
  pub tail : List ℕ
