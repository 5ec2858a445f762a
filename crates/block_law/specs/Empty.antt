-- A translation of nothing.
use Rattle.std.specs.Prelude.{◌≡◌, []}
use Rattle.block_law.specs.Translations.{Code}

pub record IsEmpty (code : Code) : Type 0 where
  pub words : code.words ≡ []
  pub map : code.map ≡ []
  pub points : code.points ≡ []
