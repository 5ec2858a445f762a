-- The translation of an image.
use Rattle.std.specs.Prelude.{ℕ, List}
use Rattle.flow_discovery.specs.Starts.{starts}
use Rattle.image_file.specs.Values.{ImageValue}
use Rattle.block_law.specs.Translations.{Code, Meets}
use Rattle.image_meaning.specs.Meant.{image_meaning}
use Rattle.image_meaning.specs.Permits.{permit_of}
use Rattle.image_meaning.specs.declared.target.Target.{Target}
use Rattle.translate.specs.Compiled.{IsTranslation}
use Rattle.translate.specs.Mapped.{HasMapped}
use Rattle.translate.specs.Refusal.{AreFew}

-- what can be reached in the image, from its threads, its entries and these hints, is not too much; the code does what the
-- instructions mean, by accesses that code for these processors may make, and has just those of the reached ones that have a block
pub record IsTranslated (target : Target) (image : ImageValue) (hints : List ℕ) (code : Code) : Type 0 where
  pub few : AreFew image.pages (starts image hints)
  pub meets : Meets (image_meaning image.pages) (permit_of target image.pages) code
  pub mapped : HasMapped image.pages (starts image hints) code
  -- the only one that an image has with these hints
  pub is : IsTranslation target image.pages (starts image hints) code
