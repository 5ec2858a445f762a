-- What the threads of an image run by.
use Rattle.std.specs.Prelude.{List}
use Rattle.vax_form.specs.declared.pages.Pages.{Pages}
use Rattle.block_law.specs.Translations.{Code}
use Rattle.image_meaning.specs.Meant.{image_meaning}
use Rattle.system_model.specs.Settings.{Setting}
use Rattle.system_model.specs.declared.translation.Range.{Range}

-- the meaning of the instructions on its pages, a translation, and what is interpreted
abbrev pub image_setting : Pages → Code → List Range → Setting
image_setting pages code ranges = record { meaning = image_meaning pages; code = code; ranges = ranges }
