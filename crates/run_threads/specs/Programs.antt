-- What processors run.
use Rattle.std.specs.Prelude.{◌≡◌}
use Rattle.block_law.specs.Sound.{AllowsFew, IsSound}
use Rattle.block_law.specs.Translations.{Meets, Permit}
use Rattle.legal_history.specs.Law.{IsRun}
use Rattle.memory_core.specs.declared.entry.SetUp.{SetUp}
use Rattle.system_model.specs.Settings.{Setting}
use Rattle.tie_switch.specs.Settings.{image_setting}
use Rattle.run_threads.specs.declared.program.Program.{Program}

abbrev pub setting_of : Program → Setting
setting_of program = image_setting program.image.now.pages program.translation.now program.ranges.now

-- the code that was made ready is that of its translation, and its image's pages beside it
pub record HasPrepared (program : Program) : Type 0 where
  pub code : program.prepared.now.code ≡ program.translation.now
  pub pages : program.prepared.now.pages ≡ program.image.now.pages

-- its instructions go with processors, its code means them and does what it may, and the memory is of its pages, with
-- numbers in range
pub record CanRun (setting : Setting) (set_up : SetUp) : Type 0 where
  pub pages : setting.meaning.pages ≡ set_up.image.pages
  pub sound : IsSound setting.meaning
  pub permit : Permit
  pub few : AllowsFew permit
  pub meets : Meets setting.meaning permit setting.code
  pub run : IsRun set_up
