-- Worlds whose processors may be picked.
use Rattle.std.specs.Prelude.{◌≡◌}
use Rattle.block_law.specs.Translations.{Meets}
use Rattle.image_meaning.specs.Meant.{image_meaning}
use Rattle.image_meaning.specs.Permits.{any_permit}
use Rattle.system_model.specs.Settings.{Setting}
use Rattle.tie_switch.specs.Settings.{image_setting}
use Rattle.vest_core.specs.Worlds.{IsLegalWorld, WorldValue}
use Rattle.world_rows.specs.declared.programs.Program.{Program}

abbrev pub setting_of : Program → Setting
setting_of program = image_setting program.image.now.pages program.translation.now program.ranges.now

-- its translation means what its image means, and is the one that was made ready
abbrev pub CanRun : Program → Type 0
CanRun program =
    Meets (image_meaning program.image.now.pages) (any_permit program.image.now.pages) program.translation.now
    × (program.prepared.now.code ≡ program.translation.now)
    × (program.prepared.now.pages ≡ program.image.now.pages)

-- the world is that of the program's image, and legal for it
pub record IsReady (program : Program) (w : WorldValue) : Type 0 where
  pub image : w.memory.set_up.image ≡ program.image.now
  pub meets : CanRun program
  pub legal : IsLegalWorld (setting_of program) w
