-- What a call leaves of the files that stops before it writes.
use Rattle.std.specs.Prelude.{◌≡◌, ◌≤◌}
use Rattle.vt_outside.specs.Desk.{DeskMeaning}

-- no file changed, no write failed, and the count of failed reads did not fall
pub record SameFiles (old new : DeskMeaning) : Type 0 where
  pub files : new.files ≡ old.files
  pub write_faults : new.write_faults ≡ old.write_faults
  pub read_faults : old.read_faults ≤ new.read_faults
