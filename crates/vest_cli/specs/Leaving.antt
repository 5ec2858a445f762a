-- What a call leaves that stops before it has written anything, whatever its command, before the line that says why.
use Rattle.std.specs.Prelude.{◌≡◌}
use Rattle.vest_stops.specs.Files.{SameFiles}
use Rattle.vest_runs.specs.Kept.{KeptValue, nothing_kept}
use Rattle.vest_cli.specs.Lent.{Lent}

-- nothing was written, and nothing is kept
pub record LeavesAll (old new : Lent) (kept : KeptValue) : Type 0 where
  pub desk : SameFiles old.desk new.desk
  pub out : new.out ≡ old.out
  pub report : new.report ≡ old.report
  pub kept_nothing : kept ≡ nothing_kept
