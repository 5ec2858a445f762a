-- What a call says, and leaves, that stops before it has written anything, whatever its command.
use Rattle.std.specs.Prelude.{◌≡◌, ℕ, List}
use Rattle.vt_outside.specs.Sink.{SinkMeaning}
use Rattle.command_words.specs.declared.WordsFault.{WordsFault}
use Rattle.command_words.specs.declared.WordsFault.TheVariants.{Usage}
use Rattle.command_words.specs.declared.WordsFault.TheVariants as faults
use Rattle.vest_stops.specs.Line.{line_of}
use Rattle.vest_stops.specs.Files.{SameFiles}
use Rattle.vest_stops.specs.declared.status.Status.{Status}
use Rattle.vest_stops.specs.declared.status.Status.TheVariants as status
use Rattle.vest_stops.specs.declared.stop.Stop.TheVariants.{WantOfMemory}
use Rattle.vest_ends.specs.Says.{Says, usage_line}
use Rattle.vest_runs.specs.Kept.{KeptValue, nothing_kept}
use Rattle.vest_cli.specs.Lent.{Lent}

pub record Stopped (line : List ℕ) (old new : Lent) (kept : KeptValue) : Type 0 where
  pub desk : SameFiles old.desk new.desk
  pub out : new.out ≡ old.out
  pub kept_nothing : kept ≡ nothing_kept
  pub said : Says line old.report new.report

-- where the words spell no command, or memory runs out before that is seen
abbrev pub RefusesWords : WordsFault → Status → (old new : SinkMeaning) → Type 0
RefusesWords Usage result old new = (result ≡ status.Usage) × Says usage_line old new
RefusesWords faults.WantOfMemory result old new = (result ≡ status.WantOfMemory) × Says (line_of WantOfMemory) old new
