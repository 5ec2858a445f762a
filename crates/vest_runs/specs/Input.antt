-- The input of a run.
use Rattle.std.specs.Prelude.{◌≡◌, ◌+◌, ℕ, ◌≤◌, List, length, Option, None, Some, nat_lt, if◌then◌else◌}
use Rattle.std.specs.Io.KnownBytes.{Consumes, IsAtEnd}
use Rattle.vt_outside.specs.Causes.{Rose}
use Rattle.vt_outside.specs.Source.{SourceMeaning}
use Rattle.vest_stops.specs.Decided.{Decision, stops, goes_on}
use Rattle.vest_stops.specs.declared.status.Status.TheVariants as status
use Rattle.vest_stops.specs.declared.stop.Stop.{Stop}
use Rattle.vest_stops.specs.declared.stop.Stop.TheVariants.{ReadFault, TooLong, WantOfMemory}
use Rattle.vest_runs.specs.Limits.{INPUT_LIMIT}

-- these bytes are all that the source had left, where it tells them, and nothing is left
pub record ReadsAll (old new : SourceMeaning) (bytes : List ℕ) : Type 0 where
  pub short : length bytes ≤ INPUT_LIMIT
  pub read : Consumes old.left new.left bytes
  pub end : IsAtEnd new.left

-- so many bytes, at least and at most, were read of those that the source had left, where it tells them
pub record HasGiven (least most : ℕ) (old new : SourceMeaning) : Type 0 where
  pub bytes : List ℕ
  pub enough : least ≤ length bytes
  pub few : length bytes ≤ most
  pub read : Consumes old.left new.left bytes

-- why the input was not read to its end; behind the first byte too much nothing is read
abbrev pub StopsAtInput : Stop → SourceMeaning → SourceMeaning → Type 0
StopsAtInput TooLong old new = HasGiven (INPUT_LIMIT + 1) (INPUT_LIMIT + 1) old new
StopsAtInput ReadFault old new = Rose old.faults new.faults × HasGiven 0 INPUT_LIMIT old new
StopsAtInput WantOfMemory old new = HasGiven 0 (INPUT_LIMIT + 1) old new
StopsAtInput stop old new = ⊥

-- what is not told decides nothing
abbrev pub DecidesInput : Option (List ℕ) → Decision → Type 0
DecidesInput None decision = ⊥
DecidesInput (Some input) decision = decision ≡ (if nat_lt INPUT_LIMIT (length input) then stops status.TooLong else goes_on)
