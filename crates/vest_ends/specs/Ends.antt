-- What a command comes to that waits for no threads.
use Rattle.std.specs.Prelude.{◌≡◌, Result, Ok, Err}
use Rattle.vt_outside.specs.Sink.{SinkMeaning}
use Rattle.vest_stops.specs.Line.{line_of}
use Rattle.vest_stops.specs.Status.{status_of, status_of_done}
use Rattle.vest_stops.specs.declared.status.Done.{Done}
use Rattle.vest_stops.specs.declared.status.Status.{Status}
use Rattle.vest_stops.specs.declared.stop.Stop.{Stop}
use Rattle.vest_ends.specs.Says.{Says}

-- nothing is said where it is done; where it stopped, why
abbrev pub EndsAs : Result Done Stop → Status → (old new : SinkMeaning) → Type 0
EndsAs (Ok done) result old new = (result ≡ status_of_done done) × (new ≡ old)
EndsAs (Err stop) result old new = (result ≡ status_of stop) × Says (line_of stop) old new
