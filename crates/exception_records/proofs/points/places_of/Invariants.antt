use Rattle.exception_records.proofs.Places.{AreEntered}
use Rattle.exception_records.proofs.points.places_of.Given as goal

abbrev pub invariant-loop-place : goal.invariant-loop-place
invariant-loop-place l = AreEntered l.places.items l.points l.place
