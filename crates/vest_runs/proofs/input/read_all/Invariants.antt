-- The bytes so far came from the source.
use Rattle.vest_runs.proofs.Progress.{HasRead}
use Rattle.vest_runs.proofs.input.read_all.Given as goal

abbrev pub invariant-loop-turn : goal.invariant-loop-turn
invariant-loop-turn g l = HasRead (g.I.Source.meaning l.initial.input) (g.I.Source.meaning l.input) l.bytes.items l.turn
