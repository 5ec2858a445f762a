-- What was known is known.
use Rattle.std.specs.Io.KnownBytes.{Keeps}
use Rattle.vt_outside.proofs.system.read_through.Given as goal

abbrev pub invariant-loop : goal.invariant-loop
invariant-loop g l = Keeps (g.R.Read.remaining l.initial.reader) (g.R.Read.remaining l.reader)
