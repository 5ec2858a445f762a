-- The words so far, and the pairs that they have passed.
use Rattle.prepared_code.specs.Prepared.{AreReady, IsNext}
use Rattle.prepared_code.proofs.prepared.words_of.Given as goal

abbrev pub invariant-loop-place : goal.invariant-loop-place
invariant-loop-place l = record {
  ready : AreReady l.words l.pairs l.ready.items l.place;
  next : IsNext l.pairs l.next l.place;
}
