-- so many words from the end on
use Rattle.std.proofs.Common.{◌≡◌, ◌-◌, length}
use Rattle.block_law.specs.Translations.{Code}
use Rattle.prepared_code.specs.Known.{most_straight, straight_words}
use Rattle.prepared_code.specs.Prepared.{AreReady}
use Rattle.prepared_code.proofs.Guesses.{AreUntold}
use Rattle.prepared_code.proofs.Known.{AreKnownFrom}
use Rattle.prepared_code.proofs.flat.flats_of.Given as goal

abbrev pub invariant-loop-back : goal.invariant-loop-back
invariant-loop-back l = record {
  counted : length l.flats.items ≡ length l.ready;
  untold : AreUntold l.flats.items (length l.ready - l.back);
  straight : (code : Code) → AreReady code.words code.map l.ready (length code.words) → l.straight ≡ straight_words code (length l.ready - l.back) most_straight;
  known : (code : Code) → AreReady code.words code.map l.ready (length code.words) → AreKnownFrom code l.flats.items (length l.ready - l.back);
}
