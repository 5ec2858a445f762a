-- What a report took of a line.
use Rattle.std.proofs.Common.{ℕ, List, Result, Ok, Err, inl, inr}
use Rattle.std.specs.Prelude.{OnOk, OnErr}
use Rattle.vt_outside.specs.Sink.{SinkMeaning}
use Rattle.vt_outside.specs.Taking.{TookAll, TookSome}
use Rattle.vximage_cli.specs.Stopping.{Says}

module _ {T E : Type 0} (r : Result T E) where
  pub says : (line : List ℕ) (old new : SinkMeaning) → OnOk r (TookAll old new line) → OnErr r (TookSome old new line) → Says line old new
  says line old new ok err = go r ok err
    where
      go : (x : Result T E) → OnOk x (TookAll old new line) → OnErr x (TookSome old new line) → Says line old new
      go (Ok v) p q = inl p
      go (Err e) p q = inr q

  pub on_err : (P : Type 0) → P → OnErr r P
  on_err P p = go r
    where
      go : (x : Result T E) → OnErr x P
      go (Ok v) = tt
      go (Err e) = p
