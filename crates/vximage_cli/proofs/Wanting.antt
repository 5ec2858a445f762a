-- Where memory runs out, bytes of either kind may be no further loaded.
use Rattle.std.proofs.Common.{ℕ, List, Bool, true, false, inl}
use Rattle.std.specs.Prelude.{MatchBool}
use Rattle.vest_files.specs.Loading.{StopsAtBytes, is_translated}
use Rattle.vest_stops.specs.declared.stop.Stop.TheVariants.{WantOfMemory}

either : (b : Bool) (A B : Type 0) → A → B → MatchBool b A B
either true A B x y = x
either false A B x y = y

pub may_want : (bytes : List ℕ) → StopsAtBytes WantOfMemory bytes
may_want bytes = either (is_translated bytes) _ _ (inl tt) (inl tt)
