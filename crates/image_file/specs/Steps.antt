-- Checks one after the other, of which the first that fails refuses.
use Rattle.std.specs.Prelude.{Bool, Option, Some, None, Result, Ok, Err, if◌then◌else◌}

infixl 10 ◌>>=◌
abbrev pub ◌>>=◌ : {A B E : Type 0} → Result A E → (A → Result B E) → Result B E
(Ok x) >>= f = f x
(Err e) >>= f = Err e

abbrev pub refuse_if : {E : Type 0} → Bool → E → Result (Unit {0}) E
refuse_if fails refusal = if fails then Err refusal else Ok tt

abbrev pub refuse_at : {X E : Type 0} → Option X → (X → E) → Result (Unit {0}) E
refuse_at None refusal = Ok tt
refuse_at (Some x) refusal = Err (refusal x)
