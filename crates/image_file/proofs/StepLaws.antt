-- Checks one after the other, of which none refused.
use Rattle.std.proofs.Common.{◌≡◌, Bool, true, false, refl, Option, Some, None, Result, Ok, Err}
use Rattle.image_file.specs.Steps.{◌>>=◌, refuse_if, refuse_at}

-- a step that didn't refuse
pub bind_ok : {A B E : Type 0} (r : Result A E) (f : A → Result B E) (y : B) → (r >>= f) ≡ Ok y → (x : A) × (r ≡ Ok x) × (f x ≡ Ok y)
bind_ok (Ok x) f y e = (x, refl, e)
bind_ok (Err d) f y e = absurd cc

pub passed : {E : Type 0} (b : Bool) (d : E) (x : Unit {0}) → refuse_if b d ≡ Ok x → b ≡ false
passed true d x e = absurd cc
passed false d x e = refl

pub passed_at : {X E : Type 0} (o : Option X) (d : X → E) (x : Unit {0}) → refuse_at o d ≡ Ok x → o ≡ None
passed_at None d x e = refl
passed_at (Some y) d x e = absurd cc

abbrev pub done : {A E : Type 0} → A → Result A E
done x = Ok x

pub ok_is : {A E : Type 0} (x y : A) → done {E = E} x ≡ done y → x ≡ y
ok_is x y e = cc
