-- What there is, if something is.
use Rattle.std.proofs.Common.{◌≡◌, refl, List, Option, Some, None, inl, inr}
use Rattle.std.specs.Prelude.{◌⊎◌, option_and_then, option_map}
use Rattle.std.proofs.lemmas.Option.{same_Some}
use Rattle.program_codegen.specs.declared.lines.Line.{Line}
use Rattle.program_codegen.specs.Direct.{either_of}

pub record Mapped (A B : Type 0) (f : A → B) (o : Option A) (y : B) : Type 0 where
  pub found : A
  pub is : o ≡ Some found
  pub whole : f found ≡ y

pub mapped : (A B : Type 0) (f : A → B) (o : Option A) (y : B) → option_map f o ≡ Some y → Mapped A B f o y
mapped A B f None y e = absurd (cc e)
mapped A B f (Some x) y e = record { found = x; is = refl; whole = same_Some (f x) y e }

pub record Chained (A B : Type 0) (f : A → Option B) (o : Option A) (y : B) : Type 0 where
  pub found : A
  pub is : o ≡ Some found
  pub onward : f found ≡ Some y

pub chained : (A B : Type 0) (f : A → Option B) (o : Option A) (y : B) → option_and_then f o ≡ Some y → Chained A B f o y
chained A B f None y e = absurd (cc e)
chained A B f (Some x) y e = record { found = x; is = refl; onward = e }

-- the one, or where it is none the other
pub first_is : (one other : Option (List Line)) (lines : List Line) → either_of one other ≡ Some lines → (one ≡ Some lines) ⊎ ((one ≡ None) × (other ≡ Some lines))
first_is None other lines e = inr (refl, e)
first_is (Some found) other lines e = inl e
