-- Choices by a test, and tests of two numbers.
use Rattle.std.proofs.Common.{◌≡◌, ℕ, zero, suc, ◌<◌, ◌&&◌, Bool, true, false, if◌then◌else◌, List, [], ◌∷◌, length, slice_index_or, refl, arith}

pub if_true : {A : Type 0} (b : Bool) (x y : A) → b ≡ true → (if b then x else y) ≡ x
if_true true x y h = refl
if_true false x y h = absurd (cc h)

pub if_false : {A : Type 0} (b : Bool) (x y : A) → b ≡ false → (if b then x else y) ≡ y
if_false false x y h = refl
if_false true x y h = absurd (cc h)

pub first_true : (a b : Bool) → (a && b) ≡ true → a ≡ true
first_true true b h = refl
first_true false b h = absurd (cc h)

pub second_true : (a b : Bool) → (a && b) ≡ true → b ≡ true
second_true true b h = h
second_true false b h = absurd (cc h)

-- a read within the list gives the same for any default
pub any_default : {A : Type 0} (xs : List A) (i : ℕ) (c d : A) → i < length xs → slice_index_or xs i c ≡ slice_index_or xs i d
any_default [] i c d h = absurd (omega arith)
any_default (x ∷ xs) zero c d h = refl
any_default (x ∷ xs) (suc i) c d h = any_default xs i c d (omega arith)
