-- Lists of which only some elements are kept.
use Rattle.std.proofs.Common.{◌≡◌, Bool, true, false, cond, List, [], ◌∷◌, ◌++◌, map, ap, ◌∙◌}
use Rattle.std.specs.Prelude.{filter}
use Rattle.std.proofs.lemmas.List.Elements.{filter-append}
use Rattle.std.proofs.lemmas.List.{map-append, append-nil}

abbrev pub kept : {X Y : Type 0} → (X → Bool) → (X → Y) → List X → List Y
kept p f xs = map f (filter p xs)

kept_append : {X Y : Type 0} (p : X → Bool) (f : X → Y) (xs ys : List X) → kept p f (xs ++ ys) ≡ kept p f xs ++ kept p f ys
kept_append p f xs ys = ap (map f) (filter-append p xs ys) ∙ map-append f (filter p xs) (filter p ys)

pub kept_more : {X Y : Type 0} (p : X → Bool) (f : X → Y) (xs : List X) (x : X) → p x ≡ true → kept p f (xs ++ x ∷ []) ≡ kept p f xs ++ f x ∷ []
kept_more p f xs x keeps = kept_append p f xs (x ∷ []) ∙ ap (λ b. kept p f xs ++ map f (cond b (x ∷ []) [])) keeps

pub kept_same : {X Y : Type 0} (p : X → Bool) (f : X → Y) (xs : List X) (x : X) → p x ≡ false → kept p f (xs ++ x ∷ []) ≡ kept p f xs
kept_same p f xs x falls = kept_append p f xs (x ∷ []) ∙ ap (λ b. kept p f xs ++ map f (cond b (x ∷ []) [])) falls ∙ append-nil (kept p f xs)
