-- Parts appended one after the other.
use Rattle.std.proofs.Common.{◌≡◌, ◌<◌, ℕ, ◌+◌, List, ◌++◌, ap, sym, ◌∙◌, append_assoc, drop, get_or, length, take}
use Rattle.std.specs.List.{flat_map}
use Rattle.std.proofs.lemmas.List.{at_drop_more, flat_map_more, take_more}
use Rattle.image_text.specs.Lines.{numbered}

pub three : (o a b c p q out : List ℕ) → p ≡ o ++ a → q ≡ p ++ b → out ≡ q ++ c → out ≡ o ++ (a ++ b ++ c)
three o a b c p q out first second third =
    let whole : o ++ a ++ b ++ c ≡ o ++ (a ++ b ++ c) = simp append_assoc in
    third ∙ ap (λ x. x ++ c) (second ∙ ap (λ x. x ++ b) first) ∙ whole

pub five : (o a b c d e p q r s out : List ℕ) → p ≡ o ++ a → q ≡ p ++ b → r ≡ q ++ c → s ≡ r ++ d → out ≡ s ++ e → out ≡ o ++ (a ++ b ++ c ++ d ++ e)
five o a b c d e p q r s out first second third fourth fifth =
    let whole : o ++ a ++ b ++ c ++ d ++ e ≡ o ++ (a ++ b ++ c ++ d ++ e) = simp append_assoc in
    fifth ∙ ap (λ x. x ++ e) (fourth ∙ ap (λ x. x ++ d) (third ∙ ap (λ x. x ++ c) (second ∙ ap (λ x. x ++ b) first))) ∙ whole

-- The step of a loop that appends what is said of each item.
pub each_step : {X : Type 0} (f : X → List ℕ) (xs : List X) (i : ℕ) (d : X) (o p q : List ℕ) → i < length xs
    → p ≡ o ++ flat_map f (take i xs) → q ≡ p ++ f (get_or xs i d) → q ≡ o ++ flat_map f (take (i + 1) xs)
each_step f xs i d o p q within before step =
    step ∙ ap (λ b. b ++ f (get_or xs i d)) before ∙ flat_map_more f o (take i xs) (get_or xs i d) ∙ ap (λ l. o ++ flat_map f l) (sym (take_more xs i d within))

-- The step of a loop that appends what is said of each item with its number.
pub numbered_step : {X : Type 0} (f : ℕ → X → List ℕ) (xs : List X) (n : ℕ) (d : X) (p q all : List ℕ) → n < length xs
    → p ++ numbered f n (drop n xs) ≡ all → q ≡ p ++ f n (get_or xs n d) → q ++ numbered f (n + 1) (drop (n + 1) xs) ≡ all
numbered_step f xs n d p q all within before step =
    ap (λ b. b ++ numbered f (n + 1) (drop (n + 1) xs)) step ∙ append_assoc p (f n (get_or xs n d)) (numbered f (n + 1) (drop (n + 1) xs))
    ∙ sym (at_drop_more (λ ys. p ++ numbered f n ys) xs n d within) ∙ before
