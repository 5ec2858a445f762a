-- Walks over a list, from its end.
use Rattle.std.proofs.Common.{◌≡◌, ℕ, ◌+◌, ◌-◌, ◌<◌, ap, ◌∙◌, arith, List, ◌∷◌, length, get_or, drop}
use Rattle.std.proofs.lemmas.List.{drop_more}

-- what is left from one place earlier on
pub one_earlier : {X : Type 0} (xs : List X) (i : ℕ) (d : X) → i < length xs → drop (length xs - (i + 1)) xs ≡ get_or xs (length xs - 1 - i) d ∷ drop (length xs - i) xs
one_earlier xs i d lt =
    let at : length xs - (i + 1) ≡ length xs - 1 - i = omega arith in
    let next : length xs - (i + 1) + 1 ≡ length xs - i = omega arith in
    drop_more xs (length xs - (i + 1)) d (omega arith)
    ∙ ap (λ n. get_or xs n d ∷ drop (length xs - (i + 1) + 1) xs) at
    ∙ ap (λ n. get_or xs (length xs - 1 - i) d ∷ drop n xs) next
