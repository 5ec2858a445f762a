-- Numbers behind blanks, one by one.
use Rattle.std.proofs.Common.{◌≡◌, ◌<◌, ◌+◌, ◌++◌, ◌∷◌, [], ℕ, List, length, take, get_or, sym, ap, ◌∙◌, append_assoc, append-nil}
use Rattle.std.specs.Fmt.{decimal}
use Rattle.std.proofs.lemmas.List.{take_more}
use Rattle.report_text.specs.Digits.{eight_digits}
use Rattle.report_text.specs.Numbers.{longwords, spaced}

-- one more
pub longwords_and : (values : List ℕ) (value : ℕ) → longwords (values ++ value ∷ []) ≡ longwords values ++ (32 ∷ eight_digits value)
longwords_and [] value = append-nil (32 ∷ eight_digits value)
longwords_and (v ∷ values) value =
    ap (λ rest. (32 ∷ eight_digits v) ++ rest) (longwords_and values value)
    ∙ sym (append_assoc (32 ∷ eight_digits v) (longwords values) (32 ∷ eight_digits value))

-- one more behind a line
pub longword_pushed : (values : List ℕ) (i : ℕ) (front so_far blank whole : List ℕ) → i < length values
    → so_far ≡ front ++ longwords (take i values) → blank ≡ so_far ++ 32 ∷ []
    → whole ≡ blank ++ eight_digits (get_or values i 0) → whole ≡ front ++ longwords (take (i + 1) values)
longword_pushed values i front so_far blank whole h begun spaced written =
    let value = get_or values i 0 in
    written
    ∙ ap (λ b. b ++ eight_digits (get_or values i 0)) spaced
    ∙ append_assoc so_far (32 ∷ []) (eight_digits (get_or values i 0))
    ∙ ap (λ f. f ++ (32 ∷ eight_digits (get_or values i 0))) begun
    ∙ append_assoc front (longwords (take i values)) (32 ∷ eight_digits (get_or values i 0))
    ∙ ap (λ t. front ++ t) (sym (longwords_and (take i values) (get_or values i 0)))
    ∙ ap (λ vs. front ++ longwords vs) (sym (take_more values i 0 h))

-- one more number in decimal digits
pub spaced_and : (numbers : List ℕ) (n : ℕ) → spaced (numbers ++ n ∷ []) ≡ spaced numbers ++ 32 ∷ decimal n
spaced_and [] n = append-nil (32 ∷ decimal n)
spaced_and (m ∷ numbers) n =
    ap (λ rest. (32 ∷ decimal m) ++ rest) (spaced_and numbers n)
    ∙ sym (append_assoc (32 ∷ decimal m) (spaced numbers) (32 ∷ decimal n))

-- one more behind a line
pub number_pushed : (numbers : List ℕ) (i : ℕ) (front so_far whole : List ℕ) → i < length numbers
    → so_far ≡ front ++ spaced (take i numbers) → whole ≡ so_far ++ 32 ∷ decimal (get_or numbers i 0)
    → whole ≡ front ++ spaced (take (i + 1) numbers)
number_pushed numbers i front so_far whole h begun written =
    written
    ∙ ap (λ f. f ++ 32 ∷ decimal (get_or numbers i 0)) begun
    ∙ append_assoc front (spaced (take i numbers)) (32 ∷ decimal (get_or numbers i 0))
    ∙ ap (λ t. front ++ t) (sym (spaced_and (take i numbers) (get_or numbers i 0)))
    ∙ ap (λ ns. front ++ spaced ns) (sym (take_more numbers i 0 h))
