-- A number at the front of a list, by its bytes.
use Rattle.std.proofs.Common.{◌≡◌, ℕ, ◌+◌, ◌*◌, ◌<◌, ◌≤◌, leb, List, [], ◌∷◌, length, get_or, take, Some, None, refl, sym, ap, ◌∙◌, arith}
use Rattle.std.proofs.lemmas.Bool.{cond-false, cond-true, le-leb, lt-leb}
use Rattle.vax_form.specs.Size.{bytes_of}
use Rattle.vax_form.specs.Grammar.{number}
use Rattle.vax_form.specs.GrammarReading.{read_number}
use Rattle.vax_form.specs.declared.instr.Size.{Size}

pub read_number-short : (size : Size) (xs : List ℕ) → length xs < bytes_of size → None ≡ read_number size xs
unfolding read_number
read_number-short size xs h = sym (cond-false _ _ _ (lt-leb (bytes_of size) (length xs) h))

pub read_number-of : (size : Size) (xs : List ℕ) (value : ℕ) → bytes_of size ≤ length xs → value ≡ number (take (bytes_of size) xs)
    → Some value ≡ read_number size xs
unfolding read_number
read_number-of size xs value h e = ap Some e ∙ sym (cond-true _ _ _ (le-leb (bytes_of size) (length xs) h))

pub number-take_1 : (xs : List ℕ) → 1 ≤ length xs → number (take 1 xs) ≡ get_or xs 0 0
number-take_1 (a ∷ rest) h = omega arith
number-take_1 _ h = absurd (omega arith)

pub number-take_2 : (xs : List ℕ) → 2 ≤ length xs → number (take 2 xs) ≡ get_or xs 0 0 + 256 * get_or xs 1 0
number-take_2 (a ∷ b ∷ rest) h = omega arith
number-take_2 _ h = absurd (omega arith)

pub number-take_4 : (xs : List ℕ) → 4 ≤ length xs
    → number (take 4 xs) ≡ get_or xs 0 0 + 256 * (get_or xs 1 0 + 256 * (get_or xs 2 0 + 256 * get_or xs 3 0))
number-take_4 (a ∷ b ∷ c ∷ d ∷ rest) h = omega arith
number-take_4 _ h = absurd (omega arith)

pub number-take_8 : (xs : List ℕ) → 8 ≤ length xs
    → number (take 8 xs) ≡ get_or xs 0 0 + 256 * (get_or xs 1 0 + 256 * (get_or xs 2 0 + 256 * (get_or xs 3 0
    + 256 * (get_or xs 4 0 + 256 * (get_or xs 5 0 + 256 * (get_or xs 6 0 + 256 * get_or xs 7 0))))))
number-take_8 (a ∷ b ∷ c ∷ d ∷ e ∷ f ∷ g ∷ k ∷ rest) h = omega arith
number-take_8 _ h = absurd (omega arith)
