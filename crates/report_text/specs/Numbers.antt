-- Numbers behind blanks.
use Rattle.std.specs.Prelude.{ℕ, List, [], ◌∷◌, ◌++◌, decimal}
use Rattle.report_text.specs.Digits.{eight_digits}

-- each in decimal digits
abbrev pub spaced : List ℕ → List ℕ
spaced [] = []
spaced (n ∷ ns) = 32 ∷ decimal n ++ spaced ns

-- each in eight hexadecimal digits
abbrev pub longwords : List ℕ → List ℕ
longwords [] = []
longwords (n ∷ ns) = (32 ∷ eight_digits n) ++ longwords ns
