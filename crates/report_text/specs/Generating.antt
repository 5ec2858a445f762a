-- What is said of a generated image that was run.
use Rattle.std.specs.Prelude.{ℕ, List, [], ◌∷◌, ◌++◌, codes}
use Rattle.report_text.specs.Digits.{eight_digits}
use Rattle.report_text.specs.Numbers.{spaced}

-- the image's number and the bytes of its file, how many addresses are mapped, and the sum of its memory's bytes
abbrev pub generated_text : (number bytes mapped memory : ℕ) → List ℕ
generated_text number bytes mapped memory =
    codes "image" ++ spaced (number ∷ []) ++ codes " bytes" ++ spaced (bytes ∷ [])
    ++ codes "\nmapped" ++ spaced (mapped ∷ []) ++ codes "\nmemory " ++ eight_digits memory ++ 10 ∷ []
