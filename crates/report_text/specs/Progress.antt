-- How far a thread has come.
use Rattle.std.specs.Prelude.{ℕ, List, [], ◌∷◌, ◌++◌, codes, decimal}
use Rattle.report_text.specs.Digits.{eight_digits}

-- the line of a thread that has made so many steps and retired so many instructions, at that PC
abbrev pub progress_text : (thread steps retired pc : ℕ) → List ℕ
progress_text thread steps retired pc =
    codes "thread" ++ (32 ∷ decimal thread) ++ codes " steps" ++ (32 ∷ decimal steps) ++ codes " retired" ++ (32 ∷ decimal retired)
    ++ codes " pc " ++ eight_digits pc ++ 10 ∷ []
