-- A number in hexadecimal digits with capital letters, the highest first, as few as it needs.
use Rattle.std.specs.Prelude.{ℕ, zero, suc, ◌+◌, ◌/◌, ◌%◌, nat_lt, if◌then◌else◌, List, [], ◌∷◌, ◌++◌}

-- 0 to 9, and A to F
abbrev pub digit : ℕ → ℕ
digit n = if nat_lt n 10 then 48 + n else 55 + n

-- with at most so many places
unfoldable pub digits_within : ℕ → ℕ → List ℕ
digits_within zero n = []
digits_within (suc k) n = if nat_lt n 16 then digit n ∷ [] else digits_within k (n / 16) ++ digit (n % 16) ∷ []

-- a quadword has at most 16
unfoldable pub hexadecimal : ℕ → List ℕ
hexadecimal n = digits_within 16 n
