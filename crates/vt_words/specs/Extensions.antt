-- Integers as two's complement quadwords, and which of them fit fewer bytes: V without wider numbers.
use Rattle.std.specs.Prelude.{◌≡◌, ℕ, ℤ, ◌+◌, ◌-◌, ◌*◌, ◌%◌, ◌^◌, ◌<◌, ◌≤◌, ◌==◌, ◌+ℤ◌, ◌-ℤ◌, ◌*ℤ◌, unsigned_abs}
use Rattle.vt_words.specs.Values.{modulus, signed_value, value_of, fits}
use Rattle.vt_words.specs.Quad.{sign_extended}

-- the integer as a quadword
abbrev pub quad_value : ℤ → ℕ
quad_value number = value_of 8 number

-- an integer fits so many bytes exactly where the extension of its low bytes is itself
abbrev pub FitsByExtension : (bytes : ℕ) → Type 0
FitsByExtension bytes = (number : ℤ) → unsigned_abs number ≤ 2 ^ 63
    → fits bytes number ≡ (sign_extended (value_of bytes number) (8 * bytes) == quad_value number)

-- the bytes of a value, extended, are the quadword of the number that they spell
abbrev pub ExtendsToQuad : (bytes : ℕ) → Type 0
ExtendsToQuad bytes = (value : ℕ) → value < modulus bytes → quad_value (signed_value bytes value) ≡ sign_extended value (8 * bytes)

-- the low bytes of an integer are those of its quadword
abbrev pub HasLowBytes : (bytes : ℕ) → Type 0
HasLowBytes bytes = (number : ℤ) → value_of bytes number ≡ quad_value number % modulus bytes

-- sums, differences and products as quadwords
abbrev pub SumsAsQuads : Type 0
SumsAsQuads = (a b : ℤ) → quad_value (a +ℤ b) ≡ (quad_value a + quad_value b) % 2 ^ 64

abbrev pub DifferencesAsQuads : Type 0
DifferencesAsQuads = (a b : ℤ) → quad_value (a -ℤ b) ≡ (quad_value a + (2 ^ 64 - quad_value b)) % 2 ^ 64

abbrev pub ProductsAsQuads : Type 0
ProductsAsQuads = (a b : ℤ) → quad_value (a *ℤ b) ≡ quad_value a * quad_value b % 2 ^ 64
