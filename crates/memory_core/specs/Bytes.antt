-- Quadwords as eight bytes. Alpha Architecture Reference Manual, "Data Types": byte 0 is the lowest.
use Rattle.std.specs.Prelude.{ℕ, ◌*◌, ◌/◌, ◌%◌, ◌^◌, ◌==◌, [], ◌∷◌, if◌then◌else◌}
use Rattle.std.specs.Int.{w64, bit_at, byte_at, from_le_bytes}

-- the quadword of these bytes
abbrev pub quad_of : (ℕ → ℕ) → ℕ
quad_of byte = from_le_bytes w64 (byte 0 ∷ byte 1 ∷ byte 2 ∷ byte 3 ∷ byte 4 ∷ byte 5 ∷ byte 6 ∷ byte 7 ∷ [])

-- the bytes that a bit of the mask names from the value, the others as before
unfoldable pub with_bytes : (mask value before : ℕ) → ℕ
with_bytes mask value before = quad_of (λ at. if bit_at mask at == 1 then byte_at at value else byte_at at before)

-- the word from byte `at` on
abbrev pub word_at : (at quad : ℕ) → ℕ
word_at at quad = quad / 2 ^ (8 * at) % 2 ^ 16
