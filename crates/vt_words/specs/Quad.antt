-- Quadwords as eight bytes, byte 0 the lowest, and Alpha's byte manipulation.
-- Alpha Architecture Reference Manual, "Byte Manipulation": Extract Byte, Byte Insert, Byte Mask, Zero Bytes.
use Rattle.std.specs.Prelude.{ℕ, zero, suc, ◌+◌, ◌-◌, ◌*◌, ◌/◌, ◌%◌, ◌^◌, bit_and, nat_lt, if◌then◌else◌}
use Rattle.std.specs.Int.{bit_at}

-- byte `at` of a number, byte 0 the lowest
abbrev pub byte_of : (at n : ℕ) → ℕ
byte_of at n = n / 2 ^ (8 * at) % 2 ^ 8

-- all the bits of each byte below `count` that a bit of the mask names
abbrev pub spread_below : (count mask : ℕ) → ℕ
spread_below zero mask = 0
spread_below (suc at) mask = bit_at mask at * 255 * 2 ^ (8 * at) + spread_below at mask

unfoldable pub spread : (mask : ℕ) → ℕ
spread mask = spread_below 8 mask

-- the bytes that the mask names are kept, the others are 0
abbrev pub kept : (mask n : ℕ) → ℕ
kept mask n = bit_and n (spread mask)

-- the bytes that the mask names are 0, the others stay
abbrev pub cleared : (mask n : ℕ) → ℕ
cleared mask n = bit_and n (2 ^ 64 - 1 - spread mask)

-- a shift to the left at 64 bits
abbrev pub left : (n k : ℕ) → ℕ
left n k = n * 2 ^ k % 2 ^ 64

-- a shift to the right
abbrev pub right : (n k : ℕ) → ℕ
right n k = n / 2 ^ k

-- EXTxL and EXTxH; `m` is 1, 3, 0x0f or 0xff
abbrev pub ext_low : (m a b : ℕ) → ℕ
ext_low m a b = kept m (right a (8 * (b % 8)))

abbrev pub ext_high : (m a b : ℕ) → ℕ
ext_high m a b = kept m (left a ((64 - 8 * (b % 8)) % 64))

-- INSxL and INSxH
abbrev pub ins_low : (m a b : ℕ) → ℕ
ins_low m a b = kept (m * 2 ^ (b % 8) % 2 ^ 8) (left a (8 * (b % 8)))

abbrev pub ins_high : (m a b : ℕ) → ℕ
ins_high m a b = kept (m * 2 ^ (b % 8) / 2 ^ 8) (right a ((64 - 8 * (b % 8)) % 64))

-- MSKxL and MSKxH
abbrev pub msk_low : (m a b : ℕ) → ℕ
msk_low m a b = cleared (m * 2 ^ (b % 8) % 2 ^ 8) a

abbrev pub msk_high : (m a b : ℕ) → ℕ
msk_high m a b = cleared (m * 2 ^ (b % 8) / 2 ^ 8) a

-- `count` bytes of a quadword from byte `at` on
abbrev pub field_of : (quad at count : ℕ) → ℕ
field_of quad at count = quad / 2 ^ (8 * at) % 2 ^ (8 * count)

-- the quadword with these bytes replaced by the lowest of the value
abbrev pub with_field_of : (quad at count value : ℕ) → ℕ
with_field_of quad at count value =
    quad / 2 ^ (8 * (at + count)) * 2 ^ (8 * (at + count)) + (value % 2 ^ (8 * count) * 2 ^ (8 * at) + quad % 2 ^ (8 * at))

-- `count` bytes from byte `at` on of two quadwords, the first the lower
abbrev pub crossing : (first second at count : ℕ) → ℕ
crossing first second at count = (second * 2 ^ 64 + first) / 2 ^ (8 * at) % 2 ^ (8 * count)

-- the sizes of operands
pub data IsCount : ℕ → Type 0 where
  one : IsCount 1
  two : IsCount 2
  four : IsCount 4
  eight : IsCount 8

-- the low bits of a number, with the highest of them in all bits above
abbrev pub sign_extended : (n bits : ℕ) → ℕ
sign_extended n bits =
    let low = n % 2 ^ bits in
    if nat_lt low (2 ^ (bits - 1)) then low else low + (2 ^ 64 - 2 ^ bits)
