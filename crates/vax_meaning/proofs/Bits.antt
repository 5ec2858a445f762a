-- Replacing bits of a quadword gives a quadword.
use Rattle.std.proofs.Common.{◌≡◌, ℕ, ◌+◌, ◌-◌, ◌*◌, ◌/◌, ◌%◌, ◌^◌, ◌<◌, ◌≤◌, arith, lit<, ap, sym, ◌∙◌, subst}
use Rattle.std.proofs.Math.Nat.{pow-le-pow_right}
use Rattle.std.proofs.lemmas.Nat.{pow-add, mul-add-lt, mod_below, pow_pos, shr_below}

plain : (whole position size value rest : ℕ) → position + size + rest ≡ 64 → whole < 2 ^ 64
    → whole / 2 ^ (position + size) * 2 ^ (position + size) + (value % 2 ^ size * 2 ^ position + whole % 2 ^ position) < 2 ^ 64
plain whole position size value rest is fits =
    let P : ℕ → Type 0 = λ n. whole < 2 ^ n in
    let all : rest + (position + size) ≡ 64 = omega (arith, is) in
    let high : whole / 2 ^ (position + size) < 2 ^ rest = shr_below whole rest (position + size) (subst P (sym all) fits) in
    let inner : value % 2 ^ size * 2 ^ position + whole % 2 ^ position < 2 ^ position * 2 ^ size =
    mul-add-lt (value % 2 ^ size) (2 ^ position) (whole % 2 ^ position) (2 ^ size) (mod_below value (2 ^ size) (pow_pos size)) (mod_below whole (2 ^ position) (pow_pos position)) in
    let within : value % 2 ^ size * 2 ^ position + whole % 2 ^ position < 2 ^ (position + size) = rw (pow-add 2 position size) inner in
    let outer : whole / 2 ^ (position + size) * 2 ^ (position + size) + (value % 2 ^ size * 2 ^ position + whole % 2 ^ position) < 2 ^ (position + size) * 2 ^ rest =
    mul-add-lt (whole / 2 ^ (position + size)) (2 ^ (position + size)) (value % 2 ^ size * 2 ^ position + whole % 2 ^ position) (2 ^ rest) high within in
    let product : 2 ^ (position + size) * 2 ^ rest ≡ 2 ^ 64 = sym (pow-add 2 (position + size) rest) ∙ ap (λ n. 2 ^ n) is in
    omega (arith, outer, product)

pub with_bits_below : (whole position size value unit top width : ℕ) → unit ≡ 2 ^ position → top ≡ 2 ^ (position + size) → width ≡ 2 ^ size → position + size < 64 → whole < 2 ^ 64
    → whole / top * top + value % width * unit + whole % unit < 2 ^ 64
with_bits_below whole position size value unit top width is_unit is_top is_width room fits =
    let rest : position + size + (64 - (position + size)) ≡ 64 = omega (arith, room) in
    let sum : whole / 2 ^ (position + size) * 2 ^ (position + size) + (value % 2 ^ size * 2 ^ position + whole % 2 ^ position) < 2 ^ 64 = plain whole position size value (64 - (position + size)) rest fits in
    rw (is_unit, is_top, is_width) (omega (arith, sum))

pub bits_below : (shifted size unit : ℕ) → unit ≡ 2 ^ size → size ≤ 32 → shifted % unit < 2 ^ 32
bits_below shifted size unit is small =
    let low : shifted % 2 ^ size < 2 ^ size = mod_below shifted (2 ^ size) (pow_pos size) in
    let most : 2 ^ size ≤ 2 ^ 32 = pow-le-pow_right (lit< tt) small in
    rw is (omega (arith, low, most))
