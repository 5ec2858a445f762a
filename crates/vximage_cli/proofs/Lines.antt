-- The line that has begun in a file, and the last one, where something stands.
use Rattle.std.proofs.Common.{◌≡◌, ◌-◌, ℕ, List, [], ◌∷◌, false, ap, arith, drop, length, refl, take}
use Rattle.std.specs.Prelude.{◌==◌, slice_range}
use Rattle.vximage_cli.specs.Entries.{last_line}

pub one_line : (line : List ℕ) → (length line == 0) ≡ false → last_line line ≡ line ∷ []
one_line [] h = absurd cc
one_line (b ∷ bs) h = refl

pub begins : (bytes : List ℕ) (begun place : ℕ) → begun ≡ place → slice_range bytes begun place ≡ []
begins bytes begun place same =
    let none : place - begun ≡ 0 = omega (arith, same) in
    ap (λ n. take n (drop begun bytes)) none
