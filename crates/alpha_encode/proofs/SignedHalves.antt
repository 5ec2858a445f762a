-- The halves of a longword are signed words.
use Rattle.std.proofs.Common.{ℕ, ◌<◌, ◌^◌, arith}
use Rattle.std.specs.Prelude.{FitsSigned}
use Rattle.std.specs.Int.{cast_signed, w16}
use Rattle.std.proofs.lemmas.Int.{ints}

pub half_fits : (n : ℕ) → n < 2 ^ 16 → FitsSigned w16 (cast_signed w16 n)
half_fits n lt = record { sfits = grind (arith, ints) }
