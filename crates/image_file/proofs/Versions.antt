-- What every version keeps to.
use Rattle.std.proofs.Common.{ℕ, ◌≤◌, true, false, cond, length, arith}
use Rattle.std.specs.Prelude.{◌==◌}
use Rattle.image_file.specs.Limits.{most_threads}
use Rattle.image_file.specs.Values.{ImageValue}
use Rattle.image_file.specs.Whole.{IsWhole}

pub few : (version n : ℕ) → n ≤ most_threads version → n ≤ 255
few version n = elim (version == 1) as (λ b. n ≤ cond b 16 32 → n ≤ 255) [ true ↦ λ most. omega arith | false ↦ λ most. omega arith ]

-- a thread's number is a byte
pub few_threads : (image : ImageValue) → IsWhole image → length image.threads ≤ 255
few_threads image whole = few image.version (length image.threads) whole.room.threads
