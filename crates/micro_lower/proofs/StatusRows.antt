-- The processor status is put together from its flags.
use Rattle.std.proofs.Common.{◌≡◌, ℕ, ◌+◌, ◌*◌, ◌/◌, ◌%◌, ◌<◌, arith}
use Rattle.micro_ops.specs.Meaning.{Temps, Found}
use Rattle.micro_ops.specs.Values.{value_from}
use Rattle.micro_lower.specs.Rows.{status_program}
use Rattle.micro_lower.proofs.Ready.{effect}

next : (x f : ℕ) → x < 128 → f < 2 → ((x % 256 + x % 256) % 256 % 256 + f % 256) % 256 ≡ 2 * x + f
next x f lt small = omega (arith, lt, small)

flag_below : (psw unit : ℕ) → psw / unit % 2 < 2
flag_below psw unit = omega arith

whole : (psw : ℕ) → psw < 256
    → 2 * (2 * (2 * (2 * (2 * (2 * (2 * (psw / 128 % 2) + psw / 64 % 2) + psw / 32 % 2) + psw / 16 % 2) + psw / 8 % 2) + psw / 4 % 2) + psw / 2 % 2) + psw / 1 % 2 ≡ psw
whole psw lt = omega (arith, lt)

pub status_is : (found : Found) (temps : Temps) → found.state.psw < 256 → effect status_program found temps 2 ≡ found.state.psw
unfolding value_from
status_is found temps lt =
    let p = found.state.psw in
    let s0 : p / 128 % 2 % 256 ≡ p / 128 % 2 = omega arith in
    let f : (unit : ℕ) → p / unit % 2 < 2 = flag_below p in
    let d0 = p / 128 % 2 in
    let d1 = 2 * d0 + p / 64 % 2 in
    let d2 = 2 * d1 + p / 32 % 2 in
    let d3 = 2 * d2 + p / 16 % 2 in
    let d4 = 2 * d3 + p / 8 % 2 in
    let d5 = 2 * d4 + p / 4 % 2 in
    let d6 = 2 * d5 + p / 2 % 2 in
    let b0 : d0 < 2 = f 128 in
    let b1 : d1 < 4 = omega (arith, b0, f 64) in
    let b2 : d2 < 8 = omega (arith, b1, f 32) in
    let b3 : d3 < 16 = omega (arith, b2, f 16) in
    let b4 : d4 < 32 = omega (arith, b3, f 8) in
    let b5 : d5 < 64 = omega (arith, b4, f 4) in
    let b6 : d6 < 128 = omega (arith, b5, f 2) in
    rw (
      s0,
      next d0 (p / 64 % 2) (omega (arith, b0)) (f 64),
      next d1 (p / 32 % 2) (omega (arith, b1)) (f 32),
      next d2 (p / 16 % 2) (omega (arith, b2)) (f 16),
      next d3 (p / 8 % 2) (omega (arith, b3)) (f 8),
      next d4 (p / 4 % 2) (omega (arith, b4)) (f 4),
      next d5 (p / 2 % 2) (omega (arith, b5)) (f 2),
      next d6 (p / 1 % 2) b6 (f 1),
    )
    (whole p lt)
