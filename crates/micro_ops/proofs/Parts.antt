-- Operands in one part and in two.
use Rattle.std.proofs.Common.{◌≡◌, ℕ, ◌-◌, ◌<◌, ◌≤◌, refl, ap, arith, false, [], ◌∷◌}
use Rattle.std.specs.Prelude.{◌==◌}
use Rattle.std.proofs.lemmas.Bool.{le-leb, lt-leb, ne_eqb}
use Rattle.vax_form.specs.Parts.{parts}
use Rattle.micro_ops.specs.Course.{read_parts, write_parts}
use Rattle.micro_ops.specs.Laws.{room_at, next_quad, ReadsInOne, ReadsInTwo, WritesInOne, WritesInTwo}

is_some : (count : ℕ) → 0 < count → (count == 0) ≡ false
is_some count some = ne_eqb count 0 (λ e. omega (arith, e))

one_part : (address count : ℕ) → 0 < count → count ≤ room_at address → parts address count ≡ (address, count) ∷ []
one_part address count some within = rw (is_some count some, le-leb count (room_at address) within) refl

two_parts : (address count : ℕ) → room_at address < count → parts address count ≡ (address, room_at address) ∷ (next_quad address, count - room_at address) ∷ []
two_parts address count more = rw (is_some count (omega arith), lt-leb count (room_at address) more) refl

pub reads_in_one : ReadsInOne
reads_in_one address count on some within = ap (λ ps. read_parts ps on) (one_part address count some within)

pub reads_in_two : ReadsInTwo
reads_in_two address count on more = ap (λ ps. read_parts ps on) (two_parts address count more)

pub writes_in_one : WritesInOne
writes_in_one address count value on some within = ap (λ ps. write_parts ps value on) (one_part address count some within)

pub writes_in_two : WritesInTwo
writes_in_two address count value on more = ap (λ ps. write_parts ps value on) (two_parts address count more)
