-- The parts of an operand: its bytes by aligned quadword. Each part stands in one page.
use Rattle.std.specs.Prelude.{ℕ, ◌+◌, ◌-◌, ◌%◌, ◌^◌, ◌==◌, Bool, not, List, [], ◌∷◌, Option, find, option_map, nat_le, if◌then◌else◌}
use Rattle.vax_form.specs.declared.pages.Pages.{Pages}
use Rattle.vax_form.specs.Pages.{is_allowed}

-- the address and the number of bytes of each part of up to eight bytes
abbrev pub parts : ℕ → ℕ → List (ℕ × ℕ)
parts address count =
    if count == 0
    then []
    else if nat_le count (8 - address % 8)
    then (address, count) ∷ []
    else (address, 8 - address % 8) ∷ ((address + (8 - address % 8)) % 2 ^ 32, count - (8 - address % 8)) ∷ []

-- the first byte of the first part that may not be used with that intent
abbrev pub first_bad_part : Pages → Bool → List (ℕ × ℕ) → Option ℕ
first_bad_part pages write parts = option_map (λ (part : ℕ × ℕ). part.0) (find (λ (part : ℕ × ℕ). not (is_allowed pages part.0 write)) parts)
