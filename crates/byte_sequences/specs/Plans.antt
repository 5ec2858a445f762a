-- The accesses that count: one for each part of an operand, the part at the lower address first.
-- VAX Architecture Reference Manual, "Memory": the low byte of a value has the lowest address.
use Rattle.std.specs.Prelude.{ℕ, ◌+◌, ◌*◌, ◌/◌, ◌%◌, ◌^◌, List, [], ◌∷◌, bit_and, bit_or}
use Rattle.vt_words.specs.Quad.{field_of, with_field_of}
use Rattle.alpha_meaning.specs.Result.{inverse}
use Rattle.alpha_meaning.specs.Pieces.{Plan, Access, Over, bind}
use Rattle.micro_ops.specs.Meaning.{locked_count}
use Rattle.micro_ops.specs.declared.program.LockedOp.{LockedOp}
use Rattle.micro_ops.specs.declared.program.LockedOp.TheVariants.{AddWord, SetBit, ClearBit}

-- a part has an address and a number of bytes; its quadword
abbrev pub quad_of_part : ℕ × ℕ → ℕ
quad_of_part part = part.0 / 8 * 8

-- its bytes of that quadword
abbrev pub bytes_of_part : ℕ × ℕ → (quad : ℕ) → ℕ
bytes_of_part part quad = field_of quad (part.0 % 8) part.1

-- the quadword with these bytes replaced by the lowest of the value
abbrev pub with_bytes_of_part : ℕ × ℕ → (value quad : ℕ) → ℕ
with_bytes_of_part part value quad = with_field_of quad (part.0 % 8) part.1 value

-- each part is loaded once; the value has a part's bytes above those of the parts before it
abbrev pub read_plan : (parts : List (ℕ × ℕ)) → Plan ℕ
read_plan [] = Over 0
read_plan (part ∷ []) = Access (quad_of_part part) (λ before. before) (λ before. Over (bytes_of_part part before))
read_plan (part ∷ rest) =
    Access (quad_of_part part) (λ before. before)
    (λ before. bind (read_plan rest) (λ above. Over (bytes_of_part part before + above * 2 ^ (8 * part.1))))

-- each part is stored once, with its bytes of the value
abbrev pub write_plan : (parts : List (ℕ × ℕ)) (value : ℕ) → Plan (Unit {0})
write_plan [] value = Over tt
write_plan (part ∷ rest) value =
    Access (quad_of_part part) (with_bytes_of_part part value) (λ before. write_plan rest (value / 2 ^ (8 * part.1)))

-- ---- interlocked changes
-- what the word or byte becomes; a sum keeps its low 16 bits
abbrev pub locked_value : LockedOp → (before from : ℕ) → ℕ
locked_value AddWord before from = before + from
locked_value SetBit before from = bit_or before (2 ^ from)
locked_value ClearBit before from = bit_and before (inverse (2 ^ from))

-- one access that loads and stores, and gives the word or byte before
abbrev pub locked_plan : LockedOp → (address from : ℕ) → Plan ℕ
locked_plan kind address from =
    let part : ℕ × ℕ = (address, locked_count kind) in
    Access (quad_of_part part) (λ before. with_bytes_of_part part (locked_value kind (bytes_of_part part before) from) before)
    (λ before. Over (bytes_of_part part before))
