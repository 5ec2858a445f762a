-- The index of an array element.
-- VAX Architecture Reference Manual, "Miscellaneous Instructions": INDEX.
use Rattle.std.specs.Prelude.{ℕ, ◌+◌, ◌*◌, ◌%◌, ◌^◌, int_lt, ◌==◌, ◌||◌, List, Bool, false}
use Rattle.vax_form.specs.State.{with_pc}
use Rattle.vax_form.specs.Script.{Script, ◌>>◌, pure, change, when◌then◌else◌}
use Rattle.vax_form.specs.declared.instr.Size.TheVariants.{Long}
use Rattle.vax_form.specs.declared.instr.Instr.{Instr}
use Rattle.vax_form.specs.declared.script.End.{End}
use Rattle.vax_form.specs.declared.script.End.TheVariants.{Done, Traps}
use Rattle.vt_words.specs.Values.{signed_value}
use Rattle.vax_meaning.specs.declared.evaluation.Evaluated.{Evaluated}
use Rattle.vax_meaning.specs.Operands.{store}
use Rattle.vax_meaning.specs.Evaluation.{value_of_place, location_of_place}
use Rattle.vax_meaning.specs.Codes.{with_codes, sign_of}

-- a signed longword below the one bound or above the other
abbrev pub is_outside : (low high subscript : ℕ) → Bool
is_outside low high subscript = int_lt (signed_value 4 subscript) (signed_value 4 low) || int_lt (signed_value 4 high) (signed_value 4 subscript)

-- the low 32 bits
abbrev pub index_of : (sum subscript size : ℕ) → ℕ
index_of sum subscript size = (sum + subscript) * size % 2 ^ 32

-- INDEX: the result is stored, and then a subscript out of range traps
unfoldable pub index : Instr → List Evaluated → Script End
index instr values = do
  let subscript = value_of_place values 0 Long
  let result = index_of (value_of_place values 4 Long) subscript (value_of_place values 3 Long)
  store (location_of_place values 5) Long result
  change (with_codes (sign_of Long result) (result == 0) false false)
  change (with_pc instr.after)
  when is_outside (value_of_place values 1 Long) (value_of_place values 2 Long) subscript then pure (Traps 7) else pure Done
