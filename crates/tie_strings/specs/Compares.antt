-- Two strings that are being compared.
use Rattle.std.specs.Prelude.{ℕ, ◌-◌, ◌==◌, Bool, true, false}
use Rattle.vax_form.specs.Script.{Script, ◌>>=◌, ◌>>◌, pure, change, when◌then◌else◌}
use Rattle.vax_form.specs.declared.instr.Width.TheVariants.{Byte}
use Rattle.vax_form.specs.declared.script.End.{End}
use Rattle.vax_meaning.specs.Codes.{with_codes, go_to}
use Rattle.vax_meaning.specs.Moves.{with_comparison}
use Rattle.vax_meaning.specs.Operands.{set_register}
use Rattle.vax_long.specs.Strings.{beside, beyond, compare_bytes}
use Rattle.tie_strings.specs.Bytes.{next_byte}
use Rattle.tie_strings.specs.declared.comparing.Pair.{Pair}
use Rattle.tie_strings.specs.declared.comparing.Pair.TheVariants.{First, Second, Differs}
use Rattle.tie_strings.specs.declared.comparing.Compared.{Compared}

-- the second of two bytes is read, with so many bytes left behind both
abbrev pub compare_second : (checked : Bool) → (one less left first second : ℕ) → Script ℕ
compare_second checked one less left first second = do
  other ← next_byte checked second
  when one == other
      then compare_bytes less (beside false first) (beside false second)
      else (do
        change (with_comparison Byte one other)
        pure left)

-- what is left of the comparison, with the first of two bytes, or with two that differ: the next byte may have been checked
unfoldable pub compare_on : (checked : Bool) → Pair → (left first second : ℕ) → Script ℕ
compare_on checked First left first second =
    when left == 0
    then (do
      change (with_codes false true false false)
      pure 0)
    else (do
      one ← next_byte checked first
      compare_second false one (left - 1) left first second)
compare_on checked (Second one) left first second = compare_second checked one (left - 1) left first second
compare_on checked (Differs one other) left first second = do
  change (with_comparison Byte one other)
  pure left

-- the registers behind it, by the number of bytes left
abbrev pub comparing_end : Compared → (left : ℕ) → Script End
comparing_end compared left = do
  set_register 0 left
  set_register 1 (beyond compared.first (compared.count - left))
  set_register 2 left
  set_register 3 (beyond compared.second (compared.count - left))
  go_to compared.after

-- what is left of CMPC3
unfoldable pub comparing_script : (checked : Bool) → Pair → (left first second : ℕ) → Compared → Script End
comparing_script checked pair left first second compared = do
  rest ← compare_on checked pair left first second
  comparing_end compared rest
