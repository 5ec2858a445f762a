-- A string that is being searched.
use Rattle.std.specs.Prelude.{ℕ, ◌-◌, ◌==◌, Bool, true, false}
use Rattle.vax_form.specs.Script.{Script, ◌>>=◌, ◌>>◌, pure, change, when◌then◌else◌}
use Rattle.vax_form.specs.declared.script.End.{End}
use Rattle.vax_meaning.specs.Codes.{with_codes, go_to}
use Rattle.vax_meaning.specs.Operands.{set_register}
use Rattle.vax_long.specs.Strings.{beside, beyond, scan_bytes, stops_at}
use Rattle.tie_strings.specs.Bytes.{next_byte}
use Rattle.tie_strings.specs.declared.scanning.Scanned.{Scanned}

-- what is left of the search: the next byte may have been checked
unfoldable pub scan_on : (stopped checked : Bool) → (left address : ℕ) → Scanned → Script ℕ
scan_on true checked left address scanned = pure left
scan_on false checked left address scanned =
    when left == 0
    then pure 0
    else (do
      byte ← next_byte checked address
      when stops_at scanned.locates scanned.character byte
          then pure left
          else scan_bytes scanned.locates scanned.character (left - 1) (beside false address))

-- the registers behind it, by the number of bytes left
abbrev pub scanning_end : Scanned → (left : ℕ) → Script End
scanning_end scanned left = do
  set_register 0 left
  set_register 1 (beyond scanned.address (scanned.count - left))
  change (with_codes false (left == 0) false false)
  go_to scanned.after

-- what is left of LOCC or SKPC
unfoldable pub scanning_script : (stopped checked : Bool) → (left address : ℕ) → Scanned → Script End
scanning_script stopped checked left address scanned = do
  rest ← scan_on stopped checked left address scanned
  scanning_end scanned rest
