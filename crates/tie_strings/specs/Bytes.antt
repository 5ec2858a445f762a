-- The next byte of a string.
use Rattle.std.specs.Prelude.{ℕ, Bool, true, false, is_none, if◌then◌else◌}
use Rattle.vax_form.specs.Pages.{first_bad}
use Rattle.vax_form.specs.Script.{Script}
use Rattle.vax_form.specs.declared.pages.Pages.{Pages}
use Rattle.vax_form.specs.declared.state.Reference.{Reference}
use Rattle.vax_form.specs.declared.state.RefKind.TheVariants.{Read, Write}
use Rattle.vax_meaning.specs.Memory.{low_bytes, read_part}
use Rattle.vax_long.specs.Strings.{fetch_byte}

-- reads a byte: it is checked first, unless it was
unfoldable pub next_byte : (checked : Bool) → (address : ℕ) → Script ℕ
next_byte true address = read_part address 1
next_byte false address = fetch_byte address

-- it was checked, or may be read
abbrev pub may_be_read : (checked : Bool) → Pages → (address : ℕ) → Bool
may_be_read checked pages address = if checked then true else is_none (first_bad pages false address 1)

-- the read of a byte
abbrev pub read_of : (address : ℕ) → Reference
read_of address = record { address = address; count = 1; kind = Read }

-- the write of a byte
abbrev pub write_of : (address byte : ℕ) → Reference
write_of address byte = record { address = address; count = 1; kind = Write (low_bytes 1 byte) }
