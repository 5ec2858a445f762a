-- Data types by their length in bytes: byte, word, longword, quadword.
-- VAX Architecture Reference Manual, "Data Types".
use Rattle.std.specs.Prelude.{ℕ}
use Rattle.vax_form.specs.declared.instr.Size.{Size}
use Rattle.vax_form.specs.declared.instr.Size.TheVariants.{Byte, Word, Long, Quad}
use Rattle.vax_form.specs.declared.instr.Width.{Width}
use Rattle.vax_form.specs.declared.instr.Width.TheVariants as widths

abbrev pub bytes_of : Size → ℕ
bytes_of Byte = 1
bytes_of Word = 2
bytes_of Long = 4
bytes_of Quad = 8

abbrev pub size_of : Width → Size
size_of widths.Byte = Byte
size_of widths.Word = Word
size_of widths.Long = Long
