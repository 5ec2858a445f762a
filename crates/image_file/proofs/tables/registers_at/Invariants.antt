use Rattle.std.proofs.Common.{◌≡◌, length, take, drop}
use Rattle.image_file.specs.Limits.{FIRST_REGISTERS, REGISTER_BYTES}
use Rattle.image_file.specs.Reading.{word, table_in}
use Rattle.image_file.proofs.tables.registers_at.Given as goal

abbrev pub invariant-loop-number : goal.invariant-loop-number
invariant-loop-number l = (length l.registers ≡ FIRST_REGISTERS) × (take l.number l.registers ≡ table_in REGISTER_BYTES word l.number (drop l.at l.bytes))
