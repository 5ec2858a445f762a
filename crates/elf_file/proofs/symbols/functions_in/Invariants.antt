use Rattle.std.proofs.Common.{◌≡◌, drop}
use Rattle.image_file.specs.Reading.{table_in}
use Rattle.elf_file.specs.Symbols.{symbol_in, functions_in}
use Rattle.elf_file.proofs.symbols.functions_in.Given as goal

abbrev pub invariant-loop-place : goal.invariant-loop-place
invariant-loop-place l = l.values.items ≡ functions_in l.sections (table_in 16 symbol_in l.place (drop l.table.offset l.bytes))
