use Rattle.std.proofs.Common.{◌≡◌, take}
use Rattle.elf_file.specs.Program.{segments_in}
use Rattle.elf_file.proofs.program.segments_of.Given as goal

abbrev pub invariant-loop-header : goal.invariant-loop-header
invariant-loop-header l = l.segments.items ≡ segments_in l.bytes (take l.header-index l.headers)
