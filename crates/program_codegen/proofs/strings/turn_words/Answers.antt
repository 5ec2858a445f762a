use Rattle.vt_words.specs.Quad.{one}
use Rattle.program_codegen.proofs.strings.turn_words.Goals as goal

-- a byte
pub read_by-requires-clause-count : goal.read_by-requires-clause-count
read_by-requires-clause-count c = one

pub write_by-requires-clause-count : goal.write_by-requires-clause-count
write_by-requires-clause-count c = one
