use Rattle.vt_words.specs.Quad.{four}
use Rattle.program_codegen.proofs.frames.push_count.Goals as goal

-- a longword
pub write_by-requires-clause-count : goal.write_by-requires-clause-count
write_by-requires-clause-count c = four
