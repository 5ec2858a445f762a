use Rattle.vax_decode.proofs.Reading.{Reading}
use Rattle.vax_decode.proofs.instr.read_instr.Given as goal

abbrev pub invariant-loop-i : goal.invariant-loop-i
invariant-loop-i l = Reading l.row l.pc l.i l.place l.bytes l.operands
