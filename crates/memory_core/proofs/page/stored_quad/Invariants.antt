use Rattle.memory_core.proofs.Filling.{Copied}
use Rattle.memory_core.proofs.page.stored_quad.Given as goal

abbrev pub invariant-loop-at : goal.invariant-loop-at
invariant-loop-at l = Copied l.section.stored l.offset l.bytes l.at
