use Rattle.std.proofs.Common.{take}
use Rattle.stored_runs.proofs.Sections.{AreRegions}
use Rattle.stored_runs.proofs.memory.Memory.new.Given as goal

abbrev pub invariant-loop-section : goal.invariant-loop-section
invariant-loop-section l = AreRegions (take l.section-index l.section-items) l.regions.items
