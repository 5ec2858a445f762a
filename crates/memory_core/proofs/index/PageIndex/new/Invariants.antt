use Rattle.std.proofs.Common.{drop}
use Rattle.memory_core.proofs.Indexing.{IsBegun}
use Rattle.memory_core.proofs.index.PageIndex.new.Given as goal

abbrev pub invariant-loop-range : goal.invariant-loop-range
invariant-loop-range l = IsBegun l.range-items (drop l.range-index l.range-items) l.words.items l.before
