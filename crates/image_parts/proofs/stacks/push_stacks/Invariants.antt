use Rattle.std.proofs.Common.{◌≡◌, ◌++◌}
use Rattle.image_parts.specs.Program.{stacks_of}
use Rattle.image_parts.proofs.stacks.push_stacks.Given as goal

abbrev pub invariant-loop-thread : goal.invariant-loop-thread
invariant-loop-thread l = l.sections.items ≡ l.fn.sections.items ++ stacks_of l.size l.thread
