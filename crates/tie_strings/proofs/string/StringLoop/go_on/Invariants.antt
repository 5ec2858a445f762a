-- The step shows the tree with the replies so far.
use Rattle.std.proofs.Common.{take}
use Rattle.tie_strings.specs.Strings.{loop_tree, StandsAt}
use Rattle.tie_strings.proofs.string.StringLoop.go_on.Given as goal

abbrev pub invariant-loop-reply : goal.invariant-loop-reply
invariant-loop-reply l = StandsAt l.fn.pages l.fn.before (loop_tree l.fn.pages l.fn.self) (take l.reply-index l.replies) l.self l.step
