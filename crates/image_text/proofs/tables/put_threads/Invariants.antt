use Rattle.std.proofs.Common.{◌≡◌, ◌++◌, drop}
use Rattle.image_text.specs.Lines.{numbered, thread_line}
use Rattle.image_text.proofs.tables.put_threads.Given as goal

abbrev pub invariant-loop-number : goal.invariant-loop-number
invariant-loop-number l = l.out.items ++ numbered thread_line l.number (drop l.number l.threads) ≡ l.fn.out.items ++ numbered thread_line 0 l.threads
