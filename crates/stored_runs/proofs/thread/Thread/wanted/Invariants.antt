use Rattle.std.proofs.Common.{◌≡◌, ℕ, List}
use Rattle.tie_switch.specs.Known.{AreFound as AreKnown}
use Rattle.stored_runs.specs.Marks.{mark_of}
use Rattle.stored_runs.specs.Stood.{IsMarking}
use Rattle.stored_runs.specs.Threads.{IsAt}
use Rattle.stored_runs.proofs.thread.Thread.wanted.Given as goal

abbrev pub invariant-loop : goal.invariant-loop
invariant-loop l = record {
  at : (replies : List ℕ) → IsAt l.image l.thread replies l.initial.self → IsAt l.image l.thread replies l.self;
  retired : l.self.retired ≡ l.counter;
  count : l.self.count ≡ l.initial.self.count;
  known : AreKnown l.image.pages l.course.known.items;
  marks : (replies : List ℕ) → IsAt l.image l.thread replies l.initial.self
      → IsMarking l.image l.thread replies l.initial.self.retired l.self.retired l.initial.self.count (mark_of l.initial.course.marks) (mark_of l.course.marks);
}
