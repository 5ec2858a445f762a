use Rattle.std.proofs.Common.{◌≡◌, ℕ, List, drop, length}
use Rattle.vax_driven.specs.Driven.{runs_from}
use Rattle.vax_form.specs.Made.{Made}
use Rattle.vax_run.specs.Values.{threads_of}
use Rattle.tie_switch.specs.Known.{AreFound as AreKnown}
use Rattle.stored_runs.specs.Marks.{mark_of}
use Rattle.stored_runs.specs.World.{AreLeft, IsLeft}
use Rattle.stored_runs.proofs.Marked.{AreSoFar}
use Rattle.stored_runs.proofs.Runs.{with_runs}
use Rattle.stored_runs.proofs.world.World.runs.Given as goal

abbrev pub invariant-loop-at : goal.invariant-loop-at
invariant-loop-at l = record {
  known : AreKnown l.image.pages l.course.known.items;
  runs : (input counts : List ℕ) (made : List Made) → length counts ≡ length l.image.threads → IsLeft l.image input counts made l.self
      → runs_from (threads_of l.image) made 0 counts ≡ with_runs l.runs.items (runs_from (threads_of l.image) made l.at (drop l.at counts));
  marks : (input counts : List ℕ) (made : List Made) → length counts ≡ length l.image.threads → AreLeft l.image input counts made l.self l.initial.course.marks
      → AreSoFar l.image counts made l.at (mark_of l.initial.course.marks) (mark_of l.course.marks);
}
