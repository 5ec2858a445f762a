use Rattle.std.proofs.Common.{◌≡◌, ◌++◌, ◌≤◌, ◌+◌, length}
use Rattle.std.specs.Prelude.{drop}
use Rattle.program_codegen.specs.Calls.{pushes_from}
use Rattle.program_codegen.proofs.frames.push_frame.Given as goal

abbrev pub invariant-loop-place : goal.invariant-loop-place
invariant-loop-place l = record {
  within : l.place ≤ length l.frame;
  pushed : l.lines.items ++ pushes_from l.after l.call l.steps (l.place + 1) (drop l.place l.frame) ≡ l.fn.lines.items ++ pushes_from l.fn.after l.fn.call l.fn.steps 1 l.fn.frame;
}
