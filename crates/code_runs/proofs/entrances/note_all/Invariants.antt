use Rattle.std.proofs.Common.{take}
use Rattle.code_runs.specs.Entrances.{AreEntrances}
use Rattle.code_runs.proofs.entrances.note_all.Given as goal

abbrev pub invariant-loop-place : goal.invariant-loop-place
invariant-loop-place l = AreEntrances l.instrs (take l.place l.instrs) l.entrances
