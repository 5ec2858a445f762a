use Rattle.std.proofs.Common.{◌≡◌, reverse, drop}
use Rattle.cc_liveness.specs.Liveness.{live_codes, wanted_by}
use Rattle.cc_liveness.proofs.liveness.backward.Given as goal

-- what was found and what is wanted are those of the instructions from the i-th on
abbrev pub invariant-loop-i : goal.invariant-loop-i
invariant-loop-i l = (l.found.items ≡ reverse (live_codes (drop l.i l.run))) × (l.behind ≡ wanted_by (drop l.i l.run))
