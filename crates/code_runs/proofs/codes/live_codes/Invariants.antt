use Rattle.std.proofs.Common.{◌≡◌, ◌<◌, ◌≤◌, ℕ, length, get_or}
use Rattle.vax_form.specs.Codes.{none}
use Rattle.code_runs.specs.Codes.{live_at}
use Rattle.code_runs.proofs.codes.live_codes.Given as goal

abbrev pub invariant-loop-place : goal.invariant-loop-place
invariant-loop-place l =
    (length l.live.items ≡ length l.instrs)
    × ((place : ℕ) → l.place ≤ place → place < length l.instrs → get_or l.live.items place none ≡ live_at l.instrs place)
