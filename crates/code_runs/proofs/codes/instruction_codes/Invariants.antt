use Rattle.std.proofs.Common.{◌≡◌, ◌<◌, ℕ, length, get_or}
use Rattle.code_runs.specs.Codes.{codes_at, no_codes}
use Rattle.code_runs.proofs.codes.instruction_codes.Given as goal

abbrev pub invariant-loop-place : goal.invariant-loop-place
invariant-loop-place l =
    (length l.codes.items ≡ l.place)
    × ((place : ℕ) → place < l.place → get_or l.codes.items place no_codes ≡ codes_at l.instrs place)
