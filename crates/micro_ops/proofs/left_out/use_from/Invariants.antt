use Rattle.std.proofs.Common.{◌≡◌, ◌<◌, ◌||◌, ℕ, take}
use Rattle.std.specs.List.{list_any}
use Rattle.micro_ops.specs.LeftOut.{flag_at}
use Rattle.micro_ops.specs.Uses.{is_code}
use Rattle.micro_ops.proofs.left_out.use_from.Given as goal

abbrev pub invariant-loop-temp : goal.invariant-loop-temp
invariant-loop-temp l = (number : ℕ) → number < 256 → flag_at l.used number ≡ (list_any (is_code number) (take l.temp-index l.temp-items) || flag_at l.initial.used number)
