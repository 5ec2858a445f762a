-- One byte more is in the sum.
use Rattle.std.proofs.Common.{◌∙◌, ℕ, Option, ap, arith}
use Rattle.std.specs.Option.{unwrap_or}
use Rattle.vest_runs.proofs.Summing.{bytes_more, no_bytes}
use Rattle.vest_runs.proofs.generated.memory_sum.Goals as goal

pub loop-place-init : goal.loop-place-init
loop-place-init c = record { sum = no_bytes c.args.memory.now.set_up c.args.memory.now.history 4096; small = omega arith }

pub loop-place-preserved : goal.loop-place-preserved
loop-place-preserved c = record {
  sum = bytes_more c.args.memory.now.set_up c.args.memory.now.history 4096 c.loop-place.place _ _ c.loop-place.invariant.sum
      (c.from-sum.ensures ∙ c.unwrap_or.ensures ∙ ap (λ (o : Option ℕ). unwrap_or o 0) c.byte.ensures);
  small = omega arith;
}
