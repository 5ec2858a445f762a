use Rattle.std.proofs.Common.{◌≤◌, arith, lit<}
use Rattle.stored_runs.proofs.Bytes.{value_fits}
use Rattle.stored_runs.proofs.memory.Memory.value.Goals as goal

pub overflow_mul-value : goal.overflow_mul-value
overflow_mul-value c =
    let few : c.loop-read.read ≤ 7 = omega arith in
    omega (arith, value_fits c.loop-read.value c.loop-read.read 255 c.loop-read.invariant.small few (lit< tt))

pub overflow_add-value : goal.overflow_add-value
overflow_add-value c =
    let few : c.loop-read.read ≤ 7 = omega arith in
    omega (arith, value_fits c.loop-read.value c.loop-read.read 255 c.loop-read.invariant.small few (lit< tt))
