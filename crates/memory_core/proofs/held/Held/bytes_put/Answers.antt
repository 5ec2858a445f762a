use Rattle.std.proofs.Common.{arith, ap, length}
use Rattle.std.proofs.lemmas.List.{length-drop}
use Rattle.memory_core.specs.Contents.{output_of}
use Rattle.memory_core.proofs.Limits.{puts_counted}
use Rattle.memory_core.proofs.held.Held.bytes_put.Goals as goal

pub overflow_add-result : goal.overflow_add-result
overflow_add-result c =
    let m = c.self.inside in
    let i = c.self.invariant in
    omega (arith, c.len.ensures, m.output.ok.0, ap length i.output, length-drop m.sent (output_of m.history.entries), i.sent, puts_counted m.limit m.history.entries, i.within, i.word)
