use Rattle.std.proofs.Common.{◌≡◌, ◌∙◌, ◌==◌, ◌++◌, ℕ, ap, arith, length, length-append, reverse}
use Rattle.memory_core.specs.Held.{Holding}
use Rattle.memory_core.specs.Live.{wants_input}
use Rattle.memory_core.specs.Order.{gets}
use Rattle.memory_core.proofs.Counting.{all_taken}
use Rattle.memory_core.proofs.held.Held.wants_input.Goals as goal

pub returns : goal.returns
returns c =
    let m = c.self.inside in
    let count : c.len.result ≡ length m.input.items = omega (arith, c.len.ensures, m.input.ok.0) in
    ap (λ (n : ℕ). m.taken == n) count
    ∙ all_taken (length m.behind.bytes) (length m.input.items) (length (m.behind.bytes ++ m.input.items)) (gets (reverse m.history.entries)) m.taken
    (length-append m.behind.bytes m.input.items) c.self.invariant.taken
    ∙ ap (λ (v : Holding). wants_input v.contents) c.self.view_is
