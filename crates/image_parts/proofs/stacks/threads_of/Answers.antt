-- The thread that is made is the first of those that are left.
use Rattle.std.proofs.Common.{ℕ, ◌+◌, List, ◌∷◌, ◌++◌, [], ◌∙◌, drop, get_or, sym, append_assoc}
use Rattle.std.proofs.lemmas.List.{at_drop_more}
use Rattle.image_parts.specs.Program.{thread_at, threads_from}
use Rattle.image_parts.proofs.stacks.threads_of.Goals as goal

pub loop-thread-preserved : goal.loop-thread-preserved
loop-thread-preserved c =
    let size = c.args.size in
    let starts = c.args.starts.now in
    let place = c.loop-thread.thread in
    let threads = c.loop-thread.threads.items in
    let rest = threads_from size (place + 1) (drop (place + 1) starts) in
    (λ i. c.in_ok-push.ensures.items i ++ rest)
    ∙ (λ i. (threads ++ c.thread_at.ensures i ∷ []) ++ rest)
    ∙ append_assoc threads (thread_at size place (get_or starts place 0) ∷ []) rest
    ∙ sym (at_drop_more (λ (pcs : List ℕ). threads ++ threads_from size place pcs) starts place 0 c.loop-thread-test.true)
    ∙ c.loop-thread.invariant
