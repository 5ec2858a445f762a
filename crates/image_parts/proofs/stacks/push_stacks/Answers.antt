use Rattle.std.proofs.Common.{◌++◌, ◌∷◌, [], ◌∙◌, sym, ap, arith, append_assoc}
use Rattle.std.proofs.lemmas.List.FromFn.{map-range_with_len_more}
use Rattle.image_parts.specs.Program.{stack_of, stacks_of}
use Rattle.image_parts.proofs.stacks.push_stacks.Goals as goal

pub loop-thread-preserved : goal.loop-thread-preserved
loop-thread-preserved c =
    let before = c.args.sections.now.items in
    let thread = c.loop-thread.thread in
    let size = c.args.size in
    c.in_ok-push.ensures.items ∙ (λ i. c.loop-thread.invariant i ++ c.stack_of.ensures i ∷ [])
    ∙ append_assoc before (stacks_of size thread) (stack_of size thread ∷ [])
    ∙ ap (λ stacks. before ++ stacks) (sym (map-range_with_len_more (stack_of size) 0 thread thread (omega arith)))
