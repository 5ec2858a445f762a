use Rattle.std.proofs.Common.{◌++◌, ◌∷◌, [], sym, ◌∙◌}
use Rattle.image_file.proofs.TableItems.{table_more}
use Rattle.run_files.specs.Reading.{quad}
use Rattle.run_files.proofs.parts.counts_of.Goals as goal

pub loop-thread-preserved : goal.loop-thread-preserved
loop-thread-preserved c =
    c.in_ok-push.ensures.items ∙ (λ i. c.loop-thread.invariant i ++ c.count_at.ensures i ∷ []) ∙ sym (table_more 9 quad c.loop-thread.thread c.args.ends.now)
