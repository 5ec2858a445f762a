use Rattle.image_text.specs.Lines.{thread_line}
use Rattle.image_text.proofs.Appended.{numbered_step}
use Rattle.image_text.proofs.tables.put_threads.Goals as goal

pub loop-number-preserved : goal.loop-number-preserved
loop-number-preserved c =
    numbered_step thread_line c.args.threads.now c.loop-number.number _ c.loop-number.out.items _ _ c.loop-number-test.true c.loop-number.invariant c.in_ok-put_thread.ensures
