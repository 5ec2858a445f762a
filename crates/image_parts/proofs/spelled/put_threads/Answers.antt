use Rattle.image_file.specs.Spelling.{start_bytes}
use Rattle.image_file.specs.Whole.{StartFits}
use Rattle.image_parts.proofs.Appending.{appended_more, all_more}
use Rattle.image_parts.proofs.spelled.put_threads.Goals as goal

pub loop-start-preserved : goal.loop-start-preserved
loop-start-preserved c =
    let threads = c.args.threads.now in
    let k = c.loop-start.start-index in
    record {
      bytes = appended_more (start_bytes c.args.version) c.args.out.now.items c.loop-start.out.items c.put_start.new.out.items threads k _ c.loop-start-test.true c.loop-start.invariant.bytes c.in_ok-put_start.ensures.bytes;
      fit = all_more StartFits threads k _ c.loop-start-test.true c.loop-start.invariant.fit c.in_ok-put_start.ensures.fit;
    }
