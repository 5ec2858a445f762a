use Rattle.std.proofs.Common.{◌≡◌, ℕ, ◌<◌, Some, get_or, length, sym, ap, ◌∙◌, arith}
use Rattle.std.specs.Prelude.{slice_get}
use Rattle.std.proofs.lemmas.Option.{slice_get-get_or}
use Rattle.image_file.specs.Values.{ImageValue}
use Rattle.run_threads.proofs.Splitting.{new_ready, splits_one}
use Rattle.run_threads.proofs.passes.split_all.Goals as goal

pub loop-number-preserved : goal.loop-number-preserved
loop-number-preserved c =
    let n = c.loop-number.number in
    let split = c.loop-number.invariant.split in
    let start = c.index.result.now in
    let inside : n < length c.args.image.now.threads = omega (arith, c.requires.count, c.loop-number-test.true) in
    let read : start ≡ get_or c.args.image.now.threads n start =
    c.index.ensures ∙ ap (λ (i : ImageValue). get_or i.threads c.from.result start) c.image.view_is
    ∙ ap (λ (place : ℕ). get_or c.args.image.now.threads place start) c.from.ensures in
    let at : slice_get c.args.image.now.threads n ≡ Some start = slice_get-get_or c.args.image.now.threads n start inside ∙ ap Some (sym read) in
    let ready = new_ready c.args.memory.now c.args.image.now c.split-pass.result c.new-processor.result start n c.requires.image at c.new-processor.ensures.stands
    c.split-pass.ensures.pass (c.split-pass.ensures.seen ∙ split.unseen) in
    record {
      split = splits_one c.args.memory.now c.loop-number.keeper c.split-pass.new.keeper c.args.budget c.loop-number.jobs.items c.push_reserved.new.self.items _ n split
          c.split-pass.ensures.keeper c.split-pass.ensures.given c.push_reserved.ensures.items ready c.new-processor.ensures.budget;
      room = omega (arith, c.push_reserved.ensures.capacity, c.loop-number.invariant.room);
    }
