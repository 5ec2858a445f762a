use Rattle.std.proofs.Common.{◌<◌, ◌+◌, ◌%◌, ◌^◌, ap, ◌∙◌, arith}
use Rattle.vax_meaning.specs.References.{with_byte}
use Rattle.vax_run.specs.Memory.{byte_of}
use Rattle.vax_run.proofs.Bytes.{store_more}
use Rattle.vax_run.proofs.memory.Memory.store.Goals as goal

pub loop-place-preserved : goal.loop-place-preserved
loop-place-preserved c =
    let below : c.loop-place.place < c.args.count = omega arith in
    record {
      bytes = λ image. c.loop-place.invariant.bytes image
          ∙ store_more (byte_of image c.loop-place.self) (byte_of image c.store_byte.new.self) c.args.address c.args.count c.loop-place.place c.loop-place.rest below
          (c.in_ok-store_byte.ensures.bytes image ∙ ap (λ p. with_byte (byte_of image c.loop-place.self) ((c.args.address + p) % 2 ^ 32) (c.loop-place.rest % 256)) c.from.ensures);
      gets = c.in_ok-store_byte.ensures.gets ∙ c.loop-place.invariant.gets;
      output = c.in_ok-store_byte.ensures.output ∙ c.loop-place.invariant.output;
    }
