use Rattle.std.proofs.Common.{◌<◌, ◌+◌, ◌%◌, ◌^◌, ap, ◌∙◌, arith}
use Rattle.vax_form.specs.References.{with_byte}
use Rattle.stored_runs.specs.Memory.{byte_of}
use Rattle.stored_runs.proofs.Bytes.{store_more}
use Rattle.stored_runs.proofs.memory.Memory.store.Goals as goal

pub loop-place-preserved : goal.loop-place-preserved
loop-place-preserved c =
    let below : c.loop-place.place < c.args.count = omega arith in
    record {
      bytes = c.loop-place.invariant.bytes
          ∙ store_more (byte_of c.loop-place.self) (byte_of c.store_byte.new.self) c.args.address c.args.count c.loop-place.place c.loop-place.rest below
          (c.in_ok-store_byte.ensures.bytes ∙ ap (λ p. with_byte (byte_of c.loop-place.self) ((c.args.address + p) % 2 ^ 32) (c.loop-place.rest % 256)) c.from.ensures);
      taken = c.in_ok-store_byte.ensures.taken ∙ c.loop-place.invariant.taken;
      output = c.in_ok-store_byte.ensures.output ∙ c.loop-place.invariant.output;
    }
