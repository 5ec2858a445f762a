use Rattle.std.proofs.Common.{◌+◌, ◌%◌, ◌^◌, ap, ◌∙◌}
use Rattle.vax_meaning.specs.References.{with_value}
use Rattle.vax_run.specs.Memory.{byte_of}
use Rattle.vax_run.proofs.memory.Memory.add_word.Goals as goal

pub returns-clause-bytes : goal.returns-clause-bytes
returns-clause-bytes c =
    c.in_ok-store.ensures.bytes c.args.image.now
    ∙ ap (with_value (byte_of c.args.image.now c.args.self.now) c.args.address 2) (c.from.ensures ∙ ap (λ w. (w + c.args.value) % 2 ^ 16) c.value-word.ensures.value)
