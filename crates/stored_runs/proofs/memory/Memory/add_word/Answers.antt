use Rattle.std.proofs.Common.{◌+◌, ◌%◌, ◌^◌, ap, ◌∙◌}
use Rattle.vax_form.specs.References.{with_value}
use Rattle.stored_runs.specs.Memory.{byte_of}
use Rattle.stored_runs.proofs.memory.Memory.add_word.Goals as goal

pub returns-clause-bytes : goal.returns-clause-bytes
returns-clause-bytes c =
    c.in_ok-store.ensures.bytes
    ∙ ap (with_value (byte_of c.args.self.now) c.args.address 2) (c.from.ensures ∙ ap (λ w. (w + c.args.value) % 2 ^ 16) c.value-word.ensures.value)
