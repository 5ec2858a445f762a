-- Into register 31 goes 0.
use Rattle.std.proofs.Common.{◌∙◌}
use Rattle.alpha_meaning.specs.State.{regs_of}
use Rattle.prepared_code.proofs.Flats.{nothing_is}
use Rattle.prepared_code.proofs.run.operate.Goals as goal

pub write-requires-clause-same : goal.write-requires-clause-same
write-requires-clause-same c = λ r31.
    let flat = c.args.flat.now in
    c.value_of-value.ensures ∙ nothing_is flat c.args.cpu.now.r (regs_of c.args.cpu.now.r flat.c) (c.requires.form.zero r31)
