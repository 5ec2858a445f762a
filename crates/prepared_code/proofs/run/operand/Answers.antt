-- One of the two reads 0.
use Rattle.std.proofs.Common.{◌<◌, ◌^◌, rules}
use Rattle.prepared_code.proofs.Flats.{second_is}
use Rattle.prepared_code.proofs.run.operand.Goals as goal

pub returns : goal.returns
returns c =
    let fits : c.register.result < 2 ^ 64 = search (rules) in
    let few : c.args.flat.now.literal < 2 ^ 64 = search (rules) in
    second_is c.args.flat.now c.args.cpu.now.r c.register.result c.register.ensures fits few c.requires.form.registers.second
