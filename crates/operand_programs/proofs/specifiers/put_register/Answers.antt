-- Where the upper half can't be added, the lower one may stand in the list.
use Rattle.std.proofs.Common.{◌∷◌, [], rules}
use Rattle.operand_programs.proofs.Fronts.{front_of_front}
use Rattle.operand_programs.proofs.specifiers.put_register.Goals as goal

pub returns-in_err-put_upper_half-in-Quad-clause-refused : goal.returns-in_err-put_upper_half-in-Quad-clause-refused
returns-in_err-put_upper_half-in-Quad-clause-refused c =
    let front =
    front_of_front c.args.program.now.items (c.sum_into-in-Quad.result ∷ []) c.push-in-Quad.new.self.items c.put_upper_half.new.program.items c.in_ok-push-in-Quad.ensures.items
    c.in_err-put_upper_half-in-Quad.ensures.refused in
    search rules
