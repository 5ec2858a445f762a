-- Where the result can't be stored, its address may stand in the list.
use Rattle.std.proofs.Common.{◌∷◌, [], rules}
use Rattle.operand_programs.proofs.Fronts.{front_of_front}
use Rattle.operand_programs.proofs.results.put_below.Goals as goal

pub returns-in_err-put_store-clause-refused : goal.returns-in_err-put_store-clause-refused
returns-in_err-put_store-clause-refused c =
    let front =
    front_of_front c.args.program.now.items (c.sum_into.result ∷ []) c.push.new.self.items c.put_store.new.program.items c.in_ok-push.ensures.items
    c.in_err-put_store.ensures.refused in
    search rules
