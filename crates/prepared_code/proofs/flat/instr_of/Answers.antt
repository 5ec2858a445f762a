-- The word is ready.
use Rattle.std.proofs.Common.{sym, arith}
use Rattle.std.proofs.lemmas.Option.{slice_get-get_or}
use Rattle.prepared_code.proofs.flat.instr_of.Goals as goal

pub returns-clause-fetched : goal.returns-clause-fetched
returns-clause-fetched c = λ code are.
    sym (are.each c.args.place _ (omega (arith, c.requires.place, are.counted)) (slice_get-get_or c.args.ready.now c.args.place _ c.requires.place)).instr
