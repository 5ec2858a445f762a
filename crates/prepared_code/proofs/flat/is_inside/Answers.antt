-- The number of a word that is ready.
use Rattle.prepared_code.proofs.Known.{inside_nowhere, inside_there}
use Rattle.prepared_code.proofs.flat.is_inside.Goals as goal

pub returns-in-Some : goal.returns-in-Some
returns-in-Some c = λ code are.
    let found = c.in-Some.ensures.lookup.3 in
    inside_there c.args.ready.now c.args.word c.in-Some.there.now found.0 (found.1 c.in-Some.there.now) code are

pub returns-in-None : goal.returns-in-None
returns-in-None c = λ code are. inside_nowhere c.args.ready.now c.args.word c.in-None.ensures.lookup.3 code are
