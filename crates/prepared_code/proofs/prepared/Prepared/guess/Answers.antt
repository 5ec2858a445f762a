-- The flat word has the guess.
use Rattle.std.proofs.Common.{sym, ap, ◌∙◌, arith}
use Rattle.prepared_code.specs.declared.flat.Flat.{Flat}
use Rattle.prepared_code.proofs.Guesses.{none_guessed}
use Rattle.prepared_code.proofs.Strides.{known_there}
use Rattle.prepared_code.proofs.prepared.Prepared.guess.Goals as goal

pub returns-in-Some : goal.returns-in-Some
returns-in-Some c =
    let found = c.in-Some.ensures.lookup.3 in
    let flat = c.in-Some.flat.now in
    c.from.ensures ∙ ap (λ (f : Flat). f.within) (known_there c.args.self.now.code c.flats.result.now c.args.word flat c.flats.ensures.known found.0 (found.1 flat))

pub returns-in-None : goal.returns-in-None
returns-in-None c = sym (none_guessed c.args.self.now.code c.args.word (omega (arith, c.flats.ensures.known.counted, c.in-None.ensures.lookup.3)))
