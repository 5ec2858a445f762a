-- Each kind of string shows what it wants.
use Rattle.std.proofs.lemmas.Option.{IfSome_then}
use Rattle.tie_strings.proofs.string.Strings.wanted.Goals as goal

pub returns-in-Moves-clause-shows : goal.returns-in-Moves-clause-shows
returns-in-Moves-clause-shows c = rw c.in-Moves.is (IfSome_then c.wanted.result c.wanted.ensures.shows (λ reference shows before state. shows c.args.pages.now before state))

pub returns-in-Compares-clause-shows : goal.returns-in-Compares-clause-shows
returns-in-Compares-clause-shows c = rw c.in-Compares.is c.wanted-in-Compares.ensures.shows

pub returns-in-Scans-clause-shows : goal.returns-in-Scans-clause-shows
returns-in-Scans-clause-shows c = rw c.in-Scans.is c.wanted-in-Scans.ensures.shows
