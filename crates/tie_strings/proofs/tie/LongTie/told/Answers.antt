-- What is left of a string shows what the instruction wants.
use Rattle.std.proofs.lemmas.Option.{IfSome_then}
use Rattle.tie_strings.proofs.Telling.{told_wants}
use Rattle.tie_strings.proofs.tie.LongTie.told.Goals as goal

pub returns-in-Repeats-clause-wanted : goal.returns-in-Repeats-clause-wanted
returns-in-Repeats-clause-wanted c =
    rw c.in-Repeats.is
    (IfSome_then c.wanted.result c.wanted.ensures.shows
    (λ reference shows. told_wants c.args.pages.now c.in-Repeats.under_way c.args.self.now.before reference (λ before. shows before c.in-Repeats.under_way.state)))
