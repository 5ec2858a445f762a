-- What its body wants.
use Rattle.tie_strings.proofs.Returns.{return_told}
use Rattle.tie_strings.proofs.wanting.return_told.Goals as goal

pub returns-clause-wanted : goal.returns-clause-wanted
returns-clause-wanted c =
    return_told c.args.instr.now c.args.before.now c.args.pages.now c.args.replies.now c.longword_wanted.result
    (record { first = c.requires.first; second = c.requires.second; third = c.requires.third; fourth = c.requires.fourth; fifth = c.requires.fifth; sixth = c.requires.sixth })
    c.longword_wanted.ensures.wanted
