use Rattle.std.proofs.Common.{sym, subst}
use Rattle.byte_sequences.specs.Promises.{LockedPlan}
use Rattle.byte_sequences.proofs.LockLaws.{locks}
use Rattle.byte_sequences.proofs.locked.locked_words.Goals as goal

pub returns-clause-locks : goal.returns-clause-locks
returns-clause-locks c =
    let a = c.args in
    subst (LockedPlan a.kind a.place a.from a.to) (sym c.in_ok-locked_code.ensures)
    (locks a.kind a.place a.from a.to c.requires.place c.requires.from c.requires.to c.requires.place_stays c.requires.from_stays)
