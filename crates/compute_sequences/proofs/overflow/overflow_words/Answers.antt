use Rattle.std.proofs.Common.{sym, subst}
use Rattle.compute_sequences.specs.Overflow.{LeavesOverflow}
use Rattle.compute_sequences.proofs.OverflowLaws.{leaves_overflow}
use Rattle.compute_sequences.proofs.overflow.overflow_words.Goals as goal

pub returns-clause-leaves : goal.returns-clause-leaves
returns-clause-leaves c =
    let a = c.args in
    subst (LeavesOverflow a.arithmetic a.width a.x a.y a.to) (sym c.in_ok-overflow_code.ensures)
    (leaves_overflow a.arithmetic a.width a.x a.y a.to c.requires.to c.requires.x c.requires.y c.requires.y_stays)
