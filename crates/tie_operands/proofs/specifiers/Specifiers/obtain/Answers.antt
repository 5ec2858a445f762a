-- An operand that was found stands first in the tree from it on.
use Rattle.std.proofs.Common.{refl}
use Rattle.tie_operands.proofs.Parts.{obtain_passes}
use Rattle.tie_operands.proofs.specifiers.Specifiers.obtain.Goals as goal

pub returns-clause-passes : goal.returns-clause-passes
returns-clause-passes c =
    obtain_passes c.args.self.now c.args.place c.args.location c.args.cursor.now c.obtain.new.cursor _ _ _ c.obtain.result refl refl refl c.obtain.ensures.fed
