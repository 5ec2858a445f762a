-- The finding of an operand stands first in the tree from it on.
use Rattle.std.proofs.Common.{refl}
use Rattle.tie_operands.proofs.Parts.{find_passes}
use Rattle.tie_operands.proofs.specifiers.Specifiers.find.Goals as goal

pub returns-in-None-clause-passes : goal.returns-in-None-clause-passes
returns-in-None-clause-passes c =
    rw c.in-None.is (find_passes c.args.self.now c.args.place c.args.cursor.now c.find.new.cursor _ _ _ c.find.result c.requires refl refl refl c.find.ensures.fed)
