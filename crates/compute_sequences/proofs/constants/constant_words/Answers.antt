use Rattle.std.proofs.Common.{sym, subst, rules}
use Rattle.std.specs.Prelude.{All}
use Rattle.alpha_encode.specs.Words.{IsEncodable}
use Rattle.compute_sequences.specs.Promises.{LeavesConstant}
use Rattle.compute_sequences.proofs.ConstantLaws.{leaves_constant, constant_encodable}
use Rattle.compute_sequences.proofs.constants.constant_words.Goals as goal

pub returns-clause-leaves : goal.returns-clause-leaves
returns-clause-leaves c =
    let a = c.args in
    subst (LeavesConstant a.value a.size a.to) (sym c.in_ok-constant_code.ensures) (leaves_constant a.value a.size a.to (search rules) c.requires)

pub returns-clause-encodable : goal.returns-clause-encodable
returns-clause-encodable c =
    let a = c.args in
    subst (All IsEncodable) (sym c.in_ok-constant_code.ensures) (constant_encodable a.value a.size a.to c.requires)
