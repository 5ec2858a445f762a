use Rattle.flag_codegen.proofs.Answered.{rules_are_answered}
use Rattle.flag_codegen.proofs.laws.rule_law.Goals as goal

pub returns : goal.returns
returns c = rules_are_answered
