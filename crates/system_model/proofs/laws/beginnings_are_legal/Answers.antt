use Rattle.system_model.proofs.Turns.{beginnings_are_legal}
use Rattle.system_model.proofs.laws.beginnings_are_legal.Goals as goal

pub returns : goal.returns
returns c = beginnings_are_legal
