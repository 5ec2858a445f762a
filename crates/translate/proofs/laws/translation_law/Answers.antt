use Rattle.translate.proofs.Alone.{is_function}
use Rattle.translate.proofs.laws.translation_law.Goals as goal

pub returns : goal.returns
returns c = is_function
