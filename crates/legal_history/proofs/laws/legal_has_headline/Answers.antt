use Rattle.legal_history.proofs.Headlines.{legal_has_headline}
use Rattle.legal_history.proofs.laws.legal_has_headline.Goals as goal

pub returns : goal.returns
returns c = legal_has_headline
