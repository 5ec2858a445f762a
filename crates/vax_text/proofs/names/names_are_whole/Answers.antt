use Rattle.vax_text.proofs.Named.{named}
use Rattle.vax_text.proofs.names.names_are_whole.Goals as goal

pub returns : goal.returns
returns c = named
