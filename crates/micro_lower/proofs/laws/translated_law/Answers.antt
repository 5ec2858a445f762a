-- What has a program is just what is translated.
use Rattle.micro_lower.proofs.Instructions.{programs_are_translated}
use Rattle.micro_lower.proofs.laws.translated_law.Goals as goal

pub returns : goal.returns
returns c = programs_are_translated
