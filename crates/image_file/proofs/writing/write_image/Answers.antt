use Rattle.std.proofs.Common.{ap, ◌∙◌, rules}
use Rattle.image_file.specs.Spelling.{spelling}
use Rattle.image_file.specs.Reading.{image_of}
use Rattle.image_file.proofs.AgainLaws.{read_again}
use Rattle.image_file.proofs.writing.write_image.Goals as goal

pub returns-clause-spelled : goal.returns-clause-spelled
unfolding spelling
returns-clause-spelled c = search rules

pub returns-clause-read_again : goal.returns-clause-read_again
returns-clause-read_again c = ap image_of (returns-clause-spelled c) ∙ read_again c.args.image.now c.requires
