use Rattle.std.proofs.Common.{◌∙◌}
use Rattle.command_words.proofs.Readings.{number_read}
use Rattle.command_words.proofs.numbers.number_in.Goals as goal

pub returns : goal.returns
returns c = c.ok.ensures.value ∙ number_read c.args.text.now c.parse.result c.parse.ensures.value.0
