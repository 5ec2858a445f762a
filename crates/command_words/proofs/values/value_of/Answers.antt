use Rattle.std.proofs.Common.{◌∙◌}
use Rattle.clap.specs.Words.{found_of, rows_of}
use Rattle.clap.proofs.WalkLemmas.{first_value-rows}
use Rattle.command_words.proofs.Getters.{first_value_is}
use Rattle.command_words.proofs.values.value_of.Goals as goal

pub returns : goal.returns
returns c = λ parts holds.
    c.get_str.ensures ∙ first_value-rows (found_of c.args.matches.now) c.args.label.now
    ∙ first_value_is parts (rows_of (found_of c.args.matches.now)) c.args.label.now holds c.requires
