use Rattle.std.proofs.Common.{◌≡◌, refl, codes, List, [], None, Some}
use Rattle.clap.specs.Words.{found_of}
use Rattle.command_words.specs.Parts.{Text, values_in}
use Rattle.command_words.proofs.Getters.{no_names, some_names, texts, values_given}
use Rattle.command_words.proofs.commands.ranges_of.Goals as goal

pub returns-in-Some : goal.returns-in-Some
returns-in-Some c = λ parts holds.
    let xs : List Text = texts c.in-Some.texts.now in
    let same : values_in (codes "interpret") parts ≡ xs = some_names xs _ (values_given (found_of c.args.matches.now) parts (codes "interpret") (Some xs) refl c.in-Some.ensures holds) in
    rw same c.few_ranges.ensures

pub returns-in-None : goal.returns-in-None
returns-in-None c = λ parts holds.
    let none : values_in (codes "interpret") parts ≡ [] = no_names _ (values_given (found_of c.args.matches.now) parts (codes "interpret") None refl c.in-None.ensures holds) in
    rw (none, c.new.ensures.items) refl
