use Rattle.std.proofs.Common.{◌≡◌, refl, List, [], None, Some}
use Rattle.clap.specs.Words.{found_of}
use Rattle.command_words.specs.Parts.{Text, names_in}
use Rattle.command_words.proofs.Getters.{names_given, no_names, not_two, both_names, some_names, texts}
use Rattle.command_words.proofs.values.two_names.Goals as goal

pub returns-in_err-names : goal.returns-in_err-names
returns-in_err-names c = λ parts holds.
    let none : names_in parts ≡ [] = no_names (names_in parts) (names_given (found_of c.args.matches.now) parts None c.in_err-names.ensures holds) in
    rw (c.from_residual.ensures, none) refl

pub returns-then-names-eq2 : goal.returns-then-names-eq2
returns-then-names-eq2 c = λ parts holds.
    let xs : List Text = texts c.in_ok-names.names.now in
    both_names c.in_ok-names.names.now (names_in parts) _ c.if-names-eq2.true
    (some_names xs (names_in parts) (names_given (found_of c.args.matches.now) parts (Some xs) c.in_ok-names.ensures holds))

pub returns-else-names-eq2 : goal.returns-else-names-eq2
returns-else-names-eq2 c = λ parts holds.
    let xs : List Text = texts c.in_ok-names.names.now in
    not_two c.in_ok-names.names.now (names_in parts) c.if-names-eq2.false
    (some_names xs (names_in parts) (names_given (found_of c.args.matches.now) parts (Some xs) c.in_ok-names.ensures holds))
