-- The command line as it is made for clap, and what clap's matches hold of the parts of the words.
use Rattle.std.specs.Prelude.{◌≡◌, ◌++◌, true, false, List, [], ◌∷◌, Option, Some, None}
use Rattle.std.specs.Prelude.{codes, unwrap_or, MatchOption}
use Rattle.std.specs.Str.{bytes_eq}
use Rattle.clap.specs.Words.{App, Row, Rule, all_of, new_app, new_rule}
use Rattle.clap.specs.Words.{subcommand_rows_of, with_rule, with_subcommand}
use Rattle.clap.specs.Simple.{on_top}
use Rattle.clap.specs.declared.builder.action.ArgAction.TheVariants.{Append, Set}
use Rattle.clap.specs.declared.parser.matches.ArgMatches.{ArgMatches}
use Rattle.command_words.specs.Parts.{Part, Text, names_in, values_in}
use Rattle.command_words.specs.Forms.{Form, line_of}
use Rattle.command_words.specs.Commands.{forms}

-- all names of a command have one id
abbrev pub names_id : Text
names_id = codes "names"

-- the positional that takes all names
abbrev pub names_arg : Rule
names_arg = record (new_rule names_id) { action = Some Append }

-- an option that stands at most once
abbrev pub option_arg : Text → Rule
option_arg label = record (new_rule label) { long = Some label }

-- an option that may stand again
abbrev pub repeated_arg : Text → Rule
repeated_arg label = record (option_arg label) { action = Some Append }

-- an option without a value: its use stands for the empty text
abbrev pub flag_arg : Text → Rule
flag_arg label = record (option_arg label) {
  action = Some Set;
  range = Some (record { start_inclusive = 0; end_inclusive = 0 });
  missing = [] ∷ [];
}

-- a command without options
abbrev pub plain_app : Text → App
plain_app title = with_rule (new_app title) names_arg

-- `run` with the limits
abbrev pub limited_app : App
limited_app = with_rule (with_rule (with_rule (plain_app (codes "run"))
    (option_arg (codes "budget"))) (option_arg (codes "events"))) (option_arg (codes "miss"))

-- and with what keeps no history
abbrev pub unkept_app : App
unkept_app = with_rule limited_app (flag_arg (codes "unkept"))

-- and with what is talked with
abbrev pub live_app : App
live_app = with_rule unkept_app (flag_arg (codes "live"))

-- and with how often it tells how far it has come
abbrev pub progress_app : App
progress_app = with_rule live_app (option_arg (codes "progress"))

-- and with the target
abbrev pub targeted_app : App
targeted_app = with_rule progress_app (option_arg (codes "target"))

-- and with the file of its order
abbrev pub ordered_app : App
ordered_app = with_rule targeted_app (option_arg (codes "order"))

-- `run` with all its options
abbrev pub run_app : App
run_app = with_rule ordered_app (repeated_arg (codes "interpret"))

-- `translate` with its options
abbrev pub translate_app : App
translate_app = with_rule (with_rule (plain_app (codes "translate")) (option_arg (codes "target"))) (option_arg (codes "hints"))

-- `replay` with its option
abbrev pub replay_app : App
replay_app = with_rule (plain_app (codes "replay")) (option_arg (codes "hints"))

-- a command is wanted first, and nothing is told of help
abbrev pub top_app : App
top_app = on_top (λ s. record s {
  no_binary_name = true;
  disable_help_flag = true;
  disable_help_subcommand = true;
  subcommand_required = true;
}) (new_app (codes "vest"))

-- all commands
abbrev pub vest_app : App
vest_app = with_subcommand (with_subcommand (with_subcommand (with_subcommand
    (with_subcommand top_app run_app.top) translate_app.top)
    (plain_app (codes "list")).top) (plain_app (codes "generate")).top) replay_app.top

-- some values, or none
abbrev pub joined : Option (List Text) → List Text → Option (List Text)
joined o [] = o
joined o (v ∷ vs) = Some (unwrap_or o [] ++ v ∷ vs)

-- the rows hold the names and the values of the parts
pub record HoldsParts (parts : List Part) (rows : List Row) : Type 0 where
  pub names : all_of names_id rows ≡ joined None (names_in parts)
  pub values : (n : Text) → bytes_eq names_id n ≡ false → all_of n rows ≡ joined None (values_in n parts)

-- the command of the matches, and its rows, are those of the line that the words spell
abbrev pub FitsLine : List Text → Text × List Row → Type 0
FitsLine words p = (form : Form) × (parts : List Part) × (line_of forms words ≡ Some (form, parts))
    × (form.title ≡ p.0) × HoldsParts parts p.1

-- the matches are those of the line that the words spell, or name no command, as the words don't
abbrev pub MatchesLine : List Text → ArgMatches → Type 0
MatchesLine words m =
    MatchOption (subcommand_rows_of m) (line_of forms words ≡ None) (FitsLine words)
