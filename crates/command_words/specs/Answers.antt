-- An answer beside what the words spell.
use Rattle.std.specs.Prelude.{◌≡◌, Option, Some, None, Result, MatchResult, option_map}
use Rattle.command_words.specs.Commands.{CommandValue, LiveOptionsValue, OptionsValue, generate, list, live, replay, run, translate}
use Rattle.command_words.specs.declared.commands.LiveOptions.{LiveOptions}
use Rattle.command_words.specs.declared.commands.RunOptions.{RunOptions}
use Rattle.command_words.specs.declared.commands.Command.{Command}
use Rattle.command_words.specs.declared.commands.Command.TheVariants as command
use Rattle.command_words.specs.declared.WordsFault.{WordsFault}
use Rattle.command_words.specs.declared.WordsFault.TheVariants.{Usage}

abbrev pub options_value : RunOptions → OptionsValue
options_value options = record { limits = options.limits; ranges = options.ranges.items; target = options.target; order = option_map (λ s. s.now) options.order }

abbrev pub live_options_value : LiveOptions → LiveOptionsValue
live_options_value options = record { budget = options.budget; miss = options.miss; ranges = options.ranges.items; target = options.target; progress = options.progress }

-- the command with its names as texts
abbrev pub command_value : Command → CommandValue
command_value (command.Run name options) = run name.now (options_value options)
command_value (command.Live name options) = live name.now (live_options_value options)
command_value (command.Translate image out target hints) = translate image.now out.now target (option_map (λ s. s.now) hints)
command_value (command.List name) = list name.now
command_value (command.Generate number) = generate number
command_value (command.Replay name file hints) = replay name.now file.now (option_map (λ s. s.now) hints)

-- the answer is the command where there is one, and else none
abbrev pub Reads : Option CommandValue → Option Command → Type 0
Reads spelled None = spelled ≡ None
Reads spelled (Some c) = spelled ≡ Some (command_value c)

-- a command comes only where it is spelled, and usage only where none is
abbrev pub AnswersTo : Option CommandValue → Result Command WordsFault → Type 0
AnswersTo spelled result = MatchResult result (λ c. spelled ≡ Some (command_value c))
    (λ e. e ≡ Usage → spelled ≡ None)
