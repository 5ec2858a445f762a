-- The command that the words of a call spell.
use Rattle.std.specs.Prelude.{◌≤◌, List, IfSome, Option, String, map}
use Rattle.std.specs.String.{string_bytes}
use Rattle.std.specs.declared.alloc.Global.{Global}
use Rattle.command_words.specs.Commands.{CommandValue, LiveOptionsValue, OptionsValue, forms, generate, list, live, replay, run, spells, translate}
use Rattle.memory_core.specs.Limits.{KeepsEntries}
use Rattle.report_text.specs.declared.images.TheConstants.{MOST_GROUPS}
use Rattle.vest_runs.specs.Keeping.{limit_of}

abbrev pub spelled : List (String Global) → Option CommandValue
spelled words = spells forms (map string_bytes words)

-- a run has the limits that words may give: 10^12 steps of a processor, and 4,194,304 entries or bytes; and it keeps its history where the
-- order of that is stored
pub record AreBounded (options : OptionsValue) : Type 0 where
  pub budget : options.limits.budget ≤ 1000000000000
  pub events : options.limits.events ≤ 4194304
  pub kept : IfSome options.order (λ _. KeepsEntries (limit_of options.limits))

-- a run that is talked with has such a budget
abbrev pub IsBounded : LiveOptionsValue → Type 0
IsBounded options = options.budget ≤ 1000000000000

-- the options of `run` are bounded, and an image can be generated for the number of `generate`
abbrev pub CanBeObeyed : CommandValue → Type 0
CanBeObeyed (run name options) = AreBounded options
CanBeObeyed (live name options) = IsBounded options
CanBeObeyed (translate image to target hints) = Unit {0}
CanBeObeyed (list name) = Unit {0}
CanBeObeyed (generate number) = number ≤ MOST_GROUPS
CanBeObeyed (replay name file hints) = Unit {0}
