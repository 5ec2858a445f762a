-- The commands, and the one that words spell.
use Rattle.std.specs.Prelude.{◌==◌, ◌&&◌, ◌||◌, not, ℕ, Bool, true, false, List, [], ◌∷◌, Option, Some, None}
use Rattle.std.specs.Prelude.{if◌then◌else◌, codes, is_some, nat_le}
use Rattle.std.specs.Str.{bytes_eq}
use Rattle.command_words.specs.declared.commands.Keeping.{Keeping}
use Rattle.command_words.specs.declared.commands.Keeping.TheVariants.{History, Nothing}
use Rattle.command_words.specs.declared.commands.Limits.{Limits}
use Rattle.command_words.specs.declared.commands.Target.{Target}
use Rattle.command_words.specs.declared.commands.Target.TheVariants.{Original, ByteWord}
use Rattle.command_words.specs.declared.numbers.Range.{Range}
use Rattle.command_words.specs.Parts.{Choice, Part, Text, first_of, names_in, only_name, two_names, values_in}
use Rattle.command_words.specs.Forms.{Form, line_of}
use Rattle.command_words.specs.Numbers.{◌>>=◌, few_ranges, number_in, within}

-- what the options of `run` say; the order of its references goes into a file where one is named
pub record OptionsValue : Type 0 where
  pub limits : Limits
  pub ranges : List Range
  pub target : Target
  pub order : Option Text

-- what the options of a live run say
pub record LiveOptionsValue : Type 0 where
  pub budget : ℕ
  pub miss : ℕ
  pub ranges : List Range
  pub target : Target
  -- after how many steps more a line tells how far the thread has come, where lines are told
  pub progress : Option ℕ

-- a command with what is behind it
pub data CommandValue : Type 0 where
  run : (name : Text) → OptionsValue → CommandValue
  live : (name : Text) → LiveOptionsValue → CommandValue
  translate : (image out : Text) → Target → (hints : Option Text) → CommandValue
  list : (name : Text) → CommandValue
  generate : (number : ℕ) → CommandValue
  replay : (name file : Text) → (hints : Option Text) → CommandValue

-- an option that stands at most once
abbrev pub once : Text → Choice
once label = record { label = label; repeats = false; has_value = true }

-- an option that may stand again
abbrev pub often : Text → Choice
often label = record { label = label; repeats = true; has_value = true }

-- an option without a value, that stands at most once
abbrev pub flag : Text → Choice
flag label = record { label = label; repeats = false; has_value = false }

-- a command without options
abbrev pub plain_form : Text → Form
plain_form title = record { title = title; choices = [] }

-- `run`
abbrev pub run_form : Form
run_form = record {
  title = codes "run";
  choices = once (codes "budget") ∷ once (codes "events") ∷ once (codes "miss") ∷ flag (codes "unkept") ∷ flag (codes "live") ∷ once (codes "progress") ∷ once (codes "target") ∷ once (codes "order") ∷ often (codes "interpret") ∷ [];
}

-- `translate`
abbrev pub translate_form : Form
translate_form = record { title = codes "translate"; choices = once (codes "target") ∷ once (codes "hints") ∷ [] }

-- `replay`
abbrev pub replay_form : Form
replay_form = record { title = codes "replay"; choices = once (codes "hints") ∷ [] }

-- a row for each command
abbrev pub forms : List Form
forms = run_form ∷ translate_form ∷ plain_form (codes "list") ∷ plain_form (codes "generate") ∷ replay_form ∷ []

-- the number that a value writes, or the default where there is none
abbrev pub number_or : ℕ → Option Text → Option ℕ
number_or default None = Some default
number_or default (Some text) = number_in text

-- the number that an option gives by its first value, or its default
abbrev pub number_of : Text → ℕ → List Part → Option ℕ
number_of label default parts = number_or default (first_of (values_in label parts))

-- 0, by which no store conditional misses, or from 2 to 1,000
abbrev pub is_miss : ℕ → Bool
is_miss n = n == 0 || (nat_le 2 n && nat_le n 1000)

-- from 1,000,000 to 10^12
abbrev pub is_progress : ℕ → Bool
is_progress n = nat_le 1000000 n && nat_le n 1000000000000

-- the limits of a run where no option gives others
abbrev pub DEFAULT_LIMITS : Limits
DEFAULT_LIMITS = record { budget = 100000000; keeping = History; events = 4194304; miss = 0 }

-- the option stands among the parts
abbrev pub has_option : Text → List Part → Bool
has_option label parts = is_some (first_of (values_in label parts))

-- what a run keeps, by `--unkept`
abbrev pub keeping_of : List Part → Keeping
keeping_of parts = if has_option (codes "unkept") parts then Nothing else History

-- the most steps of a processor, by `--budget`, up to 10^12
abbrev pub budget_of : List Part → Option ℕ
budget_of parts = within (λ n. nat_le n 1000000000000) (number_of (codes "budget") DEFAULT_LIMITS.budget parts)

-- by which number store conditionals miss, by `--miss`
abbrev pub miss_of : List Part → Option ℕ
miss_of parts = within is_miss (number_of (codes "miss") DEFAULT_LIMITS.miss parts)

-- the number of steps that a value writes, where there is one
abbrev pub progress_by : Option Text → Option (Option ℕ)
progress_by None = Some None
progress_by (Some text) = do
  steps ← within is_progress (number_in text)
  Some (Some steps)

-- after how many steps more a line is told, by `--progress`
abbrev pub progress_of : List Part → Option (Option ℕ)
progress_of parts = progress_by (first_of (values_in (codes "progress") parts))

-- the limits of a run, by `--budget`, by `--unkept`, by `--events`, up to 4,194,304, and by `--miss`
abbrev pub limits_of : List Part → Option Limits
limits_of parts = do
  budget ← budget_of parts
  events ← within (λ n. nat_le n 4194304) (number_of (codes "events") DEFAULT_LIMITS.events parts)
  miss ← miss_of parts
  Some (record { budget = budget; keeping = keeping_of parts; events = events; miss = miss })

-- the target that a value names, in just these letters
abbrev pub target_in : Text → Option Target
target_in text =
    if bytes_eq text (codes "original") then Some Original
    else (if bytes_eq text (codes "byteword") then Some ByteWord else None)

-- that of the value, or the original where there is none
abbrev pub target_or : Option Text → Option Target
target_or None = Some Original
target_or (Some text) = target_in text

-- the target by `--target`
abbrev pub target_of : List Part → Option Target
target_of parts = target_or (first_of (values_in (codes "target") parts))

-- a file for the order of a run's references, where the run keeps them
abbrev pub order_by : Keeping → Option Text → Option (Option Text)
order_by History name = Some name
order_by Nothing None = Some None
order_by Nothing (Some name) = None

-- the options of `run`, with ranges by `--interpret`, and a file by `--order`; `--progress` goes with `--live` alone
abbrev pub options_of : List Part → Option OptionsValue
options_of parts = do
  limits ← limits_of parts
  target ← target_of parts
  order ← order_by limits.keeping (first_of (values_in (codes "order") parts))
  ranges ← few_ranges (values_in (codes "interpret") parts)
  if has_option (codes "progress") parts then None else Some (record { limits = limits; ranges = ranges; target = target; order = order })

-- options that don't go with `--live`
abbrev pub has_none_beside_live : List Part → Bool
has_none_beside_live parts = not (has_option (codes "unkept") parts || has_option (codes "events") parts || has_option (codes "order") parts)

-- the options of `run --live`
abbrev pub live_options_of : List Part → Option LiveOptionsValue
live_options_of parts = do
  budget ← budget_of parts
  miss ← miss_of parts
  target ← target_of parts
  progress ← progress_of parts
  ranges ← few_ranges (values_in (codes "interpret") parts)
  if has_none_beside_live parts then Some (record { budget = budget; miss = miss; ranges = ranges; target = target; progress = progress }) else None

-- `run NAME`
abbrev pub kept_of : List Part → Option CommandValue
kept_of parts = do
  name ← only_name (names_in parts)
  options ← options_of parts
  Some (run name options)

-- `run NAME --live`
abbrev pub live_of : List Part → Option CommandValue
live_of parts = do
  name ← only_name (names_in parts)
  options ← live_options_of parts
  Some (live name options)

-- `run`, by `--live`
abbrev pub run_of : List Part → Option CommandValue
run_of parts = if has_option (codes "live") parts then live_of parts else kept_of parts

-- `translate IMAGE OUT`, with the hints of a file by `--hints`
abbrev pub translate_of : List Part → Option CommandValue
translate_of parts = do
  names ← two_names (names_in parts)
  target ← target_of parts
  Some (translate names.0 names.1 target (first_of (values_in (codes "hints") parts)))

-- `list NAME`
abbrev pub list_of : List Part → Option CommandValue
list_of parts = do
  name ← only_name (names_in parts)
  Some (list name)

-- `generate N`
abbrev pub generate_of : List Part → Option CommandValue
generate_of parts = do
  name ← only_name (names_in parts)
  number ← within (λ n. nat_le 1 n && nat_le n 32000) (number_in name)
  Some (generate number)

-- `replay NAME FILE`, with a file for hints by `--hints`
abbrev pub replay_of : List Part → Option CommandValue
replay_of parts = do
  names ← two_names (names_in parts)
  Some (replay names.0 names.1 (first_of (values_in (codes "hints") parts)))

-- the command with the title, by its names and options
abbrev pub command_of : Form × List Part → Option CommandValue
command_of (form, parts) =
    if bytes_eq form.title (codes "run") then run_of parts
    else (if bytes_eq form.title (codes "translate") then translate_of parts
    else (if bytes_eq form.title (codes "list") then list_of parts
    else (if bytes_eq form.title (codes "generate") then generate_of parts
    else (if bytes_eq form.title (codes "replay") then replay_of parts else None))))

-- the command that the words spell, by the forms of the commands that there are
abbrev pub spells : List Form → List Text → Option CommandValue
spells forms words = do
  line ← line_of forms words
  command_of line
