-- What a call keeps.
use Rattle.std.specs.Prelude.{ℕ, List, [], Option, None, Some}
use Rattle.image_file.specs.Values.{ImageValue}
use Rattle.memory_core.specs.declared.entry.Entry.{Entry}
use Rattle.memory_core.specs.declared.entry.Limit.{Limit}
use Rattle.memory_core.specs.declared.entry.Limit.TheVariants.{Entries}
use Rattle.block_law.specs.Translations.{Code}
use Rattle.system_model.specs.declared.translation.Range.{Range}
use Rattle.tie_switch.specs.Processors.{ProcessorValue}
use Rattle.vest_runs.specs.declared.kept.KeptMemory.{KeptMemory}
use Rattle.vest_runs.specs.declared.kept.KeptMemory.TheVariants.{Plain, Live}

-- the history of a memory, where there is one
abbrev pub history_of : Option KeptMemory → List Entry
history_of None = []
history_of (Some (Plain memory)) = memory.history
history_of (Some (Live memory)) = memory.contents.history

-- the input: what was read before the run, or given while it ran
abbrev pub input_in : (taken : List ℕ) → Option KeptMemory → List ℕ
input_in taken None = taken
input_in taken (Some (Plain memory)) = taken
input_in taken (Some (Live memory)) = memory.contents.set_up.input

-- the limit of what is counted: it rises while a run is talked with
abbrev pub limit_in : Limit → Option KeptMemory → Limit
limit_in limit None = limit
limit_in limit (Some (Plain memory)) = limit
limit_in limit (Some (Live memory)) = memory.contents.set_up.limit

-- the history is oldest first
pub record KeptValue : Type 0 where
  pub image : Option ImageValue
  pub input : List ℕ
  pub history : List Entry
  pub processors : List ProcessorValue
  pub budget : ℕ
  pub limit : Limit
  pub miss : ℕ
  pub translation : Option Code
  pub ranges : List Range

abbrev pub nothing_kept : KeptValue
nothing_kept = record {
  image = None;
  input = [];
  history = [];
  processors = [];
  budget = 0;
  limit = Entries 0;
  miss = 0;
  translation = None;
  ranges = [];
}
