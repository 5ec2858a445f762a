-- One history is the threads driven by its order. Lists of entries and references are newest first.
use Rattle.std.specs.Prelude.{◌≡◌, ℕ, ◌-◌, ◌%◌, List, Some}
use Rattle.std.specs.Int.{byte_at}
use Rattle.image_file.specs.Memory.{byte_in}
use Rattle.memory_core.specs.declared.entry.Entry.{Entry}
use Rattle.memory_core.specs.declared.entry.SetUp.{SetUp}
use Rattle.memory_core.specs.Contents.{output_of}
use Rattle.memory_core.specs.Order.{own, left_by, gets, Meets}
use Rattle.vax_form.specs.References.{AreBytes}
use Rattle.vax_form.specs.Made.{Made, bytes_after, output_after, gets_after, replies_to}
use Rattle.vax_driven.specs.Threads.{Threads}
use Rattle.vax_driven.specs.Driven.{World, walk}
use Rattle.system_model.specs.Counted.{order}
use Rattle.system_model.specs.Quadwords.{quad_at}
use Rattle.legal_history.specs.Explained.{replies_by, Explained}
use Rattle.system_model.specs.Matches.{Matches, KeepNeighbours}

-- the bytes that a set-up's image has
abbrev pub image_bytes : SetUp → ℕ → ℕ
image_bytes set_up = byte_in set_up.image

-- the threads, with the bytes and the input of a set-up
abbrev pub world_of : Threads → SetUp → World
world_of threads set_up = record { threads = threads; byte = image_bytes set_up; input = set_up.input }

-- the threads driven by the order of the entries have their memory, output, input and replies
pub record IsDriven (threads : Threads) (set_up : SetUp) (entries : List Entry) : Type 0 where
  pub made : List Made
  pub walked : walk (world_of threads set_up) (order entries) ≡ Some made
  pub bytes : AreBytes (bytes_after (image_bytes set_up) made)
  pub quads : (quad : ℕ) → quad % 8 ≡ 0 → quad_at (bytes_after (image_bytes set_up) made) quad ≡ left_by set_up entries quad
  pub memory : (at : ℕ) → bytes_after (image_bytes set_up) made at ≡ byte_at (at % 8) (left_by set_up entries (at - at % 8))
  pub output : output_after made ≡ output_of entries
  pub gets : gets_after made ≡ gets entries
  pub replies : (thread : ℕ) → replies_to thread made ≡ replies_by threads thread (own thread entries)
  pub matches : Matches (image_bytes set_up) entries made
  pub neighbours : KeepNeighbours entries made

-- for threads of any meaning: where entries meet the memory order, and those of each thread are what the thread wants,
-- they are the threads driven by their order
abbrev pub OneHistory : Type 0
OneHistory = (threads : Threads) (set_up : SetUp) (entries : List Entry) → AreBytes (image_bytes set_up)
    → Meets set_up entries → ((thread : ℕ) → Explained threads thread (own thread entries)) → IsDriven threads set_up entries
