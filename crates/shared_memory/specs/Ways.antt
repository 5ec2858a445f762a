-- A processor's way to the memory: at home it has its pass alone, and away the turn and the memory besides.
use Rattle.std.specs.Prelude.{◌≡◌, ℕ, ◌<◌, true, List, [], ◌++◌, Option, Some, None}
use Rattle.memory_core.specs.declared.entry.Entry.{Entry}
use Rattle.memory_core.specs.declared.state.MemState.{MemState}
use Rattle.memory_core.specs.Contents.{Contents}
use Rattle.memory_core.specs.Order.{own}
use Rattle.shared_memory.specs.Passes.{start_of}
use Rattle.shared_memory.specs.Rule.{behind, IsLegal}
use Rattle.shared_memory.specs.Steps.{Sat, HasTurn}
use Rattle.shared_memory.specs.Views.{IsPass}
use Rattle.shared_memory.specs.declared.shared.SharedMemory.{SharedMemory}
use Rattle.shared_memory.specs.declared.way.Way.{Way}

-- a pass that has not the turn, and whose own list has its processor's entries
pub record IsHome (start : Contents) (number : ℕ) (m : Sat) : Type 0 where
  pub pass : IsPass start number m.0
  pub slots : m.1 ≡ []
  pub mine : own m.0.number m.0.seen ≡ m.0.own

-- a pass that has the turn, and the memory: its history is the one that was found, and behind it entries of the processor's own alone,
-- which are entered when the memory is given back
pub record IsLease (start : Contents) (number : ℕ) (m : Sat) (state : Contents) : Type 0 where
  pub about : m.0.start ≡ start
  pub lives : m.0.lives ≡ true
  pub number_is : m.0.number ≡ number
  pub within : number < start.processors
  pub turn : HasTurn m
  pub news : List Entry
  pub its : own number news ≡ news
  pub is : state ≡ behind start (m.0.found ++ news)
  pub legal : IsLegal start.set_up state.history

abbrev pub IsWay : Contents → ℕ → Sat → Option MemState → Type 0
IsWay start number m None = IsHome start number m
IsWay start number m (Some state) = IsLease start number m state

-- what is seen of the history: with the memory, all of it
abbrev pub seen_with : Sat → Option MemState → List Entry
seen_with m None = m.0.seen
seen_with m (Some state) = state.history

abbrev pub seen_by : Way → List Entry
seen_by way = seen_with way.seat.me way.whole

abbrev pub number_by : Way → ℕ
number_by way = way.seat.me.0.number

-- the way of a processor, to this memory
pub record IsWayOf (memory : SharedMemory) (number : ℕ) (way : Way) : Type 0 where
  pub table : way.seat.table_id ≡ memory.table.shared.table_id
  pub is : IsWay (start_of memory) number way.seat.me way.whole

-- entries of other processors alone have come
pub record HasCome (number : ℕ) (old new : List Entry) : Type 0 where
  pub between : List Entry
  pub others : own number between ≡ []
  pub seen : new ≡ old ++ between
