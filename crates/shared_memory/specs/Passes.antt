-- Passes of one memory.
use Rattle.std.specs.Prelude.{◌≡◌, ℕ, List, []}
use Rattle.memory_core.specs.declared.entry.Entry.{Entry}
use Rattle.memory_core.specs.declared.entry.SetUp.{SetUp}
use Rattle.memory_core.specs.Contents.{Contents}
use Rattle.shared_memory.specs.declared.view.View.{View}
use Rattle.shared_memory.specs.declared.view.Ended.{Ended}
use Rattle.shared_memory.specs.declared.pass.Pass.{Pass}
use Rattle.shared_memory.specs.declared.shared.SharedMemory.{SharedMemory}
use Rattle.shared_memory.specs.Views.{IsPass, IsKeeper}

-- the memory as it was handed in
abbrev pub start_of : SharedMemory → Contents
start_of memory = memory.table.shared.key.value

abbrev pub set_up_of : SharedMemory → SetUp
set_up_of memory = (start_of memory).set_up

abbrev pub processors_of : SharedMemory → ℕ
processors_of memory = (start_of memory).processors

abbrev pub view_of : Pass → View
view_of pass = pass.seat.me.0

abbrev pub number_of : Pass → ℕ
number_of pass = (view_of pass).number

-- the beginning of the history that the pass has seen
abbrev pub seen_of : Pass → List Entry
seen_of pass = (view_of pass).seen

-- the entries of its processor
abbrev pub own_of : Pass → List Entry
own_of pass = (view_of pass).own

-- of the keeper: the numbers that it has given, and the passes that were joined
abbrev pub given_of : Pass → List ℕ
given_of pass = (view_of pass).given

abbrev pub ended_of : Pass → List Ended
ended_of pass = (view_of pass).ended

-- the pass of a processor, of this memory
pub record IsPassOf (memory : SharedMemory) (number : ℕ) (pass : Pass) : Type 0 where
  pub table : pass.seat.table_id ≡ memory.table.shared.table_id
  pub is : IsPass (start_of memory) number (view_of pass)

pub record IsKeeperOf (memory : SharedMemory) (pass : Pass) : Type 0 where
  pub table : pass.seat.table_id ≡ memory.table.shared.table_id
  pub is : IsKeeper (start_of memory) (view_of pass)

-- a keeper that has given nothing and seen nothing
pub record IsNew (pass : Pass) : Type 0 where
  pub given : given_of pass ≡ []
  pub ended : ended_of pass ≡ []
  pub seen : seen_of pass ≡ []
