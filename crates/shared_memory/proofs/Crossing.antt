-- A memory may be shared by threads.
use denote.Param.Send.{IsSend, IsSync, sendable}
use Rattle.std.proofs.Crossing.{crosses, send, sync, frees}
use Rattle.atomic_table.proofs.owned.Table.TheSendSync as Table
use Rattle.crossbeam_utils.proofs.sync.event_count.EventCount.TheSendSync as EventCount
use Rattle.memory_core.proofs.entry.Entry.TheSendSync as Entry
use Rattle.memory_core.proofs.reservation.Reservation.TheSendSync as Reservation
use Rattle.memory_core.proofs.told.Told.TheSendSync as Told
use Rattle.memory_core.proofs.told.ToldBytes.TheSendSync as ToldBytes
use Rattle.memory_core.specs.contracts.state.MemState as State
use Rattle.std.specs.contracts.option.Option as Option
use Rattle.shared_memory.specs.contracts.shared.SharedMemory as SharedMemory

pub state_send : IsSend State.the_row
state_send = search (Entry.the_send, Reservation.the_send, Told.the_send, ToldBytes.the_send, sendable, crosses) depth 30

pub slot_send : IsSend (Option.the_row State.the_row)
slot_send = search (state_send, sendable) depth 20

pub memory_sync : IsSync SharedMemory.the_row
memory_sync = search (Table.the_field_sync, EventCount.the_sync, slot_send, send, sync, frees, sendable, crosses) depth 20
