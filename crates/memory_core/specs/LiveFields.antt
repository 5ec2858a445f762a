-- What the fields of a live memory are.
use Rattle.std.specs.Prelude.{◌≡◌, ◌≤◌}
use Rattle.memory_core.specs.declared.live.LiveState.TheInside.{Inside}
use Rattle.memory_core.specs.Live.{LiveContents, room_behind}

abbrev pub live_of : Inside → LiveContents
live_of m = record { contents = m.held.contents; buffer = m.buffer; sent = m.held.sent }

pub record IsLive (m : Inside) : Type 0 where
  pub limit : m.held.contents.set_up.limit ≡ room_behind m.buffer m.held.sent
  pub input_room : 1 ≤ m.held.input_room
  pub output_room : m.buffer ≤ m.held.output_room
