-- What contracts see of a world whose input is given while it runs.
use Rattle.vest_core.specs.LiveWorlds.{IsMannedLive, LiveWorldValue}
use Rattle.vest_core.specs.declared.live.LiveWorld.TheInside.{Inside}

abbrev pub live_world_of : Inside → LiveWorldValue
live_world_of w = record { memory = w.memory; processor = w.processor; budget = w.budget }

abbrev pub IsKeptLive : Inside → Type 0
IsKeptLive w = IsMannedLive (live_world_of w)
