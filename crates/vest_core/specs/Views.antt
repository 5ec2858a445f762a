-- What contracts see of a world.
use Rattle.vest_core.specs.Worlds.{IsManned, WorldValue}
use Rattle.vest_core.specs.declared.world.World.TheInside.{Inside}

abbrev pub world_of : Inside → WorldValue
world_of w = record { memory = w.memory; processors = w.processors.items; budget = w.budget }

abbrev pub IsKept : Inside → Type 0
IsKept w = IsManned (world_of w)
