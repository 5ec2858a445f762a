-- What a memory holds, as the memories that are made of it see it.
use Rattle.std.specs.Prelude.{ℕ}
use Rattle.memory_core.specs.Contents.{Contents}

-- beside the contents how many bytes of the output were sent on, and how many bytes input and output have room for
pub record Holding : Type 0 where
  pub contents : Contents
  pub sent : ℕ
  pub input_room : ℕ
  pub output_room : ℕ
