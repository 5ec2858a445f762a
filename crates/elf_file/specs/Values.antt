-- Programs as numbers and lists.
use Rattle.std.specs.Prelude.{ℕ, Bool, List}

-- a loaded segment: where it stands in memory, how many bytes it has there, and the first of them, which the file stores
pub record SegmentValue : Type 0 where
  pub address : ℕ
  pub size : ℕ
  pub writable : Bool
  pub stored : List ℕ

-- the address at which the program begins, and its loaded segments
pub record ProgramValue : Type 0 where
  pub entry : ℕ
  pub segments : List SegmentValue
