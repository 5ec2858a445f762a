-- What contracts see of a block.
use Rattle.std.specs.Prelude.{ℕ, List}
use Rattle.alpha_encode.specs.declared.instr.AlphaInstr.{AlphaInstr}
use Rattle.exception_records.specs.Points.{Entry}

-- words, exits as words with the VAX addresses to which they go, and points by their words
pub record BlockValue : Type 0 where
  pub words : List AlphaInstr
  pub exits : List (ℕ × ℕ)
  pub points : List Entry
