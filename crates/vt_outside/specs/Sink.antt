-- What a sink of bytes tells.
use Rattle.std.specs.Prelude.{ℕ, List, Option}
use Rattle.vt_outside.specs.declared.sink.Put.{Put}
use Rattle.vt_outside.specs.declared.sink.Put.TheVariants.{Took, Failed}

-- the bytes that were taken, where the sink tells them, and how often it failed
pub record SinkMeaning : Type 0 where
  pub taken : Option (List ℕ)
  pub faults : ℕ

-- where the answer of `write` is a number of bytes taken, it has the property
abbrev pub IfTook : Put → (ℕ → Type 0) → Type 0
IfTook (Took count) property = property count
IfTook Failed property = Unit {0}
