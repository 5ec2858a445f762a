-- What a source of bytes tells.
use Rattle.std.specs.Prelude.{ℕ, List, Option}
use Rattle.vt_outside.specs.declared.source.Got.{Got}
use Rattle.vt_outside.specs.declared.source.Got.TheVariants.{Bytes, End, Failed}

-- the bytes that are left, where the source tells them, and how often it failed
pub record SourceMeaning : Type 0 where
  pub left : Option (List ℕ)
  pub faults : ℕ

-- where the answer of `read` is bytes, their number has the property
abbrev pub IfGot : Got → (ℕ → Type 0) → Type 0
IfGot (Bytes count) property = property count
IfGot End property = Unit {0}
IfGot Failed property = Unit {0}
