-- What a program fits behind: a program that fits behind what is known also fits where more is known, and so it is looked
-- at behind the least that is known.
use Rattle.std.specs.Prelude.{◌≡◌, ℕ, true, List, ◌++◌, length, Some}
use Rattle.micro_ops.specs.Fits.{walk}
use Rattle.micro_ops.specs.Known.{held, is_committed}
use Rattle.micro_ops.specs.declared.codes.CodeSources.{CodeSources}
use Rattle.micro_ops.specs.declared.known.Checked.{Checked}
use Rattle.micro_ops.specs.declared.known.Checked.TheVariants.{Nowhere, At}
use Rattle.micro_ops.specs.declared.known.Holding.{Holding}
use Rattle.micro_ops.specs.declared.known.Holding.TheVariants.{Nothing, Wide, Longword}
use Rattle.micro_ops.specs.declared.known.Known.{Known}
use Rattle.micro_ops.specs.declared.program.Micro.{Micro}

-- a longword is a quadword, and each is something
abbrev pub IsNoMore : Holding → Holding → Type 0
IsNoMore Nothing holding = Unit {0}
IsNoMore Wide Nothing = ⊥
IsNoMore Wide Wide = Unit {0}
IsNoMore Wide Longword = Unit {0}
IsNoMore Longword Nothing = ⊥
IsNoMore Longword Wide = ⊥
IsNoMore Longword Longword = Unit {0}

-- the same check, if any
abbrev pub IsSameCheck : Checked → Checked → Type 0
IsSameCheck Nowhere checked = Unit {0}
IsSameCheck (At place count write) checked = At place count write ≡ checked

-- the temporaries hold as much or more, and no other register was committed
pub record KnowsMore (known more : Known) : Type 0 where
  pub temps : (temp : ℕ) → IsNoMore (held known temp) (held more temp)
  pub high : length known.high ≡ length more.high
  pub checked : IsSameCheck known.checked more.checked
  pub changed : more.changed ≡ true → known.changed ≡ true
  pub committed : (number : ℕ) → is_committed more number ≡ true → is_committed known number ≡ true
  pub registers : length known.committed ≡ length more.committed
  pub codes : known.codes ≡ more.codes
  pub psw : known.psw ≡ more.psw
  pub ended : known.ended ≡ more.ended

-- the program fits wherever that is known, and leaves that known, or more
abbrev pub FitsBetween : CodeSources → (known : Known) → List Micro → (behind : Known) → Type 0
FitsBetween codes known program behind = (more : Known) → KnowsMore known more
    → (behind_more : Known) × (walk codes more program ≡ Some behind_more) × KnowsMore behind behind_more

abbrev pub FitsBehindMore : Type 0
FitsBehindMore = (codes : CodeSources) (program : List Micro) (known behind : Known) → walk codes known program ≡ Some behind → FitsBetween codes known program behind

-- one program behind the other
abbrev pub FitsJoined : Type 0
FitsJoined = (codes : CodeSources) (first second : List Micro) (known between behind : Known)
    → FitsBetween codes known first between → FitsBetween codes between second behind → FitsBetween codes known (first ++ second) behind
