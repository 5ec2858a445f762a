-- What is known behind an operation of a program that fits.
use Rattle.std.proofs.Common.{◌≡◌, ℕ, refl, List, [], ◌∷◌, Option, Bool, true, false}
use Rattle.std.specs.Prelude.{option_and_then}
use Rattle.micro_ops.specs.declared.codes.CodeSources.{CodeSources}
use Rattle.micro_ops.specs.declared.known.Holding.{Holding}
use Rattle.micro_ops.specs.declared.known.Known.{Known}
use Rattle.micro_ops.specs.declared.program.Micro.{Micro}
use Rattle.micro_ops.specs.Fits.{when_fits, walk, is_ended}
use Rattle.micro_ops.specs.Known.{behind_write, behind_access}
use Rattle.micro_ops.proofs.Held.{rest_kept}

-- ---- the walk
pub walk_fits : (b : Bool) (behind : Known) (on : Known → Option Known) → is_ended (option_and_then on (when_fits b behind)) ≡ true → (b ≡ true) × (is_ended (on behind) ≡ true)
walk_fits true behind on e = (refl, e)
walk_fits false behind on e = absurd (cc e)

-- nothing stands behind `Leave`
pub nothing_behind : (sources : CodeSources) (known : Known) (program : List Micro) → known.ended ≡ true → is_ended (walk sources known program) ≡ true → program ≡ []
nothing_behind sources known [] ended e = refl
nothing_behind sources known (operation ∷ program) ended e = let no : false ≡ true = rw ended at e in absurd (cc no)

-- ---- changes
-- what was changed is so still
pub record SameChanges (known behind : Known) : Type 0 where
  pub changed : behind.changed ≡ known.changed
  pub committed : behind.committed ≡ known.committed
  pub codes : behind.codes ≡ known.codes
  pub psw : behind.psw ≡ known.psw
  pub ended : behind.ended ≡ known.ended

pub write_changes : (temp : ℕ) (holding : Holding) (known : Known) → SameChanges known (behind_write temp holding known)
write_changes temp holding known =
    let rest = rest_kept temp holding known in
    record { changed = rest.changed; committed = rest.committed; codes = rest.codes; psw = rest.psw; ended = rest.ended }

pub access_changes : (known : Known) → SameChanges known (behind_access known)
access_changes known = record { changed = refl; committed = refl; codes = refl; psw = refl; ended = refl }
