-- What one look at a word tells.
use Rattle.std.proofs.Common.{◌≡◌, ◌+◌, ◌<◌, ◌≤◌, ℕ, List, length, get_or, None, sym, ap, subst}
use Rattle.alpha_meaning.specs.State.{Alpha, at_place, regs_of}
use Rattle.block_law.specs.Translations.{Code}
use Rattle.prepared_code.specs.Flats.{AreFlat, IsFlat, IsItsWay, effect}
use Rattle.prepared_code.specs.Inside.{step_in}
use Rattle.prepared_code.specs.Known.{AreKnown, flat_at, most_straight, straight_words}
use Rattle.prepared_code.specs.Strides.{one_of, steps_next, tells_landing}
use Rattle.prepared_code.specs.declared.flat.Flat.{Flat}
use Rattle.prepared_code.specs.declared.flat.Way.{Way}
use Rattle.prepared_code.specs.declared.flat.Way.TheVariants.{Ends, Lands, Stops}
use Rattle.prepared_code.proofs.Flats.{comes_outside, flat_there, lands_outside}
use Rattle.prepared_code.proofs.Strides.{number_there, other_steps, tells_there}

-- the flat word there, and what is known of it
pub record Looks (code : Code) (flats : List Flat) (place : ℕ) (f : Flat) : Type 0 where
  pub flat : IsFlat code flats place f
  pub number : f.number ≡ straight_words code place most_straight
  pub tells : tells_landing (flat_at code place).way ≡ tells_landing f.way

pub looks : {code : Code} {flats : List Flat} {place : ℕ} {f : Flat} → AreKnown code flats → AreFlat code flats → (place < length flats) × ((d : Flat) → f ≡ get_or flats place d) → Looks code flats place f
looks {code = code} {flats = flats} {place = place} {f = f} known are found = record {
  flat = flat_there code flats place f are found.0 (found.1 f);
  number = number_there code flats place f known found.0 (found.1 f);
  tells = tells_there code flats place f known found.0 (found.1 f);
}

pub its_way : {code : Code} {flats : List Flat} {place : ℕ} {f : Flat} (w : Way) → Looks code flats place f → f.way ≡ w → IsItsWay code place f w
its_way {code = code} {place = place} {f = f} w it is = subst (IsItsWay code place f) is it.flat.its_way

-- ---- ways by which no step stays inside the block
pub stop_leaves : {code : Code} {flats : List Flat} {place : ℕ} {f : Flat} (r : List ℕ) → Looks code flats place f → f.way ≡ Stops → step_in code (at_place (regs_of r) place) ≡ None
stop_leaves r it is = (its_way Stops it is).stops r

pub landing_leaves : {code : Code} {flats : List Flat} {place : ℕ} {f : Flat} (r : List ℕ) → Looks code flats place f → f.way ≡ Lands → step_in code (at_place (regs_of r) place) ≡ None
landing_leaves {code = code} {place = place} {f = f} r it is = lands_outside code place f (its_way Lands it is) (regs_of r)

pub end_leaves : {code : Code} {flats : List Flat} {place : ℕ} {f : Flat} (r : List ℕ) → Looks code flats place f → f.way ≡ Ends → step_in code (at_place (regs_of r) place) ≡ None
end_leaves {code = code} {place = place} {f = f} r it is =
    let ends = its_way Ends it is in
    comes_outside code (at_place (regs_of r) place) (at_place (effect f (regs_of r)) (place + 1)) (ends.goes r) ends.begins

-- ---- how many steps a look makes at a word that isn't straight
pub makes : {code : Code} {flats : List Flat} {f : Flat} (c : Alpha) (most steps : ℕ) → Looks code flats c.pc f → f.number ≤ 0 → steps ≡ one_of (step_in code c) → steps ≡ steps_next code c most
makes {code = code} {f = f} c most steps it none one = other_steps code c most f.number steps it.number none one

pub makes_none : {code : Code} {flats : List Flat} {f : Flat} (c : Alpha) (most : ℕ) → Looks code flats c.pc f → f.number ≤ 0 → step_in code c ≡ None → 0 ≡ steps_next code c most
makes_none c most it none stop = makes c most 0 it none (sym (ap one_of stop))
