-- Why a list of pairs is refused.
use Rattle.std.specs.Prelude.{◌≡◌, ◌<◌, ◌-◌, ◌⊎◌, ℕ, List, Option, Some, None, slice_get, take}
use Rattle.address_map.specs.declared.MapRefusal.{MapRefusal}
use Rattle.address_map.specs.declared.MapRefusal.TheVariants.{Repeated, OutOfOrder, WantOfMemory}
use Rattle.address_map.specs.Pairs.{AllRise, Pair, Rises}

-- one of the two numbers is the same
abbrev pub Shares : Pair → Pair → Type 0
Shares p q = (p.0 ≡ q.0) ⊎ (p.1 ≡ q.1)

-- the first pair that is not above its predecessor is q, at the place, and its predecessor is p
pub record IsFirstFall (pairs : List Pair) (place : ℕ) (p q : Pair) : Type 0 where
  pub behind : 0 < place
  pub predecessor : slice_get pairs (place - 1) ≡ Some p
  pub pair : slice_get pairs place ≡ Some q
  pub rising_before : AllRise (take place pairs)
  pub falls : ¬ Rises p q

-- the pairs have that flaw
abbrev pub HasFlaw : List Pair → MapRefusal → Type 0
HasFlaw pairs (Repeated place) = (p : Pair) × (q : Pair) × IsFirstFall pairs place p q × Shares p q
HasFlaw pairs (OutOfOrder place) = (p : Pair) × (q : Pair) × IsFirstFall pairs place p q × ¬ Shares p q
HasFlaw pairs WantOfMemory = Unit {0}

-- the number of a refusal; want of memory has none
abbrev pub number_of : MapRefusal → Option ℕ
number_of (Repeated place) = Some 1
number_of (OutOfOrder place) = Some 2
number_of WantOfMemory = None
