-- Laws of the order of accesses. Lists of entries are newest first but where a history is named.
use Rattle.std.specs.Prelude.{◌≡◌, ℕ, ◌<◌, true, false, List, [], ◌∷◌, ◌++◌, reverse, if◌then◌else◌}
use Rattle.std.specs.Int.{byte_at}
use Rattle.memory_core.specs.declared.entry.Change.{Change}
use Rattle.memory_core.specs.declared.entry.Entry.{Entry}
use Rattle.memory_core.specs.declared.entry.Kind.TheVariants.{LoadLocked, StoreConditional}
use Rattle.memory_core.specs.declared.entry.SetUp.{SetUp}
use Rattle.memory_core.specs.Changes.{IsInRange, changed, touches}
use Rattle.memory_core.specs.Kinds.{writes}
use Rattle.memory_core.specs.Live.{GoesOn}
use Rattle.memory_core.specs.Opening.{opening}
use Rattle.memory_core.specs.Order.{own, stands_on, left_by, Meets}

abbrev pub PairsAgree : Type 0
PairsAgree =
    (set_up : SetUp) (past older : List Entry) (locked conditional : Entry) → Meets set_up (conditional ∷ past)
    → conditional.kind ≡ StoreConditional → conditional.success ≡ true
    → own conditional.processor past ≡ locked ∷ older → locked.kind ≡ LoadLocked → locked.quad ≡ conditional.quad
    → conditional.before ≡ locked.before

abbrev pub BeginningsMeet : Type 0
BeginningsMeet = (set_up : SetUp) (history later : List Entry) → Meets set_up (reverse (history ++ later)) → Meets set_up (reverse history)

abbrev pub MeetsGoOn : Type 0
MeetsGoOn = (old new : SetUp) (entries : List Entry) → GoesOn entries old new → Meets old entries → Meets new entries

abbrev pub ReadersLeave : Type 0
ReadersLeave =
    (set_up : SetUp) (past : List Entry) (e : Entry) (quad : ℕ) → Meets set_up (e ∷ past) → writes e.kind e.success ≡ false
    → left_by set_up (e ∷ past) quad ≡ left_by set_up past quad

abbrev pub OthersStay : Type 0
OthersStay =
    (change : Change) (before at : ℕ) → IsInRange change → at < 8 → touches change at ≡ false
    → byte_at at (changed change before) ≡ byte_at at before

-- what the earliest access to the quadword found, where it is so much now
abbrev pub first_found : List Entry → (quad now : ℕ) → ℕ
first_found [] quad now = now
first_found (e ∷ past) quad now = first_found past quad (if stands_on e quad then e.before else now)

abbrev pub OpeningIsFound : Type 0
OpeningIsFound =
    (set_up : SetUp) (entries : List Entry) (quad : ℕ) → Meets set_up entries
    → first_found entries quad (left_by set_up entries quad) ≡ opening set_up.image quad
