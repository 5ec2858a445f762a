-- Laws of driven threads.
use Rattle.std.specs.Prelude.{◌≡◌, ℕ, ◌+◌, ◌<◌, ◌≤◌, ◌⊎◌, List, ◌∷◌, ◌++◌, Some}
use Rattle.vax_form.specs.Tree.{Retired}
use Rattle.vax_form.specs.declared.state.Reference.{Reference}
use Rattle.vax_form.specs.declared.state.Pick.{Pick}
use Rattle.vax_form.specs.References.{changed, byte_count, AreBytes, FitsQuadword}
use Rattle.vax_form.specs.Made.{Made, make}
use Rattle.vax_driven.specs.Threads.{Threads, reached, wanted}
use Rattle.vax_driven.specs.Driven.{World, walk}

-- further replies change nothing of where a thread came before them
abbrev pub ReachedStays : Type 0
ReachedStays = (threads : Threads) (thread count : ℕ) (replies more : List ℕ) (here : Retired)
    → reached threads thread count replies ≡ Some here
    → reached threads thread count (replies ++ more) ≡ Some (record here { left = here.left ++ more })

-- with the same replies, a thread wants a reference after one number of instructions at most
abbrev pub WantedOnce : Type 0
WantedOnce = (threads : Threads) (thread count other : ℕ) (replies : List ℕ) (reference another : Reference)
    → wanted threads thread count replies ≡ Some reference → wanted threads thread other replies ≡ Some another
    → (count ≡ other) × (reference ≡ another)

-- a longer order makes further references alone
abbrev pub WalkGoesOn : Type 0
WalkGoesOn = (world : World) (pick : Pick) (order : List Pick) (made : List Made) → walk world (pick ∷ order) ≡ Some made
    → (past : List Made) × (reference : Reference) × (walk world order ≡ Some past)
    × (made ≡ make world.byte world.input past pick.thread reference ∷ past)

-- memory stays one of bytes
abbrev pub BytesStay : Type 0
BytesStay = (reference : Reference) (byte : ℕ → ℕ) → FitsQuadword reference → AreBytes byte → AreBytes (changed reference byte)

-- only the bytes of a reference change
abbrev pub OthersStay : Type 0
OthersStay = (reference : Reference) (byte : ℕ → ℕ) (at : ℕ) → FitsQuadword reference
    → (at < reference.address) ⊎ (reference.address + byte_count reference ≤ at) → changed reference byte at ≡ byte at
