-- The walk along an order.
use Rattle.std.proofs.Common.{◌≡◌, List, ◌∷◌, Option, Some, None, refl}
use Rattle.vax_form.specs.declared.state.Reference.{Reference}
use Rattle.vax_form.specs.declared.state.Pick.{Pick}
use Rattle.vax_form.specs.Made.{Made, replies_to, make}
use Rattle.vax_driven.specs.Threads.{wanted}
use Rattle.vax_driven.specs.Driven.{World, made_if, picked, walk}
use Rattle.vax_driven.specs.Laws.{WalkGoesOn}

module _ (world : World) (pick : Pick) (made : List Made) where
  made_on : (past : List Made) (o : Option Reference) → made_if world past pick.thread o ≡ Some made
      → (reference : Reference) × (made ≡ make world.byte world.input past pick.thread reference ∷ past)
  made_on past None is = absurd (cc is)
  made_on past (Some reference) is = (reference, cc is)

  goes_on : (o : Option (List Made)) → picked world o pick ≡ Some made
      → (past : List Made) × (reference : Reference) × (o ≡ Some past) × (made ≡ make world.byte world.input past pick.thread reference ∷ past)
  goes_on None is = absurd (cc is)
  goes_on (Some past) is =
      let m = made_on past (wanted world.threads pick.thread pick.retired (replies_to pick.thread past)) is in
      (past, m.0, refl, m.1)

pub walk_goes_on : WalkGoesOn
walk_goes_on world pick order made is = goes_on world pick made (walk world order) is
