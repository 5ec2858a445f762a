-- What an access adds to what is seen of a history. These lists are oldest first.
use Rattle.std.specs.Prelude.{◌≡◌, ℕ, Bool, true, List, [], ◌∷◌, ◌++◌, reverse}
use Rattle.memory_core.specs.declared.entry.Entry.{Entry}
use Rattle.memory_core.specs.declared.entry.Request.{Request}
use Rattle.memory_core.specs.declared.entry.SetUp.{SetUp}
use Rattle.memory_core.specs.Order.{own, Meets}
use Rattle.memory_core.specs.Contents.{entry_for}
use Rattle.memory_core.specs.Limits.{counts, IsAtLimit, IsWithin}

-- entries of other processors alone, and then the entry of the request there; the reply is that entry's
pub record IsNext (set_up : SetUp) (may_come : List Entry → Type 0) (request : Request) (before : ℕ) (success : Bool) (old new : List Entry) : Type 0 where
  pub between : List Entry
  pub others : own request.processor between ≡ []
  pub come : may_come between
  pub seen : new ≡ (old ++ between) ++ entry_for set_up (old ++ between) request ∷ []
  pub found : before ≡ (entry_for set_up (old ++ between) request).before
  pub succeeded : success ≡ (entry_for set_up (old ++ between) request).success
  pub order : Meets set_up (reverse new)
  pub room : IsWithin set_up.limit new

-- entries of other processors alone, up to the limit, against which the request counts
pub record IsOver (set_up : SetUp) (may_come : List Entry → Type 0) (request : Request) (old new : List Entry) : Type 0 where
  pub between : List Entry
  pub others : own request.processor between ≡ []
  pub come : may_come between
  pub seen : new ≡ old ++ between
  pub counts : counts set_up.limit request.kind ≡ true
  pub full : IsAtLimit set_up.limit new
  pub order : Meets set_up (reverse new)
