-- A few replies, kept in order.
use Rattle.std.specs.Prelude.{ℕ, List, [], ◌∷◌, take, Option, Some, None}
use Rattle.tie_operands.specs.declared.replies.Replies.{Replies}

-- the reply that a step is given, if it is given one
abbrev pub list_of : Option ℕ → List ℕ
list_of None = []
list_of (Some reply) = reply ∷ []

abbrev pub replies_of : {MOST : ℕ} → Replies MOST → List ℕ
replies_of replies = take replies.count replies.values
