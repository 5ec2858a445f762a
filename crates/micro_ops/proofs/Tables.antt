-- Tables of flags, one for each number that a byte can hold.
use Rattle.std.proofs.Common.{◌≡◌, ℕ, ◌<◌, ◌∙◌, refl, Bool, true, false, not, ◌&&◌, ◌||◌, List, get_or, replicate}
use Rattle.std.specs.Prelude.{if◌then◌else◌}
use Rattle.std.proofs.lemmas.Option.{unwrap_or-slice_get}
use Rattle.std.proofs.lemmas.List.{get_or-replicate}
use Rattle.micro_ops.specs.LeftOut.{flag_at}

pub at_index : (flags : List Bool) (number : ℕ) → flag_at flags number ≡ get_or flags number false
at_index flags number = unwrap_or-slice_get flags number false

-- no number is in an empty table
pub none_held : (count number : ℕ) → number < count → flag_at (replicate count false) number ≡ false
none_held count number lt = at_index (replicate count false) number ∙ get_or-replicate count number false false lt

-- one more of a list that is asked about
pub one_more : (test flag any : Bool) → (if test then true else (any || flag)) ≡ ((any || (test || false)) || flag)
one_more true flag true = refl
one_more true flag false = refl
one_more false flag true = refl
one_more false flag false = refl

-- a flag that is cleared where what a temporary held is replaced, and set where it is used
pub kept_or_set : (now replaced later : Bool) → (now || (if replaced then false else later)) ≡ (now || (not replaced && later))
kept_or_set now true later = refl
kept_or_set now false later = refl
