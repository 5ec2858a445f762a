-- An order file as four lists.
use Rattle.std.specs.Prelude.{ℕ, Bool, List}
use Rattle.vax_form.specs.declared.state.Pick.{Pick}

-- the input; of each thread the number of instructions that it retired, and whether it ended Spent; and the picks, oldest first
pub record OrderValue : Type 0 where
  pub input : List ℕ
  pub counts : List ℕ
  pub spent : List Bool
  pub picks : List Pick
