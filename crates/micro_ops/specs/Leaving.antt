-- What the temporaries hold where a program leaves: the operands of the rule by which its codes are told, the result, and
-- the codes that have no rule. Values are zero-extended at the rule's size.
use Rattle.std.specs.Prelude.{◌≡◌, ℕ, ◌<◌, ◌==◌, nat_lt, int_lt, List, false}
use Rattle.vax_form.specs.Ranges.{ending_state}
use Rattle.vax_form.specs.Size.{bytes_of}
use Rattle.vax_form.specs.declared.instr.Size.{Size}
use Rattle.vax_form.specs.declared.state.VaxState.{VaxState}
use Rattle.vt_words.specs.Values.{bit}
use Rattle.vt_words.specs.Arithmetic.{coded_value, sum_of, difference_of}
use Rattle.vt_words.specs.declared.arithmetic.Coded.{Coded}
use Rattle.micro_ops.specs.declared.codes.CodeSource.{CodeSource}
use Rattle.micro_ops.specs.declared.codes.CodeSource.TheVariants.{Kept, Zero, Result, Add, Sub, Compare, Computed, Psw}
use Rattle.micro_ops.specs.declared.codes.CodeSources.{CodeSources}
use Rattle.micro_ops.specs.declared.program.Micro.{Micro}
use Rattle.micro_ops.specs.Values.{limit_of, signed}
use Rattle.micro_ops.specs.Course.{AtLeaves}
use Rattle.micro_ops.specs.Meaning.{Temps, Departure, Ended, Serves, Left, flag_of, denote}

-- the state that is left, before a service acts
abbrev pub state_left : Departure → VaxState
state_left (Ended ending) = ending_state ending
state_left (Serves code state) = state

-- a comparison: V is 0, and C says that the first is below the second as unsigned numbers
abbrev pub comparison_of : Size → (a b : ℕ) → Coded
comparison_of size a b = record { value = a; n = int_lt (signed size a) (signed size b); z = a == b; v = false; c = nat_lt a b }

abbrev pub sum : Size → Temps → Coded
sum size temps = sum_of (bytes_of size) (temps 0) (temps 1) false

abbrev pub difference : Size → Temps → Coded
difference size temps = difference_of (bytes_of size) (temps 0) (temps 1) false

-- the PSW has N, Z and V of that
abbrev pub HasSigns : Coded → (psw : ℕ) → Type 0
HasSigns coded psw = (flag_of 0 psw ≡ bit coded.n) × (flag_of 1 psw ≡ bit coded.z) × (flag_of 2 psw ≡ bit coded.v)

-- both operands fit the size
abbrev pub HoldsBoth : Size → Temps → Type 0
HoldsBoth size temps = (temps 0 < limit_of size) × (temps 1 < limit_of size)

-- N, Z and V of the PSW that is left come from there, and the operands and the result are held
abbrev pub SignsComeFrom : CodeSource → (found left : ℕ) → Temps → Type 0
SignsComeFrom Kept found left temps = (flag_of 0 left ≡ flag_of 0 found) × (flag_of 1 left ≡ flag_of 1 found) × (flag_of 2 left ≡ flag_of 2 found)
SignsComeFrom Zero found left temps = (flag_of 0 left ≡ 0) × (flag_of 1 left ≡ 0) × (flag_of 2 left ≡ 0)
SignsComeFrom (Result size) found left temps = (temps 2 < limit_of size) × HasSigns (coded_value (bytes_of size) (temps 2) false false) left
SignsComeFrom (Add size) found left temps = HoldsBoth size temps × (temps 2 ≡ (sum size temps).value) × HasSigns (sum size temps) left
SignsComeFrom (Sub size) found left temps = HoldsBoth size temps × (temps 2 ≡ (difference size temps).value) × HasSigns (difference size temps) left
SignsComeFrom (Compare size) found left temps = HoldsBoth size temps × HasSigns (comparison_of size (temps 0) (temps 1)) left
SignsComeFrom (Computed size) found left temps =
    let coded = coded_value (bytes_of size) (temps 2) false false in
    (temps 2 < limit_of size) × (flag_of 0 left ≡ bit coded.n) × (flag_of 1 left ≡ bit coded.z) × (temps 3 ≡ flag_of 2 left)
SignsComeFrom Psw found left temps = temps 2 ≡ left

-- the same of C
abbrev pub CarryComesFrom : CodeSource → (found left : ℕ) → Temps → Type 0
CarryComesFrom Kept found left temps = flag_of 3 left ≡ flag_of 3 found
CarryComesFrom Zero found left temps = flag_of 3 left ≡ 0
CarryComesFrom (Result size) found left temps = flag_of 3 left ≡ 0
CarryComesFrom (Add size) found left temps = HoldsBoth size temps × (flag_of 3 left ≡ bit (sum size temps).c)
CarryComesFrom (Sub size) found left temps = HoldsBoth size temps × (flag_of 3 left ≡ bit (difference size temps).c)
CarryComesFrom (Compare size) found left temps = HoldsBoth size temps × (flag_of 3 left ≡ bit (comparison_of size (temps 0) (temps 1)).c)
CarryComesFrom (Computed size) found left temps = temps 4 ≡ flag_of 3 left
CarryComesFrom Psw found left temps = temps 2 ≡ left

-- the codes of what is left come from there
pub record CodesComeFrom (codes : CodeSources) (found : VaxState) (left : Left) : Type 0 where
  pub signs : SignsComeFrom codes.nzv found.psw (state_left left.departure).psw left.temps
  pub carry : CarryComesFrom codes.c found.psw (state_left left.departure).psw left.temps

-- wherever the program leaves, for all replies that can be given
abbrev pub CodesAgree : CodeSources → List Micro → VaxState → (after : ℕ) → Type 0
CodesAgree codes program state after = AtLeaves (CodesComeFrom codes state) (denote program state after)
