-- A reply to a reference that stands behind the check of its byte, or whose check was made.
use Rattle.std.proofs.Common.{◌≡◌, ℕ, [], ◌∷◌, Option, Some, None, true, false, refl, sym}
use Rattle.std.specs.Prelude.{Bool, is_none}
use Rattle.vax_form.specs.Pages.{first_bad}
use Rattle.vax_form.specs.Tree.{Tree, Check, Ask, Fault, unless_bad, feed}
use Rattle.vax_form.specs.declared.pages.Pages.{Pages}
use Rattle.vax_form.specs.declared.state.Reference.{Reference}
use Rattle.vax_form.specs.declared.state.VaxState.{VaxState}
use Rattle.tie_operands.specs.Steps.{IsAsking, Shows}
use Rattle.tie_operands.specs.declared.step.TieStep.TheVariants.{Want}
use Rattle.tie_strings.specs.Bytes.{may_be_read}

passed : (bad : Option ℕ) (reference : Reference) (on : ℕ → Tree) (tree : Tree) → IsAsking (unless_bad bad Fault false (Ask reference on)) → unless_bad bad Fault false tree ≡ tree
passed None reference on tree asks = refl
passed (Some address) reference on tree asks = absurd asks

-- the read of a byte, which is checked first unless it was
abbrev pub reading : (checked : Bool) → (address : ℕ) → Reference → (ℕ → Tree) → Tree
reading true address reference on = Ask reference on
reading false address reference on = Check address 1 false (Ask reference on)

pub read_reply : (checked : Bool) (pages : Pages) (address : ℕ) (reference : Reference) (on : ℕ → Tree) (reply : ℕ)
    → IsAsking (feed pages (reading checked address reference on) []) → feed pages (reading checked address reference on) (reply ∷ []) ≡ feed pages (on reply) []
read_reply true pages address reference on reply asks = refl
read_reply false pages address reference on reply asks = passed (first_bad pages false address 1) reference on (feed pages (on reply) []) asks

-- once it wants the byte, its check was made
pub check_made : (checked : Bool) (pages : Pages) (address : ℕ) (reference : Reference) (on : ℕ → Tree)
    → IsAsking (feed pages (reading checked address reference on) []) → feed pages (reading true address reference on) [] ≡ feed pages (reading checked address reference on) []
check_made true pages address reference on asks = refl
check_made false pages address reference on asks = sym (passed (first_bad pages false address 1) reference on (Ask reference on) asks)

shown_by : (before : VaxState) (bad : Option ℕ) (reference : Reference) (on : ℕ → Tree) → is_none bad ≡ true → Shows before (unless_bad bad Fault false (Ask reference on)) (Want reference)
shown_by before None reference on none = record { head = refl; faults = tt }
shown_by before (Some address) reference on none = absurd (cc none)

-- a byte that was checked, or may be read, is wanted
pub read_shown : (before : VaxState) (checked : Bool) (pages : Pages) (address : ℕ) (reference : Reference) (on : ℕ → Tree) → may_be_read checked pages address ≡ true
    → Shows before (feed pages (reading checked address reference on) []) (Want reference)
read_shown before true pages address reference on may = record { head = refl; faults = tt }
read_shown before false pages address reference on may = shown_by before (first_bad pages false address 1) reference on may
