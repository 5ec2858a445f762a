-- Trees that stay in range: each reference can be made by memory as the page table stands, and each end is a state, whose
-- registers, PC and processor status word fit their widths.
use Rattle.std.specs.Prelude.{◌≡◌, ℕ, ◌*◌, ◌%◌, ◌^◌, ◌<◌, Bool, true, false, None}
use Rattle.vax_form.specs.Pages.{first_bad, is_allowed}
use Rattle.vax_form.specs.State.{IsState, Answers}
use Rattle.vax_form.specs.References.{FitsQuadword}
use Rattle.vax_form.specs.Tree.{Tree, Check, Ask, Fault, Ends, Ending, Finish, Exit, Trap}
use Rattle.vax_form.specs.declared.pages.Pages.{Pages}
use Rattle.vax_form.specs.declared.state.Exception.{Exception}
use Rattle.vax_form.specs.declared.state.Exception.TheVariants.{Arithmetic}
use Rattle.vax_form.specs.declared.state.Reference.{Reference}
use Rattle.vax_form.specs.declared.state.RefKind.{RefKind}
use Rattle.vax_form.specs.declared.state.RefKind.TheVariants.{Read, Write, Add, SetBit, ClearBit, Put, Get}
use Rattle.vax_form.specs.declared.state.VaxState.{VaxState}

abbrev pub ending_state : Ending → VaxState
ending_state (Finish state) = state
ending_state (Exit state) = state
ending_state (Trap kind state) = state

-- an interlocked reference writes, too
abbrev pub is_write : RefKind → Bool
is_write Read = false
is_write (Write value) = true
is_write (Add value) = true
is_write (SetBit bit) = true
is_write (ClearBit bit) = true
is_write (Put byte) = false
is_write Get = false

-- the page of the address may be used so; a byte of the output or the input has none
abbrev pub AllowsKind : RefKind → Pages → (address : ℕ) → Type 0
AllowsKind (Put byte) pages address = Unit {0}
AllowsKind Get pages address = Unit {0}
AllowsKind kind pages address = is_allowed pages address (is_write kind) ≡ true

-- a written value fits its bytes; a word that is added stands at an even address, and a byte is put out
abbrev pub FitsValue : RefKind → (address count : ℕ) → Type 0
FitsValue (Write value) address count = value < 2 ^ (8 * count)
FitsValue (Add value) address count = (address % 2 ≡ 0) × (value < 2 ^ 16)
FitsValue (Put byte) address count = byte < 256
FitsValue _ address count = Unit {0}

-- a reference that memory can make: within one aligned quadword, in a page that allows it, and of a value that fits
pub record FitsPage (pages : Pages) (reference : Reference) : Type 0 where
  pub quadword : FitsQuadword reference
  pub allowed : AllowsKind reference.kind pages reference.address
  pub value : FitsValue reference.kind reference.address reference.count

-- no check with write intent comes any more
abbrev pub ChecksNoWrite : Pages → Tree → Type 0
ChecksNoWrite pages (Check address count write tree) = (write ≡ false) × (first_bad pages write address count ≡ None → ChecksNoWrite pages tree)
ChecksNoWrite pages (Ask reference on) = (reply : ℕ) → Answers reference reply → ChecksNoWrite pages (on reply)
ChecksNoWrite pages (Fault exception) = Unit {0}
ChecksNoWrite pages (Ends e) = Unit {0}

-- where the checks hold, and for all replies that the references can get; behind a write nothing is checked with write
-- intent
abbrev pub IsInRange : Pages → Tree → Type 0
IsInRange pages (Check address count write tree) = first_bad pages write address count ≡ None → IsInRange pages tree
IsInRange pages (Ask reference on) =
    FitsPage pages reference
    × ((reply : ℕ) → Answers reference reply → IsInRange pages (on reply))
    × (is_write reference.kind ≡ true → (reply : ℕ) → Answers reference reply → ChecksNoWrite pages (on reply))
IsInRange pages (Fault exception) = Unit {0}
IsInRange pages (Ends e) = IsState (ending_state e)

-- what an instruction does to a state gives a state
abbrev pub StaysInRange : Pages → (VaxState → Tree) → Type 0
StaysInRange pages tree = (state : VaxState) → IsState state → IsInRange pages (tree state)

-- an arithmetic exception is a trap's
abbrev pub IsFault : Exception → Type 0
IsFault (Arithmetic kind) = ⊥
IsFault _ = Unit {0}

-- no fault of the tree is arithmetic, where the checks hold and for all replies that the references can get
abbrev pub FailsByFaults : Pages → Tree → Type 0
FailsByFaults pages (Check address count write tree) = first_bad pages write address count ≡ None → FailsByFaults pages tree
FailsByFaults pages (Ask reference on) = (reply : ℕ) → Answers reference reply → FailsByFaults pages (on reply)
FailsByFaults pages (Fault exception) = IsFault exception
FailsByFaults pages (Ends e) = Unit {0}
