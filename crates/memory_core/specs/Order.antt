-- The order of accesses. A list of entries is newest first: its tail is the past of its first entry.
-- Alpha Architecture Reference Manual, "Load Memory Data into Integer Register Locked" and "Store Integer Register Data
-- into Memory Conditional": a reservation covers an aligned block of 16 bytes.
use Rattle.std.specs.Prelude.{◌≡◌, ℕ, suc, ◌/◌, ◌%◌, ◌==◌, ◌&&◌, Bool, true, false, not, List, [], ◌∷◌, filter, if◌then◌else◌}
pub use Rattle.vax_form.specs.Made.{input_at}
use Rattle.memory_core.specs.declared.entry.Kind.{Kind}
use Rattle.memory_core.specs.declared.entry.Kind.TheVariants.{LoadLocked, StoreConditional}
use Rattle.memory_core.specs.declared.entry.Change.{Change}
use Rattle.memory_core.specs.declared.entry.Entry.{Entry}
use Rattle.memory_core.specs.declared.entry.Request.{Request}
use Rattle.memory_core.specs.declared.entry.SetUp.{SetUp}
use Rattle.memory_core.specs.Kinds.{is_memory, writes, is_conditional, is_get}
use Rattle.memory_core.specs.Changes.{Allows, leaves}
use Rattle.memory_core.specs.Opening.{opening}

-- the entries of one processor, in either order
abbrev pub own : ℕ → List Entry → List Entry
own processor entries = filter (λ (e : Entry). e.processor == processor) entries

abbrev pub stands_on : Entry → ℕ → Bool
stands_on e quad = is_memory e.kind && (e.quad == quad)

-- the quadword as the latest access to it left it, else as the image has it
abbrev pub left_by : SetUp → List Entry → ℕ → ℕ
left_by set_up [] quad = opening set_up.image quad
left_by set_up (e ∷ past) quad = if stands_on e quad then e.after else left_by set_up past quad

abbrev pub block_of : ℕ → ℕ
block_of quad = quad / 16

-- what an entry of the processor's own makes of its reservation on a block: a load-locked sets it, a store conditional
-- uses it up
abbrev pub reserved_by : Kind → (here was : Bool) → Bool
reserved_by LoadLocked here was = here
reserved_by StoreConditional here was = false
reserved_by _ here was = was

-- whether the processor's latest entry among load-locked and store conditional is a load-locked in the block, and no
-- other processor has written there since
abbrev pub reserved : List Entry → (processor block : ℕ) → Bool
reserved [] processor block = false
reserved (e ∷ past) processor block =
    if e.processor == processor
    then reserved_by e.kind (block_of e.quad == block) (reserved past processor block)
    else if writes e.kind e.success && (block_of e.quad == block) then false else reserved past processor block

-- how many store conditionals the processor has made
abbrev pub tries : List Entry → ℕ → ℕ
tries [] processor = 0
tries (e ∷ past) processor =
    if (e.processor == processor) && is_conditional e.kind then suc (tries past processor) else tries past processor

-- the miss rule, for test: with a number that isn't 0, each store conditional whose count it divides fails
abbrev pub strikes : (miss count : ℕ) → Bool
strikes miss count = not (miss == 0) && (count % miss == 0)

-- the success of an access: false for a store conditional that fails, and true for all else
abbrev pub succeeds : SetUp → List Entry → (processor : ℕ) → Kind → (quad : ℕ) → Bool
succeeds set_up past processor kind quad =
    if is_conditional kind
    then reserved past processor (block_of quad) && not (strikes set_up.miss (suc (tries past processor)))
    else true

-- how many input bytes have been asked for
abbrev pub gets : List Entry → ℕ
gets [] = 0
gets (e ∷ past) = if is_get e.kind then suc (gets past) else gets past

-- what an access finds: its quadword; the next input byte; nothing
abbrev pub found : SetUp → List Entry → Kind → (quad : ℕ) → ℕ
found set_up past kind quad =
    if is_memory kind then left_by set_up past quad else if is_get kind then input_at set_up.input (gets past) else 0

-- the entry of a request, by what it found and whether it succeeded
abbrev pub entry_by : Request → (before : ℕ) → (success : Bool) → Entry
entry_by request before success = record {
  retired = request.retired;
  before = before;
  after = leaves request.kind success request.change before;
  quad = if is_memory request.kind then request.quad else 0;
  processor = request.processor;
  kind = request.kind;
  success = success;
}

-- the entry of a request behind its past
abbrev pub entry_of : SetUp → List Entry → Request → Entry
entry_of set_up past request =
    entry_by request (found set_up past request.kind request.quad) (succeeds set_up past request.processor request.kind request.quad)

-- an entry that the order allows behind its past: it finds what the past left, and leaves that with some change of its kind
pub record Fits (set_up : SetUp) (past : List Entry) (e : Entry) : Type 0 where
  pub before : e.before ≡ found set_up past e.kind e.quad
  pub success : e.success ≡ succeeds set_up past e.processor e.kind e.quad
  pub place : is_memory e.kind ≡ false → e.quad ≡ 0
  pub change : Change
  pub allowed : Allows e.kind change
  pub after : e.after ≡ leaves e.kind e.success change e.before

abbrev pub Meets : SetUp → List Entry → Type 0
Meets set_up [] = Unit {0}
Meets set_up (e ∷ past) = Meets set_up past × Fits set_up past e
