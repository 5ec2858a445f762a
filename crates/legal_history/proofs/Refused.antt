-- A memory order in which a store of another processor clears no reservation is refused: what the law needs of the order
-- is false of it.
use Rattle.std.proofs.Common.{◌≡◌, ℕ, suc, ◌==◌, ◌&&◌, ◌<◌, Bool, true, false, not, if◌then◌else◌, List, [], ◌∷◌, refl, arith, lit<}
use Rattle.std.specs.Int.{byte_at}
use Rattle.std.proofs.lemmas.List.Elements.{All-nil}
use Rattle.memory_core.specs.declared.entry.Change.{Change}
use Rattle.memory_core.specs.declared.entry.Change.TheVariants.{Nothing, Bytes}
use Rattle.memory_core.specs.declared.entry.Entry.{Entry}
use Rattle.memory_core.specs.declared.entry.Kind.{Kind}
use Rattle.memory_core.specs.declared.entry.Kind.TheVariants.{LoadLocked, Store, StoreConditional}
use Rattle.memory_core.specs.declared.entry.Limit.TheVariants.{Entries}
use Rattle.memory_core.specs.declared.entry.SetUp.{SetUp}
use Rattle.memory_core.specs.Bytes.{with_bytes}
use Rattle.memory_core.specs.Changes.{Allows, leaves}
use Rattle.memory_core.specs.Kinds.{is_memory, is_conditional}
use Rattle.memory_core.specs.Opening.{opening}
use Rattle.memory_core.specs.Order.{own, left_by, block_of, reserved_by, tries, strikes, found, Meets}
use Rattle.legal_history.specs.Law.{HasBytes}
use Rattle.legal_history.proofs.Fair.{AllFair}
use Rattle.legal_history.proofs.Locks.{all_fair}

-- ---- the order of accesses, but that another processor's store clears no reservation
abbrev reserved_still : List Entry → (processor block : ℕ) → Bool
reserved_still [] processor block = false
reserved_still (e ∷ past) processor block =
    if e.processor == processor
    then reserved_by e.kind (block_of e.quad == block) (reserved_still past processor block)
    else reserved_still past processor block

abbrev succeeds_still : SetUp → List Entry → (processor : ℕ) → Kind → (quad : ℕ) → Bool
succeeds_still set_up past processor kind quad =
    if is_conditional kind
    then reserved_still past processor (block_of quad) && not (strikes set_up.miss (suc (tries past processor)))
    else true

record FitsStill (set_up : SetUp) (past : List Entry) (e : Entry) : Type 0 where
  before : e.before ≡ found set_up past e.kind e.quad
  success : e.success ≡ succeeds_still set_up past e.processor e.kind e.quad
  place : is_memory e.kind ≡ false → e.quad ≡ 0
  change : Change
  allowed : Allows e.kind change
  after : e.after ≡ leaves e.kind e.success change e.before

abbrev MeetsStill : SetUp → List Entry → Type 0
MeetsStill set_up [] = Unit {0}
MeetsStill set_up (e ∷ past) = MeetsStill set_up past × FitsStill set_up past e

-- ---- a history: processor 0 writes 5 to byte 0 of a quadword by a load-locked access and a store conditional, and between
-- them processor 1 stores 1 in byte 1
abbrev zeros : SetUp
zeros = record { image = record { version = 1; threads = []; sections = []; entries = []; pages = record { ranges = []; code = [] } }; input = []; limit = Entries 3; miss = 0 }

abbrev locks : Entry
locks = record { retired = 0; before = 0; after = 0; quad = 0x1000; processor = 0; kind = LoadLocked; success = true }

abbrev stores : Entry
stores = record { retired = 0; before = 0; after = 0x100; quad = 0x1000; processor = 1; kind = Store; success = true }

-- it stores the whole quadword, byte 0 put into what the load-locked access found
abbrev conditional : Entry
conditional = record { retired = 0; before = 0x100; after = 0x005; quad = 0x1000; processor = 0; kind = StoreConditional; success = true }

abbrev past : List Entry
past = stores ∷ locks ∷ []

abbrev history : List Entry
history = conditional ∷ past

-- that order has this history
meets_still : MeetsStill zeros history
unfolding opening with_bytes
meets_still = (
  (
    (
      tt,
      record { before = refl; success = refl; place = λ h. absurd (cc h); change = Nothing; allowed = record { fits = refl; range = tt }; after = refl },
    ),
    record { before = refl; success = refl; place = λ h. absurd (cc h); change = Bytes 0x02 0x100; allowed = record { fits = refl; range = (omega arith, omega arith) }; after = refl },
  ),
  record { before = refl; success = refl; place = λ h. absurd (cc h); change = Bytes 0xFF 0x005; allowed = record { fits = refl; range = (omega arith, omega arith) }; after = refl },
)

-- ---- what is lost
-- the store conditional doesn't find what its load-locked access found
not_fair : AllFair (own 0 history) → ⊥
not_fair h = let finds : conditional.before ≡ locks.before = h.1.locked refl refl refl in absurd (omega (arith, finds))

-- what the law needs of an order
abbrev IsFairOrder : (SetUp → List Entry → Type 0) → Type 0
IsFairOrder Allowed = (set_up : SetUp) → HasBytes set_up → (entries : List Entry) → Allowed set_up entries → (processor : ℕ) → AllFair (own processor entries)

has_bytes : HasBytes zeros
has_bytes = record { image = λ address. lit< tt; input = All-nil (λ byte. byte < 256) }

refused : IsFairOrder MeetsStill → ⊥
refused fair = not_fair (fair zeros has_bytes history meets_still 0)

-- the order itself is fair
is_fair : IsFairOrder Meets
is_fair set_up bytes entries meets processor = all_fair set_up bytes entries meets processor

-- and the other processor's byte is lost
was_stored : byte_at 1 (left_by zeros past 0x1000) ≡ 1
was_stored = refl

is_lost : byte_at 1 (left_by zeros history 0x1000) ≡ 0
is_lost = refl

-- the order itself has no such history
not_met : Meets zeros history → ⊥
not_met h = let fails : true ≡ false = h.1.success in absurd (cc fails)
