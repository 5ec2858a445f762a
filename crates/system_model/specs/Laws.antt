-- What keeps a processor reached by its own entries, and makes a history legal; and references beside their quadwords. Lists of entries are newest first.
use Rattle.std.specs.Prelude.{◌≡◌, ◌≢◌, ◌<◌, ◌≤◌, ◌+◌, ◌%◌, ◌⊎◌, ℕ, Bool, true, List, [], ◌∷◌, ◌++◌, Some, length, reverse, slice_get}
use Rattle.std.specs.List.{AllByRecursion}
use Rattle.image_file.specs.Start.{start_state}
use Rattle.image_file.specs.declared.image.Start.{Start}
use Rattle.memory_core.specs.declared.entry.Entry.{Entry}
use Rattle.memory_core.specs.declared.entry.Limit.{Limit}
use Rattle.memory_core.specs.declared.entry.Request.{Request}
use Rattle.memory_core.specs.declared.entry.SetUp.{SetUp}
use Rattle.memory_core.specs.Changes as quadwords
use Rattle.memory_core.specs.Limits as limits
use Rattle.memory_core.specs.Live.{GoesOn}
use Rattle.memory_core.specs.Order.{own, Meets}
use Rattle.memory_core.specs.Requests.{CanMake}
use Rattle.alpha_meaning.specs.State.{Alpha}
use Rattle.vax_form.specs.declared.state.Reference.{Reference}
use Rattle.vax_form.specs.declared.state.VaxState.{VaxState}
use Rattle.vax_form.specs.Ranges.{FitsPage}
use Rattle.vax_form.specs.References.{reply_of, changed, AreBytes, FitsQuadword}
use Rattle.block_law.specs.References.{is_of_memory}
use Rattle.vax_driven.specs.declared.thread.End.TheVariants.{Spent}
use Rattle.system_model.specs.Counted.{order}
use Rattle.system_model.specs.Matches.{KeepsOthers}
use Rattle.system_model.specs.Quadwords.{quad_at, quad_address, change_of, reply_found, IsOf}
use Rattle.system_model.specs.Settings.{Setting}
use Rattle.system_model.specs.Steps.{Place, Wants, Moment, next}
use Rattle.system_model.specs.Processors.{Ended, Processor, Went, Asks, begun, request_of, turn, entry_by}
use Rattle.system_model.specs.Legal.{starts, spent, IsGoing, AsksToCount, IsReached, IsLegal}

-- ---- legal histories
-- processors before their first turn, from that thread on
abbrev pub begun_from : (thread : ℕ) → List Start → List Processor
begun_from thread [] = []
begun_from thread (start ∷ rest) = begun thread (start_state start) ∷ begun_from (thread + 1) rest

-- an image that has made no step is legal, whatever its threads interpret
abbrev pub BeginningsAreLegal : Type 0
BeginningsAreLegal = (setting : Setting) (set_up : SetUp) (budget : ℕ) → setting.meaning.pages ≡ set_up.image.pages
    → IsLegal setting set_up budget [] (begun_from 0 set_up.image.threads)

-- a legal history stays legal from a set-up that goes on as the old one, where each processor that is spent has no step left
abbrev pub LegalGoesOn : Type 0
LegalGoesOn = (setting : Setting) (old new : SetUp) (budget : ℕ) (entries : List Entry) (processors : List Processor)
    → GoesOn entries old new → AllByRecursion (λ (p : Processor). p.mode ≡ Ended Spent → p.steps ≡ budget) processors
    → IsLegal setting old budget entries processors → IsLegal setting new budget entries processors

-- ---- one processor, by its own entries
-- it made at most as many steps as its budget has, and retired no more instructions than it made steps; and none of its
-- entries tells more of them
pub record IsWithin (budget : ℕ) (mine : List Entry) (p : Processor) : Type 0 where
  pub steps : p.steps ≤ budget
  pub retired : p.retired ≤ p.steps
  pub told : AllByRecursion (λ (e : Entry). e.retired ≤ p.retired) mine

-- it stays reached by a turn that asks nothing
abbrev pub StepsKeepReached : Type 0
StepsKeepReached = (setting : Setting) (budget : ℕ) (limit : Limit) (entries : List Entry) (thread : ℕ) (start : VaxState) (p q : Processor)
    → IsReached setting budget limit entries thread start p → IsGoing p.mode → turn setting p ≡ Went q → p.steps < budget
    → IsReached setting budget limit entries thread start q

-- by a turn that asks, with the entry that it asked for
abbrev pub AccessesKeepReached : Type 0
AccessesKeepReached = (setting : Setting) (budget : ℕ) (limit : Limit) (entries : List Entry) (thread : ℕ) (start : VaxState) (p : Processor)
    (request : Request) (on : ℕ → Bool → Processor) (before : ℕ) (success : Bool)
    → IsReached setting budget limit entries thread start p → IsGoing p.mode → turn setting p ≡ Asks request on → p.steps < budget
    → IsReached setting budget limit (entry_by request before success ∷ entries) thread start (on before success)

-- and where it has no step left, or asks for one more than the limit allows
abbrev pub EndsKeepReached : Type 0
EndsKeepReached = (setting : Setting) (budget : ℕ) (limit : Limit) (entries : List Entry) (thread : ℕ) (start : VaxState) (p : Processor)
    → IsReached setting budget limit entries thread start p → IsGoing p.mode → (p.steps ≡ budget) ⊎ (AsksToCount limit (turn setting p) × limits.IsAtLimit limit entries)
    → IsReached setting budget limit entries thread start (spent p)

-- reached by a beginning of a history it is reached by the whole, where none of its entries come later
abbrev pub OthersKeepReached : Type 0
OthersKeepReached = (setting : Setting) (budget : ℕ) (limit : Limit) (later entries : List Entry) (thread : ℕ) (start : VaxState) (p : Processor)
    → IsReached setting budget limit entries thread start p → own thread later ≡ [] → limits.IsWithin limit (later ++ entries)
    → IsReached setting budget limit (later ++ entries) thread start p

-- what it asks is of its thread
abbrev pub RequestsAreOwn : Type 0
RequestsAreOwn = (setting : Setting) (budget : ℕ) (limit : Limit) (entries : List Entry) (thread : ℕ) (start : VaxState) (p : Processor) (request : Request) (on : ℕ → Bool → Processor)
    → IsReached setting budget limit entries thread start p → IsGoing p.mode → turn setting p ≡ Asks request on → request.processor ≡ thread

-- it is within its budget
abbrev pub ReachedAreWithin : Type 0
ReachedAreWithin = (setting : Setting) (budget : ℕ) (limit : Limit) (entries : List Entry) (thread : ℕ) (start : VaxState) (p : Processor)
    → IsReached setting budget limit entries thread start p → IsWithin budget (own thread entries) p

-- just one processor for each thread of the image, each reached by its own entries of a history that meets the memory
-- order and the limit and has entries of these alone
abbrev pub ReachedAreLegal : Type 0
ReachedAreLegal = (setting : Setting) (set_up : SetUp) (budget : ℕ) (entries : List Entry) (processors : List Processor)
    → setting.meaning.pages ≡ set_up.image.pages → Meets set_up entries → limits.IsWithin set_up.limit entries → length processors ≡ length set_up.image.threads
    → AllByRecursion (λ e. e.processor < length processors) entries
    → ((thread : ℕ) (start : VaxState) (p : Processor) → starts set_up.image thread ≡ Some start → slice_get processors thread ≡ Some p
    → IsReached setting budget set_up.limit entries thread start p)
    → IsLegal setting set_up budget entries processors

-- and each processor of a legal history is within its budget
abbrev pub LegalAreWithin : Type 0
LegalAreWithin = (setting : Setting) (set_up : SetUp) (budget : ℕ) (entries : List Entry) (processors : List Processor)
    → IsLegal setting set_up budget entries processors → (thread : ℕ) (p : Processor) → slice_get processors thread ≡ Some p
    → IsWithin budget (own thread entries) p

-- ---- what memory is asked
-- it can make the access of a reference that fits its page
abbrev pub ReferencesCanBeMade : Type 0
ReferencesCanBeMade = (set_up : SetUp) (thread retired : ℕ) (reference : Reference) → FitsPage set_up.image.pages reference
    → CanMake set_up (request_of thread retired reference)

-- and what a step of Alpha code wants
abbrev pub StepsCanBeMade : Type 0
StepsCanBeMade = (setting : Setting) (set_up : SetUp) (moment : Moment) (alpha : Alpha) (request : Request) (on : ℕ → Bool → Place)
    → setting.meaning.pages ≡ set_up.image.pages → next setting moment alpha ≡ Wants request on → CanMake set_up request

-- ---- references and their quadwords
-- a reference's bytes and its quadword are changed alike
abbrev pub QuadwordChanges : Type 0
QuadwordChanges = (reference : Reference) (byte : ℕ → ℕ) → FitsQuadword reference → AreBytes byte → is_of_memory reference.kind ≡ true
    → quad_at (changed reference byte) (quad_address reference) ≡ quadwords.changed (change_of reference) (quad_at byte (quad_address reference))

-- and no other quadword changes
abbrev pub OtherQuadwordsStay : Type 0
OtherQuadwordsStay = (reference : Reference) (byte : ℕ → ℕ) (quad : ℕ) → FitsQuadword reference → quad % 8 ≡ 0 → quad ≢ quad_address reference
    → quad_at (changed reference byte) quad ≡ quad_at byte quad

-- the reply is that of the quadword
abbrev pub QuadwordReplies : Type 0
QuadwordReplies = (reference : Reference) (byte : ℕ → ℕ) (next_input : ℕ) → FitsQuadword reference → AreBytes byte → is_of_memory reference.kind ≡ true
    → reply_of reference byte next_input ≡ reply_found reference (quad_at byte (quad_address reference))

-- an access for a reference changes the reference's bytes alone
abbrev pub NeighboursStay : Type 0
NeighboursStay = (reference : Reference) (e : Entry) → IsOf reference e → KeepsOthers e reference

-- the order of a history told the other way round
abbrev pub OrderTurns : Type 0
OrderTurns = (history : List Entry) → order (reverse history) ≡ reverse (order history)
