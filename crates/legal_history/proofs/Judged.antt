-- What is owed of each access, and what it adds to the steps that a processor may make.
use Rattle.std.proofs.Common.{ℕ, ◌+◌, Bool, true, false, List, [], ◌∷◌, Option, Some, None}
use Rattle.alpha_meaning.specs.Pieces.{Kinds, retry_steps}
use Rattle.block_law.specs.Rounds.{block_steps}
use Rattle.memory_core.specs.declared.entry.Entry.{Entry}
use Rattle.memory_core.specs.declared.entry.Kind.{Kind}
use Rattle.memory_core.specs.declared.entry.Kind.TheVariants as kinds
use Rattle.memory_core.specs.declared.entry.Kind.TheVariants.{LoadLocked, StoreConditional}
use Rattle.vax_form.specs.Tree.{Tree, Ask}
use Rattle.vax_form.specs.References.{FitsQuadword}
use Rattle.vax_form.specs.declared.state.Reference.{Reference}
use Rattle.system_model.specs.Quadwords.{reply_from, IsOf}
use Rattle.legal_history.specs.Kinds.{IsAlpha}

-- the reference that a tree wants next
abbrev pub head_of : Tree → Option Reference
head_of (Ask reference on) = Some reference
head_of _ = None

-- the entry is of the reference that the tree wants, and what it replies leads to a place of which that holds
abbrev pub MadeBy : Tree → Entry → (Tree → Type 0) → Type 0
MadeBy (Ask reference on) e Goes = FitsQuadword reference → IsOf reference e × Goes (on (reply_from reference e))
MadeBy _ e Goes = ⊥

-- where a tree wants nothing, Alpha code makes no access
pub for_nothing : (kind : Kind) (each : Reference → Kinds) (want : Option Reference) → IsAlpha kind each None → IsAlpha kind each want
for_nothing kinds.Load each want i = absurd i
for_nothing LoadLocked each want i = absurd i
for_nothing kinds.Store each want i = absurd i
for_nothing StoreConditional each want i = absurd i
for_nothing kinds.Put each want i = tt
for_nothing kinds.Get each want i = tt
for_nothing _ each want i = absurd i

-- what an access adds to the number of steps that a processor may make: where it counts, and where a store fails
abbrev pub share_by : Kind → (success : Bool) → ℕ → ℕ
share_by StoreConditional false share = share + retry_steps
share_by StoreConditional true share = share + block_steps
share_by LoadLocked success share = share
share_by _ success share = share + block_steps

-- what its entries add to them, the newest last
abbrev pub share_of : List Entry → ℕ
share_of [] = 0
share_of (e ∷ mine) = share_by e.kind e.success (share_of mine)
