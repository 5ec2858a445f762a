-- What is owed of each step of Alpha code, for a judgement on what is still to be done.
use Rattle.std.proofs.Common.{◌≡◌, ℕ, ◌+◌, ◌≤◌, Bool, false, if◌then◌else◌, [], Option, None}
use Rattle.std.specs.Prelude.{MatchBool}
use Rattle.alpha_meaning.specs.Pieces.{Kinds, retry_steps}
use Rattle.alpha_meaning.specs.State.{Alpha, Regs}
use Rattle.block_law.specs.Rounds.{block_steps}
use Rattle.memory_core.specs.declared.entry.Entry.{Entry}
use Rattle.memory_core.specs.declared.entry.Kind.{Kind}
use Rattle.memory_core.specs.declared.entry.Kind.TheVariants.{StoreConditional}
use Rattle.memory_core.specs.declared.entry.Request.{Request}
use Rattle.memory_core.specs.Kinds.{is_memory}
use Rattle.vax_form.specs.Tree.{Tree, Check, Ask, Fault, Ends, Ending, Finish, Answer, answer}
use Rattle.vax_form.specs.Tree as trees
use Rattle.vax_form.specs.declared.pages.Pages.{Pages}
use Rattle.vax_form.specs.declared.state.Flags.{Flags}
use Rattle.vax_form.specs.declared.state.Reference.{Reference}
use Rattle.vax_form.specs.declared.state.VaxState.{VaxState}
use Rattle.system_model.specs.Processors.{entry_by}
use Rattle.system_model.specs.Steps.{Last, Comes, Fails, Place, Inside, Lands, Leaves, Next, Moves, Wants, Stuck}
use Rattle.system_model.specs.Counted.{is_counted}
use Rattle.legal_history.specs.Kinds.{IsAlpha}
use Rattle.legal_history.specs.Entries.{Paired, Lock, lock_by}
use Rattle.legal_history.proofs.Fair.{IsFair}
use Rattle.legal_history.proofs.Judged.{MadeBy, head_of}
use Rattle.legal_history.proofs.Paths.{Path}

-- steps more behind a store that failed
abbrev pub more_by : Kind → (success : Bool) → ℕ → ℕ
more_by StoreConditional false spare = spare + retry_steps
more_by _ success spare = spare

abbrev pub answer_by : Last → Answer
answer_by (Comes e) = trees.Comes e []
answer_by (Fails x) = trees.Fails x

module _ (pages : Pages) (Owes : Option Lock → (spare : ℕ) → Alpha → Tree → Type 0) (Form : VaxState → (held : Flags) → Regs → Type 0) (settle : Last → Last) where
  -- at a place that a step leads to, with so many steps left and this of the tree
  abbrev pub OwedPlace : Option Lock → (spare : ℕ) → Tree → Place → Type 0
  OwedPlace lock spare t (Inside alpha) = Owes lock spare alpha t
  OwedPlace lock spare t (Lands state held regs) = (lock ≡ None) × (t ≡ Ends (Finish state)) × Form state held regs
  OwedPlace lock spare t (Leaves last) = (lock ≡ None) × (answer pages t [] ≡ answer_by (settle last))

  -- behind an entry: one that counts is of the next reference, and may allow steps more
  abbrev pub OwedBehind : (spare : ℕ) → Tree → Entry → Place → Type 0
  OwedBehind spare t e place =
      MatchBool (is_counted e)
      ((more : ℕ) × (more ≤ block_steps) × MadeBy t e (λ u. OwedPlace (lock_by e.kind e.quad e.before) (spare + more) u place))
      (OwedPlace (lock_by e.kind e.quad e.before) (more_by e.kind e.success spare) t place)

  -- where Alpha code may make these kinds of accesses for a reference
  module _ (each : Reference → Kinds) where
    pub record OwedAccess (retired : ℕ) (lock : Option Lock) (spare : ℕ) (t : Tree) (request : Request) (on : ℕ → Bool → Place) : Type 0 where
      pub same : request.retired ≡ retired
      pub paired : Paired request.kind lock (if is_memory request.kind then request.quad else 0)
      pub alpha : IsAlpha request.kind each (head_of t)
      pub behind : (before : ℕ) (success : Bool) → IsFair request.kind lock (if is_memory request.kind then request.quad else 0) before success
          → OwedBehind spare t (entry_by request before success) (on before success)

    abbrev pub OwedNext : (retired : ℕ) → Option Lock → (spare : ℕ) → Tree → Next → Type 0
    OwedNext retired lock spare t (Moves place) = (u : Tree) × Path pages t [] u × OwedPlace lock spare u place
    OwedNext retired lock spare t (Wants request on) = OwedAccess retired lock spare t request on
    OwedNext retired lock spare t Stuck = ⊥
