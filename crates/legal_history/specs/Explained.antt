-- The entries of one thread against what the thread wants. Lists of entries are newest first.
use Rattle.std.specs.Prelude.{◌≡◌, ℕ, true, List, [], ◌∷◌, ◌++◌, Option, Some, None, if◌then◌else◌}
use Rattle.vax_form.specs.declared.state.Reference.{Reference}
use Rattle.memory_core.specs.declared.entry.Entry.{Entry}
use Rattle.vax_driven.specs.Threads.{Threads, wanted}
use Rattle.system_model.specs.Counted.{is_counted}
use Rattle.system_model.specs.Quadwords.{reply_from, IsOf}

-- the replies with the entry's, where its thread wants a reference
abbrev pub with_reply : List ℕ → Entry → Option Reference → List ℕ
with_reply replies e None = replies
with_reply replies e (Some reference) = replies ++ reply_from reference e ∷ []

-- the replies that a thread gets by its own entries, in order: one by each counted entry
abbrev pub replies_by : Threads → (thread : ℕ) → List Entry → List ℕ
replies_by threads thread [] = []
replies_by threads thread (e ∷ mine) =
    if is_counted e
    then with_reply (replies_by threads thread mine) e (wanted threads thread e.retired (replies_by threads thread mine))
    else replies_by threads thread mine

-- an entry of a reference that the thread wants after the instructions that had retired
pub record IsWanted (threads : Threads) (thread : ℕ) (replies : List ℕ) (e : Entry) : Type 0 where
  pub reference : Reference
  pub wants : wanted threads thread e.retired replies ≡ Some reference
  pub of : IsOf reference e

-- each counted entry is of the reference that the thread wants then
abbrev pub Explained : Threads → (thread : ℕ) → List Entry → Type 0
Explained threads thread [] = Unit {0}
Explained threads thread (e ∷ mine) =
    Explained threads thread mine × (is_counted e ≡ true → IsWanted threads thread (replies_by threads thread mine) e)
