-- What the limit of a memory counts.
use Rattle.std.specs.Prelude.{◌≡◌, ◌≤◌, ℕ, Bool, true, List, length}
use Rattle.memory_core.specs.declared.entry.Entry.{Entry}
use Rattle.memory_core.specs.declared.entry.Kind.{Kind}
use Rattle.memory_core.specs.declared.entry.Limit.{Limit}
use Rattle.memory_core.specs.declared.entry.Limit.TheVariants.{Entries, Puts}
use Rattle.memory_core.specs.Contents.{bytes_put}
use Rattle.memory_core.specs.Kinds.{is_put}

-- whether an access of the kind counts
abbrev pub counts : Limit → Kind → Bool
counts (Entries n) kind = true
counts (Puts n) kind = is_put kind

-- how many entries of a history count, in either order
abbrev pub counted : Limit → List Entry → ℕ
counted (Entries n) entries = length entries
counted (Puts n) entries = bytes_put entries

abbrev pub greatest : Limit → ℕ
greatest (Entries n) = n
greatest (Puts n) = n

abbrev pub IsWithin : Limit → List Entry → Type 0
IsWithin limit entries = counted limit entries ≤ greatest limit

-- there may be no more
abbrev pub IsAtLimit : Limit → List Entry → Type 0
IsAtLimit limit entries = counted limit entries ≡ greatest limit

-- the history is kept
abbrev pub KeepsEntries : Limit → Type 0
KeepsEntries (Entries n) = Unit {0}
KeepsEntries (Puts n) = ⊥

-- bytes that are put are counted
abbrev pub CountsPuts : Limit → Type 0
CountsPuts (Entries n) = ⊥
CountsPuts (Puts n) = Unit {0}

-- the second counts the same, and allows as many
abbrev pub IsAtLeast : Limit → Limit → Type 0
IsAtLeast (Entries m) (Entries n) = m ≤ n
IsAtLeast (Puts m) (Puts n) = m ≤ n
IsAtLeast (Entries m) (Puts n) = ⊥
IsAtLeast (Puts m) (Entries n) = ⊥
