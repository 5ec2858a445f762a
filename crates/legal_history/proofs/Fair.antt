-- What the order of accesses tells a processor of its own entries. They are newest first.
use Rattle.std.proofs.Common.{◌≡◌, ℕ, ◌<◌, ◌^◌, ◌⊎◌, Bool, true, false, List, [], ◌∷◌, Option, Some, None}
use Rattle.memory_core.specs.declared.entry.Kind.{Kind}
use Rattle.memory_core.specs.declared.entry.Kind.TheVariants.{Put, Get}
use Rattle.memory_core.specs.declared.entry.Entry.{Entry}
use Rattle.memory_core.specs.Kinds.{is_conditional}
use Rattle.legal_history.specs.Entries.{Lock, lock_of}

-- what is found behind a lock of the quadword is what the lock found
abbrev pub FindsLocked : Option Lock → (quad before : ℕ) → Type 0
FindsLocked None quad before = Unit {0}
FindsLocked (Some lock) quad before = quad ≡ lock.quad → before ≡ lock.found

-- What one access finds is a quadword, an input byte or what stands for its end, and nothing for a PUT. Only a store
-- conditional fails. Where one succeeds behind a load-locked access of its quadword, it finds what that one found.
pub record IsFair (kind : Kind) (lock : Option Lock) (quad before : ℕ) (success : Bool) : Type 0 where
  pub small : before < 2 ^ 64
  pub others : is_conditional kind ≡ false → success ≡ true
  pub locked : is_conditional kind ≡ true → success ≡ true → FindsLocked lock quad before
  pub input : kind ≡ Get → (before < 256) ⊎ (before ≡ 0xFFFFFFFF)
  pub output : kind ≡ Put → before ≡ 0

-- each of a processor's entries is fair behind those before it
abbrev pub AllFair : List Entry → Type 0
AllFair [] = Unit {0}
AllFair (e ∷ mine) = AllFair mine × IsFair e.kind (lock_of mine) e.quad e.before e.success
