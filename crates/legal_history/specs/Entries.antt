-- How the entries of one processor go together. They are newest first.
use Rattle.std.specs.Prelude.{◌≡◌, ℕ, suc, Bool, true, false, List, [], ◌∷◌, Option, Some, None, if◌then◌else◌}
use Rattle.memory_core.specs.declared.entry.Entry.{Entry}
use Rattle.memory_core.specs.declared.entry.Kind.{Kind}
use Rattle.memory_core.specs.declared.entry.Kind.TheVariants.{LoadLocked, StoreConditional}
use Rattle.system_model.specs.Counted.{is_counted}

-- the processor's entry directly before was a load-locked access of this quadword, and found this
pub record Lock : Type 0 where
  pub quad : ℕ
  pub found : ℕ

-- what an entry of a load-locked access locks and found
abbrev pub lock_by : Kind → (quad before : ℕ) → Option Lock
lock_by LoadLocked quad before = Some (record { quad = quad; found = before })
lock_by _ quad before = None

-- the lock that the newest entry is
abbrev pub lock_of : List Entry → Option Lock
lock_of [] = None
lock_of (e ∷ mine) = lock_by e.kind e.quad e.before

-- a store conditional stands directly behind a load-locked access of the same quadword, and each load-locked one
-- directly before a store conditional
abbrev pub Paired : Kind → Option Lock → (quad : ℕ) → Type 0
Paired StoreConditional None quad = ⊥
Paired StoreConditional (Some lock) quad = quad ≡ lock.quad
Paired _ None quad = Unit {0}
Paired _ (Some lock) quad = ⊥

-- each store conditional stands directly behind a load-locked access of its quadword, and each load-locked access
-- directly before a store conditional or is the latest
abbrev pub AllPaired : List Entry → Type 0
AllPaired [] = Unit {0}
AllPaired (e ∷ mine) = AllPaired mine × Paired e.kind (lock_of mine) e.quad

-- how many entries count
abbrev pub counted_in : List Entry → ℕ
counted_in [] = 0
counted_in (e ∷ mine) = if is_counted e then suc (counted_in mine) else counted_in mine

-- a store conditional that fails
abbrev pub fails : Kind → (success : Bool) → Bool
fails StoreConditional false = true
fails _ success = false

-- how many store conditionals failed
abbrev pub failed_in : List Entry → ℕ
failed_in [] = 0
failed_in (e ∷ mine) = if fails e.kind e.success then suc (failed_in mine) else failed_in mine
