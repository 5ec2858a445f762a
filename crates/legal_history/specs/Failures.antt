-- Why store conditionals fail. Lists of entries are newest first.
-- Alpha Architecture Reference Manual, "Store Integer Register Data into Memory Conditional".
use Rattle.std.specs.Prelude.{◌≡◌, ℕ, suc, ◌==◌, ◌&&◌, ◌||◌, ◌⊎◌, Bool, true, false, List, [], ◌∷◌, if◌then◌else◌}
use Rattle.memory_core.specs.declared.entry.Entry.{Entry}
use Rattle.memory_core.specs.declared.entry.SetUp.{SetUp}
use Rattle.memory_core.specs.Kinds.{writes}
use Rattle.memory_core.specs.Order.{block_of, strikes, tries}
use Rattle.legal_history.specs.Entries.{fails}

-- since the processor's latest entry another one has written the block
abbrev pub is_written_since : List Entry → (processor block : ℕ) → Bool
is_written_since [] processor block = false
is_written_since (e ∷ past) processor block =
    if e.processor == processor then false
    else (writes e.kind e.success && (block_of e.quad == block)) || is_written_since past processor block

-- each store conditional that failed did so because another processor wrote the block since the load-locked access that
-- stands before it, or because the miss rule struck
abbrev pub FailForCause : SetUp → List Entry → Type 0
FailForCause set_up [] = Unit {0}
FailForCause set_up (e ∷ past) =
    FailForCause set_up past
    × (fails e.kind e.success ≡ true
    → (is_written_since past e.processor (block_of e.quad) ≡ true) ⊎ (strikes set_up.miss (suc (tries past e.processor)) ≡ true))
