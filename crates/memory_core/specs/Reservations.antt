-- What a memory keeps of each processor. Its tries are counted modulo the miss number, so that they need no bound.
use Rattle.std.specs.Prelude.{ℕ, zero, suc, ◌==◌, ◌&&◌, Bool, true, false, Option, Some, None, nat_lt, if◌then◌else◌}
use Rattle.memory_core.specs.declared.entry.Kind.{Kind}
use Rattle.memory_core.specs.declared.entry.Kind.TheVariants.{LoadLocked, StoreConditional}
use Rattle.memory_core.specs.declared.entry.Entry.{Entry}
use Rattle.memory_core.specs.declared.reservation.Reservation.{Reservation}
use Rattle.memory_core.specs.Kinds.{writes}
use Rattle.memory_core.specs.Order.{block_of}

abbrev pub holds : Option ℕ → ℕ → Bool
holds None block = false
holds (Some b) block = b == block

abbrev pub none : Reservation
none = record { block = None; tries = 0 }

-- one try more: 0 again at the miss number, and always where that is 0
abbrev pub next_tries : (miss tries : ℕ) → ℕ
next_tries miss tries = if nat_lt (suc tries) miss then suc tries else 0

-- what is counted of so many tries
abbrev pub counted_tries : (miss tries : ℕ) → ℕ
counted_tries miss zero = 0
counted_tries miss (suc n) = next_tries miss (counted_tries miss n)

-- behind an entry of the processor's own
abbrev pub own_next : (miss : ℕ) → Kind → (block : ℕ) → Reservation → Reservation
own_next miss LoadLocked block r = record { block = Some block; tries = r.tries }
own_next miss StoreConditional block r = record { block = None; tries = next_tries miss r.tries }
own_next miss _ block r = r

-- behind an entry of another processor
abbrev pub other_next : (written : Bool) → (block : ℕ) → Reservation → Reservation
other_next written block r = if written && holds r.block block then record { block = None; tries = r.tries } else r

-- behind a write to the block by that processor
abbrev pub cleared_by : (writer block processor : ℕ) → Reservation → Reservation
cleared_by writer block processor r = if writer == processor then r else other_next true block r

abbrev pub next_reservation : (miss : ℕ) → Entry → (processor : ℕ) → Reservation → Reservation
next_reservation miss e processor r =
    if e.processor == processor
    then own_next miss e.kind (block_of e.quad) r
    else other_next (writes e.kind e.success) (block_of e.quad) r
