-- What each step tells its pass: of the step, the seat before, the number found and the seat after.
use Rattle.std.specs.Prelude.{◌≡◌, ◌≢◌, ℕ, List, [], ◌∷◌, Option, Some, None, false}
use mathlib.Core.List.{IsPrefix}
use Rattle.atomic_table.specs.Table.{Me, Step, rest}
use Rattle.memory_core.specs.declared.entry.Entry.{Entry}
use Rattle.memory_core.specs.declared.state.MemState.{MemState}
use Rattle.memory_core.specs.Order.{own}
use Rattle.shared_memory.specs.declared.view.View.{View}
use Rattle.shared_memory.specs.Lists.{times}
use Rattle.shared_memory.specs.Rule.{behind, IsLegal}

abbrev pub Sat : Type 0
Sat = Me (Option MemState) View

abbrev pub PlayOf : Type 1
PlayOf = Step (Option MemState) → Sat → ℕ → Sat → Type 0

abbrev pub winning : View → List Entry → View
winning v h = record v { turn = 1; found = h }

-- the pass has the turn, and the slot with the memory and the history that it found
pub record Won (m w : Sat) : Type 0 where
  pub history : List Entry
  pub is : w ≡ (winning m.0 history, (0, Some (behind m.0.start history)) ∷ m.1)
  pub later : IsPrefix m.0.seen history
  pub legal : IsLegal m.0.start.set_up history
  pub own : own m.0.number history ≡ m.0.own

-- the turn is won where word 1 was 0, and else nothing changes
abbrev pub Wins : PlayOf
Wins st m r w = (r ≡ 0 → Won m w) × (r ≢ 0 → w ≡ m)

-- the history of the memory that the step announces
abbrev pub said_history : mathlib.Core.Option.Option (Option MemState) → List Entry
said_history mathlib.Core.Option.none = []
said_history (mathlib.Core.Option.some None) = []
said_history (mathlib.Core.Option.some (Some m)) = m.history

abbrev pub entered : View → List Entry → View
entered v h = record v { found = h; seen = h; own = own v.number h }

-- the history is that of the memory announced, which is longer by entries of the pass's own, or as long
abbrev pub Enters : PlayOf
Enters st m r w = w ≡ (entered m.0 (said_history st.said), m.1)

abbrev pub given_back : View → View
given_back v = record v { turn = 0; found = [] }

-- the slot goes home, and the turn is free
abbrev pub GivesBack : PlayOf
GivesBack st m r w = w ≡ (given_back m.0, rest m.1)

abbrev pub choosing : View → ℕ → View
choosing v p = record v { chosen = p }

-- the keeper chooses a number; where it was never given, nothing that the keeper has seen is of it
abbrev pub Chooses : PlayOf
Chooses st m r w = (w ≡ (choosing m.0 st.first, m.1)) × (times st.first m.0.given ≡ 0 → own st.first m.0.seen ≡ [])

-- the pass has the turn, and the memory is out of the slot
abbrev pub HasTurn : Sat → Type 0
HasTurn m = (m.0.turn ≡ 1) × (m.0.keeps ≡ false) × (m.1 ≡ (0, None) ∷ [])
