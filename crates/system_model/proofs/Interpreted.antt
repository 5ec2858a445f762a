-- An interpreted instruction at worked rows: it reads a byte, writes the next number, and goes on two bytes further.
use Rattle.std.proofs.Common.{◌≡◌, ℕ, ◌+◌, ◌==◌, true, if◌then◌else◌, [], ◌∷◌, Option, Some, None, refl, replicate}
use Rattle.vax_form.specs.Tree.{Tree, Ask, Fault, Ends, Finish, Exit}
use Rattle.vax_form.specs.declared.pages.Pages.{Pages}
use Rattle.vax_form.specs.declared.state.Exception.TheVariants.{Breakpoint}
use Rattle.vax_form.specs.declared.state.Reference.{Reference}
use Rattle.vax_form.specs.declared.state.RefKind.{RefKind}
use Rattle.vax_form.specs.declared.state.RefKind.TheVariants.{Read, Write}
use Rattle.vax_form.specs.declared.state.Pending.TheVariants.{Nothing}
use Rattle.vax_form.specs.declared.state.VaxState.{VaxState}
use Rattle.memory_core.specs.declared.entry.Entry.{Entry}
use Rattle.memory_core.specs.declared.entry.Kind.TheVariants as kinds
use Rattle.memory_core.specs.Bytes.{with_bytes}
use Rattle.block_law.specs.Translations.{Meaning}
use Rattle.system_model.specs.Interpreted.{interpreted}
use Rattle.system_model.specs.Processors.{New, Interprets, Ended, Processor, begun, all_held, turn, Went, entry_by, request_of, Reaches, Begins, Steps, Takes}
use Rattle.system_model.specs.Settings.{Setting, goes_on}
use Rattle.vax_driven.specs.declared.thread.End.TheVariants.{Raised}
use Rattle.system_model.specs.declared.translation.Range.{Range}

abbrev state_at : (pc : ℕ) → VaxState
state_at pc = record { r = replicate 15 0; pc = pc; psw = 0; handler = 0; pending = Nothing }

abbrev byte : RefKind → Reference
byte kind = record { address = 0x1001; count = 1; kind = kind }

-- at 200 the increment, at 202 a breakpoint
abbrev tree_at : (pc : ℕ) → Tree
tree_at pc =
    if pc == 0x200 then Ask (byte Read) (λ found. Ask (byte (Write (found + 1))) (λ _. Ends (Finish (state_at 0x202))))
    else Fault Breakpoint

abbrev range : (first last : ℕ) → Range
range first last = record { thread = 0; first = first; last = last }

module _ (pages : Pages) where
  abbrev meaning : Meaning
  meaning = record {
    pages = pages;
    tree = λ thread state. tree_at state.pc;
    moment = λ thread state. tree_at state.pc;
    serve = λ thread code state. Ends (Exit state);
    written = λ address. all_held;
  }

  -- 200 is mapped
  abbrev mapped : Setting
  mapped = record { meaning = meaning; code = record { words = 0 ∷ []; map = (0x200, 0) ∷ []; points = [] }; ranges = [] }

  -- and in a range of thread 0
  abbrev ranged : Setting
  ranged = record mapped { ranges = range 0x200 0x201 ∷ [] }

  in_code : goes_on mapped 0 (state_at 0x200) ≡ Some 0
  in_code = refl

  in_range : goes_on ranged 0 (state_at 0x200) ≡ None
  in_range = refl

  range_of_another : goes_on ranged 1 (state_at 0x200) ≡ Some 0
  range_of_another = refl

  -- ---- its turns
  abbrev reads : Entry
  reads = entry_by (request_of 0 0 (byte Read)) 0x4100 true

  abbrev writes : Entry
  writes = entry_by (request_of 0 0 (byte (Write 0x42))) 0x4100 true

  abbrev behind : Processor
  behind = record (begun 0 (state_at 0x202)) { mode = Interprets (state_at 0x202) []; retired = 1; steps = 3; interpreted = 3 }

  -- two references and its end are three steps
  increments : Reaches ranged (begun 0 (state_at 0x200)) 3 (writes ∷ reads ∷ []) behind
  increments = Steps (Takes (Takes Begins refl 0x4100 true) refl 0x4100 true) refl

  leaves : writes ≡ record { retired = 0; before = 0x4100; after = 0x4200; quad = 0x1000; processor = 0; kind = kinds.TieWrite; success = true }
  unfolding with_bytes
  leaves = refl

  -- the fault behind it is a fourth, and leaves the boundary
  abbrev ended : Processor
  ended = record behind { mode = Ended (Raised Breakpoint); steps = 4; interpreted = 4 }

  faults : turn ranged behind ≡ Went ended
  faults = refl

  -- ---- the interpreted steps of the driven thread
  abbrev begins : (thread : ℕ) → Option VaxState
  begins thread = Some (state_at 0x200)

  before_it : interpreted ranged begins 0 0 [] New ≡ 0
  before_it = refl

  behind_its_read : interpreted ranged begins 0 0 (0x41 ∷ []) (Interprets (state_at 0x200) (0x41 ∷ [])) ≡ 1
  behind_its_read = refl

  behind_it : interpreted ranged begins 0 1 (0x41 ∷ 0 ∷ []) behind.mode ≡ 3
  behind_it = refl

  with_the_fault : interpreted ranged begins 0 1 (0x41 ∷ 0 ∷ []) ended.mode ≡ 4
  with_the_fault = refl

  translated : interpreted mapped begins 0 1 (0x41 ∷ 0 ∷ []) (Interprets (state_at 0x202) []) ≡ 0
  translated = refl
