-- A handler at worked rows: set in translated code, it takes the exceptions of what is interpreted and of what is translated.
use Rattle.std.proofs.Common.{◌≡◌, ℕ, [], ◌∷◌, replicate, None, refl}
use Rattle.alpha_meaning.specs.State.{Alpha, at_place}
use Rattle.exception_records.specs.Codes.{all_ready}
use Rattle.vax_form.specs.Moments.{delivering, handled}
use Rattle.vax_form.specs.Tree.{Fault, Ends, Finish, Exit}
use Rattle.vax_form.specs.declared.pages.Pages.{Pages}
use Rattle.vax_form.specs.declared.state.Exception.TheVariants.{Breakpoint}
use Rattle.vax_form.specs.declared.state.Pending.TheVariants.{Nothing}
use Rattle.vax_form.specs.declared.state.VaxState.{VaxState}
use Rattle.block_law.specs.Placements.{target}
use Rattle.block_law.specs.Translations.{Meaning}
use Rattle.system_model.specs.Processors.{Interprets, Runs, Processor, all_held, begun, moment_of, placed, registers_of, stepped, turn, Went}
use Rattle.system_model.specs.Settings.{Setting, goes_on}
use Rattle.system_model.specs.Steps.{Comes, Fails, Leaves, Moves, exchanged, served, state_at}

-- R0, the PC and the handler
abbrev state : (r0 pc handler : ℕ) → VaxState
state r0 pc handler = record { r = r0 ∷ replicate 14 0; pc = pc; psw = 0; handler = handler; pending = Nothing }

module _ (pages : Pages) where
  -- each instruction is a breakpoint; that at 200 is mapped
  abbrev meaning : Meaning
  meaning = record {
    pages = pages;
    tree = λ thread state. Fault Breakpoint;
    moment = λ thread state. handled pages state (Fault Breakpoint);
    serve = λ thread code state. Ends (Exit state);
    written = λ address. all_held;
  }

  abbrev setting : Setting
  setting = record { meaning = meaning; code = record { words = 0 ∷ []; map = (0x200, 0) ∷ []; points = [] }; ranges = [] }

  abbrev alpha : Alpha
  alpha = at_place (registers_of (state 0x20C 0x200 0)) 0

  abbrev runs : Processor
  runs = record (begun 0 (state 0x20C 0x200 0)) { mode = Runs alpha }

  -- ---- service 5 leaves translated code, with R0 and the handler exchanged
  serves : served setting (moment_of runs) 5 all_ready alpha ≡ Moves (Leaves (Comes (Finish (exchanged (state_at (state 0x20C 0x200 0) alpha.regs (target alpha.regs) all_ready all_held)))))
  serves = refl

  exchanges : exchanged (state 0x20C 0x202 0) ≡ state 0 0x202 0x20C
  exchanges = refl

  -- the instruction behind it is not mapped, and is interpreted
  abbrev behind : Processor
  behind = record runs { mode = Interprets (state 0 0x202 0x20C) []; boundary = state 0 0x202 0x20C; retired = 1; steps = 1 }

  arrives : placed setting (stepped runs) (Leaves (Comes (Finish (state 0 0x202 0x20C)))) ≡ behind
  arrives = refl

  -- its breakpoint goes to the handler that was set
  abbrev delivers : VaxState
  delivers = delivering Breakpoint (state 0 0x202 0x20C)

  takes : turn setting behind ≡ Went (record behind { mode = Interprets delivers []; boundary = delivers; retired = 2; steps = 2; interpreted = 1 })
  takes = refl

  -- ---- a fault in translated code, with that handler
  abbrev translated : Processor
  translated = record runs { boundary = state 0 0x200 0x20C }

  -- the PC is still mapped, but an exception is pending
  pends : goes_on setting 0 (delivering Breakpoint (state 0 0x200 0x20C)) ≡ None
  pends = refl

  leaves : placed setting (stepped translated) (Leaves (Fails Breakpoint))
      ≡ record translated { mode = Interprets (delivering Breakpoint (state 0 0x200 0x20C)) []; boundary = delivering Breakpoint (state 0 0x200 0x20C); retired = 1; steps = 1 }
  leaves = refl
