-- A turn keeps its processor's thread, makes one step, and asks for that thread.
use Rattle.std.proofs.Common.{◌≡◌, ℕ, suc, ◌%◌, ◌^◌, ◌==◌, Bool, true, false, if◌then◌else◌, ◌≤◌, ap, arith, List, Option, Some, None, refl}
use Rattle.alpha_encode.specs.declared.instr.AlphaInstr.{AlphaInstr}
use Rattle.alpha_meaning.specs.Act.{Does, Goes, Asks as AsksAccess, Calls, act}
use Rattle.alpha_meaning.specs.State.{Alpha}
use Rattle.alpha_meaning.specs.declared.access.AlphaAccess.{AlphaAccess}
use Rattle.block_law.specs.Follows.{Call, Probe, LookUp, Serve, Raise, Arithmetic, Switch, Other, call_of}
use Rattle.block_law.specs.Translations.{fetch_of}
use Rattle.exception_records.specs.Points.{point_at, raised_at}
use Rattle.exception_records.specs.declared.points.Point.{Point}
use Rattle.exception_records.specs.declared.rules.Rules.{Rules}
use Rattle.memory_core.specs.declared.entry.Change.TheVariants.{Nothing, Byte}
use Rattle.memory_core.specs.declared.entry.Kind.TheVariants as kinds
use Rattle.block_law.specs.Placements.{target}
use Rattle.memory_core.specs.declared.entry.Request.{Request}
use Rattle.vax_form.specs.Tree.{Finish, Exit, Trap, Answer, answer}
use Rattle.vax_form.specs.Tree as trees
use Rattle.vax_form.specs.declared.state.Exception.{Exception}
use Rattle.vax_form.specs.declared.state.VaxState.{VaxState}
use Rattle.system_model.specs.Settings.{Setting}
use Rattle.vax_form.specs.State.{with_pending}
use Rattle.vax_form.specs.declared.state.Pending.TheVariants.{Resume}
use Rattle.system_model.specs.Steps.{Last, Comes, Fails, Place, Inside, Lands, Leaves, Next, Moves, Wants, Moment, state_at, behind, with_r0, is_defined, accesses, raised, served, called, does, next_by, next, settled_last, exchanged}
use Rattle.system_model.specs.Steps as step
use Rattle.system_model.specs.Processors.{Mode, New, Runs, Interprets, Ended, Processor, moment_of, stepped, tied, left, placed, Turn, Went, Asks, Over, Stuck, alpha_turn, tie_turn, turn_in, mode_of, turn}

-- the request of a step is its thread's, and tells the instructions that had retired
abbrev IsOwn : (thread retired : ℕ) → Next → Type 0
IsOwn thread retired (Moves place) = Unit {0}
IsOwn thread retired (Wants request on) = (request.processor ≡ thread) × (request.retired ≡ retired)
IsOwn thread retired step.Stuck = Unit {0}

own_access : (b : Bool) (setting : Setting) (m : Moment) (i : AlphaInstr) (a : AlphaAccess) (c : Alpha) → IsOwn m.thread m.retired (accesses b setting m i a c)
own_access true setting m i a c = (refl, refl)
own_access false setting m i a c = tt

own_raised : (thread retired : ℕ) (o : Option Exception) → IsOwn thread retired (raised o)
own_raised thread retired None = tt
own_raised thread retired (Some x) = tt

own_choices : (thread retired : ℕ) (one two three four five six : Bool) (exit : Place) (put get : Request) (stays : Place) (gets : ℕ → Bool → Place) (tells swaps resumes none : Place) → (put.processor ≡ thread) × (put.retired ≡ retired) → (get.processor ≡ thread) × (get.retired ≡ retired)
    → IsOwn thread retired (if one then Moves exit else if two then Wants put (λ before success. stays) else if three then Wants get gets else if four then Moves tells else if five then Moves swaps else if six then Moves resumes else Moves none)
own_choices thread retired true two three four five six exit put get stays gets tells swaps resumes none p g = tt
own_choices thread retired false true three four five six exit put get stays gets tells swaps resumes none p g = p
own_choices thread retired false false true four five six exit put get stays gets tells swaps resumes none p g = g
own_choices thread retired false false false true five six exit put get stays gets tells swaps resumes none p g = tt
own_choices thread retired false false false false true six exit put get stays gets tells swaps resumes none p g = tt
own_choices thread retired false false false false false true exit put get stays gets tells swaps resumes none p g = tt
own_choices thread retired false false false false false false exit put get stays gets tells swaps resumes none p g = tt

own_served : (setting : Setting) (m : Moment) (code : ℕ) (rules : Rules) (c : Alpha) → IsOwn m.thread m.retired (served setting m code rules c)
own_served setting m code rules c =
    own_choices m.thread m.retired (code == 1) (code == 2) (code == 3) (code == 4) (code == 5) (code == 6) (Leaves (Comes (Exit (state_at m.boundary c.regs (target c.regs) rules m.held))))
    (record { processor = m.thread; retired = m.retired; kind = kinds.Put; quad = 0; change = Byte (c.regs 0 % 256) })
    (record { processor = m.thread; retired = m.retired; kind = kinds.Get; quad = 0; change = Nothing })
    (behind setting m c c.regs) (λ before success. behind setting m c (with_r0 c.regs before)) (behind setting m c (with_r0 c.regs m.thread))
    (Leaves (Comes (Finish (exchanged (state_at m.boundary c.regs (target c.regs) rules m.held)))))
    (Leaves (Comes (Finish (with_pending Resume (state_at m.boundary c.regs (target c.regs) rules m.held)))))
    (behind setting m c (with_r0 c.regs 0)) (refl, refl) (refl, refl)

own_called : (setting : Setting) (m : Moment) (call : Call) (point : Option Point) (c : Alpha) → IsOwn m.thread m.retired (called setting m call point c)
own_called setting m Probe (Some point) c = tt
own_called setting m Probe None c = tt
own_called setting m Serve (Some point) c = own_served setting m (c.regs 21 % 2 ^ 16) point.rules c
own_called setting m Serve None c = tt
own_called setting m Raise (Some point) c = own_raised m.thread m.retired (raised_at point.raises)
own_called setting m Raise None c = tt
own_called setting m Arithmetic (Some point) c = tt
own_called setting m Arithmetic None c = tt
own_called setting m LookUp point c = tt
own_called setting m Switch point c = tt
own_called setting m Other point c = tt

own_does : (setting : Setting) (m : Moment) (i : AlphaInstr) (what : Does) (c : Alpha) → IsOwn m.thread m.retired (does setting m i what c)
own_does setting m i (Goes d) c = tt
own_does setting m i (AsksAccess a) c = own_access (is_defined setting a) setting m i a c
own_does setting m i (Calls number) c = own_called setting m (call_of number) (point_at setting.code.points c.pc) c

own_next_by : (setting : Setting) (m : Moment) (o : Option AlphaInstr) (c : Alpha) → IsOwn m.thread m.retired (next_by setting m o c)
own_next_by setting m None c = tt
own_next_by setting m (Some i) c = own_does setting m i (act i c) c

own_next : (setting : Setting) (m : Moment) (c : Alpha) → IsOwn m.thread m.retired (next setting m c)
unfolding next
own_next setting m c = own_next_by setting m (fetch_of setting.code.words c.pc) c

-- ---- one step of one thread
pub record IsStep (p q : Processor) : Type 0 where
  pub thread : q.thread ≡ p.thread
  pub steps : q.steps ≡ suc p.steps

left_step : (setting : Setting) (p q : Processor) (last : Last) → IsStep p q → IsStep p (left setting q last)
left_step setting p q (Comes (Finish s)) h = record { thread = h.thread; steps = h.steps }
left_step setting p q (Comes (Exit s)) h = record { thread = h.thread; steps = h.steps }
left_step setting p q (Comes (Trap kind s)) h = record { thread = h.thread; steps = h.steps }
left_step setting p q (Fails x) h = record { thread = h.thread; steps = h.steps }

placed_step : (setting : Setting) (p : Processor) (to : Place) → IsStep p (placed setting (stepped p) to)
placed_step setting p (Inside alpha) = record { thread = refl; steps = refl }
placed_step setting p (Lands s held regs) = record { thread = refl; steps = refl }
placed_step setting p (Leaves last) = left_step setting p (stepped p) (settled_last p.boundary last) (record { thread = refl; steps = refl })

abbrev pub Makes : Processor → Turn → Type 0
Makes p (Went q) = IsStep p q
Makes p (Asks request on) = (request.processor ≡ p.thread) × ((before : ℕ) (success : Bool) → IsStep p (on before success))
Makes p Over = Unit {0}
Makes p Stuck = Unit {0}

alpha_makes : (setting : Setting) (p : Processor) (to : Next) → IsOwn p.thread p.retired to → Makes p (alpha_turn setting p to)
alpha_makes setting p (Moves to) h = placed_step setting p to
alpha_makes setting p (Wants request on) h = (h.0, λ before success. placed_step setting p (on before success))
alpha_makes setting p step.Stuck h = tt

tie_makes : (setting : Setting) (p : Processor) (state : VaxState) (replies : List ℕ) (a : Answer) → Makes p (tie_turn setting p state replies a)
tie_makes setting p state replies (trees.Wants q) = (refl, λ before success. record { thread = refl; steps = refl })
tie_makes setting p state replies (trees.Fails x) = left_step setting p (tied p) (Fails x) (record { thread = refl; steps = refl })
tie_makes setting p state replies (trees.Comes x rest) = left_step setting p (tied p) (Comes x) (record { thread = refl; steps = refl })

makes_in : (setting : Setting) (p : Processor) (mode : Mode) → Makes p (turn_in setting p mode)
makes_in setting p New = tt
makes_in setting p (Runs alpha) = alpha_makes setting p (next setting (moment_of p) alpha) (own_next setting (moment_of p) alpha)
makes_in setting p (Interprets state replies) = tie_makes setting p state replies (answer setting.meaning.pages (setting.meaning.moment p.thread state) replies)
makes_in setting p (Ended end) = tt

pub makes : (setting : Setting) (p : Processor) → Makes p (turn setting p)
makes setting p = makes_in setting p (mode_of setting p p.mode)

-- ---- one step retires one instruction at most
pub record RetiresOne (p q : Processor) : Type 0 where
  pub least : p.retired ≤ q.retired
  pub most : q.retired ≤ suc p.retired

same_retired : (p q : Processor) → q.retired ≡ p.retired → RetiresOne p q
same_retired p q h = record { least = omega (arith, h); most = omega (arith, h) }

more_retired : (p q : Processor) → q.retired ≡ suc p.retired → RetiresOne p q
more_retired p q h = record { least = omega (arith, h); most = omega (arith, h) }

left_retires : (setting : Setting) (p q : Processor) (last : Last) → q.retired ≡ p.retired → RetiresOne p (left setting q last)
left_retires setting p q (Comes (Finish s)) h = more_retired p _ (ap suc h)
left_retires setting p q (Comes (Exit s)) h = more_retired p _ (ap suc h)
left_retires setting p q (Comes (Trap kind s)) h = more_retired p _ (ap suc h)
left_retires setting p q (Fails x) h = same_retired p _ h

placed_retires : (setting : Setting) (p : Processor) (to : Place) → RetiresOne p (placed setting (stepped p) to)
placed_retires setting p (Inside alpha) = same_retired p _ refl
placed_retires setting p (Lands s held regs) = more_retired p _ refl
placed_retires setting p (Leaves last) = left_retires setting p (stepped p) (settled_last p.boundary last) refl

abbrev pub Retires : Processor → Turn → Type 0
Retires p (Went q) = RetiresOne p q
Retires p (Asks request on) = (request.retired ≡ p.retired) × ((before : ℕ) (success : Bool) → RetiresOne p (on before success))
Retires p Over = Unit {0}
Retires p Stuck = Unit {0}

alpha_retires : (setting : Setting) (p : Processor) (to : Next) → IsOwn p.thread p.retired to → Retires p (alpha_turn setting p to)
alpha_retires setting p (Moves to) h = placed_retires setting p to
alpha_retires setting p (Wants request on) h = (h.1, λ before success. placed_retires setting p (on before success))
alpha_retires setting p step.Stuck h = tt

tie_retires : (setting : Setting) (p : Processor) (state : VaxState) (replies : List ℕ) (a : Answer) → Retires p (tie_turn setting p state replies a)
tie_retires setting p state replies (trees.Wants q) = (refl, λ before success. same_retired p _ refl)
tie_retires setting p state replies (trees.Fails x) = left_retires setting p (tied p) (Fails x) refl
tie_retires setting p state replies (trees.Comes x rest) = left_retires setting p (tied p) (Comes x) refl

retires_in : (setting : Setting) (p : Processor) (mode : Mode) → Retires p (turn_in setting p mode)
retires_in setting p New = tt
retires_in setting p (Runs alpha) = alpha_retires setting p (next setting (moment_of p) alpha) (own_next setting (moment_of p) alpha)
retires_in setting p (Interprets state replies) = tie_retires setting p state replies (answer setting.meaning.pages (setting.meaning.moment p.thread state) replies)
retires_in setting p (Ended end) = tt

pub retires : (setting : Setting) (p : Processor) → Retires p (turn setting p)
retires setting p = retires_in setting p (mode_of setting p p.mode)
