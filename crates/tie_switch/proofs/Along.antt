-- Accesses on a course, and the turns along it.
use Rattle.std.proofs.Common.{◌≡◌, ℕ, suc, ◌+◌, ◌<◌, ◌≤◌, inl, inr, if◌then◌else◌, Bool, true, false, List, [], ◌∷◌, ◌++◌, refl, sym, ap, ◌∙◌, subst, arith}
use Rattle.std.specs.Prelude.{MatchBool, reverse}
use Rattle.std.proofs.lemmas.List.{append-nil, reverse-append}
use Rattle.vt_words.proofs.Tests.{less_differs}
use Rattle.block_law.specs.Translations.{Code}
use Rattle.alpha_machine.specs.Step.{state_of}
use Rattle.alpha_machine.specs.declared.cpu.Cpu.{Cpu}
use Rattle.alpha_meaning.specs.State.{Alpha}
use Rattle.alpha_meaning.specs.declared.access.AlphaKind.{AlphaKind}
use Rattle.alpha_meaning.specs.declared.access.AlphaKind.TheVariants.{Load, LoadLocked, Store, StoreConditional}
use Rattle.memory_core.specs.Contents.{entry_for}
use Rattle.memory_core.specs.Kinds.{is_get, is_put}
use Rattle.memory_core.specs.Limits.{CountsPuts, counts}
use Rattle.memory_core.specs.Order.{gets}
use Rattle.memory_core.specs.Seen.{IsNext, IsOver}
use Rattle.memory_core.specs.declared.entry.Entry.{Entry}
use Rattle.memory_core.specs.declared.entry.Limit.{Limit}
use Rattle.memory_core.specs.declared.entry.Limit.TheVariants.{Entries, Puts}
use Rattle.memory_core.specs.declared.entry.Request.{Request}
use Rattle.memory_core.specs.declared.entry.SetUp.{SetUp}
use Rattle.prepared_code.specs.Asks.{AsksInside}
use Rattle.prepared_code.specs.Sources.{Source}
use Rattle.prepared_code.specs.declared.asked.Asked.{Asked}
use Rattle.system_model.specs.Legal.{spent}
use Rattle.system_model.specs.Processors.{Processor, Runs, Turn, moment_of, turn}
use Rattle.system_model.specs.Settings.{Setting}
use Rattle.system_model.specs.Steps.{is_defined, kind_of, request_for}
use Rattle.system_model.specs.declared.translation.Range.{Range}
use Rattle.vax_form.specs.declared.pages.Pages.{Pages}
use Rattle.vax_form.specs.declared.state.VaxState.{VaxState}
use Rattle.tie_switch.specs.Courses.{Goes, course_of}
use Rattle.tie_switch.specs.ManyTurns.{IsTurns, NoTurn, Turns}
use Rattle.tie_switch.specs.Asks.{HasCourseStep}
use Rattle.tie_switch.specs.Live.{KeepsRead}
use Rattle.tie_switch.specs.Processors.{CanStep, HasSteps, IsPlain, ProcessorValue, processor_of}
use Rattle.tie_switch.specs.Settings.{image_setting}
use Rattle.tie_switch.specs.Turns.{IsStill, Makes}
use Rattle.tie_switch.specs.declared.course.Course.{Course}
use Rattle.tie_switch.proofs.Advances.{joined, more_makes}
use Rattle.tie_switch.proofs.ManyTurns.{went_are_turns}
use Rattle.tie_switch.proofs.Standing.{plain_is}
use Rattle.tie_switch.proofs.Asks.{Standing, behind_access, goes_inside, is_defined_there, turn_is}

-- ---- an access
-- where its processor stands, which asks for that access
pub stands_at : (source : Source) (a : Asked) (thread : ℕ) (before : VaxState) (interpreted steps : ℕ) (course : Course) → AsksInside source (state_of course.cpu) a
    → Standing source a (course_of thread before interpreted course steps)
stands_at source a thread before interpreted steps course asks = record { alpha = state_of course.cpu; runs = refl; asks = asks }

-- where it has a step, the access is defined
pub defined_at : (setting : Setting) (source : Source) (a : Asked) (set_up : SetUp) (thread : ℕ) (course : Course) → source.code ≡ setting.code → AsksInside source (state_of course.cpu) a
    → HasCourseStep setting set_up thread course → is_defined setting a.access ≡ true
defined_at setting source a set_up thread course e asks h =
    is_defined_there setting source a (course_of thread h.before h.interpreted course h.steps) (stands_at source a thread h.before h.interpreted h.steps course asks) e h.can.goes_on

-- an access that is made is its turn
pub makes_access : (setting : Setting) (source : Source) (a : Asked) (set_up : SetUp) (may_come : List Entry → Type 0) (thread : ℕ) (before : VaxState) (interpreted steps : ℕ) (old : Course) (cpu : Cpu)
    (request : Request) (value : ℕ) (success : Bool) (seen seen' : List Entry) → source.code ≡ setting.code → AsksInside source (state_of old.cpu) a → is_defined setting a.access ≡ true
    → request ≡ request_for (moment_of (course_of thread before interpreted old steps)) a.access
    → IsNext set_up may_come request value success seen seen'
    → state_of cpu ≡ behind_access a (state_of old.cpu) value success
    → Makes (turn setting (course_of thread before interpreted old steps)) set_up may_come (course_of thread before interpreted old steps)
    (course_of thread before interpreted (record old { cpu = cpu }) (steps + 1)) seen seen'
unfolding stands_at
makes_access setting source a set_up may_come thread before interpreted steps old cpu request value success seen seen' e asks defined same entry there =
    let p = course_of thread before interpreted old steps in
    let q = course_of thread before interpreted (record old { cpu = cpu }) (steps + 1) in
    let s = stands_at source a thread before interpreted steps old asks in
    let one : steps + 1 ≡ suc steps = omega arith in
    subst (λ (t : Turn). Makes t set_up may_come p q seen seen') (sym (turn_is setting source a p s e defined))
    (inl (record {
      before = value;
      success = success;
      entry = subst (λ (r : Request). IsNext set_up may_come r value success seen seen') same entry;
      goes =
          ap (λ (c : Alpha). record p { mode = Runs c; steps = steps + 1 }) there
          ∙ ap (λ (n : ℕ). record p { mode = Runs (behind_access a (state_of old.cpu) value success); steps = n }) one
          ∙ sym (goes_inside setting source a p s e value success);
    }))

-- and so is one that is refused
pub makes_none : (setting : Setting) (source : Source) (a : Asked) (set_up : SetUp) (may_come : List Entry → Type 0) (thread : ℕ) (before : VaxState) (interpreted steps : ℕ) (old : Course)
    (request : Request) (seen seen' : List Entry) → source.code ≡ setting.code → AsksInside source (state_of old.cpu) a → is_defined setting a.access ≡ true
    → request ≡ request_for (moment_of (course_of thread before interpreted old steps)) a.access
    → IsOver set_up may_come request seen seen'
    → Makes (turn setting (course_of thread before interpreted old steps)) set_up may_come (course_of thread before interpreted old steps) (spent (course_of thread before interpreted old steps)) seen seen'
unfolding stands_at
makes_none setting source a set_up may_come thread before interpreted steps old request seen seen' e asks defined same over =
    let p = course_of thread before interpreted old steps in
    let s = stands_at source a thread before interpreted steps old asks in
    subst (λ (t : Turn). Makes t set_up may_come p (spent p) seen seen') (sym (turn_is setting source a p s e defined))
    (inr (record { over = subst (λ (r : Request). IsOver set_up may_come r seen seen') same over; goes = refl }))

-- neither asks for a byte of the input, or puts one out
no_get : (kind : AlphaKind) → is_get (kind_of kind) ≡ false
no_get Load = refl
no_get LoadLocked = refl
no_get Store = refl
no_get StoreConditional = refl

no_put : (kind : AlphaKind) → is_put (kind_of kind) ≡ false
no_put Load = refl
no_put LoadLocked = refl
no_put Store = refl
no_put StoreConditional = refl

pub made_reads : (u : SetUp) (may_come : List Entry → Type 0) (request : Request) (kind : AlphaKind) (before : ℕ) (success : Bool) (old new : List Entry) → request.kind ≡ kind_of kind
    → IsNext u may_come request before success old new → KeepsRead may_come old new
made_reads u may_come request kind before success old new is n none =
    let e = entry_for u (old ++ n.between) request in
    let seen : new ≡ old ++ e ∷ [] = n.seen ∙ ap (λ (h : List Entry). h ++ e ∷ []) (ap (λ (b : List Entry). old ++ b) (none n.between n.come) ∙ append-nil old) in
    let turned : reverse new ≡ e ∷ reverse old = ap reverse seen ∙ reverse-append old (e ∷ []) in
    ap gets turned ∙ ap (λ b. if b then suc (gets (reverse old)) else gets (reverse old)) (ap is_get is ∙ no_get kind)

pub refused_reads : (u : SetUp) (may_come : List Entry → Type 0) (request : Request) (old new : List Entry) → IsOver u may_come request old new → KeepsRead may_come old new
refused_reads u may_come request old new over none =
    ap (λ (h : List Entry). gets (reverse h)) (over.seen ∙ ap (λ (b : List Entry). old ++ b) (none over.between over.come) ∙ append-nil old)

-- so where bytes that are put are counted, none is refused
pub none_refused : (u : SetUp) (may_come : List Entry → Type 0) (request : Request) (kind : AlphaKind) (old new : List Entry) → request.kind ≡ kind_of kind → CountsPuts u.limit
    → IsOver u may_come request old new → ⊥
none_refused u may_come request kind old new is puts over = by u.limit puts over.counts
  where
    by : (limit : Limit) → CountsPuts limit → counts limit request.kind ≡ true → ⊥
    by (Entries n) puts counted = puts
    by (Puts n) puts counted = cc (counted, ap is_put is ∙ no_put kind)

-- ---- along the course
-- the code that was made ready is the translation's
pub goes_prepared : (pages pages' : Pages) (code code' : Code) (ranges : List Range) (thread : ℕ) (before : VaxState) (old new : Course) (n : ℕ) → code ≡ code' → pages ≡ pages'
    → Goes (image_setting pages code ranges) thread before old new n → Goes (image_setting pages' code' ranges) thread before old new n
goes_prepared pages pages' code code' ranges thread before old new n e f goes =
    subst (λ (c : Code). Goes (image_setting pages' c ranges) thread before old new n) e (subst (λ (x : Pages). Goes (image_setting x code ranges) thread before old new n) f goes)

module _ (s : Setting) (u : SetUp) (may_come : List Entry → Type 0) (k : ProcessorValue) (begun : List Entry) where
  -- so many turns of it led to that course
  abbrev pub Came : (made : ℕ) → Course → List Entry → Type 0
  Came made course seen = IsTurns s u may_come k.budget (processor_of k) begun made (course_of k.thread k.boundary k.interpreted course (k.steps + made)) seen

  pub came_nowhere : (course : Course) → course_of k.thread k.boundary k.interpreted course k.steps ≡ processor_of k → Came 0 course begun
  came_nowhere course stands =
      let none : k.steps ≡ k.steps + 0 = omega arith in
      subst (λ (n : ℕ). IsTurns s u may_come k.budget (processor_of k) begun 0 (course_of k.thread k.boundary k.interpreted course n) begun) none
      (subst (λ (p : Processor). IsTurns s u may_come k.budget (processor_of k) begun 0 p begun) (sym stands) NoTurn)

  -- it stands there with as many steps, however they are counted
  pub came_counted : (made : ℕ) (course : Course) (steps : ℕ) (seen : List Entry) → steps ≡ k.steps + made
      → IsTurns s u may_come k.budget (processor_of k) begun made (course_of k.thread k.boundary k.interpreted course steps) seen → Came made course seen
  came_counted made course steps seen count turns =
      subst (λ (n : ℕ). IsTurns s u may_come k.budget (processor_of k) begun made (course_of k.thread k.boundary k.interpreted course n) seen) count turns

  -- local steps
  pub came_on : (made more : ℕ) (old new : Course) (seen : List Entry) → Came made old seen → Goes s k.thread k.boundary old new more → k.steps + (made + more) ≤ k.budget → Came (made + more) new seen
  came_on made more old new seen came goes few =
      let p = course_of k.thread k.boundary k.interpreted old (k.steps + made) in
      let q = course_of k.thread k.boundary k.interpreted new (k.steps + made + more) in
      let count : k.steps + made + more ≡ k.steps + (made + more) = omega arith in
      let within : k.steps + made + more ≤ k.budget = omega (arith, few) in
      subst (λ (n : ℕ). IsTurns s u may_come k.budget (processor_of k) begun (made + more) (course_of k.thread k.boundary k.interpreted new n) seen) count
      (joined s u may_come k.budget (processor_of k) begun made p seen came
      (went_are_turns s u may_come k.budget seen p q more (goes k.interpreted (k.steps + made)) within))

  -- one turn more that asks
  pub came_by : (v : SetUp) (some : List Entry → Type 0) (made : ℕ) (course : Course) (q : Processor) (seen seen' : List Entry) → Came made course seen → k.steps + made < k.budget
      → ((entries : List Entry) → some entries → may_come entries) → v ≡ u
      → Makes (turn s (course_of k.thread k.boundary k.interpreted course (k.steps + made))) v some (course_of k.thread k.boundary k.interpreted course (k.steps + made)) q seen seen'
      → IsTurns s u may_come k.budget (processor_of k) begun (made + 1) q seen'
  came_by v some made course q seen seen' came few among same makes =
      let p = course_of k.thread k.boundary k.interpreted course (k.steps + made) in
      let m : Makes (turn s p) u may_come p q seen seen' =
      more_makes s u some may_come among (turn s p) p q seen seen' (subst (λ (x : SetUp). Makes (turn s p) x some p q seen seen') same makes) in
      let one : suc made ≡ made + 1 = omega arith in
      subst (λ (n : ℕ). IsTurns s u may_come k.budget (processor_of k) begun n q seen') one
      (Turns came (subst (λ (b : Bool). MatchBool b (IsStill (spent p) q seen seen') (Makes (turn s p) u may_come p q seen seen')) (sym (less_differs (k.steps + made) k.budget few)) m))

  -- it has a step there
  pub came_step : (v : SetUp) (most made : ℕ) (course : Course) (seen : List Entry) → HasSteps s u may_come most k begun → IsPlain k.mode → Came made course seen → made < most → v ≡ u
      → HasCourseStep s v k.thread course
  came_step v most made course seen h plain came fewer same =
      let q = course_of k.thread k.boundary k.interpreted course (k.steps + made) in
      record {
        before = k.boundary;
        interpreted = k.interpreted;
        steps = k.steps + made;
        can =
            subst (λ (x : SetUp). CanStep s x q) (sym same)
            (h.can made q seen fewer
            (subst (λ (p : Processor). IsTurns s u may_come k.budget p begun made q seen) (sym (plain_is s.meaning.pages k h.processor plain h.stands)) came));
      }
