-- Turns keep a processor reached by its own entries of what its pass has seen.
use Rattle.std.proofs.Common.{◌≡◌, ℕ, ◌+◌, ◌-◌, ◌<◌, ◌≤◌, if◌then◌else◌, Bool, true, false, List, [], reverse, refl, sym, ap, ◌∙◌, subst, inl, inr, is_some, arith}
use Rattle.std.specs.Prelude.{MatchBool}
use Rattle.memory_core.specs.declared.entry.Entry.{Entry}
use Rattle.memory_core.specs.declared.entry.SetUp.{SetUp}
use Rattle.shared_memory.specs.declared.shared.SharedMemory.{SharedMemory}
use Rattle.shared_memory.specs.Passes.{set_up_of}
use Rattle.shared_memory.specs.Views.{Any}
use Rattle.shared_memory.specs.Ways.{IsWayOf, number_by}
use Rattle.shared_memory.specs.declared.way.Way.{Way}
use Rattle.shared_memory.proofs.Accesses.{number_of_way}
use Rattle.memory_core.specs.Order.{Meets}
use Rattle.legal_history.specs.OneProcessor.{ReachedIsSteady}
use Rattle.system_model.specs.Legal.{starts, IsReached, spent}
use Rattle.system_model.specs.Processors.{Processor, Turn, Went, Asks, Over, Stuck, Begins, begun}
use Rattle.system_model.specs.Processors as model
use Rattle.system_model.specs.Settings.{Setting}
use Rattle.tie_switch.specs.Laws.{ManyTurnsKeepReached}
use Rattle.tie_switch.specs.ManyTurns.{IsTurns, NoTurn, Turns}
use Rattle.tie_switch.specs.Processors.{ProcessorValue, HasAdvanced, HasSteps, IsMode, end_of, in_mode, processor_of}
use Rattle.tie_switch.specs.Seen.{mode_of}
use Rattle.tie_switch.specs.Turns.{IsStill, Makes, has_ended, is_out}
use Rattle.tie_switch.specs.declared.processor.Mode.{Mode}
use Rattle.tie_switch.specs.declared.processor.Mode.TheVariants as modes
use Rattle.tie_switch.proofs.Advances.{more_turns}
use Rattle.vax_form.specs.declared.pages.Pages.{Pages}
use Rattle.vax_form.specs.declared.state.VaxState.{VaxState}
use Rattle.run_threads.specs.Processors.{HasEnded, IsBegun, IsUnderWay}
use Rattle.run_threads.specs.Programs.{CanRun}

-- ---- the order of what is seen
module _ (set_up : SetUp) (p q : Processor) (old new : List Entry) (order : Meets set_up (reverse old)) where
  stays : (r : Processor) → IsStill r q old new → Meets set_up (reverse new)
  stays r still = subst (λ (seen : List Entry). Meets set_up (reverse seen)) (sym still.seen) order

  made : (turn : Turn) → Makes turn set_up Any p q old new → Meets set_up (reverse new)
  made (Went r) m = stays r m
  made (Asks request on) (inl m) = m.entry.order
  made (Asks request on) (inr r) = r.over.order
  made Over m = stays p m
  made Stuck m = absurd m

  ordered : (setting : Setting) (b : Bool) → MatchBool b (IsStill (spent p) q old new) (Makes (model.turn setting p) set_up Any p q old new) → Meets set_up (reverse new)
  ordered setting true still = stays (spent p) still
  ordered setting false m = made (model.turn setting p) m

-- behind many turns
many_ordered : (setting : Setting) (set_up : SetUp) (budget : ℕ) (p : Processor) (old : List Entry) → Meets set_up (reverse old)
    → {n : ℕ} {q : Processor} {new : List Entry} → IsTurns setting set_up Any budget p old n q new → Meets set_up (reverse new)
many_ordered setting set_up budget p old order NoTurn = order
many_ordered setting set_up budget p old order (Turns {p = x} {q = y} {old = mid} {new = new} more last) =
    ordered set_up x y mid new (many_ordered setting set_up budget p old order more) setting (is_out budget x) last

-- ---- many turns, whatever entries may come
module _ (setting : Setting) (set_up : SetUp) (may_come : List Entry → Type 0) (seen : List Entry) (k : ProcessorValue) (way : IsUnderWay setting set_up seen k) where
  over_any : (n : ℕ) (q : Processor) (new : List Entry) → IsTurns setting set_up may_come k.budget way.processor seen n q new → IsTurns setting set_up Any k.budget way.processor seen n q new
  over_any n q new made = more_turns setting set_up may_come Any (λ entries come. tt) k.budget way.processor seen made

  -- behind each it has a step, and memory can make it
  pub has_steps : ReachedIsSteady → ManyTurnsKeepReached → CanRun setting set_up → (most : ℕ) → HasSteps setting set_up may_come most k seen
  has_steps steady_law law can most = record {
    processor = way.processor;
    stands = way.stands;
    can = λ n q new fewer made.
        let turns = over_any n q new made in
        let reached = law setting set_up k.budget n seen new k.thread way.start way.processor q way.reached turns in
        let order = many_ordered setting set_up k.budget way.processor seen way.order turns in
        let steady = steady_law setting can.permit set_up k.budget (reverse new) k.thread way.start q can.sound can.few can.meets can.run can.pages order way.starts_so reached in
        record { goes_on = steady.goes_on; asks = steady.asks };
  }

  -- and stays under way
  pub goes_on : ManyTurnsKeepReached → (n : ℕ) (new : List Entry) (to : ProcessorValue) → to.thread ≡ k.thread → to.budget ≡ k.budget
      → HasAdvanced setting set_up may_come k.budget way.processor n to seen new → IsUnderWay setting set_up new to
  goes_on law n new to thread budget advanced =
      let turns = over_any n advanced.processor new advanced.turned in
      record {
        order = many_ordered setting set_up k.budget way.processor seen way.order turns;
        start = way.start;
        starts_so = ap (starts set_up.image) thread ∙ way.starts_so;
        processor = advanced.processor;
        stands = advanced.stands;
        reached = subst (λ (b : ℕ). IsReached setting b set_up.limit (reverse new) to.thread way.start advanced.processor) (sym budget)
            (subst (λ (t : ℕ). IsReached setting k.budget set_up.limit (reverse new) t way.start advanced.processor) (sym thread)
            (law setting set_up k.budget n seen new k.thread way.start way.processor advanced.processor way.reached turns));
      }

-- ---- its end
pub ended_by : (m : model.Mode) → is_some (end_of m) ≡ true → has_ended m ≡ true
ended_by model.New e = absurd (cc e)
ended_by (model.Runs alpha) e = absurd (cc e)
ended_by (model.Interprets state replies) e = absurd (cc e)
ended_by (model.Ended end) e = refl

pub going_by : (m : model.Mode) → is_some (end_of m) ≡ false → has_ended m ≡ false
going_by model.New e = refl
going_by (model.Runs alpha) e = refl
going_by (model.Interprets state replies) e = refl
going_by (model.Ended end) e = absurd (cc e)

-- a round ends it, or makes steps
pub fewer_left : (was is : Bool) (old new before after budget : ℕ) → was ≡ false → (is ≡ false → before < after) → after ≤ new → new ≡ budget → old ≡ budget
    → (if is then 0 else new - after + 1) < (if was then 0 else old - before + 1)
fewer_left true is old new before after budget e more few f h = absurd (cc e)
fewer_left false true old new before after budget e more few f h = omega arith
fewer_left false false old new before after budget e more few f h = let grows = more refl in omega (arith, grows, few, f, h)

-- ended, it stands for just one
ended_mode : (pages : Pages) (thread : ℕ) (boundary : VaxState) (kind : Mode) (m : model.Mode) → has_ended (mode_of kind boundary) ≡ true → IsMode pages thread boundary kind m → m ≡ mode_of kind boundary
ended_mode pages thread boundary modes.New m ended is = is
ended_mode pages thread boundary (modes.Runs cpu) m ended is = is
ended_mode pages thread boundary (modes.Interprets interpreted reply) m ended is = absurd (cc ended)
ended_mode pages thread boundary (modes.Ended end) m ended is = is

pub ends : (setting : Setting) (set_up : SetUp) (seen : List Entry) (k : ProcessorValue) → IsUnderWay setting set_up seen k → has_ended (processor_of k).mode ≡ true → HasEnded setting set_up seen k
ends setting set_up seen k way ended =
    let same : way.processor ≡ processor_of k = way.stands.same ∙ ap (in_mode k) (ended_mode setting.meaning.pages k.thread k.boundary k.mode way.processor.mode ended way.stands.mode) in
    record {
      ended = ended;
      start = way.start;
      starts_so = way.starts_so;
      reached = subst (λ (p : Processor). IsReached setting k.budget set_up.limit (reverse seen) k.thread way.start p) same way.reached;
    }

-- ---- its beginning
pub begins : (setting : Setting) (set_up : SetUp) (seen : List Entry) (k : ProcessorValue) → seen ≡ [] → IsBegun set_up.image k → IsUnderWay setting set_up seen k
begins setting set_up seen k none b =
    subst (λ (entries : List Entry). IsUnderWay setting set_up entries k) (sym none) (record {
      order = tt;
      start = b.start;
      starts_so = b.starts_so;
      processor = begun k.thread b.start;
      stands = b.stands setting.meaning.pages;
      reached = record { was = begun k.thread b.start; within = omega arith; reaches = Begins; now = inl refl };
    })

-- what is asked of many turns, where the memory is the same
pub by_memory : (setting : Setting) (may_come : List Entry → Type 0) (most : ℕ) (k : ProcessorValue) (seen : List Entry) (m n : SharedMemory) → m ≡ n
    → HasSteps setting (set_up_of n) may_come most k seen → HasSteps setting (set_up_of m) may_come most k seen
by_memory setting may_come most k seen m n same h = subst (λ (x : SharedMemory). HasSteps setting (set_up_of x) may_come most k seen) (sym same) h

-- ---- its way to the memory
pub its_own : (memory : SharedMemory) (number : ℕ) (way : Way) → IsWayOf memory number way → IsWayOf memory (number_by way) way
its_own memory number way of = subst (λ (n : ℕ). IsWayOf memory n way) (sym (number_of_way memory number way of)) of

-- a way that led on from one of the thread's
pub shared_on : (memory m : SharedMemory) (number thread : ℕ) (way on : Way) → m ≡ memory → thread ≡ number → IsWayOf m number way → IsWayOf m (number_by way) on → IsWayOf memory thread on
shared_on memory m number thread way on same is of led =
    subst (λ (x : SharedMemory). IsWayOf x thread on) same (subst (λ (n : ℕ). IsWayOf m n on) (number_of_way m number way of ∙ sym is) led)
