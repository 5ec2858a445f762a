-- The history behind the last pass that is joined is legal for the processors.
use Rattle.std.proofs.Common.{◌≡◌, ℕ, ◌<◌, ◌≤◌, ◌==◌, ◌⊎◌, inl, inr, Bool, true, false, if◌then◌else◌, List, [], ◌∷◌, ◌++◌, Some, length, get_or, reverse, sym, ap, ◌∙◌, subst, arith, length-append}
use Rattle.std.specs.Prelude.{map, slice_get}
use Rattle.std.specs.List.{AllByRecursion}
use Rattle.std.proofs.lemmas.Bool.{cases_lt}
use Rattle.std.proofs.lemmas.Bool.Decides.{nat_tests}
use Rattle.std.proofs.lemmas.List.{reverse-append, length-map, nil_from_length}
use Rattle.std.proofs.lemmas.List.Elements.{filter-append}
use Rattle.std.proofs.lemmas.Option.{same_Some}
use Rattle.memory_core.specs.Contents.{Contents}
use Rattle.memory_core.specs.Limits.{IsWithin}
use Rattle.memory_core.specs.Order.{own}
use Rattle.memory_core.specs.declared.entry.Entry.{Entry}
use Rattle.memory_core.proofs.Limits.{within_reverse}
use Rattle.vax_form.specs.declared.state.VaxState.{VaxState}
use Rattle.shared_memory.specs.declared.pass.Pass.{Pass}
use Rattle.shared_memory.specs.declared.shared.SharedMemory.{SharedMemory}
use Rattle.shared_memory.specs.declared.view.View.{View}
use Rattle.shared_memory.specs.Lists.{times}
use Rattle.shared_memory.specs.Passes.{set_up_of, start_of, view_of, number_of, seen_of, given_of}
use Rattle.shared_memory.specs.Rule.{ended_as}
use Rattle.shared_memory.specs.Views.{IsClosed}
use Rattle.system_model.specs.Laws.{OthersKeepReached, ReachedAreLegal}
use Rattle.system_model.specs.Legal.{starts, IsReached, IsLegal}
use Rattle.system_model.specs.Processors.{Processor}
use Rattle.system_model.specs.Settings.{Setting}
use Rattle.tie_switch.specs.Processors.{ProcessorValue, processor_of}
use Rattle.tie_switch.specs.Turns.{has_ended}
use Rattle.tie_switch.proofs.Turns.{own_reverse}
use Rattle.run_threads.specs.declared.job.Job.{Job}
use Rattle.run_threads.specs.Jobs.{AllHavePasses, AllReady, IsDone, IsJoined, IsReady, HasSplit, HasJoined}
use Rattle.run_threads.specs.Together.{HaveRan}
use Rattle.run_threads.proofs.Places.{first_of, mapped_at, all_mapped}

-- ---- entries of one thread
-- where no thread from n on has any, all are of threads below
all_below : (n : ℕ) (entries : List Entry) → ((p : ℕ) → n ≤ p → own p entries ≡ []) → AllByRecursion (λ (e : Entry). e.processor < n) entries
all_below n [] none = tt
all_below n (e ∷ entries) none = (here (cases_lt e.processor n), all_below n entries (λ p above. after p (e.processor == p) (none p above)))
  where
    here : ((e.processor < n) ⊎ (n ≤ e.processor)) → e.processor < n
    here (inl below) = below
    here (inr above) = absurd (let there = none e.processor above in grind (arith, nat_tests))

    after : (p : ℕ) (b : Bool) → (if b then e ∷ own p entries else own p entries) ≡ [] → own p entries ≡ []
    after p true none = absurd (cc none)
    after p false none = none

-- entries behind what has them all are others'
later_are_others : (thread : ℕ) (seen later : List Entry) → own thread (seen ++ later) ≡ own thread seen → own thread later ≡ []
later_are_others thread seen later same =
    let parts = filter-append (λ (x : Entry). x.processor == thread) seen later in
    nil_from_length (own thread later) (omega (arith, ap length (sym parts ∙ same), length-append (own thread seen) (own thread later)))

-- ---- one thread
module _ (others_law : OthersKeepReached) (setting : Setting) (memory : SharedMemory) (budget : ℕ) (v : View) (m : Contents) (closed : IsClosed (start_of memory) v m) where
  -- its processor is reached by the whole history
  pub reached_by_all : (thread : ℕ) (job : Job) (k : ProcessorValue) → IsDone setting memory budget thread job → IsJoined v job k
      → (start : VaxState) → starts (set_up_of memory).image thread ≡ Some start → IsReached setting budget (set_up_of memory).limit (reverse v.seen) thread start (processor_of k)
  reached_by_all thread job k done joined start begins =
      let number : number_of job.pass ≡ thread = done.has.of_it.is.number_is in
      let fits = closed.ended joined.place (ended_as (view_of job.pass)) joined.at in
      let later = fits.seen.0 in
      let seen = seen_of job.pass in
      let own_seen : own thread v.seen ≡ own thread seen = subst (λ (t : ℕ). own t v.seen ≡ own t seen) number (fits.own ∙ joined.own_is) in
      let none : own thread later ≡ [] = later_are_others thread seen later (ap (own thread) fits.seen.1 ∙ own_seen) in
      let turned : reverse v.seen ≡ reverse later ++ reverse seen = ap reverse (sym fits.seen.1) ∙ reverse-append seen later in
      let few : IsWithin (set_up_of memory).limit (reverse later ++ reverse seen) =
      subst (λ (entries : List Entry). IsWithin (set_up_of memory).limit entries) turned (within_reverse (set_up_of memory).limit v.seen closed.legal.room) in
      let ended = done.ended in
      let start_is : ended.start ≡ start = same_Some ended.start start (sym ended.starts_so ∙ (ap (starts (set_up_of memory).image) done.has.thread_is ∙ begins)) in
      let with_budget : IsReached setting budget (set_up_of memory).limit (reverse seen) job.processor.thread ended.start (processor_of job.processor) =
      subst (λ (b : ℕ). IsReached setting b (set_up_of memory).limit (reverse seen) job.processor.thread ended.start (processor_of job.processor)) done.budget_is ended.reached in
      let with_thread : IsReached setting budget (set_up_of memory).limit (reverse seen) thread ended.start (processor_of job.processor) =
      subst (λ (t : ℕ). IsReached setting budget (set_up_of memory).limit (reverse seen) t ended.start (processor_of job.processor)) done.has.thread_is with_budget in
      let with_start : IsReached setting budget (set_up_of memory).limit (reverse seen) thread start (processor_of job.processor) =
      subst (λ (s : VaxState). IsReached setting budget (set_up_of memory).limit (reverse seen) thread s (processor_of job.processor)) start_is with_thread in
      subst (λ (x : ProcessorValue). IsReached setting budget (set_up_of memory).limit (reverse v.seen) thread start (processor_of x)) (sym joined.processor)
      (subst (λ (entries : List Entry). IsReached setting budget (set_up_of memory).limit entries thread start (processor_of job.processor)) (sym turned)
      (others_law setting budget (set_up_of memory).limit (reverse later) (reverse seen) thread start (processor_of job.processor) with_start (own_reverse thread later none) few))

-- ---- all threads
module _ (others_law : OthersKeepReached) (legal_law : ReachedAreLegal) (setting : Setting) (memory : SharedMemory) (budget : ℕ) (keeper next : Pass)
    (before jobs : List Job) (ended : List ProcessorValue) (m : Contents) (pages : setting.meaning.pages ≡ (set_up_of memory).image.pages)
    (split : HasSplit memory keeper budget before (length (set_up_of memory).image.threads)) (same : length jobs ≡ length before)
    (ran : (j : ℕ) (d : Job) → j < length before → IsDone setting memory (get_or before j d).processor.budget j (get_or jobs j d))
    (joined : HasJoined memory (given_of keeper) next jobs ended (length jobs)) (closed : IsClosed (start_of memory) (view_of next) m) where
  done : (j : ℕ) (d : Job) → j < length jobs → IsDone setting memory budget j (get_or jobs j d)
  done j d inside = subst (λ (b : ℕ). IsDone setting memory b j (get_or jobs j d)) (split.budgets j d (omega (arith, inside, same))) (ran j d (omega (arith, inside, same)))

  many : length ended ≡ length (set_up_of memory).image.threads
  many = joined.many ∙ (same ∙ split.many)

  count : length (map processor_of ended) ≡ length ended
  count = length-map ended processor_of

  none_above : (p : ℕ) → length ended ≤ p → own p (reverse (seen_of next)) ≡ []
  none_above p above = own_reverse p (seen_of next) (closed.others p (ap (times p) joined.same ∙ split.fresh p (omega (arith, above, many))))

  each : (thread : ℕ) (start : VaxState) (p : Processor) → starts (set_up_of memory).image thread ≡ Some start
      → slice_get (map processor_of ended) thread ≡ Some p → IsReached setting budget (set_up_of memory).limit (reverse (seen_of next)) thread start p
  each thread start p begins at =
      let mapped = mapped_at processor_of ended thread p at in
      let inside : thread < length jobs = omega (arith, mapped.inside, joined.many) in
      let job = first_of jobs (omega (arith, inside)) in
      subst (λ (x : Processor). IsReached setting budget (set_up_of memory).limit (reverse (seen_of next)) thread start x) (ap processor_of mapped.at ∙ sym mapped.is)
      (reached_by_all others_law setting memory budget (view_of next) m closed thread (get_or jobs thread job) (get_or ended thread mapped.of)
      (done thread job inside) (joined.each thread job mapped.of inside) start begins)

  pub is_legal : IsLegal setting (set_up_of memory) budget (reverse (seen_of next)) (map processor_of ended)
  is_legal =
      legal_law setting (set_up_of memory) budget (reverse (seen_of next)) (map processor_of ended) pages closed.legal.order
      (within_reverse (set_up_of memory).limit (seen_of next) closed.legal.room) (count ∙ many)
      (subst (λ (n : ℕ). AllByRecursion (λ (e : Entry). e.processor < n) (reverse (seen_of next))) (sym count)
      (all_below (length ended) (reverse (seen_of next)) none_above))
      each

  pub all_ended : AllByRecursion (λ (p : Processor). has_ended p.mode ≡ true) (map processor_of ended)
  all_ended = all_mapped (λ (p : Processor). has_ended p.mode ≡ true) processor_of ended (λ j k below.
      let inside : j < length jobs = omega (arith, below, joined.many) in
      let job = first_of jobs (omega (arith, inside)) in
      subst (λ (x : ProcessorValue). has_ended (processor_of x).mode ≡ true) (sym (joined.each j job k inside).processor) (done j job inside).ended.ended)

-- ---- jobs that are to run, by their own threads' numbers
pub runs_by_thread : (memory : SharedMemory) (jobs : List Job) → AllReady memory jobs
    → (j : ℕ) (d : Job) → j < length jobs → IsReady memory (get_or jobs j d).processor.thread (get_or jobs j d)
runs_by_thread memory jobs ready j d inside =
    subst (λ (t : ℕ). IsReady memory t (get_or jobs j d)) (sym (ready j d inside).has.thread_is) (ready j d inside)

-- ---- jobs that ran, by their places, which are their threads' numbers
module _ (setting : Setting) (memory : SharedMemory) (before after : List Job) (ready : AllReady memory before)
    (ran : HaveRan (λ (was job : Job). IsDone setting memory was.processor.budget was.processor.thread job) before after (length before)) where
  pub done_each : (j : ℕ) (d : Job) → j < length before → IsDone setting memory (get_or before j d).processor.budget j (get_or after j d)
  done_each j d inside =
      subst (λ (t : ℕ). IsDone setting memory (get_or before j d).processor.budget t (get_or after j d)) (ready j d inside).has.thread_is (ran.each j d inside)

  pub all_have : AllHavePasses memory after
  all_have j d inside = (done_each j d (omega (arith, inside, ran.many))).has
