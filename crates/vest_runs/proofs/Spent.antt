-- Why a processor of a legal history is spent.
use Rattle.std.proofs.Common.{◌≡◌, ◌<◌, ◌⊎◌, ◌+◌, ℕ, zero, suc, Bool, true, false, List, [], ◌∷◌, Option, Some, None, length, map, refl, ap, ◌∙◌, subst, arith, inl, inr}
use Rattle.std.specs.Prelude.{slice_get}
use Rattle.std.specs.Option.{option_map}
use Rattle.std.proofs.lemmas.Option.{slice_get-map, slice_get_within}
use Rattle.alpha_meaning.specs.State.{Regs}
use Rattle.block_law.specs.Translations.{Permit}
use Rattle.image_file.specs.Start.{start_state}
use Rattle.image_file.specs.declared.image.Start.{Start}
use Rattle.memory_core.specs.declared.entry.Entry.{Entry}
use Rattle.memory_core.specs.declared.entry.Limit.{Limit}
use Rattle.memory_core.specs.declared.entry.Limit.TheVariants.{Entries, Puts}
use Rattle.memory_core.specs.declared.entry.SetUp.{SetUp}
use Rattle.memory_core.specs.Limits.{IsAtLimit}
use Rattle.memory_core.specs.Order.{own}
use Rattle.vax_driven.specs.Driven.{Driven, World, driven_on, ended, run_before, runs_from, walk}
use Rattle.vax_driven.specs.Threads.{Threads, thread_run}
use Rattle.vax_driven.specs.declared.thread.ThreadRun.{ThreadRun}
use Rattle.vax_form.specs.Made.{Made, replies_to}
use Rattle.vax_form.specs.Tree.{Ending, Finish, Exit, Trap, Answer, answer}
use Rattle.vax_form.specs.Tree as trees
use Rattle.vax_form.specs.declared.state.VaxState.{VaxState}
use Rattle.legal_history.specs.Headline.{HasFewSteps}
use Rattle.legal_history.specs.Law.{HasHeadline}
use Rattle.legal_history.specs.OneHistory.{world_of}
use Rattle.system_model.specs.Counted.{order}
use Rattle.system_model.specs.Interpreted.{threads_of}
use Rattle.system_model.specs.Legal.{AsksToCount, IsLegal, IsReached, IsSpent, starts}
use Rattle.system_model.specs.Processors.{Mode, New, Runs, Interprets, Ended, Processor, Reaches, Begins, Steps, Takes, Turn, Went, Asks, Over, Stuck, alpha_turn, begun, left, mode_by, mode_of, moment_of, placed, stepped, tie_turn, tied, turn, turn_in}
use Rattle.system_model.specs.Settings.{Setting, goes_on}
use Rattle.system_model.specs.Steps.{Last, Comes, Fails, Place, Inside, Lands, Leaves, Next, Moves, Wants, next, settled_last}
use Rattle.system_model.specs.Steps as step
use Rattle.vest_runs.specs.Threads.{AskedToCount, SpentByBudget, SpentByLimit, SpentHasCause}
use Rattle.vest_runs.specs.Report.{is_spent}

-- ---- no turn leads to a spent processor
module _ (setting : Setting) where
  unspent_by : (word : Option ℕ) (state : VaxState) (regs : Regs) → is_spent (mode_by word state regs) ≡ false
  unspent_by None state regs = refl
  unspent_by (Some word) state regs = refl

  unspent_left : (q : Processor) (last : Last) → is_spent (left setting q last).mode ≡ false
  unspent_left q (Comes (Finish state)) = unspent_by (goes_on setting q.thread state) state _
  unspent_left q (Comes (Exit state)) = refl
  unspent_left q (Comes (Trap kind state)) = refl
  unspent_left q (Fails exception) = refl

  unspent_placed : (q : Processor) (place : Place) → is_spent (placed setting q place).mode ≡ false
  unspent_placed q (Inside alpha) = refl
  unspent_placed q (Lands state held regs) = unspent_by (goes_on setting q.thread state) state regs
  unspent_placed q (Leaves last) = unspent_left q (settled_last q.boundary last)

  abbrev Unspent : Turn → Type 0
  Unspent (Went q) = is_spent q.mode ≡ false
  Unspent (Asks request on) = (before : ℕ) (success : Bool) → is_spent (on before success).mode ≡ false
  Unspent Over = Unit {0}
  Unspent Stuck = Unit {0}

  unspent_alpha : (p : Processor) (to : Next) → Unspent (alpha_turn setting p to)
  unspent_alpha p (Moves place) = unspent_placed (stepped p) place
  unspent_alpha p (Wants request on) = λ before success. unspent_placed (stepped p) (on before success)
  unspent_alpha p step.Stuck = tt

  unspent_tie : (p : Processor) (state : VaxState) (replies : List ℕ) (a : Answer) → Unspent (tie_turn setting p state replies a)
  unspent_tie p state replies (trees.Wants reference) = λ before success. refl
  unspent_tie p state replies (trees.Fails exception) = refl
  unspent_tie p state replies (trees.Comes e rest) = unspent_left (tied p) (Comes e)

  unspent_in : (p : Processor) (mode : Mode) → Unspent (turn_in setting p mode)
  unspent_in p New = tt
  unspent_in p (Runs alpha) = unspent_alpha p (next setting (moment_of p) alpha)
  unspent_in p (Interprets state replies) = unspent_tie p state replies (answer setting.meaning.pages (setting.meaning.moment p.thread state) replies)
  unspent_in p (Ended end) = tt

  turn_unspent : (p : Processor) → Unspent (turn setting p)
  turn_unspent p = unspent_in p (mode_of setting p p.mode)

  unspent_reached : (first p : Processor) (n : ℕ) (mine : List Entry) → is_spent first.mode ≡ false → Reaches setting first n mine p → is_spent p.mode ≡ false
  unspent_reached first p n mine new Begins = new
  unspent_reached first p n mine new (Steps {p = q} r e) = subst Unspent e (turn_unspent q)
  unspent_reached first p n mine new (Takes {p = q} r e before success) = subst Unspent e (turn_unspent q) before success

-- ---- each thread that was driven has its run
run_first : (thread : Option ThreadRun) (later : Option (List ThreadRun)) (runs : List ThreadRun) → run_before thread later ≡ Some runs
    → (run : ThreadRun) × (rest : List ThreadRun) × (later ≡ Some rest) × (runs ≡ run ∷ rest)
run_first None later runs h = absurd (cc h)
run_first (Some run) None runs h = absurd (cc h)
run_first (Some run) (Some rest) runs h = (run, rest, refl, let same : runs ≡ run ∷ rest = cc h in same)

-- that one, or one behind it
first_or : (runs rest : List ThreadRun) (run : ThreadRun) → runs ≡ run ∷ rest → (counts : List ℕ) (c k count : ℕ) → slice_get (c ∷ counts) k ≡ Some count
    → ((m : ℕ) → slice_get counts m ≡ Some count → (x : ThreadRun) × (slice_get rest m ≡ Some x)) → (x : ThreadRun) × (slice_get runs k ≡ Some x)
first_or runs rest run same counts c zero count h behind = (run, ap (λ (l : List ThreadRun). slice_get l 0) same)
first_or runs rest run same counts c (suc k) count h behind =
    let later = behind k h in
    (later.0, ap (λ (l : List ThreadRun). slice_get l (suc k)) same ∙ later.1)

run_at : (threads : Threads) (made : List Made) (counts : List ℕ) (first : ℕ) (runs : List ThreadRun) → runs_from threads made first counts ≡ Some runs
    → (k count : ℕ) → slice_get counts k ≡ Some count → (run : ThreadRun) × (slice_get runs k ≡ Some run)
run_at threads made [] first runs is k count h = absurd (cc h)
run_at threads made (c ∷ counts) first runs is k count h =
    let found = run_first (thread_run threads first c (replies_to first made)) (runs_from threads made (first + 1) counts) runs is in
    first_or runs found.1 found.0 found.3 counts c k count h (λ m at. run_at threads made counts (first + 1) found.1 found.2 m count at)

runs_driven : (world : World) (counts : List ℕ) (made : Option (List Made)) (driven : Driven) → driven_on world counts made ≡ Some driven
    → runs_from world.threads driven.made 0 counts ≡ Some driven.runs
runs_driven world counts None driven h = absurd (cc h)
runs_driven world counts (Some made) driven h = by (runs_from world.threads made 0 counts) refl h
  where
    by : (runs : Option (List ThreadRun)) → runs_from world.threads made 0 counts ≡ runs → ended made runs ≡ Some driven → runs_from world.threads driven.made 0 counts ≡ Some driven.runs
    by None is h = absurd (cc h)
    by (Some runs) is h =
        let same : record { made = made; runs = runs } ≡ driven = cc h in
        subst (λ (d : Driven). runs_from world.threads d.made 0 counts ≡ Some d.runs) same is

-- so its processor's steps are few
pub few_steps : (setting : Setting) (permit : Permit) (of : SetUp) (entries : List Entry) (processors : List Processor) → HasHeadline setting permit of entries processors
    → (thread : ℕ) (p : Processor) → slice_get processors thread ≡ Some p → HasFewSteps p (own thread entries)
few_steps setting permit of entries processors headline thread p at =
    let counts = map (λ (q : Processor). q.retired) processors in
    let world = world_of (threads_of setting (starts of.image)) of in
    let there = run_at world.threads headline.history.made counts 0 headline.runs
    (runs_driven world counts (walk world (order entries)) (record { made = headline.history.made; runs = headline.runs }) headline.driven)
    thread p.retired (slice_get-map (λ (q : Processor). q.retired) processors thread ∙ ap (option_map (λ (q : Processor). q.retired)) at) in
    (headline.each thread p there.0 at there.1).steps

-- ---- so a spent one has its cause
module _ (setting : Setting) (of : SetUp) (budget : ℕ) (entries : List Entry) where
  of_reached : (thread : ℕ) (start : VaxState) (p : Processor) → IsReached setting budget of.limit entries thread start p → is_spent p.mode ≡ true
      → (p.steps ≡ budget) ⊎ (AskedToCount setting of.limit p × IsAtLimit of.limit entries)
  of_reached thread start p reached e = by reached.now
    where
      by : (p ≡ reached.was) ⊎ IsSpent setting budget of.limit entries reached.was p → (p.steps ≡ budget) ⊎ (AskedToCount setting of.limit p × IsAtLimit of.limit entries)
      by (inl same) = absurd (let never = unspent_reached setting (begun thread start) reached.was reached.was.steps _ refl reached.reaches in
          let is : is_spent reached.was.mode ≡ true = subst (λ (q : Processor). is_spent q.mode ≡ true) same e in cc)
      by (inr s) = cause s.cause
        where
          cause : (reached.was.steps ≡ budget) ⊎ (AsksToCount of.limit (turn setting reached.was) × IsAtLimit of.limit entries)
              → (p.steps ≡ budget) ⊎ (AskedToCount setting of.limit p × IsAtLimit of.limit entries)
          cause (inl out) = inl (ap (λ (q : Processor). q.steps) s.is ∙ out)
          cause (inr full) = inr (record { was = reached.was; is = s.is; asks = full.0 }, full.1)

  start_of : (threads : List Start) (k : ℕ) → k < length threads → (start : Start) × (slice_get threads k ≡ Some start)
  start_of [] k lt = absurd (omega arith)
  start_of (s ∷ threads) zero lt = (s, refl)
  start_of (s ∷ threads) (suc k) lt = start_of threads k (omega arith)

  pub all_have_cause : (permit : Permit) (processors : List Processor) → IsLegal setting of budget entries processors → HasHeadline setting permit of entries processors
      → (thread : ℕ) (p : Processor) → slice_get processors thread ≡ Some p → SpentHasCause setting budget of.limit entries (length processors) thread p
  all_have_cause permit processors legal headline thread p at spent =
      by (of_reached thread (start_state start.0) p (legal.each thread (start_state start.0) p (ap (option_map start_state) start.1) at) spent)
    where
      start : (start : Start) × (slice_get of.image.threads thread ≡ Some start)
      start =
          let lt = slice_get_within processors thread p at in
          let count = legal.count in
          start_of of.image.threads thread (omega (arith, lt, count))

      by_limit : (limit : Limit) → AskedToCount setting limit p → IsAtLimit limit entries → SpentByLimit setting limit entries (length processors) p
      by_limit (Entries n) asked full = (full, let few = headline.few_entries in omega (arith, few, full))
      by_limit (Puts n) asked full = (full, asked)

      by : (p.steps ≡ budget) ⊎ (AskedToCount setting of.limit p × IsAtLimit of.limit entries)
          → SpentByBudget budget p (own thread entries) ⊎ SpentByLimit setting of.limit entries (length processors) p
      by (inl out) = inl (out, let few = few_steps setting permit of entries processors headline thread p at in omega (arith, few, out))
      by (inr full) = inr (by_limit of.limit full.0 full.1)
