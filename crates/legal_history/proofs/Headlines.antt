-- A legal history has the headline.
use Rattle.std.proofs.Common.{◌≡◌, ◌≢◌, ℕ, zero, suc, ◌<◌, ◌≤◌, ◌+◌, ◌-◌, ◌^◌, false, if◌then◌else◌, List, [], ◌∷◌, ◌++◌, length, Option, Some, None, refl, sym, ap, ◌∙◌, subst, arith, lit<, ⊎_elim, All}
use Rattle.block_law.specs.Rounds.{block_steps}
use Rattle.std.specs.Prelude.{map, option_map, slice_get}
use Rattle.std.specs.List.{AllByRecursion}
use Rattle.std.proofs.lemmas.List.{length-append}
use Rattle.std.proofs.lemmas.List.Elements.{All-nil, All-cons}
use Rattle.std.proofs.lemmas.Option.{slice_get_within}
use Rattle.system_model.proofs.Lists.{there_is}
use Rattle.alpha_meaning.specs.State.{Alpha, Regs, at_place}
use Rattle.image_file.specs.Start.{start_state}
use Rattle.image_file.specs.Whole.{StartFits}
use Rattle.image_file.specs.declared.image.Start.{Start}
use Rattle.memory_core.specs.declared.entry.Entry.{Entry}
use Rattle.memory_core.specs.declared.entry.SetUp.{SetUp}
use Rattle.memory_core.specs.Order.{own}
use Rattle.memory_core.specs.Order as memory
use Rattle.vax_form.specs.State.{IsState}
use Rattle.vax_form.specs.Tree.{Tree, Retired}
use Rattle.vax_form.specs.declared.state.Flags.{Flags}
use Rattle.vax_form.specs.declared.state.VaxState.{VaxState}
use Rattle.vax_form.proofs.GrammarFinds.{option_map-some}
use Rattle.vax_driven.specs.declared.ThreadRun.{ThreadRun}
use Rattle.vax_form.specs.Made.{replies_to}
use Rattle.vax_driven.specs.Threads.{Threads, reached}
use Rattle.vax_driven.specs.Driven.{run_before, runs_from, ended, driven_on}
use Rattle.legal_history.specs.Explained.{replies_by, Explained}
use Rattle.legal_history.specs.OneHistory.{world_of, IsDriven}
use Rattle.legal_history.proofs.Histories.{one_history}
use Rattle.block_law.specs.Translations.{Meets, Permit}
use Rattle.system_model.specs.Settings.{Setting, goes_on}
use Rattle.system_model.specs.Processors.{Mode, New, Runs, Interprets, Ended, Processor, Stuck, begun, turn, Reaches}
use Rattle.system_model.specs.Legal.{starts, spent, IsGoing, IsReached, IsLegal}
use Rattle.legal_history.specs.Entries.{AllPaired, Lock}
use Rattle.legal_history.specs.Headline.{Claims, HasInterpreted}
use Rattle.legal_history.proofs.Facts.{IsShown, CanTurn, HasFewEntries, Facts}
use Rattle.system_model.specs.Interpreted.{threads_of, interpreted_of, interpreted_in, end_in, has_raised}
use Rattle.legal_history.specs.Law.{IsRun, HasHeadline, LegalHasHeadline}
use Rattle.legal_history.specs.OneProcessor.{ReachedIsSteady}
use Rattle.block_law.specs.Sound.{IsSound, AllowsFew}
use Rattle.legal_history.proofs.Blocks.{Owes, IsForm, opens}
use Rattle.legal_history.proofs.Boundaries.{fresh, enter, awake}
use Rattle.legal_history.proofs.Handled.{Handled, opens_handled}
use Rattle.system_model.specs.Ranges.{word_for}
use Rattle.system_model.specs.Steps.{next, settled_last}
use Rattle.legal_history.proofs.Failures.{fail_for_cause}
use Rattle.legal_history.proofs.Locks.{all_fair}
use Rattle.legal_history.proofs.Owed.{OwedNext}
use Rattle.legal_history.proofs.Processors.{facts, moment_at}
use Rattle.legal_history.proofs.Sums.{all_entries, own_none}

-- ---- lists
beyond : {A : Type 0} (xs : List A) (n : ℕ) → slice_get xs n ≡ None → length xs ≤ n
beyond [] n h = omega arith
beyond (x ∷ xs) zero h = absurd (cc h)
beyond (x ∷ xs) (suc n) h = omega (arith, beyond xs n h)

-- ---- starts
with_last : (first : List ℕ) (sp : ℕ) → AllByRecursion (λ (value : ℕ). value < 2 ^ 32) first → sp < 2 ^ 32 → All (λ value. value < 2 ^ 32) (first ++ sp ∷ [])
with_last [] sp all h = All-cons (λ value. value < 2 ^ 32) sp [] h (All-nil (λ value. value < 2 ^ 32))
with_last (value ∷ first) sp all h = All-cons (λ value. value < 2 ^ 32) value (first ++ sp ∷ []) all.0 (with_last first sp all.1 h)

pub start_is : (s : Start) → StartFits s → IsState (start_state s)
start_is s fits = record {
  registers = omega (arith, fits.count, length-append s.first (s.sp ∷ []));
  longwords = with_last s.first s.sp fits.first fits.sp;
  pc = fits.pc;
  psw = lit< tt;
  handler = lit< tt;
}

-- ---- ends
spent_claims : (m : Mode) (run : ThreadRun) → IsGoing m → Claims m run → run.exited ≡ false
spent_claims New run g c = c
spent_claims (Runs alpha) run g c = c
spent_claims (Interprets state replies) run g c = c
spent_claims (Ended end) run g c = absurd g

not_raised : (m : Mode) → IsGoing m → has_raised m ≡ false
not_raised New g = refl
not_raised (Runs alpha) g = refl
not_raised (Interprets state replies) g = refl
not_raised (Ended end) g = absurd g

over_goes : (setting : Setting) (p : Processor) → turn setting (spent p) ≢ Stuck
over_goes setting p = λ e. absurd (cc e)

spent_facts : (setting : Setting) (permit : Permit) (begin : ℕ → Option VaxState) (thread : ℕ) (mine : List Entry) (was : Processor) → IsGoing was.mode → Facts setting permit begin thread mine was → Facts setting permit begin thread mine (spent was)
spent_facts setting permit begin thread mine was going f = record {
  explained = f.explained;
  shown = record { run = f.shown.run; driven = f.shown.driven; state = f.shown.state; claims = spent_claims was.mode f.shown.run going f.shown.claims };
  interpreted = f.interpreted ∙ ap (λ b. interpreted_of setting begin thread was.retired w + (interpreted_in setting thread here_is + (if b then end_in setting thread here_is else 0))) (not_raised was.mode going);
  steps = f.steps;
  kinds = f.kinds;
  paired = f.paired;
  entries = f.entries;
  goes_on = over_goes setting was;
  asks = λ set_up pages. tt;
}
  where
    w : List ℕ
    w = replies_by (threads_of setting begin) thread mine

    here_is : Option Retired
    here_is = reached (threads_of setting begin) thread was.retired w

-- ---- what is owed of a thread's instructions, with its handler
module _ (setting : Setting) (permit : Permit) (sound : IsSound setting.meaning) (allows : AllowsFew permit) (meets : Meets setting.meaning permit setting.code) (thread : ℕ) (few : thread < 256) where
  abbrev pub Owing : VaxState → Flags → Option Lock → (spare : ℕ) → Alpha → Tree → Type 0
  Owing b held = Handled setting.meaning.pages b (Owes setting permit thread sound allows meets.map_rises b held) (IsForm setting)

  pub owing_enters : (state : VaxState) (held : Flags) (regs : Regs) (word : ℕ) → IsState state → IsForm setting state held regs → goes_on setting thread state ≡ Some word
      → Owing state held None block_steps (at_place regs word) (setting.meaning.moment thread state)
  owing_enters state held regs word is form goes = record {
    alone = setting.meaning.tree thread state;
    is = sound.moments thread state (awake state.pending (word_for setting.code.map setting.ranges thread state.pc) word goes).0;
    owes = enter setting permit thread sound allows meets few state held regs word is form goes;
  }

  pub owing_opens : (retired : ℕ) (b : VaxState) (held : Flags) (lock : Option Lock) (spare : ℕ) (alpha : Alpha) (k : Tree) → Owing b held lock spare alpha k
      → (0 < spare) × OwedNext setting.meaning.pages (Owing b held) (IsForm setting) (settled_last b) (permit.kinds b.pc) retired lock (spare - 1) k (next setting (moment_at thread retired b held) alpha)
  owing_opens retired b held lock spare alpha k =
      opens_handled setting.meaning.pages b (Owes setting permit thread sound allows meets.map_rises b held) (IsForm setting) (permit.kinds b.pc) retired lock spare alpha k (next setting (moment_at thread retired b held) alpha)
      (λ t. opens setting permit thread sound allows meets.map_rises few retired b held lock spare alpha t)

-- ---- one processor
module _ (setting : Setting) (permit : Permit) (set_up : SetUp) (entries : List Entry) (sound : IsSound setting.meaning) (allows : AllowsFew permit) (meets : Meets setting.meaning permit setting.code) (run : IsRun set_up) (order : memory.Meets set_up entries) where
  started : (thread : ℕ) (start : VaxState) → starts set_up.image thread ≡ Some start → IsState start × (thread < 256)
  started thread start h =
      let found = option_map-some start_state (slice_get set_up.image.threads thread) start h in
      let range = run.starts thread found.0 found.1 in
      (subst IsState found.2 (start_is found.0 range.1), range.0)

  was_facts : (thread : ℕ) (start : VaxState) (was : Processor) → starts set_up.image thread ≡ Some start → Reaches setting (begun thread start) was.steps (own thread entries) was → Facts setting permit (starts set_up.image) thread (own thread entries) was
  was_facts thread start was h reached_was =
      let s = started thread start h in
      facts setting permit (starts set_up.image) thread start h s.0 (sound.moments_ranged thread s.1)
      (Owing setting permit sound allows meets thread s.1) (IsForm setting) (fresh setting) (owing_enters setting permit sound allows meets thread s.1) (owing_opens setting permit sound allows meets thread s.1)
      was.steps (own thread entries) was reached_was (all_fair set_up run.bytes entries order thread)

  pub facts_of : (budget thread : ℕ) (start : VaxState) (p : Processor) → starts set_up.image thread ≡ Some start → IsReached setting budget set_up.limit entries thread start p → Facts setting permit (starts set_up.image) thread (own thread entries) p
  facts_of budget thread start p h r =
      let f = was_facts thread start r.was h r.reaches in
      ⊎_elim (λ e. subst (Facts setting permit (starts set_up.image) thread (own thread entries)) (sym e) f) (λ s. subst (Facts setting permit (starts set_up.image) thread (own thread entries)) (sym s.is) (spent_facts setting permit (starts set_up.image) thread (own thread entries) r.was s.going f)) r.now

pub reached_is_steady : ReachedIsSteady
reached_is_steady setting permit set_up budget entries thread start p sound allows meets run pages order h r =
    let f = facts_of setting permit set_up entries sound allows meets run order budget thread start p h r in
    record { goes_on = f.goes_on; asks = λ request on e. subst (CanTurn set_up) e (f.asks set_up pages); steps = f.steps }

module _ (setting : Setting) (permit : Permit) (set_up : SetUp) (budget : ℕ) (entries : List Entry) (processors : List Processor) (sound : IsSound setting.meaning) (allows : AllowsFew permit) (meets : Meets setting.meaning permit setting.code) (run : IsRun set_up) (legal : IsLegal setting set_up budget entries processors) where
  abbrev begin : ℕ → Option VaxState
  begin = starts set_up.image

  abbrev threads : Threads
  threads = threads_of setting begin

  -- the facts of each processor
  each_facts : (thread : ℕ) (p : Processor) → slice_get processors thread ≡ Some p → Facts setting permit begin thread (own thread entries) p
  each_facts thread p at =
      let lt = slice_get_within processors thread p at in
      let s = there_is set_up.image.threads thread (omega (arith, lt, legal.count)) in
      let h : begin thread ≡ Some (start_state s.0) = ap (option_map start_state) s.1 in
      facts_of setting permit set_up entries sound allows meets run legal.order budget thread (start_state s.0) p h (legal.each thread (start_state s.0) p h at)

  explained_by : (thread : ℕ) (o : Option Processor) → slice_get processors thread ≡ o → Explained threads thread (own thread entries)
  explained_by thread None at = subst (Explained threads thread) (sym (own_none (length processors) entries thread legal.known (beyond processors thread at))) tt
  explained_by thread (Some p) at = (each_facts thread p at).explained

  few_by : (thread : ℕ) (o : Option Processor) → slice_get processors thread ≡ o → HasFewEntries (own thread entries)
  few_by thread None at = subst HasFewEntries (sym (own_none (length processors) entries thread legal.known (beyond processors thread at))) (omega arith)
  few_by thread (Some p) at = (each_facts thread p at).entries

  paired_by : (thread : ℕ) (o : Option Processor) → slice_get processors thread ≡ o → AllPaired (own thread entries)
  paired_by thread None at = subst AllPaired (sym (own_none (length processors) entries thread legal.known (beyond processors thread at))) tt
  paired_by thread (Some p) at = (each_facts thread p at).paired

  whole : IsDriven threads set_up entries
  whole = one_history threads set_up entries run.bytes.image legal.order (λ thread. explained_by thread (slice_get processors thread) refl)

  -- the runs of the processors from one on
  record AreRuns (ps : List Processor) (first : ℕ) : Type 0 where
    runs : List ThreadRun
    are : runs_from threads whole.made first (map (λ (p : Processor). p.retired) ps) ≡ Some runs
    each : (k : ℕ) (p : Processor) (run : ThreadRun) → slice_get ps k ≡ Some p → slice_get runs k ≡ Some run → (run.state ≡ p.boundary) × Claims p.mode run

  runs_of : (ps : List Processor) (first : ℕ) → ((k : ℕ) (p : Processor) → slice_get ps k ≡ Some p → IsShown setting begin (first + k) (replies_to (first + k) whole.made) p) → AreRuns ps first
  runs_of [] first shown = record { runs = []; are = refl; each = λ k p run a b. absurd (cc a) }
  runs_of (p ∷ ps) first shown =
      let here_shown : IsShown setting begin first (replies_to first whole.made) p = subst (λ n. IsShown setting begin n (replies_to n whole.made) p) (plus_none first) (shown 0 p refl) in
      let rest = runs_of ps (first + 1) (λ k q at. subst (λ n. IsShown setting begin n (replies_to n whole.made) q) (plus_one first k) (shown (suc k) q at)) in
      record {
        runs = here_shown.run ∷ rest.runs;
        are = ap (λ o. run_before o (runs_from threads whole.made (first + 1) (map (λ (p : Processor). p.retired) ps))) here_shown.driven ∙ ap (run_before (Some here_shown.run)) rest.are;
        each = λ k q run a b. both k q run a here_shown rest b;
      }
    where
      plus_none : (n : ℕ) → n + 0 ≡ n
      plus_none n = omega arith

      plus_one : (n k : ℕ) → n + suc k ≡ n + 1 + k
      plus_one n k = omega arith

      both : (k : ℕ) (q : Processor) (run : ThreadRun) → slice_get (p ∷ ps) k ≡ Some q → (here_shown : IsShown setting begin first (replies_to first whole.made) p) (rest : AreRuns ps (first + 1)) → slice_get (here_shown.run ∷ rest.runs) k ≡ Some run → (run.state ≡ q.boundary) × Claims q.mode run
      both zero q run a here_shown rest b =
          let p_is : p ≡ q = cc a in
          let run_is : here_shown.run ≡ run = cc b in
          subst (λ (x : Processor). (run.state ≡ x.boundary) × Claims x.mode run) p_is (subst (λ (x : ThreadRun). (x.state ≡ p.boundary) × Claims p.mode x) run_is (here_shown.state, here_shown.claims))
      both (suc k) q run a here_shown rest b = rest.each k q run a b

  all_runs : AreRuns processors 0
  all_runs = runs_of processors 0 (λ k p at. subst (λ w. IsShown setting begin (0 + k) w p) (sym (whole.replies (0 + k))) (subst (λ n. IsShown setting begin n (replies_by threads n (own n entries)) p) (none_plus k) (each_facts k p at).shown))
    where
      none_plus : (k : ℕ) → k ≡ 0 + k
      none_plus k = omega arith

  pub headline : HasHeadline setting permit set_up entries processors
  headline = record {
    history = whole;
    runs = all_runs.runs;
    driven = ap (driven_on (world_of threads set_up) (map (λ (p : Processor). p.retired) processors)) whole.walked ∙ ap (ended whole.made) all_runs.are;
    each = λ thread p run a b.
        let f = each_facts thread p a in
        let r = all_runs.each thread p run a b in
        record {
          shown = r.0;
          ends = r.1;
          interpreted = subst (λ w. HasInterpreted setting begin thread w p) (sym (whole.replies thread)) f.interpreted;
          kinds = f.kinds;
          goes_on = f.goes_on;
          steps = f.steps;
          paired = f.paired;
        };
    few_entries = all_entries (length processors) entries legal.known (λ t. few_by t (slice_get processors t) refl);
    failures = fail_for_cause set_up entries legal.order (λ t. paired_by t (slice_get processors t) refl);
  }

pub legal_has_headline : LegalHasHeadline
legal_has_headline setting permit set_up budget entries processors sound allows meets run legal = headline setting permit set_up budget entries processors sound allows meets run legal
