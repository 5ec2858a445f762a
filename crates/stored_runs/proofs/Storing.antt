-- The order of a legal run, stored and driven again.
use Rattle.std.proofs.Common.{◌≡◌, ◌<◌, ◌≤◌, ◌+◌, ◌++◌, ◌^◌, ◌==◌, ◌⊎◌, inl, inr, ℕ, suc, Bool, true, false, if◌then◌else◌, List, [], ◌∷◌, Option, Some, None, Ok, length, map, reverse, option_map, get_or, refl, sym, ap, ◌∙◌, subst, arith, eq-eqb, lit<}
use Rattle.std.specs.Prelude.{slice_get, slice_index}
use Rattle.std.specs.List.{AllByRecursion, filter}
use Rattle.std.proofs.lemmas.Bool.{cases_lt}
use Rattle.std.proofs.lemmas.List.{append-nil, get_or_past, length-map, length-reverse, reverse-append, reverse-reverse}
use Rattle.std.proofs.lemmas.Option.{slice_get-get_or}
use Rattle.legal_history.specs.Headline.{Claims}
use Rattle.legal_history.specs.Law.{IsRun}
use Rattle.legal_history.proofs.Headlines.{legal_has_headline}
use Rattle.memory_core.specs.Contents.{output_of}
use Rattle.memory_core.specs.Kinds.{is_put}
use Rattle.memory_core.specs.Limits.{greatest, IsWithin as IsWithinLimit, KeepsEntries}
use Rattle.memory_core.specs.Order.{own}
use Rattle.memory_core.specs.declared.entry.Entry.{Entry}
use Rattle.memory_core.specs.declared.entry.Limit.{Limit}
use Rattle.memory_core.specs.declared.entry.Limit.TheVariants.{Entries, Puts}
use Rattle.memory_core.specs.declared.entry.SetUp.{SetUp}
use Rattle.memory_core.proofs.Keeping.{output_of-push}
use Rattle.run_files.specs.Fits.{Fits, IsCount, IsPick}
use Rattle.run_files.specs.Limits.{MOST_COUNT, MOST_PICKS}
use Rattle.run_files.specs.Spelling.{Ended}
use Rattle.run_files.proofs.BothWays.{written_is_read}
use Rattle.system_model.specs.Counted.{is_counted, order, pick_of}
use Rattle.system_model.specs.Laws.{IsWithin}
use Rattle.system_model.specs.Processors as model
use Rattle.system_model.specs.Processors.{Mode, Processor}
use Rattle.system_model.proofs.Orders.{order_turns}
use Rattle.system_model.proofs.Turns.{legal_are_within}
use Rattle.tie_switch.specs.Turns.{has_ended}
use Rattle.vax_form.specs.Made.{Made, output_after, replies_to}
use Rattle.vax_form.specs.State.{register}
use Rattle.vax_form.specs.Tree.{Life, Runs, Exited, Trapped, Retired}
use Rattle.vax_form.specs.declared.state.Exception.{Exception}
use Rattle.vax_form.specs.declared.state.VaxState.{VaxState}
use Rattle.vax_driven.specs.Driven.{Driven, driven, driven_on, ended, run_before, runs_from}
use Rattle.vax_driven.specs.Threads.{Threads, reached, run_at}
use Rattle.vax_driven.specs.declared.thread.End.{End}
use Rattle.vax_driven.specs.declared.thread.End.TheVariants as ends
use Rattle.vax_driven.specs.declared.thread.ThreadRun.{ThreadRun}
use Rattle.vax_run.specs.Values.{value_of, world_of}
use Rattle.stored_runs.specs.Law.{end_with, ends_of, is_spent, order_of_run, stored_end, HaveEnded, HeadlineIsReplayed, IsStorable, LegalIsReplayed}
use Rattle.stored_runs.specs.Replay.{end_before, end_of, ends_from, given_by, replay_of, with_ends}

-- ---- the output, told either way round
put_first : (b : Bool) (e : Entry) (puts : List Entry) → reverse (map (λ (x : Entry). x.after) puts) ++ (if b then e.after ∷ [] else [])
    ≡ reverse (map (λ (x : Entry). x.after) (if b then e ∷ puts else puts))
put_first true e puts = sym (reverse-append (e.after ∷ []) (map (λ (x : Entry). x.after) puts))
put_first false e puts = append-nil (reverse (map (λ (x : Entry). x.after) puts))

output_reversed : (history : List Entry) → output_of (reverse history) ≡ reverse (output_of history)
output_reversed [] = refl
output_reversed (e ∷ history) =
    ap output_of (reverse-append (e ∷ []) history)
    ∙ output_of-push (reverse history) e
    ∙ ap (λ (bytes : List ℕ). bytes ++ (if is_put e.kind then e.after ∷ [] else [])) (output_reversed history)
    ∙ put_first (is_put e.kind) e (filter (λ (x : Entry). is_put x.kind) history)

put_out : (history : List Entry) (made : List Made) → output_after made ≡ output_of (reverse history) → reverse (output_after made) ≡ output_of history
put_out history made is = ap reverse is ∙ ap reverse (output_reversed history) ∙ reverse-reverse (output_of history)

-- ---- the threads that were driven
-- a thread that exited has raised nothing
exit_alone : (threads : Threads) (thread : ℕ) (here : Option Retired) (run : ThreadRun) → run_at threads thread here ≡ Some run → run.exited ≡ true → run.raised ≡ None
exit_alone threads thread None run is exited = absurd (cc is)
exit_alone threads thread (Some here) run is exited = by here.life refl
  where
    by : (life : Life) → here.life ≡ life → run.raised ≡ None
    by Runs e =
        let same : run_at threads thread (Some (record here { life = Runs })) ≡ Some run = subst (λ l. run_at threads thread (Some (record here { life = l })) ≡ Some run) e is in
        let gone : false ≡ run.exited = cc same in
        let never : false ≡ true = gone ∙ exited in
        absurd (cc never)
    by Exited e =
        let same : run_at threads thread (Some (record here { life = Exited })) ≡ Some run = subst (λ l. run_at threads thread (Some (record here { life = l })) ≡ Some run) e is in
        let none : None ≡ run.raised = cc same in
        sym none
    by (Trapped kind) e =
        let same : run_at threads thread (Some (record here { life = Trapped kind })) ≡ Some run = subst (λ l. run_at threads thread (Some (record here { life = l })) ≡ Some run) e is in
        let gone : false ≡ run.exited = cc same in
        let never : false ≡ true = gone ∙ exited in
        absurd (cc never)

abbrev IsPlain : ThreadRun → Type 0
IsPlain run = run.exited ≡ true → run.raised ≡ None

-- as many as counts, and each plain
pub record ArePlain (count : ℕ) (runs : List ThreadRun) : Type 0 where
  pub many : length runs ≡ count
  pub each : AllByRecursion IsPlain runs

before_plain : (threads : Threads) (thread : ℕ) (here : Option Retired) (later : Option (List ThreadRun)) (count : ℕ) (runs : List ThreadRun)
    → run_before (run_at threads thread here) later ≡ Some runs → ((rest : List ThreadRun) → later ≡ Some rest → ArePlain count rest) → ArePlain (suc count) runs
before_plain threads thread here later count runs is plain = by (run_at threads thread here) refl later refl is
  where
    by : (run : Option ThreadRun) → run_at threads thread here ≡ run → (rest : Option (List ThreadRun)) → later ≡ rest → run_before run rest ≡ Some runs → ArePlain (suc count) runs
    by None e rest f none = absurd (cc none)
    by (Some run) e None f none = absurd (cc none)
    by (Some run) e (Some rest) f all =
        let same : run ∷ rest ≡ runs = cc all in
        let p = plain rest f in
        subst (ArePlain (suc count)) same (record { many = ap suc p.many; each = (exit_alone threads thread here run e, p.each) })

runs_plain : (threads : Threads) (made : List Made) (thread : ℕ) (counts : List ℕ) (runs : List ThreadRun) → runs_from threads made thread counts ≡ Some runs
    → ArePlain (length counts) runs
runs_plain threads made thread [] runs is =
    let none : [] ≡ runs = cc is in
    subst (ArePlain 0) none (record { many = refl; each = tt })
runs_plain threads made thread (count ∷ counts) runs is =
    before_plain threads thread (reached threads thread count (replies_to thread made)) (runs_from threads made (thread + 1) counts) (length counts) runs is
    (λ rest e. runs_plain threads made (thread + 1) counts rest e)

came_to : (made : List Made) (o : Option (List ThreadRun)) (other : List Made) (runs : List ThreadRun) → ended made o ≡ Some (record { made = other; runs = runs }) → o ≡ Some runs
came_to made None other runs is = absurd (cc is)
came_to made (Some r) other runs is = ap (option_map (λ (d : Driven). d.runs)) is

-- ---- the ends of processors
pub record IsShown (run : ThreadRun) (p : Processor) : Type 0 where
  pub state : run.state ≡ p.boundary
  pub claims : Claims p.mode run
  pub plain : IsPlain run
  pub ended : has_ended p.mode ≡ true

abbrev AreShown : List ThreadRun → List Processor → Type 0
AreShown [] [] = Unit {0}
AreShown [] (p ∷ processors) = ⊥
AreShown (run ∷ runs) [] = ⊥
AreShown (run ∷ runs) (p ∷ processors) = IsShown run p × AreShown runs processors

abbrev IsExit : Bool → ThreadRun → Option End
IsExit b run = if b then Some (ends.Exit (register 0 run.state)) else option_map ends.Raised run.raised

raised_end : (b : Bool) (run : ThreadRun) (exception : Exception) → run.exited ≡ b → run.raised ≡ Some exception → IsPlain run
    → IsExit b run ≡ Some (ends.Raised exception)
raised_end true run exception e is plain = let gone : None ≡ Some exception = sym (plain e) ∙ is in absurd (cc gone)
raised_end false run exception e is plain = ap (option_map ends.Raised) is

abbrev IsSpentEnd : Bool → Option End
IsSpentEnd b = if b then None else Some ends.Spent

step : (thread : ℕ) (mode : Mode) (p : Processor) (run : ThreadRun) (processors : List Processor) → Claims mode run → IsPlain run → has_ended mode ≡ true → run.state ≡ p.boundary
    → end_before thread run.state p.retired (end_of (is_spent mode) run) (Ok (ends_of processors)) ≡ Ok (end_with mode p (ends_of processors))
step thread model.New p run processors claims plain over state = absurd (cc over)
step thread (model.Runs alpha) p run processors claims plain over state = absurd (cc over)
step thread (model.Interprets s replies) p run processors claims plain over state = absurd (cc over)
step thread (model.Ended (ends.Exit value)) p run processors claims plain over state =
    let end : end_of false run ≡ Some (ends.Exit value) = ap (λ (b : Bool). IsExit b run) claims.0 ∙ ap (λ v. Some (ends.Exit v)) (sym claims.1) in
    ap (λ e. end_before thread run.state p.retired e (Ok (ends_of processors))) end
    ∙ ap (λ (s : VaxState). Ok ((ends.Exit value, s, p.retired) ∷ ends_of processors)) state
step thread (model.Ended (ends.Raised exception)) p run processors claims plain over state =
    let end : end_of false run ≡ Some (ends.Raised exception) = raised_end run.exited run exception refl claims plain in
    ap (λ e. end_before thread run.state p.retired e (Ok (ends_of processors))) end
    ∙ ap (λ (s : VaxState). Ok ((ends.Raised exception, s, p.retired) ∷ ends_of processors)) state
step thread (model.Ended ends.Spent) p run processors claims plain over state =
    let end : end_of true run ≡ Some ends.Spent = ap IsSpentEnd claims in
    ap (λ e. end_before thread run.state p.retired e (Ok (ends_of processors))) end
    ∙ ap (λ (s : VaxState). Ok ((ends.Spent, s, p.retired) ∷ ends_of processors)) state

abbrev counts_of : List Processor → List ℕ
counts_of processors = map (λ (e : Ended). e.0) (map stored_end processors)

abbrev flags_of : List Processor → List Bool
flags_of processors = map (λ (e : Ended). e.1) (map stored_end processors)

ends_are : (thread : ℕ) (runs : List ThreadRun) (processors : List Processor) → AreShown runs processors
    → ends_from thread runs (flags_of processors) (counts_of processors) ≡ Ok (ends_of processors)
ends_are thread [] [] are = refl
ends_are thread [] (p ∷ processors) are = absurd are
ends_are thread (run ∷ runs) [] are = absurd are
ends_are thread (run ∷ runs) (p ∷ processors) are =
    ap (end_before thread run.state p.retired (end_of (is_spent p.mode) run)) (ends_are (suc thread) runs processors are.1)
    ∙ step thread p.mode p run processors are.0.claims are.0.plain are.0.ended are.0.state

shown_all : (runs : List ThreadRun) (processors : List Processor) → length runs ≡ length processors → AllByRecursion IsPlain runs → HaveEnded processors
    → ((i : ℕ) (p : Processor) (run : ThreadRun) → slice_get processors i ≡ Some p → slice_get runs i ≡ Some run → (run.state ≡ p.boundary) × Claims p.mode run)
    → AreShown runs processors
shown_all [] [] many plain over each = tt
shown_all [] (p ∷ processors) many plain over each = absurd (cc many)
shown_all (run ∷ runs) [] many plain over each = absurd (cc many)
shown_all (run ∷ runs) (p ∷ processors) many plain over each =
    let here = each 0 p run refl refl in
    let rest : length runs ≡ length processors = omega (arith, many) in
    (record { state = here.0; claims = here.1; plain = plain.0; ended = over.0 }, shown_all runs processors rest plain.1 over.1 (λ i. each (suc i)))

counts_are : (processors : List Processor) → counts_of processors ≡ map (λ (p : Processor). p.retired) processors
counts_are [] = refl
counts_are (p ∷ processors) = ap (λ l. p.retired ∷ l) (counts_are processors)

-- ---- what an order file can hold
all_append : {X : Type 0} (P : X → Type 0) (xs ys : List X) → AllByRecursion P xs → AllByRecursion P ys → AllByRecursion P (xs ++ ys)
all_append P [] ys first second = second
all_append P (x ∷ xs) ys first second = (first.0, all_append P xs ys first.1 second)

all_reverse : {X : Type 0} (P : X → Type 0) (xs : List X) → AllByRecursion P xs → AllByRecursion P (reverse xs)
all_reverse P [] all = tt
all_reverse P (x ∷ xs) all =
    subst (AllByRecursion P) (sym (reverse-append (x ∷ []) xs)) (all_append P (reverse xs) (x ∷ []) (all_reverse P xs all.1) (all.0, tt))

-- an entry of one of so many processors, that tells of at most so many instructions
abbrev IsFew : (threads most : ℕ) → Entry → Type 0
IsFew threads most e = (e.processor < threads) × (e.retired ≤ most)

abbrev IsBelow : ℕ → Entry → Type 0
IsBelow most e = e.retired ≤ most

first_own : (b : Bool) (most : ℕ) (e : Entry) (mine : List Entry) → b ≡ true → AllByRecursion (IsBelow most) (if b then e ∷ mine else mine) → e.retired ≤ most
first_own true most e mine is all = all.0
first_own false most e mine is all = absurd (cc is)

later_own : (b : Bool) (most : ℕ) (e : Entry) (mine : List Entry) → AllByRecursion (IsBelow most) (if b then e ∷ mine else mine) → AllByRecursion (IsBelow most) mine
later_own true most e mine all = all.1
later_own false most e mine all = all

few_all : (threads most : ℕ) (entries : List Entry) → AllByRecursion (λ (e : Entry). e.processor < threads) entries
    → ((thread : ℕ) → thread < threads → AllByRecursion (IsBelow most) (own thread entries)) → AllByRecursion (IsFew threads most) entries
few_all threads most [] known each = tt
few_all threads most (e ∷ entries) known each = (
  (known.0, first_own (e.processor == e.processor) most e (own e.processor entries) (eq-eqb e.processor e.processor refl) (each e.processor known.0)),
  few_all threads most entries known.1 (λ thread below. later_own (e.processor == thread) most e (own thread entries) (each thread below)),
)

weaker : (m n : ℕ) (entries : List Entry) → m ≤ n → AllByRecursion (IsBelow m) entries → AllByRecursion (IsBelow n) entries
weaker m n [] less all = tt
weaker m n (e ∷ entries) less all = (omega (arith, less, all.0), weaker m n entries less all.1)

picks_all : (threads most : ℕ) (history : List Entry) → most < 2 ^ 64 → AllByRecursion (IsFew threads most) history → AllByRecursion (IsPick threads) (order history)
picks_all threads most [] small all = tt
picks_all threads most (e ∷ history) small all = by (picks_all threads most history small all.1) (is_counted e)
  where
    by : AllByRecursion (IsPick threads) (order history) → (b : Bool) → AllByRecursion (IsPick threads) (map pick_of (if b then e ∷ filter is_counted history else filter is_counted history))
    by later true = ((all.0.0, omega (arith, small, all.0.1)), later)
    by later false = later

picks_few : (history : List Entry) → length (order history) ≤ length history
picks_few [] = omega arith
picks_few (e ∷ history) = by (picks_few history) (is_counted e)
  where
    by : length (order history) ≤ length history → (b : Bool) → length (map pick_of (if b then e ∷ filter is_counted history else filter is_counted history)) ≤ suc (length history)
    by few true = omega (arith, few)
    by few false = omega (arith, few)

counts_small : (processors : List Processor) → ((k : ℕ) (p : Processor) → slice_get processors k ≡ Some p → p.retired ≤ MOST_COUNT) → AllByRecursion IsCount (counts_of processors)
counts_small [] each = tt
counts_small (p ∷ processors) each = (each 0 p refl, counts_small processors (λ k. each (suc k)))

-- entries that are kept are as few as their limit
few_kept : (limit : Limit) (entries : List Entry) (most : ℕ) → IsWithinLimit limit entries → KeepsEntries limit → greatest limit ≤ most → length entries ≤ most
few_kept (Entries n) entries most within keeps few = omega (arith, within, few)
few_kept (Puts n) entries most within keeps few = absurd keeps

module _ (set_up : SetUp) (budget : ℕ) (history : List Entry) (processors : List Processor) where
  fits : IsRun set_up → length processors ≡ length set_up.image.threads → AllByRecursion (λ (e : Entry). e.processor < length processors) (reverse history)
      → IsWithinLimit set_up.limit (reverse history)
      → ((thread : ℕ) (p : Processor) → slice_get processors thread ≡ Some p → IsWithin budget (own thread (reverse history)) p)
      → IsStorable set_up budget → Fits (length set_up.image.threads) (order_of_run history set_up.input processors)
  fits run many known room within storable =
      let small : MOST_COUNT < 2 ^ 64 = lit< tt in
      let as_many : length (map stored_end processors) ≡ length processors = length-map processors stored_end in
      let few_picks = picks_few history in
      let reversed : length (reverse history) ≡ length history = length-reverse history in
      let budgeted = storable.steps in
      record {
        few = record { few_threads = storable.threads; short_input = storable.input; few_picks = omega (arith, few_picks, reversed, few_kept set_up.limit (reverse history) MOST_PICKS room storable.keeps storable.limit) };
        counts = length-map (map stored_end processors) (λ (e : Ended). e.0) ∙ as_many ∙ many;
        spent = length-map (map stored_end processors) (λ (e : Ended). e.1) ∙ as_many ∙ many;
        small = counts_small processors (λ k p at. let w = within k p at in omega (arith, budgeted, w.steps, w.retired));
        input = λ i. by i (cases_lt i (length set_up.input));
        picks = subst (λ n. AllByRecursion (IsPick n) (order history)) many
            (picks_all (length processors) MOST_COUNT history small
            (subst (AllByRecursion (IsFew (length processors) MOST_COUNT)) (reverse-reverse history)
            (all_reverse (IsFew (length processors) MOST_COUNT) (reverse history)
            (few_all (length processors) MOST_COUNT (reverse history) known
            (λ thread below.
            let p = get_or processors thread (first processors below) in
            let w = within thread p (slice_get-get_or processors thread (first processors below) below) in
            weaker p.retired MOST_COUNT (own thread (reverse history)) (omega (arith, budgeted, w.steps, w.retired)) w.told)))));
      }
    where
      first : {n : ℕ} (ps : List Processor) → n < length ps → Processor
      first [] below = absurd (omega arith)
      first (p ∷ ps) below = p

      by : (i : ℕ) → (i < length set_up.input) ⊎ (length set_up.input ≤ i) → slice_index set_up.input i < 256
      by i (inl below) = run.bytes.input i 0 below
      by i (inr past) = subst (λ b. b < 256) (sym (get_or_past set_up.input i 0 past)) (lit< tt)

pub headline_is_replayed : HeadlineIsReplayed
unfolding replay_of
headline_is_replayed code ranges permit set_up budget history processors run legal headline over storable = record {
  accepted = written_is_read (length set_up.image.threads) (order_of_run history set_up.input processors)
      (fits set_up budget history processors run legal.count legal.known legal.room (legal_are_within _ set_up budget (reverse history) processors legal) storable);
  gives = gives;
}
  where
    driven_is : driven (world_of set_up.image set_up.input) (reverse (order history)) (counts_of processors) ≡ Some (record { made = headline.history.made; runs = headline.runs })
    driven_is =
        ap (λ picks. driven (world_of set_up.image set_up.input) picks (counts_of processors)) (sym (order_turns history))
        ∙ ap (driven (world_of set_up.image set_up.input) (order (reverse history))) (counts_are processors)
        ∙ headline.driven

    runs_are : runs_from (world_of set_up.image set_up.input).threads headline.history.made 0 (map (λ (p : Processor). p.retired) processors) ≡ Some headline.runs
    runs_are = came_to headline.history.made _ headline.history.made headline.runs
        (ap (driven_on (world_of set_up.image set_up.input) (map (λ (p : Processor). p.retired) processors)) (sym headline.history.walked) ∙ headline.driven)

    plain : ArePlain (length (map (λ (p : Processor). p.retired) processors)) headline.runs
    plain = runs_plain (world_of set_up.image set_up.input).threads headline.history.made 0 (map (λ (p : Processor). p.retired) processors) headline.runs runs_are

    shown : AreShown headline.runs processors
    shown = shown_all headline.runs processors (plain.many ∙ length-map processors (λ (p : Processor). p.retired)) plain.each over
        (λ i p r at found. let kept = headline.each i p r at found in (kept.shown, kept.ends))

    gives : replay_of set_up.image (order_of_run history set_up.input processors) ≡ Ok (record { output = output_of history; ends = ends_of processors })
    gives =
        ap (λ d. given_by (order_of_run history set_up.input processors) (option_map (value_of set_up.image) d)) driven_is
        ∙ ap (with_ends (reverse (output_after headline.history.made))) (ends_are 0 headline.runs processors shown)
        ∙ ap (λ (bytes : List ℕ). Ok (record { output = bytes; ends = ends_of processors })) (put_out history headline.history.made headline.history.output)

pub legal_is_replayed : LegalIsReplayed
legal_is_replayed code ranges permit set_up budget history processors sound few meets run legal over storable =
    headline_is_replayed code ranges permit set_up budget history processors run legal
    (legal_has_headline _ permit set_up budget (reverse history) processors sound few meets run legal) over storable
