-- Each processor's own entries are those of its thread.
use Rattle.std.proofs.Common.{◌≡◌, ◌≢◌, ℕ, suc, ◌+◌, ◌-◌, ◌*◌, ◌<◌, ◌≤◌, Bool, true, false, if◌then◌else◌, List, [], ◌∷◌, ◌++◌, Option, Some, None, refl, sym, ap, ◌∙◌, subst, arith, length}
use Rattle.alpha_meaning.specs.Pieces.{Kinds, retry_steps}
use Rattle.block_law.specs.Rounds.{block_steps}
use Rattle.block_law.specs.Translations.{Permit}
use Rattle.std.specs.Option.{is_some}
use Rattle.std.specs.Prelude.{MatchBool}
use Rattle.alpha_meaning.specs.State.{Alpha, Regs, at_place}
use Rattle.memory_core.specs.declared.entry.Entry.{Entry}
use Rattle.memory_core.specs.declared.entry.Kind.{Kind}
use Rattle.memory_core.specs.declared.entry.Kind.TheVariants.{LoadLocked, StoreConditional}
use Rattle.memory_core.specs.declared.entry.Request.{Request}
use Rattle.memory_core.specs.declared.entry.SetUp.{SetUp}
use Rattle.vax_form.specs.State.{IsState, register}
use Rattle.vax_form.specs.Tree.{Tree, Check, Ask, Fault, Ends, Finish, Exit, Trap, Answer, answer}
use Rattle.vax_form.specs.Tree as trees
use Rattle.vax_form.specs.declared.state.Flags.{Flags}
use Rattle.vax_form.specs.declared.state.Reference.{Reference}
use Rattle.vax_form.specs.declared.state.VaxState.{VaxState}
use Rattle.vax_driven.specs.declared.ThreadRun.{ThreadRun}
use Rattle.vax_driven.specs.Threads.{Threads, after_start, wanted, run_at, fault_of, thread_run}
use Rattle.vax_driven.specs.declared.thread.End.{End}
use Rattle.vax_driven.specs.declared.thread.End.TheVariants as ends
use Rattle.system_model.specs.Settings.{Setting, goes_on}
use Rattle.system_model.specs.Steps.{Last, Comes, Fails, Place, Inside, Lands, Leaves, Next, Moves, Wants, Moment, next, settled_last}
use Rattle.system_model.specs.Steps as step
use Rattle.system_model.specs.Processors.{Mode, New, Runs, Interprets, Ended, Processor, all_held, registers_of, mode_by, begun, stepped, tied, arrived, left, placed, moment_of, Turn, Went, Asks, Over, Stuck, alpha_turn, kind_by, request_of, tie_turn, turn_in, mode_of, turn, entry_by, Reaches, Begins, Steps, Takes}
use Rattle.system_model.specs.Counted.{counts, is_counted}
use Rattle.legal_history.specs.Explained.{with_reply, replies_by, IsWanted, Explained}
use Rattle.legal_history.specs.Entries.{Paired, AllPaired, fails, counted_in, failed_in, Lock, lock_by, lock_of}
use Rattle.legal_history.specs.Headline.{Claims}
use Rattle.legal_history.proofs.Facts.{IsShown, CanTurn, Facts}
use Rattle.legal_history.proofs.Fair.{IsFair, AllFair}
use Rattle.legal_history.proofs.Judged.{MadeBy, head_of, for_nothing, share_by, share_of}
use Rattle.system_model.specs.Interpreted.{threads_of, is_translated, made_in, interpreted_in, end_in, interpreted_of, interpreted_open}
use Rattle.legal_history.specs.Kinds.{IsAlpha, IsMadeIn, IsMadeAt, IsMade, AllMadeIn}
use Rattle.system_model.specs.Quadwords.{reply_from}
use Rattle.vax_form.specs.Ranges.{FitsPage, IsInRange, StaysInRange}
use Rattle.vax_form.specs.declared.pages.Pages.{Pages}
use Rattle.system_model.proofs.Making.{references_can_be_made, steps_can_be_made}
use Rattle.legal_history.proofs.Paths.{Path, Here, Takes, joined, joined_here, answered, to_ask, silent_ends, comes_state, made_none, made_one}
use Rattle.legal_history.proofs.Reached.{running, here, reached_more, reached_suc, wanted_is, interpreted_more, interpreted_quiet, end_quiet, interpreted_loud, end_loud}
use Rattle.legal_history.proofs.Replying.{reply_fits, tie_counts, tie_is, tie_free, tie_paired, tie_kind, tie_share}
use Rattle.legal_history.proofs.Owed.{more_by, answer_by, OwedPlace, OwedAccess, OwedNext}

abbrev pub moment_at : (thread retired : ℕ) → VaxState → Flags → Moment
moment_at thread retired boundary held = record { thread = thread; retired = retired; boundary = boundary; held = held }

-- ---- numbers of steps
spared : (kind : Kind) (success : Bool) (steps spare base share : ℕ) → counts kind success ≡ false → steps + spare ≤ base + share → steps + more_by kind success spare ≤ base + share_by kind success share
spared StoreConditional true steps spare base share c h = absurd (cc c)
spared StoreConditional false steps spare base share c h = omega arith
spared LoadLocked success steps spare base share c h = h
spared _ success steps spare base share c h = absurd (cc c)

granted : (kind : Kind) (success : Bool) (share : ℕ) → counts kind success ≡ true → share_by kind success share ≡ share + block_steps
granted StoreConditional true share c = refl
granted StoreConditional false share c = absurd (cc c)
granted LoadLocked success share c = absurd (cc c)
granted _ success share c = refl

module _ (setting : Setting) (starts : ℕ → Option VaxState) (thread : ℕ) where
  abbrev threads : Threads
  threads = threads_of setting starts

  abbrev tree : VaxState → Tree
  tree = setting.meaning.moment thread

  -- the instruction in flight: so many have retired, and it has taken just the replies that are left
  record Flight (w : List ℕ) (n : ℕ) (b : VaxState) (pending : List ℕ) (k : Tree) : Type 0 where
    at : here setting starts thread n w ≡ running b pending
    path : Path setting.meaning.pages (tree b) pending k
    range : IsInRange setting.meaning.pages k

  fly_on : (w : List ℕ) (n : ℕ) (b : VaxState) (pending : List ℕ) (r : Reference) (on : ℕ → Tree) (v : ℕ) → IsInRange setting.meaning.pages (on v)
      → Flight w n b pending (Ask r on) → Flight (w ++ v ∷ []) n b (pending ++ v ∷ []) (on v)
  fly_on w n b pending r on v range f = record {
    at = reached_more setting starts thread n w (v ∷ []) b pending f.at;
    path = joined setting.meaning.pages (tree b) (Ask r on) (on v) pending (v ∷ []) f.path (Takes Here);
    range = range;
  }

  fly_wants : (w : List ℕ) (n : ℕ) (b : VaxState) (pending : List ℕ) (r : Reference) (on : ℕ → Tree) → Flight w n b pending (Ask r on) → wanted threads thread n w ≡ Some r
  fly_wants w n b pending r on f = wanted_is setting starts thread n w b pending r f.at (answered setting.meaning.pages (tree b) (Ask r on) pending f.path)

  fly_to : (w : List ℕ) (n : ℕ) (b : VaxState) (pending : List ℕ) (k u : Tree) → Path setting.meaning.pages k [] u → Flight w n b pending k → Flight w n b pending u
  fly_to w n b pending k u p f = record {
    at = f.at;
    path = joined_here setting.meaning.pages (tree b) k u pending f.path p;
    range = silent_ends setting.meaning.pages k u [] refl p f.range;
  }

  module _ (permit : Permit) (keeps : StaysInRange setting.meaning.pages tree)
      (Owes : VaxState → Flags → Option Lock → (spare : ℕ) → Alpha → Tree → Type 0)
      (Form : VaxState → Flags → Regs → Type 0)
      (fresh : (state : VaxState) → IsState state → Form state all_held (registers_of state))
      (enter : (state : VaxState) (held : Flags) (regs : Regs) (word : ℕ) → IsState state → Form state held regs → goes_on setting thread state ≡ Some word → Owes state held None block_steps (at_place regs word) (tree state))
      (opens : (retired : ℕ) (b : VaxState) (held : Flags) (lock : Option Lock) (spare : ℕ) (alpha : Alpha) (k : Tree) → Owes b held lock spare alpha k
      → (0 < spare) × OwedNext setting.meaning.pages (Owes b held) Form (settled_last b) (permit.kinds b.pc) retired lock (spare - 1) k (next setting (moment_at thread retired b held) alpha)) where
    -- what a processor's mode says of its thread, which was told w
    record Flies (w : List ℕ) (lock : Option Lock) (share : ℕ) (p : Processor) (alpha : Alpha) : Type 0 where
      pending : List ℕ
      rest : Tree
      spare : ℕ
      flight : Flight w p.retired p.boundary pending rest
      room : p.steps + spare ≤ block_steps * p.retired + block_steps + share
      owed : Owes p.boundary p.held lock spare alpha rest
      translated : is_translated setting thread p.boundary ≡ true
      interpreted : p.interpreted ≡ interpreted_of setting starts thread p.retired w

    record Plays (w : List ℕ) (lock : Option Lock) (share : ℕ) (p : Processor) (state : VaxState) (pending : List ℕ) : Type 0 where
      rest : Tree
      flight : Flight w p.retired p.boundary pending rest
      same : state ≡ p.boundary
      free : lock ≡ None
      room : p.steps ≤ block_steps * p.retired + share
      untranslated : is_translated setting thread p.boundary ≡ false
      interpreted : p.interpreted ≡ interpreted_of setting starts thread p.retired w + made_in setting.meaning.pages (tree p.boundary) pending

    -- at a boundary
    record Waits (w : List ℕ) (lock : Option Lock) (share : ℕ) (p : Processor) : Type 0 where
      at : here setting starts thread p.retired w ≡ running p.boundary []
      state : IsState p.boundary
      held : p.held ≡ all_held
      free : lock ≡ None
      room : p.steps ≤ block_steps * p.retired + share
      interpreted : p.interpreted ≡ interpreted_of setting starts thread p.retired w

    -- how the thread ended, and the state that it shows
    abbrev Left : List ℕ → Processor → End → Type 0
    Left w p (ends.Exit value) = (thread_run threads thread p.retired w ≡ Some (record { state = p.boundary; exited = true; raised = None })) × (value ≡ register 0 p.boundary)
    Left w p (ends.Raised exception) = thread_run threads thread p.retired w ≡ Some (record { state = p.boundary; exited = false; raised = Some exception })
    Left w p ends.Spent = ⊥

    record Rests (w : List ℕ) (share : ℕ) (p : Processor) (end : End) : Type 0 where
      left : Left w p end
      room : p.steps ≤ block_steps * p.retired + block_steps + share
      interpreted : p.interpreted ≡ interpreted_of setting starts thread p.retired w + interpreted_open setting thread (here setting starts thread p.retired w) (Ended end)

    abbrev Stands : List ℕ → Option Lock → (share : ℕ) → Processor → Mode → Type 0
    Stands w lock share p New = Waits w lock share p
    Stands w lock share p (Runs alpha) = Flies w lock share p alpha
    Stands w lock share p (Interprets state pending) = Plays w lock share p state pending
    Stands w lock share p (Ended end) = Rests w share p end

    -- ---- arrivals
    arrive : (w : List ℕ) (lock : Option Lock) (share : ℕ) (q : Processor) (regs : Regs) → here setting starts thread q.retired w ≡ running q.boundary [] → IsState q.boundary → Form q.boundary q.held regs
        → lock ≡ None → q.steps ≤ block_steps * q.retired + share → q.interpreted ≡ interpreted_of setting starts thread q.retired w
        → (o : Option ℕ) → goes_on setting thread q.boundary ≡ o → Stands w lock share q (mode_by o q.boundary regs)
    arrive w lock share q regs at state form free room sum None goes = record {
      rest = tree q.boundary;
      flight = record { at = at; path = Here; range = keeps q.boundary state };
      same = refl;
      free = free;
      room = room;
      untranslated = ap is_some goes;
      interpreted = omega (arith, sum, made_none setting.meaning.pages (tree q.boundary));
    }
    arrive w lock share q regs at state form free room sum (Some word) goes = record {
      pending = [];
      rest = tree q.boundary;
      spare = block_steps;
      flight = record { at = at; path = Here; range = keeps q.boundary state };
      room = omega (arith, room);
      owed = subst (λ l. Owes q.boundary q.held l block_steps (at_place regs word) (tree q.boundary)) (sym free) (enter q.boundary q.held regs word state form goes);
      translated = ap is_some goes;
      interpreted = sum;
    }

    settle : (w : List ℕ) (lock : Option Lock) (share : ℕ) (p : Processor) (m : Mode) → p.thread ≡ thread → Stands w lock share p m → Stands w lock share p (mode_of setting p m)
    settle w lock share p New is s =
        arrive w lock share p (registers_of p.boundary) s.at s.state (subst (λ h. Form p.boundary h (registers_of p.boundary)) (sym s.held) (fresh p.boundary s.state)) s.free s.room s.interpreted
        (goes_on setting p.thread p.boundary) (ap (λ t. goes_on setting t p.boundary) (sym is))
    settle w lock share p (Runs alpha) is s = s
    settle w lock share p (Interprets state pending) is s = s
    settle w lock share p (Ended end) is s = s

    -- ---- ends of instructions
    comes : (w : List ℕ) (n : ℕ) (b : VaxState) (pending : List ℕ) (k : Tree) (a : Answer) → Flight w n b pending k → answer setting.meaning.pages k [] ≡ a → answer setting.meaning.pages (tree b) pending ≡ a
    comes w n b pending k a f e = answered setting.meaning.pages (tree b) k pending f.path ∙ e

    leave : (w : List ℕ) (lock : Option Lock) (share : ℕ) (p : Processor) (pending : List ℕ) (k : Tree) (last : Last) → p.thread ≡ thread → Flight w p.retired p.boundary pending k → answer setting.meaning.pages k [] ≡ answer_by last → lock ≡ None
        → p.steps ≤ block_steps * p.retired + block_steps + share
        → p.interpreted ≡ interpreted_of setting starts thread p.retired w + (end_in setting thread (here setting starts thread p.retired w) + interpreted_in setting thread (here setting starts thread p.retired w))
        → Stands w lock share (left setting p last) (left setting p last).mode
    leave w lock share p pending k (Comes (Finish s)) is f e free room sum =
        let state = comes_state setting.meaning.pages k (Finish s) [] f.range e in
        let at = reached_suc setting starts thread p.retired w p.boundary pending (trees.Comes (Finish s) []) f.at (comes w p.retired p.boundary pending k (trees.Comes (Finish s) []) f e) in
        arrive w lock share (left setting p (Comes (Finish s))) (registers_of s) at state.0 (fresh s state.0) free (omega (arith, room)) sum (goes_on setting p.thread s) (ap (λ t. goes_on setting t s) (sym is))
    leave w lock share p pending k (Comes (Exit s)) is f e free room sum =
        let at = reached_suc setting starts thread p.retired w p.boundary pending (trees.Comes (Exit s) []) f.at (comes w p.retired p.boundary pending k (trees.Comes (Exit s) []) f e) in
        record { left = (ap (run_at threads thread) at, refl); room = omega (arith, room); interpreted = omega (arith, sum, ap (interpreted_in setting thread) at) }
    leave w lock share p pending k (Comes (Trap kind s)) is f e free room sum =
        let at = reached_suc setting starts thread p.retired w p.boundary pending (trees.Comes (Trap kind s) []) f.at (comes w p.retired p.boundary pending k (trees.Comes (Trap kind s) []) f e) in
        record { left = ap (run_at threads thread) at; room = omega (arith, room); interpreted = omega (arith, sum, ap (interpreted_in setting thread) at, ap (end_in setting thread) at) }
    leave w lock share p pending k (Fails x) is f e free room sum =
        let a = comes w p.retired p.boundary pending k (trees.Fails x) f e in
        record {
          left = ap (run_at threads thread) f.at ∙ ap (λ (a : Answer). Some (record { state = p.boundary; exited = false; raised = fault_of a })) a;
          room = room;
          interpreted = omega (arith, sum);
        }

    quiet : (w : List ℕ) (p : Processor) (interpreted : ℕ) (pending : List ℕ) (k : Tree) → Flight w p.retired p.boundary pending k → is_translated setting thread p.boundary ≡ true → interpreted ≡ interpreted_of setting starts thread p.retired w
        → interpreted ≡ interpreted_of setting starts thread p.retired w + (end_in setting thread (here setting starts thread p.retired w) + interpreted_in setting thread (here setting starts thread p.retired w))
    quiet w p interpreted pending k f t sum = omega (arith, sum, interpreted_quiet setting starts thread p.retired w p.boundary pending f.at t, end_quiet setting starts thread p.retired w p.boundary pending f.at t)

    place : (w : List ℕ) (lock : Option Lock) (share : ℕ) (p : Processor) (pending : List ℕ) (k : Tree) (spare : ℕ) (to : Place) → p.thread ≡ thread → Flight w p.retired p.boundary pending k → p.steps + spare ≤ block_steps * p.retired + block_steps + share
        → OwedPlace setting.meaning.pages (Owes p.boundary p.held) Form (settled_last p.boundary) lock spare k to → is_translated setting thread p.boundary ≡ true → p.interpreted ≡ interpreted_of setting starts thread p.retired w
        → Stands w lock share (placed setting p to) (placed setting p to).mode
    place w lock share p pending k spare (Inside alpha) is f room owed t sum = record { pending = pending; rest = k; spare = spare; flight = f; room = room; owed = owed; translated = t; interpreted = sum }
    place w lock share p pending k spare (Lands s held regs) is f room owed t sum =
        let e : answer setting.meaning.pages k [] ≡ trees.Comes (Finish s) [] = ap (λ x. answer setting.meaning.pages x []) owed.1 in
        let state = comes_state setting.meaning.pages k (Finish s) [] f.range e in
        let at = reached_suc setting starts thread p.retired w p.boundary pending (trees.Comes (Finish s) []) f.at (comes w p.retired p.boundary pending k (trees.Comes (Finish s) []) f e) in
        arrive w lock share (arrived setting p s held regs) regs at state.0 owed.2 owed.0 (omega (arith, room)) (quiet w p p.interpreted pending k f t sum) (goes_on setting p.thread s) (ap (λ t. goes_on setting t s) (sym is))
    place w lock share p pending k spare (Leaves last) is f room owed t sum =
        leave w lock share p pending k (settled_last p.boundary last) is f owed.1 owed.0 (omega (arith, room)) (quiet w p p.interpreted pending k f t sum)

    -- ---- a step that asks nothing
    moves_alpha : (w : List ℕ) (lock : Option Lock) (share : ℕ) (p q : Processor) (alpha : Alpha) (s : Flies w lock share p alpha) (to : Next) → p.thread ≡ thread
        → 0 < s.spare → OwedNext setting.meaning.pages (Owes p.boundary p.held) Form (settled_last p.boundary) (permit.kinds p.boundary.pc) p.retired lock (s.spare - 1) s.rest to → alpha_turn setting p to ≡ Went q → Stands w lock share q q.mode
    moves_alpha w lock share p q alpha s (Moves to) is some owed e =
        let e' : placed setting (stepped p) to ≡ q = cc e in
        let room : suc p.steps + (s.spare - 1) ≤ block_steps * p.retired + block_steps + share = omega (arith, some, s.room) in
        subst (λ (x : Processor). Stands w lock share x x.mode) e'
        (place w lock share (stepped p) s.pending owed.0 (s.spare - 1) to is (fly_to w p.retired p.boundary s.pending s.rest owed.0 owed.1 s.flight) room owed.2 s.translated s.interpreted)
    moves_alpha w lock share p q alpha s (Wants r on) is some owed e = absurd (cc e)
    moves_alpha w lock share p q alpha s step.Stuck is some owed e = absurd (cc e)

    last_of : Answer → Last → Type 0
    last_of a last = a ≡ answer_by last

    moves_tie : (w : List ℕ) (lock : Option Lock) (share : ℕ) (p q : Processor) (state : VaxState) (pending : List ℕ) (s : Plays w lock share p state pending) (a : Answer) → p.thread ≡ thread
        → answer setting.meaning.pages (tree p.boundary) pending ≡ a → tie_turn setting p state pending a ≡ Went q → Stands w lock share q q.mode
    moves_tie w lock share p q state pending s (trees.Wants r) is a e = absurd (cc e)
    moves_tie w lock share p q state pending s (trees.Fails x) is a e =
        let e' : left setting (tied p) (Fails x) ≡ q = cc e in
        subst (λ (y : Processor). Stands w lock share y y.mode) e'
        (leave w lock share (tied p) pending s.rest (Fails x) is s.flight (sym (answered setting.meaning.pages (tree p.boundary) s.rest pending s.flight.path) ∙ a) s.free (omega (arith, s.room))
        (omega (arith, s.interpreted, interpreted_loud setting starts thread p.retired w p.boundary pending s.flight.at s.untranslated, end_loud setting starts thread p.retired w p.boundary pending s.flight.at s.untranslated)))
    moves_tie w lock share p q state pending s (trees.Comes x rest) is a e =
        let e' : left setting (tied p) (Comes x) ≡ q = cc e in
        let here_ends = sym (answered setting.meaning.pages (tree p.boundary) s.rest pending s.flight.path) ∙ a in
        let none = comes_state setting.meaning.pages s.rest x rest s.flight.range here_ends in
        subst (λ (y : Processor). Stands w lock share y y.mode) e'
        (leave w lock share (tied p) pending s.rest (Comes x) is s.flight (here_ends ∙ ap (trees.Comes x) none.1) s.free (omega (arith, s.room))
        (omega (arith, s.interpreted, interpreted_loud setting starts thread p.retired w p.boundary pending s.flight.at s.untranslated, end_loud setting starts thread p.retired w p.boundary pending s.flight.at s.untranslated)))

    moves : (w : List ℕ) (lock : Option Lock) (share : ℕ) (p q : Processor) (m : Mode) → p.thread ≡ thread → Stands w lock share p m → turn_in setting p m ≡ Went q → Stands w lock share q q.mode
    moves w lock share p q New is s e = absurd (cc e)
    moves w lock share p q (Runs alpha) is s e =
        let o = opens p.retired p.boundary p.held lock s.spare alpha s.rest s.owed in
        moves_alpha w lock share p q alpha s (next setting (moment_at thread p.retired p.boundary p.held) alpha) is o.0 o.1 (ap (λ t. alpha_turn setting p (next setting (moment_at t p.retired p.boundary p.held) alpha)) (sym is) ∙ e)
    moves w lock share p q (Interprets state pending) is s e =
        moves_tie w lock share p q state pending s (answer setting.meaning.pages (setting.meaning.moment p.thread state) pending) is
        (ap (λ b. answer setting.meaning.pages (tree b) pending) (sym s.same) ∙ ap (λ t. answer setting.meaning.pages (setting.meaning.moment t state) pending) (sym is)) e
    moves w lock share p q (Ended end) is s e = absurd (cc e)

    -- ---- what an access makes of the replies
    counted_replies : (mine : List Entry) (e : Entry) (r : Reference) → is_counted e ≡ true → wanted threads thread e.retired (replies_by threads thread mine) ≡ Some r
        → replies_by threads thread (e ∷ mine) ≡ replies_by threads thread mine ++ reply_from r e ∷ []
    counted_replies mine e r c want = rw c (ap (with_reply (replies_by threads thread mine) e) want)

    silent_replies : (mine : List Entry) (e : Entry) → is_counted e ≡ false → replies_by threads thread (e ∷ mine) ≡ replies_by threads thread mine
    silent_replies mine e c = rw c

    -- the boundary is where the thread is
    made_at : (w : List ℕ) (n : ℕ) (boundary : VaxState) (pending : List ℕ) (b : Bool) (want : Option Reference) (kind : Kind) → here setting starts thread n w ≡ running boundary pending → is_translated setting thread boundary ≡ b
        → IsMadeIn b (permit.kinds boundary.pc) want kind → IsMadeAt setting permit thread (here setting starts thread n w) want kind
    made_at w n boundary pending b want kind at t i =
        subst (λ a. IsMadeAt setting permit thread a want kind) (sym at) (subst (λ (x : Bool). IsMadeIn x (permit.kinds boundary.pc) want kind) (sym t) i)

    -- a tree in flight wants what its thread wants
    flight_made : (w : List ℕ) (n : ℕ) (b : VaxState) (pending : List ℕ) (k : Tree) (kind : Kind) (each : Reference → Kinds) → Flight w n b pending k → IsAlpha kind each (head_of k) → IsAlpha kind each (wanted threads thread n w)
    flight_made w n b pending (Ask a next_tree) kind each f i = subst (IsAlpha kind each) (sym (fly_wants w n b pending a next_tree f)) i
    flight_made w n b pending (Check address count write k) kind each f i = for_nothing kind each (wanted threads thread n w) i
    flight_made w n b pending (Fault x) kind each f i = for_nothing kind each (wanted threads thread n w) i
    flight_made w n b pending (Ends e) kind each f i = for_nothing kind each (wanted threads thread n w) i

    -- what a step that asks makes of its entry
    record Tells (mine : List Entry) (lock : Option Lock) (e : Entry) (q : Processor) : Type 0 where
      counted : is_counted e ≡ true → IsWanted threads thread (replies_by threads thread mine) e
      paired : Paired e.kind lock e.quad
      made : IsMade setting permit threads thread (replies_by threads thread mine) e
      stands : Stands (replies_by threads thread (e ∷ mine)) (lock_by e.kind e.quad e.before) (share_of (e ∷ mine)) q q.mode

    -- ---- one access of Alpha code
    module _ (mine : List Entry) (lock : Option Lock) (p : Processor) (alpha : Alpha) (s : Flies (replies_by threads thread mine) lock (share_of mine) p alpha) (r : Request) (on : ℕ → Bool → Place) (is : p.thread ≡ thread) (some : 0 < s.spare)
        (owed : OwedAccess setting.meaning.pages (Owes p.boundary p.held) Form (settled_last p.boundary) (permit.kinds p.boundary.pc) p.retired lock (s.spare - 1) s.rest r on) (before : ℕ) (success : Bool) where
      abbrev said : List ℕ
      said = replies_by threads thread mine

      abbrev made : Entry
      made = entry_by r before success

      at_retired : here setting starts thread made.retired said ≡ running p.boundary s.pending
      at_retired = ap (λ n. here setting starts thread n said) owed.same ∙ s.flight.at

      alpha_made : IsMade setting permit threads thread said made
      alpha_made =
          made_at said made.retired p.boundary s.pending true (wanted threads thread made.retired said) r.kind at_retired s.translated
          (subst (λ n. IsAlpha r.kind (permit.kinds p.boundary.pc) (wanted threads thread n said)) (sym owed.same)
          (flight_made said p.retired p.boundary s.pending s.rest r.kind (permit.kinds p.boundary.pc) s.flight owed.alpha))

      takes_silent : counts r.kind success ≡ false → OwedPlace setting.meaning.pages (Owes p.boundary p.held) Form (settled_last p.boundary) (lock_by made.kind made.quad made.before) (more_by r.kind success (s.spare - 1)) s.rest (on before success)
          → Tells mine lock made (placed setting (stepped p) (on before success))
      takes_silent c place_owed =
          let q = placed setting (stepped p) (on before success) in
          let room : suc p.steps + (s.spare - 1) ≤ block_steps * p.retired + block_steps + share_of mine = omega (arith, some, s.room) in
          record {
            counted = λ c'. absurd (cc (c, c'));
            paired = owed.paired;
            made = alpha_made;
            stands = subst (λ u. Stands u (lock_by made.kind made.quad made.before) (share_of (made ∷ mine)) q q.mode) (sym (silent_replies mine made c))
                (place said (lock_by made.kind made.quad made.before) (share_of (made ∷ mine)) (stepped p) s.pending s.rest (more_by r.kind success (s.spare - 1)) (on before success) is s.flight
                (spared r.kind success (suc p.steps) (s.spare - 1) (block_steps * p.retired + block_steps) (share_of mine) c room) place_owed s.translated s.interpreted);
          }

      takes_made : (k : Tree) → k ≡ s.rest → (more : ℕ) → more ≤ block_steps → counts r.kind success ≡ true → IsFair r.kind lock made.quad before success
          → MadeBy k made (λ u. OwedPlace setting.meaning.pages (Owes p.boundary p.held) Form (settled_last p.boundary) (lock_by made.kind made.quad made.before) (s.spare - 1 + more) u (on before success))
          → Tells mine lock made (placed setting (stepped p) (on before success))
      takes_made (Check _ _ _ _) same more few c fair m = absurd m
      takes_made (Fault _) same more few c fair m = absurd m
      takes_made (Ends _) same more few c fair m = absurd m
      takes_made (Ask a next_tree) same more few c fair m =
          let q = placed setting (stepped p) (on before success) in
          let v = reply_from a made in
          let f : Flight said p.retired p.boundary s.pending (Ask a next_tree) = subst (Flight said p.retired p.boundary s.pending) (sym same) s.flight in
          let want : wanted threads thread made.retired said ≡ Some a = ap (λ n. wanted threads thread n said) owed.same ∙ fly_wants said p.retired p.boundary s.pending a next_tree f in
          let m' = m (f.range.0).quadword in
          let fits = reply_fits a made lock m'.0 fair in
          let on_flight = fly_on said p.retired p.boundary s.pending a next_tree v (f.range.1 v fits) f in
          let room : suc p.steps + (s.spare - 1 + more) ≤ block_steps * p.retired + block_steps + share_of (made ∷ mine) = omega (arith, some, s.room, few, granted r.kind success (share_of mine) c) in
          record {
            counted = λ _. record { reference = a; wants = want; of = m'.0 };
            paired = owed.paired;
            made = alpha_made;
            stands = subst (λ u. Stands u (lock_by made.kind made.quad made.before) (share_of (made ∷ mine)) q q.mode) (sym (counted_replies mine made a c want))
                (place (said ++ v ∷ []) (lock_by made.kind made.quad made.before) (share_of (made ∷ mine)) (stepped p) (s.pending ++ v ∷ []) (next_tree v) (s.spare - 1 + more) (on before success) is on_flight
                room m'.1 s.translated (s.interpreted ∙ sym (interpreted_more setting starts thread p.retired said (v ∷ []) p.boundary s.pending s.flight.at)));
          }

      takes_either : IsFair r.kind lock made.quad before success → (b : Bool) → counts r.kind success ≡ b
          → MatchBool b ((more : ℕ) × (more ≤ block_steps) × MadeBy s.rest made (λ u. OwedPlace setting.meaning.pages (Owes p.boundary p.held) Form (settled_last p.boundary) (lock_by made.kind made.quad made.before) (s.spare - 1 + more) u (on before success)))
          (OwedPlace setting.meaning.pages (Owes p.boundary p.held) Form (settled_last p.boundary) (lock_by made.kind made.quad made.before) (more_by r.kind success (s.spare - 1)) s.rest (on before success))
          → Tells mine lock made (placed setting (stepped p) (on before success))
      takes_either fair true c m = takes_made s.rest refl m.0 m.1 c fair m.2
      takes_either fair false c m = takes_silent c m

    -- what is owed where a turn asks
    abbrev Owed : List Entry → Option Lock → (before : ℕ) → (success : Bool) → Turn → Type 0
    Owed mine lock before success (Asks r on) = IsFair r.kind lock (entry_by r before success).quad before success → Tells mine lock (entry_by r before success) (on before success)
    Owed mine lock before success turn = Unit {0}

    takes_alpha : (mine : List Entry) (lock : Option Lock) (p : Processor) (alpha : Alpha) (s : Flies (replies_by threads thread mine) lock (share_of mine) p alpha) (to : Next) (before : ℕ) (success : Bool) → p.thread ≡ thread
        → 0 < s.spare → OwedNext setting.meaning.pages (Owes p.boundary p.held) Form (settled_last p.boundary) (permit.kinds p.boundary.pc) p.retired lock (s.spare - 1) s.rest to → Owed mine lock before success (alpha_turn setting p to)
    takes_alpha mine lock p alpha s (Moves to) before success is some owed = tt
    takes_alpha mine lock p alpha s step.Stuck before success is some owed = tt
    takes_alpha mine lock p alpha s (Wants r on) before success is some owed =
        λ fair. takes_either mine lock p alpha s r on is some owed before success fair (counts r.kind success) refl (owed.behind before success fair)

    takes_tie : (mine : List Entry) (lock : Option Lock) (p : Processor) (state : VaxState) (pending : List ℕ) (s : Plays (replies_by threads thread mine) lock (share_of mine) p state pending) (a : Answer) (before : ℕ) (success : Bool) → p.thread ≡ thread
        → answer setting.meaning.pages (tree p.boundary) pending ≡ a → Owed mine lock before success (tie_turn setting p state pending a)
    takes_tie mine lock p state pending s (trees.Fails x) before success is a = tt
    takes_tie mine lock p state pending s (trees.Comes x rest) before success is a = tt
    takes_tie mine lock p state pending s (trees.Wants q) before success is a = λ fair.
        let told = replies_by threads thread mine in
        let r = request_of p.thread p.retired q in
        let e = entry_by r before success in
        let asked = to_ask setting.meaning.pages s.rest q (sym (answered setting.meaning.pages (tree p.boundary) s.rest pending s.flight.path) ∙ a) in
        let f = fly_to told p.retired p.boundary pending s.rest (Ask q asked.0) asked.1 s.flight in
        let want = fly_wants told p.retired p.boundary pending q asked.0 f in
        let of = tie_is q p.thread p.retired before success (f.range.0).quadword in
        let v = reply_from q e in
        let fits = reply_fits q e lock of fair in
        let on_flight = fly_on told p.retired p.boundary pending q asked.0 v (f.range.1 v fits) f in
        let c : is_counted e ≡ true = tie_counts q success in
        let p' : Processor = record (tied p) { mode = Interprets state (pending ++ v ∷ []) } in
        let made_more = made_one setting.meaning.pages (tree p.boundary) pending q asked.0 v (Ask q asked.0) refl f.path in
        let plays : Plays (told ++ v ∷ []) None (share_of (e ∷ mine)) p' state (pending ++ v ∷ []) = record {
          rest = asked.0 v;
          flight = on_flight;
          same = s.same;
          free = refl;
          room = omega (arith, s.room, tie_share q success (share_of mine));
          untranslated = s.untranslated;
          interpreted = omega (arith, s.interpreted, made_more, interpreted_more setting starts thread p.retired told (v ∷ []) p.boundary pending s.flight.at);
        } in
        record {
          counted = λ _. record { reference = q; wants = want; of = of };
          paired = tie_paired q lock e.quad s.free;
          made = made_at told p.retired p.boundary pending false (wanted threads thread p.retired told) (kind_by q.kind) s.flight.at s.untranslated (tie_kind q);
          stands = subst (λ x. Stands x (lock_by e.kind e.quad e.before) (share_of (e ∷ mine)) p' (Interprets state (pending ++ v ∷ []))) (sym (counted_replies mine e q c want))
              (subst (λ l. Stands (told ++ v ∷ []) l (share_of (e ∷ mine)) p' (Interprets state (pending ++ v ∷ []))) (sym (tie_free q e.quad before)) plays);
        }

    takes_in : (mine : List Entry) (lock : Option Lock) (p : Processor) (m : Mode) (before : ℕ) (success : Bool) → p.thread ≡ thread → Stands (replies_by threads thread mine) lock (share_of mine) p m
        → Owed mine lock before success (turn_in setting p m)
    takes_in mine lock p New before success is s = tt
    takes_in mine lock p (Ended end) before success is s = tt
    takes_in mine lock p (Runs alpha) before success is s =
        let o = opens p.retired p.boundary p.held lock s.spare alpha s.rest s.owed in
        subst (λ t. Owed mine lock before success (alpha_turn setting p (next setting (moment_at t p.retired p.boundary p.held) alpha))) (sym is)
        (takes_alpha mine lock p alpha s (next setting (moment_at thread p.retired p.boundary p.held) alpha) before success is o.0 o.1)
    takes_in mine lock p (Interprets state pending) before success is s =
        takes_tie mine lock p state pending s (answer setting.meaning.pages (setting.meaning.moment p.thread state) pending) before success is
        (ap (λ b. answer setting.meaning.pages (tree b) pending) (sym s.same) ∙ ap (λ t. answer setting.meaning.pages (setting.meaning.moment t state) pending) (sym is))

either_none : (b : Bool) (n : ℕ) → n ≡ 0 → (if b then 0 else n) ≡ 0
either_none true n e = refl
either_none false n e = e

-- ---- a turn keeps the thread
left_thread : (setting : Setting) (p : Processor) (last : Last) → (left setting p last).thread ≡ p.thread
left_thread setting p (Comes (Finish s)) = refl
left_thread setting p (Comes (Exit s)) = refl
left_thread setting p (Comes (Trap kind s)) = refl
left_thread setting p (Fails x) = refl

placed_thread : (setting : Setting) (p : Processor) (to : Place) → (placed setting p to).thread ≡ p.thread
placed_thread setting p (Inside alpha) = refl
placed_thread setting p (Lands s held regs) = refl
placed_thread setting p (Leaves last) = left_thread setting p (settled_last p.boundary last)

abbrev KeepsThread : Processor → Turn → Type 0
KeepsThread p (Went q) = q.thread ≡ p.thread
KeepsThread p (Asks r on) = (before : ℕ) (success : Bool) → (on before success).thread ≡ p.thread
KeepsThread p Over = Unit {0}
KeepsThread p Stuck = Unit {0}

alpha_thread : (setting : Setting) (p : Processor) (to : Next) → KeepsThread p (alpha_turn setting p to)
alpha_thread setting p (Moves to) = placed_thread setting (stepped p) to
alpha_thread setting p (Wants r on) = λ before success. placed_thread setting (stepped p) (on before success)
alpha_thread setting p step.Stuck = tt

tie_thread : (setting : Setting) (p : Processor) (state : VaxState) (pending : List ℕ) (a : Answer) → KeepsThread p (tie_turn setting p state pending a)
tie_thread setting p state pending (trees.Wants q) = λ before success. refl
tie_thread setting p state pending (trees.Fails x) = refl
tie_thread setting p state pending (trees.Comes x rest) = left_thread setting (tied p) (Comes x)

turn_thread : (setting : Setting) (p : Processor) (m : Mode) → KeepsThread p (turn_in setting p m)
turn_thread setting p New = tt
turn_thread setting p (Runs alpha) = alpha_thread setting p (next setting (moment_at p.thread p.retired p.boundary p.held) alpha)
turn_thread setting p (Interprets state pending) = tie_thread setting p state pending (answer setting.meaning.pages (setting.meaning.moment p.thread state) pending)
turn_thread setting p (Ended end) = tt

-- ---- a turn is one step
-- ---- how many entries a processor may have
abbrev pub open_by : Option Lock → ℕ
open_by None = 0
open_by (Some lock) = 1

pairs : (kind : Kind) (lock : Option Lock) (success : Bool) (quad before n c f : ℕ) → Paired kind lock quad → n ≤ 2 * (c + f) + open_by lock
    → suc n ≤ 2 * ((if counts kind success then suc c else c) + (if fails kind success then suc f else f)) + open_by (lock_by kind quad before)
pairs StoreConditional None success quad before n c f p h = absurd p
pairs StoreConditional (Some l) true quad before n c f p h = omega arith
pairs StoreConditional (Some l) false quad before n c f p h = omega arith
pairs LoadLocked None success quad before n c f p h = omega arith
pairs LoadLocked (Some l) success quad before n c f p h = absurd p
pairs _ None success quad before n c f p h = omega arith
pairs _ (Some l) success quad before n c f p h = absurd p

pub open_one : (lock : Option Lock) → open_by lock ≤ 1
open_one None = omega arith
open_one (Some l) = omega arith

shares : (kind : Kind) (success : Bool) (c f : ℕ) → share_by kind success (block_steps * c + retry_steps * f) ≡ block_steps * (if counts kind success then suc c else c) + retry_steps * (if fails kind success then suc f else f)
shares StoreConditional true c f = omega arith
shares StoreConditional false c f = omega arith
shares LoadLocked success c f = refl
shares _ success c f = omega arith

pub share_is : (mine : List Entry) → share_of mine ≡ block_steps * counted_in mine + retry_steps * failed_in mine
share_is [] = refl
share_is (e ∷ mine) = ap (share_by e.kind e.success) (share_is mine) ∙ shares e.kind e.success (counted_in mine) (failed_in mine)

module _ (setting : Setting) (permit : Permit) (starts : ℕ → Option VaxState) (thread : ℕ) (start : VaxState) (started : starts thread ≡ Some start) (ranged : IsState start)
    (keeps : StaysInRange setting.meaning.pages (setting.meaning.moment thread))
    (Owes : VaxState → Flags → Option Lock → (spare : ℕ) → Alpha → Tree → Type 0)
    (Form : VaxState → Flags → Regs → Type 0)
    (fresh : (state : VaxState) → IsState state → Form state all_held (registers_of state))
    (enter : (state : VaxState) (held : Flags) (regs : Regs) (word : ℕ) → IsState state → Form state held regs → goes_on setting thread state ≡ Some word → Owes state held None block_steps (at_place regs word) (setting.meaning.moment thread state))
    (opens : (retired : ℕ) (b : VaxState) (held : Flags) (lock : Option Lock) (spare : ℕ) (alpha : Alpha) (k : Tree) → Owes b held lock spare alpha k
    → (0 < spare) × OwedNext setting.meaning.pages (Owes b held) Form (settled_last b) (permit.kinds b.pc) retired lock (spare - 1) k (next setting (moment_at thread retired b held) alpha)) where
  abbrev its_threads : Threads
  its_threads = threads_of setting starts

  abbrev Here_stands : List ℕ → Option Lock → (share : ℕ) → Processor → Mode → Type 0
  Here_stands = Stands setting starts thread permit keeps Owes Form fresh enter opens

  -- after any number of turns
  record Told (mine : List Entry) (p : Processor) : Type 0 where
    is : p.thread ≡ thread
    explained : Explained its_threads thread mine
    stands : Here_stands (replies_by its_threads thread mine) (lock_of mine) (share_of mine) p p.mode
    made : AllMadeIn setting permit starts thread mine
    paired : AllPaired mine
    long : length mine ≤ 2 * (counted_in mine + failed_in mine) + open_by (lock_of mine)

  begins : Here_stands [] None 0 (begun thread start) New
  begins = record { at = ap (λ (o : Option VaxState). after_start (setting.meaning.moment thread) setting.meaning.pages o 0 []) started; state = ranged; held = refl; free = refl; room = omega arith; interpreted = refl }

  told : (n : ℕ) (mine : List Entry) (p : Processor) → Reaches setting (begun thread start) n mine p → AllFair mine → Told mine p
  told n mine p Begins fair = record { is = refl; explained = tt; stands = begins; made = tt; paired = tt; long = omega arith }
  told n mine p (Steps {p = q} reached_q e) fair =
      let before = told _ mine q reached_q fair in
      let settled = settle setting starts thread permit keeps Owes Form fresh enter opens (replies_by its_threads thread mine) (lock_of mine) (share_of mine) q q.mode before.is before.stands in
      record {
        is = subst (KeepsThread q) e (turn_thread setting q (mode_of setting q q.mode)) ∙ before.is;
        explained = before.explained;
        stands = moves setting starts thread permit keeps Owes Form fresh enter opens (replies_by its_threads thread mine) (lock_of mine) (share_of mine) q p (mode_of setting q q.mode) before.is settled e;
        made = before.made;
        paired = before.paired;
        long = before.long;
      }
  told n mine p (Takes {mine = older} {p = q} {request = r} {on = on} reached_q e found success) fair =
      let before = told _ older q reached_q fair.0 in
      let settled = settle setting starts thread permit keeps Owes Form fresh enter opens (replies_by its_threads thread older) (lock_of older) (share_of older) q q.mode before.is before.stands in
      let owed = subst (Owed setting starts thread permit keeps Owes Form fresh enter opens older (lock_of older) found success) e (takes_in setting starts thread permit keeps Owes Form fresh enter opens older (lock_of older) q (mode_of setting q q.mode) found success before.is settled) in
      let x = owed fair.1 in
      record {
        is = subst (KeepsThread q) e (turn_thread setting q (mode_of setting q q.mode)) found success ∙ before.is;
        explained = (before.explained, x.counted);
        stands = x.stands;
        made = (before.made, x.made);
        paired = (before.paired, x.paired);
        long = pairs r.kind (lock_of older) success (entry_by r found success).quad found (length older) (counted_in older) (failed_in older) x.paired before.long;
      }

  shown_running : (w : List ℕ) (p : Processor) (pending : List ℕ) → here setting starts thread p.retired w ≡ running p.boundary pending → ((run : ThreadRun) → run.exited ≡ false → Claims p.mode run) → IsShown setting starts thread w p
  shown_running w p pending at claims =
      let run : ThreadRun = record { state = p.boundary; exited = false; raised = fault_of (answer setting.meaning.pages (setting.meaning.moment thread p.boundary) pending) } in
      record { run = run; driven = ap (run_at its_threads thread) at; state = refl; claims = claims run refl }

  shown_ended : (w : List ℕ) (p : Processor) (end : End) → p.mode ≡ Ended end → Left setting starts thread permit keeps Owes Form fresh enter opens w p end → IsShown setting starts thread w p
  shown_ended w p (ends.Exit value) m l =
      let run : ThreadRun = record { state = p.boundary; exited = true; raised = None } in
      record { run = run; driven = l.0; state = refl; claims = subst (λ m. Claims m run) (sym m) (refl, l.1) }
  shown_ended w p (ends.Raised x) m l =
      let run : ThreadRun = record { state = p.boundary; exited = false; raised = Some x } in
      record { run = run; driven = l; state = refl; claims = subst (λ m. Claims m run) (sym m) refl }
  shown_ended w p ends.Spent m l = absurd l

  shown_in : (w : List ℕ) (lock : Option Lock) (share : ℕ) (p : Processor) (m : Mode) → p.mode ≡ m → Here_stands w lock share p m → IsShown setting starts thread w p
  shown_in w lock share p New m s = shown_running w p [] s.at (λ run e. subst (λ m. Claims m run) (sym m) e)
  shown_in w lock share p (Runs alpha) m s = shown_running w p s.pending s.flight.at (λ run e. subst (λ m. Claims m run) (sym m) e)
  shown_in w lock share p (Interprets state pending) m s = shown_running w p pending s.flight.at (λ run e. subst (λ m. Claims m run) (sym m) e)
  shown_in w lock share p (Ended end) m s = shown_ended w p end m s.left

  bounded : (w : List ℕ) (lock : Option Lock) (share : ℕ) (p : Processor) (m : Mode) → Here_stands w lock share p m → p.steps ≤ block_steps * p.retired + block_steps + share
  bounded w lock share p New s = omega (arith, s.room)
  bounded w lock share p (Runs alpha) s = omega (arith, s.room)
  bounded w lock share p (Interprets state pending) s = omega (arith, s.room)
  bounded w lock share p (Ended end) s = s.room

  none_made : (w : List ℕ) (n : ℕ) (b : VaxState) → here setting starts thread n w ≡ running b [] → interpreted_in setting thread (here setting starts thread n w) ≡ 0
  none_made w n b at = ap (interpreted_in setting thread) at ∙ either_none (is_translated setting thread b) (made_in setting.meaning.pages (setting.meaning.moment thread b) []) (made_none setting.meaning.pages (setting.meaning.moment thread b))

  tied_in : (w : List ℕ) (lock : Option Lock) (share : ℕ) (p : Processor) (m : Mode) → Here_stands w lock share p m
      → p.interpreted ≡ interpreted_of setting starts thread p.retired w + interpreted_open setting thread (here setting starts thread p.retired w) m
  tied_in w lock share p New s = omega (arith, s.interpreted, none_made w p.retired p.boundary s.at)
  tied_in w lock share p (Runs alpha) s = omega (arith, s.interpreted, interpreted_quiet setting starts thread p.retired w p.boundary s.pending s.flight.at s.translated)
  tied_in w lock share p (Interprets state pending) s = omega (arith, s.interpreted, interpreted_loud setting starts thread p.retired w p.boundary pending s.flight.at s.untranslated)
  tied_in w lock share p (Ended end) s = s.interpreted

  alpha_moves : (p : Processor) (lock : Option Lock) (spare : ℕ) (k : Tree) (to : Next) → OwedNext setting.meaning.pages (Owes p.boundary p.held) Form (settled_last p.boundary) (permit.kinds p.boundary.pc) p.retired lock spare k to → alpha_turn setting p to ≢ Stuck
  alpha_moves p lock spare k (Moves to) o e = absurd (cc e)
  alpha_moves p lock spare k (Wants r on) o e = absurd (cc e)
  alpha_moves p lock spare k step.Stuck o e = absurd o

  tie_moves : (p : Processor) (state : VaxState) (pending : List ℕ) (a : Answer) → tie_turn setting p state pending a ≢ Stuck
  tie_moves p state pending (trees.Wants q) e = absurd (cc e)
  tie_moves p state pending (trees.Fails x) e = absurd (cc e)
  tie_moves p state pending (trees.Comes x rest) e = absurd (cc e)

  new_moves : (p : Processor) (o : Option ℕ) (b : VaxState) (regs : Regs) → mode_by o b regs ≢ New
  new_moves p None b regs e = absurd (cc e)
  new_moves p (Some word) b regs e = absurd (cc e)

  moves_in : (w : List ℕ) (lock : Option Lock) (share : ℕ) (p : Processor) (m : Mode) → p.thread ≡ thread → m ≢ New → Here_stands w lock share p m → turn_in setting p m ≢ Stuck
  moves_in w lock share p New is old s = absurd (old refl)
  moves_in w lock share p (Runs alpha) is old s =
      let o = opens p.retired p.boundary p.held lock s.spare alpha s.rest s.owed in
      subst (λ t. alpha_turn setting p (next setting (moment_at t p.retired p.boundary p.held) alpha) ≢ Stuck) (sym is) (alpha_moves p lock (s.spare - 1) s.rest (next setting (moment_at thread p.retired p.boundary p.held) alpha) o.1)
  moves_in w lock share p (Interprets state pending) is old s = tie_moves p state pending (answer setting.meaning.pages (setting.meaning.moment p.thread state) pending)
  moves_in w lock share p (Ended end) is old s = λ e. absurd (cc e)

  -- memory can make what a step of Alpha code wants
  alpha_asks : (set_up : SetUp) → setting.meaning.pages ≡ set_up.image.pages → (p : Processor) (alpha : Alpha) (to : Next) → next setting (moment_of p) alpha ≡ to → CanTurn set_up (alpha_turn setting p to)
  alpha_asks set_up pages p alpha (Moves to) e = tt
  alpha_asks set_up pages p alpha (Wants r on) e = steps_can_be_made setting set_up (moment_of p) alpha r on pages e
  alpha_asks set_up pages p alpha step.Stuck e = tt

  -- and the reference that an interpreted instruction wants
  tie_asks : (set_up : SetUp) → setting.meaning.pages ≡ set_up.image.pages → (w : List ℕ) (lock : Option Lock) (share : ℕ) (p : Processor) (state : VaxState) (pending : List ℕ) (a : Answer)
      → p.thread ≡ thread → Here_stands w lock share p (Interprets state pending) → answer setting.meaning.pages (setting.meaning.moment p.thread state) pending ≡ a → CanTurn set_up (tie_turn setting p state pending a)
  tie_asks set_up pages w lock share p state pending (trees.Fails x) is s e = tt
  tie_asks set_up pages w lock share p state pending (trees.Comes x rest) is s e = tt
  tie_asks set_up pages w lock share p state pending (trees.Wants q) is s e =
      let here_wants : answer setting.meaning.pages (setting.meaning.moment thread p.boundary) pending ≡ trees.Wants q =
      ap (λ b. answer setting.meaning.pages (setting.meaning.moment thread b) pending) (sym s.same)
      ∙ ap (λ t. answer setting.meaning.pages (setting.meaning.moment t state) pending) (sym is) ∙ e in
      let asked = to_ask setting.meaning.pages s.rest q (sym (answered setting.meaning.pages (setting.meaning.moment thread p.boundary) s.rest pending s.flight.path) ∙ here_wants) in
      let range = silent_ends setting.meaning.pages s.rest (Ask q asked.0) [] refl asked.1 s.flight.range in
      references_can_be_made set_up p.thread p.retired q (subst (λ (x : Pages). FitsPage x q) pages range.0)

  asks_in : (set_up : SetUp) → setting.meaning.pages ≡ set_up.image.pages → (w : List ℕ) (lock : Option Lock) (share : ℕ) (p : Processor) (m : Mode) → p.thread ≡ thread → Here_stands w lock share p m
      → CanTurn set_up (turn_in setting p m)
  asks_in set_up pages w lock share p New is s = tt
  asks_in set_up pages w lock share p (Runs alpha) is s = alpha_asks set_up pages p alpha (next setting (moment_of p) alpha) refl
  asks_in set_up pages w lock share p (Interprets state pending) is s =
      tie_asks set_up pages w lock share p state pending (answer setting.meaning.pages (setting.meaning.moment p.thread state) pending) is s refl
  asks_in set_up pages w lock share p (Ended end) is s = tt

  not_new : (p : Processor) (m : Mode) → mode_of setting p m ≢ New
  not_new p New = new_moves p (goes_on setting p.thread p.boundary) p.boundary (registers_of p.boundary)
  not_new p (Runs alpha) = λ e. absurd (cc e)
  not_new p (Interprets state pending) = λ e. absurd (cc e)
  not_new p (Ended end) = λ e. absurd (cc e)

  -- what holds of a processor after any number of turns
  pub facts : (n : ℕ) (mine : List Entry) (p : Processor) → Reaches setting (begun thread start) n mine p → AllFair mine → Facts setting permit starts thread mine p
  facts n mine p reached_p fair =
      let t = told n mine p reached_p fair in
      let w = replies_by its_threads thread mine in
      let settled = settle setting starts thread permit keeps Owes Form fresh enter opens w (lock_of mine) (share_of mine) p p.mode t.is t.stands in
      let bound = bounded w (lock_of mine) (share_of mine) p p.mode t.stands in
      record {
        explained = t.explained;
        shown = shown_in w (lock_of mine) (share_of mine) p p.mode refl t.stands;
        interpreted = tied_in w (lock_of mine) (share_of mine) p p.mode t.stands;
        steps = omega (arith, share_is mine, bound);
        kinds = t.made;
        paired = t.paired;
        entries = omega (arith, t.long, open_one (lock_of mine));
        goes_on = moves_in w (lock_of mine) (share_of mine) p (mode_of setting p p.mode) t.is (not_new p p.mode) settled;
        asks = λ set_up pages. asks_in set_up pages w (lock_of mine) (share_of mine) p (mode_of setting p p.mode) t.is settled;
      }
