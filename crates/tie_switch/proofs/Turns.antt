-- A turn keeps a processor reached by its own entries, and a history and its processors legal.
use Rattle.std.proofs.Common.{◌≡◌, ◌≢◌, ℕ, zero, suc, ◌<◌, ◌≤◌, ◌==◌, ◌&&◌, inl, inr, Bool, true, false, if◌then◌else◌, List, [], ◌∷◌, ◌++◌, length, Some, refl, sym, ap, ◌∙◌, subst, arith}
use Rattle.std.specs.Prelude.{MatchBool, option_map, reverse, slice_get, slice_set}
use Rattle.std.specs.List.{AllByRecursion}
use Rattle.std.proofs.lemmas.Bool.{and_parts, eqb-true}
use Rattle.std.proofs.lemmas.Bool.Decides.{nat_tests}
use Rattle.std.proofs.lemmas.List.{append-nil, reverse-append, length-set}
use Rattle.std.proofs.lemmas.List.Elements.{filter-append}
use Rattle.std.proofs.lemmas.Option.{slice_get_within}
use Rattle.system_model.proofs.Lists.{there_is}
use Rattle.image_file.specs.Start.{start_state}
use Rattle.memory_core.specs.Contents.{entry_for}
use Rattle.memory_core.specs.Limits.{IsWithin, IsAtLimit}
use Rattle.memory_core.specs.Order.{own, Meets}
use Rattle.memory_core.specs.declared.entry.Entry.{Entry}
use Rattle.memory_core.specs.declared.entry.Request.{Request}
use Rattle.memory_core.specs.declared.entry.SetUp.{SetUp}
use Rattle.memory_core.proofs.Limits.{within_part, within_reverse, within_turned, at_reverse, at_within}
use Rattle.vax_form.specs.declared.state.VaxState.{VaxState}
use Rattle.system_model.specs.Laws.{StepsKeepReached, AccessesKeepReached, EndsKeepReached, OthersKeepReached, RequestsAreOwn, ReachedAreLegal}
use Rattle.system_model.specs.Legal.{starts, spent, IsGoing, AsksToCount, IsReached, IsLegal}
use Rattle.system_model.specs.Processors.{Mode, New, Runs, Interprets, Ended, Processor, Turn, Went, Asks, Over, Stuck, turn, turn_in, mode_of, entry_by}
use Rattle.system_model.specs.Settings.{Setting}
use Rattle.system_model.proofs.Turns.{reached_within}
use Rattle.tie_switch.specs.Laws.{TurnsKeepReached, TurnsStayLegal}
use Rattle.tie_switch.specs.Turns.{IsMade, IsRefused, IsStill, Makes, goes_on, is_out, IsTurn}

-- ---- a processor that goes on
going_by : (m : Mode) → goes_on m ≡ true → IsGoing m
going_by New e = tt
going_by (Runs alpha) e = tt
going_by (Interprets state replies) e = tt
going_by (Ended end) e = absurd (cc e)

goes_by : (m : Mode) → IsGoing m → goes_on m ≡ true
goes_by New g = refl
goes_by (Runs alpha) g = refl
goes_by (Interprets state replies) g = refl
goes_by (Ended end) g = absurd g

second_test : (a b : Bool) → a ≡ true → (a && b) ≡ false → b ≡ false
second_test true b e out = out
second_test false b e out = absurd (cc e)

-- its turn is not over
abbrev IsStep : Turn → Type 0
IsStep (Went q) = Unit {0}
IsStep (Asks request on) = Unit {0}
IsStep Over = ⊥
IsStep Stuck = Unit {0}

going_in : (setting : Setting) (p : Processor) (m : Mode) → IsStep (turn_in setting p (mode_of setting p m)) → IsGoing m
going_in setting p New h = tt
going_in setting p (Runs alpha) h = tt
going_in setting p (Interprets state replies) h = tt
going_in setting p (Ended end) h = h

going : (setting : Setting) (p : Processor) (t : Turn) → turn setting p ≡ t → IsStep t → IsGoing p.mode
going setting p t e h = going_in setting p p.mode (subst IsStep (sym e) h)

-- ---- lists
-- where none of the entries is the thread's, none is told the other way round
pub own_reverse : (thread : ℕ) (entries : List Entry) → own thread entries ≡ [] → own thread (reverse entries) ≡ []
own_reverse thread [] none = refl
own_reverse thread (e ∷ entries) none =
    let here : own thread (e ∷ []) ≡ [] = by (e.processor == thread) none in
    let later : own thread entries ≡ [] = after (e.processor == thread) none in
    ap (own thread) (reverse-append (e ∷ []) entries)
    ∙ filter-append (λ (x : Entry). x.processor == thread) (reverse entries) (e ∷ [])
    ∙ ap (λ mine. mine ++ own thread (e ∷ [])) (own_reverse thread entries later)
    ∙ here
  where
    by : (b : Bool) → (if b then e ∷ own thread entries else own thread entries) ≡ [] → (if b then e ∷ [] else []) ≡ []
    by true none = absurd (cc none)
    by false none = refl

    after : (b : Bool) → (if b then e ∷ own thread entries else own thread entries) ≡ [] → own thread entries ≡ []
    after true none = absurd (cc none)
    after false none = none

-- nor is one of another thread's
own_other : (thread other : ℕ) (entries : List Entry) → AllByRecursion (λ e. e.processor ≡ thread) entries → thread ≢ other → own other entries ≡ []
own_other thread other [] all apart = refl
own_other thread other (e ∷ entries) all apart =
    ap (λ b. if b then e ∷ own other entries else own other entries) (unequal e.processor other (λ same. apart (sym all.0 ∙ same)))
    ∙ own_other thread other entries all.1 apart
  where
    unequal : (a b : ℕ) → a ≢ b → (a == b) ≡ false
    unequal a b h = grind (arith, nat_tests)

all_append : {A : Type 0} (P : A → Type 0) (xs ys : List A) → AllByRecursion P xs → AllByRecursion P ys → AllByRecursion P (xs ++ ys)
all_append P [] ys first second = second
all_append P (x ∷ xs) ys first second = (first.0, all_append P xs ys first.1 second)

all_more : {A : Type 0} (P Q : A → Type 0) (xs : List A) → ((x : A) → P x → Q x) → AllByRecursion P xs → AllByRecursion Q xs
all_more P Q [] more all = tt
all_more P Q (x ∷ xs) more all = (more x all.0, all_more P Q xs more all.1)

pub get_same : {A : Type 0} (xs : List A) (n : ℕ) (x y : A) → slice_get xs n ≡ Some x → slice_get (slice_set xs n y) n ≡ Some y
get_same [] n x y h = absurd (cc h)
get_same (z ∷ zs) zero x y h = refl
get_same (z ∷ zs) (suc n) x y h = get_same zs n x y h

get_other : {A : Type 0} (xs : List A) (n m : ℕ) (y : A) → n ≢ m → slice_get (slice_set xs n y) m ≡ slice_get xs m
get_other [] n m y h = refl
get_other (z ∷ zs) zero zero y h = absurd (h refl)
get_other (z ∷ zs) zero (suc m) y h = refl
get_other (z ∷ zs) (suc n) zero y h = refl
get_other (z ∷ zs) (suc n) (suc m) y h = get_other zs n m y (λ e. h (ap suc e))

pub newest : (history : List Entry) (e : Entry) → reverse (history ++ e ∷ []) ≡ e ∷ reverse history
newest history e = reverse-append history (e ∷ [])

-- ---- the entry of a request
pub same_entry : (set_up : SetUp) (history : List Entry) (request : Request) (before : ℕ) (success : Bool) → before ≡ (entry_for set_up history request).before → success ≡ (entry_for set_up history request).success
    → entry_for set_up history request ≡ entry_by request before success
same_entry set_up history request before success e k =
    sym (ap (λ x. entry_by request x success) e ∙ ap (λ x. entry_by request (entry_for set_up history request).before x) k)

-- ---- one processor, among any entries of others
module _ (steps : StepsKeepReached) (accesses : AccessesKeepReached) (ends : EndsKeepReached) (others : OthersKeepReached) (requests : RequestsAreOwn)
    (setting : Setting) (set_up : SetUp) (may_come : List Entry → Type 0) (budget : ℕ) (old : List Entry) (thread : ℕ) (start : VaxState) (p : Processor)
    (reached : IsReached setting budget set_up.limit (reverse old) thread start p) where
  abbrev Keeps : List Entry → Processor → Type 0
  Keeps new q = IsReached setting budget set_up.limit (reverse new) thread start q

  -- reached, with the entries of others that were seen
  seen_more : (between : List Entry) → own thread between ≡ [] → IsWithin set_up.limit (old ++ between)
      → IsReached setting budget set_up.limit (reverse (old ++ between)) thread start p
  seen_more between none room =
      let turned : reverse (old ++ between) ≡ reverse between ++ reverse old = reverse-append old between in
      let few : IsWithin set_up.limit (reverse between ++ reverse old) = subst (IsWithin set_up.limit) turned (within_reverse set_up.limit (old ++ between) room) in
      let none_turned : own thread (reverse between) ≡ [] = own_reverse thread between none in
      subst (λ (entries : List Entry). IsReached setting budget set_up.limit entries thread start p) (sym turned)
      (others setting budget set_up.limit (reverse between) (reverse old) thread start p reached none_turned few)

  -- whatever it asks is of its thread
  its_own : (request : Request) (on : ℕ → Bool → Processor) → turn setting p ≡ Asks request on → request.processor ≡ thread
  its_own request on e = requests setting budget set_up.limit (reverse old) thread start p request on reached (going setting p (Asks request on) e tt) e

  made : (request : Request) (on : ℕ → Bool → Processor) (q : Processor) (new : List Entry) → turn setting p ≡ Asks request on → p.steps < budget
      → IsMade set_up may_come request on q old new → Keeps new q
  made request on q new e more m =
      let n = m.entry in
      let past = old ++ n.between in
      let found = entry_by request m.before m.success in
      let entry : entry_for set_up past request ≡ found = same_entry set_up past request m.before m.success n.found n.succeeded in
      let is : new ≡ past ++ found ∷ [] = n.seen ∙ ap (λ x. past ++ x ∷ []) entry in
      let turned : reverse new ≡ found ∷ reverse past = ap reverse is ∙ newest past found in
      let room : IsWithin set_up.limit past = (within_part set_up.limit past (found ∷ []) (subst (IsWithin set_up.limit) is n.room)).0 in
      let none : own thread n.between ≡ [] = subst (λ (t : ℕ). own t n.between ≡ []) (its_own request on e) n.others in
      subst (λ (entries : List Entry). IsReached setting budget set_up.limit entries thread start q) (sym turned)
      (subst (λ (x : Processor). IsReached setting budget set_up.limit (found ∷ reverse past) thread start x) (sym m.goes)
      (accesses setting budget set_up.limit (reverse past) thread start p request on m.before m.success (seen_more n.between none room) (going setting p (Asks request on) e tt) e more))

  refused : (request : Request) (on : ℕ → Bool → Processor) (q : Processor) (new : List Entry) → turn setting p ≡ Asks request on
      → IsRefused set_up may_come request p q old new → Keeps new q
  refused request on q new e r =
      let o = r.over in
      let past = old ++ o.between in
      let full : IsAtLimit set_up.limit past = subst (IsAtLimit set_up.limit) o.seen o.full in
      let room : IsWithin set_up.limit past = at_within set_up.limit past full in
      let asks : AsksToCount set_up.limit (turn setting p) = subst (AsksToCount set_up.limit) (sym e) o.counts in
      let none : own thread o.between ≡ [] = subst (λ (t : ℕ). own t o.between ≡ []) (its_own request on e) o.others in
      subst (λ (entries : List Entry). IsReached setting budget set_up.limit (reverse entries) thread start q) (sym o.seen)
      (subst (λ (x : Processor). IsReached setting budget set_up.limit (reverse past) thread start x) (sym r.goes)
      (ends setting budget set_up.limit (reverse past) thread start p (seen_more o.between none room) (going setting p (Asks request on) e tt) (inr (asks, at_reverse set_up.limit past full))))

  still : (r q : Processor) (new : List Entry) → IsStill r q old new → IsReached setting budget set_up.limit (reverse old) thread start r → Keeps new q
  still r q new s k =
      subst (λ (entries : List Entry). IsReached setting budget set_up.limit (reverse entries) thread start q) (sym s.seen)
      (subst (λ (x : Processor). IsReached setting budget set_up.limit (reverse old) thread start x) (sym s.processor) k)

  -- a processor that goes on, and whose steps don't equal the budget, has steps left
  has_more : IsGoing p.mode → is_out budget p ≡ false → p.steps < budget
  has_more g out =
      let within : p.steps ≤ budget = reached_within setting budget set_up.limit (reverse old) thread start p reached g in
      let other : (p.steps == budget) ≡ false = second_test (goes_on p.mode) (p.steps == budget) (goes_by p.mode g) out in
      less p.steps budget within other
    where
      less : (n m : ℕ) → n ≤ m → (n == m) ≡ false → n < m
      less n m h k = grind (arith, nat_tests)

  makes : (t : Turn) (q : Processor) (new : List Entry) → turn setting p ≡ t → is_out budget p ≡ false → Makes t set_up may_come p q old new → Keeps new q
  makes (Went r) q new e out m =
      let g = going setting p (Went r) e tt in
      still r q new m (steps setting budget set_up.limit (reverse old) thread start p r reached g e (has_more g out))
  makes (Asks request on) q new e out (inl m) = made request on q new e (has_more (going setting p (Asks request on) e tt) out) m
  makes (Asks request on) q new e out (inr r) = refused request on q new e r
  makes Over q new e out m = still p q new m reached
  makes Stuck q new e out m = absurd m

  by_out : (b : Bool) (q : Processor) (new : List Entry) → is_out budget p ≡ b → MatchBool b (IsStill (spent p) q old new) (Makes (turn setting p) set_up may_come p q old new) → Keeps new q
  by_out true q new e m =
      let tests = and_parts (goes_on p.mode) (p.steps == budget) e in
      still (spent p) q new m (ends setting budget set_up.limit (reverse old) thread start p reached (going_by p.mode tests.0) (inl (eqb-true p.steps budget tests.1)))
  by_out false q new e m = makes (turn setting p) q new refl e m

-- for a memory between whose entries any of others may come
pub keeps_reached : StepsKeepReached → AccessesKeepReached → EndsKeepReached → OthersKeepReached → RequestsAreOwn
    → (setting : Setting) (set_up : SetUp) (may_come : List Entry → Type 0) (budget : ℕ) (old new : List Entry) (thread : ℕ) (start : VaxState) (p q : Processor)
    → IsReached setting budget set_up.limit (reverse old) thread start p → IsTurn setting set_up may_come budget p q old new
    → IsReached setting budget set_up.limit (reverse new) thread start q
keeps_reached steps accesses ends others requests setting set_up may_come budget old new thread start p q reached t =
    by_out steps accesses ends others requests setting set_up may_come budget old thread start p reached (is_out budget p) q new refl t

pub turns_keep_reached : StepsKeepReached → AccessesKeepReached → EndsKeepReached → OthersKeepReached → RequestsAreOwn → TurnsKeepReached
turns_keep_reached steps accesses ends others requests setting set_up budget old new thread start p q reached t =
    keeps_reached steps accesses ends others requests setting set_up (λ between. Unit {0}) budget old new thread start p q reached t

-- ---- all processors, where no entries of others come between

-- what a turn adds: nothing, or an entry of the processor's own that the memory order allows
record IsGrown (set_up : SetUp) (thread : ℕ) (old new : List Entry) : Type 0 where
  added : List Entry
  seen : reverse new ≡ added ++ reverse old
  its : AllByRecursion (λ e. e.processor ≡ thread) added
  order : Meets set_up (reverse old) → Meets set_up (reverse new)
  room : IsWithin set_up.limit old → IsWithin set_up.limit new

module _ (setting : Setting) (set_up : SetUp) (thread : ℕ) (p : Processor) (asks : (request : Request) (on : ℕ → Bool → Processor) → turn setting p ≡ Asks request on → request.processor ≡ thread) where
  same_grown : (old new : List Entry) → new ≡ old → IsGrown set_up thread old new
  same_grown old new same = record {
    added = [];
    seen = ap reverse same;
    its = tt;
    order = λ order. subst (λ (entries : List Entry). Meets set_up (reverse entries)) (sym same) order;
    room = λ room. subst (IsWithin set_up.limit) (sym same) room;
  }

  grown_by : (t : Turn) (q : Processor) (old new : List Entry) → turn setting p ≡ t → Makes t set_up (λ between. between ≡ []) p q old new → IsGrown set_up thread old new
  grown_by (Went r) q old new e m = same_grown old new m.seen
  grown_by (Asks request on) q old new e (inl m) =
      let n = m.entry in
      let made = entry_for set_up (old ++ n.between) request in
      let past : old ++ n.between ≡ old = ap (λ b. old ++ b) n.come ∙ append-nil old in
      let is : new ≡ old ++ made ∷ [] = n.seen ∙ ap (λ h. h ++ made ∷ []) past in
      record {
        added = made ∷ [];
        seen = ap reverse is ∙ newest old made;
        its = (asks request on e, tt);
        order = λ _. n.order;
        room = λ _. n.room;
      }
  grown_by (Asks request on) q old new e (inr r) = same_grown old new ((r.over).seen ∙ ap (λ b. old ++ b) (r.over).come ∙ append-nil old)
  grown_by Over q old new e m = same_grown old new m.seen
  grown_by Stuck q old new e m = absurd m

  grown : (budget : ℕ) (b : Bool) (q : Processor) (old new : List Entry) → MatchBool b (IsStill (spent p) q old new) (Makes (turn setting p) set_up (λ between. between ≡ []) p q old new) → IsGrown set_up thread old new
  grown budget true q old new m = same_grown old new m.seen
  grown budget false q old new m = grown_by (turn setting p) q old new refl m

module _ (kept : TurnsKeepReached) (others : OthersKeepReached) (requests : RequestsAreOwn) (are_legal : ReachedAreLegal)
    (setting : Setting) (set_up : SetUp) (budget : ℕ) (old new : List Entry) (processors : List Processor) (thread : ℕ) (p q : Processor)
    (legal : IsLegal setting set_up budget (reverse old) processors) (at : slice_get processors thread ≡ Some p)
    (turned : IsTurn setting set_up (λ between. between ≡ []) budget p q old new) where
  its_start : (start : VaxState) × (starts set_up.image thread ≡ Some start)
  its_start =
      let s = there_is set_up.image.threads thread (omega (arith, slice_get_within processors thread p at, legal.count)) in
      (start_state s.0, ap (option_map start_state) s.1)

  its_requests : (request : Request) (on : ℕ → Bool → Processor) → turn setting p ≡ Asks request on → request.processor ≡ thread
  its_requests request on e =
      let s = its_start in
      requests setting budget set_up.limit (reverse old) thread s.0 p request on (legal.each thread s.0 p s.1 at) (going setting p (Asks request on) e tt) e

  here_grown : IsGrown set_up thread old new
  here_grown = grown setting set_up thread p its_requests budget (is_out budget p) q old new turned

  room_more : IsWithin set_up.limit (reverse new)
  room_more = within_reverse set_up.limit new (here_grown.room (within_turned set_up.limit old legal.room))

  -- any entries of others may come where none do
  any_may : (t : Turn) (b : Bool) → MatchBool b (IsStill (spent p) q old new) (Makes t set_up (λ between. between ≡ []) p q old new)
      → MatchBool b (IsStill (spent p) q old new) (Makes t set_up (λ between. Unit {0}) p q old new)
  any_may t true m = m
  any_may (Went r) false m = m
  any_may (Asks request on) false (inl m) = inl (record {
    before = m.before;
    success = m.success;
    entry = record { between = (m.entry).between; others = (m.entry).others; come = tt; seen = (m.entry).seen; found = (m.entry).found; succeeded = (m.entry).succeeded; order = (m.entry).order; room = (m.entry).room };
    goes = m.goes;
  })
  any_may (Asks request on) false (inr r) = inr (record {
    over = record { between = (r.over).between; others = (r.over).others; come = tt; seen = (r.over).seen; counts = (r.over).counts; full = (r.over).full; order = (r.over).order };
    goes = r.goes;
  })
  any_may Over false m = m
  any_may Stuck false m = m

  each_reached : (u : ℕ) (start : VaxState) (x : Processor) → starts set_up.image u ≡ Some start → slice_get (slice_set processors thread q) u ≡ Some x
      → (b : Bool) → (thread == u) ≡ b → IsReached setting budget set_up.limit (reverse new) u start x
  each_reached u start x s h true e =
      let same : thread ≡ u = eqb-true thread u e in
      let got : Some q ≡ Some x = sym (get_same processors thread p q at) ∙ ap (λ n. slice_get (slice_set processors thread q) n) same ∙ h in
      let is : q ≡ x = cc got in
      let here = kept setting set_up budget old new thread start p q (legal.each thread start p (ap (starts set_up.image) same ∙ s) at) (any_may (turn setting p) (is_out budget p) turned) in
      subst (λ n. IsReached setting budget set_up.limit (reverse new) n start x) same (subst (IsReached setting budget set_up.limit (reverse new) thread start) is here)
  each_reached u start x s h false e =
      let apart : thread ≢ u = unequal thread u e in
      let g = here_grown in
      let room : IsWithin set_up.limit (g.added ++ reverse old) = subst (IsWithin set_up.limit) g.seen room_more in
      subst (λ (entries : List Entry). IsReached setting budget set_up.limit entries u start x) (sym g.seen)
      (others setting budget set_up.limit g.added (reverse old) u start x (legal.each u start x s (sym (get_other processors thread u q apart) ∙ h)) (own_other thread u g.added g.its apart) room)
    where
      unequal : (a b : ℕ) → (a == b) ≡ false → a ≢ b
      unequal a b k = grind (arith, nat_tests)

  all_known : AllByRecursion (λ e. e.processor < length (slice_set processors thread q)) (reverse new)
  all_known =
      let count : length (slice_set processors thread q) ≡ length processors = length-set processors thread q in
      let there : thread < length processors = slice_get_within processors thread p at in
      let g = here_grown in
      subst (AllByRecursion (λ e. e.processor < length (slice_set processors thread q))) (sym g.seen)
      (all_append (λ e. e.processor < length (slice_set processors thread q)) g.added (reverse old)
      (all_more (λ e. e.processor ≡ thread) (λ e. e.processor < length (slice_set processors thread q)) g.added (λ e same. omega (arith, same, there, count)) g.its)
      (subst (λ n. AllByRecursion (λ e. e.processor < n) (reverse old)) (sym count) legal.known))

  stays_legal : IsLegal setting set_up budget (reverse new) (slice_set processors thread q)
  stays_legal =
      let g = here_grown in
      are_legal setting set_up budget (reverse new) (slice_set processors thread q) legal.pages (g.order legal.order)
      room_more
      (length-set processors thread q ∙ legal.count) all_known (λ u start x s h. each_reached u start x s h (thread == u) refl)

pub turns_stay_legal : TurnsKeepReached → OthersKeepReached → RequestsAreOwn → ReachedAreLegal → TurnsStayLegal
turns_stay_legal kept others requests are_legal setting set_up budget history new processors thread p q legal at t =
    stays_legal kept others requests are_legal setting set_up budget history new processors thread p q legal at t
