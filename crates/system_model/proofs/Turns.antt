-- What keeps a processor reached by its own entries, and makes a history legal.
use Rattle.std.proofs.Common.{◌≡◌, ℕ, zero, suc, ◌+◌, ◌≤◌, ◌==◌, Bool, true, if◌then◌else◌, List, [], ◌∷◌, ◌++◌, length, Some, refl, sym, ap, ◌∙◌, subst, arith, ◌⊎◌, inl, inr, ⊎_elim}
use Rattle.std.specs.Prelude.{option_map, slice_get}
use Rattle.std.specs.List.{AllByRecursion}
use Rattle.std.proofs.lemmas.List.Elements.{filter-append}
use Rattle.std.proofs.lemmas.Bool.{eq-eqb}
use Rattle.std.proofs.lemmas.Option.{slice_get_within}
use Rattle.image_file.specs.Start.{start_state}
use Rattle.image_file.specs.declared.image.Start.{Start}
use Rattle.memory_core.specs.declared.entry.Entry.{Entry}
use Rattle.memory_core.specs.declared.entry.Limit.{Limit}
use Rattle.memory_core.specs.Limits as limits
use Rattle.memory_core.specs.Order.{own}
use Rattle.memory_core.proofs.Limits.{none_within, at_stays}
use Rattle.vax_form.specs.declared.state.VaxState.{VaxState}
use Rattle.system_model.specs.Settings.{Setting}
use Rattle.system_model.specs.Processors.{Processor, begun, entry_by, Reaches, Begins, Steps, Takes}
use Rattle.system_model.specs.Legal.{starts, IsGoing, IsSpent, IsReached}
use Rattle.system_model.specs.Laws.{begun_from, BeginningsAreLegal, StepsKeepReached, AccessesKeepReached, EndsKeepReached, OthersKeepReached, RequestsAreOwn, ReachedAreLegal, IsWithin, ReachedAreWithin, LegalAreWithin}
use Rattle.system_model.proofs.Lists.{there_is}
use Rattle.system_model.proofs.Requests.{IsStep, Makes, makes, RetiresOne, Retires, retires}

own_if : (b : Bool) (e : Entry) (mine : List Entry) (c : Bool) → b ≡ c → (if b then e ∷ mine else mine) ≡ (if c then e ∷ mine else mine)
own_if b e mine c h = ap (λ x. if x then e ∷ mine else mine) h

-- a processor that goes on is what it was
pub going_is : (setting : Setting) (budget : ℕ) (limit : Limit) (entries : List Entry) (was p : Processor) → IsGoing p.mode → (p ≡ was) ⊎ IsSpent setting budget limit entries was p → p ≡ was
going_is setting budget limit entries was p g (inl e) = e
going_is setting budget limit entries was p g (inr s) = absurd (subst (λ (x : Processor). IsGoing x.mode) s.is g)

pub reached_thread : (setting : Setting) (first : Processor) (n : ℕ) (mine : List Entry) (p : Processor) → Reaches setting first n mine p → p.thread ≡ first.thread
reached_thread setting first n mine p Begins = refl
reached_thread setting first n mine p (Steps {p = q} r e) = (subst (Makes q) e (makes setting q)).thread ∙ reached_thread setting first _ mine q r
reached_thread setting first n mine p (Takes {mine = older} {p = q} r e before success) = ((subst (Makes q) e (makes setting q)).1 before success).thread ∙ reached_thread setting first _ older q r

-- ---- what it has counted
all_below : (mine : List Entry) (m n : ℕ) → m ≤ n → AllByRecursion (λ (e : Entry). e.retired ≤ m) mine → AllByRecursion (λ (e : Entry). e.retired ≤ n) mine
all_below [] m n lt all = tt
all_below (e ∷ mine) m n lt all = (omega (arith, lt, all.0), all_below mine m n lt all.1)

-- it retires at most one instruction a step
reaches_within : (setting : Setting) (thread : ℕ) (start : VaxState) (n : ℕ) (mine : List Entry) (p : Processor) → Reaches setting (begun thread start) n mine p → IsWithin n mine p
reaches_within setting thread start n mine p Begins = record { steps = omega arith; retired = omega arith; told = tt }
reaches_within setting thread start n mine p (Steps {p = q} r e) =
    let was = reaches_within setting thread start _ mine q r in
    let step : IsStep q p = subst (Makes q) e (makes setting q) in
    let one : RetiresOne q p = subst (Retires q) e (retires setting q) in
    record {
      steps = omega (arith, step.steps, was.steps);
      retired = omega (arith, step.steps, was.retired, one.most);
      told = all_below mine q.retired p.retired one.least was.told;
    }
reaches_within setting thread start n mine p (Takes {mine = older} {p = q} {request = request} r e before success) =
    let was = reaches_within setting thread start _ older q r in
    let step : IsStep q p = (subst (Makes q) e (makes setting q)).1 before success in
    let asked = subst (Retires q) e (retires setting q) in
    let one : RetiresOne q p = asked.1 before success in
    let same : request.retired ≡ q.retired = asked.0 in
    record {
      steps = omega (arith, step.steps, was.steps);
      retired = omega (arith, step.steps, was.retired, one.most);
      told = (omega (arith, same, one.least), all_below older q.retired p.retired one.least was.told);
    }

pub reached_are_within : ReachedAreWithin
reached_are_within setting budget limit entries thread start p r =
    let was = reaches_within setting thread start r.was.steps (own thread entries) r.was r.reaches in
    let within : IsWithin budget (own thread entries) r.was = record { steps = r.within; retired = was.retired; told = was.told } in
    ⊎_elim (λ same. subst (IsWithin budget (own thread entries)) (sym same) within)
    (λ s. subst (IsWithin budget (own thread entries)) (sym s.is) (record { steps = within.steps; retired = within.retired; told = within.told })) r.now

pub legal_are_within : LegalAreWithin
legal_are_within setting set_up budget entries processors legal thread p at =
    let lt = slice_get_within processors thread p at in
    let start = there_is set_up.image.threads thread (omega (arith, lt, legal.count)) in
    let starts_so : starts set_up.image thread ≡ Some (start_state start.0) = ap (option_map start_state) start.1 in
    reached_are_within setting budget set_up.limit entries thread (start_state start.0) p (legal.each thread (start_state start.0) p starts_so at)

-- ---- the beginning
pub begun_length : (n : ℕ) (xs : List Start) → length (begun_from n xs) ≡ length xs
begun_length n [] = refl
begun_length n (x ∷ xs) = ap suc (begun_length (n + 1) xs)

begun_at : (n k : ℕ) (xs : List Start) (start : VaxState) (p : Processor) → option_map start_state (slice_get xs k) ≡ Some start → slice_get (begun_from n xs) k ≡ Some p → p ≡ begun (n + k) start
begun_at n k [] start p s h = absurd (cc h)
begun_at n zero (x ∷ xs) start p s h =
    let there : n ≡ n + 0 = omega arith in
    let is : begun n (start_state x) ≡ p = cc h in
    let start_is : start_state x ≡ start = cc s in
    sym is ∙ ap (begun n) start_is ∙ ap (λ m. begun m start) there
begun_at n (suc k) (x ∷ xs) start p s h =
    let there : n + 1 + k ≡ n + suc k = omega arith in
    begun_at (n + 1) k xs start p s h ∙ ap (λ m. begun m start) there

least : (n : ℕ) → 0 ≤ n
least n = omega arith

pub beginnings_are_legal : BeginningsAreLegal
beginnings_are_legal setting set_up budget pages = record {
  pages = pages;
  order = tt;
  room = none_within set_up.limit;
  count = begun_length 0 set_up.image.threads;
  known = tt;
  each = λ thread start p s h.
      let none : 0 + thread ≡ thread = omega arith in
      record { was = begun thread start; within = least budget; reaches = Begins; now = inl (begun_at 0 thread set_up.image.threads start p s h ∙ ap (λ m. begun m start) none) };
}

-- ---- one processor

-- what a turn makes of a processor that goes on is reached from where it was
reached_from : (setting : Setting) (budget : ℕ) (limit : Limit) (entries : List Entry) (thread : ℕ) (start : VaxState) (p : Processor) → IsReached setting budget limit entries thread start p → IsGoing p.mode
    → Reaches setting (begun thread start) p.steps (own thread entries) p
reached_from setting budget limit entries thread start p r going =
    subst (λ (x : Processor). Reaches setting (begun thread start) x.steps (own thread entries) x) (sym (going_is setting budget limit entries r.was p going r.now)) r.reaches

pub reached_within : (setting : Setting) (budget : ℕ) (limit : Limit) (entries : List Entry) (thread : ℕ) (start : VaxState) (p : Processor) → IsReached setting budget limit entries thread start p → IsGoing p.mode → p.steps ≤ budget
reached_within setting budget limit entries thread start p r going =
    subst (λ (x : Processor). x.steps ≤ budget) (sym (going_is setting budget limit entries r.was p going r.now)) r.within

pub steps_keep_reached : StepsKeepReached
steps_keep_reached setting budget limit entries thread start p q r going e more =
    let makes_one : IsStep p q = subst (Makes p) e (makes setting p) in
    let from = reached_from setting budget limit entries thread start p r going in
    record {
      was = q;
      within = omega (arith, makes_one.steps, more);
      reaches = subst (λ n. Reaches setting (begun thread start) n (own thread entries) q) (sym makes_one.steps) (Steps from e);
      now = inl refl;
    }

pub requests_are_own : RequestsAreOwn
requests_are_own setting budget limit entries thread start p request on r going e =
    (subst (Makes p) e (makes setting p)).0
    ∙ reached_thread setting (begun thread start) p.steps (own thread entries) p (reached_from setting budget limit entries thread start p r going)

pub accesses_keep_reached : AccessesKeepReached
accesses_keep_reached setting budget limit entries thread start p request on before success r going e more =
    let made = entry_by request before success in
    let q = on before success in
    let from = reached_from setting budget limit entries thread start p r going in
    let its_own : own thread (made ∷ entries) ≡ made ∷ own thread entries =
    own_if (request.processor == thread) made (own thread entries) true (eq-eqb request.processor thread (requests_are_own setting budget limit entries thread start p request on r going e)) in
    let makes_one : IsStep p q = (subst (Makes p) e (makes setting p)).1 before success in
    record {
      was = q;
      within = omega (arith, makes_one.steps, more);
      reaches = subst (λ mine. Reaches setting (begun thread start) q.steps mine q) (sym its_own)
          (subst (λ n. Reaches setting (begun thread start) n (made ∷ own thread entries) q) (sym makes_one.steps) (Takes from e before success));
      now = inl refl;
    }

pub ends_keep_reached : EndsKeepReached
ends_keep_reached setting budget limit entries thread start p r going cause = record {
  was = p;
  within = reached_within setting budget limit entries thread start p r going;
  reaches = reached_from setting budget limit entries thread start p r going;
  now = inr (record { is = refl; going = going; cause = cause });
}

-- ---- among others

-- where there may be no more it stays so
still_spent : (setting : Setting) (budget : ℕ) (limit : Limit) (later entries : List Entry) (was p : Processor) → limits.IsWithin limit (later ++ entries)
    → (p ≡ was) ⊎ IsSpent setting budget limit entries was p → (p ≡ was) ⊎ IsSpent setting budget limit (later ++ entries) was p
still_spent setting budget limit later entries was p room (inl same) = inl same
still_spent setting budget limit later entries was p room (inr s) = inr (record {
  is = s.is;
  going = s.going;
  cause = ⊎_elim (λ c. inl c) (λ c. inr (c.0, at_stays limit later entries c.1 room)) s.cause;
})

pub others_keep_reached : OthersKeepReached
others_keep_reached setting budget limit later entries thread start p r others room =
    let same : own thread (later ++ entries) ≡ own thread entries = filter-append (λ (e : Entry). e.processor == thread) later entries ∙ ap (λ mine. mine ++ own thread entries) others in
    record {
      was = r.was;
      within = r.within;
      reaches = subst (λ mine. Reaches setting (begun thread start) r.was.steps mine r.was) (sym same) r.reaches;
      now = still_spent setting budget limit later entries r.was p room r.now;
    }

pub reached_are_legal : ReachedAreLegal
reached_are_legal setting set_up budget entries processors pages order room count known each =
    record { pages = pages; order = order; room = room; count = count; known = known; each = each }
