-- Where a thread stands.
use Rattle.std.proofs.Common.{◌≡◌, ◌≢◌, ◌⊎◌, inl, inr, ⊎_elim, ℕ, zero, suc, ◌<◌, ◌+◌, ◌-◌, false, List, [], ◌∷◌, ◌++◌, Option, Some, None, IfSome, slice_get, slice_set, refl, sym, ap, ◌∙◌, subst, arith}
use Rattle.image_file.specs.Values.{ImageValue}
use Rattle.vax_form.specs.After.{one_more}
use Rattle.vax_form.specs.Tree.{Answer, Wants, Fails, Comes, answer, Runs, Retired, retires}
use Rattle.vax_form.specs.declared.state.Reference.{Reference}
use Rattle.vax_form.specs.declared.state.VaxState.{VaxState}
use Rattle.vax_driven.specs.Threads.{after_start, fault_of, reached, run_at, thread_run, wanted, wanted_at}
use Rattle.vax_driven.proofs.Reaching.{no_further, reached_stays}
use Rattle.vax_long.specs.Pending.{moment_at}
use Rattle.vax_run.specs.Values.{threads_of}
use Rattle.tie_switch.specs.Interpreted.{Stands}
use Rattle.tie_switch.specs.declared.interpreted.Interpreted.{Interpreted}
use Rattle.stored_runs.specs.Threads.{IsStage, IsPassed, IsNoted, IsAt, IsAsking}
use Rattle.stored_runs.specs.declared.thread.Stage.{Stage}
use Rattle.stored_runs.specs.declared.thread.Stage.TheVariants as stages
use Rattle.stored_runs.specs.declared.thread.Thread.{Thread}
use Rattle.stored_runs.proofs.Stepping.{next_is, nothing_left, one_reply}

module _ (image : ImageValue) (thread : ℕ) where
  -- before the first instruction
  came_first : (start : Option VaxState) (from : VaxState) → start ≡ Some from
      → after_start (moment_at image.pages thread) image.pages start 0 [] ≡ Some (record { life = Runs; state = from; left = [] })
  came_first start from is = ap (λ s. after_start (moment_at image.pages thread) image.pages s 0 []) is

  pub at_first : (from : VaxState) (interpreted : Interpreted) (count : ℕ) → (threads_of image).start thread ≡ Some from → Stands image.pages thread interpreted from []
      → IsAt image thread [] (record { stage = stages.Goes interpreted None; state = from; retired = 0; count = count; noted = None })
  at_first from interpreted count starts begun = record {
    stage = record {
      given = [];
      stands = begun;
      came = came_first ((threads_of image).start thread) from starts;
      takes = nothing_left image.pages (moment_at image.pages thread from);
    };
    noted = omega arith;
  }

  module _ (replies : List ℕ) where
    pub stage_came : (retired : ℕ) (state : VaxState) (stage : Stage) → IsStage image thread replies retired state stage
        → (here : Retired) × (reached (threads_of image) thread retired replies ≡ Some here) × (here.state ≡ state)
    stage_came retired state (stages.Goes interpreted reply) is = (_, is.came, refl)
    stage_came retired state stages.Exited is = (_, is.came, refl)
    stage_came retired state (stages.Trapped kind) is = (_, is.came, refl)

    unwanted : (w : Option Reference) (after retired : ℕ) (here : Retired) → wanted (threads_of image) thread after replies ≡ w → after < retired
        → reached (threads_of image) thread retired replies ≡ Some here → None ≡ w
    unwanted None after retired here is behind came = refl
    unwanted (Some reference) after retired here is behind came =
        let e : suc (retired - suc after + after) ≡ retired = omega arith in
        let none : reached (threads_of image) thread retired replies ≡ None =
        subst (λ n. reached (threads_of image) thread n replies ≡ None) e (no_further (threads_of image) thread after (retired - suc after) replies reference is) in
        let gone : None ≡ Some here = sym none ∙ came in
        absurd (cc gone)

    -- nothing is wanted behind the boundary
    pub nothing_before : (t : Thread) (after : ℕ) → IsAt image thread replies t → after < t.retired → None ≡ wanted (threads_of image) thread after replies
    nothing_before t after at behind =
        let c = stage_came t.retired t.state t.stage at.stage in
        unwanted (wanted (threads_of image) thread after replies) after t.retired c.0 refl behind c.1

    -- ---- one reply more
    noted_later : (reply retired count : ℕ) (noted : Option VaxState) → IsNoted image thread replies retired count noted
        → IsNoted image thread (replies ++ reply ∷ []) retired count noted
    noted_later reply retired count None is = is
    noted_later reply retired count (Some state) is = (
      is.0,
      record {
        left = is.1.left ++ reply ∷ [];
        came = reached_stays (threads_of image) thread count replies (reply ∷ []) _ is.1.came;
        next = record is.1.next { left = is.1.next.left ++ reply ∷ [] };
        later = reached_stays (threads_of image) thread (suc count) replies (reply ∷ []) is.1.next is.1.later;
      },
    )

    pub taken : (reply : ℕ) (reference : Reference) (t : Thread) (interpreted : Interpreted) (kept : Option ℕ) → t.stage ≡ stages.Goes interpreted kept → IsAsking image thread replies reference t
        → IsAt image thread (replies ++ reply ∷ [])
        (record { stage = stages.Goes interpreted (Some reply); state = t.state; retired = t.retired; count = t.count; noted = t.noted })
    taken reply reference t interpreted kept is asking =
        let both : stages.Goes interpreted kept ≡ stages.Goes asking.interpreted None = sym is ∙ asking.stage in
        let same : interpreted ≡ asking.interpreted = cc both in
        record {
          stage = record {
            given = asking.given;
            stands = subst (λ i. Stands image.pages thread i t.state asking.given) (sym same) asking.stands;
            came = reached_stays (threads_of image) thread t.retired replies (reply ∷ []) _ asking.came;
            takes = one_reply image.pages (moment_at image.pages thread t.state) asking.given reply reference asking.wants;
          };
          noted = noted_later reply t.retired t.count t.noted asking.noted;
        }

    -- ---- a thread that went on behind its count
    no_fault : (a : Answer) (next : Retired) → retires a ≡ Some next → fault_of a ≡ None
    no_fault (Wants reference) next is = absurd (cc is)
    no_fault (Fails exception) next is = absurd (cc is)
    no_fault (Comes e left) next is = refl

    passed_run : (count : ℕ) (state : VaxState) → IsPassed image thread replies count state
        → Some (record { state = state; exited = false; raised = None }) ≡ thread_run (threads_of image) thread count replies
    passed_run count state is =
        let retired : retires (answer image.pages (moment_at image.pages thread state) is.left) ≡ Some is.next = sym (next_is image thread replies count state is.left is.came) ∙ is.later in
        sym (ap (run_at (threads_of image) thread) is.came
        ∙ ap (λ x. Some (record { state = state; exited = false; raised = x })) (no_fault (answer image.pages (moment_at image.pages thread state) is.left) is.next retired))

    pub noted_run : (retired count : ℕ) (noted : Option VaxState) (state : VaxState) → noted ≡ Some state → IsNoted image thread replies retired count noted
        → Some (record { state = state; exited = false; raised = None }) ≡ thread_run (threads_of image) thread count replies
    noted_run retired count noted state is at = passed_run count state (subst (IsNoted image thread replies retired count) is at).1

    pub noted_behind : (retired count : ℕ) (noted : Option VaxState) (state : VaxState) → noted ≡ Some state → IsNoted image thread replies retired count noted → count < retired
    noted_behind retired count noted state is at = (subst (IsNoted image thread replies retired count) is at).0

    -- nothing behind what can't be reached
    pub nothing_more : (count more : ℕ) → reached (threads_of image) thread count replies ≡ None → reached (threads_of image) thread (more + count) replies ≡ None
    nothing_more count zero none = let e : count ≡ 0 + count = omega arith in subst (λ n. reached (threads_of image) thread n replies ≡ None) e none
    nothing_more count (suc more) none =
        let e : suc (more + count) ≡ suc more + count = omega arith in
        subst (λ n. reached (threads_of image) thread n replies ≡ None) e
        (beyond ((threads_of image).start thread) (more + count) (nothing_more count more none))
      where
        beyond : (start : Option VaxState) (n : ℕ) → after_start (moment_at image.pages thread) image.pages start n replies ≡ None
            → after_start (moment_at image.pages thread) image.pages start (suc n) replies ≡ None
        beyond None n is = refl
        beyond (Some from) n is = ap (one_more (moment_at image.pages thread) image.pages) is

    pub never : (count later : ℕ) → reached (threads_of image) thread (suc count) replies ≡ None → count < later → reached (threads_of image) thread later replies ≡ None
    never count later none ahead =
        let e : later - suc count + suc count ≡ later = omega arith in
        subst (λ n. reached (threads_of image) thread n replies ≡ None) e (nothing_more (suc count) (later - suc count) none)

    -- so nothing is wanted there, and the thread doesn't come there
    pub never_wanted : (count later : ℕ) → reached (threads_of image) thread (suc count) replies ≡ None → count < later → None ≡ wanted (threads_of image) thread later replies
    never_wanted count later none ahead = sym (ap (wanted_at (threads_of image) thread) (never count later none ahead))

    pub never_run : (count later : ℕ) → reached (threads_of image) thread (suc count) replies ≡ None → count < later → None ≡ thread_run (threads_of image) thread later replies
    never_run count later none ahead = sym (ap (run_at (threads_of image) thread) (never count later none ahead))

-- ---- lists of threads
pub got_set : (threads : List Thread) (at : ℕ) (new t : Thread) (k : ℕ) → slice_get (slice_set threads at new) k ≡ Some t
    → ((k ≡ at) × (new ≡ t)) ⊎ ((k ≢ at) × (slice_get threads k ≡ Some t))
got_set [] at new t k is = absurd (cc is)
got_set (u ∷ threads) zero new t zero is = let same : new ≡ t = cc is in inl (refl, same)
got_set (u ∷ threads) zero new t (suc k) is = inr ((λ e. let z : ⊥ = omega (arith, e) in z), is)
got_set (u ∷ threads) (suc at) new t zero is = inr ((λ e. let z : ⊥ = omega (arith, e) in z), is)
got_set (u ∷ threads) (suc at) new t (suc k) is =
    ⊎_elim
    (λ (same : (k ≡ at) × (new ≡ t)). inl (ap suc same.0, same.1))
    (λ (other : (k ≢ at) × (slice_get threads k ≡ Some t)). inr ((λ e. other.0 (omega (arith, e))), other.1))
    (got_set threads at new t k is)

-- ---- what holds of a reference that is wanted
pub of_some : (P Q : Reference → Type 0) (o : Option Reference) → ((r : Reference) → P r → Q r) → IfSome o P → IfSome o Q
of_some P Q None more is = tt
of_some P Q (Some r) more is = more r is

pub always_some : (P : Type 0) (o : Option Reference) → P → IfSome o (λ _. P)
always_some P None is = tt
always_some P (Some r) is = is
