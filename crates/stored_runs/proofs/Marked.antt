-- The marks of a thread on its way, and of all threads along an order.
use Rattle.std.proofs.Common.{◌≡◌, ◌≢◌, ◌⊎◌, inl, inr, ⊎_elim, ℕ, ◌<◌, ◌≤◌, ◌+◌, ◌-◌, ◌^◌, ◌==◌, ◌&&◌, Bool, true, false, List, [], ◌∷◌, ◌++◌, append-nil, length, Option, Some, None, if◌then◌else◌, slice_get, slice_set, nat_lt, refl, sym, ap, ◌∙◌, subst, arith, eq-eqb, lt-ltb}
use Rattle.std.specs.Prelude.{is_some, option_map}
use Rattle.std.proofs.lemmas.Bool.{cases_lt, eqb-true}
use Rattle.std.proofs.lemmas.Bool.Decides.{nat_tests}
use Rattle.std.proofs.lemmas.Option.{slice_get_within}
use Rattle.image_file.specs.Values.{ImageValue}
use Rattle.vax_form.specs.Made.{Made, replies_to}
use Rattle.vax_form.specs.Pages.{is_code}
use Rattle.vax_form.specs.Tree.{Retired}
use Rattle.vax_form.specs.declared.state.Pending.{Pending}
use Rattle.vax_form.specs.declared.state.Pending.TheVariants.{Nothing}
use Rattle.vax_form.specs.declared.state.VaxState.{VaxState}
use Rattle.vax_driven.specs.Threads.{reached}
use Rattle.vax_driven.proofs.Reaching.{reached_stays}
use Rattle.vax_run.specs.Values.{threads_of}
use Rattle.stored_runs.specs.Marks.{AreUnmarked, mark_of, with_mark}
use Rattle.stored_runs.specs.Stood.{Stood, StoodBelow, AreMarked, IsMarking, is_nothing, marks_behind, SomeStood, ArePlaced, AreMarks, AreAllMarks}
use Rattle.stored_runs.specs.World.{AreFresh}
use Rattle.stored_runs.specs.declared.marks.Marks.{Marks}
use Rattle.stored_runs.specs.declared.thread.Thread.{Thread}
use Rattle.stored_runs.proofs.Standing.{got_set, nothing_more}

-- ---- one mark more
set_place : (b : Bool) (o : Option Bool) → is_some (if b then option_map (λ _. true) o else o) ≡ is_some o
set_place true None = refl
set_place true (Some mark) = refl
set_place false o = refl

set_stays : (b : Bool) (o : Option Bool) → (if b then option_map (λ _. true) o else o) ≡ Some false → o ≡ Some false
set_stays true None is = is
set_stays true (Some mark) is = absurd (cc is)
set_stays false o is = is

never_unset : (b : Bool) (o : Option Bool) → b ≡ true → (if b then option_map (λ _. true) o else o) ≢ Some false
never_unset true None is = λ e. cc e
never_unset true (Some mark) is = λ e. cc e
never_unset false o is = absurd (cc is)

both_true : (a b : Bool) → (a && b) ≡ true → (a ≡ true) × (b ≡ true)
both_true true true is = (refl, refl)
both_true true false is = absurd (cc is)
both_true false b is = absurd (cc is)

nothing_pending : (p : Pending) → is_nothing p ≡ true → p ≡ Nothing
nothing_pending Nothing is = refl
nothing_pending _ is = absurd (cc is)

-- ---- where a thread stood
state_same : (a b : Retired) → Some a ≡ Some b → a.state ≡ b.state
state_same a b is = let same : a ≡ b = cc is in ap (λ (r : Retired). r.state) same

module _ (image : ImageValue) (thread : ℕ) where
  -- further replies change nothing of it
  pub stood_later : (replies more : List ℕ) (before address : ℕ) → Stood image thread replies before address → Stood image thread (replies ++ more) before address
  stood_later replies more before address is = record {
    here = record is.here { left = is.here.left ++ more };
    came = reached_stays (threads_of image) thread before replies more is.here is.came;
    pc = is.pc;
    nothing = is.nothing;
  }

  below_later : (replies more : List ℕ) (count address : ℕ) → StoodBelow image thread replies count address → StoodBelow image thread (replies ++ more) count address
  below_later replies more count address is = record { before = is.before; within = is.within; stood = stood_later replies more is.before address is.stood }

  some_before : (replies : List ℕ) (before to : ℕ) (here : Retired) → reached (threads_of image) thread to replies ≡ Some here → before ≤ to
      → (r : Retired) × (reached (threads_of image) thread before replies ≡ Some r)
  some_before replies before to here came below = by (reached (threads_of image) thread before replies) refl
    where
      by : (o : Option Retired) → reached (threads_of image) thread before replies ≡ o → (r : Retired) × (reached (threads_of image) thread before replies ≡ Some r)
      by None is =
          let e : to - before + before ≡ to = omega arith in
          let gone : None ≡ Some here = sym (subst (λ n. reached (threads_of image) thread n replies ≡ None) e (nothing_more image thread replies before (to - before) is)) ∙ came in
          absurd (cc gone)
      by (Some r) is = (r, is)

  -- nor do fewer, where it came as far with these
  stood_sooner : (replies more : List ℕ) (before to address : ℕ) (here : Retired) → reached (threads_of image) thread to replies ≡ Some here → before ≤ to
      → Stood image thread (replies ++ more) before address → Stood image thread replies before address
  stood_sooner replies more before to address here came below is =
      let s = some_before replies before to here came below in
      let both : Some is.here ≡ Some (record s.0 { left = s.0.left ++ more }) = sym is.came ∙ reached_stays (threads_of image) thread before replies more s.0 s.1 in
      let same : is.here.state ≡ s.0.state = state_same is.here (record s.0 { left = s.0.left ++ more }) both in
      record {
        here = s.0;
        came = s.1;
        pc = sym (ap (λ (s : VaxState). s.pc) same) ∙ is.pc;
        nothing = sym (ap (λ (s : VaxState). s.pending) same) ∙ is.nothing;
      }

  marked_later : (replies more : List ℕ) (to count : ℕ) (mark : ℕ → Option Bool) (here : Retired) → reached (threads_of image) thread to replies ≡ Some here
      → AreMarked image thread replies 0 to count mark → AreMarked image thread (replies ++ more) 0 to count mark
  marked_later replies more to count mark here came all = λ before address from below within is.
      all before address from below within (stood_sooner replies more before to address here came (omega (arith, below)) is)

  pub marked_still : (replies : List ℕ) (from to count : ℕ) (old new : ℕ → Option Bool) → AreMarked image thread replies from to count old
      → ((address : ℕ) → new address ≡ Some false → old address ≡ Some false) → AreMarked image thread replies from to count new
  marked_still replies from to count old new all kept = λ before address f b w is.
      let m = all before address f b w is in
      (m.0, λ e. m.1 (kept address e))

  -- two ways, one behind the other
  pub marked_on : (replies : List ℕ) (between to count : ℕ) (mark : ℕ → Option Bool) → AreMarked image thread replies 0 between count mark → AreMarked image thread replies between to count mark
      → AreMarked image thread replies 0 to count mark
  marked_on replies between to count mark first second = λ before address from below within is.
      ⊎_elim
      (λ (sooner : before < between). first before address from sooner within is)
      (λ (later : between ≤ before). second before address later below within is)
      (cases_lt before between)

  -- ---- the marks of its way
  module _ (replies : List ℕ) (count : ℕ) where
    pub no_way : (at : ℕ) (mark : ℕ → Option Bool) → IsMarking image thread replies at at count mark mark
    no_way at mark = record {
      places = λ a. refl;
      kept = λ a e. e;
      only = λ a e. inl e;
      all = λ before a from below within is. absurd (omega (arith, from, below));
    }

    -- it went on behind its count
    pub passed_way : (at : ℕ) (mark : ℕ → Option Bool) → count < at → IsMarking image thread replies at count count mark mark
    passed_way at mark behind = record {
      places = λ a. refl;
      kept = λ a e. e;
      only = λ a e. inl e;
      all = λ before a from below within is. absurd (omega (arith, from, below, behind));
    }

    module _ (from : ℕ) (t : Thread) (old mid : ℕ → Option Bool) (here : Retired) (so_far : IsMarking image thread replies from t.retired count old mid)
        (came : reached (threads_of image) thread t.retired replies ≡ Some here) (at : here.state ≡ t.state) (counted : t.count ≡ count) (long : t.state.pc < 2 ^ 32) where
      its_own : (address : ℕ) → Stood image thread replies t.retired address → address ≡ t.state.pc
      its_own address is =
          let same : is.here.state ≡ here.state = state_same is.here here (sym is.came ∙ came) in
          sym is.pc ∙ ap (λ (s : VaxState). s.pc) (same ∙ at)

      its_pending : (address : ℕ) → Stood image thread replies t.retired address → t.state.pending ≡ Nothing
      its_pending address is =
          let same : is.here.state ≡ here.state = state_same is.here here (sym is.came ∙ came) in
          sym (ap (λ (s : VaxState). s.pending) (same ∙ at)) ∙ is.nothing

      way_marks : (nat_lt t.retired t.count && is_nothing t.state.pending) ≡ true → IsMarking image thread replies from (t.retired + 1) count old (with_mark mid t.state.pc)
      way_marks marks =
          let tests = both_true (nat_lt t.retired t.count) (is_nothing t.state.pending) marks in
          let lower : t.retired < t.count = grind (arith, nat_tests, tests.0) in
          let within : t.retired < count = omega (arith, lower, counted) in
          let stood : Stood image thread replies t.retired t.state.pc = record {
            here = here;
            came = came;
            pc = ap (λ (s : VaxState). s.pc) at;
            nothing = ap (λ (s : VaxState). s.pending) at ∙ nothing_pending t.state.pending tests.1;
          } in
          record {
            places = λ a. set_place (a == t.state.pc) (mid a) ∙ so_far.places a;
            kept = λ a e. so_far.kept a (set_stays (a == t.state.pc) (mid a) e);
            only = λ a e. one a (a == t.state.pc) refl e within stood;
            all = λ before a f below w is.
                ⊎_elim
                (λ (sooner : before < t.retired).
                let m = so_far.all before a f sooner w is in
                (m.0, λ e. m.1 (set_stays (a == t.state.pc) (mid a) e)))
                (λ (later : t.retired ≤ before).
                let last : before ≡ t.retired = omega (arith, below, later) in
                let pc = its_own a (subst (λ n. Stood image thread replies n a) last is) in
                (subst (λ n. n < 2 ^ 32) (sym pc) long, never_unset (a == t.state.pc) (mid a) (eq-eqb a t.state.pc pc)))
                (cases_lt before t.retired);
          }
        where
          one : (a : ℕ) (b : Bool) → (a == t.state.pc) ≡ b → (if b then option_map (λ _. true) (mid a) else mid a) ≡ Some true → t.retired < count
              → Stood image thread replies t.retired t.state.pc → (old a ≡ Some true) ⊎ StoodBelow image thread replies count a
          one a true same e within stood =
              let pc : a ≡ t.state.pc = eqb-true a t.state.pc same in
              inr (record { before = t.retired; within = within; stood = subst (λ n. Stood image thread replies t.retired n) (sym pc) stood })
          one a false same e within stood = so_far.only a e

      way_stays : (nat_lt t.retired t.count && is_nothing t.state.pending) ≡ false → IsMarking image thread replies from (t.retired + 1) count old mid
      way_stays passes = record {
        places = so_far.places;
        kept = so_far.kept;
        only = so_far.only;
        all = λ before a f below w is.
            ⊎_elim
            (λ (sooner : before < t.retired). so_far.all before a f sooner w is)
            (λ (later : t.retired ≤ before).
            let last : before ≡ t.retired = omega (arith, below, later) in
            let stood = subst (λ n. Stood image thread replies n a) last is in
            let lower : t.retired < t.count = omega (arith, last, w, counted) in
            let marks : (nat_lt t.retired t.count && is_nothing t.state.pending) ≡ true =
            ap (λ b. b && is_nothing t.state.pending) (lt-ltb t.retired t.count lower) ∙ ap is_nothing (its_pending a stood) in
            let gone : true ≡ false = sym marks ∙ passes in
            absurd (cc gone))
            (cases_lt before t.retired);
      }

      -- an instruction more
      pub way_more : (new : ℕ → Option Bool) → new ≡ marks_behind t mid → IsMarking image thread replies from (t.retired + 1) count old new
      way_more new is = subst (IsMarking image thread replies from (t.retired + 1) count old) (sym is) (by (nat_lt t.retired t.count && is_nothing t.state.pending) refl)
        where
          by : (b : Bool) → (nat_lt t.retired t.count && is_nothing t.state.pending) ≡ b → IsMarking image thread replies from (t.retired + 1) count old (if b then with_mark mid t.state.pc else mid)
          by true e = way_marks e
          by false e = way_stays e

-- ---- all threads
replies_more : (thread : ℕ) (m : Made) (made : List Made) → (more : List ℕ) × (replies_to thread (m ∷ made) ≡ replies_to thread made ++ more)
replies_more thread m made = by (m.thread == thread)
  where
    by : (b : Bool) → (more : List ℕ) × ((if b then replies_to thread made ++ m.reply ∷ [] else replies_to thread made) ≡ replies_to thread made ++ more)
    by true = (m.reply ∷ [], refl)
    by false = ([], sym (append-nil (replies_to thread made)))

unmarked_place : (b : Bool) → is_some (if b then Some false else None) ≡ b
unmarked_place true = refl
unmarked_place false = refl

unmarked_none : (b : Bool) → (if b then Some false else None) ≡ Some true → ⊥
unmarked_none true is = cc is
unmarked_none false is = cc is

module _ (image : ImageValue) (counts : List ℕ) where
  -- before the first instruction
  pub marks_first : (threads : List Thread) (marks : Marks) → AreUnmarked image.pages marks → AreFresh threads → AreMarks image counts [] threads (mark_of marks)
  marks_first threads marks unmarked fresh = record {
    placed = record {
      places = λ a. ap is_some (unmarked a) ∙ unmarked_place (is_code image.pages a);
      only = λ a e. absurd (unmarked_none (is_code image.pages a) (sym (unmarked a) ∙ e));
    };
    all = λ thread t found before a from below within is. absurd (omega (arith, below, fresh thread t found));
  }

  some_later : (m : Made) (made : List Made) (address : ℕ) → SomeStood image counts made address → SomeStood image counts (m ∷ made) address
  some_later m made address is =
      let r = replies_more is.thread m made in
      record {
        thread = is.thread;
        count = is.count;
        counted = is.counted;
        stood = subst (λ l. StoodBelow image is.thread l is.count address) (sym r.1) (below_later image is.thread (replies_to is.thread made) r.0 is.count address is.stood);
      }

  all_later : (m : Made) (made : List Made) (thread to count : ℕ) (mark : ℕ → Option Bool) (here : Retired) → reached (threads_of image) thread to (replies_to thread made) ≡ Some here
      → AreMarked image thread (replies_to thread made) 0 to count mark → AreMarked image thread (replies_to thread (m ∷ made)) 0 to count mark
  all_later m made thread to count mark here came all =
      let r = replies_more thread m made in
      subst (λ l. AreMarked image thread l 0 to count mark) (sym r.1) (marked_later image thread (replies_to thread made) r.0 to count mark here came all)

  -- where one of them made a reference
  pub marks_on : (made : List Made) (m : Made) (threads : List Thread) (at : ℕ) (t taken : Thread) (old new : ℕ → Option Bool) (here : Retired)
      → AreMarks image counts made threads old
      → ((k : ℕ) (u : Thread) → slice_get threads k ≡ Some u → (r : Retired) × (reached (threads_of image) k u.retired (replies_to k made) ≡ Some r))
      → slice_get threads at ≡ Some t → slice_get counts at ≡ Some t.count
      → reached (threads_of image) at taken.retired (replies_to at made) ≡ Some here
      → IsMarking image at (replies_to at made) t.retired taken.retired t.count old new → taken.count ≡ t.count
      → AreMarks image counts (m ∷ made) (slice_set threads at taken) new
  marks_on made m threads at t taken old new here was came found counted came_now way count = record {
    placed = record {
      places = λ a. way.places a ∙ was.placed.places a;
      only = λ a e.
          ⊎_elim
          (λ (before : old a ≡ Some true). some_later m made a (was.placed.only a before))
          (λ (stood : StoodBelow image at (replies_to at made) t.count a). some_later m made a (record { thread = at; count = t.count; counted = counted; stood = stood }))
          (way.only a e);
    };
    all = λ k u is.
        ⊎_elim
        (λ (same : (k ≡ at) × (taken ≡ u)).
        subst (λ k. AreMarked image k (replies_to k (m ∷ made)) 0 u.retired u.count new) (sym same.0)
        (subst (λ u. AreMarked image at (replies_to at (m ∷ made)) 0 u.retired u.count new) same.1
        (all_later m made at taken.retired taken.count new here came_now
        (subst (λ n. AreMarked image at (replies_to at made) 0 taken.retired n new) (sym count)
        (marked_on image at (replies_to at made) t.retired taken.retired t.count new
        (marked_still image at (replies_to at made) 0 t.retired t.count old new (was.all at t found) way.kept) way.all)))))
        (λ (other : (k ≢ at) × (slice_get threads k ≡ Some u)).
        let r = came k u other.1 in
        all_later m made k u.retired u.count new r.0 r.1 (marked_still image k (replies_to k made) 0 u.retired u.count old new (was.all k u other.1) way.kept))
        (got_set threads at taken u k is);
  }

  -- ---- each to its count
  pub record AreSoFar (made : List Made) (at : ℕ) (old new : ℕ → Option Bool) : Type 0 where
    pub placed : ArePlaced image counts made new
    pub kept : (address : ℕ) → new address ≡ Some false → old address ≡ Some false
    pub done : (thread count : ℕ) → thread < at → slice_get counts thread ≡ Some count → AreMarked image thread (replies_to thread made) 0 count count new

  pub none_so_far : (made : List Made) (threads : List Thread) (mark : ℕ → Option Bool) → AreMarks image counts made threads mark → AreSoFar made 0 mark mark
  none_so_far made threads mark marks = record {
    placed = marks.placed;
    kept = λ a e. e;
    done = λ thread count below counted. absurd (omega (arith, below));
  }

  pub one_so_far : (made : List Made) (threads : List Thread) (at : ℕ) (t : Thread) (old mid new : ℕ → Option Bool) → AreMarks image counts made threads old → AreSoFar made at old mid
      → slice_get threads at ≡ Some t → slice_get counts at ≡ Some t.count → IsMarking image at (replies_to at made) t.retired t.count t.count mid new → AreSoFar made (at + 1) old new
  one_so_far made threads at t old mid new marks so_far found counted way = record {
    placed = record {
      places = λ a. way.places a ∙ so_far.placed.places a;
      only = λ a e.
          ⊎_elim
          (λ (before : mid a ≡ Some true). so_far.placed.only a before)
          (λ (stood : StoodBelow image at (replies_to at made) t.count a). record { thread = at; count = t.count; counted = counted; stood = stood })
          (way.only a e);
    };
    kept = λ a e. so_far.kept a (way.kept a e);
    done = λ thread count below is.
        ⊎_elim
        (λ (sooner : thread < at). marked_still image thread (replies_to thread made) 0 count count mid new (so_far.done thread count sooner is) way.kept)
        (λ (later : at ≤ thread).
        let last : thread ≡ at = omega (arith, below, later) in
        let both : Some t.count ≡ Some count = sym counted ∙ ap (slice_get counts) (sym last) ∙ is in
        let same : t.count ≡ count = cc both in
        subst (λ k. AreMarked image k (replies_to k made) 0 count count new) (sym last)
        (subst (λ n. AreMarked image at (replies_to at made) 0 n n new) same
        (marked_on image at (replies_to at made) t.retired t.count t.count new
        (marked_still image at (replies_to at made) 0 t.retired t.count old new (marks.all at t found) (λ a e. so_far.kept a (way.kept a e))) way.all)))
        (cases_lt thread at);
  }

  pub all_so_far : (made : List Made) (at : ℕ) (old new : ℕ → Option Bool) → length counts ≤ at → AreSoFar made at old new → AreAllMarks image counts made new
  all_so_far made at old new ends so_far = record {
    placed = so_far.placed;
    all = λ thread count is. so_far.done thread count (omega (arith, ends, slice_get_within counts thread count is)) is;
  }
