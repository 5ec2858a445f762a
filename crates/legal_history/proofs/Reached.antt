-- A thread after some instructions: one instruction more, and one reply more.
use Rattle.std.proofs.Common.{◌≡◌, ℕ, zero, suc, Bool, true, false, if◌then◌else◌, List, [], ◌++◌, Option, Some, None, refl, sym, ap, ◌∙◌, subst, arith}
use Rattle.vax_form.specs.Tree.{Finish, Exit, Trap, Answer, Wants, Fails, Comes, answer, Life, Runs, Exited, Trapped, Retired, retires}
use Rattle.vax_form.specs.declared.state.Pending.TheVariants.{Nothing}
use Rattle.vax_form.specs.declared.state.VaxState.{VaxState}
use Rattle.vax_form.specs.declared.state.Reference.{Reference}
use Rattle.vax_form.specs.After.{if_runs, one_more, after, KeepsRetired}
use Rattle.vax_form.proofs.Afters.{after_with_more}
use Rattle.system_model.specs.Settings.{Setting}
use Rattle.vax_driven.specs.Threads.{after_start, reached, wanted_of, wanted_at, wanted}
use Rattle.system_model.specs.Interpreted.{threads_of, is_translated, made_in, interpreted_in, end_in, interpreted_of}
use Rattle.legal_history.proofs.Paths.{made_more}

-- the thread goes on at a state, with these replies left
abbrev pub running : VaxState → List ℕ → Option Retired
running state left = Some (record { life = Runs; state = state; left = left })

abbrev life_of : Option Retired → Life
life_of None = Exited
life_of (Some r) = r.life

abbrev answer_of : Option Retired → Answer
answer_of None = Comes (Finish (record { r = []; pc = 0; psw = 0; handler = 0; pending = Nothing })) []
answer_of (Some r) = Comes (Finish r.state) r.left

module _ (setting : Setting) (starts : ℕ → Option VaxState) (thread : ℕ) where
  abbrev pub here : ℕ → List ℕ → Option Retired
  here n w = reached (threads_of setting starts) thread n w

  more_from : (o : Option VaxState) (n : ℕ) (w v : List ℕ) (r : Retired) → after_start (setting.meaning.moment thread) setting.meaning.pages o n w ≡ Some r
      → after_start (setting.meaning.moment thread) setting.meaning.pages o n (w ++ v) ≡ Some (record r { left = r.left ++ v })
  more_from None n w v r e = absurd (cc e)
  more_from (Some start) n w v r e =
      let kept = subst (KeepsRetired (after (setting.meaning.moment thread) setting.meaning.pages start n (w ++ v)) v) e (after_with_more (setting.meaning.moment thread) setting.meaning.pages start n w v) in
      kept

  -- replies behind those that were taken change nothing
  pub reached_more : (n : ℕ) (w v : List ℕ) (state : VaxState) (left : List ℕ) → here n w ≡ running state left → here n (w ++ v) ≡ running state (left ++ v)
  reached_more n w v state left e = more_from (starts thread) n w v (record { life = Runs; state = state; left = left }) e

  suc_from : (o : Option VaxState) (n : ℕ) (w : List ℕ) (state : VaxState) (left : List ℕ) (a : Answer) → after_start (setting.meaning.moment thread) setting.meaning.pages o n w ≡ running state left
      → answer setting.meaning.pages (setting.meaning.moment thread state) left ≡ a → after_start (setting.meaning.moment thread) setting.meaning.pages o (suc n) w ≡ retires a
  suc_from None n w state left a e h = absurd (cc e)
  suc_from (Some start) n w state left a e h = ap (one_more (setting.meaning.moment thread) setting.meaning.pages) e ∙ ap retires h

  -- one more instruction
  pub reached_suc : (n : ℕ) (w : List ℕ) (state : VaxState) (left : List ℕ) (a : Answer) → here n w ≡ running state left
      → answer setting.meaning.pages (setting.meaning.moment thread state) left ≡ a → here (suc n) w ≡ retires a
  reached_suc n w state left a e h = suc_from (starts thread) n w state left a e h

  pub wanted_is : (n : ℕ) (w : List ℕ) (state : VaxState) (left : List ℕ) (r : Reference) → here n w ≡ running state left
      → answer setting.meaning.pages (setting.meaning.moment thread state) left ≡ Wants r → wanted (threads_of setting starts) thread n w ≡ Some r
  wanted_is n w state left r e h = ap (wanted_at (threads_of setting starts) thread) e ∙ ap wanted_of h

  -- the instruction that led there
  back_from : (o : Option VaxState) (n : ℕ) (w : List ℕ) (state : VaxState) (left : List ℕ) → after_start (setting.meaning.moment thread) setting.meaning.pages o (suc n) w ≡ running state left
      → (before : VaxState) × (pending : List ℕ) × (after_start (setting.meaning.moment thread) setting.meaning.pages o n w ≡ running before pending) × (answer setting.meaning.pages (setting.meaning.moment thread before) pending ≡ Comes (Finish state) left)
  back_from None n w state left e = absurd (cc e)
  back_from (Some start) n w state left e = from (after (setting.meaning.moment thread) setting.meaning.pages start n w) e
    where
      ended : (a : Answer) → retires a ≡ running state left → a ≡ Comes (Finish state) left
      ended (Wants r) h = absurd (cc h)
      ended (Fails x) h = absurd (cc h)
      ended (Comes (Finish s) l) h = ap answer_of h
      ended (Comes (Exit s) l) h = absurd (cc (ap life_of h))
      ended (Comes (Trap k s) l) h = absurd (cc (ap life_of h))

      lived : (life : Life) (b : VaxState) (p : List ℕ) → if_runs life (retires (answer setting.meaning.pages (setting.meaning.moment thread b) p)) ≡ running state left
          → (life ≡ Runs) × (answer setting.meaning.pages (setting.meaning.moment thread b) p ≡ Comes (Finish state) left)
      lived Runs b p h = (refl, ended (answer setting.meaning.pages (setting.meaning.moment thread b) p) h)
      lived Exited b p h = absurd (cc h)
      lived (Trapped k) b p h = absurd (cc h)

      from : (before : Option Retired) → one_more (setting.meaning.moment thread) setting.meaning.pages before ≡ running state left
          → (b : VaxState) × (p : List ℕ) × (before ≡ running b p) × (answer setting.meaning.pages (setting.meaning.moment thread b) p ≡ Comes (Finish state) left)
      from None h = absurd (cc h)
      from (Some r) h =
          let l = lived r.life r.state r.left h in
          (r.state, r.left, ap (λ (life : Life). Some (record { life = life; state = r.state; left = r.left })) l.0, l.1)

  back : (n : ℕ) (w : List ℕ) (state : VaxState) (left : List ℕ) → here (suc n) w ≡ running state left
      → (before : VaxState) × (pending : List ℕ) × (here n w ≡ running before pending) × (answer setting.meaning.pages (setting.meaning.moment thread before) pending ≡ Comes (Finish state) left)
  back n w state left e = back_from (starts thread) n w state left e

  -- ---- interpreted steps
  more_ties : (b : Bool) (n m : ℕ) → m ≡ n → (if b then 0 else m) ≡ (if b then 0 else n)
  more_ties true n m e = refl
  more_ties false n m e = e

  -- more replies change no instruction that has retired
  pub interpreted_more : (n : ℕ) (w v : List ℕ) (state : VaxState) (left : List ℕ) → here n w ≡ running state left → interpreted_of setting starts thread n (w ++ v) ≡ interpreted_of setting starts thread n w
  interpreted_more zero w v state left e = refl
  interpreted_more (suc n) w v state left e =
      let l = back n w state left e in
      let ih = interpreted_more n w v l.0 l.1 l.2 in
      let more = reached_more n w v l.0 l.1 l.2 in
      let ends_same : end_in setting thread (here n (w ++ v)) ≡ end_in setting thread (here n w) = ap (end_in setting thread) more ∙ sym (ap (end_in setting thread) l.2) in
      let interpreted_same : interpreted_in setting thread (here n (w ++ v)) ≡ interpreted_in setting thread (here n w) =
      ap (interpreted_in setting thread) more
      ∙ more_ties (is_translated setting thread l.0) (made_in setting.meaning.pages (setting.meaning.moment thread l.0) l.1) (made_in setting.meaning.pages (setting.meaning.moment thread l.0) (l.1 ++ v)) (made_more setting.meaning.pages (setting.meaning.moment thread l.0) l.1 v left (Finish state) l.3)
      ∙ sym (ap (interpreted_in setting thread) l.2) in
      omega (arith, ih, ends_same, interpreted_same)

  -- what a translated instruction adds, and what an interpreted one does
  by_true : (b : Bool) (n : ℕ) → b ≡ true → (if b then 0 else n) ≡ 0
  by_true true n e = refl
  by_true false n e = absurd (cc e)

  by_false : (b : Bool) (n : ℕ) → b ≡ false → (if b then 0 else n) ≡ n
  by_false false n e = refl
  by_false true n e = absurd (cc e)

  pub interpreted_quiet : (n : ℕ) (w : List ℕ) (state : VaxState) (left : List ℕ) → here n w ≡ running state left → is_translated setting thread state ≡ true → interpreted_in setting thread (here n w) ≡ 0
  interpreted_quiet n w state left e t = ap (interpreted_in setting thread) e ∙ by_true (is_translated setting thread state) (made_in setting.meaning.pages (setting.meaning.moment thread state) left) t

  pub end_quiet : (n : ℕ) (w : List ℕ) (state : VaxState) (left : List ℕ) → here n w ≡ running state left → is_translated setting thread state ≡ true → end_in setting thread (here n w) ≡ 0
  end_quiet n w state left e t = ap (end_in setting thread) e ∙ by_true (is_translated setting thread state) 1 t

  pub interpreted_loud : (n : ℕ) (w : List ℕ) (state : VaxState) (left : List ℕ) → here n w ≡ running state left → is_translated setting thread state ≡ false → interpreted_in setting thread (here n w) ≡ made_in setting.meaning.pages (setting.meaning.moment thread state) left
  interpreted_loud n w state left e t = ap (interpreted_in setting thread) e ∙ by_false (is_translated setting thread state) (made_in setting.meaning.pages (setting.meaning.moment thread state) left) t

  pub end_loud : (n : ℕ) (w : List ℕ) (state : VaxState) (left : List ℕ) → here n w ≡ running state left → is_translated setting thread state ≡ false → end_in setting thread (here n w) ≡ 1
  end_loud n w state left e t = ap (end_in setting thread) e ∙ by_false (is_translated setting thread state) 1 t
