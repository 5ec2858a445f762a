-- Where a thread comes with its replies.
use Rattle.std.proofs.Common.{◌≡◌, ℕ, zero, suc, ◌<◌, ◌+◌, ◌-◌, ◌≤◌, List, ◌++◌, Option, Some, None, refl, sym, ap, ◌∙◌, subst, arith, ⊎_elim}
use Rattle.std.proofs.lemmas.Bool.{cases_lt}
use Rattle.vax_form.specs.Tree.{Tree, Answer, Wants, Fails, Comes, answer, Life, Runs, Exited, Trapped, Retired, retires}
use Rattle.vax_form.specs.declared.pages.Pages.{Pages}
use Rattle.vax_form.specs.declared.state.VaxState.{VaxState}
use Rattle.vax_form.specs.declared.state.Reference.{Reference}
use Rattle.vax_form.specs.After.{if_runs, one_more, after, KeepsRetired}
use Rattle.vax_form.proofs.Afters.{after_with_more}
use Rattle.vax_driven.specs.Threads.{Threads, after_start, reached, wanted_of, wanted_in, wanted_at, wanted}
use Rattle.vax_driven.specs.Laws.{ReachedStays, WantedOnce}

after_stays : (tree : VaxState → Tree) (pages : Pages) (start : VaxState) (count : ℕ) (replies more : List ℕ) (here : Retired)
    → after tree pages start count replies ≡ Some here → after tree pages start count (replies ++ more) ≡ Some (record here { left = here.left ++ more })
after_stays tree pages start count replies more here is =
    subst (KeepsRetired (after tree pages start count (replies ++ more)) more) is (after_with_more tree pages start count replies more)

start_stays : (tree : VaxState → Tree) (pages : Pages) (start : Option VaxState) (count : ℕ) (replies more : List ℕ) (here : Retired)
    → after_start tree pages start count replies ≡ Some here → after_start tree pages start count (replies ++ more) ≡ Some (record here { left = here.left ++ more })
start_stays tree pages None count replies more here is = absurd (cc is)
start_stays tree pages (Some start) count replies more here is = after_stays tree pages start count replies more here is

pub reached_stays : ReachedStays
reached_stays threads thread count replies more here is =
    start_stays (threads.tree thread) threads.pages (threads.start thread) count replies more here is

-- what wants a reference does not retire
unretired : (a : Answer) (reference : Reference) → wanted_of a ≡ Some reference → retires a ≡ None
unretired (Wants r) reference is = refl
unretired (Fails x) reference is = absurd (cc is)
unretired (Comes e left) reference is = absurd (cc is)

module _ (threads : Threads) (thread : ℕ) where
  stuck_in : (life : Life) (state : VaxState) (left : List ℕ) (reference : Reference) → wanted_in threads thread life state left ≡ Some reference
      → if_runs life (retires (answer threads.pages (threads.tree thread state) left)) ≡ None
  stuck_in Runs state left reference is = unretired (answer threads.pages (threads.tree thread state) left) reference is
  stuck_in Exited state left reference is = absurd (cc is)
  stuck_in (Trapped kind) state left reference is = absurd (cc is)

  stuck_at : (here : Option Retired) (reference : Reference) → wanted_at threads thread here ≡ Some reference → one_more (threads.tree thread) threads.pages here ≡ None
  stuck_at None reference is = refl
  stuck_at (Some here) reference is = stuck_in here.life here.state here.left reference is

  more_after : (start : Option VaxState) (count : ℕ) (replies : List ℕ)
      → after_start (threads.tree thread) threads.pages start (suc count) replies ≡ one_more (threads.tree thread) threads.pages (after_start (threads.tree thread) threads.pages start count replies)
  more_after None count replies = refl
  more_after (Some start) count replies = refl

  -- a thread that wants a reference after so many instructions does not come further
  pub no_further : (count more : ℕ) (replies : List ℕ) (reference : Reference) → wanted threads thread count replies ≡ Some reference
      → reached threads thread (suc (more + count)) replies ≡ None
  no_further count zero replies reference is =
      let e : suc (0 + count) ≡ suc count = omega arith in
      ap (λ n. reached threads thread n replies) e ∙ more_after (threads.start thread) count replies ∙ stuck_at (reached threads thread count replies) reference is
  no_further count (suc more) replies reference is =
      let e : suc (suc more + count) ≡ suc (suc (more + count)) = omega arith in
      ap (λ n. reached threads thread n replies) e ∙ more_after (threads.start thread) (suc (more + count)) replies
      ∙ ap (one_more (threads.tree thread) threads.pages) (no_further count more replies reference is)

  not_later : (count other : ℕ) (replies : List ℕ) (reference another : Reference) → wanted threads thread count replies ≡ Some reference
      → wanted threads thread other replies ≡ Some another → count < other → ⊥
  not_later count other replies reference another is is' later =
      let m = other - suc count in
      let e : suc (m + count) ≡ other = omega arith in
      let none : reached threads thread other replies ≡ None = subst (λ n. reached threads thread n replies ≡ None) e (no_further count m replies reference is) in
      let gone : None ≡ Some another = ap (wanted_at threads thread) (sym none) ∙ is' in
      cc gone

pub wanted_once : WantedOnce
wanted_once threads thread count other replies reference another is is' =
    let same : count ≡ other =
    ⊎_elim
    (λ (l : count < other). absurd (not_later threads thread count other replies reference another is is' l))
    (λ (l : other ≤ count).
    ⊎_elim
    (λ (m : other < count). absurd (not_later threads thread other count replies another reference is' is m))
    (λ (m : count ≤ other). omega arith)
    (cases_lt other count))
    (cases_lt count other) in
    let both : Some reference ≡ Some another = sym is ∙ ap (λ n. wanted threads thread n replies) same ∙ is' in
    (same, cc both)
