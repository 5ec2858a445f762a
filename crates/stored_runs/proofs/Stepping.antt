-- What a thread does at its boundary, with the replies that it has.
use Rattle.std.proofs.Common.{◌≡◌, ℕ, suc, ◌<◌, ◌+◌, ◌==◌, Bool, true, false, List, [], ◌∷◌, ◌++◌, Option, Some, None, if◌then◌else◌, refl, ap, ◌∙◌, subst, arith}
use Rattle.std.proofs.lemmas.Bool.Decides.{nat_tests}
use Rattle.image_file.specs.Values.{ImageValue}
use Rattle.vax_form.specs.After.{one_more}
use Rattle.vax_form.specs.Pages.{first_bad}
use Rattle.vax_form.specs.Tree.{Tree, Check, Ask, Fault, Ends, Answer, Wants, Fails, Comes, Finish, Exit, Trap, answer, unless_bad, Runs, Exited, Trapped, Retired, retires}
use Rattle.vax_form.specs.declared.pages.Pages.{Pages}
use Rattle.vax_form.specs.declared.state.Exception.{Exception}
use Rattle.vax_form.specs.declared.state.Reference.{Reference}
use Rattle.vax_form.specs.declared.state.VaxState.{VaxState}
use Rattle.vax_driven.specs.Threads.{after_start, reached}
use Rattle.vax_long.specs.Pending.{moment_at}
use Rattle.vax_run.specs.Values.{threads_of}
use Rattle.tie_switch.specs.Interpreted.{Stands, step_of}
use Rattle.tie_switch.specs.declared.interpreted.Interpreted.{Interpreted}
use Rattle.tie_switch.specs.declared.interpreted.Step.TheVariants as steps
use Rattle.tie_switch.specs.declared.place.Last.TheVariants as lasts
use Rattle.stored_runs.specs.Threads.{LeavesNone, Came, IsStage, IsNoted, IsAt, EndsSo, stood}
use Rattle.stored_runs.specs.declared.thread.Stage.{Stage}
use Rattle.stored_runs.specs.declared.thread.Stage.TheVariants as stages
use Rattle.stored_runs.specs.declared.thread.Thread.{Thread}

-- ---- replies that are left
unless_left : (bad : Option ℕ) (write : Bool) (a : Answer) → LeavesNone a → LeavesNone (unless_bad bad Fails write a)
unless_left None write a none = none
unless_left (Some address) write a none = tt

-- without replies none is left
pub nothing_left : (pages : Pages) (tree : Tree) → LeavesNone (answer pages tree [])
nothing_left pages (Check address count write tree) = unless_left (first_bad pages write address count) write (answer pages tree []) (nothing_left pages tree)
nothing_left pages (Ask reference on) = tt
nothing_left pages (Fault exception) = tt
nothing_left pages (Ends e) = refl

unless_more : (bad : Option ℕ) (write : Bool) (a b : Answer) (reference : Reference) → unless_bad bad Fails write a ≡ Wants reference
    → (a ≡ Wants reference → LeavesNone b) → LeavesNone (unless_bad bad Fails write b)
unless_more None write a b reference is more = more is
unless_more (Some address) write a b reference is more = tt

-- nor with one more reply than an instruction had that wanted it
pub one_reply : (pages : Pages) (tree : Tree) (given : List ℕ) (reply : ℕ) (reference : Reference) → answer pages tree given ≡ Wants reference
    → LeavesNone (answer pages tree (given ++ reply ∷ []))
one_reply pages (Check address count write tree) given reply reference is =
    unless_more (first_bad pages write address count) write (answer pages tree given) (answer pages tree (given ++ reply ∷ [])) reference is
    (one_reply pages tree given reply reference)
one_reply pages (Ask r on) [] reply reference is = nothing_left pages (on reply)
one_reply pages (Ask r on) (v ∷ given) reply reference is = one_reply pages (on v) given reply reference is
one_reply pages (Fault exception) given reply reference is = tt
one_reply pages (Ends e) given reply reference is = absurd (cc is)

-- ---- one instruction more
more_after : (tree : VaxState → Tree) (pages : Pages) (start : Option VaxState) (count : ℕ) (replies : List ℕ)
    → after_start tree pages start (suc count) replies ≡ one_more tree pages (after_start tree pages start count replies)
more_after tree pages None count replies = refl
more_after tree pages (Some start) count replies = refl

module _ (image : ImageValue) (thread : ℕ) (replies : List ℕ) where
  abbrev answer_at : VaxState → List ℕ → Answer
  answer_at state left = answer image.pages (moment_at image.pages thread state) left

  -- what retires takes its thread on
  pub next_is : (count : ℕ) (state : VaxState) (left : List ℕ) → Came image thread replies count Runs state left
      → reached (threads_of image) thread (suc count) replies ≡ retires (answer image.pages (moment_at image.pages thread state) left)
  next_is count state left came =
      more_after (moment_at image.pages thread) image.pages ((threads_of image).start thread) count replies
      ∙ ap (one_more (moment_at image.pages thread) image.pages) came

  noted_more : (b : Bool) (retired count : ℕ) (state : VaxState) (left : List ℕ) (next : Retired) (noted : Option VaxState) → (retired == count) ≡ b
      → Came image thread replies retired Runs state left → reached (threads_of image) thread (suc retired) replies ≡ Some next
      → IsNoted image thread replies retired count noted
      → IsNoted image thread replies (retired + 1) count (if b then Some state else noted)
  noted_more true retired count state left next noted e came later before =
      let same : retired ≡ count = grind (arith, nat_tests, e) in
      let behind : count < retired + 1 = omega (arith, same) in (
        behind,
        record {
          left = left;
          came = subst (λ n. Came image thread replies n Runs state left) same came;
          next = next;
          later = subst (λ n. reached (threads_of image) thread (suc n) replies ≡ Some next) same later;
        },
      )
  noted_more false retired count state left next None e came later before =
      let apart : retired < count = grind (arith, nat_tests, e, before) in
      omega arith
  noted_more false retired count state left next (Some s) e came later before = let behind : count < retired + 1 = omega (arith, before.0) in (behind, before.1)

  -- it stands at the next boundary
  stands : (t : Thread) (left : List ℕ) (next : Retired) (stage : Stage) (state : VaxState) → Came image thread replies t.retired Runs t.state left
      → reached (threads_of image) thread (suc t.retired) replies ≡ Some next → IsNoted image thread replies t.retired t.count t.noted
      → IsStage image thread replies (t.retired + 1) state stage → IsAt image thread replies (stood stage state t)
  stands t left next stage state came later noted is = record {
    stage = is;
    noted = noted_more (t.retired == t.count) t.retired t.count t.state left next t.noted refl came later noted;
  }

  one_later : (count : ℕ) (next : Option Retired) → reached (threads_of image) thread (suc count) replies ≡ next → reached (threads_of image) thread (count + 1) replies ≡ next
  one_later count next is =
      let e : suc count ≡ count + 1 = omega arith in
      subst (λ n. reached (threads_of image) thread n replies ≡ next) e is

  finishes : (a : Answer) (state : VaxState) → steps.Leaves (lasts.Finish state) ≡ step_of a → LeavesNone a → retires a ≡ Some (record { life = Runs; state = state; left = [] })
  finishes (Wants reference) state is takes = absurd (cc is)
  finishes (Fails exception) state is takes = absurd (cc is)
  finishes (Comes (Finish s) l) state is takes =
      let same : s ≡ state = cc is in
      ap (λ (s : VaxState). Some (record { life = Runs; state = s; left = l })) same ∙ ap (λ (l : List ℕ). Some (record { life = Runs; state = state; left = l })) takes
  finishes (Comes (Exit s) l) state is takes = absurd (cc is)
  finishes (Comes (Trap kind s) l) state is takes = absurd (cc is)

  pub on_finish : (t : Thread) (left : List ℕ) (state : VaxState) (interpreted : Interpreted) → Stands image.pages thread interpreted state []
      → EndsSo image thread replies left t (lasts.Finish state) → IsAt image thread replies (stood (stages.Goes interpreted None) state t)
  on_finish t left state interpreted begun ends =
      let later = next_is t.retired t.state left ends.came ∙ finishes (answer_at t.state left) state ends.ends ends.takes in
      stands t left _ (stages.Goes interpreted None) state ends.came later ends.noted
      (record { given = []; stands = begun; came = one_later t.retired _ later; takes = nothing_left image.pages (moment_at image.pages thread state) })

  exits : (a : Answer) (state : VaxState) → steps.Leaves (lasts.Exit state) ≡ step_of a → LeavesNone a → retires a ≡ Some (record { life = Exited; state = state; left = [] })
  exits (Wants reference) state is takes = absurd (cc is)
  exits (Fails exception) state is takes = absurd (cc is)
  exits (Comes (Finish s) l) state is takes = absurd (cc is)
  exits (Comes (Exit s) l) state is takes =
      let same : s ≡ state = cc is in
      ap (λ (s : VaxState). Some (record { life = Exited; state = s; left = l })) same ∙ ap (λ (l : List ℕ). Some (record { life = Exited; state = state; left = l })) takes
  exits (Comes (Trap kind s) l) state is takes = absurd (cc is)

  pub on_exit : (t : Thread) (left : List ℕ) (state : VaxState) → EndsSo image thread replies left t (lasts.Exit state)
      → IsAt image thread replies (stood stages.Exited state t)
  on_exit t left state ends =
      let later = next_is t.retired t.state left ends.came ∙ exits (answer_at t.state left) state ends.ends ends.takes in
      stands t left _ stages.Exited state ends.came later ends.noted (record { left = []; came = one_later t.retired _ later })

  traps : (a : Answer) (kind : ℕ) (state : VaxState) → steps.Leaves (lasts.Trap kind state) ≡ step_of a → LeavesNone a → retires a ≡ Some (record { life = Trapped kind; state = state; left = [] })
  traps (Wants reference) kind state is takes = absurd (cc is)
  traps (Fails exception) kind state is takes = absurd (cc is)
  traps (Comes (Finish s) l) kind state is takes = absurd (cc is)
  traps (Comes (Exit s) l) kind state is takes = absurd (cc is)
  traps (Comes (Trap k s) l) kind state is takes =
      let same : s ≡ state = cc is in
      let alike : k ≡ kind = cc is in
      ap (λ (s : VaxState). Some (record { life = Trapped k; state = s; left = l })) same
      ∙ ap (λ (k : ℕ). Some (record { life = Trapped k; state = state; left = l })) alike
      ∙ ap (λ (l : List ℕ). Some (record { life = Trapped kind; state = state; left = l })) takes

  pub on_trap : (t : Thread) (left : List ℕ) (kind : ℕ) (state : VaxState) → EndsSo image thread replies left t (lasts.Trap kind state)
      → IsAt image thread replies (stood (stages.Trapped kind) state t)
  on_trap t left kind state ends =
      let later = next_is t.retired t.state left ends.came ∙ traps (answer_at t.state left) kind state ends.ends ends.takes in
      stands t left _ (stages.Trapped kind) state ends.came later ends.noted (record { left = []; came = one_later t.retired _ later })

  faults : (a : Answer) (exception : Exception) → steps.Leaves (lasts.Fault exception) ≡ step_of a → retires a ≡ None
  faults (Wants reference) exception is = refl
  faults (Fails x) exception is = refl
  faults (Comes (Finish s) l) exception is = absurd (cc is)
  faults (Comes (Exit s) l) exception is = absurd (cc is)
  faults (Comes (Trap kind s) l) exception is = absurd (cc is)

  -- a fault retires nothing
  pub on_fault : (t : Thread) (left : List ℕ) (exception : Exception) → EndsSo image thread replies left t (lasts.Fault exception)
      → reached (threads_of image) thread (suc t.retired) replies ≡ None
  on_fault t left exception ends = next_is t.retired t.state left ends.came ∙ faults (answer_at t.state left) exception ends.ends
