-- Threads are made one after the other, and joined so.
use Rattle.std.proofs.Common.{◌≡◌, ℕ, ◌<◌, ◌+◌, List, [], ◌∷◌, ◌++◌, length, get_or, sym, ap, ◌∙◌, subst, arith, length-append}
use Rattle.std.proofs.lemmas.List.{get_or_default}
use Rattle.run_threads.specs.declared.together.JobThread.{JobThread}
use Rattle.run_threads.specs.Together.{IsThreadOf, HaveStarted, HaveRan}
use Rattle.run_threads.proofs.Places.{each-snoc}

pub starts_one : {J T : Type 0} (runner : T) (jobs : List J) (threads more : List (JobThread J T)) (job : J) (thread : JobThread J T) (n : ℕ)
    → HaveStarted runner jobs threads n → n < length jobs → job ≡ get_or jobs n job → IsThreadOf runner job thread → more ≡ threads ++ thread ∷ []
    → HaveStarted runner jobs more (n + 1)
starts_one {J} {T} runner jobs threads more job thread n h inside at of pushes =
    let fact : ℕ → JobThread J T → Type 0 = λ j t. (d : J) → IsThreadOf runner (get_or jobs j d) t in
    let last : fact n thread = λ d. subst (λ (x : J). IsThreadOf runner x thread) (at ∙ get_or_default jobs n job d inside) of in
    let many = length-append threads (thread ∷ []) in
    record {
      many = omega (arith, ap length pushes, many, h.many);
      each = λ j d t below. subst (λ (l : List (JobThread J T)). IsThreadOf runner (get_or jobs j d) (get_or l j t)) (sym pushes)
          (each-snoc fact threads thread (λ i u low e. h.each i e u (omega (arith, low, h.many))) (subst (λ (m : ℕ). fact m thread) (sym h.many) last)
          j t (omega (arith, below, many, h.many)) d);
    }

pub ends_one : {J T : Type 0} (gives : T → J → J → Type 0) (runner : T) (jobs ended more : List J) (threads : List (JobThread J T)) (thread : JobThread J T) (after : J) (n : ℕ)
    → HaveStarted runner jobs threads (length jobs) → HaveRan (gives runner) jobs ended n → n < length threads → thread ≡ get_or threads n thread
    → gives thread.handle.promise.runner.value thread.handle.promise.job.value after → more ≡ ended ++ after ∷ []
    → HaveRan (gives runner) jobs more (n + 1)
ends_one {J} {T} gives runner jobs ended more threads thread after n started h inside at gave pushes =
    let below_jobs : n < length jobs = omega (arith, inside, started.many) in
    let fact : ℕ → J → Type 0 = λ j x. (d : J) → gives runner (get_or jobs j d) x in
    let last : fact n after = λ d.
    let is = subst (λ (t : JobThread J T). IsThreadOf runner (get_or jobs n d) t) (sym at) (started.each n d thread below_jobs) in
    subst (λ (r : T). gives r (get_or jobs n d) after) is.runner_is (subst (λ (x : J). gives thread.handle.promise.runner.value x after) is.job_is gave) in
    let many = length-append ended (after ∷ []) in
    record {
      many = omega (arith, ap length pushes, many, h.many);
      each = λ j d below. subst (λ (l : List J). gives runner (get_or jobs j d) (get_or l j d)) (sym pushes)
          (each-snoc fact ended after (λ i x low e. let here = h.each i e (omega (arith, low, h.many)) in
          subst (λ (y : J). gives runner (get_or jobs i e) y) (get_or_default ended i e x low) here) (subst (λ (m : ℕ). fact m after) (sym h.many) last)
          j d (omega (arith, below, many, h.many)) d);
    }
