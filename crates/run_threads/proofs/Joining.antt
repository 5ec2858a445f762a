-- Passes are joined one after the other.
use Rattle.std.proofs.Common.{◌≡◌, ℕ, suc, ◌<◌, ◌+◌, List, [], ◌∷◌, ◌++◌, length, get_or, refl, sym, ap, ◌∙◌, subst, arith, length-append}
use Rattle.std.proofs.lemmas.List.{get_or_default}
use lib.ListN.{get_elem?}
use Rattle.memory_core.specs.Order.{own}
use Rattle.shared_memory.specs.declared.pass.Pass.{Pass}
use Rattle.shared_memory.specs.declared.shared.SharedMemory.{SharedMemory}
use Rattle.shared_memory.specs.declared.view.Ended.{Ended}
use Rattle.shared_memory.specs.declared.view.View.{View}
use Rattle.shared_memory.specs.Passes.{view_of, number_of, seen_of, own_of, IsPassOf, IsKeeperOf}
use Rattle.shared_memory.specs.Views as views
use Rattle.tie_switch.specs.Processors.{ProcessorValue}
use Rattle.run_threads.specs.declared.job.Job.{Job}
use Rattle.run_threads.specs.Jobs.{HasPass, AllHavePasses, IsJoined, HasJoined}
use Rattle.run_threads.proofs.Places.{each-snoc}

-- one that was joined stays so
joined_still : (other v w : View) (job : Job) (k : ProcessorValue) → views.HasJoined other v w → IsJoined v job k → IsJoined w job k
joined_still other v w job k more i = record {
  processor = i.processor;
  place = suc i.place;
  at = ap (λ (l : List Ended). get_elem? l (suc i.place)) more.ended ∙ i.at;
  own_is = i.own_is;
}

-- a job of the list has its pass
pub has_pass : (memory : SharedMemory) (jobs : List Job) (job : Job) (n : ℕ) → AllHavePasses memory jobs → n < length jobs → job ≡ get_or jobs n job
    → HasPass memory n job
has_pass memory jobs job n all inside at = subst (λ (x : Job). HasPass memory n x) (sym at) (all n job inside)

pub its_pass : (memory : SharedMemory) (job : Job) (n : ℕ) → HasPass memory n job → IsPassOf memory (number_of job.pass) job.pass
its_pass memory job n has = subst (λ (m : ℕ). IsPassOf memory m job.pass) (sym has.of_it.is.number_is) has.of_it

pub joins_one : (memory : SharedMemory) (given : List ℕ) (keeper next : Pass) (jobs : List Job) (ended more : List ProcessorValue) (job : Job) (n : ℕ)
    → HasJoined memory given keeper jobs ended n → n < length jobs → job ≡ get_or jobs n job → IsKeeperOf memory next
    → views.HasJoined (view_of job.pass) (view_of keeper) (view_of next) → own_of job.pass ≡ own (number_of job.pass) (seen_of job.pass) → more ≡ ended ++ job.processor ∷ []
    → HasJoined memory given next jobs more (n + 1)
joins_one memory given keeper next jobs ended more job n h inside at keeps joined own_is pushes =
    let fact : ℕ → ProcessorValue → Type 0 = λ j k. (d : Job) → IsJoined (view_of next) (get_or jobs j d) k in
    let last : (d : Job) → IsJoined (view_of next) (get_or jobs n d) job.processor = λ d.
    subst (λ (x : Job). IsJoined (view_of next) x job.processor) (at ∙ get_or_default jobs n job d inside)
    (record { processor = refl; place = 0; at = ap (λ (l : List Ended). get_elem? l 0) joined.ended; own_is = own_is }) in
    let all : (j : ℕ) (k : ProcessorValue) → j < length (ended ++ job.processor ∷ []) → fact j (get_or (ended ++ job.processor ∷ []) j k) =
    each-snoc fact ended job.processor
    (λ j k below d. joined_still (view_of job.pass) (view_of keeper) (view_of next) (get_or jobs j d) (get_or ended j k) joined (h.each j d k (omega (arith, below, h.many))))
    (subst (λ (m : ℕ). fact m job.processor) (sym h.many) last) in
    let many = length-append ended (job.processor ∷ []) in
    record {
      keeps = keeps;
      same = joined.given ∙ h.same;
      counts = omega (arith, ap length joined.ended, h.counts);
      many = omega (arith, ap length pushes, many, h.many);
      each = λ j d k below. subst (λ (l : List ProcessorValue). IsJoined (view_of next) (get_or jobs j d) (get_or l j k)) (sym pushes)
          (all j k (omega (arith, below, many, h.many)) d);
    }
