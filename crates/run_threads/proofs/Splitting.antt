-- A job for each thread is made, one after the other.
use Rattle.std.proofs.Common.{◌≡◌, ℕ, ◌<◌, ◌+◌, List, [], ◌∷◌, ◌++◌, Some, length, get_or, sym, ap, ◌∙◌, subst, arith, length-append}
use Rattle.std.specs.Prelude.{option_map, slice_get}
use Rattle.image_file.specs.Start.{start_state}
use Rattle.image_file.specs.Values.{ImageValue}
use Rattle.image_file.specs.declared.image.Start.{Start}
use Rattle.shared_memory.specs.declared.pass.Pass.{Pass}
use Rattle.shared_memory.specs.declared.shared.SharedMemory.{SharedMemory}
use Rattle.shared_memory.specs.Lists.{times}
use Rattle.shared_memory.specs.Passes.{set_up_of, view_of, seen_of, IsPassOf, IsKeeperOf}
use Rattle.shared_memory.specs.Views.{HasGiven}
use Rattle.shared_memory.proofs.Sums.{only-other}
use Rattle.vax_form.specs.declared.pages.Pages.{Pages}
use Rattle.system_model.specs.Legal.{starts}
use Rattle.system_model.specs.Processors.{Processor, begun}
use Rattle.tie_switch.specs.Processors.{ProcessorValue, StandsFor}
use Rattle.run_threads.specs.declared.job.Job.{Job}
use Rattle.run_threads.specs.Jobs.{IsReady, HasSplit}
use Rattle.run_threads.proofs.Places.{each-snoc}

-- a new processor beside its new pass
pub new_ready : (memory : SharedMemory) (image : ImageValue) (pass : Pass) (k : ProcessorValue) (start : Start) (n : ℕ) → (set_up_of memory).image ≡ image
    → slice_get image.threads n ≡ Some start → ((pages : Pages) → StandsFor pages k (begun n (start_state start))) → IsPassOf memory n pass → seen_of pass ≡ []
    → IsReady memory n (record { processor = k; pass = pass })
new_ready memory image pass k start n is at stands of_it unseen =
    let thread : n ≡ k.thread = ap (λ (p : Processor). p.thread) (stands image.pages).same in
    record {
      has = record { thread_is = sym thread; of_it = of_it };
      unseen = unseen;
      begun = record {
        start = start_state start;
        starts_so = subst (λ (t : ℕ). starts (set_up_of memory).image t ≡ Some (start_state start)) thread
            (ap (λ (i : ImageValue). option_map start_state (slice_get i.threads n)) is ∙ ap (option_map start_state) at);
        stands = λ pages. subst (λ (t : ℕ). StandsFor pages k (begun t (start_state start))) thread (stands pages);
      };
    }

pub splits_one : (memory : SharedMemory) (keeper next : Pass) (budget : ℕ) (jobs more : List Job) (job : Job) (n : ℕ) → HasSplit memory keeper budget jobs n
    → IsKeeperOf memory next → HasGiven n (view_of keeper) (view_of next) → more ≡ jobs ++ job ∷ [] → IsReady memory n job → job.processor.budget ≡ budget
    → HasSplit memory next budget more (n + 1)
splits_one memory keeper next budget jobs more job n h keeps given pushes ready same = record {
  keeps = keeps;
  unseen = given.seen ∙ h.unseen;
  none_ended = given.ended ∙ h.none_ended;
  given = omega (arith, ap length given.given, h.given);
  fresh = λ p above. omega (arith, ap (times p) given.given, only-other p n (λ e. omega arith), h.fresh p (omega arith));
  many = omega (arith, ap length pushes, length-append jobs (job ∷ []), h.many);
  ready = subst (λ (l : List Job). (j : ℕ) (d : Job) → j < length l → IsReady memory j (get_or l j d)) (sym pushes)
      (each-snoc (IsReady memory) jobs job h.ready (subst (λ (m : ℕ). IsReady memory m job) (sym h.many) ready));
  budgets = subst (λ (l : List Job). (j : ℕ) (d : Job) → j < length l → (get_or l j d).processor.budget ≡ budget) (sym pushes)
      (each-snoc (λ (j : ℕ) (x : Job). x.processor.budget ≡ budget) jobs job h.budgets same);
}
