-- The history and the processors are a legal run, and so what the threads did.
use Rattle.std.proofs.Common.{◌≡◌, ℕ, List, map, reverse, refl, ap, ◌∙◌, subst}
use Rattle.std.specs.Prelude.{Result, Ok, Err, IfOk}
use Rattle.image_meaning.specs.Meant.{image_meaning}
use Rattle.run_threads.specs.Runs.{RunningValue}
use Rattle.system_model.specs.Legal.{IsLegal}
use Rattle.system_model.specs.declared.translation.Range.{Range}
use Rattle.tie_switch.specs.Processors.{processor_of}
use Rattle.tie_switch.specs.Settings.{image_setting}
use Rattle.vest_cli.specs.Made.{EndedIsRun, running_of}
use Rattle.vest_cli.proofs.execute.run_task.Goals as goal

-- of what was given, by two facts
by_both : {X E : Type 0} (r : Result X E) (P Q S : X → Type 0) → ((x : X) → P x → Q x → S x) → IfOk r P → IfOk r Q → IfOk r S
by_both (Ok x) P Q S f p q = f x p q
by_both (Err e) P Q S f p q = tt

pub go-requires-clause-meets : goal.go-requires-clause-meets
go-requires-clause-meets g c κs within =
    let pages = c.args.task.now.loaded.image.pages in
    c.permits.ensures.meets (image_meaning pages) c.args.task.now.loaded.target pages c.args.task.now.loaded.translation c.requires.meets

pub returns-clause-ran : goal.returns-clause-ran
returns-clause-ran g c =
    let task = c.args.task.now in
    let image = task.loaded.image in
    let code = task.loaded.translation in
    let start = running_of image task.taken.items task.limits in
    let law = subst (λ (ranges : List Range). EndedIsRun image task.loaded.target task.taken.items code ranges) c.deref-3.ensures.value
    (subst (λ (input : List ℕ). EndedIsRun image task.loaded.target input code c.deref-3.result.now) c.deref-2.ensures.value (c.ended_is_run.ensures task.loaded.target c.requires.meets)) in
    by_both c.go.result _ _ _ (λ r legal ended. law start.set_up start.budget r.0.history (map processor_of r.1.items) refl refl
    (subst (λ (ranges : List Range). IsLegal (image_setting image.pages code ranges) start.set_up start.budget (reverse r.0.history) (map processor_of r.1.items)) c.deref-4.ensures.value
    (subst (λ (of : RunningValue). IsLegal (image_setting image.pages code c.deref-4.result.now) of.set_up of.budget (reverse r.0.history) (map processor_of r.1.items)) (c.in_ok-running.ensures ∙ ap (λ (input : List ℕ). running_of image input task.limits) c.deref.ensures.value) legal))
    ended) c.go.ensures.legal c.go.ensures.ended

pub returns-clause-set_up : goal.returns-clause-set_up
returns-clause-set_up g c =
    let task = c.args.task.now in
    let begun = c.in_ok-running.ensures ∙ ap (λ (input : List ℕ). running_of task.loaded.image input task.limits) c.deref.ensures.value in
    subst (λ (of : RunningValue). IfOk c.go.result (λ r. r.0.set_up ≡ of.set_up)) begun c.go.ensures.set_up
