-- The reply comes behind those that the instruction was given.
use Rattle.std.proofs.Common.{◌≡◌, ℕ, [], ◌∷◌, ◌++◌, sym, ap, ◌∙◌, subst}
use Rattle.system_model.specs.Processors.{Interprets}
use Rattle.vax_form.specs.declared.state.VaxState.{VaxState}
use Rattle.tie_switch.specs.Processors.{ProcessorValue, IsGiven, IsMode, in_mode}
use Rattle.tie_switch.specs.declared.processor.Mode.{Mode}
use Rattle.tie_switch.proofs.Standing.{answered}
use Rattle.tie_switch.proofs.processor.Processor.take_reply.Goals as goal

pub returns-clause-stands : goal.returns-clause-stands
returns-clause-stands c pages before state replies h =
    let old = c.args.self.now in
    let inside = c.self.inside in
    let after = Interprets state (replies ++ c.args.reply ∷ []) in
    let thread : old.thread ≡ inside.thread = sym (ap (λ (k : ProcessorValue). k.thread) c.self.view_is ∙ c.count_tie.ensures.thread) in
    let boundary : old.boundary ≡ inside.boundary = sym (ap (λ (k : ProcessorValue). k.boundary) c.self.view_is ∙ c.count_tie.ensures.boundary) in
    let mode : old.mode ≡ inside.mode = sym (ap (λ (k : ProcessorValue). k.mode) c.self.view_is ∙ c.count_tie.ensures.mode) in
    let here =
    subst (λ (m : Mode). IsMode pages inside.thread inside.boundary m (Interprets state replies)) mode
    (subst (λ (b : VaxState). IsMode pages inside.thread b old.mode (Interprets state replies)) boundary
    (subst (λ (t : ℕ). IsMode pages t old.boundary old.mode (Interprets state replies)) thread h)) in
    record {
      same = sym (c.count_tie.ensures.tied after) ∙ ap (λ (k : ProcessorValue). in_mode k after) (sym c.self.view_is);
      mode = answered pages inside.thread inside.boundary inside.mode c.in-Interprets.field-0 _ c.args.reply state replies c.in-Interprets.is (subst IsGiven mode c.requires.given) here;
    }

pub returns-clause-thread : goal.returns-clause-thread
returns-clause-thread c = ap (λ (k : ProcessorValue). k.thread) c.self.view_is ∙ c.count_tie.ensures.thread

pub returns-clause-steps : goal.returns-clause-steps
returns-clause-steps c = ap (λ (k : ProcessorValue). k.steps) c.self.view_is ∙ c.count_tie.ensures.steps
