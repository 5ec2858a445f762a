-- The step of each mode is the turn of the model.
use Rattle.std.proofs.Common.{◌≡◌, ◌≢◌, ◌&&◌, ◌++◌, sym, ap, ◌∙◌, subst}
use Rattle.alpha_machine.specs.Step.{state_of}
use Rattle.memory_core.specs.Requests.{CanMake}
use Rattle.system_model.specs.Processors.{Interprets, Mode as ModelMode, Processor, Turn, alpha_turn, moment_of, request_of, turn, turn_in}
use Rattle.system_model.specs.Processors as model
use Rattle.system_model.specs.Steps.{Moment, Stuck, next}
use Rattle.vax_form.specs.Tree.{Wants, answer}
use Rattle.vax_form.specs.declared.state.Reference.{Reference}
use Rattle.vax_form.specs.declared.state.VaxState.{VaxState}
use Rattle.vax_long.specs.Pending.{moment_at}
use Rattle.tie_operands.specs.Replies.{list_of}
use Rattle.tie_switch.specs.Live.{asks_get, at_boundary}
use Rattle.tie_switch.specs.Processors.{HasMade, IsMode, ProcessorValue, StandsFor, in_mode}
use Rattle.tie_switch.specs.Seen.{setting_of}
use Rattle.tie_switch.specs.declared.processor.Mode.{Mode}
use Rattle.tie_switch.specs.declared.processor.Mode.TheVariants as modes
use Rattle.tie_switch.proofs.Standing.{can_ask, not_stuck, runs_turn}
use Rattle.tie_switch.proofs.Waiting.{stands_started}
use Rattle.tie_switch.proofs.processor.Processor.make_step.Goals as goal

pub alpha_step-requires-clause-goes : goal.alpha_step-requires-clause-goes
alpha_step-requires-clause-goes g c =
    let setting = setting_of c.args.setting in
    let pages = c.args.setting.pages.now in
    let old = c.args.self.now in
    let h = c.requires.has_step in
    let p = h.processor in
    let runs : c.start.new.self.mode ≡ modes.Runs c.in-Runs.cpu = sym (ap (λ (k : ProcessorValue). k.mode) c.self.view_is) ∙ c.in-Runs.is in
    let at = subst (λ (m : Mode). IsMode pages old.thread old.boundary m (model.mode_of setting (in_mode old p.mode) p.mode)) runs (c.start.ensures.starts p.mode h.stands.mode) in
    subst (λ (m : Moment). next setting m (state_of c.in-Runs.cpu) ≢ Stuck) (sym (ap moment_of (c.start.ensures.same p.mode)))
    (not_stuck setting (g.M.Memory.set_up c.args.memory.now) old p (state_of c.in-Runs.cpu) h.stands.same h.can at)

pub tie_step-requires-clause-can : goal.tie_step-requires-clause-can
tie_step-requires-clause-can g c =
    let setting = setting_of c.args.setting in
    let pages = c.args.setting.pages.now in
    let set_up = g.M.Memory.set_up c.args.memory.now in
    let old = c.args.self.now in
    let new = c.start.new.self in
    let h = c.requires.has_step in
    let p = h.processor in
    let interprets : new.mode ≡ modes.Interprets c.in-Interprets.field-0 c.in-Interprets.field-1 = sym (ap (λ (k : ProcessorValue). k.mode) c.self.view_is) ∙ c.in-Interprets.is in
    let starts = c.start.ensures.starts p.mode h.stands.mode in
    let u = subst (λ (m : Mode). IsMode pages old.thread old.boundary m (model.mode_of setting (in_mode old p.mode) p.mode)) interprets starts in
    let replies = u.replies ++ list_of c.in-Interprets.field-1 in
    let same : in_mode new p.mode ≡ in_mode old p.mode = c.start.ensures.same p.mode in
    let at = subst (λ (m : ModelMode). IsMode pages old.thread old.boundary new.mode m) u.is starts in
    record {
      state = old.boundary;
      replies = replies;
      mode =
          subst (λ t. IsMode pages t new.boundary new.mode (Interprets old.boundary replies)) (sym (ap (λ (x : Processor). x.thread) same))
          (subst (λ (b : VaxState). IsMode pages old.thread b new.mode (Interprets old.boundary replies)) (sym (ap (λ (x : Processor). x.boundary) same)) at);
      asks =
          subst (λ (x : Processor). (reference : Reference) → answer pages (moment_at pages x.thread old.boundary) replies ≡ Wants reference
          → CanMake set_up (request_of x.thread x.retired reference)) (sym same)
          (can_ask setting set_up old p old.boundary replies h.stands.same h.can u.is);
    }

pub returns-in-Runs-clause-turned : goal.returns-in-Runs-clause-turned
returns-in-Runs-clause-turned g c goes p stands =
    let setting = setting_of c.args.setting in
    let pages = c.args.setting.pages.now in
    let old = c.args.self.now in
    let set_up = g.M.Memory.set_up c.args.memory.now in
    let between = g.M.Memory.between c.args.memory.now in
    let seen = g.M.Memory.seen c.args.memory.now in
    let seen' = g.M.Memory.seen c.alpha_step.new.memory in
    let cpu = state_of c.in-Runs.cpu in
    let runs : c.start.new.self.mode ≡ modes.Runs c.in-Runs.cpu = sym (ap (λ (k : ProcessorValue). k.mode) c.self.view_is) ∙ c.in-Runs.is in
    let at = subst (λ (m : Mode). IsMode pages old.thread old.boundary m (model.mode_of setting (in_mode old p.mode) p.mode)) runs (c.start.ensures.starts p.mode stands.mode) in
    let made = subst (λ (x : Processor). HasMade setting set_up between (alpha_turn setting x (next setting (moment_of x) cpu)) x c.alpha_step.new.self seen seen') (c.start.ensures.same p.mode)
    (c.alpha_step.ensures.turned goes p.mode) in
    subst (λ (x : Processor). HasMade setting set_up between (turn setting x) x c.alpha_step.new.self seen seen') (sym stands.same)
    (subst (λ (t : Turn). HasMade setting set_up between t (in_mode old p.mode) c.alpha_step.new.self seen seen') (sym (runs_turn setting old p.mode cpu at)) made)

pub returns-in-Interprets-clause-turned : goal.returns-in-Interprets-clause-turned
returns-in-Interprets-clause-turned g c goes p stands =
    let setting = setting_of c.args.setting in
    let pages = c.args.setting.pages.now in
    let old = c.args.self.now in
    let new = c.start.new.self in
    let set_up = g.M.Memory.set_up c.args.memory.now in
    let between = g.M.Memory.between c.args.memory.now in
    let seen = g.M.Memory.seen c.args.memory.now in
    let seen' = g.M.Memory.seen c.tie_step.new.memory in
    let interprets : new.mode ≡ modes.Interprets c.in-Interprets.field-0 c.in-Interprets.field-1 = sym (ap (λ (k : ProcessorValue). k.mode) c.self.view_is) ∙ c.in-Interprets.is in
    let starts = c.start.ensures.starts p.mode stands.mode in
    let u = subst (λ (m : Mode). IsMode pages old.thread old.boundary m (model.mode_of setting (in_mode old p.mode) p.mode)) interprets starts in
    let replies = u.replies ++ list_of c.in-Interprets.field-1 in
    let same : in_mode new p.mode ≡ in_mode old p.mode = c.start.ensures.same p.mode in
    let at = subst (λ (m : ModelMode). IsMode pages old.thread old.boundary new.mode m) u.is starts in
    let here = subst (λ t. IsMode pages t new.boundary new.mode (Interprets old.boundary replies)) (sym (ap (λ (x : Processor). x.thread) same))
    (subst (λ (b : VaxState). IsMode pages old.thread b new.mode (Interprets old.boundary replies)) (sym (ap (λ (x : Processor). x.boundary) same)) at) in
    let made = subst (λ (x : Processor). HasMade setting set_up between (turn_in setting x (Interprets old.boundary replies)) x c.tie_step.new.self seen seen') same
    (c.tie_step.ensures.turned goes p.mode old.boundary replies here) in
    subst (λ (x : Processor). HasMade setting set_up between (turn setting x) x c.tie_step.new.self seen seen') (sym stands.same)
    (subst (λ (m : ModelMode). HasMade setting set_up between (turn_in setting (in_mode old p.mode) m) (in_mode old p.mode) c.tie_step.new.self seen seen') (sym u.is) made)

pub returns-in-Runs-clause-waits : goal.returns-in-Runs-clause-waits
returns-in-Runs-clause-waits g c p stands =
    let setting = setting_of c.args.setting in
    let pages = c.args.setting.pages.now in
    let old = c.args.self.now in
    let waits = c.args.waits in
    let cpu = state_of c.in-Runs.cpu in
    let runs : c.start.new.self.mode ≡ modes.Runs c.in-Runs.cpu = sym (ap (λ (k : ProcessorValue). k.mode) c.self.view_is) ∙ c.in-Runs.is in
    let at = subst (λ (m : Mode). IsMode pages old.thread old.boundary m (model.mode_of setting (in_mode old p.mode) p.mode)) runs (c.start.ensures.starts p.mode stands.mode) in
    c.alpha_step.ensures.waits p.mode
    ∙ ap (λ (x : Processor). waits && asks_get (alpha_turn setting x (next setting (moment_of x) cpu))) (c.start.ensures.same p.mode)
    ∙ ap (λ (t : Turn). waits && asks_get t) (sym (ap (turn setting) stands.same ∙ runs_turn setting old p.mode cpu at))

pub returns-in-Runs-clause-still : goal.returns-in-Runs-clause-still
returns-in-Runs-clause-still g c waited p stands =
    let setting = setting_of c.args.setting in
    let pages = c.args.setting.pages.now in
    subst (λ (k : ProcessorValue). StandsFor pages k (at_boundary setting p)) (sym (c.alpha_step.ensures.still waited))
    (stands_started setting pages c.args.self.now c.start.new.self p stands c.start.ensures.same (c.start.ensures.starts p.mode stands.mode))

pub returns-in-Interprets-clause-waits : goal.returns-in-Interprets-clause-waits
returns-in-Interprets-clause-waits g c p stands =
    let setting = setting_of c.args.setting in
    let pages = c.args.setting.pages.now in
    let old = c.args.self.now in
    let new = c.start.new.self in
    let waits = c.args.waits in
    let interprets : new.mode ≡ modes.Interprets c.in-Interprets.field-0 c.in-Interprets.field-1 = sym (ap (λ (k : ProcessorValue). k.mode) c.self.view_is) ∙ c.in-Interprets.is in
    let starts = c.start.ensures.starts p.mode stands.mode in
    let u = subst (λ (m : Mode). IsMode pages old.thread old.boundary m (model.mode_of setting (in_mode old p.mode) p.mode)) interprets starts in
    let replies = u.replies ++ list_of c.in-Interprets.field-1 in
    let same : in_mode new p.mode ≡ in_mode old p.mode = c.start.ensures.same p.mode in
    let at = subst (λ (m : ModelMode). IsMode pages old.thread old.boundary new.mode m) u.is starts in
    let here = subst (λ t. IsMode pages t new.boundary new.mode (Interprets old.boundary replies)) (sym (ap (λ (x : Processor). x.thread) same))
    (subst (λ (b : VaxState). IsMode pages old.thread b new.mode (Interprets old.boundary replies)) (sym (ap (λ (x : Processor). x.boundary) same)) at) in
    c.tie_step.ensures.waits p.mode old.boundary replies here
    ∙ ap (λ (x : Processor). waits && asks_get (turn_in setting x (Interprets old.boundary replies))) same
    ∙ ap (λ (t : Turn). waits && asks_get t) (sym (ap (turn setting) stands.same ∙ ap (turn_in setting (in_mode old p.mode)) u.is))

pub returns-in-Interprets-clause-still : goal.returns-in-Interprets-clause-still
returns-in-Interprets-clause-still g c waited p stands =
    let setting = setting_of c.args.setting in
    c.tie_step.ensures.still waited (at_boundary setting p)
    (stands_started setting c.args.setting.pages.now c.args.self.now c.start.new.self p stands c.start.ensures.same (c.start.ensures.starts p.mode stands.mode))
