-- An interpreted step is a turn of the model.
use Rattle.std.proofs.Common.{◌≡◌, ℕ, Bool, true, false, ◌&&◌, [], ◌∷◌, ◌++◌, inl, inr, refl, sym, ap, ◌∙◌, subst}
use Rattle.memory_core.specs.Kinds.{is_get}
use Rattle.memory_core.specs.Seen.{IsNext, IsOver}
use Rattle.memory_core.specs.declared.entry.Request.{Request}
use Rattle.system_model.specs.Legal.{spent}
use Rattle.system_model.specs.Processors.{Interprets, Mode, Processor, Turn, left, request_of, tie_turn, tied}
use Rattle.system_model.specs.Quadwords.{reply_found}
use Rattle.vax_form.specs.Grammar.{instruction}
use Rattle.vax_form.specs.Tree.{Answer}
use Rattle.vax_form.specs.declared.state.VaxState.{VaxState}
use Rattle.tie_switch.specs.Interpreted.{IfWants, StepsBy, last_with, step_with}
use Rattle.tie_switch.specs.Live.{asks_get}
use Rattle.tie_switch.specs.Processors.{HasMade, IsMode, ProcessorValue, StandsFor, in_mode}
use Rattle.tie_switch.specs.Seen.{last_of, setting_of}
use Rattle.tie_switch.specs.declared.interpreted.Came.{Came}
use Rattle.tie_switch.specs.declared.interpreted.Step.{Step}
use Rattle.tie_switch.specs.declared.interpreted.Step.TheVariants as steps
use Rattle.tie_switch.specs.declared.place.Last.TheVariants as lasts
use Rattle.tie_switch.proofs.Playing.{at_once_answers}
use Rattle.tie_switch.proofs.Standing.{wants_is, leaves_is}
use Rattle.tie_switch.proofs.Waiting.{interpreting, stands_in}
use Rattle.tie_switch.proofs.processor.Processor.tie_step.Goals as goal

pub returns-in-Made-clause-turned : goal.returns-in-Made-clause-turned
returns-in-Made-clause-turned g c goes before state replies h =
    let setting = setting_of c.args.setting in
    let pages = c.args.setting.pages.now in
    let old = c.args.self.now in
    let p = in_mode old before in
    let reference = c.in-Wants.reference in
    let set_up = g.M.Memory.set_up c.args.memory.now in
    let between = g.M.Memory.between c.args.memory.now in
    let seen = g.M.Memory.seen c.args.memory.now in
    let seen' = g.M.Memory.seen c.access.new.self in
    let reply = reply_found reference c.in-Made.before in
    let wants = wants_is _ reference (sym (c.interpret.ensures.answers state replies h) ∙ ap (λ (x : Came). step_with x c.interpret.new.after) c.in-Wants.is) in
    let there = subst (λ (s : Step). IfWants s (IsMode pages old.thread old.boundary c.interpret.new.self.mode (Interprets state replies))) (ap (λ (x : Came). step_with x c.interpret.new.after) c.in-Wants.is) (c.interpret.ensures.stands state replies h) in
    let same : (mode : Mode) → in_mode c.interpret.new.self mode ≡ in_mode old mode = c.interpret.ensures.same in
    let thread : c.interpret.new.self.thread ≡ old.thread = ap (λ (x : Processor). x.thread) (same before) in
    let retired : c.interpret.new.self.retired ≡ old.retired = ap (λ (x : Processor). x.retired) (same before) in
    let boundary : c.interpret.new.self.boundary ≡ old.boundary = ap (λ (x : Processor). x.boundary) (same before) in
    let request : c.reference_request-request.result ≡ request_of old.thread old.retired reference =
    c.reference_request-request.ensures ∙ ap (λ t. request_of t c.interpret.new.self.retired reference) thread ∙ ap (λ r. request_of old.thread r reference) retired in
    let entry = subst (λ (r : Request). IsNext set_up between r c.in-Made.before c.in-Made.success seen seen') request c.in-Made.ensures.reply in
    let here = subst (λ t. IsMode pages t c.interpret.new.self.boundary c.interpret.new.self.mode (Interprets state replies)) (sym thread)
    (subst (λ (b : VaxState). IsMode pages old.thread b c.interpret.new.self.mode (Interprets state replies)) (sym boundary) there) in
    let next : ℕ → Processor → Processor = λ n x. record (tied x) { mode = Interprets state (replies ++ n ∷ []) } in
    let stands = subst (λ (x : Processor). StandsFor pages c.take_reply.new.self (next c.reply_found.result x)) (same before) (c.take_reply.ensures.stands pages before state replies here) in
    subst (λ (a : Answer). HasMade setting set_up between (tie_turn setting p state replies a) p c.take_reply.new.self seen seen') (sym wants)
    (record {
      processor = next reply p;
      stands = subst (λ n. StandsFor pages c.take_reply.new.self (next n p)) c.reply_found.ensures stands;
      makes = inl (record { before = c.in-Made.before; success = c.in-Made.success; entry = entry; goes = refl });
    })

pub returns-in-Full-clause-turned : goal.returns-in-Full-clause-turned
returns-in-Full-clause-turned g c goes before state replies h =
    let setting = setting_of c.args.setting in
    let pages = c.args.setting.pages.now in
    let old = c.args.self.now in
    let p = in_mode old before in
    let reference = c.in-Wants.reference in
    let set_up = g.M.Memory.set_up c.args.memory.now in
    let between = g.M.Memory.between c.args.memory.now in
    let seen = g.M.Memory.seen c.args.memory.now in
    let seen' = g.M.Memory.seen c.access.new.self in
    let wants = wants_is _ reference (sym (c.interpret.ensures.answers state replies h) ∙ ap (λ (x : Came). step_with x c.interpret.new.after) c.in-Wants.is) in
    let same : (mode : Mode) → in_mode c.interpret.new.self mode ≡ in_mode old mode = c.interpret.ensures.same in
    let thread : c.interpret.new.self.thread ≡ old.thread = ap (λ (x : Processor). x.thread) (same before) in
    let retired : c.interpret.new.self.retired ≡ old.retired = ap (λ (x : Processor). x.retired) (same before) in
    let request : c.reference_request-request.result ≡ request_of old.thread old.retired reference =
    c.reference_request-request.ensures ∙ ap (λ t. request_of t c.interpret.new.self.retired reference) thread ∙ ap (λ r. request_of old.thread r reference) retired in
    subst (λ (a : Answer). HasMade setting set_up between (tie_turn setting p state replies a) p c.spend.new.self seen seen') (sym wants)
    (record {
      processor = spent p;
      stands = subst (λ (x : Processor). StandsFor pages c.spend.new.self (spent x)) (same before) (c.spend.ensures.stands pages before);
      makes = inr (record { over = subst (λ (r : Request). IsOver set_up between r seen seen') request c.in-Full.ensures.reply; goes = refl });
    })

pub returns-in-Leaves-clause-turned : goal.returns-in-Leaves-clause-turned
returns-in-Leaves-clause-turned g c goes before state replies h =
    let setting = setting_of c.args.setting in
    let pages = c.args.setting.pages.now in
    let old = c.args.self.now in
    let p = in_mode old before in
    let set_up = g.M.Memory.set_up c.args.memory.now in
    let between = g.M.Memory.between c.args.memory.now in
    let seen = g.M.Memory.seen c.args.memory.now in
    let last = last_with c.in-Leaves.ending c.interpret.new.after in
    let leaves = leaves_is setting p state replies _ last (sym (c.interpret.ensures.answers state replies h) ∙ ap (λ (x : Came). step_with x c.interpret.new.after) c.in-Leaves.is) in
    let counted : in_mode c.count_tie-in-Leaves.new.self before ≡ tied p = c.count_tie-in-Leaves.ensures.tied before ∙ ap tied (c.interpret.ensures.same before) in
    subst (λ (t : Turn). HasMade setting set_up between t p c.leave_by-in-Leaves.new.self seen seen) (sym leaves)
    (record {
      processor = left setting (tied p) (last_of last);
      stands = subst (λ (x : Processor). StandsFor pages c.leave_by-in-Leaves.new.self (left setting x (last_of last))) counted (c.leave_by-in-Leaves.ensures.stands before);
      makes = record { processor = refl; seen = refl };
    })

pub returns-then-ends_at_once-clause-turned : goal.returns-then-ends_at_once-clause-turned
returns-then-ends_at_once-clause-turned g c goes before state replies h =
    let setting = setting_of c.args.setting in
    let pages = c.args.setting.pages.now in
    let old = c.args.self.now in
    let p = in_mode old before in
    let set_up = g.M.Memory.set_up c.args.memory.now in
    let between = g.M.Memory.between c.args.memory.now in
    let seen = g.M.Memory.seen c.args.memory.now in
    let last = lasts.Finish c.ends_at_once.new.cursor.state in
    let comes = subst (λ (k : ProcessorValue). StepsBy pages k.thread k.boundary (instruction c.in-Some.instr.now) [] (steps.Leaves last)) c.self.view_is (c.ends_at_once.ensures c.if-ends_at_once.true) in
    let answers = at_once_answers pages old.thread old.boundary c.in-Some.instr.now (steps.Leaves last) comes state replies (c.in-Some.ensures.before state replies h) in
    let leaves = leaves_is setting p state replies _ last (sym answers) in
    subst (λ (t : Turn). HasMade setting set_up between t p c.leave_by.new.self seen seen) (sym leaves)
    (record {
      processor = left setting (tied p) (last_of last);
      stands = subst (λ (x : Processor). StandsFor pages c.leave_by.new.self (left setting x (last_of last))) (c.count_tie.ensures.tied before) (c.leave_by.ensures.stands before);
      makes = record { processor = refl; seen = refl };
    })

no_get : (waits : Bool) → false ≡ (waits && false)
no_get true = refl
no_get false = refl

pub returns-then-ends_at_once-clause-waits : goal.returns-then-ends_at_once-clause-waits
returns-then-ends_at_once-clause-waits g c before state replies h =
    let setting = setting_of c.args.setting in
    let old = c.args.self.now in
    let waits = c.args.waits in
    let last = lasts.Finish c.ends_at_once.new.cursor.state in
    let comes = subst (λ (k : ProcessorValue). StepsBy c.args.setting.pages.now k.thread k.boundary (instruction c.in-Some.instr.now) [] (steps.Leaves last)) c.self.view_is (c.ends_at_once.ensures c.if-ends_at_once.true) in
    let answers = at_once_answers c.args.setting.pages.now old.thread old.boundary c.in-Some.instr.now (steps.Leaves last) comes state replies (c.in-Some.ensures.before state replies h) in
    no_get waits ∙ sym (ap (λ (t : Turn). waits && asks_get t) (leaves_is setting (in_mode old before) state replies _ last (sym answers)))

pub returns-then-awaits-clause-still : goal.returns-then-awaits-clause-still
returns-then-awaits-clause-still g c waited p stands =
    let pages = c.args.setting.pages.now in
    let old = c.args.self.now in
    let new = c.interpret.new.self in
    let u = interpreting pages old.thread old.boundary old.mode p.mode c.requires.interprets stands.mode in
    let at : IsMode pages old.thread old.boundary old.mode (Interprets old.boundary u.replies) = subst (λ (m : Mode). IsMode pages old.thread old.boundary old.mode m) u.is stands.mode in
    let there = subst (λ (s : Step). IfWants s (IsMode pages old.thread old.boundary new.mode (Interprets old.boundary u.replies))) (ap (λ (x : Came). step_with x c.interpret.new.after) c.in-Wants.is) (c.interpret.ensures.stands old.boundary u.replies at) in
    stands_in pages old new p stands.same c.interpret.ensures.same (subst (λ (m : Mode). IsMode pages old.thread old.boundary new.mode m) (sym u.is) there)

pub returns-in-Made-clause-waits : goal.returns-in-Made-clause-waits
returns-in-Made-clause-waits g c before state replies h =
    let setting = setting_of c.args.setting in
    let p = in_mode c.args.self.now before in
    let waits = c.args.waits in
    let wants = wants_is _ c.in-Wants.reference (sym (c.interpret.ensures.answers state replies h) ∙ ap (λ (x : Came). step_with x c.interpret.new.after) c.in-Wants.is) in
    sym c.if-awaits.false ∙ c.awaits.ensures ∙ ap (λ (r : Request). waits && is_get r.kind) c.reference_request-request.ensures
    ∙ sym (ap (λ (a : Answer). waits && asks_get (tie_turn setting p state replies a)) wants)
