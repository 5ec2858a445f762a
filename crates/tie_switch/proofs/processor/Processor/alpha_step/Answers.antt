-- A step of Alpha code is a turn of the model.
use Rattle.std.proofs.Common.{inl, inr, refl, sym, subst}
use Rattle.alpha_machine.specs.Step.{state_of}
use Rattle.system_model.specs.Legal.{spent}
use Rattle.system_model.specs.Processors.{alpha_turn, moment_of, placed, stepped}
use Rattle.system_model.specs.Steps as model
use Rattle.tie_switch.specs.Processors.{HasMade, in_mode}
use Rattle.tie_switch.specs.Seen.{place_behind, setting_of}
use Rattle.tie_switch.proofs.processor.Processor.alpha_step.Goals as goal

pub access-requires-clause-processor : goal.access-requires-clause-processor
access-requires-clause-processor g c = subst (g.M.Memory.serves c.args.memory.now) (sym c.in-Wants.ensures.can.processor) c.requires.serves

pub access-requires-clause-request : goal.access-requires-clause-request
access-requires-clause-request g c = c.in-Wants.ensures.can.can (g.M.Memory.set_up c.args.memory.now) c.requires.pages

pub returns-in-Made-clause-turned : goal.returns-in-Made-clause-turned
returns-in-Made-clause-turned g c goes mode =
    let setting = setting_of c.args.setting in
    let p = in_mode c.args.self.now mode in
    let moment = moment_of p in
    let cpu = state_of c.args.cpu in
    let place = place_behind setting moment cpu c.in-Wants.wanted c.in-Made.before c.in-Made.success in
    let set_up = g.M.Memory.set_up c.args.memory.now in
    let between = g.M.Memory.between c.args.memory.now in
    let old = g.M.Memory.seen c.args.memory.now in
    let new = g.M.Memory.seen c.access.new.self in
    subst (λ (n : model.Next). HasMade setting set_up between (alpha_turn setting p n) p c.go_behind.new.self old new) c.in-Wants.ensures.next
    (record {
      processor = placed setting (stepped p) place;
      stands = c.go_behind.ensures.stands mode;
      makes = inl (record { before = c.in-Made.before; success = c.in-Made.success; entry = c.in-Made.ensures.reply; goes = refl });
    })

pub returns-in-Full-clause-turned : goal.returns-in-Full-clause-turned
returns-in-Full-clause-turned g c goes mode =
    let setting = setting_of c.args.setting in
    let p = in_mode c.args.self.now mode in
    let set_up = g.M.Memory.set_up c.args.memory.now in
    let between = g.M.Memory.between c.args.memory.now in
    let old = g.M.Memory.seen c.args.memory.now in
    let new = g.M.Memory.seen c.access.new.self in
    subst (λ (n : model.Next). HasMade setting set_up between (alpha_turn setting p n) p c.spend.new.self old new) c.in-Wants.ensures.next
    (record {
      processor = spent p;
      stands = c.spend.ensures.stands c.args.setting.pages.now mode;
      makes = inr (record { over = c.in-Full.ensures.reply; goes = refl });
    })
