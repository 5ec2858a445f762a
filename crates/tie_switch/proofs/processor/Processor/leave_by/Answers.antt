-- Each way to leave.
use Rattle.std.proofs.Common.{ℕ, suc, sym, subst}
use Rattle.system_model.specs.Processors.{Ended, Processor, all_held, left, mode_at, registers_of}
use Rattle.vax_driven.specs.declared.thread.End.TheVariants as ends
use Rattle.tie_switch.specs.Processors.{IsMode, StandsFor, in_mode}
use Rattle.tie_switch.specs.Seen as seen
use Rattle.tie_switch.specs.Seen.{setting_of}
use Rattle.tie_switch.specs.Interpreted.{last_with}
use Rattle.tie_switch.specs.declared.place.Ending.{Ending}
use Rattle.tie_switch.proofs.processor.Processor.leave_by.Goals as goal

pub returns-in-Finish-clause-stands : goal.returns-in-Finish-clause-stands
returns-in-Finish-clause-stands c mode =
    let pages = c.args.setting.pages.now in
    let setting = setting_of c.args.setting in
    let state = c.args.after.now in
    let old = c.args.self.now in
    let here = c.stand.ensures in
    let after = mode_at setting old.thread state (registers_of state) in
    let at = subst (λ (n : ℕ). IsMode pages n state c.stand.new.self.mode after) (sym here.thread) here.mode in
    let left_so : Processor → Processor = λ q. record q { mode = after; boundary = state; held = all_held; retired = suc q.retired } in
    subst (λ (e : Ending). StandsFor pages c.pass.new.self (left setting (in_mode old mode) (seen.last_of (last_with e c.args.after.now)))) (sym c.in-Finish.is)
    (subst (λ (q : Processor). StandsFor pages c.pass.new.self (left_so q)) (here.same mode) (c.pass.ensures.stands pages mode after at))

pub returns-in-Exit-clause-stands : goal.returns-in-Exit-clause-stands
returns-in-Exit-clause-stands c mode =
    let pages = c.args.setting.pages.now in
    subst (λ (e : Ending). StandsFor pages c.retire_and_end.new.self (left (setting_of c.args.setting) (in_mode c.args.self.now mode) (seen.last_of (last_with e c.args.after.now)))) (sym c.in-Exit.is)
    (subst (λ (v : ℕ). StandsFor pages c.retire_and_end.new.self (record (in_mode c.args.self.now mode) { mode = Ended (ends.Exit v); boundary = c.args.after.now; retired = suc c.args.self.now.retired })) c.register.ensures
    (c.retire_and_end.ensures.stands pages mode))

pub returns-in-Trap-clause-stands : goal.returns-in-Trap-clause-stands
returns-in-Trap-clause-stands c mode =
    let pages = c.args.setting.pages.now in
    subst (λ (e : Ending). StandsFor pages c.retire_and_end-in-Trap.new.self (left (setting_of c.args.setting) (in_mode c.args.self.now mode) (seen.last_of (last_with e c.args.after.now)))) (sym c.in-Trap.is)
    (c.retire_and_end-in-Trap.ensures.stands pages mode)

pub returns-in-Fault-clause-stands : goal.returns-in-Fault-clause-stands
returns-in-Fault-clause-stands c mode =
    let pages = c.args.setting.pages.now in
    subst (λ (e : Ending). StandsFor pages c.fail.new.self (left (setting_of c.args.setting) (in_mode c.args.self.now mode) (seen.last_of (last_with e c.args.after.now)))) (sym c.in-Fault.is)
    (c.fail.ensures.stands pages mode)
