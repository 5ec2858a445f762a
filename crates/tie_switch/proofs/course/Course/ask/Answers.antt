-- The access is the turn of its word.
use Rattle.std.proofs.Common.{refl, sym, ap, subst}
use Rattle.alpha_machine.specs.Step.{state_of}
use Rattle.memory_core.specs.declared.entry.Request.{Request}
use Rattle.system_model.specs.Processors.{moment_of}
use Rattle.tie_switch.specs.Courses.{course_of}
use Rattle.tie_switch.specs.Seen.{setting_of}
use Rattle.tie_switch.proofs.Asks.{is_access, is_aligned}
use Rattle.tie_switch.proofs.Along.{defined_at, made_reads, makes_access, makes_none, none_refused, refused_reads}
use Rattle.tie_switch.proofs.course.Course.ask.Goals as goal

pub request_by-request-requires-clause-access : goal.request_by-request-requires-clause-access
request_by-request-requires-clause-access g c = is_access c.args.prepared.now (state_of c.args.self.now.cpu) c.in-Some.asked c.in-Some.ensures.asks

pub request_by-request-requires-clause-defined : goal.request_by-request-requires-clause-defined
request_by-request-requires-clause-defined g c =
    defined_at (setting_of c.args.setting) c.args.prepared.now c.in-Some.asked (g.M.Memory.set_up c.args.memory.now) c.args.thread c.args.self.now c.requires.code c.in-Some.ensures.asks
    c.requires.has_step

pub access-requires-clause-processor : goal.access-requires-clause-processor
access-requires-clause-processor g c =
    let h = c.requires.has_step in
    let processor = c.request_by-request.ensures.request (moment_of (course_of c.args.thread h.before h.interpreted c.args.self.now h.steps)) refl refl in
    subst (λ r. g.M.Memory.serves c.args.memory.now r.processor) (sym processor) c.requires.serves

pub access-requires-clause-request : goal.access-requires-clause-request
access-requires-clause-request g c = c.request_by-request.ensures.can (g.M.Memory.set_up c.args.memory.now) c.requires.pages

pub finish-requires-clause-aligned : goal.finish-requires-clause-aligned
finish-requires-clause-aligned g c =
    is_aligned (setting_of c.args.setting) c.in-Some.asked.access
    (defined_at (setting_of c.args.setting) c.args.prepared.now c.in-Some.asked (g.M.Memory.set_up c.args.memory.now) c.args.thread c.args.self.now c.requires.code c.in-Some.ensures.asks
    c.requires.has_step)

pub returns-in-Made-clause-made : goal.returns-in-Made-clause-made
returns-in-Made-clause-made g c = λ went before interpreted steps.
    let setting = setting_of c.args.setting in
    let first = c.args.memory.now in
    let set_up = g.M.Memory.set_up first in
    let defined = defined_at setting c.args.prepared.now c.in-Some.asked set_up c.args.thread c.args.self.now c.requires.code c.in-Some.ensures.asks c.requires.has_step in
    makes_access setting c.args.prepared.now c.in-Some.asked set_up (g.M.Memory.between first) c.args.thread before interpreted steps c.args.self.now c.finish.new.cpu c.request_by-request.result
    c.in-Made.before c.in-Made.success (g.M.Memory.seen first) (g.M.Memory.seen c.access.new.self) c.requires.code c.in-Some.ensures.asks defined
    (c.request_by-request.ensures.request (moment_of (course_of c.args.thread before interpreted c.args.self.now steps)) refl refl) c.in-Made.ensures.reply c.finish.ensures

pub returns-in-Full-clause-full : goal.returns-in-Full-clause-full
returns-in-Full-clause-full g c = λ ended before interpreted steps.
    let setting = setting_of c.args.setting in
    let first = c.args.memory.now in
    let set_up = g.M.Memory.set_up first in
    let defined = defined_at setting c.args.prepared.now c.in-Some.asked set_up c.args.thread c.args.self.now c.requires.code c.in-Some.ensures.asks c.requires.has_step in
    makes_none setting c.args.prepared.now c.in-Some.asked set_up (g.M.Memory.between first) c.args.thread before interpreted steps c.args.self.now c.request_by-request.result
    (g.M.Memory.seen first) (g.M.Memory.seen c.access.new.self) c.requires.code c.in-Some.ensures.asks defined
    (c.request_by-request.ensures.request (moment_of (course_of c.args.thread before interpreted c.args.self.now steps)) refl refl) c.in-Full.ensures.reply

pub returns-in-Made-clause-read : goal.returns-in-Made-clause-read
returns-in-Made-clause-read g c =
    let first = c.args.memory.now in
    let h = c.requires.has_step in
    let request = c.request_by-request.ensures.request (moment_of (course_of c.args.thread h.before h.interpreted c.args.self.now h.steps)) refl refl in
    made_reads (g.M.Memory.set_up first) (g.M.Memory.between first) c.request_by-request.result ((c.in-Some.asked).access).kind c.in-Made.before c.in-Made.success (g.M.Memory.seen first)
    (g.M.Memory.seen c.access.new.self) (ap (λ (r : Request). r.kind) request) c.in-Made.ensures.reply

pub returns-in-Full-clause-read : goal.returns-in-Full-clause-read
returns-in-Full-clause-read g c =
    let first = c.args.memory.now in
    refused_reads (g.M.Memory.set_up first) (g.M.Memory.between first) c.request_by-request.result (g.M.Memory.seen first) (g.M.Memory.seen c.access.new.self) c.in-Full.ensures.reply

pub returns-in-Full-clause-allowed : goal.returns-in-Full-clause-allowed
returns-in-Full-clause-allowed g c puts =
    let first = c.args.memory.now in
    let h = c.requires.has_step in
    let request = c.request_by-request.ensures.request (moment_of (course_of c.args.thread h.before h.interpreted c.args.self.now h.steps)) refl refl in
    absurd (none_refused (g.M.Memory.set_up first) (g.M.Memory.between first) c.request_by-request.result ((c.in-Some.asked).access).kind (g.M.Memory.seen first) (g.M.Memory.seen c.access.new.self)
    (ap (λ (r : Request). r.kind) request) puts c.in-Full.ensures.reply)
