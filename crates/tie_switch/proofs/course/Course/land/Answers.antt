-- It lands there.
use Rattle.std.proofs.Common.{List, sym, ap, ◌∙◌, subst}
use Rattle.address_map.specs.Pairs.{Pair}
use Rattle.alpha_machine.specs.Step.{state_of}
use Rattle.prepared_code.specs.Effects.{behind}
use Rattle.exception_records.specs.Shown.{still_held}
use Rattle.image_meaning.specs.Meant.{codes_written}
use Rattle.system_model.specs.Ranges.{word_for}
use Rattle.vax_form.specs.declared.pages.Pages.{Pages}
use Rattle.tie_switch.specs.Courses.{boundary_by, HasOpcode}
use Rattle.tie_switch.specs.Settings.{image_setting}
use Rattle.tie_switch.proofs.Courses.{goes_there}
use Rattle.tie_switch.proofs.Stopping.{opcode_there, stuck, left_alpha}
use Rattle.tie_switch.proofs.course.Course.land.Goals as goal

pub returns-clause-lands : goal.returns-clause-lands
returns-clause-lands c = λ yes.
    let p = c.args.prepared.now in
    goes_there (image_setting p.pages p.code c.args.ranges.now) c.args.thread c.args.before.now c.args.self.now c.arrive.new.self p.pages
    (behind (state_of c.args.self.now.cpu) c.in-Some.landing.effect) c.in-Some.landing.block c.in-Some-word_for.word c.landings_are_turns.ensures c.requires.nothing
    c.in-Some.ensures.lands (sym (c.in-Some-word_for.ensures ∙ ap (λ (pairs : List Pair). word_for pairs c.args.ranges.now c.args.thread c.in-Some.landing.block.address) c.map.ensures))
    c.arrive.ensures.cpu c.arrive.ensures.landed
    (c.arrive.ensures.held
    ∙ c.held_behind-held.ensures
    ∙ ap (λ (pages : Pages). still_held c.args.self.now.held (codes_written pages (boundary_by c.args.before.now c.args.self.now.held c.args.self.now.landed).pc)) c.pages.ensures)
    c.arrive.ensures.retired

pub returns-clause-opcode : goal.returns-clause-opcode
returns-clause-opcode c =
    let p = c.args.prepared.now in
    let l = c.in-Some.landing in
    subst (HasOpcode p.pages) (sym c.arrive.ensures.landed)
    (opcode_there p (state_of c.args.self.now.cpu) (behind (state_of c.args.self.now.cpu) l.effect) l.block c.in-Some.ensures.lands)

pub returns-in_default-clause-stops : goal.returns-in_default-clause-stops
returns-in_default-clause-stops c = λ _.
    let p = c.args.prepared.now in
    stuck (image_setting p.pages p.code c.args.ranges.now) c.args.thread p.pages (state_of c.args.self.now.cpu) c.requires.inside c.in_default.ensures.lands

pub returns-in_default-word_for-clause-stops : goal.returns-in_default-word_for-clause-stops
returns-in_default-word_for-clause-stops c = λ _.
    let p = c.args.prepared.now in
    let l = c.in-Some.landing in
    left_alpha (image_setting p.pages p.code c.args.ranges.now) c.args.thread p.pages (state_of c.args.self.now.cpu) (behind (state_of c.args.self.now.cpu) l.effect) l.block c.in-Some.ensures.lands
    (sym (c.in_default-word_for.ensures ∙ ap (λ (pairs : List Pair). word_for pairs c.args.ranges.now c.args.thread l.block.address) c.map.ensures))
