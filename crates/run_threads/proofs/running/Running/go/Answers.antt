use Rattle.std.proofs.Common.{◌≡◌, List, reverse, sym, ap, ◌∙◌, subst}
use Rattle.std.specs.Prelude.{map}
use denote.Param.Send.{sendable}
use Rattle.std.proofs.Crossing.{crosses}
use Rattle.shared_memory.proofs.Crossing.{memory_sync}
use Rattle.run_threads.proofs.Crossing.{job_send, program_field_sync}
use Rattle.image_file.specs.Values.{ImageValue}
use Rattle.image_meaning.specs.Meant.{codes_written}
use Rattle.image_meaning.specs.Permits.{any_permit}
use Rattle.image_meaning.proofs.Permits.{any_permit_allows_few}
use Rattle.memory_core.specs.Contents.{Contents}
use Rattle.memory_core.specs.declared.entry.Entry.{Entry}
use Rattle.shared_memory.specs.Passes.{set_up_of, seen_of}
use Rattle.system_model.specs.Legal.{IsLegal}
use Rattle.tie_switch.specs.Processors.{processor_of}
use Rattle.tie_switch.specs.Settings.{image_setting}
use Rattle.vax_form.specs.GrammarLaws.{AreBytes}
use Rattle.run_threads.specs.Programs.{CanRun}
use Rattle.run_threads.specs.Runs.{RunningValue}
use Rattle.run_threads.proofs.Closing.{all_ended, all_have, done_each, is_legal, runs_by_thread}
use Rattle.run_threads.proofs.running.Running.go.Goals as goal

pub run_all-requires-send-J : goal.run_all-requires-send-J
run_all-requires-send-J g c κs within = search (job_send, sendable) depth 20

pub run_all-requires-sync-T : goal.run_all-requires-sync-T
run_all-requires-sync-T g c κs within = search (memory_sync, program_field_sync, sendable, crosses) depth 40 fits 100000

pub run_all-requires-after_bounds : goal.run_all-requires-after_bounds
run_all-requires-after_bounds g c κs within =
    let image = c.args.image.now in
    let memory = c.self.inside.memory in
    let same : (set_up_of memory).image ≡ image = ap (λ (r : RunningValue). r.set_up.image) c.self.view_is ∙ c.requires.image in
    let can_run : CanRun (image_setting image.pages c.args.translation.now c.args.ranges.now) (set_up_of memory) = record {
      pages = sym (ap (λ (i : ImageValue). i.pages) same);
      sound = c.vax_meaning_is_sound.ensures image.pages (codes_written image.pages) (subst (λ (i : ImageValue). AreBytes i.pages.code) c.image.view_is c.page_table_has_bytes.ensures);
      permit = any_permit image.pages;
      few = any_permit_allows_few image.pages;
      meets = c.requires.meets;
      run = c.self.invariant.run;
    } in
    λ j d inside. ((record { code = c.requires.code; pages = c.requires.pages }), can_run, runs_by_thread memory c.self.inside.jobs.items c.self.invariant.split.ready j d inside)

pub join_all-requires-clause-passes : goal.join_all-requires-clause-passes
join_all-requires-clause-passes g c =
    let setting = image_setting c.args.image.now.pages c.args.translation.now c.args.ranges.now in
    all_have setting c.self.inside.memory c.self.inside.jobs.items c.in_ok-jobs.jobs.items c.self.invariant.split.ready c.in_ok-jobs.ensures

pub returns-clause-legal : goal.returns-clause-legal
returns-clause-legal g c =
    let setting = image_setting c.args.image.now.pages c.args.translation.now c.args.ranges.now in
    let memory = c.self.inside.memory in
    let before = c.self.inside.jobs.items in
    let jobs = c.in_ok-jobs.jobs.items in
    let ended = c.join_all.new.ended.items in
    let split = c.self.invariant.split in
    let image : (set_up_of memory).image ≡ c.args.image.now = ap (λ (r : RunningValue). r.set_up.image) c.self.view_is ∙ c.requires.image in
    let legal = is_legal c.others_keep_reached.ensures c.reached_are_legal.ensures setting memory c.self.inside.budget c.self.inside.keeper c.join_all.new.keeper
    before jobs ended c.close.result (sym (ap (λ i. i.pages) image)) split (c.in_ok-jobs.ensures.many) (done_each setting memory before jobs split.ready c.in_ok-jobs.ensures)
    c.join_all.ensures c.close.ensures in
    subst (λ (h : List Entry). IsLegal setting c.args.self.set_up c.args.self.budget (reverse h) (map processor_of ended)) (sym (ap (λ (m : Contents). m.history) c.close.ensures.is))
    (subst (λ (r : RunningValue). IsLegal setting r.set_up r.budget (reverse (seen_of c.join_all.new.keeper)) (map processor_of ended)) c.self.view_is legal)

pub returns-clause-ended : goal.returns-clause-ended
returns-clause-ended g c =
    let setting = image_setting c.args.image.now.pages c.args.translation.now c.args.ranges.now in
    let memory = c.self.inside.memory in
    let before = c.self.inside.jobs.items in
    let jobs = c.in_ok-jobs.jobs.items in
    let split = c.self.invariant.split in
    let image : (set_up_of memory).image ≡ c.args.image.now = ap (λ (r : RunningValue). r.set_up.image) c.self.view_is ∙ c.requires.image in
    all_ended c.others_keep_reached.ensures c.reached_are_legal.ensures setting memory c.self.inside.budget c.self.inside.keeper c.join_all.new.keeper
    before jobs c.join_all.new.ended.items c.close.result (sym (ap (λ i. i.pages) image)) split c.in_ok-jobs.ensures.many (done_each setting memory before jobs split.ready c.in_ok-jobs.ensures)
    c.join_all.ensures c.close.ensures
