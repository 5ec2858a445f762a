use Rattle.std.proofs.Common.{ℕ, reverse, slice_set, sym, ap, ◌∙◌, subst}
use Rattle.std.proofs.lemmas.List.{length-set}
use Rattle.image_file.specs.Values.{ImageValue}
use Rattle.image_meaning.specs.Permits.{any_permit}
use Rattle.image_meaning.proofs.Permits.{any_permit_allows_few}
use Rattle.legal_history.specs.Law.{IsRun}
use Rattle.tie_switch.specs.Settings.{image_setting}
use Rattle.vest_core.specs.Views.{world_of}
use Rattle.vest_core.specs.Worlds.{IsLegalWorld, IsPicked, WorldValue}
use Rattle.vest_core.proofs.Turns.{each_own, has_step, image_is_sound, is_picked, same_processors, stands_at, turned_is_legal}
use Rattle.vest_core.proofs.world.World.pick.Goals as goal

pub turn-requires-clause-has_step : goal.turn-requires-clause-has_step
turn-requires-clause-has_step c =
    let setting = image_setting c.args.image.now.pages c.args.translation.now c.args.ranges.now in
    let permit = any_permit c.args.image.now.pages in
    let few = any_permit_allows_few c.args.image.now.pages in
    let sound = image_is_sound c.vax_meaning_is_sound.ensures c.args.image.now c.image.inside.pages (ap (λ (i : ImageValue). i.pages) c.image.view_is) c.page_table_has_bytes.ensures in
    let old = world_of c.self.inside in
    let legal = subst (IsLegalWorld setting) (sym c.self.view_is) c.requires.legal in
    let k = c.index_mut-picked.result.now in
    let at = stands_at old c.args.self.now c.from.result c.args.processor k c.self.view_is c.from.ensures c.requires.there c.index_mut-picked.ensures.value in
    has_step c.reached_is_steady.ensures c.turns_stay_legal.ensures setting permit sound few c.requires.meets old c.self.invariant.run legal c.from.result k at

pub invariant_of-self : goal.invariant_of-self
invariant_of-self c =
    let old = world_of c.self.inside in
    let k = c.index_mut-picked.result.now in
    let at = stands_at old c.args.self.now c.from.result c.args.processor k c.self.view_is c.from.ensures c.requires.there c.index_mut-picked.ensures.value in
    record {
      run = subst IsRun (sym c.turn.ensures.set_up) c.self.invariant.run;
      serves = length-set old.processors c.from.result c.turn.new.self ∙ c.self.invariant.serves ∙ same_processors c.turn.new.memory c.self.inside.memory c.turn.ensures.place;
      each = each_own old.processors c.from.result old.budget k c.turn.new.self c.self.invariant.each at c.turn.ensures.thread c.turn.ensures.budget;
    }

pub returns-clause-picked : goal.returns-clause-picked
returns-clause-picked c =
    let setting = image_setting c.args.image.now.pages c.args.translation.now c.args.ranges.now in
    let permit = any_permit c.args.image.now.pages in
    let few = any_permit_allows_few c.args.image.now.pages in
    let sound = image_is_sound c.vax_meaning_is_sound.ensures c.args.image.now c.image.inside.pages (ap (λ (i : ImageValue). i.pages) c.image.view_is) c.page_table_has_bytes.ensures in
    let old = world_of c.self.inside in
    let new : WorldValue = record { memory = c.turn.new.memory; processors = slice_set old.processors c.from.result c.turn.new.self; budget = old.budget } in
    let legal = subst (IsLegalWorld setting) (sym c.self.view_is) c.requires.legal in
    let k = c.index_mut-picked.result.now in
    let at = stands_at old c.args.self.now c.from.result c.args.processor k c.self.view_is c.from.ensures c.requires.there c.index_mut-picked.ensures.value in
    let within = (c.self.invariant.each c.from.result k at).budget in
    let picked : IsPicked setting c.from.result c.turn.result old new =
    is_picked c.reached_is_steady.ensures c.turns_stay_legal.ensures setting permit sound few c.requires.meets old c.self.invariant.run legal c.from.result k at
    c.turn.new.memory c.turn.new.self c.turn.ensures.set_up within c.turn.ensures.turned c.turn.result c.turn.ensures.ended c.turn.ensures.steps in
    subst (λ (w : WorldValue). IsPicked setting c.args.processor c.turn.result w new) c.self.view_is
    (subst (λ (n : ℕ). IsPicked setting n c.turn.result old new) c.from.ensures picked)

pub returns-clause-legal : goal.returns-clause-legal
returns-clause-legal c =
    let setting = image_setting c.args.image.now.pages c.args.translation.now c.args.ranges.now in
    let permit = any_permit c.args.image.now.pages in
    let few = any_permit_allows_few c.args.image.now.pages in
    let sound = image_is_sound c.vax_meaning_is_sound.ensures c.args.image.now c.image.inside.pages (ap (λ (i : ImageValue). i.pages) c.image.view_is) c.page_table_has_bytes.ensures in
    let old = world_of c.self.inside in
    let legal = subst (IsLegalWorld setting) (sym c.self.view_is) c.requires.legal in
    let k = c.index_mut-picked.result.now in
    let at = stands_at old c.args.self.now c.from.result c.args.processor k c.self.view_is c.from.ensures c.requires.there c.index_mut-picked.ensures.value in
    let within = (c.self.invariant.each c.from.result k at).budget in
    turned_is_legal c.reached_is_steady.ensures c.turns_stay_legal.ensures setting permit sound few c.requires.meets old c.self.invariant.run legal c.from.result k at
    c.turn.new.memory c.turn.new.self c.turn.ensures.set_up within c.turn.ensures.turned

pub returns-clause-headline : goal.returns-clause-headline
returns-clause-headline c = λ permit few meets legal.
    let setting = image_setting c.args.image.now.pages c.args.translation.now c.args.ranges.now in
    let sound = image_is_sound c.vax_meaning_is_sound.ensures c.args.image.now c.image.inside.pages (ap (λ (i : ImageValue). i.pages) c.image.view_is) c.page_table_has_bytes.ensures in
    c.legal_has_headline.ensures setting permit c.turn.new.memory.set_up c.self.inside.budget (reverse c.turn.new.memory.history) legal.processors sound few meets
    (subst IsRun (sym c.turn.ensures.set_up) c.self.invariant.run) legal.legal
