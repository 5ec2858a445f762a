use Rattle.std.proofs.Common.{ℕ, reverse, slice_set, sym, ap, ◌∙◌, subst}
use Rattle.std.proofs.lemmas.List.{length-set}
use Rattle.image_file.specs.Values.{ImageValue}
use Rattle.image_meaning.specs.Permits.{any_permit}
use Rattle.image_meaning.proofs.Permits.{any_permit_allows_few}
use Rattle.legal_history.specs.Law.{IsRun}
use Rattle.tie_switch.specs.Settings.{image_setting}
use Rattle.vest_core.specs.Views.{world_of}
use Rattle.vest_core.specs.Worlds.{IsAdvanced, IsLegalWorld, WorldValue}
use Rattle.vest_core.proofs.Turns.{advanced_is_legal, each_own, has_steps, image_is_sound, is_advanced, served_behind, stands_at}
use Rattle.vest_core.proofs.world.World.advance.Goals as goal

pub advance-requires-clause-has_steps : goal.advance-requires-clause-has_steps
advance-requires-clause-has_steps c =
    let setting = image_setting c.args.image.now.pages c.args.translation.now c.args.ranges.now in
    let permit = any_permit c.args.image.now.pages in
    let few = any_permit_allows_few c.args.image.now.pages in
    let sound = image_is_sound c.vax_meaning_is_sound.ensures c.args.image.now c.image.inside.pages (ap (λ (i : ImageValue). i.pages) c.image.view_is) c.page_table_has_bytes.ensures in
    let old = world_of c.self.inside in
    let legal = subst (IsLegalWorld setting) (sym c.self.view_is) c.requires.legal in
    let k = c.index_mut-advanced.result.now in
    let at = stands_at old c.args.self.now c.from.result c.args.processor k c.self.view_is c.from.ensures c.requires.there c.index_mut-advanced.ensures.value in
    let within = (c.self.invariant.each c.from.result k at).budget in
    has_steps c.reached_is_steady.ensures c.turns_stay_legal.ensures setting permit sound few c.requires.meets old c.self.invariant.run legal c.from.result k at _ (λ entries come. come.comes) within c.args.most

pub invariant_of-self : goal.invariant_of-self
invariant_of-self c =
    let old = world_of c.self.inside in
    let k = c.index_mut-advanced.result.now in
    let at = stands_at old c.args.self.now c.from.result c.args.processor k c.self.view_is c.from.ensures c.requires.there c.index_mut-advanced.ensures.value in
    record {
      run = subst IsRun (sym c.advance.ensures.set_up) c.self.invariant.run;
      serves = length-set old.processors c.from.result c.advance.new.self ∙ c.self.invariant.serves ∙ served_behind c.advance.new.memory c.self.inside.memory c.advance.ensures.place;
      each = each_own old.processors c.from.result old.budget k c.advance.new.self c.self.invariant.each at c.advance.ensures.thread c.advance.ensures.budget;
    }

pub returns-clause-advanced : goal.returns-clause-advanced
returns-clause-advanced c =
    let setting = image_setting c.args.image.now.pages c.args.translation.now c.args.ranges.now in
    let permit = any_permit c.args.image.now.pages in
    let few = any_permit_allows_few c.args.image.now.pages in
    let sound = image_is_sound c.vax_meaning_is_sound.ensures c.args.image.now c.image.inside.pages (ap (λ (i : ImageValue). i.pages) c.image.view_is) c.page_table_has_bytes.ensures in
    let old = world_of c.self.inside in
    let new : WorldValue = record { memory = c.advance.new.memory; processors = slice_set old.processors c.from.result c.advance.new.self; budget = old.budget } in
    let legal = subst (IsLegalWorld setting) (sym c.self.view_is) c.requires.legal in
    let k = c.index_mut-advanced.result.now in
    let at = stands_at old c.args.self.now c.from.result c.args.processor k c.self.view_is c.from.ensures c.requires.there c.index_mut-advanced.ensures.value in
    let within = (c.self.invariant.each c.from.result k at).budget in
    let advanced : IsAdvanced setting c.from.result c.args.most c.advance.result old new =
    is_advanced c.reached_is_steady.ensures c.turns_stay_legal.ensures setting permit sound few c.requires.meets old c.self.invariant.run legal c.from.result k at
    c.advance.new.memory c.advance.new.self c.advance.result c.advance.ensures.set_up within _ (λ entries come. come.comes) c.advance.ensures.turned
    c.args.most c.advance.ensures.all c.advance.ensures.steps in
    subst (λ (w : WorldValue). IsAdvanced setting c.args.processor c.args.most c.advance.result w new) c.self.view_is
    (subst (λ (n : ℕ). IsAdvanced setting n c.args.most c.advance.result old new) c.from.ensures advanced)

pub returns-clause-legal : goal.returns-clause-legal
returns-clause-legal c =
    let setting = image_setting c.args.image.now.pages c.args.translation.now c.args.ranges.now in
    let permit = any_permit c.args.image.now.pages in
    let few = any_permit_allows_few c.args.image.now.pages in
    let sound = image_is_sound c.vax_meaning_is_sound.ensures c.args.image.now c.image.inside.pages (ap (λ (i : ImageValue). i.pages) c.image.view_is) c.page_table_has_bytes.ensures in
    let old = world_of c.self.inside in
    let legal = subst (IsLegalWorld setting) (sym c.self.view_is) c.requires.legal in
    let k = c.index_mut-advanced.result.now in
    let at = stands_at old c.args.self.now c.from.result c.args.processor k c.self.view_is c.from.ensures c.requires.there c.index_mut-advanced.ensures.value in
    let within = (c.self.invariant.each c.from.result k at).budget in
    advanced_is_legal c.reached_is_steady.ensures c.turns_stay_legal.ensures setting permit sound few c.requires.meets old c.self.invariant.run legal c.from.result k at
    c.advance.new.memory c.advance.new.self c.advance.result c.advance.ensures.set_up within _ (λ entries come. come.comes) c.advance.ensures.turned

pub returns-clause-headline : goal.returns-clause-headline
returns-clause-headline c = λ permit few meets legal.
    let setting = image_setting c.args.image.now.pages c.args.translation.now c.args.ranges.now in
    let sound = image_is_sound c.vax_meaning_is_sound.ensures c.args.image.now c.image.inside.pages (ap (λ (i : ImageValue). i.pages) c.image.view_is) c.page_table_has_bytes.ensures in
    c.legal_has_headline.ensures setting permit c.advance.new.memory.set_up c.self.inside.budget (reverse c.advance.new.memory.history) legal.processors sound few meets
    (subst IsRun (sym c.advance.ensures.set_up) c.self.invariant.run) legal.legal
