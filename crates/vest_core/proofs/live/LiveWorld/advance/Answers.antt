-- The turns of its processor keep a live world legal.
use Rattle.std.proofs.Common.{ℕ, ◌∷◌, [], reverse, refl, sym, ap, ◌∙◌, subst}
use Rattle.image_file.specs.Values.{ImageValue}
use Rattle.image_meaning.specs.Permits.{any_permit}
use Rattle.image_meaning.proofs.Permits.{any_permit_allows_few}
use Rattle.legal_history.specs.Law.{IsRun}
use Rattle.memory_core.specs.Limits.{CountsPuts}
use Rattle.memory_core.specs.declared.entry.SetUp.{SetUp}
use Rattle.tie_switch.specs.Live.{AreNone}
use Rattle.tie_switch.specs.Processors.{HasAdvanced, StandsFor}
use Rattle.tie_switch.specs.Settings.{image_setting}
use Rattle.vest_core.specs.LiveViews.{live_world_of}
use Rattle.vest_core.specs.LiveWorlds.{IsAskedFor, IsLegalLive, LiveWorldValue, sent_of}
use Rattle.vest_core.proofs.LiveTurns.{as_legal, as_world, asked_behind, asks_behind, few_sent, legal_behind, sent_behind, spent_behind, unmade_behind}
use Rattle.vest_core.proofs.Turns.{has_steps, image_is_sound}
use Rattle.vest_core.proofs.live.LiveWorld.advance.Goals as goal

pub advance_live-requires-clause-has_steps : goal.advance_live-requires-clause-has_steps
advance_live-requires-clause-has_steps c =
    let setting = image_setting c.args.image.now.pages c.args.translation.now c.args.ranges.now in
    let permit = any_permit c.args.image.now.pages in
    let few = any_permit_allows_few c.args.image.now.pages in
    let sound = image_is_sound c.vax_meaning_is_sound.ensures c.args.image.now c.image.inside.pages (ap (λ (i : ImageValue). i.pages) c.image.view_is) c.page_table_has_bytes.ensures in
    let old = live_world_of c.self.inside in
    let legal = subst (IsLegalLive setting) (sym c.self.view_is) c.requires.legal in
    has_steps c.reached_is_steady.ensures c.turns_stay_legal.ensures setting permit sound few c.requires.meets (as_world old) c.self.invariant.run (as_legal setting old legal) 0 old.processor refl
    AreNone (λ entries none. none) (c.self.invariant.own).budget c.args.most

pub invariant_of-self : goal.invariant_of-self
invariant_of-self c =
    let setting = image_setting c.args.image.now.pages c.args.translation.now c.args.ranges.now in
    let old = live_world_of c.self.inside in
    let legal = subst (IsLegalLive setting) (sym c.self.view_is) c.requires.legal in
    let manned = c.self.invariant in
    let e = c.advance_live.ensures in
    record {
      run = subst IsRun (sym (e.memory).set_up) manned.run;
      serves = (e.memory).processors ∙ manned.serves;
      own = record { thread = e.thread ∙ (manned.own).thread; budget = e.budget ∙ (manned.own).budget };
      spent = spent_behind setting old manned c.advance_live.new.memory c.advance_live.new.self c.advance_live.result.0 e.memory e.turned legal e.budget e.spent;
      limit = subst (λ (u : SetUp). CountsPuts u.limit) (sym (e.memory).set_up) manned.limit;
      sent = few_sent setting old manned c.advance_live.new.memory c.advance_live.new.self c.advance_live.result.0 e.memory e.turned legal;
    }

pub returns-clause-sent : goal.returns-clause-sent
returns-clause-sent c =
    let setting = image_setting c.args.image.now.pages c.args.translation.now c.args.ranges.now in
    let old = live_world_of c.self.inside in
    let legal = subst (IsLegalLive setting) (sym c.self.view_is) c.requires.legal in
    let e = c.advance_live.ensures in
    sent_behind setting old c.self.invariant c.advance_live.new.memory c.advance_live.new.self c.advance_live.result.0 e.memory e.turned legal
    ∙ ap (λ (w : LiveWorldValue). sent_of w.memory) c.self.view_is

pub returns-clause-unmade : goal.returns-clause-unmade
returns-clause-unmade c none =
    let setting = image_setting c.args.image.now.pages c.args.translation.now c.args.ranges.now in
    let old = live_world_of c.self.inside in
    let legal = subst (IsLegalLive setting) (sym c.self.view_is) c.requires.legal in
    let e = c.advance_live.ensures in
    unmade_behind setting old c.self.invariant c.advance_live.new.memory c.advance_live.new.self c.advance_live.result.0 e.memory e.turned legal none
    ∙ ap (λ (w : LiveWorldValue). w.memory) c.self.view_is

pub returns-clause-legal : goal.returns-clause-legal
returns-clause-legal c =
    let setting = image_setting c.args.image.now.pages c.args.translation.now c.args.ranges.now in
    let old = live_world_of c.self.inside in
    let legal = subst (IsLegalLive setting) (sym c.self.view_is) c.requires.legal in
    let e = c.advance_live.ensures in
    legal_behind setting old c.self.invariant c.advance_live.new.memory c.advance_live.new.self c.advance_live.result.0 e.memory e.turned c.turns_stay_legal.ensures legal

pub returns-clause-headline : goal.returns-clause-headline
returns-clause-headline c = λ permit few meets legal.
    let setting = image_setting c.args.image.now.pages c.args.translation.now c.args.ranges.now in
    let sound = image_is_sound c.vax_meaning_is_sound.ensures c.args.image.now c.image.inside.pages (ap (λ (i : ImageValue). i.pages) c.image.view_is) c.page_table_has_bytes.ensures in
    let memory = c.advance_live.new.memory in
    c.legal_has_headline.ensures setting permit memory.contents.set_up c.self.inside.budget (reverse memory.contents.history) (legal.processor ∷ []) sound few meets
    (subst IsRun (sym (c.advance_live.ensures.memory).set_up) c.self.invariant.run) legal.legal

pub returns-clause-turned : goal.returns-clause-turned
returns-clause-turned c p stands =
    let setting = image_setting c.args.image.now.pages c.args.translation.now c.args.ranges.now in
    let e = c.advance_live.ensures in
    let memory = c.advance_live.new.memory in
    subst (λ (w : LiveWorldValue). StandsFor setting.meaning.pages w.processor p
    → HasAdvanced setting w.memory.contents.set_up AreNone w.budget p c.advance_live.result.0 c.advance_live.new.self w.memory.contents.history memory.contents.history) c.self.view_is
    (λ was. subst (λ (b : ℕ). HasAdvanced setting c.self.inside.memory.contents.set_up AreNone b p c.advance_live.result.0 c.advance_live.new.self c.self.inside.memory.contents.history memory.contents.history)
    (c.self.invariant.own).budget (e.turned p was))
    stands

pub returns-clause-asks : goal.returns-clause-asks
returns-clause-asks c waits =
    let setting = image_setting c.args.image.now.pages c.args.translation.now c.args.ranges.now in
    let old = live_world_of c.self.inside in
    let legal = subst (IsLegalLive setting) (sym c.self.view_is) c.requires.legal in
    let e = c.advance_live.ensures in
    asks_behind setting old c.self.invariant c.advance_live.new.memory c.advance_live.new.self c.advance_live.result.0 e.memory e.turned c.turns_stay_legal.ensures legal
    (e.asks waits legal.processor legal.stands)

pub returns-clause-asked : goal.returns-clause-asked
returns-clause-asked c was =
    let setting = image_setting c.args.image.now.pages c.args.translation.now c.args.ranges.now in
    let old = live_world_of c.self.inside in
    let legal = subst (IsLegalLive setting) (sym c.self.view_is) c.requires.legal in
    let e = c.advance_live.ensures in
    asked_behind setting old c.self.invariant c.advance_live.new.memory c.advance_live.new.self c.advance_live.result.0 e.memory e.turned c.turns_stay_legal.ensures legal
    (subst (IsAskedFor setting) (sym c.self.view_is) was)

pub returns-clause-spent : goal.returns-clause-spent
returns-clause-spent c =
    let setting = image_setting c.args.image.now.pages c.args.translation.now c.args.ranges.now in
    let old = live_world_of c.self.inside in
    let legal = subst (IsLegalLive setting) (sym c.self.view_is) c.requires.legal in
    let e = c.advance_live.ensures in
    spent_behind setting old c.self.invariant c.advance_live.new.memory c.advance_live.new.self c.advance_live.result.0 e.memory e.turned legal e.budget e.spent
