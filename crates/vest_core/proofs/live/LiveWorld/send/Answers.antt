-- The set-up goes on with a greater limit.
use Rattle.std.proofs.Common.{◌++◌, sym, ap, ◌∙◌, subst, arith}
use Rattle.memory_core.specs.Live.{LiveContents, unsent}
use Rattle.vest_core.specs.LiveViews.{live_world_of}
use Rattle.vest_core.specs.LiveWorlds.{IsAskedFor, IsLegalLive, IsMannedLive, LiveWorldValue, sent_of}
use Rattle.vest_core.proofs.LiveGoingOn.{asked_goes, legal_goes, sent_on, sent_run, with_memory}
use Rattle.vest_core.proofs.live.LiveWorld.send.Goals as goal

pub invariant_of-self : goal.invariant_of-self
invariant_of-self c =
    let old = live_world_of c.self.inside in
    let manned = c.self.invariant in
    subst (λ (m : LiveContents). IsMannedLive (with_memory old m)) (sym c.send.ensures.sent)
    (record {
      run = sent_run old.memory manned.run;
      serves = manned.serves;
      own = manned.own;
      spent = manned.spent;
      limit = tt;
      sent = omega arith;
    })

pub returns-clause-sent : goal.returns-clause-sent
returns-clause-sent c =
    let old = live_world_of c.self.inside in
    ap sent_of c.send.ensures.sent ∙ sent_on old.memory ∙ ap (λ (w : LiveWorldValue). sent_of w.memory ++ unsent w.memory) c.self.view_is

pub returns-clause-legal : goal.returns-clause-legal
returns-clause-legal c setting legal =
    let old = live_world_of c.self.inside in
    legal_goes c.legal_goes_on.ensures setting old c.self.invariant c.send.new.self (ap (λ (m : LiveContents). m.contents.history) c.send.ensures.sent) c.send.ensures.goes_on
    (subst (IsLegalLive setting) (sym c.self.view_is) legal)

pub returns-clause-asked : goal.returns-clause-asked
returns-clause-asked c setting was =
    let old = live_world_of c.self.inside in
    asked_goes c.legal_goes_on.ensures setting old c.self.invariant c.send.new.self (ap (λ (m : LiveContents). m.contents.history) c.send.ensures.sent) c.send.ensures.goes_on
    (ap (λ (m : LiveContents). m.contents.set_up.input) c.send.ensures.sent) (subst (IsAskedFor setting) (sym c.self.view_is) was)
