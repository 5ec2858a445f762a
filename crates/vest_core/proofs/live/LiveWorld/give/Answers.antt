-- The set-up goes on with a byte more.
use Rattle.std.proofs.Common.{sym, ap, ◌∙◌, subst, arith}
use Rattle.memory_core.specs.Live.{LiveContents, wants_input}
use Rattle.vest_core.specs.LiveViews.{live_world_of}
use Rattle.vest_core.specs.LiveWorlds.{IsLegalLive, IsMannedLive, LiveWorldValue, NextAsks}
use Rattle.vest_core.proofs.LiveGoingOn.{byte_asked, given_run, legal_goes, with_memory}
use Rattle.vest_core.proofs.live.LiveWorld.give.Goals as goal

pub invariant_of-self : goal.invariant_of-self
invariant_of-self c =
    let old = live_world_of c.self.inside in
    let manned = c.self.invariant in
    subst (λ (m : LiveContents). IsMannedLive (with_memory old m)) (sym c.give.ensures.given)
    (record {
      run = given_run c.args.byte old.memory (omega arith) manned.run;
      serves = manned.serves;
      own = manned.own;
      spent = manned.spent;
      limit = manned.limit;
      sent = manned.sent;
    })

pub returns-clause-legal : goal.returns-clause-legal
returns-clause-legal c setting legal =
    let old = live_world_of c.self.inside in
    legal_goes c.legal_goes_on.ensures setting old c.self.invariant c.give.new.self (ap (λ (m : LiveContents). m.contents.history) c.give.ensures.given) c.give.ensures.goes_on
    (subst (IsLegalLive setting) (sym c.self.view_is) legal)

pub returns-clause-asked : goal.returns-clause-asked
returns-clause-asked c setting asks =
    let old = live_world_of c.self.inside in
    byte_asked c.legal_goes_on.ensures setting old c.self.invariant c.give.new.self (ap (λ (m : LiveContents). m.contents.history) c.give.ensures.given) c.give.ensures.goes_on c.args.byte
    (ap (λ (m : LiveContents). m.contents.set_up.input) c.give.ensures.given) (ap (λ (w : LiveWorldValue). wants_input w.memory.contents) c.self.view_is ∙ c.requires)
    (subst (NextAsks setting) (sym c.self.view_is) asks)
