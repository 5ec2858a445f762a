use Rattle.std.proofs.Common.{◌≡◌, ◌∙◌, ap, sym, arith, Some, None}
use Rattle.std.proofs.lemmas.Grind.{get_or_default_zero}
use Rattle.memory_core.specs.Held.{Holding}
use Rattle.memory_core.specs.Contents.{quad_left}
use Rattle.memory_core.specs.Places.{quad_place}
use Rattle.memory_core.specs.Sound.{set_up_of}
use Rattle.memory_core.proofs.Reading.{none_left, within, some_left}
use Rattle.memory_core.proofs.held.Held.quad.Goals as goal

pub returns-in_err-place : goal.returns-in_err-place
returns-in_err-place c =
    let m = c.self.inside in
    let i = c.self.invariant in
    let place : quad_place m.index c.args.address ≡ None = sym c.quad_place.ensures ∙ c.in_err-place.was in
    c.from_residual.ensures ∙ none_left (set_up_of m) m.history.entries m.index m.quads.items i.index i.quads c.args.address place
    ∙ ap (λ (v : Holding). quad_left v.contents.set_up v.contents.history c.args.address) c.self.view_is

pub index-requires : goal.index-requires
index-requires c =
    let m = c.self.inside in
    let i = c.self.invariant in
    let place : quad_place m.index c.args.address ≡ Some c.in_ok-place.place = sym c.quad_place.ensures ∙ c.in_ok-place.was in
    let inside = within (set_up_of m) m.history.entries m.index m.quads.items i.index i.quads c.args.address c.in_ok-place.place place in
    omega arith

pub returns : goal.returns
returns c =
    let m = c.self.inside in
    let i = c.self.invariant in
    let place : quad_place m.index c.args.address ≡ Some c.in_ok-place.place = sym c.quad_place.ensures ∙ c.in_ok-place.was in
    let inside = within (set_up_of m) m.history.entries m.index m.quads.items i.index i.quads c.args.address c.in_ok-place.place place in
    ap (λ v. Some v) (c.index.ensures ∙ get_or_default_zero m.quads.items c.in_ok-place.place c.index.result.now inside)
    ∙ some_left (set_up_of m) m.history.entries m.index m.quads.items i.index i.quads c.args.address c.in_ok-place.place place
    ∙ ap (λ (v : Holding). quad_left v.contents.set_up v.contents.history c.args.address) c.self.view_is
