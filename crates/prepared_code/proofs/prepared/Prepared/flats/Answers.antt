-- Those of the struct.
use Rattle.std.proofs.Common.{List, sym, subst}
use Rattle.address_map.specs.Pairs.{AllRise}
use Rattle.prepared_code.specs.Flats.{AreFlat}
use Rattle.prepared_code.specs.Known.{AreKnown}
use Rattle.prepared_code.specs.Sources.{Source, source_of}
use Rattle.prepared_code.specs.declared.flat.Flat.{Flat}
use Rattle.prepared_code.proofs.Known.{are_flat}
use Rattle.prepared_code.proofs.prepared.Prepared.flats.Goals as goal

pub returns-clause-flat : goal.returns-clause-flat
returns-clause-flat c =
    let p = c.self.inside in
    subst (λ (s : Source). AreFlat s.code c.deref.result.now) c.self.view_is
    (subst (λ (fs : List Flat). AreFlat (source_of p.words.now p.map.now p.points.now p.pages.now).code fs) (sym c.deref.ensures.value)
    (are_flat (source_of p.words.now p.map.now p.points.now p.pages.now).code p.ready.items p.flats.items c.self.invariant.words c.self.invariant.known))

pub returns-clause-known : goal.returns-clause-known
returns-clause-known c =
    let p = c.self.inside in
    subst (λ (s : Source). AreKnown s.code c.deref.result.now) c.self.view_is
    (subst (λ (fs : List Flat). AreKnown (source_of p.words.now p.map.now p.points.now p.pages.now).code fs) (sym c.deref.ensures.value) c.self.invariant.known)

pub returns-clause-rise : goal.returns-clause-rise
returns-clause-rise c = subst (λ (s : Source). AllRise s.code.map) c.self.view_is c.self.invariant.rise
