-- A word of which no local step is made leads to no block.
use Rattle.std.proofs.Common.{ap, arith, option_and_then, option_map}
use Rattle.alpha_meaning.specs.State.{Alpha}
use Rattle.prepared_code.proofs.Flats.{way_there}
use Rattle.prepared_code.proofs.Stops.{goes_on_there, stops_nowhere, stops_there}
use Rattle.prepared_code.specs.Inside.{landed}
use Rattle.prepared_code.specs.Sources.{block_at}
use Rattle.prepared_code.specs.declared.flat.Way.TheVariants.{Stops}
use Rattle.prepared_code.proofs.prepared.Prepared.stops_at.Goals as goal

pub returns-in-Stops-clause-just : goal.returns-in-Stops-clause-just
returns-in-Stops-clause-just c =
    let found = c.in-Some.ensures.lookup.3 in
    let flat = c.in-Some.flat.now in
    stops_there c.args.self.now.code c.flats.result.now c.args.cpu.now.pc flat c.flats.ensures.known found.0 (found.1 flat) c.in-Stops.is

pub returns-in-Stops-clause-none : goal.returns-in-Stops-clause-none
returns-in-Stops-clause-none c = λ _.
    let p = c.args.self.now in
    let found = c.in-Some.ensures.lookup.3 in
    ap (option_and_then (λ (d : Alpha). option_map (landed d) (block_at p d.pc)))
    ((way_there p.code c.flats.result.now c.args.cpu.now.pc c.in-Some.flat.now Stops c.flats.ensures.flat found.0 (found.1 c.in-Some.flat.now) c.in-Stops.is).none c.args.cpu.now.r)

pub returns-in_default-clause-just : goal.returns-in_default-clause-just
returns-in_default-clause-just c =
    let found = c.in-Some.ensures.lookup.3 in
    let flat = c.in-Some.flat.now in
    goes_on_there c.args.self.now.code c.flats.result.now c.args.cpu.now.pc flat c.flats.ensures.known found.0 (found.1 flat) c.in_default.not-Stops

pub returns-in-None-clause-just : goal.returns-in-None-clause-just
returns-in-None-clause-just c = stops_nowhere c.args.self.now.code c.args.cpu.now.pc (omega (arith, c.flats.ensures.known.counted, c.in-None.ensures.lookup.3))
