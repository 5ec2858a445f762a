use Rattle.std.proofs.Common.{◌-◌, sym, ◌∙◌, arith}
use Rattle.stored_runs.proofs.Bytes.{starts_before, ends_behind, byte_at_place, has_at_place, byte_nowhere, same_default}
use Rattle.stored_runs.proofs.memory.Memory.byte.Goals as goal

pub overflow_sub-address : goal.overflow_sub-address
overflow_sub-address c =
    let r = c.index-region.result.now in
    starts_before c.args.address r (has_at_place c.args.self.now.regions.items c.args.address c.in-Some.place r (sym c.in-Some.ensures) c.index-region.ensures)

pub index-requires : goal.index-requires
index-requires c =
    let r = c.index-region.result.now in
    let below = ends_behind c.args.address r (has_at_place c.args.self.now.regions.items c.args.address c.in-Some.place r (sym c.in-Some.ensures) c.index-region.ensures) in
    omega (arith, r.bytes.ok.0, below)

pub returns-in-Some : goal.returns-in-Some
returns-in-Some c =
    let r = c.index-region.result.now in
    let below = ends_behind c.args.address r (has_at_place c.args.self.now.regions.items c.args.address c.in-Some.place r (sym c.in-Some.ensures) c.index-region.ensures) in
    c.index.ensures ∙ same_default r.bytes.items (c.args.address - r.start) c.index.result.now below
    ∙ byte_at_place c.args.self.now.regions.items c.args.address c.in-Some.place r (sym c.in-Some.ensures) c.index-region.ensures

pub returns-in-None : goal.returns-in-None
returns-in-None c = byte_nowhere c.args.self.now.regions.items c.args.address (sym c.in-None.ensures)
