use Rattle.std.proofs.Common.{sym, ap, arith}
use Rattle.stored_runs.specs.Marks.{is_marked}
use Rattle.stored_runs.proofs.Marking.{starts_before, ends_behind, has_at_place, mark_there, mark_nowhere}
use Rattle.stored_runs.proofs.marks.Marks.is_marked.Goals as goal

pub overflow_sub-address : goal.overflow_sub-address
overflow_sub-address c =
    let r = c.index-range.result.now in
    starts_before c.args.address r (has_at_place c.args.self.now.ranges.items c.args.address c.in-Some.place r (sym c.in-Some.ensures) c.index-range.ensures)

pub index-requires : goal.index-requires
index-requires c =
    let r = c.index-range.result.now in
    let below = ends_behind c.args.address r (has_at_place c.args.self.now.ranges.items c.args.address c.in-Some.place r (sym c.in-Some.ensures) c.index-range.ensures) in
    omega (arith, r.marks.ok.0, below)

pub returns-in-Some : goal.returns-in-Some
returns-in-Some c =
    let r = c.index-range.result.now in
    sym (ap is_marked (mark_there c.args.self.now.ranges.items c.args.address c.in-Some.place r c.index.result.now c.index.result.now (sym c.in-Some.ensures) c.index-range.ensures c.index.ensures))

pub returns-in-None : goal.returns-in-None
returns-in-None c = sym (ap is_marked (mark_nowhere c.args.self.now.ranges.items c.args.address (sym c.in-None.ensures)))
