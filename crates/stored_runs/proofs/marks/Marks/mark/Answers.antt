use Rattle.std.proofs.Common.{◌-◌, true, sym, refl, arith}
use Rattle.std.specs.Vec.{with_item}
use Rattle.stored_runs.proofs.Marking.{starts_before, ends_behind, has_at_place, marked_in, none_set}
use Rattle.stored_runs.proofs.marks.Marks.mark.Goals as goal

pub overflow_sub-address : goal.overflow_sub-address
overflow_sub-address c =
    let r = c.index_mut-range.result.now in
    starts_before c.args.address r (has_at_place c.args.self.now.ranges.items c.args.address c.in-Some.place r (sym c.in-Some.ensures) c.index_mut-range.ensures.value)

pub index_mut-requires : goal.index_mut-requires
index_mut-requires c =
    let r = c.index_mut-range.result.now in
    let below = ends_behind c.args.address r (has_at_place c.args.self.now.ranges.items c.args.address c.in-Some.place r (sym c.in-Some.ensures) c.index_mut-range.ensures.value) in
    omega (arith, r.marks.ok.0, below)

pub returns-in-Some : goal.returns-in-Some
returns-in-Some c =
    let r = c.index_mut-range.result.now in
    marked_in c.args.self.now.ranges.items c.args.address c.in-Some.place r
    (record { start = r.start; marks = with_item r.marks (c.args.address - r.start) true })
    (sym c.in-Some.ensures) c.index_mut-range.ensures.value refl refl

pub returns-in-None : goal.returns-in-None
returns-in-None c = none_set c.args.self.now.ranges.items c.args.address (sym c.in-None.ensures)
