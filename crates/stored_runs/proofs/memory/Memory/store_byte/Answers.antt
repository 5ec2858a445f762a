use Rattle.std.proofs.Common.{◌-◌, refl, sym, ap, ◌∙◌, arith}
use Rattle.std.specs.Vec.{with_item}
use Rattle.stored_runs.specs.Memory.{byte_among}
use Rattle.stored_runs.proofs.Bytes.{starts_before, ends_behind, has_at_place, stored_in, stored_out}
use Rattle.stored_runs.proofs.memory.Memory.store_byte.Goals as goal

pub overflow_sub-address : goal.overflow_sub-address
overflow_sub-address c =
    let r = c.index_mut-region.result.now in
    starts_before c.args.address r (has_at_place c.args.self.now.regions.items c.args.address c.in-Some.place r (sym c.in-Some.ensures) c.index_mut-region.ensures.value)

pub index_mut-requires : goal.index_mut-requires
index_mut-requires c =
    let r = c.index_mut-region.result.now in
    let below = ends_behind c.args.address r (has_at_place c.args.self.now.regions.items c.args.address c.in-Some.place r (sym c.in-Some.ensures) c.index_mut-region.ensures.value) in
    omega (arith, r.bytes.ok.0, below)

pub returns-in-Some-clause-bytes : goal.returns-in-Some-clause-bytes
returns-in-Some-clause-bytes c =
    let r = c.index_mut-region.result.now in
    stored_in c.args.self.now.regions.items c.args.address c.in-Some.place c.args.value r
    (record { start = r.start; bytes = with_item r.bytes (c.args.address - r.start) c.args.value })
    (sym c.in-Some.ensures) c.index_mut-region.ensures.value refl refl

pub returns-in_ok-push-in-None-clause-bytes : goal.returns-in_ok-push-in-None-clause-bytes
returns-in_ok-push-in-None-clause-bytes c =
    ap byte_among c.in_ok-push-in-None.ensures.items
    ∙ stored_out c.args.self.now.regions.items c.args.address c.args.value (record { start = c.args.address; bytes = c.in_ok-from_slice-in-None.field-0 })
    (sym c.in-None.ensures) refl c.in_ok-from_slice-in-None.ensures.items
