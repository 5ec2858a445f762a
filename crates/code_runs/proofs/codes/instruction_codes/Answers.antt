use Rattle.std.proofs.Common.{◌≡◌, length, arith, ap}
use Rattle.code_runs.proofs.Along.{are_codes, made_more, made_whole}
use Rattle.code_runs.proofs.codes.instruction_codes.Goals as goal

pub loop-place-preserved : goal.loop-place-preserved
loop-place-preserved c =
    let grown = rw (← c.in_ok-map_err.ensures.variant) at c.push.ensures.items in
    made_more c.args.instrs.now c.requires c.loop-place.codes.items c.push.new.self.items c.codes_at-own.result c.loop-place.place c.loop-place.invariant grown c.codes_at-own.ensures

pub returns-clause-value : goal.returns-clause-value
returns-clause-value c =
    let count = c.in_ok-live.ensures.count in
    let within = c.loop-place.auto.place-end in
    let done = c.loop-place-test.false in
    let view = c.deref-live-items.ensures.value in
    let whole : c.loop-place.place ≡ length c.args.instrs.now = omega (arith, ap length view) in
    made_whole c.args.instrs.now c.requires c.loop-place.codes.items c.loop-place.place c.loop-place.invariant whole

pub returns-clause-runs : goal.returns-clause-runs
returns-clause-runs c = are_codes c.args.instrs.now c.requires c.loop-place.codes.items (returns-clause-value c)
