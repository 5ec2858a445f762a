use Rattle.std.proofs.Common.{◌≡◌, ◌≤◌, ◌<◌, ◌+◌, ◌-◌, length, take, arith, refl}
use Rattle.vax_decode.proofs.Fetching.{fetching_all, fetching_begun, fetching_none, fetching_run}
use Rattle.vax_decode.proofs.fetch.fetch.Goals as goal

pub loop-count-init : goal.loop-count-init
loop-count-init c = record { few = omega arith; fetching = fetching_begun c.args.pages.now c.args.pc _ refl }

pub returns-in_default-clause-bytes : goal.returns-in_default-clause-bytes
returns-in_default-clause-bytes c =
    fetching_none c.args.pages.now c.args.pc c.loop-count.count c.loop-count.bytes (omega arith) c.in_default.ensures.bytes c.loop-count.invariant.fetching

pub loop-count-preserved : goal.loop-count-preserved
loop-count-preserved c =
    let i = c.loop-count.count in
    let n = c.min-more.result in
    let below : i < 64 = omega arith in
    let enough : n ≤ length c.in-Some.run'.now = omega (arith, c.min-more.ensures) in
    let room : i + n ≤ 64 = omega (arith, c.min-more.ensures) in
    let copied : c.copy_from_slice.new.self ≡ take n c.in-Some.run'.now = c.copy_from_slice.ensures.after in
    let more : i + n - i ≡ n = omega arith in
    record {
      few = room;
      fetching = rw (copied, more) (fetching_run c.args.pages.now c.args.pc i n c.loop-count.bytes c.in-Some.run'.now c.in-Some.ensures.stand enough room c.loop-count.invariant.fetching);
    }

pub returns-clause-bytes : goal.returns-clause-bytes
returns-clause-bytes c =
    let end : c.loop-count.count ≡ 64 = omega arith in
    rw end (fetching_all c.args.pages.now c.args.pc c.loop-count.bytes (rw end at c.loop-count.invariant.fetching))
