use Rattle.std.proofs.Common.{◌≡◌, ◌+◌, ◌-◌, ◌<◌, length, get_or, drop, le_refl, refl, arith}
use Rattle.std.proofs.lemmas.List.{drop_all, drop_more}
use Rattle.vax_form.specs.Codes.{none}
use Rattle.cc_liveness.specs.Uses.{goes_on}
use Rattle.cc_liveness.proofs.Lives.{found_more, wanted_more}
use Rattle.cc_liveness.proofs.liveness.backward.Goals as goal

pub loop-i-init : goal.loop-i-init
loop-i-init c = rw (drop_all (length c.args.run.now) c.args.run.now (le_refl _)) (c.new-found.ensures.items, refl)

pub loop-i-preserved : goal.loop-i-preserved
loop-i-preserved c =
    let i = c.loop-i.i in
    let run = c.args.run.now in
    let instruction = get_or run (i - 1) (goes_on none none) in
    let within : i - 1 < length run = omega arith in
    let back : i - 1 + 1 ≡ i = omega arith in
    rw (drop_more run (i - 1) (goes_on none none) within, back) (
      found_more instruction (drop i run) _ _ _ _ c.loop-i.invariant.0 c.loop-i.invariant.1 c.live_behind-live.ensures c.in_ok-push.ensures.items,
      wanted_more instruction (drop i run) _ _ _ c.loop-i.invariant.1 c.live_behind-live.ensures c.wanted-behind.ensures,
    )
