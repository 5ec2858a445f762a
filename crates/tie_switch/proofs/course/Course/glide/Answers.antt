-- One block more.
use Rattle.std.proofs.Common.{[], refl, ap, arith}
use Rattle.tie_switch.specs.Glides.{NoBlock}
use Rattle.tie_switch.specs.Inside.{source_in}
use Rattle.tie_switch.specs.Settings.{image_setting}
use Rattle.tie_switch.specs.declared.course.Course.{Course}
use Rattle.tie_switch.proofs.Courses.{glides_nowhere, glides_on}
use Rattle.tie_switch.proofs.Glides.{one_block_more}
use Rattle.tie_switch.proofs.course.Course.glide.Goals as goal

pub loop-made-init : goal.loop-made-init
loop-made-init c =
    let p = c.args.prepared.now in
    let s = image_setting p.pages p.code [] in
    record { most = omega arith; few = omega arith; same = refl; glided = NoBlock; glides = glides_nowhere s (source_in s p.pages) c.args.self.now }

pub loop-made-preserved : goal.loop-made-preserved
loop-made-preserved c =
    let p = c.args.prepared.now in
    let s = image_setting p.pages p.code [] in
    let crosses = c.in-Ok.ensures.crosses.1 in
    record {
      most = omega (arith, c.loop-made.invariant.most, c.in-Ok.ensures.crosses.0, c.if-within-most.false);
      few = omega (arith, c.loop-made.invariant.few, crosses.counted);
      same = ap (λ (x : Course). record x { cpu = c.cross.new.cpu }) c.loop-made.invariant.same;
      glided = one_block_more p.code c.args.most c.args.self.now.cpu c.loop-made.self.cpu c.cross.new.cpu c.loop-made.made c.guess-within.result c.in-Ok.steps c.loop-made.invariant.glided
          c.guess-within.ensures (omega (arith, c.if-within-eq0.false)) c.if-within-most.false c.in-Ok.ensures.just crosses;
      glides = glides_on s p.pages c.args.self.now c.loop-made.self.cpu c.cross.new.cpu c.loop-made.made c.loop-made.crossed c.in-Ok.steps c.steps_are_turns.ensures
          c.landings_are_turns.ensures refl c.requires.plain c.loop-made.invariant.glides crosses;
    }
