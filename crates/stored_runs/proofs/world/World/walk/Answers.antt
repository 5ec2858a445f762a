use Rattle.std.proofs.Common.{rules, ◌≡◌, ◌+◌, true, false, Some, get_or, refl, subst}
use Rattle.vax_driven.specs.Driven.{picked}
use Rattle.vax_run.specs.Values.{world_of}
use Rattle.stored_runs.specs.World.{IsWalked}
use Rattle.stored_runs.proofs.Walked.{walked_more, stopped}
use Rattle.stored_runs.proofs.world.World.walk.Goals as goal

pub loop-pick-init : goal.loop-pick-init
loop-pick-init c = record { known = c.requires.known; walked = λ counts left. (refl, left) }

pub returns-then-not-branch-clause-walked : goal.returns-then-not-branch-clause-walked
returns-then-not-branch-clause-walked c = λ counts left.
    let no : c.in_ok-make.field-0 ≡ false = search rules in
    stopped c.args.image.now c.args.input.now counts c.args.order.now (c.loop-pick.pick-index + 1) c.make.new.self c.make.new.course.marks
    (walked_more c.args.image.now c.args.input.now counts c.args.order.now c.loop-pick.pick-index (record { thread = 0; retired = 0 }) false c.loop-pick.self c.make.new.self
    c.loop-pick.course.marks c.make.new.course.marks c.loop-pick-test.true (c.loop-pick.invariant.walked counts left)
    (λ made l. subst (λ b. IsWalked c.args.image.now c.args.input.now counts (picked (world_of c.args.image.now c.args.input.now) (Some made) (get_or c.args.order.now c.loop-pick.pick-index (record { thread = 0; retired = 0 }))) b c.make.new.self c.make.new.course.marks) no
    (c.in_ok-make.ensures.made counts made l)))

pub loop-pick-preserved : goal.loop-pick-preserved
loop-pick-preserved c = record {
  known = c.in_ok-make.ensures.known;
  walked = λ counts left.
      let yes : c.in_ok-make.field-0 ≡ true = search rules in
      walked_more c.args.image.now c.args.input.now counts c.args.order.now c.loop-pick.pick-index (record { thread = 0; retired = 0 }) true c.loop-pick.self c.make.new.self
      c.loop-pick.course.marks c.make.new.course.marks c.loop-pick-test.true (c.loop-pick.invariant.walked counts left)
      (λ made l. subst (λ b. IsWalked c.args.image.now c.args.input.now counts (picked (world_of c.args.image.now c.args.input.now) (Some made) (get_or c.args.order.now c.loop-pick.pick-index (record { thread = 0; retired = 0 }))) b c.make.new.self c.make.new.course.marks) yes
      (c.in_ok-make.ensures.made counts made l));
}
