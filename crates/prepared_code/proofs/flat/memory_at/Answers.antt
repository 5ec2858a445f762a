-- Whether the instruction makes an access.
use Rattle.std.proofs.Common.{if◌then◌else◌, ap, ◌∙◌}
use Rattle.std.specs.Int.{w16}
use Rattle.std.specs.Prelude.{is_some}
use Rattle.std.proofs.lemmas.Int.{to_z-of_z}
use Rattle.prepared_code.specs.Known.{stop, straight_at, sum}
use Rattle.prepared_code.proofs.flat.memory_at.Goals as goal

pub returns-in-Some : goal.returns-in-Some
returns-in-Some c = λ code are. ap (λ o. if is_some o then stop else straight_at code c.args.place (sum c.args.op c.args.a c.args.base c.args.disp)) c.in-Some.ensures

pub returns-in-None : goal.returns-in-None
returns-in-None c = λ code are.
    c.straight_at.ensures code are
    ∙ ap (straight_at code c.args.place) (c.sum.ensures ∙ ap (sum c.args.op c.args.a c.args.base) (to_z-of_z w16 c.args.disp c.ranges.disp))
    ∙ ap (λ o. if is_some o then stop else straight_at code c.args.place (sum c.args.op c.args.a c.args.base c.args.disp)) c.in-None.ensures
