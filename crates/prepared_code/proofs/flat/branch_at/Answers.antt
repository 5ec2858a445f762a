-- The branch goes to its target.
use Rattle.std.proofs.Common.{◌≡◌, true, false, refl, sym, ap, ◌∙◌}
use Rattle.std.specs.Int.{w32}
use Rattle.std.proofs.lemmas.Int.{to_z-of_z}
use Rattle.alpha_meaning.specs.Act.{target_of}
use Rattle.prepared_code.specs.Known.{branch_to, lands_at, leaving, stays_inside}
use Rattle.prepared_code.proofs.Known.{way_of}
use Rattle.prepared_code.proofs.flat.branch_at.Goals as goal

pub returns-then-lands_at : goal.returns-then-lands_at
returns-then-lands_at c = λ code are.
    let there : c.from-literal.result ≡ target_of c.args.place c.args.disp = c.from-literal.ensures ∙ c.target_of-target.ensures ∙ ap (target_of c.args.place) (to_z-of_z w32 c.args.disp c.ranges.disp) in
    let lands : true ≡ lands_at code c.args.op c.args.a c.from-literal.result = sym c.if-lands_at.true ∙ c.lands_at.ensures code are ∙ ap (lands_at code c.args.op c.args.a) (sym c.from-literal.ensures) in
    way_of code c.args.place c.args.op c.args.a c.from-literal.result true _ lands refl ∙ ap (branch_to code c.args.place c.args.op c.args.a) there

pub returns-then-stays_inside : goal.returns-then-stays_inside
returns-then-stays_inside c = λ code are.
    let there : c.from-literal.result ≡ target_of c.args.place c.args.disp = c.from-literal.ensures ∙ c.target_of-target.ensures ∙ ap (target_of c.args.place) (to_z-of_z w32 c.args.disp c.ranges.disp) in
    let lands : false ≡ lands_at code c.args.op c.args.a c.from-literal.result = sym c.if-lands_at.false ∙ c.lands_at.ensures code are ∙ ap (lands_at code c.args.op c.args.a) (sym c.from-literal.ensures) in
    let stays : true ≡ stays_inside code c.args.place c.args.op c.args.a c.from-literal.result =
    sym c.if-stays_inside.true ∙ c.stays_inside.ensures code are ∙ ap (stays_inside code c.args.place c.args.op c.args.a) (sym c.from-literal.ensures) in
    way_of code c.args.place c.args.op c.args.a c.from-literal.result false true lands stays ∙ ap (branch_to code c.args.place c.args.op c.args.a) there

pub returns-else-stays_inside : goal.returns-else-stays_inside
returns-else-stays_inside c = λ code are.
    let there : c.from-literal.result ≡ target_of c.args.place c.args.disp = c.from-literal.ensures ∙ c.target_of-target.ensures ∙ ap (target_of c.args.place) (to_z-of_z w32 c.args.disp c.ranges.disp) in
    let lands : false ≡ lands_at code c.args.op c.args.a c.from-literal.result = sym c.if-lands_at.false ∙ c.lands_at.ensures code are ∙ ap (lands_at code c.args.op c.args.a) (sym c.from-literal.ensures) in
    let stays : false ≡ stays_inside code c.args.place c.args.op c.args.a c.from-literal.result =
    sym c.if-stays_inside.false ∙ c.stays_inside.ensures code are ∙ ap (stays_inside code c.args.place c.args.op c.args.a) (sym c.from-literal.ensures) in
    c.leaving.ensures ∙ ap (leaving c.args.op c.args.a) (sym c.from-literal.ensures) ∙ way_of code c.args.place c.args.op c.args.a c.from-literal.result false false lands stays ∙ ap (branch_to code c.args.place c.args.op c.args.a) there
