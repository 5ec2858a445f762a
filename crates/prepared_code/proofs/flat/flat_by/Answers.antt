-- The instruction is that one.
use Rattle.std.proofs.Common.{sym, ap, ◌∙◌, subst}
use Rattle.std.specs.Int.{w16, w32}
use Rattle.std.proofs.lemmas.Int.{to_z-of_z}
use Rattle.alpha_encode.specs.Words.{IsEncodable}
use Rattle.prepared_code.specs.Known.{branch_at, flat_by, memory_at, straight_at}
use Rattle.prepared_code.proofs.Flats.{fits_wider}
use Rattle.prepared_code.proofs.flat.flat_by.Goals as goal

pub returns-in-Memory : goal.returns-in-Memory
returns-in-Memory c = λ code are.
    let fits = subst IsEncodable c.in-Memory.is c.requires.encodable in
    c.memory_at.ensures code are
    ∙ ap (memory_at code c.args.place c.in-Memory.op c.in-Memory.ra c.in-Memory.rb) (to_z-of_z w16 c.in-Memory.disp fits.2)
    ∙ ap (flat_by code c.args.place) (sym c.in-Memory.is)

pub returns-in-Branch : goal.returns-in-Branch
returns-in-Branch c = λ code are.
    let fits = subst IsEncodable c.in-Branch.is c.requires.encodable in
    c.branch_at.ensures code are
    ∙ ap (branch_at code c.args.place c.in-Branch.op c.in-Branch.ra) (to_z-of_z w32 c.in-Branch.disp (fits_wider c.in-Branch.disp fits.1 fits.2))
    ∙ ap (flat_by code c.args.place) (sym c.in-Branch.is)

pub returns-in-Operate : goal.returns-in-Operate
returns-in-Operate c = λ code are. c.straight_at.ensures code are ∙ ap (straight_at code c.args.place) c.operation.ensures ∙ ap (flat_by code c.args.place) (sym c.in-Operate.is)

pub returns-in-Jump : goal.returns-in-Jump
returns-in-Jump c = λ code are. ap (flat_by code c.args.place) (sym c.in-Jump.is)

pub returns-in-Pal : goal.returns-in-Pal
returns-in-Pal c = λ code are. ap (flat_by code c.args.place) (sym c.in-Pal.is)
