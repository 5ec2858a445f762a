-- The new file is removed where it did not take the name.
use Rattle.std.proofs.Common.{IsErr, rules}
use Rattle.vt_outside.proofs.Settling.{places_removed}
use Rattle.vt_outside.proofs.replacing.take_place.Goals as goal

pub returns-then-is_err : goal.returns-then-is_err
returns-then-is_err g c =
    let failed : IsErr c.place-placed.result = search rules in
    places_removed c.place-placed.result c.remove.result c.args.name.now c.args.beside.now c.args.permissions
    (g.D.Disk.meaning c.args.disk.now) (g.D.Disk.meaning c.place-placed.new.disk) (g.D.Disk.meaning c.remove.new.self)
    failed c.place-placed.ensures c.remove.ensures
