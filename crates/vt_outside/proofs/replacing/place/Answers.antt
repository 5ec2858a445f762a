-- The new file takes the name, or the name keeps what it has.
use Rattle.std.proofs.Common.{Option, IsOk, IsErr, rules, subst, sym}
use Rattle.std.specs.declared.fs.permissions.Permissions.{Permissions}
use Rattle.vt_outside.specs.Disk.{StillTold}
use Rattle.vt_outside.specs.Replacing.{PlacesBytes}
use Rattle.vt_outside.proofs.Settling.{places_new, places_permitted, places_unpermitted}
use Rattle.vt_outside.proofs.replacing.place.Goals as goal

pub returns-in_err-set_permissions-in-Some : goal.returns-in_err-set_permissions-in-Some
returns-in_err-set_permissions-in-Some g c =
    let failed : IsErr c.from_residual.result = search rules in
    subst (λ (z : Option Permissions). StillTold (g.D.Disk.meaning c.args.disk.now) (g.D.Disk.meaning c.set_permissions.new.self)
    (PlacesBytes c.from_residual.result c.args.name.now c.args.beside.now z)) (sym c.in-Some.is)
    (places_unpermitted c.set_permissions.result c.from_residual.result c.args.name.now c.args.beside.now c.in-Some.permissions _ _ failed c.set_permissions.ensures)

pub returns-in_ok-set_permissions-in-Some : goal.returns-in_ok-set_permissions-in-Some
returns-in_ok-set_permissions-in-Some g c =
    let done : IsOk c.set_permissions.result = search rules in
    subst (λ (z : Option Permissions). StillTold (g.D.Disk.meaning c.args.disk.now) (g.D.Disk.meaning c.rename.new.self)
    (PlacesBytes c.rename.result c.args.name.now c.args.beside.now z)) (sym c.in-Some.is)
    (places_permitted c.set_permissions.result c.rename.result c.args.name.now c.args.beside.now c.in-Some.permissions
    _ (g.D.Disk.meaning c.set_permissions.new.self) _ done c.set_permissions.ensures c.rename.ensures)

pub returns-in-None : goal.returns-in-None
returns-in-None g c =
    subst (λ (z : Option Permissions). StillTold (g.D.Disk.meaning c.args.disk.now) (g.D.Disk.meaning c.rename-in-None.new.self)
    (PlacesBytes c.rename-in-None.result c.args.name.now c.args.beside.now z)) (sym c.in-None.is)
    (places_new c.rename-in-None.result c.args.name.now c.args.beside.now _ _ c.rename-in-None.ensures)
