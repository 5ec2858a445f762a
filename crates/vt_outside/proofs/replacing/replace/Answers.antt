-- What the calls for one new file come to.
use Rattle.std.proofs.Common.{◌≢◌, Err, rules, refl}
use Rattle.vt_outside.proofs.Settling.{settles_part, settles_whole}
use Rattle.vt_outside.specs.Disk.{MakesPart, MakesWhole, StillTold}
use Rattle.vt_outside.proofs.replacing.replace.Goals as goal

pub returns-in-Whole : goal.returns-in-Whole
returns-in-Whole g c =
    let made : StillTold (g.D.Disk.meaning c.loop-part.disk) (g.D.Disk.meaning c.make.new.self) (MakesWhole c.in_ok-beside.beside.bytes c.args.bytes.now) = search rules in
    let apart : c.in_ok-beside.beside.bytes ≢ c.args.name.now = search rules in
    settles_whole c.take_place.result c.args.name.now c.args.bytes.now c.in_ok-beside.beside.bytes c.args.permissions
    (g.D.Disk.meaning c.args.disk.now) (g.D.Disk.meaning c.loop-part.disk) (g.D.Disk.meaning c.make.new.self) (g.D.Disk.meaning c.take_place.new.disk)
    apart c.loop-part.invariant made (search rules)

pub returns-in-Part : goal.returns-in-Part
returns-in-Part g c =
    let made : StillTold (g.D.Disk.meaning c.loop-part.disk) (g.D.Disk.meaning c.make.new.self) (MakesPart c.in_ok-beside.beside.bytes) = search rules in
    let apart : c.in_ok-beside.beside.bytes ≢ c.args.name.now = search rules in
    settles_part {T = Unit {0}} (Err c.from.result) c.remove.result c.args.name.now c.args.bytes.now c.in_ok-beside.beside.bytes c.args.permissions
    (g.D.Disk.meaning c.args.disk.now) (g.D.Disk.meaning c.loop-part.disk) (g.D.Disk.meaning c.make.new.self) (g.D.Disk.meaning c.remove.new.self)
    refl apart c.loop-part.invariant made (search rules)
