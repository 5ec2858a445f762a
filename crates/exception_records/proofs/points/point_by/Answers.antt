use Rattle.std.proofs.Common.{refl, sym, ◌∙◌, length, Some, None}
use Rattle.std.proofs.lemmas.Option.{slice_get_read}
use Rattle.exception_records.proofs.Places.{point_there}
use Rattle.exception_records.proofs.points.point_by.Goals as goal

pub returns-in-Some-Some : goal.returns-in-Some-Some
returns-in-Some-Some c =
    let told = c.in-Some-Some.ensures.lookup.3 in
    point_there c.args.places.now c.args.points.now c.args.alpha c.in-Some-Some.place c.requires.rising c.requires.places
    (slice_get_read c.args.places.now (length c.args.places.now) c.args.alpha (Some c.in-Some-Some.place) refl told.0 (sym c.in-Some-Some.field-0-is ∙ told.1 (Some c.in-Some-Some.place)))

pub returns-in-Some-None : goal.returns-in-Some-None
returns-in-Some-None c =
    let told = c.in-Some-None.ensures.lookup.3 in
    sym (c.requires.places.none c.args.alpha (slice_get_read c.args.places.now (length c.args.places.now) c.args.alpha None refl told.0 (sym c.in-Some-None.field-0-is ∙ told.1 None)))
