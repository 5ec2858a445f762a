use Rattle.std.proofs.Common.{◌<◌, Option, ap, arith, sym, length, rules}
use Rattle.std.specs.Option.{option_map}
use Rattle.std.proofs.lemmas.List.Sorted.{answers_always}
use Rattle.exception_records.specs.Points.{Entry}
use Rattle.rising_lists.proofs.Lookups.{searched_at, searched_none}
use Rattle.exception_records.proofs.Places.{no_entry}
use Rattle.exception_records.proofs.points.point_in.Goals as goal

pub returns-in-Ok : goal.returns-in-Ok
returns-in-Ok c =
    let ps = c.args.points.now in
    let within : c.in-Ok.place < length ps = omega (arith, c.in-Ok.ensures.bound) in
    let result = c.in-Ok.ensures.position (λ (p : Entry). p.0) (answers_always _ _ _ (λ f a r q k. search rules)) in
    sym (ap (λ (o : Option Entry). option_map (λ (p : Entry). p.1) o) (searched_at (λ (p : Entry). p.0) ps c.args.alpha c.in-Ok.place c.requires within result no_entry))

pub returns-in-Err : goal.returns-in-Err
returns-in-Err c =
    let ps = c.args.points.now in
    let result = c.in-Err.ensures.position (λ (p : Entry). p.0) (answers_always _ _ _ (λ f a r q k. search rules)) in
    let none = searched_none (λ (p : Entry). p.0) ps c.args.alpha c.in-Err.field-0 c.requires result in
    sym (ap (λ (o : Option Entry). option_map (λ (p : Entry). p.1) o) none)
