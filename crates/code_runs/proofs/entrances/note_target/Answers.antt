use Rattle.std.proofs.Common.{ℕ, Option, subst, sym, set}
use Rattle.std.specs.Option.{option_to_list}
use Rattle.vax_form.specs.Targets.{has}
use Rattle.code_runs.specs.declared.entrances.Entrance.TheVariants.{Elsewhere}
use Rattle.code_runs.specs.Entrances.{AreChanged, also_target}
use Rattle.code_runs.proofs.Entering.{changed_at, changed_target}
use Rattle.code_runs.proofs.entrances.note_target.Goals as goal

pub returns-in-Some-place_of : goal.returns-in-Some-place_of
returns-in-Some-place_of c =
    let instrs = c.args.instrs.now in
    let old = c.args.entrances.now in
    let address = c.in-Some.address in
    let place = c.in-Some-place_of.place in
    subst (λ (o : Option ℕ). AreChanged instrs (has (option_to_list o)) also_target old (set old place Elsewhere)) (sym c.in-Some.is)
    (changed_target instrs old (set old place Elsewhere) address (changed_at instrs c.requires.order old c.requires.count address place also_target c.in-Some-place_of.ensures.found))
