use Rattle.std.proofs.Common.{subst, sym, set}
use Rattle.code_runs.specs.declared.entrances.Entrance.{Entrance}
use Rattle.std.specs.Prelude.{nat_eq}
use Rattle.code_runs.specs.Entrances.{AreChanged, also_behind}
use Rattle.code_runs.proofs.Entering.{changed_at}
use Rattle.code_runs.proofs.entrances.note_end.Goals as goal

pub returns-in-Some : goal.returns-in-Some
returns-in-Some c =
    subst (λ (e : Entrance). AreChanged c.args.instrs.now (nat_eq c.args.address) (also_behind c.args.place) c.args.entrances.now (set c.args.entrances.now c.in-Some.next e)) (sym c.also_behind.ensures)
    (changed_at c.args.instrs.now c.requires.order c.args.entrances.now c.requires.count c.args.address c.in-Some.next (also_behind c.args.place) c.in-Some.ensures.found)
