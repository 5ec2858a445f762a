-- The file has the order of the run, which keeps its history.
use Rattle.std.proofs.Common.{◌≡◌, ◌∙◌, ℕ, List, Option, Some, map, ap, subst, sym, true≢false}
use Rattle.std.specs.Prelude.{IsSome}
use Rattle.run_files.specs.Spelling.{order_bytes}
use Rattle.tie_switch.specs.Processors.{processor_of}
use Rattle.vest_runs.specs.Order.{order_made}
use Rattle.vest_cli.specs.Storing.{HasRoomFor, Stores, name_of}
use Rattle.vest_cli.proofs.OrderFiles.{keeps_entries}
use Rattle.vest_cli.proofs.storing.store.Goals as goal

pub unreachable-requires : goal.unreachable-requires
unreachable-requires g c =
    let room = subst (HasRoomFor c.args.run.now.task) c.in-Some.is c.requires.room in
    true≢false (sym (subst IsSome c.in_default-history.is (c.history.ensures.kept.1 (keeps_entries c.args.run.now c.requires.made room.0))))

pub returns-clause-stores : goal.returns-clause-stores
returns-clause-stores g c =
    let file : List ℕ = order_bytes (order_made c.args.run.now.memory.history c.args.run.now.task.taken.items (map processor_of c.args.run.now.processors.items)) in
    let bytes : c.deref-4.result.now ≡ file =
    c.deref-4.ensures.value ∙ c.filled-bytes.ensures ∙ (λ i. order_bytes (order_made (c.in-Some-history.ensures.value i) (c.deref.ensures.value i) (map processor_of (c.deref-2.ensures.value i)))) in
    let named : Some c.deref-3.result.now ≡ name_of c.args.file = ap Some c.deref-3.ensures ∙ sym (ap name_of c.in-Some.is) in
    subst (λ (to : Option (List ℕ)). Stores c.write_behind.result c.args.done to file (g.D.Desk.meaning c.args.desk.now) (g.D.Desk.meaning c.write_behind.new.desk)) named
    (subst (λ (b : List ℕ). Stores c.write_behind.result c.args.done (Some c.deref-3.result.now) b (g.D.Desk.meaning c.args.desk.now) (g.D.Desk.meaning c.write_behind.new.desk)) bytes c.write_behind.ensures)
