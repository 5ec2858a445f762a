-- The file of a run's order: its room, and the desk behind it.
use Rattle.std.proofs.Common.{◌≡◌, ◌∙◌, ℕ, true, false, List, Option, None, Some, map, refl, sym, ap, subst, arith}
use Rattle.std.specs.Prelude.{◌≢◌}
use Rattle.vt_outside.specs.Causes.{Rose}
use Rattle.vt_outside.specs.Sink.{SinkMeaning}
use Rattle.vt_outside.specs.Desk.{BothTold, DeskMeaning, Files, Puts as PutsAll, PutsPart}
use Rattle.memory_core.specs.declared.entry.Entry.{Entry}
use Rattle.memory_core.specs.declared.entry.SetUp.{SetUp}
use Rattle.memory_core.specs.Limits.{KeepsEntries}
use Rattle.tie_switch.specs.Processors.{ProcessorValue, processor_of}
use Rattle.vest_runs.specs.Order.{order_kept, order_made}
use Rattle.vest_runs.specs.Delivery.{DeliversRun}
use Rattle.vest_runs.specs.Keeping.{HasKept, limit_of, processors_of, set_up_of}
use Rattle.vest_runs.specs.Kept.{KeptValue}
use Rattle.vest_stops.specs.Files.{SameFiles}
use Rattle.vest_stops.specs.declared.status.Done.{Done}
use Rattle.vest_stops.specs.declared.status.Done.TheVariants.{Ok, Exception, Spent, ReadFault, WriteFault}
use Rattle.vest_cli.specs.Made.{HasMade}
use Rattle.vest_cli.specs.Storing.{Stores, has_failed}
use Rattle.vest_cli.specs.Storing as storing
use Rattle.vest_cli.specs.Waiting.{put_out}
use Rattle.vest_cli.specs.declared.execute.Run.{Run}
use Rattle.vest_cli.specs.declared.waiting.Puts.{Puts}

pub failed_is : (d : Done) → has_failed d ≡ true → d ≡ WriteFault
failed_is Ok e = absurd cc
failed_is Exception e = absurd cc
failed_is Spent e = absurd cc
failed_is ReadFault e = absurd cc
failed_is WriteFault e = refl

pub not_failed : (d : Done) → has_failed d ≡ false → d ≢ WriteFault
not_failed d e = λ clash. let wrong : true ≡ false = ap has_failed (sym clash) ∙ e in cc wrong

-- whatever the desk was read for before, as long as its files stayed
pub stored_behind : (result run : Done) (to : Option (List ℕ)) (bytes : List ℕ) (old mid new : DeskMeaning) → SameFiles old mid → Stores result run to bytes mid new → Stores result run to bytes old new
stored_behind result run to bytes old mid new same (storing.left why is kept) =
    storing.left why is (record { files = kept.files ∙ same.files; write_faults = kept.write_faults ∙ same.write_faults; read_faults = omega (arith, same.read_faults, kept.read_faults) })
stored_behind result run to bytes old mid new same (storing.stored name asked sent is writes) =
    storing.stored name asked sent is (subst (λ (files : Option Files). BothTold files new.files (λ f g. PutsAll f g name bytes)) same.files writes)
stored_behind result run to bytes old mid new same (storing.failed name asked sent is writes) =
    storing.failed name asked sent is (
      subst (λ (n : ℕ). Rose n new.write_faults) same.write_faults writes.0,
      subst (λ (files : Option Files). BothTold files new.files (λ f g. PutsPart f g name bytes)) same.files writes.1,
    )

-- where no file is asked for, the run's own end is told
pub unasked_is : (result run : Done) (to : Option (List ℕ)) (bytes : List ℕ) (old new : DeskMeaning) → to ≡ None → Stores result run to bytes old new → result ≡ run
unasked_is result run to bytes old new none (storing.left why is same) = is
unasked_is result run to bytes old new none (storing.stored name asked sent is writes) = is
unasked_is result run to bytes old new none (storing.failed name asked sent is writes) = absurd (let clash : None ≡ Some name = sym none ∙ asked in cc clash)

-- ---- a run that was made keeps its history where its words say so
pub keeps_entries : (run : Run) → HasMade run → KeepsEntries (limit_of run.task.limits) → KeepsEntries run.memory.set_up.limit
keeps_entries run made keeps = subst KeepsEntries (sym (ap (λ (of : SetUp). of.limit) made.set_up)) keeps

-- ---- what was made is what is kept
pub kept_order : (history : List Entry) (input : List ℕ) (processors : List ProcessorValue) (kept : KeptValue) → kept.history ≡ history → kept.input ≡ input → kept.processors ≡ processors
    → order_made history input (map processor_of processors) ≡ order_kept kept
kept_order history input processors kept same taken ended = λ i. order_made (sym same i) (sym taken i) (map processor_of (sym ended i))

pub kept_set_up : (run : Run) (kept : KeptValue) → HasMade run → HasKept run.task.loaded.image run.task.loaded.target run.task.loaded.translation run.task.taken.items run.task.limits run.task.ranges.items kept
    → run.memory.set_up ≡ set_up_of run.task.loaded.image kept
kept_set_up run kept made has =
    made.set_up ∙ (λ i. record { image = run.task.loaded.image; input = sym has.input i; limit = sym has.limit i; miss = sym has.miss i })

pub delivered_as : (run : Run) (puts : Puts) (kept : KeptValue) (sent : Done) (out out' report report' : SinkMeaning) → HasMade run
    → HasKept run.task.loaded.image run.task.loaded.target run.task.loaded.translation run.task.taken.items run.task.limits run.task.ranges.items kept → kept.history ≡ run.memory.history → kept.processors ≡ run.processors.items
    → DeliversRun sent (put_out puts run.task.loaded.translation run.memory.set_up run.memory.history) (map processor_of run.processors.items) out out' report report'
    → DeliversRun sent (put_out puts run.task.loaded.translation (set_up_of run.task.loaded.image kept) kept.history) (processors_of kept) out out' report report'
delivered_as run puts kept sent out out' report report' made has same ended h =
    let code = run.task.loaded.translation in
    let by_set_up : DeliversRun sent (put_out puts code (set_up_of run.task.loaded.image kept) run.memory.history) (map processor_of run.processors.items) out out' report report' =
    subst (λ (of : SetUp). DeliversRun sent (put_out puts code of run.memory.history) (map processor_of run.processors.items) out out' report report') (kept_set_up run kept made has) h in
    let by_history : DeliversRun sent (put_out puts code (set_up_of run.task.loaded.image kept) kept.history) (map processor_of run.processors.items) out out' report report' =
    subst (λ (history : List Entry). DeliversRun sent (put_out puts code (set_up_of run.task.loaded.image kept) history) (map processor_of run.processors.items) out out' report report') (sym same) by_set_up in
    subst (λ (processors : List ProcessorValue). DeliversRun sent (put_out puts code (set_up_of run.task.loaded.image kept) kept.history) (map processor_of processors) out out' report report') (sym ended) by_history
