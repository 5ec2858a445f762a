-- What the meaning of a call says of its status.
use Rattle.std.proofs.Common.{◌≡◌, ◌≢◌, ◌∙◌, Option, Some, refl, sym, ap, subst}
use Rattle.command_words.specs.Commands.{CommandValue, run, live, translate, list, generate, replay}
use Rattle.vest_stops.specs.Decided.{Decision, goes_on, StopsAsDecided}
use Rattle.vest_stops.specs.Status.{status_of, status_of_done}
use Rattle.vest_stops.specs.declared.status.Done.{Done}
use Rattle.vest_stops.specs.declared.status.Done.TheVariants as dones
use Rattle.vest_stops.specs.declared.status.Status.{Status}
use Rattle.vest_stops.specs.declared.status.Status.TheVariants as status
use Rattle.vest_stops.specs.declared.stop.Stop.{Stop}
use Rattle.vest_stops.specs.declared.stop.Stop.TheVariants.{Absent, Refused, ReadFault, TooLong, WantOfMemory}
use Rattle.vest_runs.specs.Kept.{KeptValue}
use Rattle.vest_cli.specs.Lent.{Lent}
use Rattle.vest_cli.specs.Decided.{EndsARun, IsOrFault}
use Rattle.vest_cli.specs.Vest.{Does}

pub stopped_as : (command : Option CommandValue) (stop : Stop) (d : Decision) → StopsAsDecided stop d → IsOrFault command (status_of stop) d
stopped_as command Absent d h = subst (λ (x : Decision). IsOrFault command status.Absent x) (sym h) refl
stopped_as command (Refused refusal) d h = subst (λ (x : Decision). IsOrFault command status.Refused x) (sym h) refl
stopped_as command ReadFault d h = tt
stopped_as command TooLong d h = subst (λ (x : Decision). IsOrFault command status.TooLong x) (sym h) refl
stopped_as command WantOfMemory d h = tt

ends_well : (command : CommandValue) (end : Done) (old new : Lent) (kept : KeptValue) → Does command end old new kept
    → IsOrFault (Some command) (status_of_done end) goes_on
ends_well (run name options) dones.Ok old new kept h = tt
ends_well (run name options) dones.Exception old new kept h = tt
ends_well (run name options) dones.Spent old new kept h = tt
ends_well (run name options) dones.ReadFault old new kept h = tt
ends_well (run name options) dones.WriteFault old new kept h = tt
ends_well (live name options) dones.Ok old new kept h = tt
ends_well (live name options) dones.Exception old new kept h = tt
ends_well (live name options) dones.Spent old new kept h = tt
ends_well (live name options) dones.ReadFault old new kept h = tt
ends_well (live name options) dones.WriteFault old new kept h = tt
ends_well (translate image to target hints) dones.Ok old new kept h = refl
ends_well (translate image to target hints) dones.Exception old new kept h = absurd h.translates.written
ends_well (translate image to target hints) dones.Spent old new kept h = absurd h.translates.written
ends_well (translate image to target hints) dones.ReadFault old new kept h = tt
ends_well (translate image to target hints) dones.WriteFault old new kept h = tt
ends_well (list name) dones.Ok old new kept h = refl
ends_well (list name) dones.Exception old new kept h = absurd h.lists.sent
ends_well (list name) dones.Spent old new kept h = absurd h.lists.sent
ends_well (list name) dones.ReadFault old new kept h = tt
ends_well (list name) dones.WriteFault old new kept h = tt
ends_well (generate number) dones.Ok old new kept h = tt
ends_well (generate number) dones.Exception old new kept h = tt
ends_well (generate number) dones.Spent old new kept h = tt
ends_well (generate number) dones.ReadFault old new kept h = tt
ends_well (generate number) dones.WriteFault old new kept h = tt
ends_well (replay name file hints) dones.Ok old new kept h = tt
ends_well (replay name file hints) dones.Exception old new kept h = tt
ends_well (replay name file hints) dones.Spent old new kept h = tt
ends_well (replay name file hints) dones.ReadFault old new kept h = tt
ends_well (replay name file hints) dones.WriteFault old new kept h = tt

pub done_as : (spelled : Option CommandValue) (command : CommandValue) (end : Done) (old new : Lent) (kept : KeptValue) (d : Decision)
    → spelled ≡ Some command → Does command end old new kept → d ≡ goes_on → IsOrFault spelled (status_of_done end) d
done_as spelled command end old new kept d is h goes =
    subst (λ (x : Decision). IsOrFault spelled (status_of_done end) x) (sym goes)
    (subst (λ (c : Option CommandValue). IsOrFault c (status_of_done end) goes_on) (sym is) (ends_well command end old new kept h))

-- no command stops or ends with the status of the usage line
pub stop_no_usage : (stop : Stop) → status_of stop ≢ status.Usage
stop_no_usage Absent = λ e. cc e
stop_no_usage (Refused refusal) = λ e. cc e
stop_no_usage ReadFault = λ e. cc e
stop_no_usage TooLong = λ e. cc e
stop_no_usage WantOfMemory = λ e. cc e

pub done_no_usage : (end : Done) → status_of_done end ≢ status.Usage
done_no_usage dones.Ok = λ e. cc e
done_no_usage dones.Exception = λ e. cc e
done_no_usage dones.Spent = λ e. cc e
done_no_usage dones.ReadFault = λ e. cc e
done_no_usage dones.WriteFault = λ e. cc e

-- ---- a status that comes behind a run
pub well_ended : (result : Status) (end : Done) → result ≡ status_of_done end → EndsARun result → end ≢ dones.WriteFault
well_ended result end is ended failed = subst EndsARun (is ∙ ap status_of_done failed) ended

pub stops_no_run : (result : Status) (stop : Stop) → result ≡ status_of stop → EndsARun result → ⊥
stops_no_run result stop is ended = by stop (subst EndsARun is ended)
  where
    by : (s : Stop) → EndsARun (status_of s) → ⊥
    by Absent e = e
    by (Refused refusal) e = e
    by ReadFault e = e
    by TooLong e = e
    by WantOfMemory e = e
