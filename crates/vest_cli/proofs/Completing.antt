-- Where no call of the outside failed, no fault is told.
use Rattle.std.proofs.Common.{◌≡◌, ◌<◌, ◌≤◌, ◌∙◌, ℕ, Bool, true, false, if◌then◌else◌, map, List, Option, None, Some, Result, Ok, Err, IfOk, refl, sym, subst, arith, inl, inr}
use Rattle.std.specs.Prelude.{MatchBool}
use Rattle.std.specs.List.{list_any}
use Rattle.vt_outside.specs.Causes.{Rose, one_more}
use Rattle.vt_outside.specs.Sink.{SinkMeaning}
use Rattle.vt_outside.specs.Desk.{DeskMeaning, Files}
use Rattle.address_map.specs.Pairs.{Pair}
use Rattle.image_file.specs.Values.{ImageValue}
use Rattle.memory_core.specs.Contents.{output_of}
use Rattle.report_text.specs.Generated.{generated_image}
use Rattle.system_model.specs.Interpreted.{has_raised}
use Rattle.system_model.specs.Processors.{Processor}
use Rattle.command_words.specs.Commands.{CommandValue, LiveOptionsValue, run, live, translate, list, generate, replay}
use Rattle.vest_stops.specs.Decided.{Decision}
use Rattle.vest_files.specs.Loading.{StopsAtImageFile, StopsAtLoad, StopsAtTranslatedFile, is_translated}
use Rattle.vest_stops.specs.Status.{status_of, status_of_done}
use Rattle.vest_files.specs.Translate.{StopsAtHinted, StopsTranslate}
use Rattle.vest_stops.specs.declared.status.Done.{Done}
use Rattle.vest_stops.specs.declared.status.Done.TheVariants as dones
use Rattle.vest_stops.specs.declared.status.Status.{Status}
use Rattle.vest_stops.specs.declared.status.Status.TheVariants as status
use Rattle.vest_stops.specs.declared.stop.Stop.{Stop}
use Rattle.vest_stops.specs.declared.stop.Stop.TheVariants.{Absent, Refused, ReadFault, TooLong, WantOfMemory}
use Rattle.report_text.specs.Report.{report_text}
use Rattle.vest_runs.specs.Delivery.{Delivers, DeliversRun}
use Rattle.vest_runs.specs.Generate.{lines_of}
use Rattle.vest_runs.specs.Kept.{KeptValue}
use Rattle.vest_cli.specs.Lent.{Lent}
use Rattle.vest_runs.specs.Keeping.{processors_of, set_up_of, setting_of}
use Rattle.run_files.specs.Spelling.{order_bytes}
use Rattle.run_files.specs.Values.{OrderValue}
use Rattle.vest_runs.specs.Order.{order_kept}
use Rattle.vest_runs.specs.Report as reports
use Rattle.vest_cli.specs.Hints.{StoresHints}
use Rattle.stored_runs.specs.Ends.{is_raised, is_spent}
use Rattle.stored_runs.specs.Replay.{EndValue}
use Rattle.vest_core.specs.Talks.{HasTalked}
use Rattle.vest_core.specs.declared.talking.TalkEnd.{TalkEnd}
use Rattle.vest_core.specs.declared.talking.TalkEnd.TheVariants as talks
use Rattle.vest_cli.specs.Live.{Closes, Lives}
use Rattle.vest_cli.specs.Replay.{StopsReplay, done_of}
use Rattle.vest_cli.specs.Run.{StopsRun, target_of}
use Rattle.vest_cli.specs.Storing as storing
use Rattle.vest_cli.specs.Storing.{Stores}
use Rattle.image_meaning.specs.declared.target.Target.{Target}
use Rattle.vest_cli.specs.Decided.{DecidesCall, IsOrFault, IsOrWant, NoneFailed, Stood}
use Rattle.vest_cli.specs.declared.waiting.Waiting.{Waiting}
use Rattle.vest_cli.specs.Vest.{Does, Ends, Stops, StopsAt, done, stopped, unspelled}

below : (least n : ℕ) → least ≤ n → n < least → ⊥
below least n h s = omega (arith, h, s)

stood : (old new : ℕ) → Stood old new → Rose old new → ⊥
stood old new s h = below (one_more old) new h s

neither : (b : Bool) (A B : Type 0) → (A → ⊥) → (B → ⊥) → MatchBool b A B → ⊥
neither true A B f g h = f h
neither false A B f g h = g h

-- ---- a read fault comes from a read of the desk, or of the input
image_has_none : (bytes : List ℕ) → StopsAtImageFile ReadFault bytes → ⊥
image_has_none bytes (inl h) = h
image_has_none bytes (inr (image, meant, h)) = h

translated_has_none : (bytes : List ℕ) → StopsAtTranslatedFile ReadFault bytes → ⊥
translated_has_none bytes (inl h) = h
translated_has_none bytes (inr (parts, has, inl h)) = h
translated_has_none bytes (inr (parts, has, inr (code, translated, h))) = h

pub load_rose : (name : List ℕ) (desk desk' : DeskMeaning) → StopsAtLoad ReadFault name desk desk' → Rose desk.read_faults desk'.read_faults
load_rose name desk desk' (inl h) = h
load_rose name desk desk' (inr (bytes, file, h)) =
    absurd (neither (is_translated bytes) (StopsAtTranslatedFile ReadFault bytes) (StopsAtImageFile ReadFault bytes) (translated_has_none bytes) (image_has_none bytes) h)

hinted_rose : (hints : Option (List ℕ)) (desk desk' : DeskMeaning) → StopsAtHinted ReadFault hints desk desk' → Rose desk.read_faults desk'.read_faults
hinted_rose None desk desk' h = absurd h
hinted_rose (Some name) desk desk' (inl h) = h
hinted_rose (Some name) desk desk' (inr (bytes, file, h)) = absurd h

translate_rose : (name : List ℕ) (hints : Option (List ℕ)) (desk desk' : DeskMeaning) → StopsTranslate ReadFault name hints desk desk' → Rose desk.read_faults desk'.read_faults
translate_rose name hints desk desk' (inl h) = h
translate_rose name hints desk desk' (inr (bytes, file, inl h)) = absurd h
translate_rose name hints desk desk' (inr (bytes, file, inr (image, meant, inl h))) = hinted_rose hints desk desk' h
translate_rose name hints desk desk' (inr (bytes, file, inr (image, meant, inr (found, told, h)))) = absurd h

pub replay_rose : (name file : List ℕ) (desk desk' : DeskMeaning) → StopsReplay ReadFault name file desk desk' → Rose desk.read_faults desk'.read_faults
replay_rose name file desk desk' (inl h) = load_rose name desk desk' h
replay_rose name file desk desk' (inr (image, target, code, loads, inl (inl h))) = h
replay_rose name file desk desk' (inr (image, target, code, loads, inl (inr (bytes, stored, h)))) = absurd h
replay_rose name file desk desk' (inr (image, target, code, loads, inr (order, stored, h))) = absurd h

-- ends decide no fault
never_read : (ps : List Processor) → dones.ReadFault ≡ reports.done_by_ends ps → ⊥
never_read ps = go (list_any (λ (p : Processor). has_raised p.mode) ps) (list_any (λ (p : Processor). reports.is_spent p.mode) ps)
  where
    go : (raised spent : Bool) → dones.ReadFault ≡ (if raised then dones.Exception else if spent then dones.Spent else dones.Ok) → ⊥
    go true spent e = cc e
    go false true e = cc e
    go false false e = cc e

never_read_of : (ends : List EndValue) → dones.ReadFault ≡ done_of ends → ⊥
never_read_of es = go (list_any is_raised (map (λ (e : EndValue). e.0) es)) (list_any is_spent (map (λ (e : EndValue). e.0) es))
  where
    go : (raised spent : Bool) → dones.ReadFault ≡ (if raised then dones.Exception else if spent then dones.Spent else dones.Ok) → ⊥
    go true spent e = cc e
    go false true e = cc e
    go false false e = cc e

module _ (old new : Lent) (kept : KeptValue) (none : NoneFailed old new) where
  no_desk_read : Rose old.desk.read_faults new.desk.read_faults → ⊥
  no_desk_read h = stood old.desk.read_faults new.desk.read_faults none.desk_reads h

  run_reads : (asked : Target) (name : List ℕ) → StopsRun ReadFault asked name old.desk new.desk old.input new.input → ⊥
  run_reads asked name (inl h) = no_desk_read (load_rose name old.desk new.desk h.0)
  run_reads asked name (inr (image, target, code, loads, h)) = stood old.input.faults new.input.faults none.input h.0

  command_reads : (command : CommandValue) → StopsAt command ReadFault old.desk new.desk old.input new.input → ⊥
  command_reads (run name options) h = run_reads (target_of options.target) name h
  command_reads (live name options) (inl h, same) = no_desk_read (load_rose name old.desk new.desk h)
  command_reads (live name options) (inr (image, target, code, loads, h), same) = h
  command_reads (translate image to target hints) h = no_desk_read (translate_rose image hints old.desk new.desk h.0)
  command_reads (list name) h = no_desk_read (load_rose name old.desk new.desk h.0)
  command_reads (generate number) h = let same : ReadFault ≡ WantOfMemory = h.0 in cc same
  command_reads (replay name file hints) h = no_desk_read (replay_rose name file old.desk new.desk h.0)

  call_reads : (command : Option CommandValue) → Stops command ReadFault old.desk new.desk old.input new.input → ⊥
  call_reads None h = h
  call_reads (Some command) h = command_reads command h

  stop_reads : (command : Option CommandValue) (stop : Stop) → status_of stop ≡ status.ReadFault → Stops command stop old.desk new.desk old.input new.input → ⊥
  stop_reads command Absent e h = cc e
  stop_reads command (Refused refusal) e h = cc e
  stop_reads command ReadFault e h = call_reads command h
  stop_reads command TooLong e h = cc e
  stop_reads command WantOfMemory e h = cc e

  -- a run doesn't come to it by its ends
  stored_reads : (made : Done) (to : Option (List ℕ)) (bytes output lines : List ℕ) (decided : Done) → (dones.ReadFault ≡ decided → ⊥) → Stores dones.ReadFault made to bytes old.desk new.desk
      → Delivers made output lines decided old.out new.out old.report new.report → ⊥
  stored_reads made to bytes output lines decided never (storing.left why is same) h =
      never (subst (λ (d : Done). Delivers d output lines decided old.out new.out old.report new.report) (sym is) h).0
  stored_reads made to bytes output lines decided never (storing.stored name asked sent is writes) h =
      never (subst (λ (d : Done). Delivers d output lines decided old.out new.out old.report new.report) (sym is) h).0
  stored_reads made to bytes output lines decided never (storing.failed name asked sent is writes) h = cc is

  hints_reads : (image : ImageValue) (order : OrderValue) (map : List Pair) (to : Option (List ℕ)) (made : Done) (output lines : List ℕ) (decided : Done) → (dones.ReadFault ≡ decided → ⊥)
      → StoresHints image order map to dones.ReadFault made old.desk new.desk → Delivers made output lines decided old.out new.out old.report new.report → ⊥
  hints_reads image order map None made output lines decided never stored h =
      never (subst (λ (d : Done). Delivers d output lines decided old.out new.out old.report new.report) (sym stored.0) h).0
  hints_reads image order map (Some name) made output lines decided never (bytes, hinted, stores) h = stored_reads made (Some name) bytes output lines decided never stores h

  -- a talk comes to it where the source failed
  live_reads : (name : List ℕ) (options : LiveOptionsValue) → Lives dones.ReadFault name options old new kept → ⊥
  live_reads name options h = by h.end h.talked h.closes
    where
      by : (end : TalkEnd) → HasTalked end (setting_of h.image h.code kept) (set_up_of h.image kept) kept.budget kept.history h.k old.input new.input old.out new.out options.progress old.report h.behind
          → Closes end dones.ReadFault (processors_of kept) h.behind new.report → ⊥
      by talks.Ended talked closes = never_read (processors_of kept) closes.0
      by talks.ReadFault talked closes = stood old.input.faults new.input.faults none.input talked.stands_at.1
      by talks.WriteFault talked closes = cc closes.0
      by talks.ReportFault talked closes = cc closes.0

  done_by : (command : CommandValue) → Does command dones.ReadFault old new kept → ⊥
  done_by (run name options) h =
      stored_reads h.run options.order (order_bytes (order_kept kept)) (output_of kept.history) (reports.report_of (processors_of kept)) (reports.done_by_ends (processors_of kept)) (never_read (processors_of kept)) h.stored h.delivered
  done_by (live name options) h = live_reads name options h
  done_by (translate image to target hints) h = h.translates.written
  done_by (list name) h = h.lists.sent
  done_by (generate number) h = never_read (processors_of kept) h.generates.delivered.0
  done_by (replay name file hints) h =
      let its = h.replays in
      hints_reads its.gives.image its.gives.order its.gives.code.map hints its.sent its.replayed.output (report_text its.replayed.ends) (done_of its.replayed.ends) (never_read_of its.replayed.ends) its.stored its.delivered

  done_reads : (command : CommandValue) (end : Done) → status_of_done end ≡ status.ReadFault → Does command end old new kept → ⊥
  done_reads command dones.Ok e h = cc e
  done_reads command dones.Exception e h = cc e
  done_reads command dones.Spent e h = cc e
  done_reads command dones.ReadFault e h = done_by command h
  done_reads command dones.WriteFault e h = cc e

  no_read_fault : (command : Option CommandValue) (result : Status) → Ends command result old new kept → result ≡ status.ReadFault → ⊥
  no_read_fault command result (unspelled never is untouched left) e = let same : status.Usage ≡ status.ReadFault = sym is ∙ e in cc same
  no_read_fault command result (stopped stop is why left) e = stop_reads command stop (sym is ∙ e) why
  no_read_fault command result (done spelled end so is does) e = done_reads spelled end (sym is ∙ e) does

  -- ---- and a write fault from a write of the desk, of out or of report
  no_out : Rose old.out.faults new.out.faults → ⊥
  no_out h = stood old.out.faults new.out.faults none.out h

  delivery_writes : (output lines : List ℕ) (decided : Done) → Delivers dones.WriteFault output lines decided old.out new.out old.report new.report → ⊥
  delivery_writes output lines decided (inl h) = no_out h.0.failed
  delivery_writes output lines decided (inr h) = stood old.report.faults new.report.faults none.report h.1.failed

  run_writes : (output : List ℕ) (processors : List Processor) → DeliversRun dones.WriteFault output processors old.out new.out old.report new.report → ⊥
  run_writes output processors h = delivery_writes output (reports.report_of processors) (reports.done_by_ends processors) h

  -- a file was not stored in vain: that is the fault of a sink, or of the write
  stored_writes : (made : Done) (to : Option (List ℕ)) (bytes output lines : List ℕ) (decided : Done) → Stores dones.WriteFault made to bytes old.desk new.desk
      → Delivers made output lines decided old.out new.out old.report new.report → ⊥
  stored_writes made to bytes output lines decided (storing.left why is same) h =
      delivery_writes output lines decided (subst (λ (d : Done). Delivers d output lines decided old.out new.out old.report new.report) (sym is) h)
  stored_writes made to bytes output lines decided (storing.stored name asked sent is writes) h = sent (sym is)
  stored_writes made to bytes output lines decided (storing.failed name asked sent is writes) h = stood old.desk.write_faults new.desk.write_faults none.desk_writes writes.0

  hints_writes : (image : ImageValue) (order : OrderValue) (map : List Pair) (to : Option (List ℕ)) (made : Done) (output lines : List ℕ) (decided : Done)
      → StoresHints image order map to dones.WriteFault made old.desk new.desk → Delivers made output lines decided old.out new.out old.report new.report → ⊥
  hints_writes image order map None made output lines decided stored h =
      delivery_writes output lines decided (subst (λ (d : Done). Delivers d output lines decided old.out new.out old.report new.report) (sym stored.0) h)
  hints_writes image order map (Some name) made output lines decided (bytes, hinted, stored) h = stored_writes made (Some name) bytes output lines decided stored h

  live_writes : (name : List ℕ) (options : LiveOptionsValue) → Lives dones.WriteFault name options old new kept → ⊥
  live_writes name options h = by h.end h.talked h.closes
    where
      rises : (a b c : ℕ) → a ≤ b → Rose b c → Rose a c
      rises a b c low more = grind (arith, low, more)

      by : (end : TalkEnd) → HasTalked end (setting_of h.image h.code kept) (set_up_of h.image kept) kept.budget kept.history h.k old.input new.input old.out new.out options.progress old.report h.behind
          → Closes end dones.WriteFault (processors_of kept) h.behind new.report → ⊥
      by talks.Ended talked closes = stood old.report.faults new.report.faults none.report (rises old.report.faults h.behind.faults new.report.faults talked.told.later closes.failed)
      by talks.ReadFault talked closes = cc closes.0
      by talks.WriteFault talked closes = no_out talked.sent.failed
      by talks.ReportFault talked closes = stood old.report.faults new.report.faults none.report (subst (λ (r : SinkMeaning). Rose old.report.faults r.faults) (sym closes.1) talked.told.failed)

  command_writes : (command : CommandValue) → Does command dones.WriteFault old new kept → ⊥
  command_writes (run name options) h = stored_writes h.run options.order (order_bytes (order_kept kept)) (output_of kept.history) (reports.report_of (processors_of kept)) (reports.done_by_ends (processors_of kept)) h.stored h.delivered
  command_writes (live name options) h = live_writes name options h
  command_writes (translate image to target hints) h = stood old.desk.write_faults new.desk.write_faults none.desk_writes h.translates.written.0
  command_writes (list name) h = no_out h.lists.sent.failed
  command_writes (generate number) h =
      run_writes (lines_of number h.generates.code (set_up_of (generated_image number) kept) kept.history) (processors_of kept) h.generates.delivered
  command_writes (replay name file hints) h =
      let its = h.replays in
      hints_writes its.gives.image its.gives.order its.gives.code.map hints its.sent its.replayed.output (report_text its.replayed.ends) (done_of its.replayed.ends) its.stored its.delivered

  stop_writes : (stop : Stop) → status_of stop ≡ status.WriteFault → ⊥
  stop_writes Absent e = cc e
  stop_writes (Refused refusal) e = cc e
  stop_writes ReadFault e = cc e
  stop_writes TooLong e = cc e
  stop_writes WantOfMemory e = cc e

  done_writes : (command : CommandValue) (end : Done) → status_of_done end ≡ status.WriteFault → Does command end old new kept → ⊥
  done_writes command dones.Ok e h = cc e
  done_writes command dones.Exception e h = cc e
  done_writes command dones.Spent e h = cc e
  done_writes command dones.ReadFault e h = cc e
  done_writes command dones.WriteFault e h = command_writes command h

  no_write_fault : (command : Option CommandValue) (result : Status) → Ends command result old new kept → result ≡ status.WriteFault → ⊥
  no_write_fault command result (unspelled never is untouched left) e = let same : status.Usage ≡ status.WriteFault = sym is ∙ e in cc same
  no_write_fault command result (stopped stop is why left) e = stop_writes stop (sym is ∙ e)
  no_write_fault command result (done spelled end so is does) e = done_writes spelled end (sym is ∙ e) does

  -- ---- so the status is the decided one, or memory ran out
  pub complete : (command : Option CommandValue) (result : Status) (d : Decision) → Ends command result old new kept → IsOrFault command result d → IsOrWant command result d
  complete command status.Ok d ends h = h
  complete command status.Usage d ends h = h
  complete command status.Absent d ends h = h
  complete command status.Refused d ends h = h
  complete command status.Exception d ends h = h
  complete command status.Spent d ends h = h
  complete command status.ReadFault d ends h = absurd (no_read_fault command status.ReadFault ends refl)
  complete command status.WriteFault d ends h = absurd (no_write_fault command status.WriteFault ends refl)
  complete command status.TooLong d ends h = h
  complete command status.WantOfMemory d ends h = h

-- the same of a call that may wait
pub complete_ok : (old new : Lent) (kept : KeptValue) (command : Option CommandValue) (files : Option Files) (left : Option (List ℕ)) (result : Result Status Waiting)
    → IfOk result (λ s. Ends command s old new kept) → IfOk result (λ s. (d : Decision) → DecidesCall command files left d → IsOrFault command s d)
    → IfOk result (λ s. (d : Decision) → DecidesCall command files left d → NoneFailed old new → IsOrWant command s d)
complete_ok old new kept command files left (Ok s) ends decided = λ d on none. complete old new kept none command s d ends (decided d on)
complete_ok old new kept command files left (Err waiting) ends decided = tt
