-- How a call ends, by its words and by what its command came to.
use Rattle.std.proofs.Common.{◌≡◌, ◌⊎◌, ◌∙◌, List, Option, None, Some, Result, Ok, Err, IfErr, IfOk, refl, sym, subst, inl, inr, arith}
use Rattle.std.specs.Prelude.{ℕ}
use Rattle.command_words.specs.Commands.{CommandValue, generate, list, live, replay, run, translate}
use Rattle.command_words.specs.declared.WordsFault.{WordsFault}
use Rattle.command_words.specs.declared.WordsFault.TheVariants.{Usage}
use Rattle.command_words.specs.declared.WordsFault.TheVariants as faults
use Rattle.vt_outside.specs.Desk.{DeskMeaning, Files}
use Rattle.vt_outside.specs.Sink.{SinkMeaning}
use Rattle.vt_outside.specs.Source.{SourceMeaning}
use Rattle.vest_stops.specs.Decided.{Decision}
use Rattle.vest_stops.specs.Line.{line_of}
use Rattle.vest_stops.specs.declared.status.Done.{Done}
use Rattle.vest_stops.specs.declared.status.Status.{Status}
use Rattle.vest_stops.specs.declared.status.Status.TheVariants as status
use Rattle.vest_stops.specs.declared.stop.Stop.TheVariants.{WantOfMemory}
use Rattle.vest_runs.specs.Kept.{KeptValue, nothing_kept}
use Rattle.vest_cli.specs.Lent.{Lent, lent}
use Rattle.vest_cli.specs.Leaving.{LeavesAll}
use Rattle.vest_cli.specs.Decided.{DecidesCall, DecidesOn, IsOrFault}
use Rattle.vest_ends.specs.Says.{Says}
use Rattle.vest_cli.specs.Stopping.{RefusesWords}
use Rattle.vest_cli.specs.Vest as vest
use Rattle.vest_cli.specs.Vest.{Does, Ends, StopsAt, done, stopped, unspelled}
use Rattle.vest_cli.specs.Waiting.{CallWaits, Concludes, HaltsAt, IsHaltDecided, WaitsReady}
use Rattle.vest_cli.specs.declared.halt.Halt.{Halt}
use Rattle.vest_cli.specs.declared.halt.Halt.TheVariants.{Stops, Waits}
use Rattle.vest_cli.specs.declared.waiting.Waiting.{Waiting}
use Rattle.vest_cli.proofs.Deciding.{done_as, done_no_usage, stop_no_usage, stopped_as}

-- ---- a command was spelled
module _ (spelled : Option CommandValue) (command : CommandValue) (is : spelled ≡ Some command) where
  pub call_ends : (ended : Result Done Halt) (result : Result Status Waiting) (old : Lent) (desk : DeskMeaning) (input : SourceMeaning) (out mid report : SinkMeaning) (kept : KeptValue)
      → IfOk ended (λ end. Does command end old (lent desk input out mid) kept)
      → IfErr ended (λ halt. HaltsAt command halt old.desk desk old.input input)
      → IfErr ended (λ _. LeavesAll old (lent desk input out mid) kept)
      → Concludes ended result mid report → IfOk result (λ s. Ends spelled s old (lent desk input out report) kept)
  call_ends (Ok end) result old desk input out mid report kept does why leaves ends =
      subst (λ (r : Result Status Waiting). IfOk r (λ s. Ends spelled s old (lent desk input out report) kept)) (sym ends.0)
      (done command end is refl (subst (λ (r : SinkMeaning). Does command end old (lent desk input out r) kept) (sym ends.1) does))
  call_ends (Err (Stops stop)) result old desk input out mid report kept does why leaves ends =
      subst (λ (r : Result Status Waiting). IfOk r (λ s. Ends spelled s old (lent desk input out report) kept)) (sym ends.0)
      (stopped stop refl
      (subst (λ (c : Option CommandValue). vest.Stops c stop old.desk desk old.input input) (sym is) why)
      (record {
        desk = leaves.desk;
        out = leaves.out;
        kept_nothing = leaves.kept_nothing;
        said = subst (λ (r : SinkMeaning). Says (line_of stop) r report) leaves.report ends.1;
      }))
  call_ends (Err (Waits waiting)) result old desk input out mid report kept does why leaves ends =
      subst (λ (r : Result Status Waiting). IfOk r (λ s. Ends spelled s old (lent desk input out report) kept)) (sym ends.0) tt

  pub call_waits : (ended : Result Done Halt) (result : Result Status Waiting) (old : Lent) (desk : DeskMeaning) (input : SourceMeaning) (out mid report : SinkMeaning) (kept : KeptValue)
      → IfErr ended (λ halt. HaltsAt command halt old.desk desk old.input input) → IfErr ended WaitsReady
      → IfErr ended (λ _. LeavesAll old (lent desk input out mid) kept)
      → ((d : Decision) → DecidesOn command old.desk.files old.input.left d → IsHaltDecided ended d)
      → Concludes ended result mid report → IfErr result (λ waiting. CallWaits spelled waiting old (lent desk input out report) kept)
  call_waits (Ok end) result old desk input out mid report kept why ready leaves decides ends =
      subst (λ (r : Result Status Waiting). IfErr r (λ waiting. CallWaits spelled waiting old (lent desk input out report) kept)) (sym ends.0) tt
  call_waits (Err (Stops stop)) result old desk input out mid report kept why ready leaves decides ends =
      subst (λ (r : Result Status Waiting). IfErr r (λ waiting. CallWaits spelled waiting old (lent desk input out report) kept)) (sym ends.0) tt
  call_waits (Err (Waits waiting)) result old desk input out mid report kept why ready leaves decides ends =
      subst (λ (r : Result Status Waiting). IfErr r (λ w. CallWaits spelled w old (lent desk input out report) kept)) (sym ends.0)
      (record {
        command = command;
        is = is;
        waits = why;
        leaves = subst (λ (r : SinkMeaning). LeavesAll old (lent desk input out r) kept) (sym ends.1) leaves;
        ready = ready;
        decided = λ d e. decides d (subst (λ (c : Option CommandValue). DecidesCall c old.desk.files old.input.left d) is e);
      })

  pub call_no_usage : (ended : Result Done Halt) (result : Result Status Waiting) (mid report : SinkMeaning) → Concludes ended result mid report
      → IfOk result (λ s. s ≡ status.Usage → spelled ≡ None)
  call_no_usage (Ok end) result mid report ends =
      subst (λ (r : Result Status Waiting). IfOk r (λ s. s ≡ status.Usage → spelled ≡ None)) (sym ends.0) (λ e. absurd (done_no_usage end e))
  call_no_usage (Err (Stops stop)) result mid report ends =
      subst (λ (r : Result Status Waiting). IfOk r (λ s. s ≡ status.Usage → spelled ≡ None)) (sym ends.0) (λ e. absurd (stop_no_usage stop e))
  call_no_usage (Err (Waits waiting)) result mid report ends =
      subst (λ (r : Result Status Waiting). IfOk r (λ s. s ≡ status.Usage → spelled ≡ None)) (sym ends.0) tt

  pub call_spelled : (result : Status) → spelled ≡ None → (result ≡ status.Usage) ⊎ (result ≡ status.WantOfMemory)
  call_spelled result none = absurd (let same : None ≡ Some command = sym none ∙ is in cc same)

  pub call_has_spelled : (result : Result Status Waiting) → IfOk result (λ s. spelled ≡ None → (s ≡ status.Usage) ⊎ (s ≡ status.WantOfMemory))
  call_has_spelled (Ok s) = call_spelled s
  call_has_spelled (Err waiting) = tt

  pub call_decided : (ended : Result Done Halt) (result : Result Status Waiting) (old new : Lent) (kept : KeptValue) (mid report : SinkMeaning) (files : Option Files) (left : Option (List ℕ))
      → IfOk ended (λ end. Does command end old new kept) → ((d : Decision) → DecidesOn command files left d → IsHaltDecided ended d)
      → Concludes ended result mid report → IfOk result (λ s. (d : Decision) → DecidesCall spelled files left d → IsOrFault spelled s d)
  call_decided (Ok end) result old new kept mid report files left does decides ends =
      subst (λ (r : Result Status Waiting). IfOk r (λ s. (d : Decision) → DecidesCall spelled files left d → IsOrFault spelled s d)) (sym ends.0)
      (λ d e. done_as spelled command end old new kept d is does (decides d (subst (λ (c : Option CommandValue). DecidesCall c files left d) is e)))
  call_decided (Err (Stops stop)) result old new kept mid report files left does decides ends =
      subst (λ (r : Result Status Waiting). IfOk r (λ s. (d : Decision) → DecidesCall spelled files left d → IsOrFault spelled s d)) (sym ends.0)
      (λ d e. stopped_as spelled stop d (decides d (subst (λ (c : Option CommandValue). DecidesCall c files left d) is e)))
  call_decided (Err (Waits waiting)) result old new kept mid report files left does decides ends =
      subst (λ (r : Result Status Waiting). IfOk r (λ s. (d : Decision) → DecidesCall spelled files left d → IsOrFault spelled s d)) (sym ends.0) tt

-- ---- or none, or there was no memory to see that
module _ (spelled : Option CommandValue) where
  pub words_end : (fault : WordsFault) (result : Status) (desk : DeskMeaning) (input : SourceMeaning) (out mid report : SinkMeaning) (kept : KeptValue)
      → (fault ≡ Usage → spelled ≡ None) → kept ≡ nothing_kept → RefusesWords fault result mid report
      → Ends spelled result (lent desk input out mid) (lent desk input out report) kept
  words_end Usage result desk input out mid report kept none nothing says =
      unspelled (none refl) says.0 (record { same_desk = refl; same_input = refl }) (record { desk = record { files = refl; write_faults = refl; read_faults = omega arith }; out = refl; kept_nothing = nothing; said = says.1 })
  words_end faults.WantOfMemory result desk input out mid report kept none nothing says =
      stopped WantOfMemory says.0 (stops_short spelled)
      (record { desk = record { files = refl; write_faults = refl; read_faults = omega arith }; out = refl; kept_nothing = nothing; said = says.1 })
    where
      stops_short : (c : Option CommandValue) → vest.Stops c WantOfMemory desk desk input input
      stops_short None = record { same_desk = refl; same_input = refl }
      stops_short (Some (run name options)) = inl (inl tt, refl)
      stops_short (Some (live name options)) = (inl (inl tt), refl)
      stops_short (Some (translate image to target hints)) = (inl tt, refl)
      stops_short (Some (list name)) = (inl tt, refl)
      stops_short (Some (generate number)) = (refl, record { same_desk = refl; same_input = refl })
      stops_short (Some (replay name file hints)) = (inl (inl tt), refl)

  pub words_usage : (fault : WordsFault) (result : Status) (mid report : SinkMeaning) → (fault ≡ Usage → spelled ≡ None) → RefusesWords fault result mid report
      → result ≡ status.Usage → spelled ≡ None
  words_usage Usage result mid report none says e = none refl
  words_usage faults.WantOfMemory result mid report none says e = absurd (let same : status.WantOfMemory ≡ status.Usage = sym says.0 ∙ e in cc same)

  pub words_unspelled : (fault : WordsFault) (result : Status) (mid report : SinkMeaning) → RefusesWords fault result mid report
      → (result ≡ status.Usage) ⊎ (result ≡ status.WantOfMemory)
  words_unspelled Usage result mid report says = inl says.0
  words_unspelled faults.WantOfMemory result mid report says = inr says.0

  pub words_decided : (fault : WordsFault) (result : Status) (mid report : SinkMeaning) (files : Option Files) (left : Option (List ℕ)) → (fault ≡ Usage → spelled ≡ None)
      → RefusesWords fault result mid report → (d : Decision) → DecidesCall spelled files left d → IsOrFault spelled result d
  words_decided Usage result mid report files left none says d e =
      subst (λ (s : Status). IsOrFault spelled s d) (sym says.0) (usage_decided spelled (none refl) e)
    where
      usage_decided : (c : Option CommandValue) → c ≡ None → DecidesCall c files left d → IsOrFault c status.Usage d
      usage_decided None is h = subst (λ (x : Decision). IsOrFault None status.Usage x) (sym h) refl
      usage_decided (Some command) is h = absurd (cc is)
  words_decided faults.WantOfMemory result mid report files left none says d e =
      subst (λ (s : Status). IsOrFault spelled s d) (sym says.0) tt
