-- What each command does and why it stops, as the top call says it.
use Rattle.std.proofs.Common.{◌≡◌, List, Option, Result, Ok, Err, IfErr, IfOk, ◌∙◌, refl, sym, ap, subst, arith}
use Rattle.std.specs.Prelude.{ℕ}
use Rattle.std.proofs.lemmas.Result.{IfErr-weaker, IfOk-weaker}
use Rattle.command_words.specs.Commands.{CommandValue, LiveOptionsValue, OptionsValue, generate, live, run}
use Rattle.image_meaning.specs.declared.target.Target.{Target}
use Rattle.vt_outside.specs.Desk.{DeskMeaning, Files}
use Rattle.vt_outside.specs.Sink.{SinkMeaning}
use Rattle.vt_outside.specs.Source.{SourceMeaning}
use Rattle.vest_stops.specs.Decided.{Decision, IsDecided}
use Rattle.vest_files.specs.List.{Lists}
use Rattle.vest_stops.specs.Files.{SameFiles}
use Rattle.vest_files.specs.Translate.{Translates}
use Rattle.vest_stops.specs.declared.status.Done.{Done}
use Rattle.vest_stops.specs.declared.stop.Stop.{Stop}
use Rattle.vest_cli.specs.Generate.{Generates}
use Rattle.vest_runs.specs.Kept.{KeptValue, nothing_kept}
use Rattle.vest_cli.specs.Lent.{Lent, lent}
use Rattle.vest_cli.specs.Leaving.{LeavesAll}
use Rattle.vest_cli.specs.Decided.{DecidesOn}
use Rattle.vest_cli.specs.Live.{StopsLive}
use Rattle.vest_cli.specs.Replay.{Replays}
use Rattle.vest_cli.specs.Run.{target_of}
use Rattle.vest_cli.specs.Vest.{Does, OnlyGenerates, OnlyLists, OnlyReplays, OnlyTranslates, StopsAt}
use Rattle.vest_cli.specs.Waiting.{HaltsAt, HaltsGenerate, HaltsRun, IsHaltDecided, WaitsReady, or_halt}
use Rattle.vest_cli.specs.declared.halt.Halt.{Halt}
use Rattle.vest_cli.specs.declared.halt.Halt.TheVariants.{Stops, Waits}

-- ---- of a command that is this one
module _ (r : Result Done Halt) where
  pub does_as : (command is : CommandValue) (old new : Lent) (kept : KeptValue) → command ≡ is → IfOk r (λ end. Does is end old new kept) → IfOk r (λ end. Does command end old new kept)
  does_as command is old new kept e h = subst (λ (c : CommandValue). IfOk r (λ end. Does c end old new kept)) (sym e) h

  pub halts_as : (command is : CommandValue) (desk desk' : DeskMeaning) (input input' : SourceMeaning) → command ≡ is → IfErr r (λ halt. HaltsAt is halt desk desk' input input')
      → IfErr r (λ halt. HaltsAt command halt desk desk' input input')
  halts_as command is desk desk' input input' e h = subst (λ (c : CommandValue). IfErr r (λ halt. HaltsAt c halt desk desk' input input')) (sym e) h

  pub decided_as : (command is : CommandValue) (files : Option Files) (left : Option (List ℕ)) → command ≡ is → ((d : Decision) → DecidesOn is files left d → IsHaltDecided r d)
      → (d : Decision) → DecidesOn command files left d → IsHaltDecided r d
  decided_as command is files left e h d on = h d (subst (λ (c : CommandValue). DecidesOn c files left d) e on)

-- ---- of one that waits for no threads
module _ (r : Result Done Stop) (result : Result Done Halt) (same : result ≡ or_halt r) where
  pub ok_so : (P : Done → Type 0) → IfOk r P → IfOk result P
  ok_so P h = subst (λ (x : Result Done Halt). IfOk x P) (sym same) (go r h)
    where
      go : (x : Result Done Stop) → IfOk x P → IfOk (or_halt x) P
      go (Ok end) p = p
      go (Err stop) p = tt

  pub err_so : (L : Type 0) → IfErr r (λ _. L) → IfErr result (λ _. L)
  err_so L h = subst (λ (x : Result Done Halt). IfErr x (λ _. L)) (sym same) (go r h)
    where
      go : (x : Result Done Stop) → IfErr x (λ _. L) → IfErr (or_halt x) (λ _. L)
      go (Ok end) p = tt
      go (Err stop) p = p

  pub why_so : (command : CommandValue) (desk desk' : DeskMeaning) (input input' : SourceMeaning) → IfErr r (λ stop. StopsAt command stop desk desk' input input')
      → IfErr result (λ halt. HaltsAt command halt desk desk' input input')
  why_so command desk desk' input input' h = subst (λ (x : Result Done Halt). IfErr x (λ halt. HaltsAt command halt desk desk' input input')) (sym same) (go r h)
    where
      go : (x : Result Done Stop) → IfErr x (λ stop. StopsAt command stop desk desk' input input') → IfErr (or_halt x) (λ halt. HaltsAt command halt desk desk' input input')
      go (Ok end) p = tt
      go (Err stop) p = p

  pub ready_so : IfErr result WaitsReady
  ready_so = subst (λ (x : Result Done Halt). IfErr x WaitsReady) (sym same) (go r)
    where
      go : (x : Result Done Stop) → IfErr (or_halt x) WaitsReady
      go (Ok end) = tt
      go (Err stop) = tt

  pub decided_so : (d : Decision) → IsDecided r d → IsHaltDecided result d
  decided_so d h = subst (λ (x : Result Done Halt). IsHaltDecided x d) (sym same) (go r h)
    where
      go : (x : Result Done Stop) → IsDecided x d → IsHaltDecided (or_halt x) d
      go (Ok end) p = p
      go (Err stop) p = p

module _ (r : Result Done Stop) where
  -- ---- nothing else is touched
  module _ (input : SourceMeaning) (report : SinkMeaning) (kept : KeptValue) (nothing : kept ≡ nothing_kept) where
    pub only_translates : (target : Target) (image to : List ℕ) (hints : Option (List ℕ)) (desk desk' : DeskMeaning) (out : SinkMeaning) → IfOk r (λ end. Translates target end image to hints desk desk')
        → IfOk r (λ end. OnlyTranslates target end image to hints (lent desk input out report) (lent desk' input out report) kept)
    only_translates target image to hints desk desk' out h =
        IfOk-weaker r _ _ (λ end translates. record { translates = translates; out = refl; report = refl; input = refl; kept_nothing = nothing }) h

    pub only_lists : (name : List ℕ) (desk desk' : DeskMeaning) (out out' : SinkMeaning) → SameFiles desk desk' → IfOk r (λ end. Lists end name desk out out')
        → IfOk r (λ end. OnlyLists end name (lent desk input out report) (lent desk' input out' report) kept)
    only_lists name desk desk' out out' same h =
        IfOk-weaker r _ _ (λ end lists. record { lists = lists; desk = same; report = refl; input = refl; kept_nothing = nothing }) h

    pub only_replays : (name file : List ℕ) (hints : Option (List ℕ)) (desk desk' : DeskMeaning) (out out' report' : SinkMeaning) → IfOk r (λ end. Replays end name file hints desk desk' out out' report report')
        → IfOk r (λ end. OnlyReplays end name file hints (lent desk input out report) (lent desk' input out' report') kept)
    only_replays name file hints desk desk' out out' report' h =
        IfOk-weaker r _ _ (λ end replays. record { replays = replays; input = refl; kept_nothing = nothing }) h

    pub replay_leaves : (desk desk' : DeskMeaning) (out out' report' : SinkMeaning) → IfErr r (λ _. SameFiles desk desk') → IfErr r (λ _. out' ≡ out) → IfErr r (λ _. report' ≡ report)
        → IfErr r (λ _. LeavesAll (lent desk input out report) (lent desk' input out' report') kept)
    replay_leaves desk desk' out out' report' stays unsent unsaid = go r stays unsent unsaid
      where
        go : (x : Result Done Stop) → IfErr x (λ _. SameFiles desk desk') → IfErr x (λ _. out' ≡ out) → IfErr x (λ _. report' ≡ report) → IfErr x (λ _. LeavesAll (lent desk input out report) (lent desk' input out' report') kept)
        go (Ok end) same sent said = tt
        go (Err stop) same sent said = record { desk = same; out = sent; report = said; kept_nothing = nothing }

    pub translate_leaves : (desk desk' : DeskMeaning) (out : SinkMeaning) → IfErr r (λ _. SameFiles desk desk')
        → IfErr r (λ _. LeavesAll (lent desk input out report) (lent desk' input out report) kept)
    translate_leaves desk desk' out h = IfErr-weaker r _ _ (λ stop same. record { desk = same; out = refl; report = refl; kept_nothing = nothing }) h

    pub list_leaves : (desk desk' : DeskMeaning) (out out' : SinkMeaning) → SameFiles desk desk' → IfErr r (λ _. out' ≡ out)
        → IfErr r (λ _. LeavesAll (lent desk input out report) (lent desk' input out' report) kept)
    list_leaves desk desk' out out' same h = IfErr-weaker r _ _ (λ stop unsent. record { desk = same; out = unsent; report = refl; kept_nothing = nothing }) h

  pub input_stays : (StopsSo : Stop → Type 0) (input : SourceMeaning) → IfErr r StopsSo → IfErr r (λ stop. StopsSo stop × (input ≡ input))
  input_stays StopsSo input h = IfErr-weaker r _ _ (λ stop so. (so, refl)) h

-- ---- of `generate`, which touches no desk
same_files : (desk desk' : DeskMeaning) → desk' ≡ desk → SameFiles desk desk'
same_files desk desk' same =
    let reads : desk'.read_faults ≡ desk.read_faults = ap (λ (d : DeskMeaning). d.read_faults) same in
    record { files = ap (λ (d : DeskMeaning). d.files) same; write_faults = ap (λ (d : DeskMeaning). d.write_faults) same; read_faults = omega (arith, reads) }

pub only_generates : (r : Result Done Halt) (number : ℕ) (desk desk' : DeskMeaning) (input : SourceMeaning) (out out' report report' : SinkMeaning) (kept : KeptValue) → desk' ≡ desk → IfOk r (λ end. Generates end number out out' report report' kept)
    → IfOk r (λ end. OnlyGenerates end number (lent desk input out report) (lent desk' input out' report') kept)
only_generates r number desk desk' input out out' report report' kept same h =
    IfOk-weaker r _ _ (λ end generates. record { generates = generates; desk = same; input = refl }) h

pub generate_why : (r : Result Done Halt) (number : ℕ) (desk desk' : DeskMeaning) (input : SourceMeaning) → desk' ≡ desk → IfErr r (λ halt. HaltsGenerate halt number)
    → IfErr r (λ halt. HaltsAt (generate number) halt desk desk' input input)
generate_why (Ok end) number desk desk' input same h = tt
generate_why (Err (Stops stop)) number desk desk' input same h = (h, record { same_desk = same; same_input = refl })
generate_why (Err (Waits waiting)) number desk desk' input same h = (h, record { same_desk = same; same_input = refl })

pub generate_leaves : (r : Result Done Halt) (desk desk' : DeskMeaning) (input : SourceMeaning) (out out' report report' : SinkMeaning) (kept : KeptValue)
    → desk' ≡ desk → IfErr r (λ _. out' ≡ out) → IfErr r (λ _. report' ≡ report) → IfErr r (λ _. kept ≡ nothing_kept)
    → IfErr r (λ _. LeavesAll (lent desk input out report) (lent desk' input out' report') kept)
generate_leaves (Ok end) desk desk' input out out' report report' kept same unsent unsaid unkept = tt
generate_leaves (Err halt) desk desk' input out out' report report' kept same unsent unsaid unkept =
    record { desk = same_files desk desk' same; out = unsent; report = unsaid; kept_nothing = unkept }

-- ---- of `run`
pub run_why : (r : Result Done Halt) (name : List ℕ) (options : OptionsValue) (desk desk' : DeskMeaning) (input input' : SourceMeaning)
    → IfErr r (λ halt. HaltsRun halt name options desk desk' input input') → IfErr r (λ halt. HaltsAt (run name options) halt desk desk' input input')
run_why (Ok end) name options desk desk' input input' h = tt
run_why (Err (Stops stop)) name options desk desk' input input' h = h
run_why (Err (Waits waiting)) name options desk desk' input input' h = h

-- ---- of `run --live`
pub live_why : (r : Result Done Stop) (name : List ℕ) (options : LiveOptionsValue) (desk desk' : DeskMeaning) (input input' : SourceMeaning)
    → IfErr r (λ stop. StopsLive stop (target_of options.target) name desk desk') → IfErr r (λ _. input' ≡ input)
    → IfErr r (λ stop. StopsAt (live name options) stop desk desk' input input')
live_why (Ok end) name options desk desk' input input' why unasked = tt
live_why (Err stop) name options desk desk' input input' why unasked = (why, unasked)

pub live_leaves : (r : Result Done Stop) (old new : Lent) (before kept : KeptValue) → before ≡ nothing_kept → SameFiles old.desk new.desk → IfErr r (λ _. new.out ≡ old.out)
    → IfErr r (λ _. new.report ≡ old.report) → IfErr r (λ _. kept ≡ before) → IfErr r (λ _. LeavesAll old new kept)
live_leaves (Ok end) old new before kept nothing same unsent unsaid unkept = tt
live_leaves (Err stop) old new before kept nothing same unsent unsaid unkept = record { desk = same; out = unsent; report = unsaid; kept_nothing = unkept ∙ nothing }
