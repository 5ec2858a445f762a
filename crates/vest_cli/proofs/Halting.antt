-- What a run that waits comes to.
use Rattle.std.proofs.Common.{◌≡◌, ◌≤◌, ◌⊎◌, ◌∙◌, arith, zero-le, List, Option, None, Some, Result, Ok, Err, IfErr, IfOk, refl, sym, ap, subst, inr}
use Rattle.std.specs.Prelude.{ℕ, []}
use Rattle.command_words.specs.Commands.{CommandValue, OptionsValue, DEFAULT_LIMITS, generate, list, live, replay, run, translate}
use Rattle.command_words.specs.declared.commands.Limits.{Limits}
use Rattle.vt_outside.specs.Desk.{DeskMeaning, Files}
use Rattle.vt_outside.specs.Sink.{SinkMeaning}
use Rattle.vt_outside.specs.Source.{SourceMeaning}
use Rattle.image_file.specs.Values.{ImageValue}
use Rattle.image_file.specs.Whole.{IsWhole}
use Rattle.block_law.specs.Translations.{Meets}
use Rattle.image_meaning.specs.Meant.{image_meaning}
use Rattle.image_meaning.specs.Permits.{permit_of}
use Rattle.image_meaning.specs.declared.target.Target.{Target}
use Rattle.image_meaning.specs.declared.target.Target.TheVariants.{Original}
use Rattle.report_text.specs.Generated.{generated_image}
use Rattle.report_text.specs.declared.images.TheConstants.{MOST_GROUPS}
use Rattle.system_model.specs.declared.translation.Range.{Range}
use Rattle.vest_stops.specs.Decided.{Decision, goes_on, StopsAsDecided}
use Rattle.vest_stops.specs.Files.{SameFiles}
use Rattle.vest_stops.specs.Line.{line_of}
use Rattle.vest_stops.specs.declared.status.Done.{Done}
use Rattle.vest_stops.specs.declared.status.Status.{Status}
use Rattle.vest_stops.specs.declared.status.Status.TheVariants as status
use Rattle.vest_stops.specs.declared.stop.Stop.{Stop}
use Rattle.vest_stops.specs.declared.stop.Stop.TheVariants.{WantOfMemory}
use Rattle.vest_runs.specs.Delivery.{DeliversRun}
use Rattle.vest_runs.specs.Generate.{lines_of}
use Rattle.vest_runs.specs.Input.{HasGiven, ReadsAll}
use Rattle.vest_runs.specs.Keeping.{HasKept, processors_of, set_up_of}
use Rattle.vest_runs.specs.Kept.{KeptValue, nothing_kept}
use Rattle.vest_runs.specs.Order.{order_kept}
use Rattle.run_files.specs.Spelling.{order_bytes}
use Rattle.vest_cli.specs.Decided.{DecidesCall, IsOrFault}
use Rattle.vest_cli.specs.Generate.{Generates}
use Rattle.vest_cli.specs.Leaving.{LeavesAll}
use Rattle.vest_cli.specs.Lent.{Lent, lent}
use Rattle.vest_cli.specs.Run.{IsTask, Runs, StopsRun, target_of}
use Rattle.vest_cli.specs.Storing.{name_of}
use Rattle.vest_ends.specs.Says.{Says}
use Rattle.vest_cli.specs.Vest as vest
use Rattle.vest_cli.specs.Vest.{Does, Ends, StopsAt, done, stopped}
use Rattle.vest_cli.specs.Waiting.{CallWaits, CanPut, Finishes, Gives, HaltsBehind, HaltsGenerate, HaltsRun, HasSeveral, IsGenerated, IsHaltDecided, IsReady, IsToRun, WaitsAt, WaitsReady, given, short}
use Rattle.vest_cli.specs.declared.execute.Task.{Task}
use Rattle.vest_cli.specs.declared.halt.Halt.{Halt}
use Rattle.vest_cli.specs.declared.halt.Halt.TheVariants.{Stops, Waits}
use Rattle.vest_cli.specs.declared.waiting.Puts.{Puts}
use Rattle.vest_cli.specs.declared.waiting.Puts.TheVariants.{Output, Lines}
use Rattle.vest_cli.specs.declared.waiting.Waiting.{Waiting}
use Rattle.vest_cli.proofs.Deciding.{done_as, done_no_usage}
use Rattle.vest_cli.proofs.OrderFiles.{stored_behind, unasked_is}

-- ---- a run that was made is what its command does
pub runs_so : (end : Done) (name : List ℕ) (options : OptionsValue) (old new : Lent) (mid : DeskMeaning) (kept : KeptValue) (task : Task)
    → IsTask name options old.desk.files old.input new.input task → SameFiles old.desk mid → Gives end task Output options.order mid new.desk old.out new.out old.report new.report kept
    → Runs end name options old new kept
runs_so end name options old new mid kept task is same g =
    let of = HasKept task.loaded.image task.loaded.target task.loaded.translation in
    let by_input : of kept.input task.limits task.ranges.items kept = subst (λ (i : List ℕ). of i task.limits task.ranges.items kept) (sym g.has_kept.input) g.has_kept in
    let by_limits : of kept.input options.limits task.ranges.items kept = subst (λ (l : Limits). of kept.input l task.ranges.items kept) is.same_limits by_input in
    record {
      image = task.loaded.image;
      target = task.loaded.target;
      code = task.loaded.translation;
      loaded = is.loads;
      whole = is.whole;
      meets = is.meets;
      input = subst (λ (i : List ℕ). ReadsAll old.input new.input i) (sym g.has_kept.input) is.reads;
      has_kept = subst (λ (r : List Range). of kept.input options.limits r kept) is.same_ranges by_limits;
      run = g.run;
      delivered = g.delivered;
      stored = stored_behind end g.run options.order (order_bytes (order_kept kept)) old.desk mid new.desk same g.stored;
    }

pub generates_so : (end : Done) (number : ℕ) (to : Option (List ℕ)) (desk desk' : DeskMeaning) (out out' report report' : SinkMeaning) (kept : KeptValue) (task : Task)
    → IsGenerated number task → to ≡ None → Gives end task (Lines number) to desk desk' out out' report report' kept → Generates end number out out' report report' kept
generates_so end number to desk desk' out out' report report' kept task is none g =
    let code = task.loaded.translation in
    let image = generated_image number in
    let by_target : HasKept task.loaded.image Original code task.taken.items task.limits task.ranges.items kept =
    subst (λ (t : Target). HasKept task.loaded.image t code task.taken.items task.limits task.ranges.items kept) is.target g.has_kept in
    let by_image : HasKept image Original code task.taken.items task.limits task.ranges.items kept =
    subst (λ (i : ImageValue). HasKept i Original code task.taken.items task.limits task.ranges.items kept) is.image by_target in
    let by_input : HasKept image Original code [] task.limits task.ranges.items kept = subst (λ (i : List ℕ). HasKept image Original code i task.limits task.ranges.items kept) is.taken by_image in
    let by_limits : HasKept image Original code [] DEFAULT_LIMITS task.ranges.items kept = subst (λ (l : Limits). HasKept image Original code [] l task.ranges.items kept) is.limits by_input in
    let end_is : end ≡ g.run = unasked_is end g.run to (order_bytes (order_kept kept)) desk desk' none g.stored in
    let by_end : DeliversRun end (lines_of number code (set_up_of task.loaded.image kept) kept.history) (processors_of kept) out out' report report' =
    subst (λ (d : Done). DeliversRun d (lines_of number code (set_up_of task.loaded.image kept) kept.history) (processors_of kept) out out' report report') (sym end_is) g.delivered in
    record {
      code = code;
      whole = subst IsWhole is.image is.whole;
      translated = is.translated;
      has_kept = subst (λ (r : List Range). HasKept image Original code [] DEFAULT_LIMITS r kept) is.ranges by_limits;
      delivered = subst (λ (i : ImageValue). DeliversRun end (lines_of number code (set_up_of i kept) kept.history) (processors_of kept) out out' report report') is.image by_end;
    }

-- with what is known of what goes out, and where
gives_as : (end : Done) (task : Task) (puts puts' : Puts) (to to' : Option (List ℕ)) (desk desk' : DeskMeaning) (out out' report report' : SinkMeaning) (kept : KeptValue)
    → puts ≡ puts' → to ≡ to' → Gives end task puts to desk desk' out out' report report' kept → Gives end task puts' to' desk desk' out out' report report' kept
gives_as end task puts puts' to to' desk desk' out out' report report' kept same there g =
    subst (λ (t : Option (List ℕ)). Gives end task puts' t desk desk' out out' report report' kept) there
    (subst (λ (p : Puts). Gives end task p to desk desk' out out' report report' kept) same g)

-- ---- what comes of it in `run` and in `generate`
pub runs_ok : (r : Result Done Halt) (name : List ℕ) (options : OptionsValue) (old new : Lent) (mid : DeskMeaning) (kept : KeptValue) (waiting : Waiting)
    → IsToRun name options old.desk.files old.input new.input waiting → SameFiles old.desk mid
    → IfOk r (λ end. Gives end waiting.task waiting.puts (name_of waiting.order) mid new.desk old.out new.out old.report new.report kept) → IfOk r (λ end. Runs end name options old new kept)
runs_ok (Ok end) name options old new mid kept waiting is same g =
    runs_so end name options old new mid kept waiting.task is.task same
    (gives_as end waiting.task waiting.puts Output (name_of waiting.order) options.order mid new.desk old.out new.out old.report new.report kept is.puts is.order g)
runs_ok (Err halt) name options old new mid kept waiting is same g = tt

-- an input that was read to its end was read within what may be read
given_all : (old new : SourceMeaning) (bytes : List ℕ) → ReadsAll old new bytes → HasGiven 0 65537 old new
given_all old new bytes reads = record { bytes = bytes; enough = zero-le; few = omega (arith, reads.short); read = reads.read }

-- memory may run out behind the task
pub stops_short : (name : List ℕ) (options : OptionsValue) (desk desk' : DeskMeaning) (input input' : SourceMeaning) (task : Task) → IsTask name options desk.files input input' task
    → StopsRun WantOfMemory (target_of options.target) name desk desk' input input'
stops_short name options desk desk' input input' task is = inr (task.loaded.image, task.loaded.target, task.loaded.translation, is.loads, given_all input input' task.taken.items is.reads)

pub run_halts : (r : Result Done Halt) (name : List ℕ) (options : OptionsValue) (desk desk' : DeskMeaning) (input input' : SourceMeaning) (waiting : Waiting)
    → IsToRun name options desk.files input input' waiting → IfErr r (HaltsBehind waiting)
    → IfErr r (λ halt. HaltsRun halt name options desk desk' input input')
run_halts (Ok end) name options desk desk' input input' waiting is why = tt
run_halts (Err (Stops stop)) name options desk desk' input input' waiting is why =
    subst (λ (s : Stop). StopsRun s (target_of options.target) name desk desk' input input') (sym why) (stops_short name options desk desk' input input' waiting.task is.task)
run_halts (Err (Waits other)) name options desk desk' input input' waiting is why = record {
  is = subst (λ (w : Waiting). IsToRun name options desk.files input input' w) (sym why.0) is;
  several = subst HasSeveral (sym why.0) why.1;
}

pub run_leaves : (r : Result Done Halt) (old new : Lent) (mid : DeskMeaning) (kept : KeptValue) → SameFiles old.desk mid → IfErr r (λ _. new.desk ≡ mid)
    → IfErr r (λ _. new.out ≡ old.out) → IfErr r (λ _. new.report ≡ old.report) → IfErr r (λ _. kept ≡ nothing_kept) → IfErr r (λ _. LeavesAll old new kept)
run_leaves (Ok end) old new mid kept same untouched unsent unsaid unkept = tt
run_leaves (Err halt) old new mid kept same untouched unsent unsaid unkept =
    record { desk = subst (λ (d : DeskMeaning). SameFiles old.desk d) (sym untouched) same; out = unsent; report = unsaid; kept_nothing = unkept }

pub to_run_is_ready : (name : List ℕ) (options : OptionsValue) (files : Option Files) (input input' : SourceMeaning) (waiting : Waiting) → IsToRun name options files input input' waiting → IsReady waiting
to_run_is_ready name options files input input' waiting is = record {
  whole = is.task.whole;
  meets = is.task.meets;
  puts = subst CanPut (sym is.puts) tt;
  room = is.room;
}

pub generates_ok : (r : Result Done Halt) (number : ℕ) (to : Option (List ℕ)) (desk desk' : DeskMeaning) (out out' report report' : SinkMeaning) (kept : KeptValue) (task : Task)
    → IsGenerated number task → to ≡ None → IfOk r (λ end. Gives end task (Lines number) to desk desk' out out' report report' kept) → IfOk r (λ end. Generates end number out out' report report' kept)
generates_ok (Ok end) number to desk desk' out out' report report' kept task is none g = generates_so end number to desk desk' out out' report report' kept task is none g
generates_ok (Err halt) number to desk desk' out out' report report' kept task is none g = tt

pub generate_untouched : (r : Result Done Halt) (task : Task) (puts : Puts) (to : Option (List ℕ)) (desk desk' : DeskMeaning) (out out' report report' : SinkMeaning) (kept : KeptValue)
    → to ≡ None → IfOk r (λ end. Gives end task puts to desk desk' out out' report report' kept) → IfErr r (λ _. desk' ≡ desk) → desk' ≡ desk
generate_untouched (Ok end) task puts to desk desk' out out' report report' kept none g untouched = g.unasked none
generate_untouched (Err halt) task puts to desk desk' out out' report report' kept none g untouched = untouched

pub generate_halts : (r : Result Done Halt) (number : ℕ) (waiting : Waiting) → IsGenerated number waiting.task → waiting.puts ≡ Lines number → name_of waiting.order ≡ None → IfErr r (HaltsBehind waiting)
    → IfErr r (λ halt. HaltsGenerate halt number)
generate_halts (Ok end) number waiting is puts none why = tt
generate_halts (Err (Stops stop)) number waiting is puts none why = why
generate_halts (Err (Waits other)) number waiting is puts none why = record {
  task = subst (λ (w : Waiting). IsGenerated number w.task) (sym why.0) is;
  puts = ap (λ (w : Waiting). w.puts) why.0 ∙ puts;
  order = ap (λ (w : Waiting). name_of w.order) why.0 ∙ none;
  several = subst HasSeveral (sym why.0) why.1;
}

-- ---- and in both
pub halts_ready : (r : Result Done Halt) (waiting : Waiting) → IsReady waiting → IfErr r (HaltsBehind waiting) → IfErr r WaitsReady
halts_ready (Ok end) waiting ready why = tt
halts_ready (Err (Stops stop)) waiting ready why = tt
halts_ready (Err (Waits other)) waiting ready why = subst IsReady (sym why.0) ready

pub halts_decided : (r : Result Done Halt) (waiting : Waiting) (d : Decision) → d ≡ goes_on → IfErr r (HaltsBehind waiting) → IsHaltDecided r d
halts_decided (Ok end) waiting d on why = on
halts_decided (Err (Stops stop)) waiting d on why = subst (λ (s : Stop). StopsAsDecided s d) (sym why) tt
halts_decided (Err (Waits other)) waiting d on why = on

pub generate_decided : (r : Result Done Halt) (number : ℕ) → IfErr r (λ halt. HaltsGenerate halt number) → (d : Decision) → d ≡ goes_on → IsHaltDecided r d
generate_decided (Ok end) number why d on = on
generate_decided (Err (Stops stop)) number why d on = subst (λ (s : Stop). StopsAsDecided s d) (sym why) tt
generate_decided (Err (Waits waiting)) number why d on = on

pub generated_is_ready : (number : ℕ) (task : Task) → number ≤ MOST_GROUPS → IsGenerated number task → IsReady (record { task = task; puts = Lines number; order = None })
generated_is_ready number task few is = record {
  whole = is.whole;
  meets = subst (λ (t : Target). Meets (image_meaning task.loaded.image.pages) (permit_of t task.loaded.image.pages) task.loaded.translation) (sym is.target)
      (subst (λ (i : ImageValue). Meets (image_meaning i.pages) (permit_of Original i.pages) task.loaded.translation) (sym is.image) is.translated.meets);
  puts = few;
  room = tt;
}

-- ---- the call
module _ (spelled : Option CommandValue) (waiting : Waiting) (result : Status) (old mid : Lent) (before : KeptValue) (desk : DeskMeaning) (out report : SinkMeaning) (kept : KeptValue)
    (w : CallWaits spelled waiting old mid before) where
  abbrev pub new : Lent
  new = lent desk mid.input out report

  waits_short : (command : CommandValue) → WaitsAt command waiting old.desk mid.desk old.input mid.input → StopsAt command WantOfMemory old.desk mid.desk old.input mid.input
  waits_short (run name options) h = stops_short name options old.desk mid.desk old.input mid.input waiting.task h.is.task
  waits_short (live name options) h = absurd h
  waits_short (translate image to target hints) h = absurd h
  waits_short (list name) h = absurd h
  waits_short (generate number) h = (refl, h.1)
  waits_short (replay name file hints) h = absurd h

  gives_put : (end : Done) (puts : Puts) (to : Option (List ℕ)) → waiting.puts ≡ puts → name_of waiting.order ≡ to
      → Gives end waiting.task waiting.puts (name_of waiting.order) mid.desk desk mid.out out mid.report report kept
      → Gives end waiting.task puts to mid.desk desk old.out out old.report report kept
  gives_put end puts to same there g =
      gives_as end waiting.task waiting.puts puts (name_of waiting.order) to mid.desk desk old.out out old.report report kept same there
      (subst (λ (r : SinkMeaning). Gives end waiting.task waiting.puts (name_of waiting.order) mid.desk desk old.out out r report kept) w.leaves.report
      (subst (λ (o : SinkMeaning). Gives end waiting.task waiting.puts (name_of waiting.order) mid.desk desk o out mid.report report kept) w.leaves.out g))

  does_so : (end : Done) (command : CommandValue) → WaitsAt command waiting old.desk mid.desk old.input mid.input
      → Gives end waiting.task waiting.puts (name_of waiting.order) mid.desk desk mid.out out mid.report report kept → Does command end old new kept
  does_so end (run name options) h g =
      runs_so end name options old new mid.desk kept waiting.task h.is.task w.leaves.desk (gives_put end Output options.order h.is.puts h.is.order g)
  does_so end (live name options) h g = absurd h
  does_so end (translate image to target hints) h g = absurd h
  does_so end (list name) h g = absurd h
  does_so end (generate number) h g = record {
    generates = generates_so end number None mid.desk desk old.out out old.report report kept waiting.task h.0.task refl (gives_put end (Lines number) None h.0.puts h.0.order g);
    desk = g.unasked h.0.order ∙ h.1.same_desk;
    input = h.1.same_input;
  }
  does_so end (replay name file hints) h g = absurd h

  pub finish_ends : Finishes waiting result mid.desk desk mid.out out mid.report report kept → Ends spelled result old new kept
  finish_ends (short is untouched same nothing says) =
      stopped WantOfMemory is
      (subst (λ (d : DeskMeaning). vest.Stops spelled WantOfMemory old.desk d old.input mid.input) (sym untouched)
      (subst (λ (c : Option CommandValue). vest.Stops c WantOfMemory old.desk mid.desk old.input mid.input) (sym w.is) (waits_short w.command w.waits)))
      (record {
        desk = subst (λ (d : DeskMeaning). SameFiles old.desk d) (sym untouched) w.leaves.desk;
        out = same ∙ w.leaves.out;
        kept_nothing = nothing;
        said = subst (λ (r : SinkMeaning). Says (line_of WantOfMemory) r report) w.leaves.report says;
      })
  finish_ends (given end is g) = done w.command end w.is is (does_so end w.command w.waits g)

  pub finish_no_usage : Finishes waiting result mid.desk desk mid.out out mid.report report kept → result ≡ status.Usage → spelled ≡ None
  finish_no_usage (short is untouched same nothing says) e = absurd (let same_status : status.WantOfMemory ≡ status.Usage = sym is ∙ e in cc same_status)
  finish_no_usage (given end is g) e = absurd (done_no_usage end (sym is ∙ e))

  pub finish_spelled : spelled ≡ None → (result ≡ status.Usage) ⊎ (result ≡ status.WantOfMemory)
  finish_spelled none = absurd (let same : None ≡ Some w.command = sym none ∙ w.is in cc same)

  pub finish_decided : Finishes waiting result mid.desk desk mid.out out mid.report report kept → (d : Decision) → DecidesCall spelled old.desk.files old.input.left d → IsOrFault spelled result d
  finish_decided (short is untouched same nothing says) d e = subst (λ (s : Status). IsOrFault spelled s d) (sym is) tt
  finish_decided (given end is g) d e =
      subst (λ (s : Status). IsOrFault spelled s d) (sym is) (done_as spelled w.command end old new kept d w.is (does_so end w.command w.waits g) (w.decided d e))
