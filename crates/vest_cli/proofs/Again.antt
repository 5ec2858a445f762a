-- A replay gives its run.
use Rattle.std.proofs.Common.{◌≡◌, ◌≢◌, ◌⊎◌, ◌∙◌, ◌+◌, ◌++◌, ◌||◌, ◌≤◌, ◌<◌, ℕ, zero, suc, Bool, true, false, if◌then◌else◌, List, [], ◌∷◌, length, map, option_map, Option, None, Some, Result, Ok, refl, sym, ap, ap₂, subst, arith, inl, inr}
use Rattle.std.specs.Prelude.{◌==◌, IfSome, MatchBool, MatchResult, String, option_and_then, slice_get}
use Rattle.std.specs.List.{list_any}
use Rattle.std.specs.String.{string_bytes}
use Rattle.std.specs.declared.alloc.Global.{Global}
use Rattle.std.proofs.lemmas.Bool.{le-ltb}
use Rattle.std.proofs.lemmas.Option.{slice_get_within}
use Rattle.address_map.specs.Pairs.{Pair}
use Rattle.block_law.specs.Translations.{Code}
use Rattle.command_words.specs.Commands.{CommandValue, OptionsValue, replay, run}
use Rattle.command_words.specs.declared.commands.Keeping.{Keeping}
use Rattle.command_words.specs.declared.commands.Keeping.TheVariants.{History, Nothing}
use Rattle.image_file.specs.Limits.{most_threads}
use Rattle.image_file.specs.Reading.{image_of}
use Rattle.image_file.specs.Start.{start_state}
use Rattle.image_file.specs.Values.{ImageValue}
use Rattle.image_file.specs.declared.image.Start.{Start}
use Rattle.image_file.specs.declared.refusal.ImageRefusal.{ImageRefusal}
use Rattle.image_meaning.specs.Permits.{permit_of}
use Rattle.image_meaning.specs.declared.target.Target.{Target}
use Rattle.image_meaning.specs.declared.target.Target.TheVariants.{Original}
use Rattle.flow_discovery.specs.Reach.{most}
use Rattle.memory_core.specs.Contents.{output_of}
use Rattle.memory_core.specs.Limits.{greatest, KeepsEntries}
use Rattle.memory_core.specs.declared.entry.Entry.{Entry}
use Rattle.memory_core.specs.declared.entry.Limit.{Limit}
use Rattle.memory_core.specs.declared.entry.SetUp.{SetUp}
use Rattle.report_text.specs.Report.{report_from, report_text, thread_text}
use Rattle.run_files.specs.Reading.{order_of}
use Rattle.run_files.specs.Spelling.{Ended, order_bytes, stored_order}
use Rattle.run_files.specs.Values.{OrderValue}
use Rattle.run_files.specs.declared.refusal.OrderRefusal.{OrderRefusal}
use Rattle.run_files.proofs.PartsLaws.{order_ok}
use Rattle.stored_runs.specs.Ends.{is_raised}
use Rattle.stored_runs.specs.Ends as ends
use Rattle.stored_runs.specs.Law.{HaveEnded, HeadlineIsReplayed, IsReplayed, IsStorable, end_with, ends_of, order_of_run, stored_end}
use Rattle.stored_runs.specs.Law as laws
use Rattle.stored_runs.specs.Replay.{EndValue, ReplayedValue, replay_of}
use Rattle.stored_runs.specs.declared.refusal.ReplayRefusal.{ReplayRefusal}
use Rattle.system_model.specs.Counted.{order}
use Rattle.system_model.specs.Interpreted.{has_raised}
use Rattle.system_model.specs.Legal.{IsLegal, IsReached, IsSpent}
use Rattle.system_model.specs.Processors.{Mode, New, Runs, Interprets, Processor}
use Rattle.system_model.specs.Processors as model
use Rattle.system_model.specs.Settings.{Setting}
use Rattle.system_model.proofs.Turns.{reached_thread}
use Rattle.tie_switch.specs.Turns.{has_ended}
use Rattle.translate.specs.Compiled.{IsFunction}
use Rattle.translate.specs.Translated.{IsTranslated}
use Rattle.translated_file.specs.Comparing.{compared}
use Rattle.translated_file.specs.Reading.{parts_of}
use Rattle.translated_file.specs.Values.{PartsValue}
use Rattle.translated_file.specs.declared.refusal.TranslatedRefusal.{TranslatedRefusal}
use Rattle.vax_form.specs.declared.state.VaxState.{VaxState}
use Rattle.vax_driven.specs.declared.thread.End.{End}
use Rattle.vax_driven.specs.declared.thread.End.TheVariants.{Exit, Raised, Spent}
use Rattle.vt_outside.specs.Desk.{BothTold, Files, Puts}
use Rattle.vt_outside.specs.Taking.{TookAll}
use Rattle.vest_stops.specs.Decided.{stops, goes_on, StopsAsDecided}
use Rattle.vest_stops.specs.Status.{status_of, status_of_done}
use Rattle.vest_stops.specs.declared.status.Done.{Done}
use Rattle.vest_stops.specs.declared.status.Done.TheVariants as dones
use Rattle.vest_stops.specs.declared.status.Status.{Status}
use Rattle.vest_stops.specs.declared.status.Status.TheVariants as status
use Rattle.vest_stops.specs.declared.stop.Stop.{Stop}
use Rattle.vest_stops.specs.declared.stop.Stop.TheVariants.{Absent, Refused, ReadFault, TooLong, WantOfMemory}
use Rattle.vest_files.specs.Limits.{FILE_LIMIT}
use Rattle.vest_files.specs.Loading.{DecidesBytes, DecidesFile, DecidesImage, DecidesLoad, DecidesParts, DecidesTail, IsOfImage, IsOfTranslated, Loads, is_translated}
use Rattle.vest_files.specs.Versions as versions
use Rattle.vest_runs.specs.Delivery.{Delivers}
use Rattle.vest_runs.specs.Keeping.{limit_by, limit_of, processors_of, set_up_of}
use Rattle.vest_runs.specs.Kept.{KeptValue}
use Rattle.vest_runs.specs.Order.{end_of, order_kept}
use Rattle.vest_runs.specs.Report.{done_by_ends, is_spent, lines_by, report_of}
use Rattle.vest_cli.specs.Again.{HasRunAndStored, IsSameAgain, ReplayGivesItsRun, TookBoth, same_again, short_again, unread_again, unstored_again, unwritten_again}
use Rattle.vest_cli.specs.Hints.{StoresHints}
use Rattle.vest_cli.specs.Lent.{Lent}
use Rattle.vest_cli.specs.Replay.{DecidesOrder, DecidesOrderFile, DecidesReplay, DecidesReplayed, FilesGive, StopsReplay, done_of, image_in}
use Rattle.vest_cli.specs.Run.{Runs as HasRunSo, target_of}
use Rattle.vest_cli.specs.Storing as storing
use Rattle.vest_cli.specs.Storing.{Stores}
use Rattle.vest_cli.specs.Vest as vest
use Rattle.vest_cli.specs.Vest.{Does, Ends, OnlyReplays, done, stopped, unspelled}
use Rattle.vest_cli.specs.Words.{AreBounded, spelled}
use Rattle.vest_cli.proofs.Deciding.{stops_no_run, well_ended}
use Rattle.vest_cli.proofs.Bounds.{can_be_obeyed}
use Rattle.vest_cli.proofs.Completing.{replay_rose}
use Rattle.vest_cli.proofs.StoredOrders.{loaded_image, replay_stops_at}

-- ---- the processors of a run, and the ends that are replayed

-- each has the number of its place
thread_of : (setting : Setting) (budget : ℕ) (limit : Limit) (entries : List Entry) (thread : ℕ) (start : VaxState) (p : Processor) → IsReached setting budget limit entries thread start p → p.thread ≡ thread
thread_of setting budget limit entries thread start p r = by r.now
  where
    was_is : r.was.thread ≡ thread
    was_is = reached_thread setting _ _ _ r.was r.reaches

    by : (p ≡ r.was) ⊎ IsSpent setting budget limit entries r.was p → p.thread ≡ thread
    by (inl e) = ap (λ (q : Processor). q.thread) e ∙ was_is
    by (inr s) = ap (λ (q : Processor). q.thread) s.is ∙ was_is

start_of : (xs : List Start) (i : ℕ) → i < length xs → (t : Start) × (slice_get xs i ≡ Some t)
start_of [] i lt = absurd (omega (arith, lt))
start_of (x ∷ xs) zero lt = (x, refl)
start_of (x ∷ xs) (suc i) lt = start_of xs i (omega (arith, lt))

abbrev AreInPlace : (first : ℕ) → List Processor → Type 0
AreInPlace first processors = (i : ℕ) (p : Processor) → slice_get processors i ≡ Some p → p.thread ≡ first + i

in_place : (setting : Setting) (of : SetUp) (budget : ℕ) (entries : List Entry) (processors : List Processor) → IsLegal setting of budget entries processors → AreInPlace 0 processors
in_place setting of budget entries processors legal i p at =
    let within : i < length processors = slice_get_within processors i p at in
    let count = legal.count in
    let start = start_of of.image.threads i (omega (arith, within, count)) in
    let is = thread_of setting budget of.limit entries i (start_state start.0) p (legal.each i (start_state start.0) p (ap (option_map start_state) start.1) at) in
    omega (arith, is)

-- the lines are those of the processors
line_by : (thread : ℕ) (m : Mode) (p : Processor) (rest : List EndValue) → p.thread ≡ thread → has_ended m ≡ true
    → report_from thread (end_with m p rest) ≡ lines_by m p ++ report_from (suc thread) rest
line_by thread New p rest is over = absurd (cc over)
line_by thread (model.Runs alpha) p rest is over = absurd (cc over)
line_by thread (Interprets state replies) p rest is over = absurd (cc over)
line_by thread (model.Ended end) p rest is over = ap (λ n. thread_text n end p.boundary p.retired ++ report_from (suc thread) rest) (sym is)

lines_are : (thread : ℕ) (processors : List Processor) → HaveEnded processors → AreInPlace thread processors → report_from thread (ends_of processors) ≡ report_of processors
lines_are thread [] over are = refl
lines_are thread (p ∷ processors) over are =
    let here : p.thread ≡ thread = let at = are 0 p refl in omega (arith, at) in
    line_by thread p.mode p (ends_of processors) here over.0
    ∙ ap (λ lines. lines_by p.mode p ++ lines) (lines_are (suc thread) processors over.1 (λ i q at. let is = are (suc i) q at in omega (arith, is)))

-- and they decide the same
abbrev firsts : List EndValue → List End
firsts es = map (λ (e : EndValue). e.0) es

raised_is : (end : End) → is_raised end ≡ has_raised (model.Ended end)
raised_is (Exit value) = refl
raised_is (Raised exception) = refl
raised_is Spent = refl

spent_is : (end : End) → ends.is_spent end ≡ is_spent (model.Ended end)
spent_is (Exit value) = refl
spent_is (Raised exception) = refl
spent_is Spent = refl

any_first : (test : End → Bool) (mode_test : Mode → Bool) → ((end : End) → test end ≡ mode_test (model.Ended end)) → (m : Mode) (p : Processor) (rest : List EndValue) (later : Bool) → has_ended m ≡ true
    → list_any test (firsts rest) ≡ later → list_any test (firsts (end_with m p rest)) ≡ (mode_test m || later)
any_first test mode_test same New p rest later over is = absurd (cc over)
any_first test mode_test same (model.Runs alpha) p rest later over is = absurd (cc over)
any_first test mode_test same (Interprets state replies) p rest later over is = absurd (cc over)
any_first test mode_test same (model.Ended end) p rest later over is = ap₂ (λ (a b : Bool). a || b) (same end) is

any_is : (test : End → Bool) (mode_test : Mode → Bool) → ((end : End) → test end ≡ mode_test (model.Ended end)) → (processors : List Processor) → HaveEnded processors
    → list_any test (firsts (ends_of processors)) ≡ list_any (λ (p : Processor). mode_test p.mode) processors
any_is test mode_test same [] over = refl
any_is test mode_test same (p ∷ processors) over = any_first test mode_test same p.mode p (ends_of processors) _ over.0 (any_is test mode_test same processors over.1)

done_is : (processors : List Processor) → HaveEnded processors → done_of (ends_of processors) ≡ done_by_ends processors
done_is processors over =
    ap₂ (λ (raised spent : Bool). if raised then dones.Exception else if spent then dones.Spent else dones.Ok)
    (any_is is_raised has_raised raised_is processors over) (any_is ends.is_spent is_spent spent_is processors over)

-- ---- its order
spent_mode : (m : Mode) → laws.is_spent m ≡ is_spent m
spent_mode New = refl
spent_mode (model.Runs alpha) = refl
spent_mode (Interprets state replies) = refl
spent_mode (model.Ended (Exit value)) = refl
spent_mode (model.Ended (Raised exception)) = refl
spent_mode (model.Ended Spent) = refl

stored_ends : (processors : List Processor) → map stored_end processors ≡ map end_of processors
stored_ends [] = refl
stored_ends (p ∷ processors) = ap₂ (λ (e : Ended) (es : List Ended). e ∷ es) (ap (λ (b : Bool). (p.retired, b)) (spent_mode p.mode)) (stored_ends processors)

order_is : (kept : KeptValue) → order_of_run kept.history kept.input (processors_of kept) ≡ order_kept kept
order_is kept = ap (λ (es : List Ended). stored_order es kept.input (order kept.history)) (stored_ends (processors_of kept))

few_threads : (version : ℕ) → most_threads version ≤ 255
few_threads version = by (version == 1)
  where
    by : (b : Bool) → (if b then 16 else 32) ≤ 255
    by true = omega arith
    by false = omega arith

-- an accepted order file is within the desk's limit
short_order : (threads : ℕ) (bytes : List ℕ) (o : OrderValue) → threads ≤ 255 → order_of threads bytes ≡ Ok o → length bytes ≤ FILE_LIMIT
short_order threads bytes o few accepted =
    let read = order_ok threads bytes o accepted in
    let headed = read.headed in
    let allowed = headed.allowed in
    omega (arith, headed.long, allowed.same, allowed.picks, allowed.input, few)

-- ---- what the first file decides: it was loaded, so it goes on
loaded_goes_on : IsFunction → (asked : Target) (f : Files) (name : List ℕ) (image : ImageValue) (target : Target) (code : Code) → Loads asked (Some f) name image target code → DecidesLoad (Some f) name goes_on
loaded_goes_on unique asked f name image target code loads =
    subst (λ (o : Option (List ℕ)). DecidesFile o (DecidesBytes goes_on) goes_on) (sym loads.file.held)
    (rw (le-ltb FILE_LIMIT (length loads.bytes) loads.file.short) (by (is_translated loads.bytes) loads.loaded))
  where
    tail : (parts : PartsValue) → target ≡ versions.target_of parts.version → IsTranslated target parts.image parts.hints code → compared parts code.words code.map ≡ Ok tt → DecidesTail parts goes_on
    tail parts version translated equal other is =
        let one : code ≡ other = unique (versions.target_of parts.version) parts.image.pages _ code other (subst (λ (t : Target). IsTranslated t parts.image parts.hints code) version translated).is is.is in
        subst (λ (made : Code). MatchResult (compared parts made.words made.map) (λ _. goes_on ≡ goes_on) (λ _. goes_on ≡ stops status.Refused)) one
        (subst (λ (r : Result (Unit {0}) TranslatedRefusal). MatchResult r (λ _. goes_on ≡ goes_on) (λ _. goes_on ≡ stops status.Refused)) (sym equal) refl)

    by : (b : Bool) → MatchBool b (IsOfTranslated loads.bytes image target code) ((target ≡ asked) × IsOfImage loads.bytes image target code)
        → MatchBool b (DecidesParts (parts_of loads.bytes) goes_on) (DecidesImage (image_of loads.bytes) goes_on)
    by true l =
        let few = l.translated.few in
        subst (λ (r : Result PartsValue TranslatedRefusal). DecidesParts r goes_on) (sym l.meant.meant)
        (record { addresses = few.addresses; reached = few.reached; decides = rw (le-ltb most (length few.addresses) few.few) (tail l.parts l.version l.translated l.equal) })
    by false l =
        let few = l.1.translated.few in
        subst (λ (r : Result ImageValue ImageRefusal). DecidesImage r goes_on) (sym l.1.meant.meant)
        (record { addresses = few.addresses; reached = few.reached; decides = rw (le-ltb most (length few.addresses) few.few) refl })

-- ---- what the first call left
record HasLeft (name file : List ℕ) (result : Status) (old new : Lent) : Type 0 where
  files : Files
  told : new.desk.files ≡ Some files
  image : ImageValue
  found : option_and_then image_in (files name) ≡ Some image
  goes : DecidesLoad (Some files) name goes_on
  bytes : List ℕ
  stored : files file ≡ Some bytes
  within : length bytes ≤ FILE_LIMIT
  order : OrderValue
  meant : order_of (length image.threads) bytes ≡ Ok order
  replayed : ReplayedValue
  gives : replay_of image order ≡ Ok replayed
  took : TookBoth old new replayed.output (report_text replayed.ends)
  came_to : result ≡ status_of_done (done_of replayed.ends)

greatest_is : (keeping : Keeping) (events : ℕ) → greatest (limit_by keeping events) ≡ events
greatest_is History events = refl
greatest_is Nothing events = refl

module _ (law : HeadlineIsReplayed) (unique : IsFunction) where
  -- ---- of a run whose order was stored
  module _ (name file : List ℕ) (options : OptionsValue) (bounded : AreBounded options) (asked : options.order ≡ Some file) (other : file ≢ name) (end : Done) (old new : Lent) (kept : KeptValue) (h : HasRunSo end name options old new kept) where
    abbrev ps : List Processor
    ps = processors_of kept

    abbrev given : ReplayedValue
    given = record { output = output_of kept.history; ends = ends_of ps }

    over : HaveEnded ps
    over = h.has_kept.has_run.ended

    few : length h.image.threads ≤ 255
    few = let bound = few_threads h.image.version in omega (arith, bound, h.whole.room.threads)

    keeps : KeepsEntries (limit_of options.limits)
    keeps = subst (λ (o : Option (List ℕ)). IfSome o (λ _. KeepsEntries (limit_of options.limits))) asked bounded.kept

    replays : IsReplayed (set_up_of h.image kept) kept.history ps
    replays =
        let made = h.has_kept in
        let its = made.has_run in
        law h.code kept.ranges (permit_of h.target h.image.pages) (set_up_of h.image kept) kept.budget kept.history ps its.in_range its.legal its.driven.headline its.ended
        (record {
          steps = omega (arith, made.budget, bounded.budget);
          keeps = subst KeepsEntries (sym made.limit) keeps;
          limit = omega (arith, ap greatest made.limit, greatest_is options.limits.keeping options.limits.events, bounded.events);
          threads = few;
          input = h.input.short;
        })

    meant : order_of (length h.image.threads) (order_bytes (order_kept kept)) ≡ Ok (order_kept kept)
    meant = subst (λ (o : OrderValue). order_of (length h.image.threads) (order_bytes o) ≡ Ok o) (order_is kept) replays.accepted

    gives : replay_of h.image (order_kept kept) ≡ Ok given
    gives = subst (λ (o : OrderValue). replay_of h.image o ≡ Ok given) (order_is kept) replays.gives

    lines : report_text given.ends ≡ report_of ps
    lines = lines_are 0 ps over (in_place _ (set_up_of h.image kept) kept.budget _ ps h.has_kept.has_run.legal)

    sent_by : (d : Done) → d ≢ dones.WriteFault → Delivers d (output_of kept.history) (report_of ps) (done_by_ends ps) old.out new.out old.report new.report
        → (d ≡ done_of given.ends) × TookBoth old new given.output (report_text given.ends)
    sent_by dones.Ok sent (is, out, report) = (is ∙ sym (done_is ps over), record { out = out; report = subst (λ (l : List ℕ). TookAll old.report new.report l) (sym lines) report })
    sent_by dones.Exception sent (is, out, report) = (is ∙ sym (done_is ps over), record { out = out; report = subst (λ (l : List ℕ). TookAll old.report new.report l) (sym lines) report })
    sent_by dones.Spent sent (is, out, report) = (is ∙ sym (done_is ps over), record { out = out; report = subst (λ (l : List ℕ). TookAll old.report new.report l) (sym lines) report })
    sent_by dones.ReadFault sent (is, out, report) = (is ∙ sym (done_is ps over), record { out = out; report = subst (λ (l : List ℕ). TookAll old.report new.report l) (sym lines) report })
    sent_by dones.WriteFault sent h' = absurd (sent refl)

    -- its desk has the order's file, and the first file as it was
    left_by : (f : Files) → old.desk.files ≡ Some f → (result : Status) → result ≡ status_of_done end → end ≡ h.run → h.run ≢ dones.WriteFault
        → (n : Option Files) → new.desk.files ≡ n → BothTold (Some f) n (λ was now. Puts was now file (order_bytes (order_kept kept))) → HasLeft name file result old new
    left_by f told result is as_run sent None now puts = absurd puts
    left_by f told result is as_run sent (Some g) now puts =
        let loads : Loads (target_of options.target) (Some f) name h.image h.target h.code = subst (λ (files : Option Files). Loads (target_of options.target) files name h.image h.target h.code) told h.loaded in
        let stays : g name ≡ f name = puts.others name (λ e. other (sym e)) in
        let went = sent_by h.run sent h.delivered in
        record {
          files = g;
          told = now;
          image = h.image;
          found = ap (λ (o : Option (List ℕ)). option_and_then image_in o) stays ∙ loaded_image (target_of options.target) f name h.image h.target h.code loads;
          goes = subst (λ (o : Option (List ℕ)). DecidesFile o (DecidesBytes goes_on) goes_on) (sym stays) (loaded_goes_on unique (target_of options.target) f name h.image h.target h.code loads);
          bytes = order_bytes (order_kept kept);
          stored = puts.there;
          within = short_order (length h.image.threads) (order_bytes (order_kept kept)) (order_kept kept) few meant;
          order = order_kept kept;
          meant = meant;
          replayed = given;
          gives = gives;
          took = went.1;
          came_to = is ∙ ap status_of_done (as_run ∙ went.0);
        }

    stored_by : (f : Files) → old.desk.files ≡ Some f → (result : Status) → result ≡ status_of_done end → end ≢ dones.WriteFault
        → (to : Option (List ℕ)) → to ≡ Some file → Stores end h.run to (order_bytes (order_kept kept)) old.desk new.desk → HasLeft name file result old new
    stored_by f told result is sent to asked (storing.left (inl none) as_run same) = absurd (let clash : None ≡ Some file = sym none ∙ asked in cc clash)
    stored_by f told result is sent to asked (storing.left (inr failed) as_run same) = absurd (sent (as_run ∙ failed))
    stored_by f told result is sent to asked (storing.stored named by_name well as_run writes) =
        let same_name : named ≡ file = let e : Some named ≡ Some file = sym by_name ∙ asked in cc e in
        left_by f told result is as_run well new.desk.files refl
        (subst (λ (n : List ℕ). BothTold (Some f) new.desk.files (λ was now. Puts was now n (order_bytes (order_kept kept)))) same_name
        (subst (λ (o : Option Files). BothTold o new.desk.files (λ was now. Puts was now named (order_bytes (order_kept kept)))) told writes))
    stored_by f told result is sent to asked (storing.failed named by_name well failed writes) = absurd (sent failed)

  has_left : (words : List (String Global)) (name file : List ℕ) (result : Status) (old new : Lent) (kept : KeptValue) → HasRunAndStored words name file result old new kept → HasLeft name file result old new
  has_left words name file result old new kept first = by first.ends
    where
      by : Ends (spelled words) result old new kept → HasLeft name file result old new
      by (unspelled none is untouched left) = absurd (let clash : None ≡ Some (run name first.options) = sym none ∙ first.spells in cc clash)
      by (stopped stop is why left) = absurd (stops_no_run result stop is first.ended)
      by (done command end is so does) =
          let one : command ≡ run name first.options = let e : Some command ≡ Some (run name first.options) = sym is ∙ first.spells in cc e in
          let made : HasRunSo end name first.options old new kept = subst (λ (c : CommandValue). Does c end old new kept) one does in
          stored_by name file first.options (can_be_obeyed (map string_bytes words) (run name first.options) first.spells) first.order first.other end old new kept made
          first.files first.told result so (well_ended result end so first.ended) first.options.order first.order made.stored

-- ---- the second call
module _ (name file : List ℕ) (hints : Option (List ℕ)) (result again : Status) (old new before after : Lent) (left : HasLeft name file result old new) (over : before.desk.files ≡ new.desk.files) where
  told : before.desk.files ≡ Some left.files
  told = over ∙ left.told

  decides : DecidesReplay before.desk.files name file goes_on
  decides =
      subst (λ (files : Option Files). DecidesReplay files name file goes_on) (sym told)
      (record {
        at_load = goes_on;
        load = left.goes;
        behind =
            subst (λ (o : Option ImageValue). DecidesOrderFile o (left.files file) goes_on) (sym left.found)
            (subst (λ (o : Option (List ℕ)). DecidesOrderFile (Some left.image) o goes_on) (sym left.stored)
            (rw (le-ltb FILE_LIMIT (length left.bytes) left.within)
            (subst (λ (r : Result OrderValue OrderRefusal). DecidesOrder left.image r goes_on) (sym left.meant)
            (subst (λ (r : Result ReplayedValue ReplayRefusal). DecidesReplayed r goes_on) (sym left.gives) refl))));
      })

  stops_again : (stop : Stop) → again ≡ status_of stop → StopsReplay stop name file before.desk after.desk → StopsAsDecided stop goes_on → IsSameAgain hints result again old new before after
  stops_again Absent is why decided = absurd (cc decided)
  stops_again (Refused refusal) is why decided = absurd (cc decided)
  stops_again ReadFault is why decided = unread_again is (replay_rose name file before.desk after.desk why)
  stops_again TooLong is why decided = absurd (cc decided)
  stops_again WantOfMemory is why decided = short_again is

  replayed_is : (replayed : ReplayedValue) → FilesGive (Some left.files) name file replayed → replayed ≡ left.replayed
  replayed_is replayed h =
      let images : Some h.image ≡ Some left.image = sym (loaded_image Original left.files name h.image h.target h.code h.loaded) ∙ left.found in
      let one_image : h.image ≡ left.image = cc images in
      let files : Some h.stored.bytes ≡ Some left.bytes = sym h.stored.stored.held ∙ left.stored in
      let one_file : h.stored.bytes ≡ left.bytes = cc files in
      let orders : Ok h.order ≡ Ok left.order = sym h.stored.meant ∙ ap₂ (λ (i : ImageValue) (b : List ℕ). order_of (length i.threads) b) one_image one_file ∙ left.meant in
      let one_order : h.order ≡ left.order = cc orders in
      let given : Ok replayed ≡ Ok left.replayed = sym h.gives ∙ ap₂ replay_of one_image one_order ∙ left.gives in
      cc given

  ends_again : (end : Done) → again ≡ status_of_done end
      → Delivers end left.replayed.output (report_text left.replayed.ends) (done_of left.replayed.ends) before.out after.out before.report after.report → IsSameAgain hints result again old new before after
  ends_again dones.WriteFault is (inl h) = unwritten_again is (inl h.0.failed)
  ends_again dones.WriteFault is (inr h) = unwritten_again is (inr h.1.failed)
  ends_again dones.Ok is (decided, out, report) =
      same_again (is ∙ ap status_of_done decided ∙ sym left.came_to) left.replayed.output (report_text left.replayed.ends) left.took (record { out = out; report = report })
  ends_again dones.Exception is (decided, out, report) =
      same_again (is ∙ ap status_of_done decided ∙ sym left.came_to) left.replayed.output (report_text left.replayed.ends) left.took (record { out = out; report = report })
  ends_again dones.Spent is (decided, out, report) =
      same_again (is ∙ ap status_of_done decided ∙ sym left.came_to) left.replayed.output (report_text left.replayed.ends) left.took (record { out = out; report = report })
  ends_again dones.ReadFault is (decided, out, report) =
      same_again (is ∙ ap status_of_done decided ∙ sym left.came_to) left.replayed.output (report_text left.replayed.ends) left.took (record { out = out; report = report })

  -- where the sinks took all
  took_again : (sent : Done) → sent ≢ dones.WriteFault
      → Delivers sent left.replayed.output (report_text left.replayed.ends) (done_of left.replayed.ends) before.out after.out before.report after.report → TookBoth before after left.replayed.output (report_text left.replayed.ends)
  took_again dones.WriteFault well h = absurd (well refl)
  took_again dones.Ok well (decided, out, report) = record { out = out; report = report }
  took_again dones.Exception well (decided, out, report) = record { out = out; report = report }
  took_again dones.Spent well (decided, out, report) = record { out = out; report = report }
  took_again dones.ReadFault well (decided, out, report) = record { out = out; report = report }

  -- behind that the hints were stored, where a file is named for them
  stores_again : (to : Option (List ℕ)) → hints ≡ to → (end sent : Done) (image : ImageValue) (order : OrderValue) (map : List Pair) → again ≡ status_of_done end
      → Delivers sent left.replayed.output (report_text left.replayed.ends) (done_of left.replayed.ends) before.out after.out before.report after.report
      → StoresHints image order map to end sent before.desk after.desk → IsSameAgain hints result again old new before after
  stores_again None same end sent image order map is h stored = ends_again sent (is ∙ ap status_of_done stored.0) h
  stores_again (Some name) same end sent image order map is h (bytes, hinted, storing.left why so stays) = ends_again sent (is ∙ ap status_of_done so) h
  stores_again (Some name) same end sent image order map is h (bytes, hinted, storing.stored named asked well so writes) = ends_again sent (is ∙ ap status_of_done so) h
  stores_again (Some name) same end sent image order map is h (bytes, hinted, storing.failed named asked well so writes) =
      unstored_again (is ∙ ap status_of_done so) (λ none. let clash : Some name ≡ None = sym same ∙ none in cc clash) writes.0
      left.replayed.output (report_text left.replayed.ends) left.took (took_again sent well h)

  does_again : (end : Done) (kept : KeptValue) → again ≡ status_of_done end → OnlyReplays end name file hints before after kept → IsSameAgain hints result again old new before after
  does_again end kept is h =
      let its = h.replays in
      let gives : FilesGive (Some left.files) name file its.replayed = subst (λ (files : Option Files). FilesGive files name file its.replayed) told its.gives in
      stores_again hints refl end its.sent its.gives.image its.gives.order its.gives.code.map is
      (subst (λ (r : ReplayedValue). Delivers its.sent r.output (report_text r.ends) (done_of r.ends) before.out after.out before.report after.report) (replayed_is its.replayed gives) its.delivered)
      its.stored

  calls_again : (spelled : Option CommandValue) (kept : KeptValue) → spelled ≡ Some (replay name file hints) → Ends spelled again before after kept → IsSameAgain hints result again old new before after
  calls_again spelled kept so (unspelled none is untouched stays) = absurd (let clash : None ≡ Some (replay name file hints) = sym none ∙ so in cc clash)
  calls_again spelled kept so (stopped stop is why stays) =
      let stops_so : StopsReplay stop name file before.desk after.desk = (subst (λ (c : Option CommandValue). vest.Stops c stop before.desk after.desk before.input after.input) so why).0 in
      stops_again stop is stops_so (replay_stops_at before.desk.files before.desk.read_faults before.desk.write_faults stop name file after.desk goes_on stops_so decides)
  calls_again spelled kept so (done command end is comes does) =
      let one : command ≡ replay name file hints = let e : Some command ≡ Some (replay name file hints) = sym is ∙ so in cc e in
      does_again end kept comes (subst (λ (c : CommandValue). Does c end before after kept) one does)

pub replay_gives_its_run : HeadlineIsReplayed → IsFunction → ReplayGivesItsRun
replay_gives_its_run law unique words others name file hints result again old new before after kept kept' first second =
    calls_again name file hints result again old new before after (has_left law unique words name file result old new kept first) second.over (spelled others) kept' second.spells second.ends
