-- A run that is talked with: what told files decide on it, and what it does.
use Rattle.std.proofs.Common.{◌≡◌, ◌≢◌, ◌==◌, ◌∙◌, ℕ, Bool, true, false, if◌then◌else◌, List, [], ◌∷◌, map, reverse, arith, Option, None, Some, Result, Ok, Err, IfErr, IfOk, length, refl, sym, ap, subst, inl, inr}
use Rattle.std.proofs.lemmas.Bool.{eq-eqb, eqb-true}
use Rattle.command_words.specs.Commands.{LiveOptionsValue}
use Rattle.vt_outside.specs.Desk.{DeskMeaning, Files}
use Rattle.vt_outside.specs.Sink.{SinkMeaning}
use Rattle.vt_outside.specs.Source.{SourceMeaning}
use Rattle.image_file.specs.Values.{ImageValue}
use Rattle.block_law.specs.Sound.{AllowsFew, IsSound}
use Rattle.block_law.specs.Translations.{Code, Meets, Permit}
use Rattle.image_meaning.specs.Meant.{image_meaning}
use Rattle.image_meaning.specs.Permits.{permit_of}
use Rattle.image_meaning.specs.declared.target.Target.{Target}
use Rattle.legal_history.specs.Law.{HasHeadline, IsRun, LegalHasHeadline}
use Rattle.memory_core.specs.Live.{LiveContents}
use Rattle.memory_core.specs.Order.{own}
use Rattle.memory_core.specs.declared.entry.Entry.{Entry}
use Rattle.memory_core.specs.declared.entry.SetUp.{SetUp}
use Rattle.system_model.specs.Legal.{IsLegal}
use Rattle.system_model.specs.Processors.{Processor}
use Rattle.system_model.specs.Settings.{Setting}
use Rattle.tie_switch.specs.Processors.{ProcessorValue, processor_of}
use Rattle.tie_switch.specs.Settings.{image_setting}
use Rattle.vest_core.specs.LiveWorlds.{LiveWorldValue}
use Rattle.vest_core.specs.Talks.{HasTalked}
use Rattle.vest_core.specs.declared.talking.TalkEnd.{TalkEnd}
use Rattle.vest_runs.proofs.Outputs.{put_out}
use Rattle.vest_runs.proofs.Spent.{few_steps}
use Rattle.vest_runs.specs.Keeping.{set_up_of}
use Rattle.vest_runs.specs.Kept.{KeptValue}
use Rattle.vest_runs.specs.Report.{is_spent}
use Rattle.vest_runs.specs.Threads.{AreDriven, SpentByBudget}
use Rattle.vest_stops.specs.Decided.{Decision, IsDecided, StopsAsDecided, goes_on, stops}
use Rattle.vest_stops.specs.Files.{SameFiles}
use Rattle.vest_stops.specs.declared.status.Done.{Done}
use Rattle.vest_stops.specs.declared.status.Status.TheVariants as status
use Rattle.vest_stops.specs.declared.stop.Stop.{Stop}
use Rattle.vest_stops.specs.declared.stop.Stop.TheVariants.{Absent, Refused, ReadFault, TooLong, WantOfMemory}
use Rattle.vest_files.specs.Loading.{Loads}
use Rattle.vest_files.specs.Stages.{StopsWhere}
use Rattle.vest_files.proofs.Deciding.{load_goes, load_stops}
use Rattle.vest_cli.specs.Lent.{Lent}
use Rattle.vest_cli.specs.Live.{Closes, DecidesBehindLoad, DecidesLive, DecidesThreads, HasTold, IsLiveTask, Lives, RefusesThreads, StopsLive, kept_of}
use Rattle.vest_cli.specs.declared.living.LiveTask.{LiveTask}
use Rattle.vest_cli.specs.declared.living.Told.{Told}
use Rattle.vest_cli.proofs.StoredOrders.{loaded_image}

-- ---- the number of threads decides where the file goes on
threads_decide : (files : Option Files) (asked : Target) (name : List ℕ) (image : ImageValue) (target : Target) (code : Code) (d : Decision) → Loads asked files name image target code
    → DecidesLive files name d → d ≡ (if length image.threads == 1 then goes_on else stops status.Refused)
threads_decide None asked name image target code d loads e = absurd e.load
threads_decide (Some f) asked name image target code d loads e =
    let at : e.at_load ≡ goes_on = load_goes asked (Some f) name image target code e.at_load loads e.load in
    let behind : DecidesBehindLoad goes_on (Some f) name d = subst (λ (x : Decision). DecidesBehindLoad x (Some f) name d) at e.behind in
    subst (λ (o : Option ImageValue). DecidesThreads o d) (loaded_image asked f name image target code loads) behind

pub alone_goes : (files : Option Files) (asked : Target) (name : List ℕ) (image : ImageValue) (target : Target) (code : Code) (d : Decision) → Loads asked files name image target code
    → length image.threads ≡ 1 → DecidesLive files name d → d ≡ goes_on
alone_goes files asked name image target code d loads alone e =
    let is = threads_decide files asked name image target code d loads e in
    rw (eq-eqb (length image.threads) 1 alone) at is

others_stop : (image : ImageValue) (d : Decision) → length image.threads ≢ 1 → d ≡ (if length image.threads == 1 then goes_on else stops status.Refused) → d ≡ stops status.Refused
others_stop image d others is = go (length image.threads == 1) refl is
  where
    go : (b : Bool) → (length image.threads == 1) ≡ b → d ≡ (if b then goes_on else stops status.Refused) → d ≡ stops status.Refused
    go true e h = absurd (others (eqb-true (length image.threads) 1 e))
    go false e h = h

stops_at_load : (stop : Stop) (at d : Decision) (files : Option Files) (name : List ℕ) → StopsAsDecided stop at → DecidesBehindLoad at files name d → StopsAsDecided stop d
stops_at_load Absent at d files name h e = subst (λ (x : Decision). DecidesBehindLoad x files name d) h e
stops_at_load (Refused refusal) at d files name h e = subst (λ (x : Decision). DecidesBehindLoad x files name d) h e
stops_at_load ReadFault at d files name h e = tt
stops_at_load TooLong at d files name h e = subst (λ (x : Decision). DecidesBehindLoad x files name d) h e
stops_at_load WantOfMemory at d files name h e = tt

stops_at_threads : (stop : Stop) (image : ImageValue) (d : Decision) → StopsWhere (RefusesThreads image) stop → d ≡ (if length image.threads == 1 then goes_on else stops status.Refused) → StopsAsDecided stop d
stops_at_threads Absent image d h is = absurd h
stops_at_threads (Refused refusal) image d h is = others_stop image d h.others is
stops_at_threads ReadFault image d h is = absurd h
stops_at_threads TooLong image d h is = absurd h
stops_at_threads WantOfMemory image d h is = tt

pub live_stops : (stop : Stop) (asked : Target) (name : List ℕ) (desk desk' : DeskMeaning) (d : Decision) → StopsLive stop asked name desk desk' → DecidesLive desk.files name d → StopsAsDecided stop d
live_stops stop asked name desk desk' d (inl h) e = stops_at_load stop e.at_load d desk.files name (load_stops stop name desk desk' e.at_load h e.load) e.behind
live_stops stop asked name desk desk' d (inr (image, target, code, loads, h)) e = stops_at_threads stop image d h (threads_decide desk.files asked name image target code d loads e)

pub live_decided : {X : Type 0} (r : Result X Stop) (d : Decision) (asked : Target) (name : List ℕ) (desk desk' : DeskMeaning)
    → IfErr r (λ stop. StopsLive stop asked name desk desk') → IfOk r (λ _. d ≡ goes_on) → DecidesLive desk.files name d → IsDecided r d
live_decided (Ok x) d asked name desk desk' err ok e = ok
live_decided (Err stop) d asked name desk desk' err ok e = live_stops stop asked name desk desk' d err e

-- ---- a legal run of one thread has the headline, and is spent only within it
module _ (law : LegalHasHeadline) (setting : Setting) (permit : Permit) (sound : IsSound setting.meaning) (few : AllowsFew permit) (meets : Meets setting.meaning permit setting.code)
    (of : SetUp) (budget : ℕ) (history : List Entry) (p : Processor) (run : IsRun of) (legal : IsLegal setting of budget (reverse history) (p ∷ [])) where
  headline : HasHeadline setting permit of (reverse history) (p ∷ [])
  headline = law setting permit of budget (reverse history) (p ∷ []) sound few meets run legal

  pub is_driven : AreDriven setting permit of history (p ∷ [])
  is_driven = record { headline = headline; output = put_out history headline.history.made headline.history.output }

  pub spent_within : p.steps ≡ budget → SpentByBudget budget p (own 0 (reverse history))
  spent_within out = (out, let bound = few_steps setting permit of (reverse history) (p ∷ []) headline 0 p refl in omega (arith, bound, out))

-- ---- what a talk leaves is what the thread did
module _ (law : LegalHasHeadline) (task : LiveTask) (sound : IsSound (image_meaning task.loaded.image.pages)) (few : AllowsFew (permit_of task.loaded.target task.loaded.image.pages))
    (meets : Meets (image_meaning task.loaded.image.pages) (permit_of task.loaded.target task.loaded.image.pages) task.loaded.translation) (end : TalkEnd) (w : LiveWorldValue)
    (source source' : SourceMeaning) (sink sink' report report' : SinkMeaning) where
  abbrev setting : Setting
  setting = image_setting task.loaded.image.pages task.loaded.translation task.ranges.items

  pub tells : (told : Told) → told.end ≡ end → told.memory ≡ w.memory → told.processors.items ≡ w.processor ∷ [] → w.budget ≡ task.budget
      → w.memory.contents.set_up.image ≡ task.loaded.image → w.memory.contents.set_up.miss ≡ task.miss → IsRun w.memory.contents.set_up
      → HasTalked end setting w.memory.contents.set_up w.budget w.memory.contents.history w.processor source source' sink sink' task.progress report report'
      → HasTold task told source source' sink sink' report report'
  tells told same_end same_memory its same_budget same_image same_miss run talked =
      let by_budget = subst (λ (b : ℕ). HasTalked end setting w.memory.contents.set_up b w.memory.contents.history w.processor source source' sink sink' task.progress report report') same_budget talked in
      let by_memory = subst (λ (m : LiveContents). HasTalked end setting m.contents.set_up task.budget m.contents.history w.processor source source' sink sink' task.progress report report') (sym same_memory) by_budget in
      let by_end = subst (λ (e : TalkEnd). HasTalked e setting told.memory.contents.set_up task.budget told.memory.contents.history w.processor source source' sink sink' task.progress report report') (sym same_end) by_memory in
      let in_range = subst (λ (m : LiveContents). IsRun m.contents.set_up) (sym same_memory) run in
      let p = by_end.processor in
      let legal = by_end.legal in
      let steps : p.steps ≡ w.processor.steps = ap (λ (q : Processor). q.steps) by_end.stands.same in
      record {
        same_image = ap (λ (m : LiveContents). m.contents.set_up.image) same_memory ∙ same_image;
        same_miss = ap (λ (m : LiveContents). m.contents.set_up.miss) same_memory ∙ same_miss;
        k = w.processor;
        its = its;
        in_range = in_range;
        talked = by_end;
        driven = is_driven law setting (permit_of task.loaded.target task.loaded.image.pages) sound few meets told.memory.contents.set_up task.budget told.memory.contents.history p in_range legal;
        spent = λ is. spent_within law setting (permit_of task.loaded.target task.loaded.image.pages) sound few meets told.memory.contents.set_up task.budget told.memory.contents.history p in_range legal
            (steps ∙ by_end.spent is);
      }

-- ---- and it is kept so
-- how far a talk came, of a memory that is set up so
record HasGone (task : LiveTask) (end : TalkEnd) (of : SetUp) (history : List Entry) (k : ProcessorValue) (source source' : SourceMeaning) (sink sink' : SinkMeaning)
    (every : Option ℕ) (report report' : SinkMeaning) : Type 0 where
  in_range : IsRun of
  talked : HasTalked end (image_setting task.loaded.image.pages task.loaded.translation task.ranges.items) of task.budget history k source source' sink sink' every report report'
  driven : AreDriven (image_setting task.loaded.image.pages task.loaded.translation task.ranges.items) (permit_of task.loaded.target task.loaded.image.pages) of history (talked.processor ∷ [])
  spent : is_spent (processor_of k).mode ≡ true → SpentByBudget task.budget talked.processor (own 0 (reverse history))

-- the memory is that of the image, by the miss number
same_set_up : (of : SetUp) (image : ImageValue) (miss : ℕ) → of.image ≡ image → of.miss ≡ miss → of ≡ record { image = image; input = of.input; limit = of.limit; miss = miss }
same_set_up of image miss same_image same_miss =
    subst (λ (i : ImageValue). of ≡ record { image = i; input = of.input; limit = of.limit; miss = miss }) same_image
    (subst (λ (m : ℕ). of ≡ record { image = of.image; input = of.input; limit = of.limit; miss = m }) same_miss refl)

lived : (name : List ℕ) (options : LiveOptionsValue) (old new : Lent) (behind : SinkMeaning) (task : LiveTask) (told : Told) (done : Done) → IsLiveTask name options old.desk.files task
    → HasTold task told old.input new.input old.out new.out old.report behind → Closes told.end done (map processor_of told.processors.items) behind new.report → SameFiles old.desk new.desk
    → Lives done name options old new (kept_of task told)
lived name options old new behind task told done its has closes same =
    let of = told.memory.contents.set_up in
    let by_task : HasGone task told.end (set_up_of task.loaded.image (kept_of task told)) told.memory.contents.history has.k old.input new.input old.out new.out task.progress old.report behind =
    subst (λ (s : SetUp). HasGone task told.end s told.memory.contents.history has.k old.input new.input old.out new.out task.progress old.report behind)
    (same_set_up of task.loaded.image task.miss has.same_image has.same_miss)
    (record { in_range = has.in_range; talked = has.talked; driven = has.driven; spent = has.spent }) in
    let gone = subst (λ (e : Option ℕ). HasGone task told.end (set_up_of task.loaded.image (kept_of task told)) told.memory.contents.history has.k old.input new.input old.out new.out e old.report behind)
    its.same_progress by_task in
    record {
      image = task.loaded.image;
      target = task.loaded.target;
      code = task.loaded.translation;
      loaded = its.loads;
      whole = its.whole;
      meets = its.meets;
      alone = its.alone;
      has_kept = record { kept_image = refl; kept_code = refl; ranges = its.same_ranges; budget = its.same_budget; miss = its.same_miss };
      k = has.k;
      its = has.its;
      end = told.end;
      in_range = gone.in_range;
      behind = behind;
      talked = gone.talked;
      driven = gone.driven;
      spent = gone.spent;
      closes = closes;
      desk = same;
    }

pub lives : (name : List ℕ) (options : LiveOptionsValue) (old new : Lent) (behind : SinkMeaning) (task : LiveTask) (told : Told) (done : Done) (kept : KeptValue) → IsLiveTask name options old.desk.files task
    → HasTold task told old.input new.input old.out new.out old.report behind → Closes told.end done (map processor_of told.processors.items) behind new.report → SameFiles old.desk new.desk
    → kept ≡ kept_of task told → Lives done name options old new kept
lives name options old new behind task told done kept its has closes same is =
    subst (λ (k : KeptValue). Lives done name options old new k) (sym is) (lived name options old new behind task told done its has closes same)
