-- What stages found, or why they stop, beside what told files decide.
use Rattle.std.proofs.Common.{◌≡◌, ℕ, Bool, true, false, List, [], length, Option, Some, None, Result, Ok, Err, subst, sym, inl, inr}
use Rattle.std.specs.Prelude.{IfErr, IfOk, MatchBool, MatchResult}
use Rattle.std.proofs.lemmas.Result.{IfErr-weaker, IfOk-weaker}
use Rattle.std.proofs.lemmas.Bool.{lt-ltb, le-ltb}
use Rattle.vt_outside.specs.Desk.{Files, DeskMeaning, IsLonger}
use Rattle.image_file.specs.Values.{ImageValue}
use Rattle.image_file.specs.Reading.{image_of}
use Rattle.image_file.specs.declared.refusal.ImageRefusal.{ImageRefusal}
use Rattle.translated_file.specs.Reading.{parts_of}
use Rattle.translated_file.specs.Values.{PartsValue}
use Rattle.translated_file.specs.declared.refusal.TranslatedRefusal.{TranslatedRefusal}
use Rattle.flow_discovery.specs.Reach.{most}
use Rattle.flow_discovery.specs.Starts.{starts}
use Rattle.block_law.specs.Translations.{Code}
use Rattle.vest_stops.specs.Decided.{Decision, stops, goes_on, IsDecided, StopsAsDecided}
use Rattle.vest_files.specs.Loading.{DecidesBytes, DecidesFile, DecidesFlow, DecidesImage, DecidesLoad, DecidesParts, DecidesTail, is_translated}
use Rattle.vest_files.specs.Loading.{IsLoaded, IsOfImage, IsOfTranslated, Loads, StopsAtBytes, StopsAtImageFile, StopsAtLoad, StopsAtTranslatedFile}
use Rattle.vest_stops.specs.Refusal.{RefusalValue}
use Rattle.vest_files.specs.Stages.{HasParts, IsFile, IsImage, RefusesFlow, RefusesHints, RefusesImage, RefusesParts, RefusesTail, StopsAtFile, StopsWhere}
use Rattle.translate.specs.Translated.{IsTranslated}
use Rattle.run_files.specs.Hints.{hints_of}
use Rattle.run_files.specs.declared.hint_refusal.HintRefusal.{HintRefusal}
use Rattle.vest_files.specs.Translate.{DecidesHinted, DecidesHints, DecidesTranslate, DecidesTranslating, IsHinted, IsTranslatedFile, StopsAtHinted, StopsAtTranslating, StopsTranslate}
use Rattle.vest_files.specs.Limits.{FILE_LIMIT}
use Rattle.vest_files.specs.Versions.{target_of}
use Rattle.image_meaning.specs.declared.target.Target.{Target}
use Rattle.vest_stops.specs.declared.status.Status.TheVariants as status
use Rattle.vest_stops.specs.declared.stop.Stop.{Stop}
use Rattle.vest_stops.specs.declared.stop.Stop.TheVariants.{Absent, Refused, ReadFault, TooLong, WantOfMemory}
use Rattle.vest_files.proofs.Members.{as_few, as_many}

-- ---- one stage
stage : (Refuses : RefusalValue → Type 0) (stop : Stop) (d : Decision) → StopsWhere Refuses stop → ((r : RefusalValue) → Refuses r → d ≡ stops status.Refused)
    → StopsAsDecided stop d
stage Refuses Absent d h f = absurd h
stage Refuses (Refused r) d h f = f r h
stage Refuses ReadFault d h f = absurd h
stage Refuses TooLong d h f = absurd h
stage Refuses WantOfMemory d h f = tt

long_file : (file : Option (List ℕ)) (Then : List ℕ → Type 0) (d : Decision) → IsLonger file FILE_LIMIT → DecidesFile file Then d → d ≡ stops status.TooLong
long_file None Then d h e = absurd h
long_file (Some bytes) Then d h e = rw (lt-ltb FILE_LIMIT (length bytes) h) at e

file_stops : (stop : Stop) (name : List ℕ) (f : Files) (r w : ℕ) (new : DeskMeaning) (Then : List ℕ → Type 0) (d : Decision)
    → StopsAtFile stop name (record { files = Some f; read_faults = r; write_faults = w }) new → DecidesFile (f name) Then d → StopsAsDecided stop d
file_stops Absent name f r w new Then d h e = subst (λ (o : Option (List ℕ)). DecidesFile o Then d) h e
file_stops (Refused refusal) name f r w new Then d h e = absurd h
file_stops ReadFault name f r w new Then d h e = tt
file_stops TooLong name f r w new Then d h e = long_file (f name) Then d h e
file_stops WantOfMemory name f r w new Then d h e = tt

file_read : (f : Files) (name bytes : List ℕ) (Then : List ℕ → Type 0) (d : Decision) → IsFile (Some f) name bytes → DecidesFile (f name) Then d → Then bytes
file_read f name bytes Then d file e =
    let read : DecidesFile (Some bytes) Then d = subst (λ (o : Option (List ℕ)). DecidesFile o Then d) file.held e in
    rw (le-ltb FILE_LIMIT (length bytes) file.short) at read

-- ---- the flow of an image
too_many : (image : ImageValue) (hints : List ℕ) (Then : Type 0) (d : Decision) (r : RefusalValue) → RefusesFlow image hints r → DecidesFlow image hints Then d
    → d ≡ stops status.Refused
too_many image hints Then d r h e =
    let decides = e.decides in
    rw (lt-ltb most (length e.addresses) (as_many image.pages (starts image hints) e.addresses h.count e.reached h.many)) at decides

few_enough : (target : Target) (image : ImageValue) (hints : List ℕ) (Then : Type 0) (d : Decision) (code : Code) → IsTranslated target image hints code → DecidesFlow image hints Then d → Then
few_enough target image hints Then d code h e =
    let decides = e.decides in
    rw (le-ltb most (length e.addresses) (as_few image.pages (starts image hints) e.addresses e.reached h.few)) at decides

-- ---- a VAX image
image_refused : (bytes : List ℕ) (d : Decision) (r : RefusalValue) → RefusesImage bytes r → DecidesImage (image_of bytes) d → d ≡ stops status.Refused
image_refused bytes d r h e = subst (λ (o : Result ImageValue ImageRefusal). DecidesImage o d) h.refused e

image_flow : (bytes : List ℕ) (image : ImageValue) (d : Decision) → IsImage bytes image → DecidesImage (image_of bytes) d → DecidesFlow image [] (d ≡ goes_on) d
image_flow bytes image d h e = subst (λ (o : Result ImageValue ImageRefusal). DecidesImage o d) h.meant e

pub image_stops : (stop : Stop) (bytes : List ℕ) (d : Decision) → StopsAtImageFile stop bytes → DecidesImage (image_of bytes) d → StopsAsDecided stop d
image_stops stop bytes d (inl h) e = stage (RefusesImage bytes) stop d h (λ r refused. image_refused bytes d r refused e)
image_stops stop bytes d (inr (image, meant, h)) e =
    stage (RefusesFlow image []) stop d h (λ r many. too_many image [] (d ≡ goes_on) d r many (image_flow bytes image d meant e))

pub image_goes : (bytes : List ℕ) (image : ImageValue) (target : Target) (code : Code) (d : Decision) → IsOfImage bytes image target code → DecidesImage (image_of bytes) d → d ≡ goes_on
image_goes bytes image target code d h e = few_enough target image [] (d ≡ goes_on) d code h.translated (image_flow bytes image d h.meant e)

-- ---- a translated file
parts_refused : (bytes : List ℕ) (d : Decision) (r : RefusalValue) → RefusesParts bytes r → DecidesParts (parts_of bytes) d → d ≡ stops status.Refused
parts_refused bytes d r h e = subst (λ (o : Result PartsValue TranslatedRefusal). DecidesParts o d) h.refused e

parts_flow : (bytes : List ℕ) (parts : PartsValue) (d : Decision) → HasParts bytes parts → DecidesParts (parts_of bytes) d
    → DecidesFlow parts.image parts.hints (DecidesTail parts d) d
parts_flow bytes parts d h e = subst (λ (o : Result PartsValue TranslatedRefusal). DecidesParts o d) h.meant e

abbrev Tail : Decision → Result (Unit {0}) TranslatedRefusal → Type 0
Tail d o = MatchResult o (λ _. d ≡ goes_on) (λ _. d ≡ stops status.Refused)

tail_refused : (parts : PartsValue) (code : Code) (d : Decision) (r : RefusalValue) → IsTranslated (target_of parts.version) parts.image parts.hints code → RefusesTail parts code r
    → DecidesTail parts d → d ≡ stops status.Refused
tail_refused parts code d r is h e = subst (Tail d) h.refused (e code is)

pub translated_stops : (stop : Stop) (bytes : List ℕ) (d : Decision) → StopsAtTranslatedFile stop bytes → DecidesParts (parts_of bytes) d → StopsAsDecided stop d
translated_stops stop bytes d (inl h) e = stage (RefusesParts bytes) stop d h (λ r refused. parts_refused bytes d r refused e)
translated_stops stop bytes d (inr (parts, meant, inl h)) e =
    stage (RefusesFlow parts.image parts.hints) stop d h (λ r many. too_many parts.image parts.hints (DecidesTail parts d) d r many (parts_flow bytes parts d meant e))
translated_stops stop bytes d (inr (parts, meant, inr (code, is, h))) e =
    stage (RefusesTail parts code) stop d h
    (λ r refused. tail_refused parts code d r is refused (few_enough (target_of parts.version) parts.image parts.hints (DecidesTail parts d) d code is (parts_flow bytes parts d meant e)))

pub translated_goes : (bytes : List ℕ) (image : ImageValue) (target : Target) (code : Code) (d : Decision) → IsOfTranslated bytes image target code → DecidesParts (parts_of bytes) d → d ≡ goes_on
translated_goes bytes image target code d h e =
    let is = subst (λ (t : Target). IsTranslated t h.parts.image h.parts.hints code) h.version h.translated in
    subst (Tail d) h.equal (few_enough target h.parts.image h.parts.hints (DecidesTail h.parts d) d code h.translated (parts_flow bytes h.parts d h.meant e) code is)

-- ---- either
bytes_stops : (b : Bool) (stop : Stop) (bytes : List ℕ) (d : Decision) → MatchBool b (StopsAtTranslatedFile stop bytes) (StopsAtImageFile stop bytes)
    → MatchBool b (DecidesParts (parts_of bytes) d) (DecidesImage (image_of bytes) d) → StopsAsDecided stop d
bytes_stops true stop bytes d h e = translated_stops stop bytes d h e
bytes_stops false stop bytes d h e = image_stops stop bytes d h e

bytes_go : (b : Bool) (bytes : List ℕ) (asked : Target) (image : ImageValue) (target : Target) (code : Code) (d : Decision) → MatchBool b (IsOfTranslated bytes image target code) ((target ≡ asked) × IsOfImage bytes image target code)
    → MatchBool b (DecidesParts (parts_of bytes) d) (DecidesImage (image_of bytes) d) → d ≡ goes_on
bytes_go true bytes asked image target code d h e = translated_goes bytes image target code d h e
bytes_go false bytes asked image target code d h e = image_goes bytes image target code d h.1 e

load_stops_at : (files : Option Files) (r w : ℕ) (stop : Stop) (name : List ℕ) (new : DeskMeaning) (d : Decision)
    → StopsAtLoad stop name (record { files = files; read_faults = r; write_faults = w }) new → DecidesLoad files name d → StopsAsDecided stop d
load_stops_at None r w stop name new d h e = absurd e
load_stops_at (Some f) r w stop name new d (inl h) e = file_stops stop name f r w new (DecidesBytes d) d h e
load_stops_at (Some f) r w stop name new d (inr (bytes, file, h)) e =
    bytes_stops (is_translated bytes) stop bytes d h (file_read f name bytes (DecidesBytes d) d file e)

pub load_stops : (stop : Stop) (name : List ℕ) (old new : DeskMeaning) (d : Decision) → StopsAtLoad stop name old new → DecidesLoad old.files name d → StopsAsDecided stop d
load_stops stop name old new d h e = load_stops_at old.files old.read_faults old.write_faults stop name new d h e

pub load_goes : (asked : Target) (files : Option Files) (name : List ℕ) (image : ImageValue) (target : Target) (code : Code) (d : Decision) → Loads asked files name image target code → DecidesLoad files name d → d ≡ goes_on
load_goes asked None name image target code d h e = absurd e
load_goes asked (Some f) name image target code d h e =
    bytes_go (is_translated h.bytes) h.bytes asked image target code d h.loaded (file_read f name h.bytes (DecidesBytes d) d h.file e)

-- ---- `translate`
hints_refused : (bytes : List ℕ) (Then : List ℕ → Type 0) (d : Decision) (r : RefusalValue) → RefusesHints bytes r → DecidesHints (hints_of bytes) Then d → d ≡ stops status.Refused
hints_refused bytes Then d r h e = subst (λ (o : Result (List ℕ) HintRefusal). DecidesHints o Then d) h.refused e

hinted_stops : (hinted : Option (List ℕ)) (stop : Stop) (f : Files) (r w : ℕ) (new : DeskMeaning) (Then : List ℕ → Type 0) (d : Decision)
    → StopsAtHinted stop hinted (record { files = Some f; read_faults = r; write_faults = w }) new → DecidesHinted f hinted Then d → StopsAsDecided stop d
hinted_stops None stop f r w new Then d h e = absurd h
hinted_stops (Some name) stop f r w new Then d (inl h) e = file_stops stop name f r w new (λ bytes. DecidesHints (hints_of bytes) Then d) d h e
hinted_stops (Some name) stop f r w new Then d (inr (bytes, file, h)) e =
    stage (RefusesHints bytes) stop d h (λ refusal refused. hints_refused bytes Then d refusal refused (file_read f name bytes (λ b. DecidesHints (hints_of b) Then d) d file e))

hinted_go : (hinted : Option (List ℕ)) (f : Files) (hints : List ℕ) (Then : List ℕ → Type 0) (d : Decision) → IsHinted (Some f) hinted hints → DecidesHinted f hinted Then d → Then hints
hinted_go None f hints Then d told e = subst Then (sym told) e
hinted_go (Some name) f hints Then d (bytes, file, has) e =
    subst (λ (o : Result (List ℕ) HintRefusal). DecidesHints o Then d) has.meant (file_read f name bytes (λ b. DecidesHints (hints_of b) Then d) d file e)

-- what is decided of the flow with the hints
abbrev Flows : ImageValue → Decision → (hints : List ℕ) → Type 0
Flows image d hints = DecidesFlow image hints (d ≡ goes_on) d

hinted_flow : (f : Files) (hinted : Option (List ℕ)) (bytes : List ℕ) (image : ImageValue) (d : Decision) → IsImage bytes image → DecidesTranslating f hinted (image_of bytes) d
    → DecidesHinted f hinted (Flows image d) d
hinted_flow f hinted bytes image d meant e = subst (λ (o : Result ImageValue ImageRefusal). DecidesTranslating f hinted o d) meant.meant e

translating_stops : (stop : Stop) (bytes : List ℕ) (hinted : Option (List ℕ)) (f : Files) (r w : ℕ) (new : DeskMeaning) (d : Decision)
    → StopsAtTranslating stop bytes hinted (record { files = Some f; read_faults = r; write_faults = w }) new → DecidesTranslating f hinted (image_of bytes) d → StopsAsDecided stop d
translating_stops stop bytes hinted f r w new d (inl h) e =
    stage (RefusesImage bytes) stop d h (λ refusal refused. subst (λ (o : Result ImageValue ImageRefusal). DecidesTranslating f hinted o d) refused.refused e)
translating_stops stop bytes hinted f r w new d (inr (image, meant, inl h)) e = hinted_stops hinted stop f r w new (Flows image d) d h (hinted_flow f hinted bytes image d meant e)
translating_stops stop bytes hinted f r w new d (inr (image, meant, inr (hints, told, h))) e =
    stage (RefusesFlow image hints) stop d h
    (λ refusal many. too_many image hints (d ≡ goes_on) d refusal many (hinted_go hinted f hints (Flows image d) d told (hinted_flow f hinted bytes image d meant e)))

translate_stops_at : (files : Option Files) (r w : ℕ) (stop : Stop) (name : List ℕ) (hinted : Option (List ℕ)) (new : DeskMeaning) (d : Decision)
    → StopsTranslate stop name hinted (record { files = files; read_faults = r; write_faults = w }) new → DecidesTranslate files name hinted d → StopsAsDecided stop d
translate_stops_at None r w stop name hinted new d h e = absurd e
translate_stops_at (Some f) r w stop name hinted new d (inl h) e = file_stops stop name f r w new (λ bytes. DecidesTranslating f hinted (image_of bytes) d) d h e
translate_stops_at (Some f) r w stop name hinted new d (inr (bytes, file, h)) e =
    translating_stops stop bytes hinted f r w new d h (file_read f name bytes (λ b. DecidesTranslating f hinted (image_of b) d) d file e)

pub translate_stops : (stop : Stop) (name : List ℕ) (hinted : Option (List ℕ)) (old new : DeskMeaning) (d : Decision) → StopsTranslate stop name hinted old new → DecidesTranslate old.files name hinted d
    → StopsAsDecided stop d
translate_stops stop name hinted old new d h e = translate_stops_at old.files old.read_faults old.write_faults stop name hinted new d h e

pub translate_goes : (files : Option Files) (name bytes : List ℕ) (hinted : Option (List ℕ)) (target : Target) (file : List ℕ) (d : Decision) → IsFile files name bytes
    → IsTranslatedFile target bytes hinted files file → DecidesTranslate files name hinted d → d ≡ goes_on
translate_goes None name bytes hinted target file d read h e = absurd e
translate_goes (Some f) name bytes hinted target file d read h e =
    let decides = file_read f name bytes (λ b. DecidesTranslating f hinted (image_of b) d) d read e in
    few_enough target h.image h.hints (d ≡ goes_on) d h.code h.translated (hinted_go hinted f h.hints (Flows h.image d) d h.told (hinted_flow f hinted bytes h.image d h.meant decides))

-- ---- what a call answers
module _ {X : Type 0} (r : Result X Stop) (d : Decision) where
  decided_by : (o : Result X Stop) → IfOk o (λ _. d ≡ goes_on) → IfErr o (λ stop. StopsAsDecided stop d) → IsDecided o d
  decided_by (Ok x) goes stop = goes
  decided_by (Err e) goes stop = stop

  pub bytes_decided : (asked : Target) (image : X → ImageValue) (target : X → Target) (code : X → Code) (files : Option Files) (name bytes : List ℕ) → IsFile files name bytes
      → IfOk r (λ x. IsLoaded asked bytes (image x) (target x) (code x)) → IfErr r (λ stop. StopsAtBytes stop bytes) → DecidesLoad files name d → IsDecided r d
  bytes_decided asked image target code None name bytes file ok err e = absurd e
  bytes_decided asked image target code (Some f) name bytes file ok err e =
      let decides : DecidesBytes d bytes = file_read f name bytes (DecidesBytes d) d file e in
      decided_by r (IfOk-weaker r _ _ (λ x h. bytes_go (is_translated bytes) bytes asked (image x) (target x) (code x) d h decides) ok)
      (IfErr-weaker r _ _ (λ stop h. bytes_stops (is_translated bytes) stop bytes d h decides) err)

  pub translate_decided : (name : List ℕ) (hinted : Option (List ℕ)) (old new : DeskMeaning) → IfErr r (λ stop. StopsTranslate stop name hinted old new) → IfOk r (λ _. d ≡ goes_on)
      → DecidesTranslate old.files name hinted d → IsDecided r d
  translate_decided name hinted old new err ok e = decided_by r ok (IfErr-weaker r _ _ (λ stop h. translate_stops stop name hinted old new d h e) err)
