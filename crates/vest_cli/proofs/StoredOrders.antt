-- What the files of `replay` decide, and what comes of them.
use Rattle.std.proofs.Common.{◌≡◌, ◌∙◌, ◌≤◌, ℕ, Bool, true, false, List, length, map, option_map, Option, None, Some, Result, Ok, Err, IfErr, IfOk, refl, sym, ap, subst, arith, inl, inr}
use Rattle.std.specs.Prelude.{IfSome, MatchBool, if◌then◌else◌, option_and_then}
use Rattle.std.specs.List.{list_any}
use Rattle.std.specs.Result.{result_ok}
use Rattle.std.proofs.lemmas.Bool.{lt-ltb, le-ltb}
use Rattle.vt_outside.specs.Causes.{Rose}
use Rattle.vt_outside.specs.Desk.{DeskMeaning, Files, IsLonger}
use Rattle.vt_outside.specs.Sink.{SinkMeaning}
use Rattle.vt_outside.specs.Taking.{TookAll}
use Rattle.vest_runs.specs.Delivery.{Delivers}
use Rattle.image_file.specs.Reading.{image_of}
use Rattle.image_file.specs.Values.{ImageValue}
use Rattle.image_file.specs.declared.refusal.ImageRefusal.{ImageRefusal}
use Rattle.translated_file.specs.Reading.{parts_of}
use Rattle.translated_file.specs.Values.{PartsValue}
use Rattle.translated_file.specs.declared.refusal.TranslatedRefusal.{TranslatedRefusal}
use Rattle.address_map.specs.Pairs.{Pair}
use Rattle.block_law.specs.Translations.{Code}
use Rattle.image_meaning.specs.declared.target.Target.{Target}
use Rattle.image_meaning.specs.declared.target.Target.TheVariants.{Original}
use Rattle.run_files.specs.Reading.{order_of}
use Rattle.run_files.specs.Values.{OrderValue}
use Rattle.run_files.specs.declared.refusal.OrderRefusal.{OrderRefusal}
use Rattle.stored_runs.specs.Ends.{is_raised, is_spent}
use Rattle.stored_runs.specs.Replay.{EndValue, Gives, ReplayedValue, replay_of}
use Rattle.stored_runs.specs.declared.refusal.ReplayRefusal.{ReplayRefusal}
use Rattle.stored_runs.specs.declared.refusal.ReplayRefusal.TheVariants.{NotDriven, WrongEnd, WantOfMemory as NoMemory}
use Rattle.vest_stops.specs.Decided.{Decision, stops, goes_on, IsDecided, StopsAsDecided}
use Rattle.vest_stops.specs.Files.{SameFiles}
use Rattle.vest_stops.specs.declared.status.Done.{Done}
use Rattle.vest_stops.specs.declared.status.Done.TheVariants as dones
use Rattle.vest_stops.specs.declared.status.Status.TheVariants as status
use Rattle.vest_stops.specs.declared.stop.Stop.{Stop}
use Rattle.vest_stops.specs.declared.stop.Stop.TheVariants.{Absent, Refused, ReadFault, TooLong, WantOfMemory}
use Rattle.vest_files.specs.Limits.{FILE_LIMIT}
use Rattle.vest_files.specs.Loading.{DecidesFile, IsLoaded, IsOfImage, IsOfTranslated, Loads, is_translated}
use Rattle.vest_files.specs.Stages.{IsFile, StopsAtFile, StopsWhere}
use Rattle.vest_files.proofs.Deciding.{load_goes, load_stops}
use Rattle.vest_cli.specs.Hints.{HasHints, StoresFile, StoresHints}
use Rattle.vest_cli.specs.Storing.{Stores}
use Rattle.vest_cli.specs.declared.hinting.HintFile.{HintFile}
use Rattle.vest_cli.proofs.OrderFiles.{stored_behind}
use Rattle.vest_cli.specs.Replay.{DecidesBehindImage, DecidesOrder, DecidesOrderFile, DecidesReplay, DecidesReplayed, FilesGive, HasOrder, RefusesGiven, RefusesOrder, Replays, StopsAtOrderFile, StopsBehindImage, StopsReplay, done_of, image_in, stop_of}

-- ---- of an order that gives nothing
pub stops_where : {X : Type 0} (view : X → ReplayedValue) (image : ImageValue) (order : OrderValue) (cause : ReplayRefusal) → Gives view (Err cause) (replay_of image order) → StopsWhere (RefusesGiven image order) (stop_of cause)
stops_where view image order NotDriven refused = record { cause = NotDriven; refused = refused; is = refl }
stops_where view image order (WrongEnd thread) refused = record { cause = WrongEnd thread; refused = refused; is = refl }
stops_where view image order NoMemory refused = tt

-- ---- what goes out, behind which the ends decide
never_fault : (ends : List EndValue) → dones.WriteFault ≡ done_of ends → ⊥
never_fault es = go (list_any is_raised (map (λ (e : EndValue). e.0) es)) (list_any is_spent (map (λ (e : EndValue). e.0) es))
  where
    go : (raised spent : Bool) → dones.WriteFault ≡ (if raised then dones.Exception else if spent then dones.Spent else dones.Ok) → ⊥
    go true spent e = cc e
    go false true e = cc e
    go false false e = cc e

pub sent : (r : Done) (ends : List EndValue) (output lines : List ℕ) (out out' report report' : SinkMeaning) → r ≡ done_of ends → TookAll out out' output → TookAll report report' lines
    → Delivers r output lines (done_of ends) out out' report report'
sent dones.Ok es output lines out out' report report' is first second = (is, first, second)
sent dones.Exception es output lines out out' report report' is first second = (is, first, second)
sent dones.Spent es output lines out out' report report' is first second = (is, first, second)
sent dones.ReadFault es output lines out out' report report' is first second = (is, first, second)
sent dones.WriteFault es output lines out out' report report' is first second = absurd (never_fault es is)

-- ---- a file that is read behind another, told from before the first
rose_before : (a b n : ℕ) → a ≤ b → Rose b n → Rose a n
rose_before a b n le rose = omega (arith, le, rose)

file_before : (stop : Stop) (file : List ℕ) (old mid new : DeskMeaning) → SameFiles old mid → StopsAtFile stop file mid new → StopsAtFile stop file old new
file_before Absent file old mid new same h = subst (λ (files : Option Files). IfSome files (λ f. f file ≡ None)) same.files h
file_before (Refused refusal) file old mid new same h = absurd h
file_before ReadFault file old mid new same h = rose_before old.read_faults mid.read_faults new.read_faults same.read_faults h
file_before TooLong file old mid new same h = subst (λ (files : Option Files). IfSome files (λ f. IsLonger (f file) FILE_LIMIT)) same.files h
file_before WantOfMemory file old mid new same h = tt

pub order_before : (stop : Stop) (threads : ℕ) (file : List ℕ) (old mid new : DeskMeaning) → SameFiles old mid → StopsAtOrderFile stop threads file mid new → StopsAtOrderFile stop threads file old new
order_before stop threads file old mid new same (inl h) = inl (file_before stop file old mid new same h)
order_before stop threads file old mid new same (inr (bytes, stored, h)) =
    inr (bytes, subst (λ (files : Option Files). IsFile files file bytes) same.files stored, h)

pub has_before : (threads : ℕ) (file : List ℕ) (order : OrderValue) (old mid : DeskMeaning) → SameFiles old mid → HasOrder threads mid.files file order → HasOrder threads old.files file order
has_before threads file order old mid same h = subst (λ (files : Option Files). HasOrder threads files file order) same.files h

pub same_both : (old mid new : DeskMeaning) → SameFiles old mid → SameFiles mid new → SameFiles old new
same_both old mid new first second = record {
  files = second.files ∙ first.files;
  write_faults = second.write_faults ∙ first.write_faults;
  read_faults = omega (arith, first.read_faults, second.read_faults);
}

-- ---- what was made for hints is stored where a file is named for them
pub hints_stored : (image : ImageValue) (order : OrderValue) (map : List Pair) (to : Option (List ℕ)) (file : Option HintFile) (result went : Done) (old mid new : DeskMeaning) → SameFiles old mid → HasHints image order map to file
    → StoresFile file result went mid new → StoresHints image order map to result went old new
hints_stored image order map None file result went old mid new same has stored =
    let none : (result ≡ went) × (new ≡ mid) = subst (λ (f : Option HintFile). StoresFile f result went mid new) has stored in
    (none.0, subst (λ (d : DeskMeaning). SameFiles old d) (sym none.1) same)
hints_stored image order map (Some name) None result went old mid new same has stored = absurd has
hints_stored image order map (Some name) (Some file) result went old mid new same has stored = (
  file.bytes.items,
  has.1,
  stored_behind result went (Some name) file.bytes.items old mid new same (subst (λ (n : List ℕ). Stores result went (Some n) file.bytes.items mid new) has.0 stored),
)

-- ---- the image of the first file is the one that its bytes mean
pub image_is : (asked : Target) (bytes : List ℕ) (image : ImageValue) (target : Target) (code : Code) → IsLoaded asked bytes image target code → image_in bytes ≡ Some image
image_is asked bytes image target code h = go (is_translated bytes) h
  where
    go : (b : Bool) → MatchBool b (IsOfTranslated bytes image target code) ((target ≡ asked) × IsOfImage bytes image target code)
        → (if b then option_map (λ (parts : PartsValue). parts.image) (result_ok (parts_of bytes)) else result_ok (image_of bytes)) ≡ Some image
    go true l = ap (λ (r : Result PartsValue TranslatedRefusal). option_map (λ (parts : PartsValue). parts.image) (result_ok r)) l.meant.meant ∙ ap Some (sym l.part)
    go false l = ap (λ (r : Result ImageValue ImageRefusal). result_ok r) l.1.meant.meant

pub loaded_image : (asked : Target) (f : Files) (name : List ℕ) (image : ImageValue) (target : Target) (code : Code) → Loads asked (Some f) name image target code
    → option_and_then image_in (f name) ≡ Some image
loaded_image asked f name image target code loads =
    ap (λ (file : Option (List ℕ)). option_and_then image_in file) loads.file.held ∙ image_is asked loads.bytes image target code loads.loaded

-- ---- what told files decide
module _ (f : Files) (name file : List ℕ) (image : ImageValue) (target : Target) (code : Code) (loads : Loads Original (Some f) name image target code) (d : Decision)
    (e : DecidesReplay (Some f) name file d) where
  goes : e.at_load ≡ goes_on
  goes = load_goes Original (Some f) name image target code e.at_load loads e.load

  order_file : DecidesOrderFile (Some image) (f file) d
  order_file =
      subst (λ (o : Option ImageValue). DecidesOrderFile o (f file) d) (loaded_image Original f name image target code loads)
      (subst (λ (at : Decision). DecidesBehindImage at (Some f) name file d) goes e.behind)

  -- of bytes within the limit, under the second name
  its_order : (bytes : List ℕ) → IsFile (Some f) file bytes → DecidesOrder image (order_of (length image.threads) bytes) d
  its_order bytes stored =
      let read : DecidesFile (Some bytes) (λ b. DecidesOrder image (order_of (length image.threads) b) d) d =
      subst (λ (o : Option (List ℕ)). DecidesFile o (λ b. DecidesOrder image (order_of (length image.threads) b) d) d) stored.held order_file in
      rw (le-ltb FILE_LIMIT (length bytes) stored.short) at read

  its_replay : (bytes : List ℕ) (order : OrderValue) → IsFile (Some f) file bytes → order_of (length image.threads) bytes ≡ Ok order → DecidesReplayed (replay_of image order) d
  its_replay bytes order stored meant = subst (λ (o : Result OrderValue OrderRefusal). DecidesOrder image o d) meant (its_order bytes stored)

  order_goes : (replayed : ReplayedValue) (order : OrderValue) → HasOrder (length image.threads) (Some f) file order → replay_of image order ≡ Ok replayed → d ≡ goes_on
  order_goes replayed order h gives =
      subst (λ (r : Result ReplayedValue ReplayRefusal). DecidesReplayed r d) gives (its_replay h.bytes order h.stored h.meant)

  long_file : (o : Option (List ℕ)) → DecidesOrderFile (Some image) o d → IsLonger o FILE_LIMIT → d ≡ stops status.TooLong
  long_file None h long = absurd long
  long_file (Some bytes) h long = rw (lt-ltb FILE_LIMIT (length bytes) long) at h

  order_stops : (stop : Stop) (bytes : List ℕ) → IsFile (Some f) file bytes → StopsWhere (RefusesOrder (length image.threads) bytes) stop → StopsAsDecided stop d
  order_stops Absent bytes stored h = absurd h
  order_stops (Refused refusal) bytes stored h = subst (λ (o : Result OrderValue OrderRefusal). DecidesOrder image o d) h.refused (its_order bytes stored)
  order_stops ReadFault bytes stored h = tt
  order_stops TooLong bytes stored h = absurd h
  order_stops WantOfMemory bytes stored h = tt

  given_stops : (stop : Stop) (order : OrderValue) → HasOrder (length image.threads) (Some f) file order → StopsWhere (RefusesGiven image order) stop → StopsAsDecided stop d
  given_stops Absent order has h = absurd h
  given_stops (Refused refusal) order has h = subst (λ (r : Result ReplayedValue ReplayRefusal). DecidesReplayed r d) h.refused (its_replay has.bytes order has.stored has.meant)
  given_stops ReadFault order has h = tt
  given_stops TooLong order has h = absurd h
  given_stops WantOfMemory order has h = tt

  behind_stops : (stop : Stop) (r w : ℕ) (new : DeskMeaning) → StopsBehindImage stop image file (record { files = Some f; read_faults = r; write_faults = w }) new → StopsAsDecided stop d
  behind_stops Absent r w new (inl (inl h)) = subst (λ (o : Option (List ℕ)). DecidesOrderFile (Some image) o d) h order_file
  behind_stops (Refused refusal) r w new (inl (inl h)) = absurd h
  behind_stops ReadFault r w new (inl (inl h)) = tt
  behind_stops TooLong r w new (inl (inl h)) = long_file (f file) order_file h
  behind_stops WantOfMemory r w new (inl (inl h)) = tt
  behind_stops stop r w new (inl (inr (bytes, stored, h))) = order_stops stop bytes stored h
  behind_stops stop r w new (inr (order, has, h)) = given_stops stop order has h

-- the first file stops it, as is decided on that
stops_first : (stop : Stop) (at d : Decision) (files : Option Files) (name file : List ℕ) → StopsAsDecided stop at → DecidesBehindImage at files name file d → StopsAsDecided stop d
stops_first Absent at d files name file h e = subst (λ (x : Decision). DecidesBehindImage x files name file d) h e
stops_first (Refused refusal) at d files name file h e = subst (λ (x : Decision). DecidesBehindImage x files name file d) h e
stops_first ReadFault at d files name file h e = tt
stops_first TooLong at d files name file h e = subst (λ (x : Decision). DecidesBehindImage x files name file d) h e
stops_first WantOfMemory at d files name file h e = tt

untold : {X : Type 0} (at : Decision) (name file : List ℕ) (d : Decision) → at ≡ goes_on → DecidesBehindImage at None name file d → X
untold at name file d goes e = absurd (subst (λ (x : Decision). DecidesBehindImage x None name file d) goes e)

pub replay_stops_at : (files : Option Files) (r w : ℕ) (stop : Stop) (name file : List ℕ) (new : DeskMeaning) (d : Decision)
    → StopsReplay stop name file (record { files = files; read_faults = r; write_faults = w }) new → DecidesReplay files name file d → StopsAsDecided stop d
replay_stops_at files r w stop name file new d (inl h) e =
    stops_first stop e.at_load d files name file (load_stops stop name (record { files = files; read_faults = r; write_faults = w }) new e.at_load h e.load) e.behind
replay_stops_at None r w stop name file new d (inr (image, target, code, loads, h)) e =
    untold e.at_load name file d (load_goes Original None name image target code e.at_load loads e.load) e.behind
replay_stops_at (Some f) r w stop name file new d (inr (image, target, code, loads, h)) e = behind_stops f name file image target code loads d e stop r w new h

goes_as_decided : (files : Option Files) (name file : List ℕ) (replayed : ReplayedValue) (d : Decision) → FilesGive files name file replayed → DecidesReplay files name file d → d ≡ goes_on
goes_as_decided None name file replayed d h e = untold e.at_load name file d (load_goes Original None name h.image h.target h.code e.at_load h.loaded e.load) e.behind
goes_as_decided (Some f) name file replayed d h e = order_goes f name file h.image h.target h.code h.loaded d e replayed h.order h.stored h.gives

pub replay_decided : (r : Result Done Stop) (name file : List ℕ) (hints : Option (List ℕ)) (old new : DeskMeaning) (out out' report report' : SinkMeaning) → IfOk r (λ end. Replays end name file hints old new out out' report report')
    → IfErr r (λ stop. StopsReplay stop name file old new) → (d : Decision) → DecidesReplay old.files name file d → IsDecided r d
replay_decided (Ok end) name file hints old new out out' report report' ok err d e = goes_as_decided old.files name file ok.replayed d ok.gives e
replay_decided (Err stop) name file hints old new out out' report report' ok err d e = replay_stops_at old.files old.read_faults old.write_faults stop name file new d err e
