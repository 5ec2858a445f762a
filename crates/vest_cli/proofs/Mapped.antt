-- What a replay found is mapped by the translation with its hints.
use Rattle.std.proofs.Common.{◌≡◌, ◌∙◌, ℕ, Bool, true, false, codes, List, length, take, Option, None, Some, Ok, refl, sym, ap, subst, arith, inl, inr}
use Rattle.std.specs.Prelude.{MatchBool, String}
use Rattle.std.specs.Int.{w32, from_le_bytes}
use Rattle.std.specs.declared.alloc.Global.{Global}
use Rattle.std.proofs.lemmas.Slice.Eq.{bytes_eq-Decides}
use Rattle.block_law.specs.Translations.{Code}
use Rattle.command_words.specs.Commands.{CommandValue, replay, translate}
use Rattle.command_words.specs.declared.commands.Target.{Target as WordTarget}
use Rattle.image_file.specs.Limits.{MAGIC}
use Rattle.image_file.specs.Reading.{image_of, word}
use Rattle.image_file.specs.Values.{ImageValue}
use Rattle.image_file.proofs.ReadLaws.{counts_ok, image_ok}
use Rattle.image_meaning.specs.declared.target.Target.{Target}
use Rattle.image_meaning.specs.declared.target.Target.TheVariants.{Original}
use Rattle.run_files.specs.Hints.{WrittenHintsAreRead, hints_of}
use Rattle.run_files.specs.Values.{OrderValue}
use Rattle.translate.specs.Translated.{IsTranslated}
use Rattle.translated_file.specs.Spelling.{spelling}
use Rattle.vest_files.specs.Hinted.{HintsAreMapped}
use Rattle.vest_files.specs.Loading.{IsLoaded, IsOfImage, IsOfTranslated, Loads, is_translated}
use Rattle.vest_files.specs.Stages.{IsFile}
use Rattle.vest_files.specs.Translate.{IsTranslatedFile, Translates}
use Rattle.vest_files.specs.Versions.{version_of}
use Rattle.vest_runs.specs.Kept.{KeptValue}
use Rattle.vest_stops.specs.Status.{status_of, status_of_done}
use Rattle.vest_stops.specs.declared.status.Done.{Done}
use Rattle.vest_stops.specs.declared.status.Done.TheVariants as dones
use Rattle.vest_stops.specs.declared.status.Status.{Status}
use Rattle.vest_stops.specs.declared.status.Status.TheVariants as status
use Rattle.vest_stops.specs.declared.stop.Stop.{Stop}
use Rattle.vest_stops.specs.declared.stop.Stop.TheVariants.{Absent, Refused, ReadFault, TooLong, WantOfMemory}
use Rattle.vt_outside.specs.Desk.{BothTold, DeskMeaning, Files, Puts}
use Rattle.vest_cli.specs.Hints.{AreHintBytes}
use Rattle.vest_cli.specs.Lent.{Lent}
use Rattle.vest_cli.specs.Mapped.{FoundAreMapped, FoundIsMapped, HasFound, HasTranslated, WhatWasFoundIsMapped}
use Rattle.vest_cli.specs.Replay.{HasOrder}
use Rattle.vest_cli.specs.Run.{target_of}
use Rattle.vest_cli.specs.Storing as storing
use Rattle.vest_cli.specs.Storing.{Stores}
use Rattle.vest_cli.specs.Vest.{Does, Ends, OnlyReplays, OnlyTranslates, done, stopped, unspelled}
use Rattle.vest_cli.specs.Words.{spelled}
use Rattle.vest_cli.proofs.Deciding.{stops_no_run, well_ended}

-- ---- a file that is read as a VAX image is no translated file
first_of_image : (bytes : List ℕ) (image : ImageValue) → image_of bytes ≡ Ok image → word bytes ≡ MAGIC
first_of_image bytes image e =
    let read = image_ok bytes image e in
    (counts_ok bytes read.counts read.counted).magic

no_translated : (bytes : List ℕ) (image : ImageValue) → image_of bytes ≡ Ok image → is_translated bytes ≡ false
no_translated bytes image e = go (is_translated bytes) refl
  where
    go : (b : Bool) → is_translated bytes ≡ b → b ≡ false
    go false same = refl
    go true same =
        let first : codes "VXTR" ≡ take 4 bytes = (bytes_eq-Decides (codes "VXTR") (take 4 bytes)).0 same in
        absurd (let clash : from_le_bytes w32 (codes "VXTR") ≡ MAGIC = ap (from_le_bytes w32) first ∙ first_of_image bytes image e in omega (arith, clash))

-- so its image is the one that was loaded
one_image : (bytes : List ℕ) (image loaded : ImageValue) (asked target : Target) (code : Code) → image_of bytes ≡ Ok image → IsLoaded asked bytes loaded target code → image ≡ loaded
one_image bytes image loaded asked target code meant h =
    let plain : (target ≡ asked) × IsOfImage bytes loaded target code =
    subst (λ (b : Bool). MatchBool b (IsOfTranslated bytes loaded target code) ((target ≡ asked) × IsOfImage bytes loaded target code)) (no_translated bytes image meant) h in
    let both : Ok image ≡ Ok loaded = sym meant ∙ plain.1.meant.meant in
    cc both

-- ---- what the first call left: the hints that it found under their name, and the image as it was
record HasLeftHints (name file hints : List ℕ) (first : Files) (left : Lent) : Type 0 where
  files : Files
  told : left.desk.files ≡ Some files
  same : files name ≡ first name
  image : ImageValue
  target : Target
  code : Code
  loaded : Loads Original (Some first) name image target code
  order : OrderValue
  stored : HasOrder (length image.threads) (Some first) file order
  bytes : List ℕ
  hinted : AreHintBytes image order code.map bytes
  there : files hints ≡ Some bytes

module _ (words : List (String Global)) (name file hints : List ℕ) (result : Status) (first : Files) (old new : Lent) (kept : KeptValue) (h : HasFound words name file hints result first old new kept) where
  put_by : {X : Type 0} (named bytes : List ℕ) → named ≡ hints → (n : Option Files) → new.desk.files ≡ n → BothTold (Some first) n (λ was now. Puts was now named bytes)
      → ((files : Files) → new.desk.files ≡ Some files → files name ≡ first name → files hints ≡ Some bytes → X) → X
  put_by named bytes same None now puts then = absurd puts
  put_by named bytes same (Some files) now puts then =
      then files now (puts.others name (λ e. h.other (sym (e ∙ same)))) (subst (λ (n : List ℕ). files n ≡ Some bytes) same puts.there)

  stored_by : {X : Type 0} (end went : Done) (bytes : List ℕ) → result ≡ status_of_done end → Stores end went (Some hints) bytes old.desk new.desk
      → ((files : Files) → new.desk.files ≡ Some files → files name ≡ first name → files hints ≡ Some bytes → X) → X
  stored_by end went bytes is (storing.left (inl none) so stays) then = absurd (cc none)
  stored_by end went bytes is (storing.left (inr failed) so stays) then = absurd (well_ended result end is h.ended (so ∙ failed))
  stored_by end went bytes is (storing.stored named asked well so writes) then =
      put_by named bytes (let e : Some named ≡ Some hints = sym asked in cc e) new.desk.files refl
      (subst (λ (o : Option Files). BothTold o new.desk.files (λ was now. Puts was now named bytes)) h.told writes) then
  stored_by end went bytes is (storing.failed named asked well so writes) then = absurd (well_ended result end is h.ended so)

  has_left_hints : HasLeftHints name file hints first new
  has_left_hints = by h.ends
    where
      by : Ends (spelled words) result old new kept → HasLeftHints name file hints first new
      by (unspelled none is untouched stays) = absurd (let clash : None ≡ Some (replay name file (Some hints)) = sym none ∙ h.spells in cc clash)
      by (stopped stop is why stays) = absurd (stops_no_run result stop is h.ended)
      by (done command end is so does) =
          let one : command ≡ replay name file (Some hints) = let e : Some command ≡ Some (replay name file (Some hints)) = sym is ∙ h.spells in cc e in
          let only : OnlyReplays end name file (Some hints) old new kept = subst (λ (c : CommandValue). Does c end old new kept) one does in
          let its = only.replays in
          let gives = its.gives in
          stored_by end its.sent its.stored.0 so its.stored.2
          (λ files told same there. record {
            files = files;
            told = told;
            same = same;
            image = gives.image;
            target = gives.target;
            code = gives.code;
            loaded = subst (λ (o : Option Files). Loads Original o name gives.image gives.target gives.code) h.told gives.loaded;
            order = gives.order;
            stored = subst (λ (o : Option Files). HasOrder (length gives.image.threads) o file gives.order) h.told gives.stored;
            bytes = its.stored.0;
            hinted = its.stored.1;
            there = there;
          })

-- ---- what the second call made of them
pub found_is_mapped : HintsAreMapped → FoundIsMapped
found_is_mapped maps target image order map addresses code address found translated there =
    maps target image addresses code address translated there (found.found.each address there).block

module _ (read_back : WrittenHintsAreRead) (maps : FoundIsMapped) (name file hints to : List ℕ) (first : Files) (left : Lent) (l : HasLeftHints name file hints first left) where
  -- the file that was written is that of the found addresses
  made_of : (asked : Target) (bytes written : List ℕ) → l.files name ≡ Some bytes → IsTranslatedFile asked bytes (Some hints) (Some l.files) written
      → (last : Files) → last to ≡ Some written → FoundAreMapped name file to asked first last
  made_of asked bytes written held made last there =
      let images : Some bytes ≡ Some l.loaded.bytes = sym held ∙ l.same ∙ l.loaded.file.held in
      let one_file : bytes ≡ l.loaded.bytes = cc images in
      let same_image : made.image ≡ l.image =
      one_image bytes made.image l.image Original l.target l.code made.meant.meant (subst (λ (b : List ℕ). IsLoaded Original b l.image l.target l.code) (sym one_file) l.loaded.loaded) in
      let addresses : List ℕ = l.hinted.addresses in
      let files : Some made.told.0 ≡ Some l.bytes = sym made.told.1.held ∙ l.there in
      let one_hints : made.told.0 ≡ l.bytes = cc files in
      let read : Ok made.hints ≡ Ok addresses = sym made.told.2.meant ∙ ap hints_of (one_hints ∙ l.hinted.spell) ∙ read_back addresses l.hinted.found.found.hints in
      let same_hints : made.hints ≡ addresses = cc read in
      let translated : IsTranslated asked l.image addresses made.code =
      subst (λ (i : ImageValue). IsTranslated asked i addresses made.code) same_image (subst (λ (a : List ℕ). IsTranslated asked made.image a made.code) same_hints made.translated) in
      record {
        image = l.image;
        target = l.target;
        code = l.code;
        loaded = l.loaded;
        order = l.order;
        stored = l.stored;
        addresses = addresses;
        found = l.hinted.found;
        hinted = made.code;
        translated = translated;
        there = there ∙ ap Some (made.is ∙ (λ i. spelling (version_of asked) (same_image i) (same_hints i) made.code.words made.code.map));
        mapped = λ address found. maps asked l.image l.order l.code.map addresses made.code address l.hinted.found translated found;
      }

  written_by : (asked : Target) (before after : DeskMeaning) → before.files ≡ Some l.files → (made : Translates asked dones.Ok name to (Some hints) before after)
      → (n : Option Files) → after.files ≡ n → BothTold (Some l.files) n (λ was now. Puts was now to made.file)
      → (last : Files) × (after.files ≡ Some last) × FoundAreMapped name file to asked first last
  written_by asked before after over made None now puts = absurd puts
  written_by asked before after over made (Some last) now puts = (
    last,
    now,
    made_of asked made.bytes made.file (subst (λ (o : Option Files). IsFile o name made.bytes) over made.read).held
        (subst (λ (o : Option Files). IsTranslatedFile asked made.bytes (Some hints) o made.file) over made.made) last puts.there,
  )

  translated_by : (asked : Target) (end : Done) → status.Ok ≡ status_of_done end → (before after : DeskMeaning) → before.files ≡ Some l.files → Translates asked end name to (Some hints) before after
      → (last : Files) × (after.files ≡ Some last) × FoundAreMapped name file to asked first last
  translated_by asked dones.Ok is before after over made =
      written_by asked before after over made after.files refl (subst (λ (o : Option Files). BothTold o after.files (λ was now. Puts was now to made.file)) over made.written)
  translated_by asked dones.Exception is before after over made = absurd (cc is)
  translated_by asked dones.Spent is before after over made = absurd (cc is)
  translated_by asked dones.ReadFault is before after over made = absurd (cc is)
  translated_by asked dones.WriteFault is before after over made = absurd (cc is)

  stops_not_well : (stop : Stop) → status.Ok ≡ status_of stop → ⊥
  stops_not_well Absent e = cc e
  stops_not_well (Refused refusal) e = cc e
  stops_not_well ReadFault e = cc e
  stops_not_well TooLong e = cc e
  stops_not_well WantOfMemory e = cc e

  is_mapped_by : (words : List (String Global)) (target : WordTarget) (again : Status) (before after : Lent) (kept : KeptValue) → HasTranslated words name to hints target again left before after kept
      → (last : Files) × (after.desk.files ≡ Some last) × FoundAreMapped name file to (target_of target) first last
  is_mapped_by words target again before after kept h = by h.ends
    where
      by : Ends (spelled words) again before after kept → (last : Files) × (after.desk.files ≡ Some last) × FoundAreMapped name file to (target_of target) first last
      by (unspelled none is untouched stays) = absurd (let clash : None ≡ Some (translate name to target (Some hints)) = sym none ∙ h.spells in cc clash)
      by (stopped stop is why stays) = absurd (stops_not_well stop (sym h.ended ∙ is))
      by (done command end is so does) =
          let one : command ≡ translate name to target (Some hints) = let e : Some command ≡ Some (translate name to target (Some hints)) = sym is ∙ h.spells in cc e in
          let only : OnlyTranslates (target_of target) end name to (Some hints) before after kept = subst (λ (c : CommandValue). Does c end before after kept) one does in
          translated_by (target_of target) end (sym h.ended ∙ so) before.desk after.desk (h.over ∙ l.told) only.translates

pub what_was_found_is_mapped : WrittenHintsAreRead → FoundIsMapped → WhatWasFoundIsMapped
what_was_found_is_mapped read_back maps words others name file hints to target result again files old new before after kept kept' first second =
    is_mapped_by read_back maps name file hints to files new (has_left_hints words name file hints result files old new kept first) others target again before after kept' second
