-- What a replay found is mapped by the translation with its hints.
use Rattle.std.specs.Prelude.{◌≡◌, ◌≢◌, ℕ, IsSome, IsTrue, List, length, Some, String}
use Rattle.std.specs.declared.alloc.Global.{Global}
use Rattle.address_map.specs.Pairs.{Pair, word_at}
use Rattle.block_law.specs.Translations.{Code}
use Rattle.command_words.specs.Commands.{replay, translate}
use Rattle.command_words.specs.declared.commands.Target.{Target as WordTarget}
use Rattle.image_file.specs.Values.{ImageValue}
use Rattle.image_meaning.specs.declared.target.Target.{Target}
use Rattle.image_meaning.specs.declared.target.Target.TheVariants.{Original}
use Rattle.run_files.specs.Values.{OrderValue}
use Rattle.stored_runs.specs.Found.{AreFound}
use Rattle.translate.specs.Translated.{IsTranslated}
use Rattle.translated_file.specs.Spelling.{spelling}
use Rattle.vax_form.specs.Targets.{has}
use Rattle.vest_files.specs.Loading.{Loads}
use Rattle.vest_files.specs.Versions.{version_of}
use Rattle.vest_runs.specs.Kept.{KeptValue}
use Rattle.vest_stops.specs.declared.status.Status.{Status}
use Rattle.vest_stops.specs.declared.status.Status.TheVariants as status
use Rattle.vt_outside.specs.Desk.{Files}
use Rattle.vest_cli.specs.Decided.{EndsARun}
use Rattle.vest_cli.specs.Lent.{Lent}
use Rattle.vest_cli.specs.Replay.{HasOrder}
use Rattle.vest_cli.specs.Run.{target_of}
use Rattle.vest_cli.specs.Vest.{Ends}
use Rattle.vest_cli.specs.Words.{spelled}

-- a call of `replay` ended with 0, 4 or 5, over a desk that tells its files, and its words name a file of another name than the image's
-- for its hints
pub record HasFound (words : List (String Global)) (name file hints : List ℕ) (result : Status) (files : Files) (old new : Lent) (kept : KeptValue) : Type 0 where
  pub spells : spelled words ≡ Some (replay name file (Some hints))
  pub other : hints ≢ name
  pub told : old.desk.files ≡ Some files
  pub ended : EndsARun result
  pub ends : Ends (spelled words) result old new kept

-- a call of `translate` of that image with these hints ended with 0, over the files that the other call left
pub record HasTranslated (words : List (String Global)) (name to hints : List ℕ) (target : WordTarget) (result : Status) (left old new : Lent) (kept : KeptValue) : Type 0 where
  pub spells : spelled words ≡ Some (translate name to target (Some hints))
  pub over : old.desk.files ≡ left.desk.files
  pub ended : result ≡ status.Ok
  pub ends : Ends (spelled words) result old new kept

-- under the name stands the file of a translation of the image, with the addresses that the order found there and the first
-- translation lacks; and each of these is in the map of the second
pub record FoundAreMapped (name file to : List ℕ) (asked : Target) (first last : Files) : Type 0 where
  pub image : ImageValue
  pub target : Target
  pub code : Code
  pub loaded : Loads Original (Some first) name image target code
  pub order : OrderValue
  pub stored : HasOrder (length image.threads) (Some first) file order
  pub addresses : List ℕ
  pub found : AreFound image order code.map addresses
  pub hinted : Code
  pub translated : IsTranslated asked image addresses hinted
  pub there : last to ≡ Some (spelling (version_of asked) image addresses hinted.words hinted.map)
  pub mapped : (address : ℕ) → IsTrue (has addresses address) → IsSome (word_at hinted.map address)

-- the last desk tells its files, too
abbrev pub WhatWasFoundIsMapped : Type 0
WhatWasFoundIsMapped = (words others : List (String Global)) (name file hints to : List ℕ) (target : WordTarget) (result again : Status) (files : Files) (old new before after : Lent) (kept kept' : KeptValue)
    → HasFound words name file hints result files old new kept → HasTranslated others name to hints target again new before after kept'
    → (last : Files) × (after.desk.files ≡ Some last) × FoundAreMapped name file to (target_of target) files last

-- what an order finds of an image is in the map of the image's translation with these hints, whichever map lacked it before
abbrev pub FoundIsMapped : Type 0
FoundIsMapped = (target : Target) (image : ImageValue) (order : OrderValue) (map : List Pair) (addresses : List ℕ) (code : Code) (address : ℕ)
    → AreFound image order map addresses → IsTranslated target image addresses code → IsTrue (has addresses address) → IsSome (word_at code.map address)
