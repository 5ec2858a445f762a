-- The hints of a replay: what the order finds of the image, and its translation lacks.
use Rattle.std.specs.Prelude.{◌≡◌, ℕ, List, Option, None, Some}
use Rattle.std.specs.String.{string_bytes}
use Rattle.address_map.specs.Pairs.{Pair}
use Rattle.image_file.specs.Values.{ImageValue}
use Rattle.run_files.specs.Hints.{hints_bytes}
use Rattle.run_files.specs.Values.{OrderValue}
use Rattle.stored_runs.specs.Found.{AreFound}
use Rattle.vt_outside.specs.Desk.{DeskMeaning}
use Rattle.vest_stops.specs.Files.{SameFiles}
use Rattle.vest_stops.specs.declared.status.Done.{Done}
use Rattle.vest_cli.specs.Storing.{Stores}
use Rattle.vest_cli.specs.declared.hinting.HintFile.{HintFile}

-- the bytes are the hint file of the addresses that the order finds of the image, and that the map lacks
pub record AreHintBytes (image : ImageValue) (order : OrderValue) (map : List Pair) (bytes : List ℕ) : Type 0 where
  pub addresses : List ℕ
  pub found : AreFound image order map addresses
  pub spell : bytes ≡ hints_bytes addresses

-- that file is made under the name, and none where there is no name
abbrev pub HasHints : ImageValue → OrderValue → (map : List Pair) → (to : Option (List ℕ)) → Option HintFile → Type 0
HasHints image order map None file = file ≡ None
HasHints image order map (Some name) None = ⊥
HasHints image order map (Some name) (Some file) = (string_bytes file.name ≡ name) × AreHintBytes image order map file.bytes.items

-- behind output and report, which came to `sent`: no hints were asked for, and no file changed; or theirs was stored
abbrev pub StoresHints : ImageValue → OrderValue → (map : List Pair) → (to : Option (List ℕ)) → (result sent : Done) → (old new : DeskMeaning) → Type 0
StoresHints image order map None result sent old new = (result ≡ sent) × SameFiles old new
StoresHints image order map (Some name) result sent old new = (bytes : List ℕ) × AreHintBytes image order map bytes × Stores result sent (Some name) bytes old new

-- so it is of what was made
abbrev pub StoresFile : Option HintFile → (result sent : Done) → (old new : DeskMeaning) → Type 0
StoresFile None result sent old new = (result ≡ sent) × (new ≡ old)
StoresFile (Some file) result sent old new = Stores result sent (Some (string_bytes file.name)) file.bytes.items old new
