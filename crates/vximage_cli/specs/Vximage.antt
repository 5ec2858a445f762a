-- What one call of `vximage` does.
use Rattle.std.specs.Prelude.{◌≡◌, ℕ, List, Option, Result, Ok, Err}
use Rattle.vt_outside.specs.Desk.{DeskMeaning}
use Rattle.vt_outside.specs.Sink.{SinkMeaning}
use Rattle.vest_files.specs.List.{Sends}
use Rattle.vest_stops.specs.Files.{SameFiles}
use Rattle.vest_stops.specs.Line as stops
use Rattle.vest_stops.specs.Status.{status_of, status_of_done}
use Rattle.vest_stops.specs.declared.status.Done.{Done}
use Rattle.vest_stops.specs.declared.status.Status.{Status}
use Rattle.vest_stops.specs.declared.status.Status.TheVariants as status
use Rattle.vest_stops.specs.declared.stop.Stop.{Stop}
use Rattle.vest_stops.specs.declared.stop.Stop.TheVariants.{WantOfMemory}
use Rattle.vximage_words.specs.Commands.{CommandValue, ListingWanted, list, make_elf, make_parts, show}
use Rattle.vximage_cli.specs.Listing.{Lists, RefusesNames, StopsListing, names_line}
use Rattle.vximage_cli.specs.declared.halt.Fault.{Fault}
use Rattle.vximage_cli.specs.declared.halt.Fault.TheVariants.{BadName, Halted}
use Rattle.vximage_cli.specs.declared.halt.Halt.{Halt}
use Rattle.vximage_cli.specs.Making.{MakesElf, MakesParts, StopsElf, StopsParts}
use Rattle.vximage_cli.specs.Named.{name_told}
use Rattle.vximage_cli.specs.Showing.{Shows, StopsShow}
use Rattle.vximage_cli.specs.Stopping.{Says, line_of}

-- what a call is lent of the outside, as it is at one moment
pub record Lent : Type 0 where
  pub desk : DeskMeaning
  pub out : SinkMeaning
  pub report : SinkMeaning

abbrev pub lent : DeskMeaning → SinkMeaning → SinkMeaning → Lent
lent desk out report = record { desk = desk; out = out; report = report }

-- ---- a command
-- why it stops
abbrev pub StopsAt : CommandValue → Stop → (named : Option (List ℕ)) → (old new : DeskMeaning) → Type 0
StopsAt (make_parts out wanted) stop named old new = StopsParts stop named wanted old new
StopsAt (make_elf out file options) stop named old new = StopsElf stop named file options old new
StopsAt (show name) stop named old new = StopsShow stop named name old new
StopsAt (list name wanted) stop named old new = StopsListing stop named name wanted old new

-- a line of its file of names is none
abbrev pub StopsAtNames : CommandValue → (line : ℕ) → DeskMeaning → Type 0
StopsAtNames (list name wanted) line desk = RefusesNames desk.files wanted.names line
StopsAtNames (make_parts out wanted) line desk = ⊥
StopsAtNames (make_elf out file options) line desk = ⊥
StopsAtNames (show name) line desk = ⊥

-- `make` writes the desk alone
pub record OnlyWrites (Makes : DeskMeaning → DeskMeaning → Type 0) (desk desk' : DeskMeaning) (out out' : SinkMeaning) : Type 0 where
  pub makes : Makes desk desk'
  pub unsent : out' ≡ out

-- `show` writes to `out` alone
pub record OnlyShows (result : Done) (name : List ℕ) (desk desk' : DeskMeaning) (out out' : SinkMeaning) : Type 0 where
  pub shows : Shows result name desk out out'
  pub stays : SameFiles desk desk'

-- and so does `dis`
pub record OnlyLists (result : Done) (name : List ℕ) (wanted : ListingWanted) (desk desk' : DeskMeaning) (out out' : SinkMeaning) : Type 0 where
  pub lists : Lists result name wanted desk out out'
  pub stays : SameFiles desk desk'

-- what it does
abbrev pub DoesOnly : CommandValue → Done → (desk desk' : DeskMeaning) → (out out' : SinkMeaning) → Type 0
DoesOnly (make_parts to wanted) result desk desk' out out' = OnlyWrites (MakesParts result to wanted) desk desk' out out'
DoesOnly (make_elf to file options) result desk desk' out out' = OnlyWrites (MakesElf result to file options) desk desk' out out'
DoesOnly (show name) result desk desk' out out' = OnlyShows result name desk desk' out out'
DoesOnly (list name wanted) result desk desk' out out' = OnlyLists result name wanted desk desk' out out'

-- nothing was written, and the report took the line, or a part of it
pub record Stopped (line : List ℕ) (old new : Lent) : Type 0 where
  pub desk : SameFiles old.desk new.desk
  pub out : new.out ≡ old.out
  pub said : Says line old.report new.report

-- the status is that of how a command ended, and the report took why it stopped
abbrev pub TellsEnd : Result Done Halt → Status → (old new : SinkMeaning) → Type 0
TellsEnd (Ok end) result old new = (result ≡ status_of_done end) × (new ≡ old)
TellsEnd (Err halt) result old new = (result ≡ status_of halt.stop) × Says (line_of halt.stop (name_told halt)) old new

-- the same of a command that reads names
abbrev pub TellsFault : Result Done Fault → Status → (old new : SinkMeaning) → Type 0
TellsFault (Ok end) result old new = TellsEnd (Ok end) result old new
TellsFault (Err (Halted halt)) result old new = TellsEnd (Err halt) result old new
TellsFault (Err (BadName line)) result old new = (result ≡ status.Refused) × Says (names_line line) old new

-- a command stops and says why, or it does what it says
pub data Obeys (command : CommandValue) (result : Status) (old new : Lent) : Type 0 where
  stopped : (stop : Stop) (named : Option (List ℕ)) → result ≡ status_of stop → StopsAt command stop named old.desk new.desk
      → Stopped (line_of stop named) old new → Obeys command result old new
  refused_names : (line : ℕ) → result ≡ status.Refused → StopsAtNames command line old.desk → Stopped (names_line line) old new
      → Obeys command result old new
  done : (end : Done) → result ≡ status_of_done end → DoesOnly command end old.desk new.desk old.out new.out → new.report ≡ old.report
      → Obeys command result old new

-- ---- a call
-- help or the version went out
pub record OnlyTells (result : Done) (text : List ℕ) (old new : Lent) : Type 0 where
  pub sent : Sends result text old.out new.out
  pub desk : new.desk ≡ old.desk
  pub report : new.report ≡ old.report

-- It told help or the version; or no command was read, which it said; or there was no memory to read one; or it obeyed the command that it
-- read. Which of these words are, is said by no contract.
pub data Ends (result : Status) (old new : Lent) : Type 0 where
  told : (end : Done) (text : List ℕ) → result ≡ status_of_done end → OnlyTells end text old new → Ends result old new
  unread : (text : List ℕ) → result ≡ status.Usage → Stopped text old new → Ends result old new
  no_memory : result ≡ status.WantOfMemory → Stopped (stops.line_of WantOfMemory) old new → Ends result old new
  obeyed : (command : CommandValue) → Obeys command result old new → Ends result old new
