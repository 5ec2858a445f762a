-- The command `make`.
use Rattle.std.specs.Prelude.{◌≡◌, ◌⊎◌, ℕ, List, [], ◌∷◌, ◌++◌, length, Option, Some, None, option_and_then, slice_get, Result, Ok, Err}
use Rattle.std.specs.List.{AllZip}
use Rattle.vt_outside.specs.Desk.{DeskMeaning, Files}
use Rattle.image_file.specs.Reading.{image_of}
use Rattle.image_file.specs.Values.{ImageValue, SectionValue}
use Rattle.elf_file.specs.Program.{program_of}
use Rattle.elf_file.specs.Values.{ProgramValue}
use Rattle.image_parts.specs.Loads.{Loads}
use Rattle.image_parts.specs.Parts.{parts_bytes, parts_image}
use Rattle.image_parts.specs.Program.{elf_bytes, stacks_of, starts_of}
use Rattle.image_parts.specs.Values.{OptionsValue, PartsValue}
use Rattle.image_parts.specs.declared.refusal.MakeRefusal.{MakeRefusal}
use Rattle.report_text.specs.declared.refused.Subject.TheVariants.{Parts}
use Rattle.vest_files.specs.Stages.{IsFile, StopsWhere}
use Rattle.vest_files.specs.Translate.{Writes}
use Rattle.vest_stops.specs.Refusal.{RefusalValue, told}
use Rattle.vest_stops.specs.declared.status.Done.{Done}
use Rattle.vest_stops.specs.declared.stop.Stop.{Stop}
use Rattle.vest_stops.specs.declared.stop.Stop.TheVariants.{WantOfMemory}
use Rattle.vximage_words.specs.Commands.{PartsWanted, SectionWanted}
use Rattle.vximage_cli.specs.Entries.{entries_listed}
use Rattle.vximage_cli.specs.Stopping.{IsTold, StopsAtNamed}

-- ---- the parts
-- a section stores its file, or nothing
abbrev pub IsStored : Option Files → (file : Option (List ℕ)) → (stored : List ℕ) → Type 0
IsStored files None stored = stored ≡ []
IsStored files (Some name) stored = IsFile files name stored

pub record IsSection (files : Option Files) (wanted : SectionWanted) (section : SectionValue) : Type 0 where
  pub start : section.start ≡ wanted.start
  pub size : section.size ≡ wanted.size
  pub writable : section.writable ≡ wanted.writable
  pub stored : IsStored files wanted.file section.stored

-- the entries are those that a file lists, where one is named
abbrev pub AreListed : Option Files → (file : Option (List ℕ)) → (listed : List ℕ) → Type 0
AreListed files None listed = listed ≡ []
AreListed files (Some name) listed = (bytes : List ℕ) × IsFile files name bytes × (entries_listed bytes ≡ Ok listed)

-- threads, sections and entries in the order of the words, and then the entries that the file lists
pub record AreParts (files : Option Files) (wanted : PartsWanted) (parts : PartsValue) : Type 0 where
  pub threads : parts.threads ≡ wanted.threads
  pub sections : AllZip (IsSection files) wanted.sections parts.sections
  pub listed : List ℕ
  pub are_listed : AreListed files wanted.entries_file listed
  pub entries : parts.entries ≡ wanted.entries ++ listed

-- ---- what is made
-- under the name stand the bytes of the image of the parts, which reads back; or the write failed
pub record MakesParts (result : Done) (out : List ℕ) (wanted : PartsWanted) (old new : DeskMeaning) : Type 0 where
  pub parts : PartsValue
  pub are : AreParts old.files wanted parts
  pub bytes : List ℕ
  pub made : parts_bytes parts ≡ Ok bytes
  pub reads_back : image_of bytes ≡ Ok (parts_image parts)
  pub written : Writes result out bytes old new

-- under the name stand the bytes of the image of the executable, which has in memory what that loads; or the write failed
pub record MakesElf (result : Done) (out file : List ℕ) (options : OptionsValue) (old new : DeskMeaning) : Type 0 where
  pub executable : List ℕ
  pub is : IsFile old.files file executable
  pub bytes : List ℕ
  pub made : elf_bytes executable options ≡ Ok bytes
  pub loads : (program : ProgramValue) → (image : ImageValue) → program_of executable ≡ Ok program → image_of bytes ≡ Ok image
      → Loads program.segments (stacks_of options.stack (length (starts_of program options))) image
  pub written : Writes result out bytes old new

-- ---- why nothing is
-- at the file, where one is named
pub record StopsAtOptional (stop : Stop) (named : Option (List ℕ)) (file : Option (List ℕ)) (old new : DeskMeaning) : Type 0 where
  pub name : List ℕ
  pub is : file ≡ Some name
  pub stops : StopsAtNamed stop named name old new

-- the file of a section
abbrev pub file_at : List SectionWanted → ℕ → Option (List ℕ)
file_at sections place = option_and_then (λ (s : SectionWanted). s.file) (slice_get sections place)

abbrev pub StopsAtSections : Stop → (named : Option (List ℕ)) → List SectionWanted → (old new : DeskMeaning) → Type 0
StopsAtSections stop named sections old new =
    (stop ≡ WantOfMemory) ⊎ ((place : ℕ) × StopsAtOptional stop named (file_at sections place) old new)

-- the line L, from 1, begins with no address: parts 2 L
pub record RefusesLine (bytes : List ℕ) (refusal : RefusalValue) : Type 0 where
  pub line : ℕ
  pub without : entries_listed bytes ≡ Err line
  pub is : refusal ≡ told Parts (2 ∷ line ∷ [])

-- a line of the file of entries
pub record StopsAtLine (stop : Stop) (file : Option (List ℕ)) (files : Option Files) : Type 0 where
  pub name : List ℕ
  pub is : file ≡ Some name
  pub bytes : List ℕ
  pub has : IsFile files name bytes
  pub stops : StopsWhere (RefusesLine bytes) stop

-- the file of entries, or a line of it
abbrev pub StopsAtList : Stop → (named : Option (List ℕ)) → (file : Option (List ℕ)) → (old new : DeskMeaning) → Type 0
StopsAtList stop named file old new = StopsAtOptional stop named file old new ⊎ StopsAtLine stop file old.files

-- what is made of the parts, or of the executable, is refused
pub record Refuses (made : Result (List ℕ) MakeRefusal) (refusal : RefusalValue) : Type 0 where
  pub cause : MakeRefusal
  pub refused : made ≡ Err cause
  pub is : IsTold cause refusal

-- the files of the sections in their order, and the file of entries
abbrev pub StopsAtParts : Stop → (named : Option (List ℕ)) → PartsWanted → (old new : DeskMeaning) → Type 0
StopsAtParts stop named wanted old new =
    StopsAtSections stop named wanted.sections old new
    ⊎ StopsAtList stop named wanted.entries_file old new

-- and then all parts
abbrev pub StopsParts : Stop → (named : Option (List ℕ)) → PartsWanted → (old new : DeskMeaning) → Type 0
StopsParts stop named wanted old new =
    StopsAtParts stop named wanted old new
    ⊎ ((parts : PartsValue) × AreParts old.files wanted parts × StopsWhere (Refuses (parts_bytes parts)) stop)

-- the file, and then what it has
abbrev pub StopsElf : Stop → (named : Option (List ℕ)) → (file : List ℕ) → OptionsValue → (old new : DeskMeaning) → Type 0
StopsElf stop named file options old new =
    StopsAtNamed stop named file old new
    ⊎ ((executable : List ℕ) × IsFile old.files file executable × StopsWhere (Refuses (elf_bytes executable options)) stop)
