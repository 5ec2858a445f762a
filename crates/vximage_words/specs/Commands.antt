-- The commands, and what is asked of them.
use Rattle.std.specs.Prelude.{ℕ, Bool, List, Option, option_map, map}
use Rattle.image_file.specs.declared.image.Start.{Start}
use Rattle.image_parts.specs.Values.{OptionsValue}
use Rattle.vximage_words.specs.declared.commands.SectionAsked.{SectionAsked}
use Rattle.vximage_words.specs.declared.commands.ListingAsked.{ListingAsked}
use Rattle.vximage_words.specs.declared.commands.PartsAsked.{PartsAsked}
use Rattle.vximage_words.specs.declared.commands.Command.{Command}
use Rattle.vximage_words.specs.declared.commands.Command.TheVariants as words

-- a section that is asked for, with the name of the file of what it stores
pub record SectionWanted : Type 0 where
  pub start : ℕ
  pub size : ℕ
  pub writable : Bool
  pub file : Option (List ℕ)

-- the parts that are asked for, and the name of the file with further entries
pub record PartsWanted : Type 0 where
  pub threads : List Start
  pub sections : List SectionWanted
  pub entries : List ℕ
  pub entries_file : Option (List ℕ)

-- what is listed: whether with Alpha words, from which address to which, and the name of the file with names
pub record ListingWanted : Type 0 where
  pub with_words : Bool
  pub first : ℕ
  pub last : ℕ
  pub names : Option (List ℕ)

-- a command with what is behind it
pub data CommandValue : Type 0 where
  make_parts : (out : List ℕ) → PartsWanted → CommandValue
  make_elf : (out file : List ℕ) → OptionsValue → CommandValue
  show : (name : List ℕ) → CommandValue
  list : (name : List ℕ) → ListingWanted → CommandValue

-- the same with names as texts
abbrev pub section_wanted : SectionAsked → SectionWanted
section_wanted asked = record { start = asked.start; size = asked.size; writable = asked.writable; file = option_map (λ s. s.now) asked.file }

abbrev pub parts_wanted : PartsAsked → PartsWanted
parts_wanted asked = record {
  threads = asked.threads.items;
  sections = map section_wanted asked.sections.items;
  entries = asked.entries.items;
  entries_file = option_map (λ s. s.now) asked.entries_file;
}

abbrev pub listing_wanted : ListingAsked → ListingWanted
listing_wanted asked = record { with_words = asked.with_words; first = asked.first; last = asked.last; names = option_map (λ s. s.now) asked.names }

abbrev pub command_value : Command → CommandValue
command_value (words.MakeParts out parts) = make_parts out.now (parts_wanted parts)
command_value (words.MakeElf out file options) = make_elf out.now file.now options
command_value (words.Show name) = show name.now
command_value (words.List name asked) = list name.now (listing_wanted asked)
