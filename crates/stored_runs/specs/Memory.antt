-- Memory, input and output as the code keeps them.
use Rattle.std.specs.Prelude.{◌≡◌, ℕ, ◌+◌, ◌-◌, ◌&&◌, Bool, List, [], ◌∷◌, ◌++◌, length, nat_le, nat_lt, slice_index, if◌then◌else◌}
use Rattle.image_file.specs.Pages.{section_bytes}
use Rattle.image_file.specs.Values.{SectionValue}
use Rattle.vax_form.specs.declared.state.RefKind.{RefKind}
use Rattle.vax_form.specs.declared.state.RefKind.TheVariants.{Put, Get}
use Rattle.stored_runs.specs.declared.memory.Memory.{Memory}
use Rattle.stored_runs.specs.declared.memory.Region.{Region}

-- the address is one of the region's
abbrev pub has_address : ℕ → Region → Bool
has_address address r = nat_le r.start address && nat_lt (address - r.start) (length r.bytes.items)

-- the byte at an address is that of the first region that has it, and 0 where none has
abbrev pub byte_among : List Region → ℕ → ℕ
byte_among [] address = 0
byte_among (r ∷ regions) address =
    if has_address address r then slice_index r.bytes.items (address - r.start) else byte_among regions address

abbrev pub byte_of : Memory → ℕ → ℕ
byte_of memory = byte_among memory.regions.items

-- the output behind a reference, oldest first
abbrev pub put_by : RefKind → List ℕ → List ℕ
put_by (Put value) output = output ++ value ∷ []
put_by _ output = output

-- how many bytes of an input of that length are taken where so many were asked for
abbrev pub taken_of : (input gets : ℕ) → ℕ
taken_of input gets = if nat_lt gets input then gets else input

-- and how many behind a reference more
abbrev pub taken_by : (input : ℕ) → RefKind → ℕ → ℕ
taken_by input Get taken = if nat_lt taken input then taken + 1 else taken
taken_by input _ taken = taken

-- the region of a section's pages
pub record IsRegion (section : SectionValue) (region : Region) : Type 0 where
  pub start : region.start ≡ section.start
  pub bytes : region.bytes.items ≡ section_bytes section
