-- What the image of a program has in memory.
use Rattle.std.specs.Prelude.{◌≡◌, ℕ, true, ◌&&◌, ◌||◌, List, Some, None, if◌then◌else◌}
use Rattle.std.specs.List.{list_any}
use Rattle.vax_form.specs.Pages.{is_allowed}
use Rattle.image_file.specs.Memory.{has_address, byte_of_image}
use Rattle.image_file.specs.Values.{SectionValue, ImageValue}
use Rattle.elf_file.specs.Values.{SegmentValue}
use Rattle.image_parts.specs.Segments.{program_byte, has_page_of}

-- Each address in a page in which a segment has a byte has the program's byte; beside these pages the stacks are all that the image has,
-- and their bytes are 0. A page may be written where a segment that has a byte in it may, or where it is a stack's, and nowhere else.
pub record Loads (segments : List SegmentValue) (stacks : List SectionValue) (image : ImageValue) : Type 0 where
  pub bytes : (address : ℕ) → byte_of_image image address
      ≡ (if list_any (has_page_of address) segments then Some (program_byte segments address) else if list_any (has_address address) stacks then Some 0 else None)
  pub rights : (address : ℕ) → is_allowed image.pages address true
      ≡ (list_any (λ (s : SegmentValue). has_page_of address s && s.writable) segments || list_any (has_address address) stacks)
