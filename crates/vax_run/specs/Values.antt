-- What is shown of threads that were driven.
use Rattle.std.specs.Prelude.{ℕ, zero, suc, ◌+◌, ◌*◌, List, [], ◌∷◌, Option, map, reverse, option_map, slice_get}
use Rattle.std.specs.List.{flat_map}
use Rattle.image_file.specs.Memory.{byte_in}
use Rattle.image_file.specs.Start.{start_state}
use Rattle.image_file.specs.Values.{ImageValue}
use Rattle.vax_form.specs.PageTable.{page_size}
use Rattle.vax_form.specs.declared.pages.PageRange.{PageRange}
use Rattle.vax_form.specs.declared.state.Pick.{Pick}
use Rattle.vax_form.specs.declared.state.Reference.{Reference}
use Rattle.vax_driven.specs.declared.thread.ThreadRun.{ThreadRun}
use Rattle.vax_driven.specs.Driven.{World, Driven, driven}
use Rattle.vax_meaning.specs.Made.{Made, bytes_after, output_after}
use Rattle.vax_driven.specs.Threads.{Threads}
use Rattle.vax_long.specs.Pending.{moment_at}

-- the threads of an image
abbrev pub threads_of : ImageValue → Threads
threads_of image = record {
  pages = image.pages;
  start = λ thread. option_map start_state (slice_get image.threads thread);
  tree = moment_at image.pages;
}

-- the threads, bytes and input of an image
abbrev pub world_of : ImageValue → (input : List ℕ) → World
world_of image input = record { threads = threads_of image; byte = byte_in image; input = input }

-- so many addresses from one on
abbrev pub addresses_from : (address count : ℕ) → List ℕ
addresses_from address zero = []
addresses_from address (suc count) = address ∷ addresses_from (address + 1) count

-- every address of the pages, in rising order
abbrev pub addresses_of : List PageRange → List ℕ
addresses_of ranges = flat_map (λ (range : PageRange). addresses_from (page_size * range.first) (page_size * range.count)) ranges

-- the references in order, each byte of the image's pages with its address, the bytes that were put, and the threads
pub record RunValue : Type 0 where
  pub references : List Reference
  pub memory : List (ℕ × ℕ)
  pub output : List ℕ
  pub threads : List ThreadRun

-- references in order, bytes of the pages, output in order, and threads
abbrev pub value_of : ImageValue → Driven → RunValue
value_of image d = record {
  references = reverse (map (λ (m : Made). m.reference) d.made);
  memory = map (λ at. (at, bytes_after (byte_in image) d.made at)) (addresses_of image.pages.ranges);
  output = reverse (output_after d.made);
  threads = d.runs;
}

-- an order is told oldest first
abbrev pub driven_value : ImageValue → (input : List ℕ) → List Pick → (counts : List ℕ) → Option RunValue
driven_value image input order counts = option_map (value_of image) (driven (world_of image input) (reverse order) counts)
