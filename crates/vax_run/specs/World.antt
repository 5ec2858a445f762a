-- Threads on their way along an order, as the code keeps them.
use Rattle.std.specs.Prelude.{◌≡◌, ℕ, Bool, true, false, List, Option, Some, None, map, reverse}
use Rattle.image_file.specs.Memory.{byte_in}
use Rattle.image_file.specs.Values.{ImageValue}
use Rattle.vax_meaning.specs.Made.{Made, bytes_after, output_after, gets_after}
use Rattle.vax_form.specs.declared.pages.PageRange.{PageRange}
use Rattle.vax_run.specs.Memory.{byte_of}
use Rattle.vax_run.specs.Values.{addresses_of}
use Rattle.vax_run.specs.declared.memory.Memory.{Memory}
use Rattle.vax_run.specs.Threads.{AreThreads}
use Rattle.vax_run.specs.declared.world.World.{World}

-- the world that these references left
pub record IsLeft (image : ImageValue) (made : List Made) (world : World) : Type 0 where
  pub threads : AreThreads image 0 made image.threads world.threads.items
  pub bytes : byte_of image world.memory ≡ bytes_after (byte_in image) made
  pub gets : world.memory.gets ≡ gets_after made
  pub output : world.memory.output.items ≡ reverse (output_after made)
  pub references : world.references.items ≡ reverse (map (λ (m : Made). m.reference) made)

-- what an order left: a world, or a pick that wanted nothing
abbrev pub IsWalked : ImageValue → Option (List Made) → (goes : Bool) → World → Type 0
IsWalked image None goes world = goes ≡ false
IsWalked image (Some made) goes world = (goes ≡ true) × IsLeft image made world

-- an address and its byte
abbrev pub pair_at : ImageValue → Memory → ℕ → ℕ × ℕ
pair_at image memory address = (address, byte_of image memory address)

-- every byte of some pages
abbrev pub bytes_of : ImageValue → Memory → List PageRange → List (ℕ × ℕ)
bytes_of image memory ranges = map (pair_at image memory) (addresses_of ranges)
