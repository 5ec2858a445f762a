-- Threads with their memory on their way along an order, as the code keeps them.
use Rattle.std.specs.Prelude.{◌≡◌, ℕ, Bool, true, false, List, [], Option, Some, None, length, reverse, slice_get}
use Rattle.image_file.specs.Memory.{byte_in}
use Rattle.image_file.specs.Values.{ImageValue}
use Rattle.vax_form.specs.Made.{Made, bytes_after, output_after, gets_after, replies_to}
use Rattle.stored_runs.specs.Memory.{byte_of, taken_of}
use Rattle.stored_runs.specs.Marks.{mark_of}
use Rattle.stored_runs.specs.Stood.{AreMarks}
use Rattle.stored_runs.specs.Threads.{IsAt}
use Rattle.stored_runs.specs.declared.marks.Marks.{Marks}
use Rattle.stored_runs.specs.declared.thread.Thread.{Thread}
use Rattle.stored_runs.specs.declared.world.World.{World}

-- a thread with its count stands where the replies to its references took it
pub record IsThread (image : ImageValue) (counts : List ℕ) (made : List Made) (thread : ℕ) (t : Thread) : Type 0 where
  pub at : IsAt image thread (replies_to thread made) t
  pub count : slice_get counts thread ≡ Some t.count

-- the world that these references left
pub record IsLeft (image : ImageValue) (input counts : List ℕ) (made : List Made) (world : World) : Type 0 where
  pub many : length world.threads.items ≡ length image.threads
  pub threads : (thread : ℕ) (t : Thread) → slice_get world.threads.items thread ≡ Some t → IsThread image counts made thread t
  pub bytes : byte_of world.memory ≡ bytes_after (byte_in image) made
  pub taken : world.memory.taken ≡ taken_of (length input) (gets_after made)
  pub output : world.memory.output.items ≡ reverse (output_after made)

-- the world with its marks
pub record AreLeft (image : ImageValue) (input counts : List ℕ) (made : List Made) (world : World) (marks : Marks) : Type 0 where
  pub left : IsLeft image input counts made world
  pub marked : AreMarks image counts made world.threads.items (mark_of marks)

-- what an order left: a world with its marks, or a pick that wanted nothing
abbrev pub IsWalked : ImageValue → (input counts : List ℕ) → Option (List Made) → (goes : Bool) → World → Marks → Type 0
IsWalked image input counts None goes world marks = goes ≡ false
IsWalked image input counts (Some made) goes world marks = (goes ≡ true) × AreLeft image input counts made world marks

-- before their first instructions
abbrev pub AreFresh : List Thread → Type 0
AreFresh threads = (thread : ℕ) (t : Thread) → slice_get threads thread ≡ Some t → t.retired ≡ 0

-- the first so many threads of the image, before their first instructions
pub record AreBegun (image : ImageValue) (counts : List ℕ) (count : ℕ) (threads : List Thread) : Type 0 where
  pub many : length threads ≡ count
  pub each : (thread : ℕ) (t : Thread) → slice_get threads thread ≡ Some t → IsThread image counts [] thread t
  pub fresh : AreFresh threads
