-- Where threads stood on their way along an order, and the marks of these addresses.
use Rattle.std.specs.Prelude.{◌≡◌, ◌≢◌, ◌⊎◌, ◌≤◌, ◌<◌, ◌^◌, ◌&&◌, ℕ, Bool, true, false, List, Option, Some, is_some, nat_lt, slice_get, reverse, if◌then◌else◌}
use Rattle.image_file.specs.Values.{ImageValue}
use Rattle.run_files.specs.Values.{OrderValue}
use Rattle.vax_driven.specs.Driven.{Driven, driven}
use Rattle.vax_driven.specs.Threads.{reached}
use Rattle.vax_form.specs.Made.{Made, replies_to}
use Rattle.vax_form.specs.Pages.{is_code}
use Rattle.vax_form.specs.Tree.{Retired}
use Rattle.vax_form.specs.declared.state.Pending.{Pending}
use Rattle.vax_form.specs.declared.state.Pending.TheVariants.{Nothing}
use Rattle.vax_run.specs.Values.{threads_of, world_of}
use Rattle.stored_runs.specs.Marks.{with_mark}
use Rattle.stored_runs.specs.declared.thread.Thread.{Thread}

-- ---- one thread

-- it stood at the address after so many instructions, with nothing pending
pub record Stood (image : ImageValue) (thread : ℕ) (replies : List ℕ) (before address : ℕ) : Type 0 where
  pub here : Retired
  pub came : reached (threads_of image) thread before replies ≡ Some here
  pub pc : here.state.pc ≡ address
  pub nothing : here.state.pending ≡ Nothing

-- after fewer instructions than its count
pub record StoodBelow (image : ImageValue) (thread : ℕ) (replies : List ℕ) (count address : ℕ) : Type 0 where
  pub before : ℕ
  pub within : before < count
  pub stood : Stood image thread replies before address

-- the address is marked, or has no mark
abbrev pub IsMarked : (mark : ℕ → Option Bool) → (address : ℕ) → Type 0
IsMarked mark address = (address < 2 ^ 32) × (mark address ≢ Some false)

-- so is each address at which it stood from one number of instructions on, before another, and below its count
abbrev pub AreMarked : ImageValue → (thread : ℕ) → (replies : List ℕ) → (from to count : ℕ) → (mark : ℕ → Option Bool) → Type 0
AreMarked image thread replies from to count mark =
    (before address : ℕ) → from ≤ before → before < to → before < count → Stood image thread replies before address → IsMarked mark address

-- what a thread marks on its way from one number of instructions to another
pub record IsMarking (image : ImageValue) (thread : ℕ) (replies : List ℕ) (from to count : ℕ) (old new : ℕ → Option Bool) : Type 0 where
  pub places : (address : ℕ) → is_some (new address) ≡ is_some (old address)
  pub kept : (address : ℕ) → new address ≡ Some false → old address ≡ Some false
  pub only : (address : ℕ) → new address ≡ Some true → (old address ≡ Some true) ⊎ StoodBelow image thread replies count address
  pub all : AreMarked image thread replies from to count new

abbrev pub is_nothing : Pending → Bool
is_nothing Nothing = true
is_nothing _ = false

-- the marks behind a thread that retires: its address is marked, where nothing is pending and it has not come to its count
abbrev pub marks_behind : Thread → (ℕ → Option Bool) → ℕ → Option Bool
marks_behind t mark = if nat_lt t.retired t.count && is_nothing t.state.pending then with_mark mark t.state.pc else mark

-- ---- all threads

-- some thread stood at the address, below its count
pub record SomeStood (image : ImageValue) (counts : List ℕ) (made : List Made) (address : ℕ) : Type 0 where
  pub thread : ℕ
  pub count : ℕ
  pub counted : slice_get counts thread ≡ Some count
  pub stood : StoodBelow image thread (replies_to thread made) count address

-- each byte of the code has a mark, and only such addresses are marked at which a thread stood
pub record ArePlaced (image : ImageValue) (counts : List ℕ) (made : List Made) (mark : ℕ → Option Bool) : Type 0 where
  pub places : (address : ℕ) → is_some (mark address) ≡ is_code image.pages address
  pub only : (address : ℕ) → mark address ≡ Some true → SomeStood image counts made address

-- and so is each address at which one of these threads stood on its way
pub record AreMarks (image : ImageValue) (counts : List ℕ) (made : List Made) (threads : List Thread) (mark : ℕ → Option Bool) : Type 0 where
  pub placed : ArePlaced image counts made mark
  pub all : (thread : ℕ) (t : Thread) → slice_get threads thread ≡ Some t → AreMarked image thread (replies_to thread made) 0 t.retired t.count mark

-- and so is each at which a thread stood before it came to its count
pub record AreAllMarks (image : ImageValue) (counts : List ℕ) (made : List Made) (mark : ℕ → Option Bool) : Type 0 where
  pub placed : ArePlaced image counts made mark
  pub all : (thread count : ℕ) → slice_get counts thread ≡ Some count → AreMarked image thread (replies_to thread made) 0 count count mark

-- where the threads of the image are driven by an order
pub record AreMarksOf (image : ImageValue) (order : OrderValue) (mark : ℕ → Option Bool) : Type 0 where
  pub went : Driven
  pub goes : driven (world_of image order.input) (reverse order.picks) order.counts ≡ Some went
  pub marks : AreAllMarks image order.counts went.made mark
