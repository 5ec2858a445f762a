-- The addresses at which threads of a replayed order retired instructions that have a block, and which a map lacks.
use Rattle.std.specs.Prelude.{◌≡◌, ◌⊎◌, ◌<◌, ◌&&◌, ℕ, Bool, true, not, IsTrue, List, length, reverse, Option, Some, None, is_some, slice_get}
use Rattle.address_map.specs.Pairs.{Pair, word_at}
use Rattle.flow_discovery.specs.Mapped.{has_block_at}
use Rattle.image_file.specs.Values.{ImageValue}
use Rattle.run_files.specs.Values.{OrderValue}
use Rattle.translated_file.specs.Limits.{MOST_HINTS}
use Rattle.translated_file.specs.Whole.{AreHints}
use Rattle.vax_driven.specs.Driven.{Driven, driven}
use Rattle.vax_driven.specs.Threads.{Threads, reached}
use Rattle.vax_form.specs.Made.{Made, replies_to}
use Rattle.vax_form.specs.Targets.{has}
use Rattle.vax_form.specs.Tree.{Retired}
use Rattle.vax_form.specs.declared.state.Pending.TheVariants.{Nothing}
use Rattle.vax_form.specs.declared.pages.Pages.{Pages}
use Rattle.vax_run.specs.Values.{threads_of, world_of}
use Rattle.stored_runs.specs.Marks.{is_marked}

-- A thread stood there after fewer instructions than its count, with nothing pending; an instruction stands there that has a block;
-- and the map lacks the address. The thread came to its count, so it retired there.
pub record IsFound (threads : Threads) (made : List Made) (counts : List ℕ) (map : List Pair) (address : ℕ) : Type 0 where
  pub thread : ℕ
  pub before : ℕ
  pub count : ℕ
  pub counted : slice_get counts thread ≡ Some count
  pub within : before < count
  pub here : Retired
  pub stood : reached threads thread before (replies_to thread made) ≡ Some here
  pub at : (here.state.pc ≡ address) × (here.state.pending ≡ Nothing)
  pub block : has_block_at threads.pages address ≡ true
  pub lacks : word_at map address ≡ None

-- the mark is set, the map lacks the address, and an instruction that has a block stands there
abbrev pub is_found : Pages → (map : List Pair) → (mark : ℕ → Option Bool) → (address : ℕ) → Bool
is_found pages map mark address = is_marked (mark address) && not (is_some (word_at map address)) && has_block_at pages address

-- there are as many as a hint file may have, and the address is behind all of them
pub record AreMostBefore (addresses : List ℕ) (address : ℕ) : Type 0 where
  pub most : length addresses ≡ MOST_HINTS
  pub behind : (other : ℕ) → IsTrue (has addresses other) → other < address

-- the rising numbers of those within that are kept: all of them, or the first, as many as a hint file may have
pub record AreFirst (keep within : ℕ → Bool) (addresses : List ℕ) : Type 0 where
  pub hints : AreHints addresses
  pub each : (address : ℕ) → IsTrue (has addresses address) → (keep address ≡ true) × (within address ≡ true)
  pub all : (address : ℕ) → within address ≡ true → keep address ≡ true → IsTrue (has addresses address) ⊎ AreMostBefore addresses address

-- the rising addresses that were found by these references: all of them, or the first, as many as a hint file may have
pub record AreFoundBy (threads : Threads) (made : List Made) (counts : List ℕ) (map : List Pair) (addresses : List ℕ) : Type 0 where
  pub hints : AreHints addresses
  pub each : (address : ℕ) → IsTrue (has addresses address) → IsFound threads made counts map address
  pub all : (address : ℕ) → IsFound threads made counts map address → IsTrue (has addresses address) ⊎ AreMostBefore addresses address

-- the addresses that were found where the threads of an image are driven by an order
pub record AreFound (image : ImageValue) (order : OrderValue) (map : List Pair) (addresses : List ℕ) : Type 0 where
  pub went : Driven
  pub goes : driven (world_of image order.input) (reverse order.picks) order.counts ≡ Some went
  pub found : AreFoundBy (threads_of image) went.made order.counts map addresses
