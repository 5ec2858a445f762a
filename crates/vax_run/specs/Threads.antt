-- Threads as the code keeps them.
use Rattle.std.specs.Prelude.{◌≡◌, ℕ, suc, ◌≤◌, List, [], ◌∷◌, length, Option, Some}
use Rattle.image_file.specs.declared.image.Start.{Start}
use Rattle.image_file.specs.Start.{start_state}
use Rattle.image_file.specs.Values.{ImageValue}
use Rattle.vax_form.specs.Tree.{Retired}
use Rattle.vax_meaning.specs.After.{after}
use Rattle.vax_meaning.specs.Made.{Made, replies_to}
use Rattle.vax_long.specs.Pending.{moment_at}
use Rattle.vax_run.specs.Answered.{reached_of}
use Rattle.vax_run.specs.declared.advance.Place.{Place}
use Rattle.vax_run.specs.declared.thread.Thread.{Thread}

-- a thread after so many instructions, with the replies that it got
abbrev pub after_of : ImageValue → (thread : ℕ) → Thread → (count : ℕ) → Option Retired
after_of image thread t count = after (moment_at image.pages thread) image.pages t.start count t.replies.items

-- it stands where it is after the instructions that it retired
pub record IsAt (image : ImageValue) (thread : ℕ) (t : Thread) : Type 0 where
  pub taken : t.place.taken ≤ length t.replies.items
  pub reached : after_of image thread t t.retired ≡ reached_of t.replies.items (Some t.place)

-- a place where it stands after so many
pub record IsPlaceOf (image : ImageValue) (thread : ℕ) (t : Thread) (count : ℕ) (place : Place) : Type 0 where
  pub taken : place.taken ≤ length t.replies.items
  pub reached : after_of image thread t count ≡ reached_of t.replies.items (Some place)

-- a thread of the image that got the replies to its references
pub record IsThread (image : ImageValue) (thread : ℕ) (made : List Made) (start : Start) (t : Thread) : Type 0 where
  pub at : IsAt image thread t
  pub begins : t.start ≡ start_state start
  pub replies : t.replies.items ≡ replies_to thread made

-- the threads from that one on
abbrev pub AreThreads : ImageValue → (thread : ℕ) → List Made → List Start → List Thread → Type 0
AreThreads image thread made [] [] = Unit {0}
AreThreads image thread made [] (t ∷ threads) = ⊥
AreThreads image thread made (start ∷ starts) [] = ⊥
AreThreads image thread made (start ∷ starts) (t ∷ threads) = IsThread image thread made start t × AreThreads image (suc thread) made starts threads
