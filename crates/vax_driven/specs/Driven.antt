-- Threads driven by an order of references. An order is newest first.
use Rattle.std.specs.Prelude.{ℕ, ◌+◌, List, [], ◌∷◌, Option, Some, None}
use Rattle.vax_form.specs.declared.state.Pick.{Pick}
use Rattle.vax_form.specs.declared.state.Reference.{Reference}
use Rattle.vax_form.specs.Made.{Made, replies_to, make}
use Rattle.vax_driven.specs.Threads.{Threads, wanted, thread_run}
use Rattle.vax_driven.specs.declared.thread.ThreadRun.{ThreadRun}

-- what is driven: the threads, their memory and their input
pub record World : Type 0 where
  pub threads : Threads
  pub byte : ℕ → ℕ
  pub input : List ℕ

-- the reference that is wanted joins those made; none where none is wanted
abbrev pub made_if : World → (past : List Made) → (thread : ℕ) → Option Reference → Option (List Made)
made_if world past thread None = None
made_if world past thread (Some reference) = Some (make world.byte world.input past thread reference ∷ past)

-- one more pick: its thread's reference after so many instructions, with the replies that it has
abbrev pub picked : World → Option (List Made) → Pick → Option (List Made)
picked world None pick = None
picked world (Some past) pick =
    made_if world past pick.thread (wanted world.threads pick.thread pick.retired (replies_to pick.thread past))

-- the references made along an order; none where a pick's thread wants none after so many instructions
abbrev pub walk : World → List Pick → Option (List Made)
walk world [] = Some []
walk world (pick ∷ order) = picked world (walk world order) pick

-- a thread before the others; none where one of them is none
abbrev pub run_before : Option ThreadRun → Option (List ThreadRun) → Option (List ThreadRun)
run_before None runs = None
run_before (Some run) None = None
run_before (Some run) (Some runs) = Some (run ∷ runs)

-- the threads from that one on, each after its count of instructions
abbrev pub runs_from : Threads → List Made → (thread : ℕ) → (counts : List ℕ) → Option (List ThreadRun)
runs_from threads made thread [] = Some []
runs_from threads made thread (count ∷ counts) =
    run_before (thread_run threads thread count (replies_to thread made)) (runs_from threads made (thread + 1) counts)

-- the references made, newest first, and the threads
pub record Driven : Type 0 where
  pub made : List Made
  pub runs : List ThreadRun

-- the references made with the threads, where each of these came to its count
abbrev pub ended : List Made → Option (List ThreadRun) → Option Driven
ended made None = None
ended made (Some runs) = Some (record { made = made; runs = runs })

-- the threads after their counts, behind the references that were made
abbrev pub driven_on : World → (counts : List ℕ) → Option (List Made) → Option Driven
driven_on world counts None = None
driven_on world counts (Some made) = ended made (runs_from world.threads made 0 counts)

-- the references made along an order, and each thread after its count of instructions; none where a pick wants nothing
-- or a thread doesn't come so far
abbrev pub driven : World → (order : List Pick) → (counts : List ℕ) → Option Driven
driven world order counts = driven_on world counts (walk world order)
