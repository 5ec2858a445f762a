-- What a stored order gives: the VAX threads driven by it, and how each of them ends.
use Rattle.std.specs.Prelude.{◌≡◌, ℕ, suc, Bool, true, false, List, [], ◌∷◌, Option, Some, None, option_map, Result, Ok, Err, if◌then◌else◌}
use Rattle.image_file.specs.Values.{ImageValue}
use Rattle.vax_form.specs.State.{register}
use Rattle.vax_form.specs.declared.state.VaxState.{VaxState}
use Rattle.vax_driven.specs.declared.thread.End.{End}
use Rattle.vax_driven.specs.declared.thread.End.TheVariants.{Exit, Raised, Spent}
use Rattle.vax_driven.specs.declared.thread.ThreadRun.{ThreadRun}
use Rattle.vax_run.specs.Values.{RunValue, driven_value}
use Rattle.run_files.specs.Values.{OrderValue}
use Rattle.stored_runs.specs.declared.refusal.ReplayRefusal.{ReplayRefusal}
use Rattle.stored_runs.specs.declared.refusal.ReplayRefusal.TheVariants.{NotDriven, WrongEnd, WantOfMemory}

-- The end of a thread, as it stands after its count of instructions. A thread that is stored as spent has not exited, and
-- may have raised an exception; every other has exited or raised one.
abbrev pub end_of : (spent : Bool) → ThreadRun → Option End
end_of true run = if run.exited then None else Some Spent
end_of false run = if run.exited then Some (Exit (register 0 run.state)) else option_map Raised run.raised

-- a thread's end, its state and its count of instructions
abbrev pub EndValue : Type 0
EndValue = End × VaxState × ℕ

-- what is put out, and each thread's end, state and count
pub record ReplayedValue : Type 0 where
  pub output : List ℕ
  pub ends : List EndValue

-- an end before the others; where a thread has none, the first of these is told
abbrev pub end_before : (thread : ℕ) → VaxState → (count : ℕ) → Option End → Result (List EndValue) ReplayRefusal → Result (List EndValue) ReplayRefusal
end_before thread state count None later = Err (WrongEnd thread)
end_before thread state count (Some end) (Ok ends) = Ok ((end, state, count) ∷ ends)
end_before thread state count (Some end) (Err refusal) = Err refusal

-- the ends of the threads from that one on
abbrev pub ends_from : (thread : ℕ) → List ThreadRun → (spent : List Bool) → (counts : List ℕ) → Result (List EndValue) ReplayRefusal
ends_from thread (run ∷ runs) (spent ∷ flags) (count ∷ counts) =
    end_before thread run.state count (end_of spent run) (ends_from (suc thread) runs flags counts)
ends_from thread _ _ _ = Ok []

-- the output with the ends
abbrev pub with_ends : List ℕ → Result (List EndValue) ReplayRefusal → Result ReplayedValue ReplayRefusal
with_ends output (Ok ends) = Ok (record { output = output; ends = ends })
with_ends output (Err refusal) = Err refusal

-- what driven threads give, by the flags and counts that are stored
abbrev pub given_by : OrderValue → Option RunValue → Result ReplayedValue ReplayRefusal
given_by order None = Err NotDriven
given_by order (Some run) = with_ends run.output (ends_from 0 run.threads order.spent order.counts)

-- what an order gives of an image: the output and the ends of its threads, driven by the picks on the input, each up to its
-- count; or it can't be driven, or a thread has another end than the one that is stored
unfoldable pub replay_of : ImageValue → OrderValue → Result ReplayedValue ReplayRefusal
replay_of image order = given_by order (driven_value image order.input order.picks order.counts)

-- a call's answer, seen by view, is what the definition gives, unless memory ran out
abbrev pub Gives : {X Y : Type 0} → (X → Y) → Result X ReplayRefusal → Result Y ReplayRefusal → Type 0
Gives view (Ok x) given = given ≡ Ok (view x)
Gives view (Err WantOfMemory) given = Unit {0}
Gives view (Err refusal) given = given ≡ Err refusal
