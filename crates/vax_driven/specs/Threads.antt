-- Threads, each by itself with the replies that it got.
use Rattle.std.specs.Prelude.{ℕ, true, false, List, Option, Some, None}
use Rattle.vax_form.specs.Tree.{Tree, Answer, Wants, Fails, Comes, answer, Life, Runs, Exited, Trapped, Retired}
use Rattle.vax_form.specs.declared.pages.Pages.{Pages}
use Rattle.vax_form.specs.declared.state.VaxState.{VaxState}
use Rattle.vax_form.specs.declared.state.Reference.{Reference}
use Rattle.vax_form.specs.declared.state.Exception.{Exception}
use Rattle.vax_form.specs.declared.state.Exception.TheVariants.{Arithmetic}
use Rattle.vax_form.specs.After.{after}
use Rattle.vax_driven.specs.declared.thread.ThreadRun.{ThreadRun}

-- the pages of the image, where each of its threads starts, and what the instruction at a thread's state does
pub record Threads : Type 0 where
  pub pages : Pages
  pub start : (thread : ℕ) → Option VaxState
  pub tree : (thread : ℕ) → VaxState → Tree

-- a thread that starts so, after so many instructions; none where no such thread starts
abbrev pub after_start : (VaxState → Tree) → Pages → Option VaxState → (count : ℕ) → (replies : List ℕ) → Option Retired
after_start tree pages None count replies = None
after_start tree pages (Some start) count replies = after tree pages start count replies

-- the thread after so many instructions
abbrev pub reached : Threads → (thread count : ℕ) → (replies : List ℕ) → Option Retired
reached threads thread count replies = after_start (threads.tree thread) threads.pages (threads.start thread) count replies

-- the reference for which an instruction has no reply left
abbrev pub wanted_of : Answer → Option Reference
wanted_of (Wants reference) = Some reference
wanted_of (Fails exception) = None
wanted_of (Comes e left) = None

-- a thread that exited or trapped wants nothing
abbrev pub wanted_in : Threads → (thread : ℕ) → Life → VaxState → (left : List ℕ) → Option Reference
wanted_in threads thread Runs state left = wanted_of (answer threads.pages (threads.tree thread state) left)
wanted_in threads thread Exited state left = None
wanted_in threads thread (Trapped kind) state left = None

-- the reference that a thread wants where it was reached
abbrev pub wanted_at : Threads → (thread : ℕ) → Option Retired → Option Reference
wanted_at threads thread None = None
wanted_at threads thread (Some here) = wanted_in threads thread here.life here.state here.left

-- the reference that a thread wants after so many instructions, once it has taken all its replies
abbrev pub wanted : Threads → (thread count : ℕ) → (replies : List ℕ) → Option Reference
wanted threads thread count replies = wanted_at threads thread (reached threads thread count replies)

-- the fault of an instruction, where one of its checks fails
abbrev pub fault_of : Answer → Option Exception
fault_of (Wants reference) = None
fault_of (Fails exception) = Some exception
fault_of (Comes e left) = None

-- a thread that goes on has raised the fault of its next instruction
abbrev pub run_in : Threads → (thread : ℕ) → Life → VaxState → (left : List ℕ) → ThreadRun
run_in threads thread Runs state left =
    record { state = state; exited = false; raised = fault_of (answer threads.pages (threads.tree thread state) left) }
run_in threads thread Exited state left = record { state = state; exited = true; raised = None }
run_in threads thread (Trapped kind) state left = record { state = state; exited = false; raised = Some (Arithmetic kind) }

-- a thread as it stands where it was reached
abbrev pub run_at : Threads → (thread : ℕ) → Option Retired → Option ThreadRun
run_at threads thread None = None
run_at threads thread (Some here) = Some (run_in threads thread here.life here.state here.left)

-- the thread as it stands after so many instructions, where it comes so far
abbrev pub thread_run : Threads → (thread count : ℕ) → (replies : List ℕ) → Option ThreadRun
thread_run threads thread count replies = run_at threads thread (reached threads thread count replies)
