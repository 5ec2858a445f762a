-- A thread after some instructions.
use Rattle.std.specs.Prelude.{◌≡◌, ℕ, zero, suc, List, ◌++◌, Option, Some, None}
use Rattle.vax_form.specs.Tree.{Tree, answer, Life, Runs, Exited, Trapped, Retired, retires}
use Rattle.vax_form.specs.declared.pages.Pages.{Pages}
use Rattle.vax_form.specs.declared.state.VaxState.{VaxState}

-- only a thread that did not exit or trap goes on
abbrev pub if_runs : Life → Option Retired → Option Retired
if_runs Runs next = next
if_runs Exited next = None
if_runs (Trapped kind) next = None

-- one more instruction, of the tree that the state has
abbrev pub one_more : (VaxState → Tree) → Pages → Option Retired → Option Retired
one_more tree pages None = None
one_more tree pages (Some before) = if_runs before.life (retires (answer pages (tree before.state) before.left))

-- the thread after so many instructions retired one after the other, each with as many replies from the front as it
-- wants; there is none where one of them does not retire, or where one before the last exits or traps
abbrev pub after : (VaxState → Tree) → Pages → VaxState → (count : ℕ) → (replies : List ℕ) → Option Retired
after tree pages start zero replies = Some (record { life = Runs; state = start; left = replies })
after tree pages start (suc count) replies = one_more tree pages (after tree pages start count replies)

abbrev pub with_left : List ℕ → Option Retired → Option Retired
with_left more None = None
with_left more (Some retired) = Some (record retired { left = retired.left ++ more })

abbrev pub KeepsRetired : (later : Option Retired) → (more : List ℕ) → Option Retired → Type 0
KeepsRetired later more None = Unit {0}
KeepsRetired later more (Some retired) = later ≡ with_left more (Some retired)

-- further replies change nothing of what was reached before them
abbrev pub AfterWithMore : Type 0
AfterWithMore = (tree : VaxState → Tree) (pages : Pages) (start : VaxState) (count : ℕ) (replies more : List ℕ)
    → KeepsRetired (after tree pages start count (replies ++ more)) more (after tree pages start count replies)
