-- What a program does: its checks and references in order, and how it leaves.
use Rattle.std.specs.Prelude.{ℕ, ◌+◌, ◌*◌, ◌/◌, ◌%◌, ◌^◌, List, [], ◌∷◌, Bool}
use Rattle.vax_form.specs.State.{Answers}
use Rattle.vax_form.specs.Tree as trees
use Rattle.vax_form.specs.Tree.{Tree, Ending}
use Rattle.vax_form.specs.declared.state.Exception.{Exception}
use Rattle.vax_form.specs.declared.state.Reference.{Reference}
use Rattle.vax_form.specs.declared.state.RefKind.TheVariants.{Read, Write}

-- a tree of checks and references, with a value at each place where it leaves
pub data Course (A : Type 0) : Type 0 where
  -- goes on where each of the bytes may be used with that intent
  Check : (address count : ℕ) → (write : Bool) → Course A → Course A
  -- makes a reference, and goes on by its reply
  Ask : Reference → (ℕ → Course A) → Course A
  -- a fault, with the state found
  Fault : Exception → Course A
  Leaves : A → Course A

-- the tree of an instruction, where what it leaves with is continued
abbrev pub continued : {A : Type 0} → Course A → (A → Tree) → Tree
continued (Check address count write course) rest = trees.Check address count write (continued course rest)
continued (Ask reference on) rest = trees.Ask reference (λ reply. continued (on reply) rest)
continued (Fault exception) rest = trees.Fault exception
continued (Leaves x) rest = rest x

-- holds wherever the course leaves, for all replies that can be given
abbrev pub AtLeaves : {A : Type 0} → (A → Type 0) → Course A → Type 0
AtLeaves P (Check address count write course) = AtLeaves P course
AtLeaves P (Ask reference on) = (reply : ℕ) → Answers reference reply → AtLeaves P (on reply)
AtLeaves P (Fault exception) = Unit {0}
AtLeaves P (Leaves x) = P x

-- reads each part by a reference of its own; the first part has the low bytes
abbrev pub read_parts : {A : Type 0} → List (ℕ × ℕ) → (ℕ → Course A) → Course A
read_parts [] on = on 0
read_parts (part ∷ []) on = Ask (record { address = part.0; count = part.1; kind = Read }) (λ reply. on (reply % 2 ^ (8 * part.1)))
read_parts (part ∷ second ∷ parts) on =
    Ask (record { address = part.0; count = part.1; kind = Read })
    (λ reply. read_parts (second ∷ parts) (λ rest. on (reply % 2 ^ (8 * part.1) + rest * 2 ^ (8 * part.1))))

-- writes each part by a reference of its own
abbrev pub write_parts : {A : Type 0} → List (ℕ × ℕ) → (value : ℕ) → Course A → Course A
write_parts [] value on = on
write_parts (part ∷ parts) value on =
    Ask (record { address = part.0; count = part.1; kind = Write (value % 2 ^ (8 * part.1)) })
    (λ reply. write_parts parts (value / 2 ^ (8 * part.1)) on)
