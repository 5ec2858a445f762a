-- What a piece of a program does: with whatever comes behind it, the course is that of the instruction's script.
use Rattle.std.specs.Prelude.{◌≡◌, ℕ, ◌*◌, ◌%◌, ◌^◌, ◌<◌, ◌==◌, false, List}
use Rattle.vax_form.specs.Size.{bytes_of}
use Rattle.vax_form.specs.State.{Answers}
use Rattle.vax_form.specs.Tree.{Tree, Same, instruction_tree, tree_of}
use Rattle.vax_form.specs.Tree as trees
use Rattle.vax_form.specs.declared.instr.Base.{Base}
use Rattle.vax_form.specs.declared.instr.Base.TheVariants.{Fixed}
use Rattle.vax_form.specs.declared.instr.Operand.{Operand}
use Rattle.vax_form.specs.declared.instr.Operand.TheVariants as operands
use Rattle.vax_form.specs.declared.instr.Size.{Size}
use Rattle.vax_form.specs.declared.pages.Pages.{Pages}
use Rattle.vax_form.specs.declared.state.VaxState.{VaxState}
use Rattle.vax_meaning.specs.declared.evaluation.Evaluated.{Evaluated}
use Rattle.vax_meaning.specs.declared.operands.Location.TheVariants.{InMemory}
use Rattle.micro_ops.specs.Course.{Course, Check, Ask, Fault, Leaves}
use Rattle.micro_ops.specs.Meaning.{Left, Temps, Found, Standing, course_of, departed}
use Rattle.micro_ops.specs.declared.program.Micro.{Micro}
use Rattle.vax_meaning.specs.Control.{serve}

-- the course has the checks, references and ends of the tree, and the fact holds wherever it leaves
abbrev pub Agrees : {A : Type 0} → (A → Type 0) → (A → Tree) → Course A → Tree → Type 0
Agrees P rest (Check address count write course) (trees.Check address' count' write' tree) = (address ≡ address') × (count ≡ count') × (write ≡ write') × Agrees P rest course tree
Agrees P rest (Ask reference on) (trees.Ask reference' on') = (reference ≡ reference') × ((reply : ℕ) → Answers reference reply → Agrees P rest (on reply) (on' reply))
Agrees P rest (Fault exception) (trees.Fault exception') = exception ≡ exception'
Agrees P rest (Leaves x) tree = P x × Same (rest x) tree
Agrees P rest _ _ = ⊥

-- a standing with other temporaries
abbrev pub with_temps : Temps → Standing → Standing
with_temps temps standing = record standing { temps = temps }

-- all temporaries but these two and 4 are as they were
abbrev pub Kept : (place spare : ℕ) → (before after : Temps) → Type 0
Kept place spare before after = (temp : ℕ) → (temp == place) ≡ false → (temp == spare) ≡ false → (temp == 4) ≡ false → after temp ≡ before temp

-- an address that the code fixes is a longword
abbrev pub IsLong : Base → Type 0
IsLong (Fixed address deferred) = address < 2 ^ 32
IsLong base = Unit {0}

-- so is that of an operand
abbrev pub IsLongOperand : Operand → Type 0
IsLongOperand (operands.Place base index) = IsLong base
IsLongOperand operand = Unit {0}

-- an operand that can be read
abbrev pub IsReadable : Operand → Type 0
IsReadable (operands.Place base index) = IsLong base
IsReadable (operands.Value value) = Unit {0}
IsReadable (operands.Register n) = Unit {0}
IsReadable operands.Unused = ⊥
IsReadable (operands.Target address) = ⊥

-- a literal is known: its low bytes
abbrev pub IsKnownValue : Operand → Size → (value : ℕ) → Type 0
IsKnownValue (operands.Value number) size value = value ≡ number % 2 ^ (8 * bytes_of size)
IsKnownValue operand size value = Unit {0}

-- what comes behind agrees for each value that the operand may have
abbrev pub GoesOnWith : (Left → Type 0) → (Left → Tree) → List Micro → Found → Standing → Operand → Size → (to place : ℕ) → (Evaluated → Tree) → Type 0
GoesOnWith P end program found standing operand size to place rest = (value : ℕ) (temps : Temps) → value < 2 ^ (8 * bytes_of size) → IsKnownValue operand size value
    → temps to ≡ value → Kept to place standing.temps temps
    → Agrees P end (course_of program found (with_temps temps standing)) (rest (record { location = InMemory 0; value = value }))

-- what a service does
abbrev pub service : Pages → (thread : ℕ) → (code : ℕ) → VaxState → Tree
service pages thread code state = instruction_tree pages (serve code thread) state

-- how an instruction goes on where its program leaves
abbrev pub leaving : Pages → (thread : ℕ) → Left → Tree
leaving pages thread left = departed (service pages thread) left.departure
