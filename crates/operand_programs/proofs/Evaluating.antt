-- The program of one operand evaluates it, and leaves its value and address in its temporaries.
use Rattle.std.proofs.Common.{◌≡◌, ℕ, ◌+◌, ◌*◌, ◌%◌, eqb, false, List, ◌++◌, length, refl, sym, ap, append_assoc, arith, inl, inr}
use Rattle.std.proofs.lemmas.Bool.Decides.{eqb_tells}
use Rattle.vax_form.specs.Tree.{Tree, tree_of}
use Rattle.vax_form.specs.declared.instr.Access.{Access}
use Rattle.vax_form.specs.declared.instr.Access.TheVariants as accesses
use Rattle.vax_form.specs.declared.instr.Operand.{Operand}
use Rattle.vax_form.specs.declared.instr.Operand.TheVariants.{Unused, Value, Register, Place, Target}
use Rattle.vax_form.specs.declared.instr.Size.{Size}
use Rattle.vax_form.specs.declared.instr.Size.TheVariants.{Long}
use Rattle.vax_form.specs.declared.pages.Pages.{Pages}
use Rattle.vax_form.specs.declared.state.VaxState.{VaxState}
use Rattle.vax_meaning.specs.Evaluation.{evaluate, find, obtain, nothing}
use Rattle.vax_meaning.specs.Operands.{locate, modify_at, register_value}
use Rattle.vax_meaning.specs.declared.evaluation.Evaluated.{Evaluated}
use Rattle.vax_meaning.specs.declared.operands.Location.TheVariants.{InMemory, InRegister}
use Rattle.micro_ops.specs.Leaving.{CodesComeFrom}
use Rattle.micro_ops.specs.Meaning.{Left, Temps, Found, Standing, with_temp, course_of}
use Rattle.micro_ops.specs.declared.program.Micro.{Micro}
use Rattle.operand_programs.specs.Specifiers.{stepped, modify_program}
use Rattle.operand_programs.specs.Pieces.{Agrees, Kept, leaving}
use Rattle.operand_programs.specs.Operands.{access_program, operand_program, steps_behind_access, IsFor, IsLocated, IsInMemory, IsPlaced, IsLeftAs, EvaluatesOne}
use Rattle.operand_programs.specs.declared.operands.Specifier.{Specifier}
use Rattle.operand_programs.proofs.Places.{with_temps, eqb_same, place_agrees}
use Rattle.operand_programs.proofs.Reading.{value_in, value_in_below, register_agrees, read_agrees, below_4}
use Rattle.operand_programs.proofs.Writing.{modify_agrees}

eqb_other : (a b : ℕ) → eqb a b ≡ false → eqb b a ≡ false
eqb_other a b e = elim (eqb_tells b a) [ inl is ↦ absurd (other a b e is.1) | inr not ↦ not.0 ]
  where
    other : (a b : ℕ) → eqb a b ≡ false → b ≡ a → ⊥
    other a b e is = elim (eqb_tells a b) [ inl same ↦ cc | inr not ↦ not.1 (sym is) ]

-- what goes on behind an operand
abbrev pub GoesOnLeft : (Left → Type 0) → (Left → Tree) → List Micro → Found → Standing → Access → Operand → Size → (to place : ℕ) → (Evaluated → Tree) → Type 0
GoesOnLeft P end program found standing access operand size to place rest = (evaluated : Evaluated) (temps : Temps) → IsLeftAs access operand size evaluated (temps to) (temps place) → Kept place to standing.temps temps
    → Agrees P end (course_of program found (with_temps temps standing)) (rest evaluated)

-- the low longword of a pair
low_of_pair : (low high : ℕ) → (low + high * 4294967296) % 4294967296 ≡ low % 4294967296 % 4294967296
low_of_pair low high = omega arith

module _ (P : Left → Type 0) (end : Left → Tree) (pages : Pages) (program : List Micro) (found : Found) (standing : Standing) (to place : ℕ) (size : Size) (steps : List ℕ)
    (rest : Evaluated → VaxState → Tree) (same : length steps ≡ length found.state.r) (to_apart : eqb to 4 ≡ false) (place_apart : eqb place 4 ≡ false) (apart : eqb to place ≡ false) where
  abbrev Goes : Access → Operand → Type 0
  Goes access operand = GoesOnLeft P end program found standing access operand size to place (λ evaluated. rest evaluated (stepped (steps_behind_access access operand size steps) found.state))

  abbrev Does : Access → Operand → Type 0
  Does access operand = Agrees P end (course_of (access_program access operand size steps to place ++ program) found standing)
      (tree_of pages (evaluate access size operand) (stepped steps found.state) rest)

  pub reads : (operand : Operand) → IsFor accesses.Read operand → Goes accesses.Read operand → Does accesses.Read operand
  reads operand readable goes =
      read_agrees P end pages program found standing to place operand size steps rest same readable place_apart to_apart
      (λ value temps below known is kept. goes _ temps (rw is (refl, below, known)) (λ temp a b c. kept temp b a c))

  pub locates : (operand : Operand) → IsLocated operand → Goes accesses.Write operand → Does accesses.Write operand
  unfolding find obtain locate
  locates (Place base index) located goes =
      place_agrees P end pages program found standing place to base index size steps _ same located place_apart
      (λ address temps below is kept. goes (record { location = InMemory address; value = 0 }) temps (refl, (ap InMemory (sym is), rw is below)) kept)
  locates (Register n) located goes = goes (record { location = InRegister n; value = 0 }) standing.temps (refl, refl) (λ temp a b c. refl)
  locates Unused located goes = absurd located
  locates (Value value) located goes = absurd located
  locates (Target address) located goes = absurd located

  pub modifies : (operand : Operand) → IsLocated operand → Goes accesses.Modify operand → Does accesses.Modify operand
  unfolding find obtain locate modify_at
  modifies (Place base index) located goes =
      let other : eqb place to ≡ false = eqb_other to place apart in
      rw append_assoc (place_agrees P end pages (modify_program size to place ++ program) found standing place to base index size steps _ same located place_apart
      (λ address temps below is kept. modify_agrees P end pages program found (with_temps temps standing) to place address size _ (λ value after. rest (record { location = InMemory address; value = value }) after) is
      (λ value fits. goes (record { location = InMemory address; value = value }) (with_temp to value temps)
      (rw (eqb_same to, other, is) (refl, fits, (refl, below))) (λ temp a b c. rw b (kept temp a b c)))))
  modifies (Register n) located goes =
      register_agrees P end program found standing to place n size steps _ same to_apart
      (λ temps at kept. goes (record { location = InRegister n; value = value_in n size steps found.state }) temps
      (rw at (refl, value_in_below n size steps found.state, refl)) (λ temp a b c. kept temp b a c))
  modifies Unused located goes = absurd located
  modifies (Value value) located goes = absurd located
  modifies (Target address) located goes = absurd located

  pub addresses : (operand : Operand) → IsInMemory operand → Goes accesses.Address operand → Does accesses.Address operand
  unfolding find obtain locate
  addresses (Place base index) located goes =
      place_agrees P end pages program found standing to place base index size steps _ same located to_apart
      (λ address temps below is kept. goes (record { location = InMemory address; value = address }) temps (rw is (refl, below)) (λ temp a b c. kept temp b a c))
  addresses (Register n) located goes = absurd located
  addresses Unused located goes = absurd located
  addresses (Value value) located goes = absurd located
  addresses (Target address) located goes = absurd located

  pub fields : (operand : Operand) → IsLocated operand → Goes accesses.Field operand → Does accesses.Field operand
  unfolding find obtain locate
  fields (Place base index) located goes =
      place_agrees P end pages program found standing place to base index size steps _ same located place_apart
      (λ address temps below is kept. goes (record { location = InMemory address; value = 0 }) temps (ap InMemory (sym is), rw is below) kept)
  fields (Register n) located goes =
      register_agrees P end program found standing to place n Long steps _ same to_apart
      (λ temps at kept. goes (record { location = InRegister n; value = register_value n 8 (stepped steps found.state) }) temps
      (rw at (refl, low_of_pair _ _)) (λ temp a b c. kept temp b a c))
  fields Unused located goes = absurd located
  fields (Value value) located goes = absurd located
  fields (Target address) located goes = absurd located

  pub does : (access : Access) (operand : Operand) → IsFor access operand → Goes access operand → Does access operand
  unfolding find obtain
  does accesses.Read operand is goes = reads operand is goes
  does accesses.Write operand is goes = locates operand is goes
  does accesses.Modify operand is goes = modifies operand is goes
  does accesses.Address operand is goes = addresses operand is goes
  does accesses.Field operand is goes = fields operand is goes
  does accesses.Branch operand is goes = goes nothing standing.temps refl (λ temp a b c. refl)

pub evaluates_one : (specifier : Specifier) (steps : List ℕ) → IsPlaced specifier → EvaluatesOne specifier steps (operand_program specifier steps)
evaluates_one specifier steps placed sources start pages thread program found standing rest same goes =
    does (CodesComeFrom sources start) (leaving pages thread) pages program found standing specifier.to specifier.place specifier.size steps rest same
    (below_4 specifier.to placed.to) (below_4 specifier.place placed.place) placed.apart specifier.access specifier.operand placed.operand goes
