-- The program of an operand's address finds the address.
use Rattle.std.proofs.Common.{◌≡◌, ℕ, ◌+◌, ◌-◌, ◌*◌, ◌%◌, ◌^◌, ◌<◌, eqb, Bool, true, false, List, [], ◌∷◌, ◌++◌, length, get_or, Option, Some, None, refl, sym, ap, ◌∙◌, subst, append_assoc, arith, inl, inr, lit<}
use Rattle.std.proofs.Math.Nat.{mod-eq_of_lt}
use Rattle.std.proofs.lemmas.Bool.Decides.{eqb_tells}
use Rattle.std.proofs.lemmas.Nat.{mod_below}
use Rattle.std.proofs.lemmas.List.{length-set}
use Rattle.vax_form.specs.Size.{bytes_of}
use Rattle.vax_form.specs.State.{register}
use Rattle.vax_form.specs.declared.instr.Size.{Size}
use Rattle.vax_form.specs.declared.instr.Size.TheVariants.{Byte, Word, Long, Quad}
use Rattle.vax_form.specs.Tree.{Tree, tree_of}
use Rattle.vax_form.specs.declared.instr.Base.{Base}
use Rattle.vax_form.specs.declared.instr.Base.TheVariants.{Deferred, Decrement, Increment, IncrementDeferred, Offset, Fixed}
use Rattle.vax_form.specs.declared.pages.Pages.{Pages}
use Rattle.vax_form.specs.declared.state.VaxState.{VaxState}
use Rattle.vax_meaning.specs.Operands.{through, base_address, place_address}
use Rattle.micro_ops.specs.Meaning.{Left, Temps, Found, Standing, with_temp, with_value, course_of}
use Rattle.micro_ops.specs.Values.{value_from}
use Rattle.micro_ops.specs.declared.program.Micro.{Micro}
use Rattle.micro_ops.specs.declared.program.Micro.TheVariants.{Compute, Probe, Read}
use Rattle.micro_ops.specs.declared.program.MicroOp.TheVariants as ops
use Rattle.micro_ops.specs.declared.program.Arg.TheVariants.{Temp}
use Rattle.operand_programs.specs.Specifiers.{sum_into, address_program, scaled, index_program, place_program, pointer_of, steps_behind, stepped, with_step}
pub use Rattle.operand_programs.specs.Pieces.{Kept, with_temps, IsLong}
use Rattle.operand_programs.specs.Pieces.{Agrees}
use Rattle.operand_programs.proofs.Accesses.{reads_agree}
use Rattle.operand_programs.proofs.Stepped.{register_stepped, with_register_stepped, twice}

pub eqb_same : (n : ℕ) → eqb n n ≡ true
eqb_same n = elim (eqb_tells n n) [ inl is ↦ is.0 | inr not ↦ absurd (not.1 refl) ]

-- the value of a register and an offset
abbrev pub sum_of_pointer : Option ℕ → (offset : ℕ) → VaxState → ℕ
sum_of_pointer None offset state = offset % 2 ^ 32
sum_of_pointer (Some n) offset state = (register n state + offset) % 2 ^ 32

pub sum_twice : (value offset : ℕ) → (value % 4294967296 + offset % 4294967296) % 4294967296 ≡ (value + offset) % 4294967296
sum_twice value offset = omega arith

pub sum_course : (to : ℕ) (from : Option ℕ) (offset : ℕ) (program : List Micro) (found : Found) (standing : Standing)
    → course_of (sum_into to from offset ∷ program) found standing ≡ course_of program found (with_value to (sum_of_pointer from offset found.state) standing)
unfolding value_from
sum_course to None offset program found standing = refl
sum_course to (Some n) offset program found standing = elim (eqb_tells offset 0) [
  | inl is ↦ (let none : register n found.state % 2 ^ 32 ≡ (register n found.state + offset) % 2 ^ 32 = rw is.1 (ap (λ v. v % 2 ^ 32) (omega arith)) in
      rw is.0 (ap (λ v. course_of program found (with_value to v standing)) none))
  | inr not ↦ rw not.0 (ap (λ v. course_of program found (with_value to v standing)) (sum_twice (register n found.state) offset))
]

kept_one : (place spare value : ℕ) (temps : Temps) → Kept place spare temps (with_temp place value temps)
kept_one place spare value temps temp a b c = rw a refl

kept_two : (place spare value address : ℕ) (temps : Temps) → Kept place spare temps (with_temp place value (with_temp spare address temps))
kept_two place spare value address temps temp a b c = rw (a, b) refl

-- what goes on behind an address that was found
abbrev pub GoesOn : (Left → Type 0) → (Left → Tree) → List Micro → Found → Standing → (place spare : ℕ) → (ℕ → Tree) → Type 0
GoesOn P end program found standing place spare rest = (address : ℕ) (temps : Temps) → address < 2 ^ 32 → temps place ≡ address → Kept place spare standing.temps temps
    → Agrees P end (course_of program found (with_temps temps standing)) (rest address)

pointer_below : (from : Option ℕ) (offset : ℕ) (state : VaxState) → sum_of_pointer from offset state < 2 ^ 32
pointer_below None offset state = mod_below offset (2 ^ 32) (lit< tt)
pointer_below (Some n) offset state = mod_below (register n state + offset) (2 ^ 32) (lit< tt)

pub pointer_agrees : (P : Left → Type 0) (end : Left → Tree) (pages : Pages) (program : List Micro) (found : Found) (standing : Standing) (place spare : ℕ)
    (from : Option ℕ) (offset : ℕ) (deferred : Bool) (state : VaxState) (rest : ℕ → VaxState → Tree)
    → GoesOn P end program found standing place spare (λ address. rest address state)
    → Agrees P end (course_of (address_program (record { register = from; offset = offset; deferred = deferred }) place spare ++ program) found standing)
    (tree_of pages (through (sum_of_pointer from offset found.state) deferred) state rest)
pointer_agrees P end pages program found standing place spare from offset false state rest goes =
    let v = sum_of_pointer from offset found.state in
    rw (sum_course place from offset program found standing)
    (goes v (with_temp place v standing.temps) (pointer_below from offset found.state) (rw (eqb_same place) refl) (kept_one place spare v standing.temps))
pointer_agrees P end pages program found standing place spare from offset true state rest goes =
    let v = sum_of_pointer from offset found.state in
    rw (sum_course spare from offset (Probe spare 4 false ∷ Read place spare 4 ∷ program) found standing, eqb_same spare) (
      refl,
      refl,
      refl,
      reads_agree P end pages v 4 state (λ value. course_of program found (with_value place value (with_value spare v standing))) (λ x after. rest (x % 2 ^ 32) after) (lit< tt)
          (λ value below. rw (mod-eq_of_lt below) (goes value (with_temp place value (with_temp spare v standing.temps)) below (rw (eqb_same place) refl) (kept_two place spare value v standing.temps))),
    )

pub base_agrees : (P : Left → Type 0) (end : Left → Tree) (pages : Pages) (program : List Micro) (found : Found) (standing : Standing) (place spare : ℕ)
    (base : Base) (size : ℕ) (steps : List ℕ) (rest : ℕ → VaxState → Tree)
    → length steps ≡ length found.state.r → IsLong base
    → GoesOn P end program found standing place spare (λ address. rest address (stepped (steps_behind base size steps) found.state))
    → Agrees P end (course_of (address_program (pointer_of base size steps) place spare ++ program) found standing)
    (tree_of pages (base_address base size) (stepped steps found.state) rest)
unfolding base_address
base_agrees P end pages program found standing place spare (Deferred n) size steps rest same long goes =
    rw (register_stepped found.state steps n same) (pointer_agrees P end pages program found standing place spare (Some n) (get_or steps n 0) false (stepped steps found.state) rest goes)
base_agrees P end pages program found standing place spare (Decrement n) size steps rest same long goes =
    rw (with_register_stepped found.state steps n (2 ^ 32 - size) same, register_stepped found.state steps n same, twice (register n found.state) (get_or steps n 0) (2 ^ 32 - size))
    (pointer_agrees P end pages program found standing place spare (Some n) ((get_or steps n 0 + (2 ^ 32 - size)) % 2 ^ 32) false (stepped (with_step n (2 ^ 32 - size) steps) found.state) rest goes)
base_agrees P end pages program found standing place spare (Increment n) size steps rest same long goes =
    rw (with_register_stepped found.state steps n size same, register_stepped found.state steps n same)
    (pointer_agrees P end pages program found standing place spare (Some n) (get_or steps n 0) false (stepped (with_step n size steps) found.state) rest goes)
base_agrees P end pages program found standing place spare (IncrementDeferred n) size steps rest same long goes =
    rw (with_register_stepped found.state steps n 4 same, register_stepped found.state steps n same)
    (pointer_agrees P end pages program found standing place spare (Some n) (get_or steps n 0) true (stepped (with_step n 4 steps) found.state) rest goes)
base_agrees P end pages program found standing place spare (Offset n offset deferred) size steps rest same long goes =
    let at : (register n (stepped steps found.state) + offset) % 2 ^ 32 ≡ (register n found.state + (get_or steps n 0 + offset) % 2 ^ 32) % 2 ^ 32 =
    ap (λ v. (v + offset) % 2 ^ 32) (register_stepped found.state steps n same) ∙ twice (register n found.state) (get_or steps n 0) offset in
    subst (λ a. Agrees P end (course_of (address_program (pointer_of (Offset n offset deferred) size steps) place spare ++ program) found standing) (tree_of pages (through a deferred) (stepped steps found.state) rest))
    (sym at) (pointer_agrees P end pages program found standing place spare (Some n) ((get_or steps n 0 + offset) % 2 ^ 32) deferred (stepped steps found.state) rest goes)
base_agrees P end pages program found standing place spare (Fixed address deferred) size steps rest same long goes =
    let low : address % 2 ^ 32 ≡ address = mod-eq_of_lt long in
    subst (λ a. Agrees P end (course_of (address_program (pointer_of (Fixed address deferred) size steps) place spare ++ program) found standing) (tree_of pages (through a deferred) (stepped steps found.state) rest))
    low (pointer_agrees P end pages program found standing place spare None address deferred (stepped steps found.state) rest goes)

pub steps_length : (base : Base) (size : ℕ) (steps : List ℕ) → length (steps_behind base size steps) ≡ length steps
steps_length (Decrement n) size steps = length-set steps n _
steps_length (Increment n) size steps = length-set steps n _
steps_length (IncrementDeferred n) size steps = length-set steps n _
steps_length base size steps = refl

by_one : (address value : ℕ) → (address % 4294967296 + value % 4294967296) % 4294967296 ≡ (address + value * 1 % 4294967296) % 4294967296
by_one address value = omega arith

by_two : (address value : ℕ) → (address % 4294967296 + value % 18446744073709551616 * 2 % 18446744073709551616 % 4294967296) % 4294967296 ≡ (address + value * 2 % 4294967296) % 4294967296
by_two address value = omega arith

by_four : (address value : ℕ) → (address % 4294967296 + value % 18446744073709551616 * 4 % 18446744073709551616 % 4294967296) % 4294967296 ≡ (address + value * 4 % 4294967296) % 4294967296
by_four address value = omega arith

by_eight : (address value : ℕ) → (address % 4294967296 + value % 18446744073709551616 * 8 % 18446744073709551616 % 4294967296) % 4294967296 ≡ (address + value * 8 % 4294967296) % 4294967296
by_eight address value = omega arith

-- what goes on behind an indexed address
abbrev pub GoesOnAt : (Left → Type 0) → (Left → Tree) → List Micro → Found → Standing → (place : ℕ) → (address : ℕ) → Tree → Type 0
GoesOnAt P end program found standing place address tree = (temps : Temps) → temps place ≡ address
    → ((temp : ℕ) → eqb temp place ≡ false → eqb temp 4 ≡ false → temps temp ≡ standing.temps temp)
    → Agrees P end (course_of program found (with_temps temps standing)) tree

scaled_agrees : (P : Left → Type 0) (end : Left → Tree) (program : List Micro) (found : Found) (standing : Standing) (size : Size) (place value : ℕ) (tree : Tree)
    → eqb place 4 ≡ false → GoesOnAt P end program found standing place ((standing.temps place + value * bytes_of size % 2 ^ 32) % 2 ^ 32) tree
    → Agrees P end (course_of (scaled size (Compute place ops.Add Long (Temp place) (Temp 4) ∷ []) ++ program) found (with_value 4 value standing)) tree
unfolding value_from
scaled_agrees P end program found standing Byte place value tree apart goes =
    goes _ (rw (eqb_same place, apart) (by_one (standing.temps place) value)) (λ temp a b. rw (a, b) refl)
scaled_agrees P end program found standing Word place value tree apart goes =
    goes _ (rw (eqb_same place, apart) (by_two (standing.temps place) value)) (λ temp a b. rw (a, b) refl)
scaled_agrees P end program found standing Long place value tree apart goes =
    goes _ (rw (eqb_same place, apart) (by_four (standing.temps place) value)) (λ temp a b. rw (a, b) refl)
scaled_agrees P end program found standing Quad place value tree apart goes =
    goes _ (rw (eqb_same place, apart) (by_eight (standing.temps place) value)) (λ temp a b. rw (a, b) refl)

-- the index is added to the address of the base
pub place_agrees : (P : Left → Type 0) (end : Left → Tree) (pages : Pages) (program : List Micro) (found : Found) (standing : Standing) (place spare : ℕ)
    (base : Base) (index : Option ℕ) (size : Size) (steps : List ℕ) (rest : ℕ → VaxState → Tree)
    → length steps ≡ length found.state.r → IsLong base → eqb place 4 ≡ false
    → GoesOn P end program found standing place spare (λ address. rest address (stepped (steps_behind base (bytes_of size) steps) found.state))
    → Agrees P end (course_of (place_program base index size steps place spare ++ program) found standing)
    (tree_of pages (place_address base index (bytes_of size)) (stepped steps found.state) rest)
unfolding place_address
place_agrees P end pages program found standing place spare base None size steps rest same long apart goes =
    rw append_assoc (base_agrees P end pages program found standing place spare base (bytes_of size) steps rest same long goes)
place_agrees P end pages program found standing place spare base (Some x) size steps rest same long apart goes =
    let behind = steps_behind base (bytes_of size) steps in
    rw append_assoc (base_agrees P end pages (index_program (Some x) size behind place ++ program) found standing place spare base (bytes_of size) steps _ same long
    (λ address temps below is kept. rw (sum_course 4 (Some x) (get_or behind x 0) _ found (with_temps temps standing), register_stepped found.state behind x (steps_length base (bytes_of size) steps ∙ same))
    (scaled_agrees P end program found (with_temps temps standing) size place ((register x found.state + get_or behind x 0) % 2 ^ 32) _ apart
    (λ after at others. goes _ after (mod_below _ (2 ^ 32) (lit< tt)) (at ∙ ap (λ a. (a + (register x found.state + get_or behind x 0) % 2 ^ 32 * bytes_of size % 2 ^ 32) % 2 ^ 32) is)
    (λ temp a b c. others temp a c ∙ kept temp a b c)))))
