-- The program of an operand that is read has its value.
use Rattle.std.proofs.Common.{◌≡◌, ℕ, ◌+◌, ◌*◌, ◌%◌, ◌^◌, ◌<◌, eqb, false, List, ◌∷◌, ◌++◌, length, get_or, Some, refl, ap, ◌∙◌, append_assoc, arith, inl, inr, lit<}
use Rattle.std.specs.Prelude.{min}
use Rattle.std.proofs.Math.Nat.{mod-eq_of_lt}
use Rattle.std.proofs.lemmas.Bool.Decides.{eqb_tells}
use Rattle.std.proofs.lemmas.Nat.{mod_below, pow_pos}
use Rattle.vax_form.specs.Size.{bytes_of}
use Rattle.vax_form.specs.State.{register}
use Rattle.vax_form.specs.Tree.{Tree, tree_of}
use Rattle.vax_form.specs.declared.instr.Access.TheVariants as accesses
use Rattle.vax_form.specs.declared.instr.Operand.{Operand}
use Rattle.vax_form.specs.declared.instr.Operand.TheVariants.{Unused, Value, Register, Place, Target}
use Rattle.vax_form.specs.declared.instr.Size.{Size}
use Rattle.vax_form.specs.declared.instr.Size.TheVariants.{Byte, Word, Long, Quad}
use Rattle.vax_form.specs.declared.pages.Pages.{Pages}
use Rattle.vax_form.specs.declared.state.VaxState.{VaxState}
use Rattle.vax_meaning.specs.Evaluation.{evaluate, find, obtain, read_found}
use Rattle.vax_meaning.specs.Memory.{low_bytes}
use Rattle.vax_meaning.specs.Operands.{locate, register_value}
use Rattle.vax_meaning.specs.declared.evaluation.Evaluated.{Evaluated}
use Rattle.micro_ops.specs.Meaning.{Left, Temps, Found, Standing, with_temp, with_value, course_of}
use Rattle.micro_ops.specs.Values.{value_from, limit_of}
use Rattle.micro_ops.specs.declared.program.Micro.{Micro}
use Rattle.micro_ops.specs.declared.program.Micro.TheVariants.{Probe, Read}
use Rattle.operand_programs.specs.Specifiers.{stepped, steps_behind_operand, low_bytes_program, register_program, read_program}
use Rattle.operand_programs.specs.Pieces.{Agrees, IsReadable, GoesOnWith, Kept}
use Rattle.operand_programs.proofs.Accesses.{reads_agree}
use Rattle.operand_programs.proofs.Stepped.{register_stepped}
use Rattle.operand_programs.proofs.Places.{with_temps, eqb_same, sum_twice, sum_course, place_agrees}

pub some_bytes : (size : Size) → 0 < bytes_of size
some_bytes Byte = lit< tt
some_bytes Word = lit< tt
some_bytes Long = lit< tt
some_bytes Quad = lit< tt

again : (value bytes : ℕ) → value % 2 ^ (8 * bytes) % 2 ^ (8 * bytes) ≡ value % 2 ^ (8 * bytes)
again value bytes = mod-eq_of_lt (mod_below value (2 ^ (8 * bytes)) (pow_pos (8 * bytes)))

pair : (low high : ℕ) → (low % 18446744073709551616 + high % 18446744073709551616 * 4294967296 % 18446744073709551616 % 18446744073709551616) % 18446744073709551616 ≡ (low + high * 4294967296) % 18446744073709551616
pair low high = omega arith

-- what a register holds, at its size
abbrev pub value_in : (number : ℕ) → Size → (steps : List ℕ) → VaxState → ℕ
value_in n size steps state = low_bytes (bytes_of size) (register_value n (bytes_of size) (stepped steps state))

pub value_in_below : (number : ℕ) (size : Size) (steps : List ℕ) (state : VaxState) → value_in number size steps state < 2 ^ (8 * bytes_of size)
value_in_below n size steps state = mod_below _ (2 ^ (8 * bytes_of size)) (pow_pos (8 * bytes_of size))

-- what goes on behind a register that was read
abbrev pub GoesOnAfter : (Left → Type 0) → (Left → Tree) → List Micro → Found → Standing → (to place value : ℕ) → Tree → Type 0
GoesOnAfter P end program found standing to place value tree = (temps : Temps) → temps to ≡ value → Kept to place standing.temps temps
    → Agrees P end (course_of program found (with_temps temps standing)) tree

-- with a step or without, the low bytes are those of the sum
abbrev AreLow : Size → Type 0
AreLow size = (value offset : ℕ) → offset ≡ 0 → value % limit_of size ≡ (value + offset) % 2 ^ 32 % limit_of size

low_byte : AreLow Byte
low_byte value offset none = omega (arith, none)

low_word : AreLow Word
low_word value offset none = omega (arith, none)

bytes_agree : (P : Left → Type 0) (end : Left → Tree) (program : List Micro) (found : Found) (standing : Standing) (to place n : ℕ) (size : Size) (offset : ℕ) (tree : Tree) → AreLow size
    → GoesOnAfter P end program found standing to place ((register n found.state + offset) % 2 ^ 32 % limit_of size) tree
    → Agrees P end (course_of (low_bytes_program n size offset to ++ program) found standing) tree
unfolding value_from
bytes_agree P end program found standing to place n size offset tree low goes = elim (eqb_tells offset 0) [
  | inl is ↦ rw is.0 (goes (with_temp to (register n found.state % limit_of size) standing.temps) (rw (eqb_same to) (low (register n found.state) offset is.1)) (λ temp a b c. rw a refl))
  | inr not ↦ rw not.0 (goes _ (rw (eqb_same to) (ap (λ v. v % limit_of size) (sum_twice (register n found.state) offset))) (λ temp a b c. rw a refl))
]

pub register_agrees : (P : Left → Type 0) (end : Left → Tree) (program : List Micro) (found : Found) (standing : Standing) (to place n : ℕ) (size : Size) (steps : List ℕ) (tree : Tree)
    → length steps ≡ length found.state.r → eqb to 4 ≡ false
    → GoesOnAfter P end program found standing to place (value_in n size steps found.state) tree
    → Agrees P end (course_of (register_program n size steps to ++ program) found standing) tree
unfolding value_from
register_agrees P end program found standing to place n Byte steps tree same other goes =
    let offset = get_or steps n 0 in
    bytes_agree P end program found standing to place n Byte offset tree low_byte
    (λ temps at kept. goes temps (at ∙ rw (register_stepped found.state steps n same, again ((register n found.state + offset) % 2 ^ 32) 1) refl) kept)
register_agrees P end program found standing to place n Word steps tree same other goes =
    let offset = get_or steps n 0 in
    bytes_agree P end program found standing to place n Word offset tree low_word
    (λ temps at kept. goes temps (at ∙ rw (register_stepped found.state steps n same, again ((register n found.state + offset) % 2 ^ 32) 2) refl) kept)
register_agrees P end program found standing to place n Long steps tree same other goes =
    let v = (register n found.state + get_or steps n 0) % 2 ^ 32 in
    rw (sum_course to (Some n) (get_or steps n 0) _ found standing)
    (goes (with_temp to v standing.temps) (rw (eqb_same to, register_stepped found.state steps n same, again (register n found.state + get_or steps n 0) 4, again (register n found.state + get_or steps n 0) 4) refl) (λ temp a b c. rw a refl))
register_agrees P end program found standing to place n Quad steps tree same other goes =
    let m = min (n + 1) 255 in
    let low = (register n found.state + get_or steps n 0) % 2 ^ 32 in
    let high = (register m found.state + get_or steps m 0) % 2 ^ 32 in
    rw (sum_course to (Some n) (get_or steps n 0) _ found standing, sum_course 4 (Some m) (get_or steps m 0) _ found (with_value to low standing))
    (goes _ (rw (eqb_same to, other, register_stepped found.state steps n same, register_stepped found.state steps m same) (pair low high)) (λ temp a b c. rw (a, c) refl))

pub read_agrees : (P : Left → Type 0) (end : Left → Tree) (pages : Pages) (program : List Micro) (found : Found) (standing : Standing) (to place : ℕ)
    (operand : Operand) (size : Size) (steps : List ℕ) (rest : Evaluated → VaxState → Tree)
    → length steps ≡ length found.state.r → IsReadable operand → eqb place 4 ≡ false → eqb to 4 ≡ false
    → GoesOnWith P end program found standing operand size to place (λ evaluated. rest evaluated (stepped (steps_behind_operand operand size steps) found.state))
    → Agrees P end (course_of (read_program operand size steps to place ++ program) found standing)
    (tree_of pages (evaluate accesses.Read size operand) (stepped steps found.state) rest)
unfolding find obtain read_found locate value_from
read_agrees P end pages program found standing to place (Value value) size steps rest same readable apart other goes =
    goes (value % 2 ^ (8 * bytes_of size)) (with_temp to (value % 2 ^ (8 * bytes_of size)) standing.temps) (mod_below value _ (pow_pos (8 * bytes_of size))) refl (rw (eqb_same to) refl) (λ temp a b c. rw a refl)
read_agrees P end pages program found standing to place (Register n) size steps rest same readable apart other goes =
    register_agrees P end program found standing to place n size steps _ same other
    (λ temps at kept. goes (value_in n size steps found.state) temps (value_in_below n size steps found.state) tt at kept)
read_agrees P end pages program found standing to place (Place base index) size steps rest same readable apart other goes =
    rw append_assoc (place_agrees P end pages (Probe place (bytes_of size) false ∷ Read to place (bytes_of size) ∷ program) found standing place to base index size steps _ same readable apart
    (λ address temps below is kept. rw is (
      refl,
      refl,
      refl,
      reads_agree P end pages address (bytes_of size) _ (λ value. course_of program found (with_value to value (with_temps temps standing))) _ (some_bytes size)
          (λ value fits. rw (mod-eq_of_lt fits) (goes value (with_temp to value temps) fits tt (rw (eqb_same to) refl) (λ temp a b c. rw a (kept temp b a c)))),
    )))
read_agrees P end pages program found standing to place Unused size steps rest same readable apart other goes = absurd readable
read_agrees P end pages program found standing to place (Target address) size steps rest same readable apart other goes = absurd readable

pub below_4 : (n : ℕ) → n < 4 → eqb n 4 ≡ false
below_4 n lt = elim (eqb_tells n 4) [ inl is ↦ absurd (omega (arith, lt, is.1)) | inr not ↦ not.0 ]
