-- Operands and the end name the temporaries 0 to 5 alone.
use Rattle.std.proofs.Common.{◌≡◌, ℕ, ◌+◌, ◌<◌, Bool, true, false, List, [], ◌∷◌, ◌++◌, get_or, Option, Some, None, refl, ◌∙◌, arith, inl, inr}
use Rattle.std.specs.Prelude.{min}
use Rattle.std.proofs.lemmas.Bool.{lt-ltb, and_from}
use Rattle.std.proofs.lemmas.Bool.Decides.{eqb_tells}
use Rattle.std.proofs.lemmas.List.Folds.{list_all-append}
use Rattle.vax_form.specs.Size.{bytes_of}
use Rattle.vax_form.specs.declared.instr.Access.{Access}
use Rattle.vax_form.specs.declared.instr.Access.TheVariants as accesses
use Rattle.vax_form.specs.declared.instr.Base.{Base}
use Rattle.vax_form.specs.declared.instr.Operand.{Operand}
use Rattle.vax_form.specs.declared.instr.Operand.TheVariants.{Unused, Value, Register, Place, Target}
use Rattle.vax_form.specs.declared.instr.Size.{Size}
use Rattle.vax_form.specs.declared.instr.Size.TheVariants.{Byte, Word, Long, Quad}
use Rattle.micro_ops.specs.Fits.{names_low}
use Rattle.micro_ops.specs.Laws.{IsLowPiece}
use Rattle.micro_ops.specs.LeftOut.{is_low}
use Rattle.micro_ops.specs.declared.program.Micro.{Micro}
use Rattle.micro_ops.specs.declared.program.Micro.TheVariants.{Probe, Read}
use Rattle.operand_programs.specs.Specifiers.{sum_into, address_program, index_program, place_program, pointer_of, steps_behind, low_bytes_program, register_program, commit_one, commit_program}
use Rattle.operand_programs.specs.Operands.{access_program}
use Rattle.operand_programs.specs.Results.{steps_left, cleared_program, give_program, steps_behind_push}
use Rattle.operand_programs.specs.Words.{OperandIsLow, ResultIsLow, ReplacementIsLow, PushIsLow, FinishIsLow, CommitsAreLow}
use Rattle.operand_programs.specs.declared.specifiers.Pointer.{Pointer}

low_4 : (temp : ℕ) → temp < 4 → is_low temp ≡ true
low_4 temp lt = lt-ltb temp 6 (omega (arith, lt))

pub joined_low : (first second : List Micro) → IsLowPiece first → IsLowPiece second → IsLowPiece (first ++ second)
joined_low first second x y = list_all-append names_low first second ∙ and_from _ _ x y

sum_low : (to : ℕ) (from : Option ℕ) (offset : ℕ) → is_low to ≡ true → names_low (sum_into to from offset) ≡ true
sum_low to None offset low = rw low refl
sum_low to (Some n) offset low = elim (eqb_tells offset 0) [ inl is ↦ rw (is.0, low) refl | inr not ↦ rw (not.0, low) refl ]

pointer_low : (pointer : Pointer) (place spare : ℕ) → is_low place ≡ true → is_low spare ≡ true → IsLowPiece (address_program pointer place spare)
pointer_low pointer place spare p s = by pointer.register pointer.offset pointer.deferred
  where
    by : (from : Option ℕ) (offset : ℕ) (deferred : Bool) → IsLowPiece (address_program (record { register = from; offset = offset; deferred = deferred }) place spare)
    by from offset false = rw (sum_low place from offset p) refl
    by from offset true = rw (sum_low spare from offset s, p, s) refl

index_low : (index : Option ℕ) (size : Size) (steps : List ℕ) (place : ℕ) → is_low place ≡ true → IsLowPiece (index_program index size steps place)
index_low None size steps place p = refl
index_low (Some x) Byte steps place p = rw (sum_low 4 (Some x) (get_or steps x 0) refl, p) refl
index_low (Some x) Word steps place p = rw (sum_low 4 (Some x) (get_or steps x 0) refl, p) refl
index_low (Some x) Long steps place p = rw (sum_low 4 (Some x) (get_or steps x 0) refl, p) refl
index_low (Some x) Quad steps place p = rw (sum_low 4 (Some x) (get_or steps x 0) refl, p) refl

place_low : (base : Base) (index : Option ℕ) (size : Size) (steps : List ℕ) (place spare : ℕ) → is_low place ≡ true → is_low spare ≡ true → IsLowPiece (place_program base index size steps place spare)
place_low base index size steps place spare p s =
    joined_low (address_program (pointer_of base (bytes_of size) steps) place spare) (index_program index size (steps_behind base (bytes_of size) steps) place)
    (pointer_low (pointer_of base (bytes_of size) steps) place spare p s) (index_low index size (steps_behind base (bytes_of size) steps) place p)

bytes_low : (n : ℕ) (size : Size) (offset to : ℕ) → is_low to ≡ true → IsLowPiece (low_bytes_program n size offset to)
bytes_low n size offset to t = elim (eqb_tells offset 0) [ inl is ↦ rw (is.0, t) refl | inr not ↦ rw (not.0, t) refl ]

register_low : (n : ℕ) (size : Size) (steps : List ℕ) (to : ℕ) → is_low to ≡ true → IsLowPiece (register_program n size steps to)
register_low n Byte steps to t = bytes_low n Byte (get_or steps n 0) to t
register_low n Word steps to t = bytes_low n Word (get_or steps n 0) to t
register_low n Long steps to t = rw (sum_low to (Some n) (get_or steps n 0) t) refl
register_low n Quad steps to t = rw (sum_low to (Some n) (get_or steps n 0) t, sum_low 4 (Some (min (n + 1) 255)) (get_or steps (min (n + 1) 255) 0) refl, t) refl

reading_low : (to place : ℕ) (size : Size) (write : Bool) → is_low to ≡ true → is_low place ≡ true → IsLowPiece (Probe place (bytes_of size) write ∷ Read to place (bytes_of size) ∷ [])
reading_low to place size write t p = rw (t, p) refl

low_as : (access : Access) (operand : Operand) (size : Size) (steps : List ℕ) (to place : ℕ) → is_low to ≡ true → is_low place ≡ true → IsLowPiece (access_program access operand size steps to place)
low_as accesses.Read (Place base index) size steps to place t p = joined_low (place_program base index size steps place to) _ (place_low base index size steps place to p t) (reading_low to place size false t p)
low_as accesses.Read (Register n) size steps to place t p = register_low n size steps to t
low_as accesses.Read (Value value) size steps to place t p = rw t refl
low_as accesses.Read Unused size steps to place t p = refl
low_as accesses.Read (Target address) size steps to place t p = refl
low_as accesses.Modify (Place base index) size steps to place t p = joined_low (place_program base index size steps place to) _ (place_low base index size steps place to p t) (reading_low to place size true t p)
low_as accesses.Modify (Register n) size steps to place t p = register_low n size steps to t
low_as accesses.Modify (Value value) size steps to place t p = refl
low_as accesses.Modify Unused size steps to place t p = refl
low_as accesses.Modify (Target address) size steps to place t p = refl
low_as accesses.Write (Place base index) size steps to place t p = place_low base index size steps place to p t
low_as accesses.Write (Register n) size steps to place t p = refl
low_as accesses.Write (Value value) size steps to place t p = refl
low_as accesses.Write Unused size steps to place t p = refl
low_as accesses.Write (Target address) size steps to place t p = refl
low_as accesses.Address (Place base index) size steps to place t p = place_low base index size steps to place t p
low_as accesses.Address (Register n) size steps to place t p = refl
low_as accesses.Address (Value value) size steps to place t p = refl
low_as accesses.Address Unused size steps to place t p = refl
low_as accesses.Address (Target address) size steps to place t p = refl
low_as accesses.Field (Place base index) size steps to place t p = place_low base index size steps place to p t
low_as accesses.Field (Register n) size steps to place t p = register_low n Long steps to t
low_as accesses.Field (Value value) size steps to place t p = refl
low_as accesses.Field Unused size steps to place t p = refl
low_as accesses.Field (Target address) size steps to place t p = refl
low_as accesses.Branch operand size steps to place t p = refl

pub operand_is_low : OperandIsLow
operand_is_low specifier steps placed =
    low_as specifier.access specifier.operand specifier.size steps specifier.to specifier.place (low_4 specifier.to placed.to) (low_4 specifier.place placed.place)

one_low : (number step : ℕ) → IsLowPiece (commit_one number step)
one_low number step = elim (eqb_tells step 0) [ inl is ↦ rw is.0 refl | inr not ↦ rw not.0 refl ]

commits_low : (number : ℕ) (steps : List ℕ) → IsLowPiece (commit_program number steps)
commits_low number [] = refl
commits_low number (step ∷ steps) = joined_low (commit_one number step) (commit_program (number + 1) steps) (one_low number step) (commits_low (number + 1) steps)

cleared_low : (n step mask : ℕ) → IsLowPiece (cleared_program n step mask)
cleared_low n step mask = elim (eqb_tells step 0) [ inl is ↦ rw is.0 refl | inr not ↦ rw not.0 refl ]

give_low : (operand : Operand) (size : Size) (steps : List ℕ) (from : ℕ) → is_low from ≡ true → IsLowPiece (give_program operand size steps from)
give_low (Register n) Byte steps from f = joined_low (cleared_program n (get_or steps n 0) 0xFF) _ (cleared_low n (get_or steps n 0) 0xFF) (rw f refl)
give_low (Register n) Word steps from f = joined_low (cleared_program n (get_or steps n 0) 0xFFFF) _ (cleared_low n (get_or steps n 0) 0xFFFF) (rw f refl)
give_low (Register n) Long steps from f = rw f refl
give_low (Register n) Quad steps from f = rw f refl
give_low (Place base index) size steps from f = refl
give_low Unused size steps from f = refl
give_low (Value value) size steps from f = refl
give_low (Target address) size steps from f = refl

pub finish_is_low : FinishIsLow
finish_is_low operand size steps from low =
    joined_low (commit_program 0 (steps_left operand size steps)) (give_program operand size steps from) (commits_low 0 (steps_left operand size steps)) (give_low operand size steps from (low_4 from low))

pub commits_are_low : CommitsAreLow
commits_are_low steps = commits_low 0 steps

-- ---- results
pub result_is_low : ResultIsLow
result_is_low (Place base index) size place from p f = rw (low_4 place p, low_4 from f) refl
result_is_low Unused size place from p f = refl
result_is_low (Value value) size place from p f = refl
result_is_low (Register n) size place from p f = refl
result_is_low (Target address) size place from p f = refl

pub replacement_is_low : ReplacementIsLow
replacement_is_low (Place base index) size place from p f = rw (low_4 place p, low_4 from f) refl
replacement_is_low Unused size place from p f = refl
replacement_is_low (Value value) size place from p f = refl
replacement_is_low (Register n) size place from p f = refl
replacement_is_low (Target address) size place from p f = refl

pub push_is_low : PushIsLow
push_is_low steps place from p f = rw (sum_low place (Some 14) (get_or (steps_behind_push steps) 14 0) (low_4 place p), low_4 place p, low_4 from f) refl
