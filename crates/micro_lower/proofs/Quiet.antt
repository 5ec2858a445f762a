-- Pieces of a program that read no codes, write nothing and do not leave: operands, commits, and what sets the codes.
use Rattle.std.proofs.Common.{◌≡◌, ℕ, ◌+◌, Bool, true, false, List, [], ◌∷◌, ◌++◌, get_or, Option, Some, None, refl, ◌∙◌, inl, inr}
use Rattle.std.specs.Prelude.{◌&&◌, min}
use Rattle.std.specs.List.{list_all}
use Rattle.std.proofs.lemmas.Bool.{and_parts}
use Rattle.std.proofs.lemmas.Bool.Decides.{eqb_tells}
use Rattle.std.proofs.lemmas.List.Folds.{list_all-append}
use Rattle.vax_form.specs.Size.{bytes_of}
use Rattle.vax_form.specs.declared.instr.Access.{Access}
use Rattle.vax_form.specs.declared.instr.Access.TheVariants as accesses
use Rattle.vax_form.specs.declared.instr.Base.{Base}
use Rattle.vax_form.specs.declared.instr.Operand.{Operand}
use Rattle.vax_form.specs.declared.instr.Operand.TheVariants.{Register, Place}
use Rattle.vax_form.specs.declared.instr.Size.{Size}
use Rattle.vax_form.specs.declared.instr.Size.TheVariants.{Byte, Word, Long, Quad}
use Rattle.micro_ops.specs.declared.codes.CodeSource.{CodeSource}
use Rattle.micro_ops.specs.declared.codes.CodeSource.TheVariants as sources
use Rattle.micro_ops.specs.declared.program.Arg.{Arg}
use Rattle.micro_ops.specs.declared.program.Arg.TheVariants as args
use Rattle.micro_ops.specs.declared.program.Micro.{Micro}
use Rattle.micro_ops.specs.declared.program.Micro.TheVariants.{Compute, Write, Codes, Leave}
use Rattle.operand_programs.specs.InOrder.{operands_program}
use Rattle.operand_programs.specs.Operands.{access_program, operand_program, steps_behind_specifier}
use Rattle.operand_programs.specs.Results.{cleared_program, finish_program, give_program, steps_left}
use Rattle.operand_programs.specs.Specifiers.{sum_into, address_program, index_program, place_program, pointer_of, steps_behind, low_bytes_program, register_program, commit_one, commit_program}
use Rattle.operand_programs.specs.declared.operands.Specifier.{Specifier}
use Rattle.micro_lower.specs.Plans.{signs_program, carry_program, overflow_temp, carry_temp, codes_program, end_program}
use Rattle.micro_lower.specs.declared.plans.Target.{Target}
use Rattle.micro_lower.specs.declared.plans.Target.TheVariants as targets

-- ---- pieces
-- no flag
abbrev pub is_number : Arg → Bool
is_number (args.Flag flag) = false
is_number arg = true

abbrev pub is_quiet : Micro → Bool
is_quiet (Compute to op size a b) = is_number a && is_number b
is_quiet (Write place count from) = false
is_quiet (Leave exit) = false
is_quiet operation = true

abbrev pub IsQuiet : List Micro → Type 0
IsQuiet piece = list_all is_quiet piece ≡ true

joined : (first second : List Micro) → IsQuiet first → IsQuiet second → IsQuiet (first ++ second)
joined first second x y = list_all-append is_quiet first second ∙ rw (x, y) refl

-- a test that each quiet operation passes
pub quiet_passes : (test : Micro → Bool) → ((operation : Micro) → is_quiet operation ≡ true → test operation ≡ true) → (piece : List Micro) → IsQuiet piece → list_all test piece ≡ true
quiet_passes test passes [] quiet = refl
quiet_passes test passes (operation ∷ piece) quiet =
    let parts = and_parts _ _ quiet in
    rw (passes operation parts.0, quiet_passes test passes piece parts.1) refl

-- ---- operands
pub sum_quiet : (to : ℕ) (from : Option ℕ) (offset : ℕ) → is_quiet (sum_into to from offset) ≡ true
sum_quiet to None offset = refl
sum_quiet to (Some n) offset = elim (eqb_tells offset 0) [ inl is ↦ rw is.0 refl | inr not ↦ rw not.0 refl ]

address_quiet : (from : Option ℕ) (offset : ℕ) (deferred : Bool) (place spare : ℕ)
    → IsQuiet (address_program (record { register = from; offset = offset; deferred = deferred }) place spare)
address_quiet from offset false place spare = rw (sum_quiet place from offset) refl
address_quiet from offset true place spare = rw (sum_quiet spare from offset) refl

index_quiet : (index : Option ℕ) (size : Size) (steps : List ℕ) (place : ℕ) → IsQuiet (index_program index size steps place)
index_quiet None size steps place = refl
index_quiet (Some x) Byte steps place = rw (sum_quiet 4 (Some x) (get_or steps x 0)) refl
index_quiet (Some x) Word steps place = rw (sum_quiet 4 (Some x) (get_or steps x 0)) refl
index_quiet (Some x) Long steps place = rw (sum_quiet 4 (Some x) (get_or steps x 0)) refl
index_quiet (Some x) Quad steps place = rw (sum_quiet 4 (Some x) (get_or steps x 0)) refl

place_quiet : (base : Base) (index : Option ℕ) (size : Size) (steps : List ℕ) (place spare : ℕ) → IsQuiet (place_program base index size steps place spare)
place_quiet base index size steps place spare =
    let pointer = pointer_of base (bytes_of size) steps in
    joined (address_program pointer place spare) (index_program index size (steps_behind base (bytes_of size) steps) place)
    (address_quiet pointer.register pointer.offset pointer.deferred place spare) (index_quiet index size (steps_behind base (bytes_of size) steps) place)

bytes_quiet : (n : ℕ) (size : Size) (offset to : ℕ) → IsQuiet (low_bytes_program n size offset to)
bytes_quiet n size offset to = elim (eqb_tells offset 0) [ inl is ↦ rw is.0 refl | inr not ↦ rw not.0 refl ]

register_quiet : (n : ℕ) (size : Size) (steps : List ℕ) (to : ℕ) → IsQuiet (register_program n size steps to)
register_quiet n Byte steps to = bytes_quiet n Byte (get_or steps n 0) to
register_quiet n Word steps to = bytes_quiet n Word (get_or steps n 0) to
register_quiet n Long steps to = rw (sum_quiet to (Some n) (get_or steps n 0)) refl
register_quiet n Quad steps to = rw (sum_quiet to (Some n) (get_or steps n 0), sum_quiet 4 (Some (min (n + 1) 255)) (get_or steps (min (n + 1) 255) 0)) refl

access_quiet : (access : Access) (operand : Operand) (size : Size) (steps : List ℕ) (to place : ℕ) → IsQuiet (access_program access operand size steps to place)
access_quiet accesses.Read (Place base index) size steps to place = joined (place_program base index size steps place to) _ (place_quiet base index size steps place to) refl
access_quiet accesses.Read (Register n) size steps to place = register_quiet n size steps to
access_quiet accesses.Read _ size steps to place = refl
access_quiet accesses.Modify (Place base index) size steps to place = joined (place_program base index size steps place to) _ (place_quiet base index size steps place to) refl
access_quiet accesses.Modify (Register n) size steps to place = register_quiet n size steps to
access_quiet accesses.Modify _ size steps to place = refl
access_quiet accesses.Write (Place base index) size steps to place = place_quiet base index size steps place to
access_quiet accesses.Write _ size steps to place = refl
access_quiet accesses.Address (Place base index) size steps to place = place_quiet base index size steps to place
access_quiet accesses.Address _ size steps to place = refl
access_quiet accesses.Field (Place base index) size steps to place = place_quiet base index size steps place to
access_quiet accesses.Field (Register n) size steps to place = register_quiet n Long steps to
access_quiet accesses.Field _ size steps to place = refl
access_quiet accesses.Branch operand size steps to place = refl

pub operands_quiet : (specifiers : List Specifier) (steps : List ℕ) → IsQuiet (operands_program specifiers steps)
operands_quiet [] steps = refl
operands_quiet (s ∷ specifiers) steps =
    joined (operand_program s steps) _ (access_quiet s.access s.operand s.size steps s.to s.place) (operands_quiet specifiers (steps_behind_specifier s steps))

-- ---- commits
one_quiet : (number step : ℕ) → IsQuiet (commit_one number step)
one_quiet number step = elim (eqb_tells step 0) [ inl is ↦ rw is.0 refl | inr not ↦ rw not.0 refl ]

commits_quiet : (number : ℕ) (steps : List ℕ) → IsQuiet (commit_program number steps)
commits_quiet number [] = refl
commits_quiet number (step ∷ steps) = joined (commit_one number step) (commit_program (number + 1) steps) (one_quiet number step) (commits_quiet (number + 1) steps)

cleared_quiet : (n step mask : ℕ) → IsQuiet (cleared_program n step mask)
cleared_quiet n step mask = elim (eqb_tells step 0) [ inl is ↦ rw is.0 refl | inr not ↦ rw not.0 refl ]

give_quiet : (operand : Operand) (size : Size) (steps : List ℕ) (from : ℕ) → IsQuiet (give_program operand size steps from)
give_quiet (Register n) Byte steps from = joined (cleared_program n (get_or steps n 0) 0xFF) _ (cleared_quiet n (get_or steps n 0) 0xFF) refl
give_quiet (Register n) Word steps from = joined (cleared_program n (get_or steps n 0) 0xFFFF) _ (cleared_quiet n (get_or steps n 0) 0xFFFF) refl
give_quiet (Register n) Long steps from = refl
give_quiet (Register n) Quad steps from = refl
give_quiet _ size steps from = refl

finish_quiet : (operand : Operand) (size : Size) (steps : List ℕ) (from : ℕ) → IsQuiet (finish_program operand size steps from)
finish_quiet operand size steps from = joined (commit_program 0 (steps_left operand size steps)) _ (commits_quiet 0 (steps_left operand size steps)) (give_quiet operand size steps from)

-- ---- codes
signs_quiet : (nzv : CodeSource) → IsQuiet (signs_program nzv)
signs_quiet sources.Kept = refl
signs_quiet nzv = refl

carry_quiet : (c : CodeSource) → IsQuiet (carry_program c)
carry_quiet sources.Kept = refl
carry_quiet c = refl

made_quiet : (nzv c : CodeSource) → IsQuiet (signs_program nzv ++ carry_program c ++ Codes 6 7 (overflow_temp nzv) (carry_temp c) ∷ [])
made_quiet nzv c =
    joined (signs_program nzv ++ carry_program c) (Codes 6 7 (overflow_temp nzv) (carry_temp c) ∷ [])
    (joined (signs_program nzv) (carry_program c) (signs_quiet nzv) (carry_quiet c)) refl

-- ---- plans
pub codes_quiet : (nzv c : CodeSource) → IsQuiet (codes_program (record { nzv = nzv; c = c }))
codes_quiet sources.Kept c = refl
codes_quiet sources.Psw c = refl
codes_quiet nzv c = made_quiet nzv c

pub end_quiet : (to : Target) (steps : List ℕ) → IsQuiet (end_program to steps)
end_quiet targets.Nowhere steps = commits_quiet 0 steps
end_quiet (targets.Result operand size) steps = finish_quiet operand size steps 2
end_quiet (targets.Replacement operand size) steps = finish_quiet operand size steps 2
end_quiet targets.Stack steps = finish_quiet (Register 14) Long steps 3
