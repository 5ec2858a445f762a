-- The words of operands and of their commits are few.
use Rattle.std.proofs.Common.{◌≡◌, ℕ, zero, suc, ◌+◌, ◌-◌, ◌%◌, ◌^◌, ◌≤◌, Bool, true, false, eqb, List, [], ◌∷◌, ◌++◌, get_or, set, Option, Some, None, refl, arith, inl, inr, lit≤}
use Rattle.std.specs.Prelude.{min}
use Rattle.std.proofs.lemmas.Bool.Decides.{eqb_tells}
use Rattle.std.proofs.lemmas.List.Sums.{sum_by-append}
use Rattle.vax_form.specs.Size.{bytes_of}
use Rattle.vax_form.specs.declared.instr.Access.{Access}
use Rattle.vax_form.specs.declared.instr.Access.TheVariants as accesses
use Rattle.vax_form.specs.declared.instr.Base.{Base}
use Rattle.vax_form.specs.declared.instr.Base.TheVariants.{Deferred, Decrement, Increment, IncrementDeferred, Offset, Fixed}
use Rattle.vax_form.specs.declared.instr.Operand.{Operand}
use Rattle.vax_form.specs.declared.instr.Operand.TheVariants.{Unused, Value, Register, Place, Target}
use Rattle.vax_form.specs.declared.instr.Size.{Size}
use Rattle.vax_form.specs.declared.instr.Size.TheVariants.{Byte, Word, Long, Quad}
use Rattle.micro_ops.specs.Laws.{piece_words}
use Rattle.micro_ops.specs.WordCounts.{words_of}
use Rattle.micro_ops.specs.declared.program.Arg.TheVariants.{Const, Temp}
use Rattle.micro_ops.specs.declared.program.Arg.TheVariants as arguments
use Rattle.micro_ops.specs.declared.program.Micro.{Micro}
use Rattle.micro_ops.specs.declared.program.Micro.TheVariants.{Compute, Probe, Read, Commit}
use Rattle.micro_ops.specs.declared.program.MicroOp.TheVariants as ops
use Rattle.operand_programs.specs.Specifiers.{sum_into, address_program, index_program, place_program, pointer_of, steps_behind, low_bytes_program, register_program, commit_one, commit_program}
use Rattle.operand_programs.specs.Operands.{access_program, steps_behind_access, IsFor}
use Rattle.operand_programs.specs.Results.{steps_left, cleared_program, give_program, steps_behind_push}
use Rattle.operand_programs.specs.Words.{words_of_steps, place_most, access_most, operand_most, finish_most, OperandIsShort, ResultIsShort, ReplacementIsShort, PushIsShort, FinishIsShort}
use Rattle.operand_programs.specs.declared.specifiers.Pointer.{Pointer}

joined : (first second : List Micro) → piece_words (first ++ second) ≡ piece_words first + piece_words second
joined first second = sum_by-append words_of first second

-- ---- commits
one_most : (number step : ℕ) → piece_words (commit_one number step) ≤ 5
one_most number step = elim (eqb_tells step 0) [ inl is ↦ rw is.0 (lit≤ tt) | inr not ↦ rw not.0 (lit≤ tt) ]

-- a register with no step takes nothing
commits_cons : (number step : ℕ) (steps : List ℕ) → piece_words (commit_program number (step ∷ steps)) ≡ piece_words (commit_one number step) + piece_words (commit_program (number + 1) steps)
commits_cons number step steps = joined (commit_one number step) (commit_program (number + 1) steps)

-- one step more takes five words more at most
set_most : (number place step : ℕ) (steps : List ℕ) → piece_words (commit_program number (set steps place step)) ≤ 5 + piece_words (commit_program number steps)
set_most number place step [] = lit≤ tt
set_most number zero step (old ∷ steps) =
    omega (arith, commits_cons number step steps, commits_cons number old steps, one_most number step)
set_most number (suc place) step (old ∷ steps) =
    omega (arith, commits_cons number old (set steps place step), commits_cons number old steps, set_most (number + 1) place step steps)

-- a step that is taken back takes no words
clear_most : (number place : ℕ) (steps : List ℕ) → piece_words (commit_program number (set steps place 0)) ≤ piece_words (commit_program number steps)
clear_most number place [] = lit≤ tt
clear_most number zero (old ∷ steps) = omega (arith, commits_cons number old steps)
clear_most number (suc place) (old ∷ steps) =
    omega (arith, commits_cons number old (set steps place 0), commits_cons number old steps, clear_most (number + 1) place steps)

-- one step more takes none where there was a step before
set_over : (number place step : ℕ) (steps : List ℕ) → eqb (get_or steps place 0) 0 ≡ false → piece_words (commit_program number (set steps place step)) ≤ piece_words (commit_program number steps)
set_over number place step [] some = lit≤ tt
set_over number zero step (old ∷ steps) some =
    let five : piece_words (commit_one number old) ≡ 5 = rw some refl in
    omega (arith, commits_cons number step steps, commits_cons number old steps, one_most number step, five)
set_over number (suc place) step (old ∷ steps) some =
    omega (arith, commits_cons number old (set steps place step), commits_cons number old steps, set_over (number + 1) place step steps some)

-- ---- operands
sum_most : (to : ℕ) (from : Option ℕ) (offset : ℕ) → words_of (sum_into to from offset) ≤ 4
sum_most to None offset = lit≤ tt
sum_most to (Some n) offset = elim (eqb_tells offset 0) [ inl is ↦ rw is.0 (lit≤ tt) | inr not ↦ rw not.0 (lit≤ tt) ]

pointer_most : (pointer : Pointer) (place spare : ℕ) → piece_words (address_program pointer place spare) ≤ 18
pointer_most pointer place spare = by pointer.register pointer.offset pointer.deferred
  where
    by : (from : Option ℕ) (offset : ℕ) (deferred : Bool) → piece_words (address_program (record { register = from; offset = offset; deferred = deferred }) place spare) ≤ 18
    by from offset false = omega (arith, sum_most place from offset)
    by from offset true = omega (arith, sum_most spare from offset)

-- with what a base adds to its register
base_most : (base : Base) (size : ℕ) (steps : List ℕ) (place spare : ℕ)
    → piece_words (address_program (pointer_of base size steps) place spare) + words_of_steps (steps_behind base size steps) ≤ 20 + words_of_steps steps
base_most (Decrement n) size steps place spare = omega (arith, sum_most place (Some n) ((get_or steps n 0 + (2 ^ 32 - size)) % 2 ^ 32), set_most 0 n ((get_or steps n 0 + (2 ^ 32 - size)) % 2 ^ 32) steps)
base_most (Increment n) size steps place spare = omega (arith, sum_most place (Some n) (get_or steps n 0), set_most 0 n ((get_or steps n 0 + size) % 2 ^ 32) steps)
base_most (IncrementDeferred n) size steps place spare = elim (eqb_tells (get_or steps n 0) 0) [
  | inl is ↦ (let alone : words_of (sum_into spare (Some n) (get_or steps n 0)) ≡ 1 = rw is.0 refl in omega (arith, alone, set_most 0 n ((get_or steps n 0 + 4) % 2 ^ 32) steps))
  | inr not ↦ omega (arith, sum_most spare (Some n) (get_or steps n 0), set_over 0 n ((get_or steps n 0 + 4) % 2 ^ 32) steps not.0)
]
base_most (Deferred n) size steps place spare = omega (arith, pointer_most (pointer_of (Deferred n) size steps) place spare)
base_most (Offset n offset deferred) size steps place spare = omega (arith, pointer_most (pointer_of (Offset n offset deferred) size steps) place spare)
base_most (Fixed address deferred) size steps place spare = omega (arith, pointer_most (pointer_of (Fixed address deferred) size steps) place spare)

index_most : (index : Option ℕ) (size : Size) (steps : List ℕ) (place : ℕ) → piece_words (index_program index size steps place) + 18 ≤ place_most size
index_most None Byte steps place = lit≤ tt
index_most None Word steps place = lit≤ tt
index_most None Long steps place = lit≤ tt
index_most None Quad steps place = lit≤ tt
index_most (Some x) Byte steps place = omega (arith, sum_most 4 (Some x) (get_or steps x 0))
index_most (Some x) Word steps place = omega (arith, sum_most 4 (Some x) (get_or steps x 0))
index_most (Some x) Long steps place = omega (arith, sum_most 4 (Some x) (get_or steps x 0))
index_most (Some x) Quad steps place = omega (arith, sum_most 4 (Some x) (get_or steps x 0))

places_most : (base : Base) (index : Option ℕ) (size : Size) (steps : List ℕ) (place spare : ℕ)
    → piece_words (place_program base index size steps place spare) + words_of_steps (steps_behind base (bytes_of size) steps) ≤ place_most size + 2 + words_of_steps steps
places_most base index size steps place spare =
    omega (
      arith,
      joined (address_program (pointer_of base (bytes_of size) steps) place spare) (index_program index size (steps_behind base (bytes_of size) steps) place),
      base_most base (bytes_of size) steps place spare,
      index_most index size (steps_behind base (bytes_of size) steps) place,
    )

bytes_most : (n : ℕ) (size : Size) (offset to : ℕ) → words_of (Compute to ops.ZeroExtend size (arguments.Register n) (Const 0)) ≤ 2 → words_of (Compute to ops.ZeroExtend size (Temp to) (Const 0)) ≤ 2
    → piece_words (low_bytes_program n size offset to) ≤ 15
bytes_most n size offset to few few' = elim (eqb_tells offset 0) [ inl is ↦ rw is.0 (omega (arith, few)) | inr not ↦ rw not.0 (omega (arith, few')) ]

register_most : (n : ℕ) (size : Size) (steps : List ℕ) (to : ℕ) → piece_words (register_program n size steps to) ≤ 15
register_most n Byte steps to = bytes_most n Byte (get_or steps n 0) to (lit≤ tt) (lit≤ tt)
register_most n Word steps to = bytes_most n Word (get_or steps n 0) to (lit≤ tt) (lit≤ tt)
register_most n Long steps to = omega (arith, sum_most to (Some n) (get_or steps n 0))
register_most n Quad steps to = omega (arith, sum_most to (Some n) (get_or steps n 0), sum_most 4 (Some (min (n + 1) 255)) (get_or steps (min (n + 1) 255) 0))

room : (size : Size) → 24 ≤ place_most size
room Byte = lit≤ tt
room Word = lit≤ tt
room Long = lit≤ tt
room Quad = lit≤ tt

-- an operand that is checked and then read
in_memory_most : (base : Base) (index : Option ℕ) (size : Size) (steps : List ℕ) (place spare : ℕ) (more : List Micro) (words : ℕ) → piece_words more ≤ words
    → piece_words (place_program base index size steps place spare ++ more) + words_of_steps (steps_behind base (bytes_of size) steps) ≤ place_most size + words + 2 + words_of_steps steps
in_memory_most base index size steps place spare more words few =
    omega (arith, joined (place_program base index size steps place spare) more, places_most base index size steps place spare, few)

in_register_most : (n : ℕ) (size of : Size) (steps : List ℕ) (to words : ℕ) → piece_words (register_program n of steps to) + words_of_steps steps ≤ place_most size + words + 2 + words_of_steps steps
in_register_most n size of steps to words = omega (arith, register_most n of steps to, room size)

reading_most : (to place : ℕ) (size : Size) (write : Bool) → piece_words (Probe place (bytes_of size) write ∷ Read to place (bytes_of size) ∷ []) ≤ access_most size
reading_most to place Byte write = lit≤ tt
reading_most to place Word write = lit≤ tt
reading_most to place Long write = lit≤ tt
reading_most to place Quad write = lit≤ tt

value_most : (to value : ℕ) (size : Size) → piece_words (Compute to ops.Move size (Const value) (Const 0) ∷ []) ≤ 6
value_most to value Byte = lit≤ tt
value_most to value Word = lit≤ tt
value_most to value Long = lit≤ tt
value_most to value Quad = lit≤ tt

abbrev pub ShortAs : Access → Operand → Size → (steps : List ℕ) → (to place : ℕ) → Type 0
ShortAs access operand size steps to place =
    piece_words (access_program access operand size steps to place) + words_of_steps (steps_behind_access access operand size steps) ≤ operand_most access size + words_of_steps steps

pub short_as : (access : Access) (operand : Operand) (size : Size) (steps : List ℕ) (to place : ℕ) → IsFor access operand → ShortAs access operand size steps to place
short_as accesses.Read (Place base index) size steps to place is = in_memory_most base index size steps place to _ (access_most size) (reading_most to place size false)
short_as accesses.Read (Register n) size steps to place is = in_register_most n size size steps to (access_most size)
short_as accesses.Read (Value value) size steps to place is = omega (arith, value_most to value size, room size)
short_as accesses.Read Unused size steps to place is = absurd is
short_as accesses.Read (Target address) size steps to place is = absurd is
short_as accesses.Modify (Place base index) size steps to place is = in_memory_most base index size steps place to _ (access_most size) (reading_most to place size true)
short_as accesses.Modify (Register n) size steps to place is = in_register_most n size size steps to (access_most size)
short_as accesses.Modify (Value value) size steps to place is = absurd is
short_as accesses.Modify Unused size steps to place is = absurd is
short_as accesses.Modify (Target address) size steps to place is = absurd is
short_as accesses.Write (Place base index) size steps to place is = places_most base index size steps place to
short_as accesses.Write (Register n) size steps to place is = omega (arith, room size)
short_as accesses.Write (Value value) size steps to place is = absurd is
short_as accesses.Write Unused size steps to place is = absurd is
short_as accesses.Write (Target address) size steps to place is = absurd is
short_as accesses.Address (Place base index) size steps to place is = places_most base index size steps to place
short_as accesses.Address (Register n) size steps to place is = absurd is
short_as accesses.Address (Value value) size steps to place is = absurd is
short_as accesses.Address Unused size steps to place is = absurd is
short_as accesses.Address (Target address) size steps to place is = absurd is
short_as accesses.Field (Place base index) size steps to place is = places_most base index size steps place to
short_as accesses.Field (Register n) size steps to place is = omega (arith, register_most n Long steps to, room size)
short_as accesses.Field (Value value) size steps to place is = absurd is
short_as accesses.Field Unused size steps to place is = absurd is
short_as accesses.Field (Target address) size steps to place is = absurd is
short_as accesses.Branch operand size steps to place is = omega arith

pub operand_is_short : OperandIsShort
operand_is_short specifier steps placed = short_as specifier.access specifier.operand specifier.size steps specifier.to specifier.place placed.operand

-- ---- the end
left_most : (operand : Operand) (size : Size) (steps : List ℕ) → words_of_steps (steps_left operand size steps) ≤ words_of_steps steps
left_most (Register n) Byte steps = clear_most 0 n steps
left_most (Register n) Word steps = clear_most 0 n steps
left_most (Register n) Long steps = clear_most 0 n steps
left_most (Register n) Quad steps = omega (arith, clear_most 0 (min (n + 1) 255) (set steps n 0), clear_most 0 n steps)
left_most (Place base index) size steps = omega arith
left_most Unused size steps = omega arith
left_most (Value value) size steps = omega arith
left_most (Target address) size steps = omega arith

-- the low bits are joined
abbrev joined_with : (n from : ℕ) → List Micro
joined_with n from = Compute 5 ops.Or Quad (Temp 5) (Temp from) ∷ Commit n 5 ∷ []

cleared_most : (n step mask : ℕ) → piece_words (cleared_program n step mask) ≤ 8
cleared_most n step mask = elim (eqb_tells step 0) [ inl is ↦ rw is.0 (lit≤ tt) | inr not ↦ rw not.0 (lit≤ tt) ]

give_most : (operand : Operand) (size : Size) (steps : List ℕ) (from : ℕ) → piece_words (give_program operand size steps from) ≤ finish_most operand
give_most (Register n) Byte steps from = omega (arith, joined (cleared_program n (get_or steps n 0) 0xFF) (joined_with n from), cleared_most n (get_or steps n 0) 0xFF)
give_most (Register n) Word steps from = omega (arith, joined (cleared_program n (get_or steps n 0) 0xFFFF) (joined_with n from), cleared_most n (get_or steps n 0) 0xFFFF)
give_most (Register n) Long steps from = lit≤ tt
give_most (Register n) Quad steps from = lit≤ tt
give_most (Place base index) size steps from = lit≤ tt
give_most Unused size steps from = lit≤ tt
give_most (Value value) size steps from = lit≤ tt
give_most (Target address) size steps from = lit≤ tt

pub finish_is_short : FinishIsShort
finish_is_short operand size steps from =
    omega (arith, joined (commit_program 0 (steps_left operand size steps)) (give_program operand size steps from), left_most operand size steps, give_most operand size steps from)

-- ---- results
pub result_is_short : ResultIsShort
result_is_short (Place base index) Byte place from = refl
result_is_short (Place base index) Word place from = refl
result_is_short (Place base index) Long place from = refl
result_is_short (Place base index) Quad place from = refl
result_is_short Unused size place from = refl
result_is_short (Value value) size place from = refl
result_is_short (Register n) size place from = refl
result_is_short (Target address) size place from = refl

pub replacement_is_short : ReplacementIsShort
replacement_is_short (Place base index) Byte place from = refl
replacement_is_short (Place base index) Word place from = refl
replacement_is_short (Place base index) Long place from = refl
replacement_is_short (Place base index) Quad place from = refl
replacement_is_short Unused size place from = refl
replacement_is_short (Value value) size place from = refl
replacement_is_short (Register n) size place from = refl
replacement_is_short (Target address) size place from = refl

pub push_is_short : PushIsShort
push_is_short steps place from =
    omega (arith, sum_most place (Some 14) (get_or (steps_behind_push steps) 14 0), set_most 0 14 ((get_or steps 14 0 + (2 ^ 32 - 4)) % 2 ^ 32) steps)
