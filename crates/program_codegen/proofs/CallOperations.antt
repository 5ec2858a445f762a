-- The operations of the programs of a call: those that evaluate its operands, and those that commit what they added.
use Rattle.std.proofs.Common.{◌≡◌, ℕ, ◌+◌, ◌-◌, ◌*◌, ◌%◌, ◌^◌, ◌≤◌, refl, ◌∙◌, arith, List, [], ◌∷◌, ◌++◌, length, Option, Some, None, Bool, true, false, lit<, lit≤}
use Rattle.std.specs.Prelude.{◌==◌, ◌&&◌, ◌||◌, not, slice_index, if◌then◌else◌}
use Rattle.std.specs.List.{list_all, list_any}
use Rattle.std.proofs.lemmas.Bool.{and_parts}
use Rattle.std.proofs.lemmas.List.Folds.{list_all-append}
use Rattle.vax_form.specs.Size.{bytes_of}
use Rattle.vax_form.specs.declared.instr.Base.{Base}
use Rattle.vax_form.specs.declared.instr.Operand.{Operand}
use Rattle.vax_form.specs.declared.instr.Operand.TheVariants as operands
use Rattle.vax_form.specs.declared.instr.Size.{Size}
use Rattle.vax_form.specs.declared.instr.Size.TheVariants.{Byte, Word, Long, Quad}
use Rattle.micro_ops.specs.Laws.{IsLowPiece, piece_words}
use Rattle.micro_ops.specs.LeftOut.{is_low}
use Rattle.micro_ops.specs.WordCounts.{words_of}
use Rattle.micro_ops.specs.Uses.{has_bytes, is_flag, is_unary, reads_flag}
use Rattle.micro_ops.specs.declared.program.Arg.{Arg}
use Rattle.micro_ops.specs.declared.program.Arg.TheVariants as arguments
use Rattle.micro_ops.specs.declared.program.Micro.{Micro}
use Rattle.micro_ops.specs.declared.program.Micro.TheVariants.{Compute, Probe, Refuse, Read, Write, Locked, Commit, Codes, SetPsw, Leave}
use Rattle.micro_ops.specs.declared.program.MicroOp.TheVariants as ops
use Rattle.micro_ops.proofs.Walks.{words_joined}
use Rattle.operand_programs.specs.InOrder.{no_steps}
use Rattle.operand_programs.specs.Operands.{IsPlaced, operand_program, steps_behind_specifier}
use Rattle.operand_programs.specs.Specifiers.{address_program, commit_one, commit_program, index_program, locate_program, place_program, pointer_of, read_program, steps_behind, sum_into}
use Rattle.operand_programs.specs.Words.{operand_most, words_of_steps}
use Rattle.operand_programs.specs.declared.specifiers.Pointer.{Pointer}
use Rattle.operand_programs.proofs.Low.{joined_low, operand_is_low, commits_are_low}
use Rattle.operand_programs.proofs.Short.{operand_is_short}
use Rattle.program_codegen.specs.declared.calls.Call.{Call}
use Rattle.program_codegen.specs.Calls.{argument_temp, count_check, first_specifier, front_program, list_program, list_specifier, steps_left}
use Rattle.program_codegen.proofs.Going.{goes}

-- ---- kinds of operations
abbrev pub is_flagless : Arg → Bool
is_flagless (arguments.Flag number) = false
is_flagless arg = true

abbrev pub is_low_sum : (to : ℕ) (a b : Arg) → Bool
is_low_sum to a b = is_low to && is_flagless a && is_flagless b

-- computes, checks or reads, and takes no flag
abbrev pub is_evaluation : Micro → Bool
is_evaluation (Compute to op size a b) = is_low_sum to a b
is_evaluation (Probe place count write) = true
is_evaluation (Read to place count) = true
is_evaluation operation = false

-- computes or commits, and takes no flag
abbrev pub is_commitment : Micro → Bool
is_commitment (Compute to op size a b) = is_low_sum to a b
is_commitment (Commit register source) = true
is_commitment operation = false

-- of either kind
abbrev pub is_either : Micro → Bool
is_either operation = is_evaluation operation || is_commitment operation

pub all_of : (P Q : Micro → Bool) → ((operation : Micro) → P operation ≡ true → Q operation ≡ true) → (program : List Micro) → list_all P program ≡ true → list_all Q program ≡ true
all_of P Q each [] all = refl
all_of P Q each (operation ∷ program) all =
    let x = and_parts (P operation) (list_all P program) all in
    rw (each operation x.0, all_of P Q each program x.1) refl

pub evaluation_either : (operation : Micro) → is_evaluation operation ≡ true → is_either operation ≡ true
evaluation_either operation is = rw is refl

pub commitment_either : (operation : Micro) → is_commitment operation ≡ true → is_either operation ≡ true
commitment_either operation is = by (is_evaluation operation) is
  where
    by : (b : Bool) → is_commitment operation ≡ true → (b || is_commitment operation) ≡ true
    by true is = refl
    by false is = is

same_or : (b : Bool) → (b || b) ≡ true → b ≡ true
same_or true e = refl
same_or false e = absurd (cc e)

pub either_goes : (operation : Micro) → is_either operation ≡ true → goes operation ≡ true
either_goes (Compute to op size a b) is = (and_parts (is_low to) (is_flagless a) (and_parts (is_low to && is_flagless a) (is_flagless b) (same_or (is_low_sum to a b) is)).0).0
either_goes (Probe place count write) is = refl
either_goes (Read to place count) is = refl
either_goes (Commit register source) is = refl
either_goes (Refuse when) is = absurd (cc is)
either_goes (Write place count source) is = absurd (cc is)
either_goes (Locked to place kind source) is = absurd (cc is)
either_goes (Codes n z v c) is = absurd (cc is)
either_goes (SetPsw source) is = absurd (cc is)
either_goes (Leave exit) is = absurd (cc is)

pub either_sized : (operation : Micro) → is_either operation ≡ true → has_bytes 4 operation ≡ true
either_sized (Compute to op size a b) is = refl
either_sized (Probe place count write) is = refl
either_sized (Read to place count) is = refl
either_sized (Commit register source) is = refl
either_sized (Refuse when) is = refl
either_sized (Write place count source) is = absurd (cc is)
either_sized (Locked to place kind source) is = refl
either_sized (Codes n z v c) is = refl
either_sized (SetPsw source) is = refl
either_sized (Leave exit) is = refl

no_flag : (flag : ℕ) (arg : Arg) → is_flagless arg ≡ true → is_flag flag arg ≡ false
no_flag flag (arguments.Temp number) is = refl
no_flag flag (arguments.Register number) is = refl
no_flag flag (arguments.Flag number) is = absurd (cc is)
no_flag flag (arguments.Const value) is = refl

neither : (unary : Bool) → (false || (not unary && false)) ≡ false
neither true = refl
neither false = refl

either_reads : (flag : ℕ) (operation : Micro) → is_either operation ≡ true → reads_flag flag operation ≡ false
either_reads flag (Compute to op size a b) is =
    let x = and_parts (is_low to && is_flagless a) (is_flagless b) (same_or (is_low_sum to a b) is) in
    let y = and_parts (is_low to) (is_flagless a) x.0 in
    rw (no_flag flag a y.1, no_flag flag b x.1) (neither (is_unary op))
either_reads flag operation is = refl

pub reads_none : (flag : ℕ) (program : List Micro) → list_all is_either program ≡ true → list_any (reads_flag flag) program ≡ false
reads_none flag [] all = refl
reads_none flag (operation ∷ program) all =
    let x = and_parts (is_either operation) (list_all is_either program) all in
    rw (either_reads flag operation x.0, reads_none flag program x.1) refl

-- ---- operands
pub joined : (P : Micro → Bool) (xs ys : List Micro) → list_all P xs ≡ true → list_all P ys ≡ true → list_all P (xs ++ ys) ≡ true
joined P xs ys a b = list_all-append P xs ys ∙ rw (a, b) refl

pub sum_is : (to : ℕ) (register : Option ℕ) (offset : ℕ) → is_low to ≡ true → is_evaluation (sum_into to register offset) ≡ true
sum_is to None offset low = rw low refl
sum_is to (Some n) offset low = by (offset == 0)
  where
    by : (b : Bool) → is_evaluation (if b then Compute to ops.Move Long (arguments.Register n) (arguments.Const 0) else Compute to ops.Add Long (arguments.Register n) (arguments.Const offset)) ≡ true
    by true = rw low refl
    by false = rw low refl

address_is : (pointer : Pointer) (place spare : ℕ) → is_low place ≡ true → is_low spare ≡ true → list_all is_evaluation (address_program pointer place spare) ≡ true
address_is pointer place spare low spare_low = by pointer.deferred
  where
    by : (b : Bool)
        → list_all is_evaluation
        (if b then sum_into spare pointer.register pointer.offset ∷ Probe spare 4 false ∷ Read place spare 4 ∷ [] else sum_into place pointer.register pointer.offset ∷ []) ≡ true
    by true = rw (sum_is spare pointer.register pointer.offset spare_low) refl
    by false = rw (sum_is place pointer.register pointer.offset low) refl

index_is : (index : Option ℕ) (size : Size) (steps : List ℕ) (place : ℕ) → is_low place ≡ true → list_all is_evaluation (index_program index size steps place) ≡ true
index_is None size steps place low = refl
index_is (Some x) Byte steps place low = rw (sum_is 4 (Some x) (slice_index steps x) refl, low) refl
index_is (Some x) Word steps place low = rw (sum_is 4 (Some x) (slice_index steps x) refl, low) refl
index_is (Some x) Long steps place low = rw (sum_is 4 (Some x) (slice_index steps x) refl, low) refl
index_is (Some x) Quad steps place low = rw (sum_is 4 (Some x) (slice_index steps x) refl, low) refl

pub place_is : (base : Base) (index : Option ℕ) (size : Size) (steps : List ℕ) (place spare : ℕ) → is_low place ≡ true → is_low spare ≡ true → list_all is_evaluation (place_program base index size steps place spare) ≡ true
place_is base index size steps place spare low spare_low =
    joined is_evaluation (address_program (pointer_of base (bytes_of size) steps) place spare) (index_program index size (steps_behind base (bytes_of size) steps) place)
    (address_is (pointer_of base (bytes_of size) steps) place spare low spare_low) (index_is index size (steps_behind base (bytes_of size) steps) place low)

read_is : (operand : Operand) (steps : List ℕ) → list_all is_evaluation (read_program operand Long steps 0 1) ≡ true
read_is (operands.Value value) steps = refl
read_is (operands.Register n) steps = rw (sum_is 0 (Some n) (slice_index steps n) refl) refl
read_is (operands.Place base index) steps = joined is_evaluation (place_program base index Long steps 1 0) (Probe 1 4 false ∷ Read 0 1 4 ∷ []) (place_is base index Long steps 1 0 refl refl) refl
read_is operands.Unused steps = refl
read_is (operands.Target address) steps = refl

locate_is : (operand : Operand) (steps : List ℕ) → list_all is_evaluation (locate_program operand Byte steps 0 1) ≡ true
locate_is (operands.Value value) steps = refl
locate_is (operands.Register n) steps = refl
locate_is (operands.Place base index) steps = place_is base index Byte steps 0 1 refl refl
locate_is operands.Unused steps = refl
locate_is (operands.Target address) steps = refl

-- ---- the front
abbrev first_program : (stack : Bool) → Operand → List Micro
first_program stack first = operand_program (first_specifier stack first) no_steps

first_is : (stack : Bool) (first : Operand) → list_all is_evaluation (first_program stack first) ≡ true
first_is true first = read_is first no_steps
first_is false first = locate_is first no_steps

abbrev list_part : (stack : Bool) → (steps : List ℕ) → List Micro
list_part stack steps = operand_program (list_specifier stack) steps ++ []

list_is : (stack : Bool) (steps : List ℕ) → list_all is_evaluation (list_part stack steps) ≡ true
list_is true steps = rw (sum_is 2 (Some 14) ((slice_index steps 14 + (2 ^ 32 - 4)) % 2 ^ 32) refl) refl
list_is false steps = rw (sum_is 2 (Some 14) (slice_index steps 14) refl) refl

check_is : (stack : Bool) → list_all is_evaluation (count_check stack) ≡ true
check_is true = refl
check_is false = refl

pub front_is : (call : Call) → list_all is_evaluation (front_program call) ≡ true
front_is call =
    let steps = steps_behind_specifier (first_specifier call.stack call.first) no_steps in
    joined is_evaluation (first_program call.stack call.first ++ list_part call.stack steps) (count_check call.stack)
    (joined is_evaluation (first_program call.stack call.first) (list_part call.stack steps) (first_is call.stack call.first) (list_is call.stack steps)) (check_is call.stack)

pub list_placed : (stack : Bool) → IsPlaced (list_specifier stack)
list_placed true = record { operand = tt; to = lit< tt; place = lit< tt; apart = refl }
list_placed false = record { operand = tt; to = lit< tt; place = lit< tt; apart = refl }

check_low : (stack : Bool) → IsLowPiece (count_check stack)
check_low true = refl
check_low false = refl

pub front_is_low : (call : Call) → IsPlaced (first_specifier call.stack call.first) → IsLowPiece (front_program call)
front_is_low call placed =
    let steps = steps_behind_specifier (first_specifier call.stack call.first) no_steps in
    joined_low (first_program call.stack call.first ++ list_part call.stack steps) (count_check call.stack)
    (joined_low (first_program call.stack call.first) (list_part call.stack steps) (operand_is_low (first_specifier call.stack call.first) no_steps placed)
    (joined_low (operand_program (list_specifier call.stack) steps) [] (operand_is_low (list_specifier call.stack) steps (list_placed call.stack)) refl)) (check_low call.stack)

first_most : (stack : Bool) (first : Operand) → operand_most (first_specifier stack first).access (first_specifier stack first).size ≤ 43
first_most true first = lit≤ tt
first_most false first = lit≤ tt

sum_short : (to n offset : ℕ) → words_of (sum_into to (Some n) offset) ≤ 4
sum_short to n offset = by (offset == 0)
  where
    by : (b : Bool) → words_of (if b then Compute to ops.Move Long (arguments.Register n) (arguments.Const 0) else Compute to ops.Add Long (arguments.Register n) (arguments.Const offset)) ≤ 4
    by true = lit≤ tt
    by false = lit≤ tt

list_short : (stack : Bool) (steps : List ℕ) → piece_words (list_part stack steps) ≤ 4
list_short true steps = let few = sum_short 2 14 ((slice_index steps 14 + (2 ^ 32 - 4)) % 2 ^ 32) in omega arith
list_short false steps = let few = sum_short 2 14 (slice_index steps 14) in omega arith

check_short : (stack : Bool) → piece_words (count_check stack) ≤ 2
check_short true = lit≤ tt
check_short false = lit≤ tt

pub front_is_short : (call : Call) → IsPlaced (first_specifier call.stack call.first) → piece_words (front_program call) ≤ 49
front_is_short call placed =
    let steps = steps_behind_specifier (first_specifier call.stack call.first) no_steps in
    let first = operand_is_short (first_specifier call.stack call.first) no_steps placed in
    let first_le = first_most call.stack call.first in
    let list_le = list_short call.stack steps in
    let check_le = check_short call.stack in
    let a = words_joined (first_program call.stack call.first ++ list_part call.stack steps) (count_check call.stack) in
    let b = words_joined (first_program call.stack call.first) (list_part call.stack steps) in
    let none : words_of_steps no_steps ≡ 0 = refl in
    omega arith

-- ---- commits
commit_is : (number step : ℕ) → list_all is_commitment (commit_one number step) ≡ true
commit_is number step = by (step == 0)
  where
    by : (b : Bool) → list_all is_commitment (if b then [] else Compute 5 ops.Add Long (arguments.Register number) (arguments.Const step) ∷ Commit number 5 ∷ []) ≡ true
    by true = refl
    by false = refl

commits_are : (number : ℕ) (steps : List ℕ) → list_all is_commitment (commit_program number steps) ≡ true
commits_are number [] = refl
commits_are number (step ∷ steps) = joined is_commitment (commit_one number step) (commit_program (number + 1) steps) (commit_is number step) (commits_are (number + 1) steps)

pub list_commits : (stack : Bool) (steps : List ℕ) → list_all is_commitment (list_program stack steps) ≡ true
list_commits stack steps = joined is_commitment (commit_program 0 (steps_left steps)) (Commit 12 (argument_temp stack) ∷ []) (commits_are 0 (steps_left steps)) refl

pub list_is_low : (stack : Bool) (steps : List ℕ) → IsLowPiece (list_program stack steps)
list_is_low stack steps = joined_low (commit_program 0 (steps_left steps)) (Commit 12 (argument_temp stack) ∷ []) (commits_are_low (steps_left steps)) (by stack)
  where
    by : (b : Bool) → IsLowPiece (Commit 12 (argument_temp b) ∷ [])
    by true = refl
    by false = refl

commit_short : (number step : ℕ) → piece_words (commit_one number step) ≤ 5
commit_short number step = by (step == 0)
  where
    by : (b : Bool) → piece_words (if b then [] else Compute 5 ops.Add Long (arguments.Register number) (arguments.Const step) ∷ Commit number 5 ∷ []) ≤ 5
    by true = lit≤ tt
    by false = lit≤ tt

commits_short : (number : ℕ) (steps : List ℕ) → piece_words (commit_program number steps) ≤ 5 * length steps
commits_short number [] = lit≤ tt
commits_short number (step ∷ steps) =
    let here = commit_short number step in
    let rest = commits_short (number + 1) steps in
    let both = words_joined (commit_one number step) (commit_program (number + 1) steps) in
    omega arith

pub list_is_short : (stack : Bool) (steps : List ℕ) → length (steps_left steps) ≡ 15 → piece_words (list_program stack steps) ≤ 76
list_is_short stack steps fifteen =
    let most = commits_short 0 (steps_left steps) in
    let both = words_joined (commit_program 0 (steps_left steps)) (Commit 12 (argument_temp stack) ∷ []) in
    let last : piece_words (Commit 12 (argument_temp stack) ∷ []) ≡ 1 = refl in
    omega arith
