-- Branches, jumps and subroutines.
use Rattle.std.proofs.Common.{ℕ, ◌*◌, ◌+◌, ◌%◌, ◌^◌, ◌==◌, Bool, true, false, arith, List}
use Rattle.vax_form.specs.Size.{bytes_of, size_of}
use Rattle.vax_form.specs.declared.instr.Size.TheVariants.{Long}
use Rattle.vax_form.specs.declared.instr.Width.{Width}
use Rattle.vax_form.specs.declared.instr.Width.TheVariants as widths
use Rattle.vax_form.specs.declared.instr.Instr.{Instr}
use Rattle.vax_form.specs.declared.operation.Condition.{Condition}
use Rattle.vt_words.specs.Values.{bit}
use Rattle.vt_words.specs.Arithmetic.{sum_of, difference_of}
use Rattle.vt_words.specs.declared.arithmetic.Coded.{Coded}
use Rattle.vax_meaning.specs.declared.evaluation.Evaluated.{Evaluated}
use Rattle.vax_meaning.specs.Evaluation.{value_of_place, location_of_place}
use Rattle.vax_meaning.specs.Branches.{pc_after, branch_if, branch, branch_on_low_bit, goes_up, goes_down, goes_by, step_index, add_one_branch, subtract_one_branch, add_compare_branch, branch_to_subroutine, jump_to_subroutine, jump, return_from_subroutine, signed_word, case_to, case_of}
use Rattle.vax_form.specs.declared.pages.Pages.{Pages}
use Rattle.image_meaning.proofs.Keeping.{Keeps, Any, keep_bind, keep_then, keep_either, keep_get}
use Rattle.image_meaning.proofs.States.{low_longword}
use Rattle.image_meaning.proofs.Memory.{keep_fetch, keep_code_word}
use Rattle.image_meaning.proofs.Operands.{Writable, width_fits, keep_get_register, keep_set_register, keep_put}
use Rattle.image_meaning.proofs.Evaluations.{FitsValues}
use Rattle.image_meaning.proofs.Codes.{FitsInstr, keep_three, keep_comparison, keep_go_to, keep_finish, pc_after_is}
use Rattle.image_meaning.proofs.Moves.{keep_push}

pub keep_branch_if : {pages : Pages} {w : Bool} (instr : Instr) (condition : Condition) → FitsInstr instr → Keeps pages w w Any (branch_if instr condition)
unfolding branch_if
keep_branch_if instr condition fits = keep_bind {P = Any} (keep_get (λ state is. tt)) (λ taken _. keep_go_to (pc_after instr 0 taken) (pc_after_is instr 0 taken fits))

pub keep_branch : {pages : Pages} {w : Bool} (instr : Instr) → FitsInstr instr → Keeps pages w w Any (branch instr)
keep_branch instr fits = keep_go_to (pc_after instr 0 true) (pc_after_is instr 0 true fits)

pub keep_branch_on_low_bit : {pages : Pages} {w : Bool} (instr : Instr) (state : Bool) (values : List Evaluated) → FitsInstr instr → Keeps pages w w Any (branch_on_low_bit instr state values)
keep_branch_on_low_bit instr state values fits =
    let taken = value_of_place values 0 Long % 2 == bit state in keep_go_to (pc_after instr 1 taken) (pc_after_is instr 1 taken fits)

keep_step_index : {pages : Pages} {w : Bool} (instr : Instr) (width : Width) (index branch : ℕ) (answer : Coded) (taken : Bool) (values : List Evaluated) → FitsInstr instr → FitsValues values
    → Writable pages (location_of_place values index) (size_of width) → Keeps pages w true Any (step_index instr width index branch answer taken values)
unfolding step_index
keep_step_index instr width index branch answer taken values fits all may =
    keep_then (keep_put (location_of_place values index) (size_of width) answer.value (all index) (width_fits width answer.value) may)
    (keep_then (keep_three answer) (keep_finish (pc_after instr branch taken) (pc_after_is instr branch taken fits)))

pub keep_add_one_branch : {pages : Pages} (instr : Instr) (or_equal : Bool) (values : List Evaluated) → FitsInstr instr → FitsValues values
    → Writable pages (location_of_place values 1) Long → Keeps pages false true Any (add_one_branch instr or_equal values)
unfolding add_one_branch
keep_add_one_branch instr or_equal values fits all may =
    let index = sum_of 4 (value_of_place values 1 Long) 1 false in
    keep_step_index instr widths.Long 1 2 index (goes_up or_equal index.value (value_of_place values 0 Long)) values fits all may

pub keep_subtract_one_branch : {pages : Pages} (instr : Instr) (or_equal : Bool) (values : List Evaluated) → FitsInstr instr → FitsValues values
    → Writable pages (location_of_place values 0) Long → Keeps pages false true Any (subtract_one_branch instr or_equal values)
unfolding subtract_one_branch
keep_subtract_one_branch instr or_equal values fits all may =
    let index = difference_of 4 (value_of_place values 0 Long) 1 false in
    keep_step_index instr widths.Long 0 1 index (goes_down or_equal index.value) values fits all may

pub keep_add_compare_branch : {pages : Pages} (instr : Instr) (width : Width) (values : List Evaluated) → FitsInstr instr → FitsValues values
    → Writable pages (location_of_place values 2) (size_of width) → Keeps pages false true Any (add_compare_branch instr width values)
unfolding add_compare_branch
keep_add_compare_branch instr width values fits all may =
    let addend = value_of_place values 1 (size_of width) in
    let index = sum_of (bytes_of (size_of width)) (value_of_place values 2 (size_of width)) addend false in
    keep_step_index instr width 2 3 index (goes_by (bytes_of (size_of width)) addend index.value (value_of_place values 0 (size_of width))) values fits all may

pub keep_branch_to_subroutine : {pages : Pages} (instr : Instr) → FitsInstr instr → Keeps pages false true Any (branch_to_subroutine instr)
keep_branch_to_subroutine instr fits = keep_then (keep_push instr.after) (keep_go_to (pc_after instr 0 true) (pc_after_is instr 0 true fits))

pub keep_jump_to_subroutine : {pages : Pages} (instr : Instr) (values : List Evaluated) → Keeps pages false true Any (jump_to_subroutine instr values)
keep_jump_to_subroutine instr values = keep_then (keep_push instr.after) (keep_go_to (value_of_place values 0 Long) (low_longword _))

pub keep_jump : {pages : Pages} {w : Bool} (values : List Evaluated) → Keeps pages w w Any (jump values)
keep_jump values = keep_go_to (value_of_place values 0 Long) (low_longword _)

pub keep_return_from_subroutine : {pages : Pages} {w : Bool} → Keeps pages w w Any return_from_subroutine
unfolding return_from_subroutine
keep_return_from_subroutine =
    keep_bind (keep_get_register 14) (λ top is. keep_bind (keep_fetch top 4 is (omega arith) (omega arith)) (λ pc _.
    keep_then (keep_set_register 14 _ (low_longword (top + 4))) (keep_go_to _ (low_longword pc))))

keep_case_to : {pages : Pages} {w : Bool} (table difference limit : ℕ) → Keeps pages w w Any (case_to table difference limit)
unfolding case_to
keep_case_to table difference limit =
    keep_either
    (keep_bind (keep_code_word ((table + 2 * difference) % 2 ^ 32)) (λ word _. keep_go_to _ (low_longword (table + signed_word word))))
    (keep_go_to _ (low_longword (table + 2 * (limit + 1))))

pub keep_case_of : {pages : Pages} {w : Bool} (instr : Instr) (width : Width) (values : List Evaluated) → Keeps pages w w Any (case_of instr width values)
unfolding case_of
keep_case_of instr width values =
    let difference = (difference_of (bytes_of (size_of width)) (value_of_place values 0 (size_of width)) (value_of_place values 1 (size_of width)) false).value in
    let limit = value_of_place values 2 (size_of width) in
    keep_then (keep_comparison width difference limit) (keep_case_to instr.after difference limit)
