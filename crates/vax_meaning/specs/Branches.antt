-- Branches, jumps and subroutines.
-- VAX Architecture Reference Manual, "Control Instructions"; the entry is named at each.
use Rattle.std.specs.Prelude.{ℕ, ◌+◌, ◌*◌, ◌%◌, ◌^◌, nat_le, nat_lt, int_lt, int_le, ◌==◌, List, Bool, true, false, not, ◌&&◌, ◌||◌, if◌then◌else◌}
use Rattle.vax_form.specs.State.{SP}
use Rattle.vax_form.specs.Size.{bytes_of, size_of}
use Rattle.vax_form.specs.Script.{Script, ◌>>=◌, ◌>>◌, get, change, when◌then◌else◌}
use Rattle.vax_form.specs.declared.instr.Size.TheVariants.{Long}
use Rattle.vax_form.specs.declared.instr.Width.{Width}
use Rattle.vax_form.specs.declared.instr.Width.TheVariants as widths
use Rattle.vax_form.specs.declared.instr.Operand.{Operand}
use Rattle.vax_form.specs.declared.instr.Operand.TheVariants.{Target}
use Rattle.vax_form.specs.declared.instr.Instr.{Instr}
use Rattle.vax_form.specs.declared.operation.Condition.{Condition}
use Rattle.vax_form.specs.declared.operation.Condition.TheVariants.{NotEqual, Equal, Greater, LessOrEqual, GreaterOrEqual, Less, GreaterUnsigned, LessOrEqualUnsigned, OverflowClear, OverflowSet, CarryClear, CarrySet}
use Rattle.vax_form.specs.declared.script.End.{End}
use Rattle.vax_form.specs.declared.state.VaxState.{VaxState}
use Rattle.vt_words.specs.Values.{bit, signed_value}
use Rattle.vt_words.specs.Arithmetic.{sum_of, difference_of}
use Rattle.vt_words.specs.declared.arithmetic.Coded.{Coded}
use Rattle.vax_meaning.specs.declared.evaluation.Evaluated.{Evaluated}
use Rattle.vax_meaning.specs.Memory.{low_bytes, fetch, code_word}
use Rattle.vax_meaning.specs.Operands.{get_register, set_register, put}
use Rattle.vax_meaning.specs.Evaluation.{operand, value_of_place, location_of_place}
use Rattle.vax_meaning.specs.Codes.{with_three, carry_of, overflow_of, zero_of, negative_of, go_to, finish}
use Rattle.vax_meaning.specs.Moves.{push, with_comparison}

-- where a branch goes
abbrev pub target : Operand → ℕ
target (Target address) = address
target _ = 0

-- where it goes on: at the target of that operand, or behind the instruction
abbrev pub pc_after : Instr → (place : ℕ) → (taken : Bool) → ℕ
pc_after instr place taken = if taken then target (operand instr place) else instr.after

-- BNEQ, BEQL, BGTR, BLEQ, BGEQ, BLSS, BGTRU, BLEQU, BVC, BVS, BCC, BCS
unfoldable pub holds : Condition → VaxState → Bool
holds NotEqual state = not (zero_of state)
holds Equal state = zero_of state
holds Greater state = not (negative_of state) && not (zero_of state)
holds LessOrEqual state = negative_of state || zero_of state
holds GreaterOrEqual state = not (negative_of state)
holds Less state = negative_of state
holds GreaterUnsigned state = not (carry_of state) && not (zero_of state)
holds LessOrEqualUnsigned state = carry_of state || zero_of state
holds OverflowClear state = not (overflow_of state)
holds OverflowSet state = overflow_of state
holds CarryClear state = not (carry_of state)
holds CarrySet state = carry_of state

unfoldable pub branch_if : Instr → Condition → Script End
branch_if instr condition = do
  taken ← get (holds condition)
  go_to (pc_after instr 0 taken)

-- BRB, BRW
abbrev pub branch : Instr → Script End
branch instr = go_to (pc_after instr 0 true)

-- BLBS, BLBC
abbrev pub branch_on_low_bit : Instr → (state : Bool) → List Evaluated → Script End
branch_on_low_bit instr state values = go_to (pc_after instr 1 (value_of_place values 0 Long % 2 == bit state))

-- as signed numbers of so many bytes
abbrev pub is_at_most : (bytes a b : ℕ) → Bool
is_at_most bytes a b = int_le (signed_value bytes a) (signed_value bytes b)

abbrev pub is_less : (bytes a b : ℕ) → Bool
is_less bytes a b = int_lt (signed_value bytes a) (signed_value bytes b)

-- puts an index back with N, Z and V, and goes on at the target of a branch or behind the instruction
unfoldable pub step_index : Instr → Width → (index branch : ℕ) → Coded → (taken : Bool) → List Evaluated → Script End
step_index instr width index branch answer taken values = do
  put (location_of_place values index) (size_of width) answer.value
  change (with_three answer)
  finish (pc_after instr branch taken)

-- AOBLEQ, and AOBLSS where it is not or_equal
abbrev pub goes_up : (or_equal : Bool) → (index limit : ℕ) → Bool
goes_up or_equal index limit = if or_equal then is_at_most 4 index limit else is_less 4 index limit

-- SOBGEQ, and SOBGTR where it is not or_equal
abbrev pub goes_down : (or_equal : Bool) → (index : ℕ) → Bool
goes_down or_equal index = if or_equal then is_at_most 4 0 index else is_less 4 0 index

-- ACB: up to the limit, or with a negative addend down to it
abbrev pub goes_by : (bytes addend index limit : ℕ) → Bool
goes_by bytes addend index limit = if is_less bytes addend 0 then is_at_most bytes limit index else is_at_most bytes index limit

unfoldable pub add_one_branch : Instr → (or_equal : Bool) → List Evaluated → Script End
add_one_branch instr or_equal values = do
  let index = sum_of 4 (value_of_place values 1 Long) 1 false
  step_index instr widths.Long 1 2 index (goes_up or_equal index.value (value_of_place values 0 Long)) values

unfoldable pub subtract_one_branch : Instr → (or_equal : Bool) → List Evaluated → Script End
subtract_one_branch instr or_equal values = do
  let index = difference_of 4 (value_of_place values 0 Long) 1 false
  step_index instr widths.Long 0 1 index (goes_down or_equal index.value) values

unfoldable pub add_compare_branch : Instr → Width → List Evaluated → Script End
add_compare_branch instr width values = do
  let addend = value_of_place values 1 (size_of width)
  let index = sum_of (bytes_of (size_of width)) (value_of_place values 2 (size_of width)) addend false
  step_index instr width 2 3 index (goes_by (bytes_of (size_of width)) addend index.value (value_of_place values 0 (size_of width))) values

-- BSBB, BSBW: the address behind the instruction is pushed
abbrev pub branch_to_subroutine : Instr → Script End
branch_to_subroutine instr = do
  push instr.after
  go_to (pc_after instr 0 true)

-- JSB
abbrev pub jump_to_subroutine : Instr → List Evaluated → Script End
jump_to_subroutine instr values = do
  push instr.after
  go_to (value_of_place values 0 Long)

-- JMP
abbrev pub jump : List Evaluated → Script End
jump values = go_to (value_of_place values 0 Long)

-- RSB: pops the PC
unfoldable pub return_from_subroutine : Script End
return_from_subroutine = do
  top ← get_register SP
  pc ← fetch top 4
  set_register SP ((top + 4) % 2 ^ 32)
  go_to (low_bytes 4 pc)

-- a signed word as a longword
abbrev pub signed_word : ℕ → ℕ
signed_word word = if nat_lt word 32768 then word else word + 0xFFFF0000

-- where CASE goes: by the word of that number in the table behind the instruction, or behind the table
unfoldable pub case_to : (table difference limit : ℕ) → Script End
case_to table difference limit =
    when nat_le difference limit
    then (do
      word ← code_word ((table + 2 * difference) % 2 ^ 32)
      go_to ((table + signed_word word) % 2 ^ 32))
    else go_to ((table + 2 * (limit + 1)) % 2 ^ 32)

-- CASE: the difference of selector and base is compared with the limit
unfoldable pub case_of : Instr → Width → List Evaluated → Script End
case_of instr width values = do
  let difference = (difference_of (bytes_of (size_of width)) (value_of_place values 0 (size_of width)) (value_of_place values 1 (size_of width)) false).value
  let limit = value_of_place values 2 (size_of width)
  change (with_comparison width difference limit)
  case_to instr.after difference limit
