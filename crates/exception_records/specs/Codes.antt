-- The condition codes that a rule gives for its operands.
-- VAX Architecture Reference Manual, "Integer Arithmetic and Logical Instructions": the codes of MOV, TST, ADD, SUB
-- and CMP.
use Rattle.std.specs.Prelude.{ℕ, ◌*◌, ◌%◌, ◌^◌, ◌==◌, Bool, true, false, nat_lt, int_lt}
use Rattle.vt_words.specs.Values.{signed_value}
use Rattle.vt_words.specs.Arithmetic.{coded_value, sum_of, difference_of}
use Rattle.vt_words.specs.declared.arithmetic.Coded.{Coded}
use Rattle.vax_form.specs.Codes.{codes, none}
use Rattle.vax_form.specs.Size.{bytes_of}
use Rattle.vax_form.specs.declared.instr.Size.{Size}
use Rattle.vax_form.specs.declared.state.Flags.{Flags}
use Rattle.exception_records.specs.declared.rules.CodeRule.{CodeRule}
use Rattle.exception_records.specs.declared.rules.CodeRule.TheVariants.{Ready, Zero, Result, Add, Sub, Compare}
use Rattle.exception_records.specs.declared.rules.Rules.{Rules}

-- an operand is the low bytes of its register
abbrev pub low : Size → (value : ℕ) → ℕ
low size value = value % 2 ^ (8 * bytes_of size)

-- the condition codes of a result
abbrev pub codes_of : Coded → Flags
codes_of coded = codes coded.n coded.z coded.v coded.c

-- MOV, TST: N and Z are by the value, and V is 0
abbrev pub result_codes : Size → (value : ℕ) → Flags
result_codes size value = codes_of (coded_value (bytes_of size) value false false)

-- ADD: V is integer overflow, and C is the carry out of the sum
abbrev pub sum_codes : Size → (first second : ℕ) → Flags
sum_codes size first second = codes_of (sum_of (bytes_of size) first second false)

-- SUB: V is integer overflow, and C is the borrow of the difference
abbrev pub difference_codes : Size → (first second : ℕ) → Flags
difference_codes size first second = codes_of (difference_of (bytes_of size) first second false)

-- CMP: N compares as signed numbers, C as unsigned ones, and V is 0
abbrev pub comparison_codes : Size → (first second : ℕ) → Flags
comparison_codes size first second =
    codes (int_lt (signed_value (bytes_of size) first) (signed_value (bytes_of size) second)) (first == second) false (nat_lt first second)

-- what a rule gives for what the registers of its operands hold; a code that is ready has no operands
abbrev pub codes_by : CodeRule → (first second : ℕ) → Flags
codes_by Ready first second = none
codes_by Zero first second = none
codes_by (Result size) first second = result_codes size (low size first)
codes_by (Add size) first second = sum_codes size (low size first) (low size second)
codes_by (Sub size) first second = difference_codes size (low size first) (low size second)
codes_by (Compare size) first second = comparison_codes size (low size first) (low size second)

-- a code that is ready stands in its register, whether it is held there or not
abbrev pub is_ready : CodeRule → Bool
is_ready Ready = true
is_ready Zero = false
is_ready (Result size) = false
is_ready (Add size) = false
is_ready (Sub size) = false
is_ready (Compare size) = false

-- each code is in its register
abbrev pub all_ready : Rules
all_ready = record { n = Ready; z = Ready; v = Ready; c = Ready }
