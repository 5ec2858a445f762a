-- The addresses to which control may go on from an instruction, as far as its code shows them.
-- VAX Architecture Reference Manual, "Control Instructions" and "Procedure Call Instructions".
use Rattle.std.specs.Prelude.{ℕ, ◌+◌, ◌*◌, Bool, true, false, List, [], ◌∷◌, ◌++◌, Option, option_map, nat_lt, if◌then◌else◌}
use Rattle.std.specs.List.{filter_map, range_with_len}
use Rattle.std.specs.Option.{option_map_or}
use Rattle.vax_form.specs.Grammar.{extended, wrapped}
use Rattle.vax_form.specs.Operation.{operation_at}
use Rattle.vax_form.specs.Targets.{fixed_targets, operand_of}
use Rattle.vax_form.specs.declared.instr.Instr.{Instr}
use Rattle.vax_form.specs.declared.instr.Operand.{Operand}
use Rattle.vax_form.specs.declared.instr.Operand.TheVariants.{Value}
use Rattle.vax_form.specs.declared.instr.Size.TheVariants.{Word}
use Rattle.vax_form.specs.declared.operation.LongOperation.TheVariants.{Return}
use Rattle.vax_form.specs.declared.operation.Operation.{Operation}
use Rattle.vax_form.specs.declared.operation.Operation.TheVariants.{Branch, Breakpoint, Case, Jump, Long, ReturnFromSubroutine}
use Rattle.vax_form.specs.declared.pages.Pages.{Pages}
use Rattle.vax_long.specs.CodeWord.{code_word_at}

-- ---- the address behind the instruction

-- BRB, BRW, JMP, RSB, RET, BPT and CASE never go on behind themselves
unfoldable pub falls_through : Operation → Bool
falls_through (Branch width) = false
falls_through Jump = false
falls_through ReturnFromSubroutine = false
falls_through (Long Return) = false
falls_through Breakpoint = false
falls_through (Case width) = false
falls_through _ = true

-- ---- the table of a CASE: words behind the instruction, numbered from 0 to the limit, each the displacement of its
-- target from the table

-- the target of a table's word
abbrev pub table_target : Pages → (table number : ℕ) → Option ℕ
table_target pages table number =
    option_map (λ displacement. wrapped (table + extended Word displacement)) (code_word_at pages (wrapped (table + 2 * number)))

-- the targets of a table's words, and the address behind the table
abbrev pub table_addresses : Pages → (table count : ℕ) → List ℕ
table_addresses pages table count =
    filter_map (table_target pages table) (range_with_len 0 count) ++ wrapped (table + 2 * count) ∷ []

-- a limit from this number on is not followed
abbrev pub table_limit : ℕ
table_limit = 4096

-- the addresses of a CASE whose base and limit stand in the code
abbrev pub case_addresses : Pages → (table : ℕ) → (base limit : Operand) → List ℕ
case_addresses pages table (Value base) (Value limit) =
    if nat_lt limit table_limit then table_addresses pages table (limit + 1) else []
case_addresses pages table base limit = []

-- ---- the instruction

-- the addresses that a CASE gives
unfoldable pub table_of : Pages → Instr → Operation → List ℕ
table_of pages instr (Case width) = case_addresses pages instr.after (operand_of instr 1) (operand_of instr 2)
table_of pages instr _ = []

-- the address behind it, the targets of its branch, jump or call that its operands fix, and the addresses of a CASE
abbrev pub goes_on_by : Pages → Instr → Operation → List ℕ
goes_on_by pages instr operation =
    (if falls_through operation then instr.after ∷ [] else []) ++ fixed_targets instr ++ table_of pages instr operation

-- all addresses to which the instruction goes on
unfoldable pub goes_on : Pages → Instr → List ℕ
goes_on pages instr = option_map_or (goes_on_by pages instr) (operation_at instr.opcode) []
