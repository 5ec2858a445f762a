-- The words of the block of MOVC3: its operands, the checks of both strings, the state behind it, and a loop that moves the
-- bytes. Nothing that a boundary shows is written before the last check, and nothing faults behind it.
-- VAX Architecture Reference Manual, "Character String Instructions".
use Rattle.std.specs.Prelude.{ℕ, pos, negsuc, zero, suc, ◌+◌, ◌-◌, ◌%◌, ◌^◌, ◌==◌, Bool, true, false, List, [], ◌∷◌, ◌++◌, length, map, nat_lt, slice_index, if◌then◌else◌}
use Rattle.vax_form.specs.Targets.{operand_of}
use Rattle.vax_form.specs.declared.instr.Access.TheVariants.{Read, Address}
use Rattle.vax_form.specs.declared.instr.Instr.{Instr}
use Rattle.vax_form.specs.declared.instr.Operand.{Operand}
use Rattle.vax_form.specs.declared.instr.Size.TheVariants.{Byte, Word}
use Rattle.vax_form.specs.declared.operation.LongOperation.TheVariants.{MoveCharacters}
use Rattle.alpha_encode.specs.Calls.{PROBE}
use Rattle.alpha_encode.specs.Registers.{NEGATIVE, IS_ZERO, OVERFLOW, CARRY, ADDRESS, RULE_FIRST, ZERO}
use Rattle.alpha_encode.specs.declared.instr.AlphaInstr.{AlphaInstr}
use Rattle.alpha_encode.specs.declared.instr.AlphaInstr.TheVariants.{Branch, Operate, Pal}
use Rattle.alpha_encode.specs.declared.instr.BranchOp.TheVariants.{Beq, Bne}
use Rattle.alpha_encode.specs.declared.instr.OperateOp.TheVariants.{Addl, Subl, Addq, Subq, Bis, Cmpule}
use Rattle.alpha_encode.specs.declared.instr.Second.TheVariants.{Literal, Register}
use Rattle.exception_records.specs.Blocks.{BlockValue}
use Rattle.exception_records.specs.Codes.{all_ready}
use Rattle.exception_records.specs.declared.rules.Rules.{Rules}
use Rattle.micro_ops.specs.Sources.{sources_of_long}
use Rattle.micro_ops.specs.declared.program.Micro.{Micro}
use Rattle.operand_programs.specs.InOrder.{operands_program, steps_behind_all, no_steps}
use Rattle.operand_programs.specs.declared.operands.Specifier.{Specifier}
use Rattle.program_codegen.specs.declared.lines.Line.{Line}
use Rattle.program_codegen.specs.declared.points.Site.{Site}
use Rattle.program_codegen.specs.Words.{plain, marked, holder, copy, probing, point_of, exit_lines, read_by, write_by, program_lines, with_first, block_of, site_of}

-- ---- temporaries
-- the bytes that are left
abbrev pub length_temp : ℕ
length_temp = 0

-- the addresses of the byte that is read next, and of that to which it goes
abbrev pub source_temp : ℕ
source_temp = 1

abbrev pub destination_temp : ℕ
destination_temp = 2

-- the byte
abbrev pub byte_temp : ℕ
byte_temp = 3

-- what is added to both addresses behind each byte stands in the register of a rule's operand: behind the block all rules
-- are ready
abbrev pub stride_register : ℕ
stride_register = RULE_FIRST

-- ---- operands
abbrev pub length_specifier : Operand → Specifier
length_specifier operand = record { access = Read; size = Word; operand = operand; to = length_temp; place = source_temp }

abbrev pub source_specifier : Operand → Specifier
source_specifier operand = record { access = Address; size = Byte; operand = operand; to = source_temp; place = destination_temp }

abbrev pub destination_specifier : Operand → Specifier
destination_specifier operand = record { access = Address; size = Byte; operand = operand; to = destination_temp; place = byte_temp }

abbrev pub specifiers_of : Instr → List Specifier
specifiers_of instr =
    length_specifier (operand_of instr 0) ∷ source_specifier (operand_of instr 1) ∷ destination_specifier (operand_of instr 2) ∷ []

abbrev pub operands_of : Instr → List Micro
operands_of instr = operands_program (specifiers_of instr) no_steps

-- what the operands add to the registers
abbrev pub steps_of : Instr → List ℕ
steps_of instr = steps_behind_all (specifiers_of instr) no_steps

-- ---- the checks
-- of as many bytes as the first temporary says
abbrev pub string_check : Site → (temp : ℕ) → (write : Bool) → List Line
string_check site temp write = plain (copy (holder temp) ADDRESS) ∷ marked (Pal PROBE) (probing site 0 write) ∷ []

-- ---- the state behind
-- a step is a few bytes up or down
abbrev pub step_word : (number step : ℕ) → AlphaInstr
step_word number step =
    if nat_lt step (2 ^ 31)
    then Operate Addl number (Literal (step % 2 ^ 8)) number
    else Operate Subl number (Literal ((2 ^ 32 - step) % 2 ^ 8)) number

abbrev pub step_words : (number step : ℕ) → List AlphaInstr
step_words number step = if step == 0 then [] else step_word number step ∷ []

-- what the operands added to so many registers, from a number on
abbrev pub steps_from : (number count : ℕ) → (steps : List ℕ) → List AlphaInstr
steps_from number zero steps = []
steps_from number (suc count) steps = step_words number (slice_index steps number) ++ steps_from (number + 1) count steps

abbrev pub set : (register value : ℕ) → AlphaInstr
set register value = Operate Bis ZERO (Literal value) register

-- R1 and R3 are one beyond the strings, R0, R2, R4 and R5 are 0, and of the codes only Z is set
abbrev pub moved_words : List AlphaInstr
moved_words =
    Operate Addl (holder source_temp) (Register (holder length_temp)) 1
    ∷ Operate Addl (holder destination_temp) (Register (holder length_temp)) 3
    ∷ set 0 0
    ∷ set 2 0
    ∷ set 4 0
    ∷ set 5 0
    ∷ set NEGATIVE 0
    ∷ set IS_ZERO 1
    ∷ set OVERFLOW 0
    ∷ set CARRY 0
    ∷ []

-- the steps of R0 to R5 are lost
abbrev pub behind_words : (steps : List ℕ) → List AlphaInstr
behind_words steps = steps_from 6 9 steps ++ moved_words

-- ---- the loop
-- downward, from the last byte on
abbrev pub downward_words : List AlphaInstr
downward_words =
    Operate Subq ZERO (Literal 1) stride_register
    ∷ Operate Addq (holder source_temp) (Register (holder length_temp)) (holder source_temp)
    ∷ Operate Subq (holder source_temp) (Literal 1) (holder source_temp)
    ∷ Operate Addq (holder destination_temp) (Register (holder length_temp)) (holder destination_temp)
    ∷ Operate Subq (holder destination_temp) (Literal 1) (holder destination_temp)
    ∷ []

-- upward where the destination isn't above the source
abbrev pub direction_words : List AlphaInstr
direction_words =
    set stride_register 1
    ∷ Operate Cmpule (holder destination_temp) (Register (holder source_temp)) (holder byte_temp)
    ∷ Branch Bne (holder byte_temp) (pos 5)
    ∷ downward_words

-- a byte is read and written, and both addresses go on
abbrev pub turn_words : (byte_word : Bool) → List AlphaInstr
turn_words byte_word =
    read_by byte_word (holder source_temp) 1 (holder byte_temp)
    ++ (write_by byte_word (holder destination_temp) 1 (holder byte_temp)
    ++ (Operate Addq (holder source_temp) (Register stride_register) (holder source_temp)
    ∷ Operate Addq (holder destination_temp) (Register stride_register) (holder destination_temp)
    ∷ Operate Subq (holder length_temp) (Literal 1) (holder length_temp)
    ∷ []))

-- from the first word again while bytes are left
abbrev pub loop_words : (byte_word : Bool) → List AlphaInstr
loop_words byte_word = turn_words byte_word ++ (Branch Bne (holder length_temp) (negsuc (length (turn_words byte_word))) ∷ [])

-- a string of no bytes is not moved
abbrev pub move_words : (byte_word : Bool) → List AlphaInstr
move_words byte_word =
    Branch Beq (holder length_temp) (pos (length direction_words + length (loop_words byte_word)))
    ∷ (direction_words ++ loop_words byte_word)

-- ---- the block
abbrev pub string_lines : Site → Instr → List Line
string_lines site instr =
    program_lines site [] (operands_of instr)
    ++ (string_check site source_temp false
    ++ (string_check site destination_temp true
    ++ (map plain (behind_words (steps_of instr)) ++ (map plain (move_words site.byte_word) ++ exit_lines site.after))))

-- all codes are computed
abbrev pub string_site : Instr → (before : Rules) → (byte_word : Bool) → Site
string_site instr before byte_word = site_of instr (sources_of_long MoveCharacters) before all_ready byte_word

abbrev pub string_block : Instr → (before : Rules) → (byte_word : Bool) → BlockValue
string_block instr before byte_word =
    let site = string_site instr before byte_word in block_of (with_first (point_of site) (string_lines site instr))
