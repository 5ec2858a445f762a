-- The words of the block of a call, CALLS or CALLG, whose destination the code fixes: its operands, the checks of its pushes,
-- the pushes, and the end. Nothing that a boundary shows is written before the last push.
-- VAX Architecture Reference Manual, "Procedure Call Instructions": the call frame, in the order in which it is pushed.
use Rattle.std.specs.Prelude.{ℕ, ℤ, zero, suc, ◌+◌, ◌-◌, ◌*◌, ◌/◌, ◌%◌, ◌^◌, ◌==◌, Bool, true, false, List, [], ◌∷◌, ◌++◌, length, map, Option, Some, None, unwrap_or, slice_index, slice_set, if◌then◌else◌}
use Rattle.vax_form.specs.State.{AP, FP, SP}
use Rattle.vax_form.specs.Targets.{behind_mask, fixed_address, operand_of}
use Rattle.vax_form.specs.declared.instr.Access.TheVariants.{Read, Address}
use Rattle.vax_form.specs.declared.instr.Base.{Base}
use Rattle.vax_form.specs.declared.instr.Base.TheVariants.{Deferred, Offset}
use Rattle.vax_form.specs.declared.instr.Instr.{Instr}
use Rattle.vax_form.specs.declared.instr.Operand.{Operand}
use Rattle.vax_form.specs.declared.instr.Operand.TheVariants.{Place}
use Rattle.vax_form.specs.declared.instr.Size.TheVariants.{Byte, Long}
use Rattle.vax_form.specs.declared.operation.LongOperation.{LongOperation}
use Rattle.vax_form.specs.declared.operation.LongOperation.TheVariants.{CallStack}
use Rattle.vax_form.specs.declared.pages.Pages.{Pages}
use Rattle.vax_long.specs.CodeWord.{code_word_at}
use Rattle.vax_long.specs.Instructions.{long_at}
use Rattle.vax_long.specs.Registers.{is_in_mask}
use Rattle.alpha_encode.specs.Calls.{PROBE}
use Rattle.alpha_encode.specs.Halves.{load_high, load_longword, low_half}
use Rattle.alpha_encode.specs.Registers.{NEGATIVE, IS_ZERO, OVERFLOW, CARRY, STATUS, ADDRESS, ZERO}
use Rattle.alpha_encode.specs.declared.instr.AlphaInstr.{AlphaInstr}
use Rattle.alpha_encode.specs.declared.instr.AlphaInstr.TheVariants.{Memory, Operate, Pal}
use Rattle.alpha_encode.specs.declared.instr.MemoryOp.TheVariants.{Lda, Stl}
use Rattle.alpha_encode.specs.declared.instr.OperateOp.TheVariants.{And, Bic, Bis, Sll}
use Rattle.alpha_encode.specs.declared.instr.Second.TheVariants.{Literal, Register}
use Rattle.alpha_encode.specs.declared.registers.TheConstants.{BYTES}
use Rattle.exception_records.specs.Blocks.{BlockValue}
use Rattle.exception_records.specs.Codes.{all_ready}
use Rattle.exception_records.specs.declared.rules.Rules.{Rules}
use Rattle.micro_ops.specs.Sources.{sources_of_long}
use Rattle.micro_ops.specs.declared.program.Micro.{Micro}
use Rattle.micro_ops.specs.declared.program.Micro.TheVariants.{Probe, Commit}
use Rattle.operand_programs.specs.InOrder.{operands_program, steps_behind_all, no_steps}
use Rattle.operand_programs.specs.Specifiers.{commit_program}
use Rattle.operand_programs.specs.declared.operands.Specifier.{Specifier}
use Rattle.program_codegen.specs.declared.calls.Call.{Call}
use Rattle.program_codegen.specs.declared.frames.Pushed.{Pushed}
use Rattle.program_codegen.specs.declared.frames.Pushed.TheVariants as pushes
use Rattle.program_codegen.specs.declared.lines.Line.{Line}
use Rattle.program_codegen.specs.declared.points.Site.{Site}
use Rattle.program_codegen.specs.Words.{plain, marked, holder, probing, point_of, exit_lines, write_by, program_lines, with_first, block_of, site_of}

-- ---- the call
abbrev pub destination_of : Instr → ℕ
destination_of instr = unwrap_or (fixed_address (operand_of instr 1)) 0

-- CALLS has its arguments on the stack
abbrev pub is_on_stack : Option LongOperation → Bool
is_on_stack (Some CallStack) = true
is_on_stack operation = false

-- what the words of a call are made from
abbrev pub call_at : Instr → Pages → Call
call_at instr pages = record {
  first = operand_of instr 0;
  stack = is_on_stack (long_at instr.opcode);
  mask = unwrap_or (code_word_at pages (destination_of instr)) 0;
  entry = behind_mask (destination_of instr);
}

-- ---- temporaries, which outlast checks and references
-- the count of CALLS, or the address of CALLG's list
abbrev pub first_temp : ℕ
first_temp = 0

-- a value that is pushed
abbrev pub value_temp : ℕ
value_temp = 1

-- where CALLS pushes the count, or SP
abbrev pub list_temp : ℕ
list_temp = 2

-- that aligned
abbrev pub frame_temp : ℕ
frame_temp = 3

-- ---- operands
-- the count is read, and a list is located
abbrev pub first_specifier : (stack : Bool) → Operand → Specifier
first_specifier true operand = record { access = Read; size = Long; operand = operand; to = first_temp; place = value_temp }
first_specifier false operand = record { access = Address; size = Byte; operand = operand; to = first_temp; place = value_temp }

-- where CALLS pushes the count: below SP
abbrev pub list_base : (stack : Bool) → Base
list_base true = Offset SP (2 ^ 32 - 4) false
list_base false = Deferred SP

abbrev pub list_specifier : (stack : Bool) → Specifier
list_specifier stack = record { access = Address; size = Long; operand = Place (list_base stack) None; to = list_temp; place = frame_temp }

abbrev pub specifiers_of : Call → List Specifier
specifiers_of call = first_specifier call.stack call.first ∷ list_specifier call.stack ∷ []

-- what the operands add to the registers
abbrev pub steps_of : Call → List ℕ
steps_of call = steps_behind_all (specifiers_of call) no_steps

abbrev pub count_check : (stack : Bool) → List Micro
count_check true = Probe list_temp 4 true ∷ []
count_check false = []

-- the operands, and the check of the push of the count
abbrev pub front_program : Call → List Micro
front_program call = operands_program (specifiers_of call) no_steps ++ count_check call.stack

-- the count is pushed
abbrev pub count_lines : Site → (stack : Bool) → List Line
count_lines site true = map plain (write_by site.byte_word (holder list_temp) 4 (holder first_temp))
count_lines site false = []

-- ---- the frame
abbrev pub align_frame : AlphaInstr
align_frame = Operate Bic (holder list_temp) (Literal 3) (holder frame_temp)

-- the registers below that number that a mask saves, highest first
unfoldable pub saved_below : (number mask : ℕ) → List Pushed
saved_below zero mask = []
saved_below (suc number) mask = if is_in_mask number mask then pushes.Register number ∷ saved_below number mask else saved_below number mask

-- what is pushed, in order
abbrev pub frame_of : (mask : ℕ) → List Pushed
frame_of mask = saved_below 12 mask ++ (pushes.After ∷ pushes.Register FP ∷ pushes.Register AP ∷ pushes.Status ∷ pushes.NoHandler ∷ [])

-- the place of a push, by its number from 1 on
abbrev pub displacement : (number : ℕ) → ℤ
displacement number = low_half (2 ^ 32 - 4 * number)

abbrev pub check_lines : Site → (number : ℕ) → List Line
check_lines site number =
    plain (Memory Lda ADDRESS (holder frame_temp) (displacement number)) ∷ marked (Pal PROBE) (probing site 4 true) ∷ []

-- the checks of so many pushes from a number on
abbrev pub checks_from : Site → (number count : ℕ) → List Line
checks_from site number zero = []
checks_from site number (suc count) = check_lines site number ++ checks_from site (number + 1) count

-- ---- the values that are pushed
-- the mask in 27:16 of the status, and S in 29
abbrev pub status_high : Call → ℕ
status_high call = (if call.stack then 2 ^ 29 else 0) + call.mask % 4096 * 2 ^ 16

-- FU, DV and IV, and the low bits of SP before it was aligned in 31:30
abbrev pub status_words : Call → List AlphaInstr
status_words call =
    Operate And STATUS (Literal 0xE0) (holder value_temp)
    ∷ load_high BYTES (status_high call)
    ∷ Operate Bis (holder value_temp) (Register BYTES) (holder value_temp)
    ∷ Operate And (holder list_temp) (Literal 3) BYTES
    ∷ Operate Sll BYTES (Literal 30) BYTES
    ∷ Operate Bis (holder value_temp) (Register BYTES) (holder value_temp)
    ∷ []

-- a register to which something was added is pushed with that
abbrev pub register_words : (number step : ℕ) → List AlphaInstr
register_words number step = if step == 0 then [] else Memory Lda (holder value_temp) number (low_half step) ∷ []

abbrev pub register_pushed : (number step : ℕ) → ℕ
register_pushed number step = if step == 0 then number else holder value_temp

-- the words that make a value, and the register in which it is then
abbrev pub value_words : (after : ℕ) → Call → (steps : List ℕ) → Pushed → List AlphaInstr
value_words after call steps (pushes.Register number) = register_words number (slice_index steps number)
value_words after call steps pushes.After = load_longword (holder value_temp) after
value_words after call steps pushes.Status = status_words call
value_words after call steps pushes.NoHandler = []

abbrev pub value_register : (steps : List ℕ) → Pushed → ℕ
value_register steps (pushes.Register number) = register_pushed number (slice_index steps number)
value_register steps pushes.After = holder value_temp
value_register steps pushes.Status = holder value_temp
value_register steps pushes.NoHandler = ZERO

abbrev pub longword_words : (after : ℕ) → Call → (steps : List ℕ) → (number : ℕ) → Pushed → List AlphaInstr
longword_words after call steps number pushed =
    value_words after call steps pushed ++ (Memory Stl (value_register steps pushed) (holder frame_temp) (displacement number) ∷ [])

-- the pushes from a number on
abbrev pub pushes_from : (after : ℕ) → Call → (steps : List ℕ) → (number : ℕ) → List Pushed → List Line
pushes_from after call steps number [] = []
pushes_from after call steps number (pushed ∷ frame) = map plain (longword_words after call steps number pushed) ++ pushes_from after call steps (number + 1) frame

-- ---- the end
-- what the operands added to AP, FP and SP is lost
abbrev pub steps_left : (steps : List ℕ) → List ℕ
steps_left steps = slice_set (slice_set (slice_set steps AP 0) FP 0) SP 0

-- where the argument list is
abbrev pub argument_temp : (stack : Bool) → ℕ
argument_temp true = list_temp
argument_temp false = first_temp

-- what the operands added to R0 to R11 goes into them, and the place of the list into AP
abbrev pub list_program : (stack : Bool) → (steps : List ℕ) → List Micro
list_program stack steps = commit_program 0 (steps_left steps) ++ (Commit AP (argument_temp stack) ∷ [])

abbrev pub frame_program : List Micro
frame_program = Commit FP frame_temp ∷ Commit SP frame_temp ∷ []

-- DV and IV of a procedure
abbrev pub entry_traps : (mask : ℕ) → ℕ
entry_traps mask = mask / 2 ^ 15 % 2 * 128 + mask / 2 ^ 14 % 2 * 32

-- N, Z, V and C are 0, and T is kept
abbrev pub entry_words : (mask : ℕ) → List AlphaInstr
entry_words mask =
    Operate Bis ZERO (Literal 0) NEGATIVE
    ∷ Operate Bis ZERO (Literal 0) IS_ZERO
    ∷ Operate Bis ZERO (Literal 0) OVERFLOW
    ∷ Operate Bis ZERO (Literal 0) CARRY
    ∷ Operate And STATUS (Literal 0x10) STATUS
    ∷ Operate Bis STATUS (Literal (entry_traps mask)) STATUS
    ∷ []

-- behind so many pushes FP and SP become the place of the last one
abbrev pub end_of : Site → Call → (steps : List ℕ) → (pushes : ℕ) → List Line
end_of site call steps pushes =
    program_lines site [] (list_program call.stack steps)
    ++ (plain (Memory Lda (holder frame_temp) (holder frame_temp) (displacement pushes))
    ∷ (program_lines site [] frame_program ++ (map plain (entry_words call.mask) ++ exit_lines call.entry)))

abbrev pub end_lines : Site → Call → List Line
end_lines site call = end_of site call (steps_of call) (length (frame_of call.mask))

-- ---- the block
abbrev pub call_lines : Site → Call → List Line
call_lines site call =
    program_lines site [] (front_program call)
    ++ (plain align_frame
    ∷ (checks_from site 1 (length (frame_of call.mask))
    ++ (count_lines site call.stack ++ (pushes_from site.after call (steps_of call) 1 (frame_of call.mask) ++ end_lines site call))))

-- all codes are computed
abbrev pub call_site : Instr → (before : Rules) → (byte_word : Bool) → Site
call_site instr before byte_word = site_of instr (sources_of_long CallStack) before all_ready byte_word

abbrev pub call_block : Instr → Pages → (before : Rules) → (byte_word : Bool) → BlockValue
call_block instr pages before byte_word =
    let site = call_site instr before byte_word in block_of (with_first (point_of site) (call_lines site (call_at instr pages)))
