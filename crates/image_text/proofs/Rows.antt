-- Rows of the text, worked by hand.
use Rattle.std.proofs.Common.{◌≡◌, ℕ, Bool, List, [], ◌∷◌, ◌++◌, true, false, None, replicate, length, refl}
use Rattle.std.specs.Prelude.{◌||◌, codes, is_none, nat_lt}
use Rattle.std.specs.List.{list_all}
use Rattle.image_file.specs.Pages.{pages_of}
use Rattle.image_file.specs.Spelling.{spelling}
use Rattle.image_file.specs.Values.{ImageValue, SectionValue}
use Rattle.flow_discovery.specs.Flow.{falls_through, goes_on, table_of}
use Rattle.vax_form.specs.GrammarFound.{fetched, found_in, found}
use Rattle.vax_form.specs.GrammarModes.{mode_of, is_reserved_mode, is_reserved_base, extension_size, base_of, operand_of as operand_by_mode}
use Rattle.vax_form.specs.GrammarReading.{read_number, read_extension, read_base, read_plain, read_by_mode, read_general, read_displacement, read_specifier, read_specifiers, instruction_of, read_operands, read_instruction}
use Rattle.vax_form.specs.Row.{class_at, class_of_operation, is_long_operation, is_translated, operands_of, operands_of_long}
use Rattle.vax_form.specs.declared.instr.Instr.{Instr}
use Rattle.vax_form.specs.declared.instr.Base.TheVariants.{Fixed, Deferred}
use Rattle.vax_form.specs.declared.instr.Operand.{Operand}
use Rattle.vax_form.specs.declared.instr.Operand.TheVariants.{Value, Register, Place, Unused}
use Rattle.vax_form.specs.Grammar.{reserved_instruction, reserved_mode, past}
use Rattle.std.specs.Fmt.{digits}
use Rattle.vax_form.specs.Operation.{operation_at, integer_opcodes, control_opcodes, mixed_opcodes, move_opcodes, bit_opcodes}
use Rattle.vax_form.specs.Targets.{call_of, call_target, fixed_targets, jump_of, jump_target}
use Rattle.report_text.specs.Digits.{digits_from, eight_digits}
use Rattle.vax_text.specs.Names.{low_names, byte_names, word_names, long_names, high_names, name_of}
use Rattle.image_text.specs.Instructions.{is_open, is_open_by, asks_service, is_service}
use Rattle.image_text.specs.Text.{flow_text, opcodes, show_text, tables_text}
use Rattle.image_text.specs.Lines.{thread_line, section_line, open_line, stop_text, stop_kind, service_line}

abbrev operands : Operand → List Operand
operands first = first ∷ replicate 5 Unused

-- CHMK #2 at 203
service : service_line (record { at = 0x203; opcode = 0xBC; count = 1; operands = operands (Value 2); after = 0x205 }) ≡ codes "service 2 at 00000203\n"
unfolding asks_service is_service operation_at control_opcodes mixed_opcodes move_opcodes eight_digits digits_from digits
service = refl

-- CHMK R0
any_service : service_line (record { at = 0x203; opcode = 0xBC; count = 1; operands = operands (Register 0); after = 0x205 }) ≡ codes "service at 00000203\n"
unfolding asks_service is_service operation_at control_opcodes mixed_opcodes move_opcodes eight_digits digits_from digits
any_service = refl

-- JMP (R0), and JMP to an address that the code fixes
open_jump : open_line (record { at = 0x200; opcode = 0x17; count = 1; operands = operands (Place (Deferred 0) None); after = 0x202 }) ≡ codes "open 00000200 JMP\n"
unfolding is_open is_open_by operation_at control_opcodes jump_of jump_target low_names name_of eight_digits digits_from
open_jump = refl

fixed_jump : open_line (record { at = 0x200; opcode = 0x17; count = 1; operands = operands (Place (Fixed 0x300 false) None); after = 0x206 }) ≡ []
unfolding is_open is_open_by operation_at control_opcodes jump_of jump_target low_names name_of eight_digits digits_from
fixed_jump = refl

stops : stop_text 0x200 0x207 (stop_kind reserved_instruction) ++ stop_text 0x200 0x207 (stop_kind reserved_mode) ++ stop_text 0x200 0x207 (stop_kind (past 0x400))
    ≡ codes "stop 00000207 from 00000200 reserved\nstop 00000207 from 00000200 mode\nstop 00000207 from 00000200 past\n"
unfolding eight_digits digits_from
stops = refl

-- R3 is 10
thread : thread_line 1 (record { pc = 0x200; sp = 0x1200; first = 0 ∷ 0 ∷ 0 ∷ 10 ∷ replicate 10 0 }) ≡ codes "thread 1 pc 00000200 sp 00001200 R3 0000000A\n"
unfolding eight_digits digits_from digits
thread = refl

sections : section_line 0 (record { start = 0x200; size = 7; writable = false; stored = 208 ∷ 5 ∷ 80 ∷ 188 ∷ 2 ∷ 188 ∷ 1 ∷ [] }) ++ section_line 1 (record { start = 0x1000; size = 0x200; writable = true; stored = [] })
    ≡ codes "section 0 00000200 to 00000206 read-only stored 7\nsection 1 00001000 to 000011FF writable stored 0\n"
unfolding eight_digits digits_from digits
sections = refl

-- each opcode whose instructions have no block has a name
abbrev is_named : ℕ → Bool
is_named opcode = is_none (operation_at opcode) || is_translated (class_at opcode) || nat_lt 0 (length (name_of opcode))

names : list_all is_named opcodes ≡ true
unfolding opcodes low_names byte_names word_names long_names high_names name_of operation_at integer_opcodes control_opcodes mixed_opcodes move_opcodes bit_opcodes class_of_operation
names = refl

-- ---- the sample image: MOVL #5,R0; CHMK #2; CHMK #1
sections_of_sample : List SectionValue
sections_of_sample =
    record { start = 0x200; size = 0x200; writable = false; stored = 208 ∷ 5 ∷ 80 ∷ 188 ∷ 2 ∷ 188 ∷ 1 ∷ [] }
    ∷ record { start = 0x1000; size = 0x200; writable = true; stored = [] } ∷ []

sample : ImageValue
unfolding sections_of_sample
sample = record {
  version = 1;
  threads = record { pc = 0x200; sp = 0x1200; first = replicate 14 0 } ∷ [];
  sections = sections_of_sample;
  entries = [];
  pages = pages_of sections_of_sample;
}

instrs_of_sample : List Instr
instrs_of_sample =
    record { at = 0x200; opcode = 0xD0; count = 2; operands = Value 5 ∷ Register 0 ∷ replicate 4 Unused; after = 0x203 }
    ∷ record { at = 0x203; opcode = 0xBC; count = 1; operands = operands (Value 2); after = 0x205 }
    ∷ record { at = 0x205; opcode = 0xBC; count = 1; operands = operands (Value 1); after = 0x207 } ∷ []

shown : show_text sample [] instrs_of_sample 3 28
    ≡ codes "image version 1 bytes 59\nthread 0 pc 00000200 sp 00001200\nsection 0 00000200 to 000003FF read-only stored 7\nsection 1 00001000 to 000011FF writable stored 0\nreached 3 mapped 3 interpreted 0 words 28\nservice 2 at 00000203\nservice 1 at 00000205\n"
unfolding sections_of_sample sample instrs_of_sample show_text tables_text flow_text opcodes low_names byte_names word_names long_names high_names name_of is_open is_open_by asks_service is_service spelling pages_of mode_of is_reserved_mode is_reserved_base extension_size base_of operand_by_mode read_number read_extension read_base read_plain read_by_mode read_general read_displacement read_specifier read_specifiers instruction_of read_operands read_instruction fetched found_in found integer_opcodes control_opcodes mixed_opcodes move_opcodes bit_opcodes operation_at operands_of_long operands_of class_of_operation is_long_operation jump_target jump_of call_target call_of fixed_targets falls_through goes_on table_of eight_digits digits_from digits
shown = refl
