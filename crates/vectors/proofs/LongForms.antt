-- Which instructions are of long form, from their bytes: they stand from address 200 on, in a page whose other bytes are 0.
use Rattle.std.proofs.Common.{◌≡◌, ℕ, List, [], ◌∷◌, Bool, true, false, Option, Some, None, refl}
use Rattle.vax_form.specs.Grammar.{Found, instruction}
use Rattle.vax_form.specs.GrammarFound.{fetched, found_in, found}
use Rattle.vax_form.specs.GrammarModes.{mode_of, is_reserved_mode, is_reserved_base, extension_size, base_of, operand_of}
use Rattle.vax_form.specs.GrammarReading.{read_number, read_extension, read_base, read_plain, read_by_mode, read_general, read_displacement, read_specifier, read_specifiers, instruction_of, read_operands, read_instruction}
use Rattle.vax_form.specs.Operation.{integer_opcodes, control_opcodes, mixed_opcodes, move_opcodes, bit_opcodes, operation_at}
use Rattle.vax_form.specs.Row.{operands_of_long, operands_of, class_of_operation}
use Rattle.vax_form.specs.declared.pages.Pages.{Pages}
use Rattle.vax_long.specs.Instructions.{long_operation}
use Rattle.vax_long.specs.LongForms.{has_long_form, is_long_form}

abbrev page_of : List ℕ → Pages
page_of bytes = record { ranges = record { first = 1; count = 1; writable = false; place = 0 } ∷ []; code = bytes }

abbrev form_in : Pages → Found → Option Bool
form_in pages (instruction instr) = Some (is_long_form instr pages)
form_in pages _ = None

-- whether the instruction at 200 is of long form, where one stands there
abbrev form : List ℕ → Option Bool
form bytes = form_in (page_of bytes) (found (page_of bytes) 0x200)

-- CALLS #0 and CALLG (R1) to a destination that is fixed
calls_to_fixed :
    (form (0xFB ∷ 0x00 ∷ 0x9F ∷ 0x10 ∷ 0x02 ∷ 0x00 ∷ 0x00 ∷ []) ≡ Some true)
    × (form (0xFB ∷ 0x00 ∷ 0xAF ∷ 0x10 ∷ []) ≡ Some true)
    × (form (0xFB ∷ 0x00 ∷ 0xEF ∷ 0x10 ∷ 0x00 ∷ 0x00 ∷ 0x00 ∷ []) ≡ Some true)
    × (form (0xFB ∷ 0x00 ∷ 0x8F ∷ 0xFF ∷ 0x0F ∷ []) ≡ Some true)
    × (form (0xFA ∷ 0x61 ∷ 0x9F ∷ 0x10 ∷ 0x02 ∷ 0x00 ∷ 0x00 ∷ []) ≡ Some true)
unfolding found fetched found_in mode_of is_reserved_mode is_reserved_base extension_size base_of operand_of read_number read_extension read_base read_plain read_by_mode read_general read_displacement read_specifier read_specifiers instruction_of read_operands read_instruction integer_opcodes control_opcodes mixed_opcodes move_opcodes bit_opcodes operation_at operands_of_long operands_of class_of_operation long_operation has_long_form
calls_to_fixed = (refl, refl, refl, refl, refl)

-- to one that is deferred, indexed or by a register
calls_to_computed :
    (form (0xFB ∷ 0x00 ∷ 0xBF ∷ 0x10 ∷ []) ≡ Some false)
    × (form (0xFB ∷ 0x00 ∷ 0x42 ∷ 0x9F ∷ 0x10 ∷ 0x02 ∷ 0x00 ∷ 0x00 ∷ []) ≡ Some false)
    × (form (0xFB ∷ 0x00 ∷ 0x62 ∷ []) ≡ Some false)
    × (form (0xFB ∷ 0x00 ∷ 0x72 ∷ []) ≡ Some false)
    × (form (0xFB ∷ 0x00 ∷ 0x82 ∷ []) ≡ Some false)
    × (form (0xFB ∷ 0x00 ∷ 0x92 ∷ []) ≡ Some false)
    × (form (0xFB ∷ 0x00 ∷ 0xA2 ∷ 0x10 ∷ []) ≡ Some false)
    × (form (0xFB ∷ 0x00 ∷ 0xB2 ∷ 0x10 ∷ []) ≡ Some false)
    × (form (0xFA ∷ 0x9F ∷ 0x10 ∷ 0x02 ∷ 0x00 ∷ 0x00 ∷ 0x62 ∷ []) ≡ Some false)
unfolding found fetched found_in mode_of is_reserved_mode is_reserved_base extension_size base_of operand_of read_number read_extension read_base read_plain read_by_mode read_general read_displacement read_specifier read_specifiers instruction_of read_operands read_instruction integer_opcodes control_opcodes mixed_opcodes move_opcodes bit_opcodes operation_at operands_of_long operands_of class_of_operation long_operation has_long_form
calls_to_computed = (refl, refl, refl, refl, refl, refl, refl, refl, refl)

-- the entry masks CFFF, 1000 and 2000 behind the instruction, and at the last bytes of the page
entry_masks :
    (form (0xFB ∷ 0x00 ∷ 0xAF ∷ 0x00 ∷ 0xFF ∷ 0xCF ∷ []) ≡ Some true)
    × (form (0xFB ∷ 0x00 ∷ 0xAF ∷ 0x00 ∷ 0x00 ∷ 0x10 ∷ []) ≡ Some false)
    × (form (0xFB ∷ 0x00 ∷ 0xAF ∷ 0x00 ∷ 0x00 ∷ 0x20 ∷ []) ≡ Some false)
    × (form (0xFB ∷ 0x00 ∷ 0x9F ∷ 0xFE ∷ 0x03 ∷ 0x00 ∷ 0x00 ∷ []) ≡ Some true)
    × (form (0xFB ∷ 0x00 ∷ 0x9F ∷ 0xFF ∷ 0x03 ∷ 0x00 ∷ 0x00 ∷ []) ≡ Some false)
    × (form (0xFB ∷ 0x00 ∷ 0x9F ∷ 0x00 ∷ 0x04 ∷ 0x00 ∷ 0x00 ∷ []) ≡ Some false)
unfolding found fetched found_in mode_of is_reserved_mode is_reserved_base extension_size base_of operand_of read_number read_extension read_base read_plain read_by_mode read_general read_displacement read_specifier read_specifiers instruction_of read_operands read_instruction integer_opcodes control_opcodes mixed_opcodes move_opcodes bit_opcodes operation_at operands_of_long operands_of class_of_operation long_operation has_long_form
entry_masks = (refl, refl, refl, refl, refl, refl)

-- MOVC3, MOVC5, RET and NOP
others :
    (form (0x28 ∷ 0x04 ∷ 0x61 ∷ 0x62 ∷ []) ≡ Some true)
    × (form (0x2C ∷ 0x04 ∷ 0x61 ∷ 0x00 ∷ 0x04 ∷ 0x62 ∷ []) ≡ Some false)
    × (form (0x04 ∷ []) ≡ Some false)
    × (form (0x01 ∷ []) ≡ Some false)
unfolding found fetched found_in mode_of is_reserved_mode is_reserved_base extension_size base_of operand_of read_number read_extension read_base read_plain read_by_mode read_general read_displacement read_specifier read_specifiers instruction_of read_operands read_instruction integer_opcodes control_opcodes mixed_opcodes move_opcodes bit_opcodes operation_at operands_of_long operands_of class_of_operation long_operation has_long_form
others = (refl, refl, refl, refl)
