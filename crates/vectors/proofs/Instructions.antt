-- What stands at an address of the code.
use Rattle.std.proofs.Common.{◌≡◌, ℕ, List, [], ◌∷◌, true, false, None, refl}
use Rattle.std.proofs.Common.{◌++◌, ◌-◌, zero, suc}
use Rattle.std.specs.Prelude.{◌+◌, ◌/◌, ◌%◌, length, replicate}
use Rattle.vax_form.specs.declared.pages.Pages.{Pages}
use Rattle.vax_form.specs.declared.instr.Base.TheVariants.{Deferred, Increment, Offset, Fixed}
use Rattle.vax_form.specs.declared.instr.Operand.{Operand}
use Rattle.vax_form.specs.declared.instr.Operand.TheVariants.{Value, Register, Place, Target}
use Rattle.vax_form.specs.GrammarModes.{mode_of, is_reserved_mode, is_reserved_base, extension_size, base_of, operand_of}
use Rattle.vax_form.specs.GrammarReading.{read_number, read_extension, read_base, read_plain, read_by_mode, read_general, read_displacement, read_specifier}
use Rattle.vax_form.specs.Grammar.{Found, instruction, past, reserved_instruction, reserved_mode, padded}
use Rattle.vax_form.specs.GrammarFound.{fetched, found_in, found}
use Rattle.vax_form.specs.GrammarReading.{read_specifiers, instruction_of, read_operands, read_instruction}
use Rattle.vax_form.specs.Operation.{integer_opcodes, control_opcodes, mixed_opcodes, move_opcodes, bit_opcodes, operation_at}
use Rattle.vax_form.specs.Row.{operands_of_long, operands_of, class_of_operation, is_long_operation}

-- so many bytes of a number, the lowest first
abbrev bytes : (count number : ℕ) → List ℕ
bytes zero number = []
bytes (suc count) number = number % 256 ∷ bytes count (number / 256)

-- two read-only sections that touch, at 200 and at 400, whose bytes from a place on are these, and a writable one at 1000
abbrev pages : (place : ℕ) → List ℕ → Pages
pages place code = record {
  ranges = record { first = 1; count = 1; writable = false; place = 0 } ∷ record { first = 2; count = 1; writable = false; place = 512 }
      ∷ record { first = 8; count = 1; writable = true; place = 0 } ∷ [];
  code = replicate (place - 0x200) 0 ++ code ++ replicate (0x600 - (place + length code)) 0;
}

stands : (place : ℕ) → List ℕ → (address : ℕ) → Found
unfolding mode_of is_reserved_mode is_reserved_base extension_size base_of operand_of read_number read_extension read_base read_plain read_by_mode read_general read_displacement read_specifier read_specifiers instruction_of read_operands read_instruction fetched found_in found integer_opcodes control_opcodes mixed_opcodes move_opcodes bit_opcodes operation_at operands_of_long operands_of class_of_operation is_long_operation
stands place code address = found (pages place code) address

abbrev instr : (at opcode count : ℕ) → List Operand → (after : ℕ) → Found
instr at opcode count operands after = instruction (record { at = at; opcode = opcode; count = count; operands = padded operands; after = after })

-- ---- a byte through R0
row3 : stands 0x200 (bytes 16 0x1BC61509051000010038FD050EE8F9A) 0x200 ≡ instr 0x200 0x9A 2 ((Value 0xEE) ∷ (Register 0) ∷ []) 0x204
unfolding stands
row3 = refl

row4 : stands 0x200 (bytes 16 0x1BC61509051000010038FD050EE8F9A) 0x204 ≡ instr 0x204 0xD0 2 ((Value 0x1003) ∷ (Register 1) ∷ []) 0x20B
unfolding stands
row4 = refl

row5 : stands 0x200 (bytes 16 0x1BC61509051000010038FD050EE8F9A) 0x20B ≡ instr 0x20B 0x90 2 ((Register 0) ∷ (Place (Deferred 1) None) ∷ []) 0x20E
unfolding stands
row5 = refl

row6 : stands 0x200 (bytes 16 0x1BC61509051000010038FD050EE8F9A) 0x20E ≡ instr 0x20E 0xBC 1 ((Value 0x1) ∷ []) 0x210
unfolding stands
row6 = refl

-- ---- a word through R0
row9 : stands 0x200 (bytes 17 0x1BC6150B051000010078FD050EEDD8F3C) 0x200 ≡ instr 0x200 0x3C 2 ((Value 0xEEDD) ∷ (Register 0) ∷ []) 0x205
unfolding stands
row9 = refl

row10 : stands 0x200 (bytes 17 0x1BC6150B051000010078FD050EEDD8F3C) 0x205 ≡ instr 0x205 0xD0 2 ((Value 0x1007) ∷ (Register 1) ∷ []) 0x20C
unfolding stands
row10 = refl

row11 : stands 0x200 (bytes 17 0x1BC6150B051000010078FD050EEDD8F3C) 0x20C ≡ instr 0x20C 0xB0 2 ((Register 0) ∷ (Place (Deferred 1) None) ∷ []) 0x20F
unfolding stands
row11 = refl

row12 : stands 0x200 (bytes 17 0x1BC6150B051000010078FD050EEDD8F3C) 0x20F ≡ instr 0x20F 0xBC 1 ((Value 0x1) ∷ []) 0x211
unfolding stands
row12 = refl

-- ---- a counted loop
row15 : stands 0x200 (bytes 21 0x1BCF652F500001000E0509052000010008FD004BC) 0x200 ≡ instr 0x200 0xBC 1 ((Value 0x4) ∷ []) 0x202
unfolding stands
row15 = refl

row16 : stands 0x200 (bytes 21 0x1BCF652F500001000E0509052000010008FD004BC) 0x202 ≡ instr 0x202 0xD0 2 ((Value 0x1000) ∷ (Register 2) ∷ []) 0x209
unfolding stands
row16 = refl

row17 : stands 0x200 (bytes 21 0x1BCF652F500001000E0509052000010008FD004BC) 0x209 ≡ instr 0x209 0x90 2 ((Register 0) ∷ (Place (Offset 0 0x1000 false) None) ∷ []) 0x210
unfolding stands
row17 = refl

row18 : stands 0x200 (bytes 21 0x1BCF652F500001000E0509052000010008FD004BC) 0x210 ≡ instr 0x210 0xF5 2 ((Register 2) ∷ (Target 0x209) ∷ []) 0x213
unfolding stands
row18 = refl

row19 : stands 0x200 (bytes 21 0x1BCF652F500001000E0509052000010008FD004BC) 0x213 ≡ instr 0x213 0xBC 1 ((Value 0x1) ∷ []) 0x215
unfolding stands
row19 = refl

-- ---- a branch round a computed jump
row22 : stands 0x200 (bytes 34 0xEB11000000000000000000000000000001BC5003D001016117041351000002209F9E) 0x200 ≡ instr 0x200 0x9E 2 ((Place (Fixed 0x220 false) None) ∷ (Register 1) ∷ []) 0x207
unfolding stands
row22 = refl

row23 : stands 0x200 (bytes 34 0xEB11000000000000000000000000000001BC5003D001016117041351000002209F9E) 0x207 ≡ instr 0x207 0x13 1 ((Target 0x20D) ∷ []) 0x209
unfolding stands
row23 = refl

row24 : stands 0x200 (bytes 34 0xEB11000000000000000000000000000001BC5003D001016117041351000002209F9E) 0x209 ≡ instr 0x209 0x17 1 ((Place (Deferred 1) None) ∷ []) 0x20B
unfolding stands
row24 = refl

row25 : stands 0x200 (bytes 34 0xEB11000000000000000000000000000001BC5003D001016117041351000002209F9E) 0x20B ≡ instr 0x20B 0x01 0 ([]) 0x20C
unfolding stands
row25 = refl

row26 : stands 0x200 (bytes 34 0xEB11000000000000000000000000000001BC5003D001016117041351000002209F9E) 0x20C ≡ instr 0x20C 0x01 0 ([]) 0x20D
unfolding stands
row26 = refl

row27 : stands 0x200 (bytes 34 0xEB11000000000000000000000000000001BC5003D001016117041351000002209F9E) 0x20D ≡ instr 0x20D 0xD0 2 ((Value 0x3) ∷ (Register 0) ∷ []) 0x210
unfolding stands
row27 = refl

row28 : stands 0x200 (bytes 34 0xEB11000000000000000000000000000001BC5003D001016117041351000002209F9E) 0x210 ≡ instr 0x210 0xBC 1 ((Value 0x1) ∷ []) 0x212
unfolding stands
row28 = refl

row29 : stands 0x200 (bytes 34 0xEB11000000000000000000000000000001BC5003D001016117041351000002209F9E) 0x220 ≡ instr 0x220 0x11 1 ((Target 0x20D) ∷ []) 0x222
unfolding stands
row29 = refl

-- ---- a table of cases
row32 : stands 0x200 (bytes 33 0x1BC500CD001BC500BD001BC500AD001BC5009D000150010000B020150CF5001D0) 0x200 ≡ instr 0x200 0xD0 2 ((Value 0x1) ∷ (Register 0) ∷ []) 0x203
unfolding stands
row32 = refl

row33 : stands 0x200 (bytes 33 0x1BC500CD001BC500BD001BC500AD001BC5009D000150010000B020150CF5001D0) 0x203 ≡ instr 0x203 0xCF 3 ((Register 0) ∷ (Value 0x1) ∷ (Value 0x2) ∷ []) 0x207
unfolding stands
row33 = refl

row34 : stands 0x200 (bytes 33 0x1BC500CD001BC500BD001BC500AD001BC5009D000150010000B020150CF5001D0) 0x20D ≡ instr 0x20D 0xD0 2 ((Value 0x9) ∷ (Register 0) ∷ []) 0x210
unfolding stands
row34 = refl

row35 : stands 0x200 (bytes 33 0x1BC500CD001BC500BD001BC500AD001BC5009D000150010000B020150CF5001D0) 0x210 ≡ instr 0x210 0xBC 1 ((Value 0x1) ∷ []) 0x212
unfolding stands
row35 = refl

row36 : stands 0x200 (bytes 33 0x1BC500CD001BC500BD001BC500AD001BC5009D000150010000B020150CF5001D0) 0x212 ≡ instr 0x212 0xD0 2 ((Value 0xA) ∷ (Register 0) ∷ []) 0x215
unfolding stands
row36 = refl

row37 : stands 0x200 (bytes 33 0x1BC500CD001BC500BD001BC500AD001BC5009D000150010000B020150CF5001D0) 0x217 ≡ instr 0x217 0xD0 2 ((Value 0xB) ∷ (Register 0) ∷ []) 0x21A
unfolding stands
row37 = refl

row38 : stands 0x200 (bytes 33 0x1BC500CD001BC500BD001BC500AD001BC5009D000150010000B020150CF5001D0) 0x21C ≡ instr 0x21C 0xD0 2 ((Value 0xC) ∷ (Register 0) ∷ []) 0x21F
unfolding stands
row38 = refl

-- ---- characters, interlocked bits and a call
row41 : stands 0x200 (bytes 86 0x45001D0F853F502BC50829A5308ACD05204ACD0000C00000000000000000000000000000001BC000002409F02FB000011109FDF03DDF8000011009F00E701BC50DD00000011009F00E6000011109F000002609F0328) 0x200 ≡ instr 0x200 0x28 3 ((Value 0x3) ∷ (Place (Fixed 0x260 false) None) ∷ (Place (Fixed 0x1110 false) None) ∷ []) 0x20C
unfolding stands
row41 = refl

row42 : stands 0x200 (bytes 86 0x45001D0F853F502BC50829A5308ACD05204ACD0000C00000000000000000000000000000001BC000002409F02FB000011109FDF03DDF8000011009F00E701BC50DD00000011009F00E6000011109F000002609F0328) 0x20C ≡ instr 0x20C 0xE6 3 ((Value 0x0) ∷ (Place (Fixed 0x1100 false) None) ∷ (Target 0x214) ∷ []) 0x214
unfolding stands
row42 = refl

row43 : stands 0x200 (bytes 86 0x45001D0F853F502BC50829A5308ACD05204ACD0000C00000000000000000000000000000001BC000002409F02FB000011109FDF03DDF8000011009F00E701BC50DD00000011009F00E6000011109F000002609F0328) 0x214 ≡ instr 0x214 0xDD 1 ((Register 0) ∷ []) 0x216
unfolding stands
row43 = refl

row44 : stands 0x200 (bytes 86 0x45001D0F853F502BC50829A5308ACD05204ACD0000C00000000000000000000000000000001BC000002409F02FB000011109FDF03DDF8000011009F00E701BC50DD00000011009F00E6000011109F000002609F0328) 0x216 ≡ instr 0x216 0xBC 1 ((Value 0x1) ∷ []) 0x218
unfolding stands
row44 = refl

row45 : stands 0x200 (bytes 86 0x45001D0F853F502BC50829A5308ACD05204ACD0000C00000000000000000000000000000001BC000002409F02FB000011109FDF03DDF8000011009F00E701BC50DD00000011009F00E6000011109F000002609F0328) 0x218 ≡ instr 0x218 0xE7 3 ((Value 0x0) ∷ (Place (Fixed 0x1100 false) None) ∷ (Target 0x218) ∷ []) 0x220
unfolding stands
row45 = refl

row46 : stands 0x200 (bytes 86 0x45001D0F853F502BC50829A5308ACD05204ACD0000C00000000000000000000000000000001BC000002409F02FB000011109FDF03DDF8000011009F00E701BC50DD00000011009F00E6000011109F000002609F0328) 0x220 ≡ instr 0x220 0xDD 1 ((Value 0x3) ∷ []) 0x222
unfolding stands
row46 = refl

row47 : stands 0x200 (bytes 86 0x45001D0F853F502BC50829A5308ACD05204ACD0000C00000000000000000000000000000001BC000002409F02FB000011109FDF03DDF8000011009F00E701BC50DD00000011009F00E6000011109F000002609F0328) 0x222 ≡ instr 0x222 0xDF 1 ((Place (Fixed 0x1110 false) None) ∷ []) 0x228
unfolding stands
row47 = refl

row48 : stands 0x200 (bytes 86 0x45001D0F853F502BC50829A5308ACD05204ACD0000C00000000000000000000000000000001BC000002409F02FB000011109FDF03DDF8000011009F00E701BC50DD00000011009F00E6000011109F000002609F0328) 0x228 ≡ instr 0x228 0xFB 2 ((Value 0x2) ∷ (Place (Fixed 0x240 false) None) ∷ []) 0x22F
unfolding stands
row48 = refl

row49 : stands 0x200 (bytes 86 0x45001D0F853F502BC50829A5308ACD05204ACD0000C00000000000000000000000000000001BC000002409F02FB000011109FDF03DDF8000011009F00E701BC50DD00000011009F00E6000011109F000002609F0328) 0x22F ≡ instr 0x22F 0xBC 1 ((Value 0x1) ∷ []) 0x231
unfolding stands
row49 = refl

row50 : stands 0x200 (bytes 86 0x45001D0F853F502BC50829A5308ACD05204ACD0000C00000000000000000000000000000001BC000002409F02FB000011109FDF03DDF8000011009F00E701BC50DD00000011009F00E6000011109F000002609F0328) 0x242 ≡ instr 0x242 0xD0 2 ((Place (Offset 12 0x4 false) None) ∷ (Register 2) ∷ []) 0x246
unfolding stands
row50 = refl

row51 : stands 0x200 (bytes 86 0x45001D0F853F502BC50829A5308ACD05204ACD0000C00000000000000000000000000000001BC000002409F02FB000011109FDF03DDF8000011009F00E701BC50DD00000011009F00E6000011109F000002609F0328) 0x246 ≡ instr 0x246 0xD0 2 ((Place (Offset 12 0x8 false) None) ∷ (Register 3) ∷ []) 0x24A
unfolding stands
row51 = refl

row52 : stands 0x200 (bytes 86 0x45001D0F853F502BC50829A5308ACD05204ACD0000C00000000000000000000000000000001BC000002409F02FB000011109FDF03DDF8000011009F00E701BC50DD00000011009F00E6000011109F000002609F0328) 0x24A ≡ instr 0x24A 0x9A 2 ((Place (Increment 2) None) ∷ (Register 0) ∷ []) 0x24D
unfolding stands
row52 = refl

row53 : stands 0x200 (bytes 86 0x45001D0F853F502BC50829A5308ACD05204ACD0000C00000000000000000000000000000001BC000002409F02FB000011109FDF03DDF8000011009F00E701BC50DD00000011009F00E6000011109F000002609F0328) 0x24D ≡ instr 0x24D 0xBC 1 ((Value 0x2) ∷ []) 0x24F
unfolding stands
row53 = refl

row54 : stands 0x200 (bytes 86 0x45001D0F853F502BC50829A5308ACD05204ACD0000C00000000000000000000000000000001BC000002409F02FB000011109FDF03DDF8000011009F00E701BC50DD00000011009F00E6000011109F000002609F0328) 0x24F ≡ instr 0x24F 0xF5 2 ((Register 3) ∷ (Target 0x24A) ∷ []) 0x252
unfolding stands
row54 = refl

row55 : stands 0x200 (bytes 86 0x45001D0F853F502BC50829A5308ACD05204ACD0000C00000000000000000000000000000001BC000002409F02FB000011109FDF03DDF8000011009F00E701BC50DD00000011009F00E6000011109F000002609F0328) 0x252 ≡ instr 0x252 0xD0 2 ((Value 0x1) ∷ (Register 0) ∷ []) 0x255
unfolding stands
row55 = refl

row56 : stands 0x200 (bytes 86 0x45001D0F853F502BC50829A5308ACD05204ACD0000C00000000000000000000000000000001BC000002409F02FB000011109FDF03DDF8000011009F00E701BC50DD00000011009F00E6000011109F000002609F0328) 0x255 ≡ instr 0x255 0x04 0 ([]) 0x256
unfolding stands
row56 = refl

-- ---- across two sections
row59 : stands 0x3FD (bytes 15 0x550D04FD451504050123456788FD0) 0x3FD ≡ instr 0x3FD 0xD0 2 ((Value 0x12345678) ∷ (Register 0) ∷ []) 0x404
unfolding stands
row59 = refl

row60 : stands 0x3FD (bytes 15 0x550D04FD451504050123456788FD0) 0x404 ≡ reserved_instruction
unfolding stands
row60 = refl

row61 : stands 0x3FD (bytes 15 0x550D04FD451504050123456788FD0) 0x407 ≡ reserved_mode
unfolding stands
row61 = refl

row62 : stands 0x3FD (bytes 15 0x550D04FD451504050123456788FD0) 0x409 ≡ reserved_mode
unfolding stands
row62 = refl

-- ---- the end of the code
row65 : stands 0x5FC (0xD0 ∷ 0x8F ∷ 0xD4 ∷ 0x5F ∷ []) 0x5FC ≡ past 0x600
unfolding stands
row65 = refl

row66 : stands 0x5FC (0xD0 ∷ 0x8F ∷ 0xD4 ∷ 0x5F ∷ []) 0x5FD ≡ past 0x600
unfolding stands
row66 = refl

row67 : stands 0x5FC (0xD0 ∷ 0x8F ∷ 0xD4 ∷ 0x5F ∷ []) 0x5FE ≡ reserved_mode
unfolding stands
row67 = refl

row68 : stands 0x5FC (0xD0 ∷ 0x8F ∷ 0xD4 ∷ 0x5F ∷ []) 0x5FF ≡ reserved_instruction
unfolding stands
row68 = refl

row69 : stands 0x5FC (0xD0 ∷ 0x8F ∷ 0xD4 ∷ 0x5F ∷ []) 0x600 ≡ past 0x600
unfolding stands
row69 = refl

row70 : stands 0x5FC (0xD0 ∷ 0x8F ∷ 0xD4 ∷ 0x5F ∷ []) 0x1000 ≡ past 0x1000
unfolding stands
row70 = refl

row71 : stands 0x5FC (0xD0 ∷ 0x8F ∷ 0xD4 ∷ 0x5F ∷ []) 0xFFFFFFFF ≡ past 0xFFFFFFFF
unfolding stands
row71 = refl
