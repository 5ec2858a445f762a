-- What bytes specify as one operand. Fewer bytes are too few, and bytes behind them change nothing.
use Rattle.std.proofs.Common.{◌≡◌, ℕ, List, [], ◌∷◌, Bool, true, false, Option, Some, None, refl}
use Rattle.std.proofs.Common.{◌++◌}
use Rattle.std.specs.Prelude.{take, length, is_none}
use Rattle.std.specs.List.{list_all, range_with_len}
use Rattle.vax_form.specs.declared.instr.Access.{Access}
use Rattle.vax_form.specs.declared.instr.Access.TheVariants.{Read, Write, Modify, Address, Field, Branch}
use Rattle.vax_form.specs.declared.instr.Size.{Size}
use Rattle.vax_form.specs.declared.instr.Size.TheVariants.{Byte, Word, Long, Quad}
use Rattle.vax_form.specs.declared.instr.Base.TheVariants.{Deferred, Decrement, Increment, IncrementDeferred, Offset, Fixed}
use Rattle.vax_form.specs.declared.instr.Operand.{Operand}
use Rattle.vax_form.specs.declared.instr.Operand.TheVariants.{Value, Register, Place, Target}
use Rattle.vax_form.specs.GrammarModes.{mode_of, is_reserved_mode, is_reserved_base, extension_size, base_of, operand_of}
use Rattle.vax_form.specs.GrammarReading.{read_number, read_extension, read_base, read_plain, read_by_mode, read_general, read_displacement, read_specifier}
use Rattle.vax_form.specs.GrammarReading.{Shown, complete, reserved}

-- what the bytes specify at the address 1000, the same with more bytes behind them, and whether each beginning is too short
specified : Access → Size → List ℕ → Option (Shown Operand × ℕ) × Option (Shown Operand × ℕ) × Bool
unfolding mode_of is_reserved_mode is_reserved_base extension_size base_of operand_of read_number read_extension read_base read_plain read_by_mode read_general read_displacement read_specifier
specified access size bytes = (
  read_specifier access size 0x1000 bytes,
  read_specifier access size 0x1000 (bytes ++ 0x81 ∷ 0xFF ∷ 0 ∷ 0x5F ∷ 0x4F ∷ []),
  list_all (λ count. is_none (read_specifier access size 0x1000 (take count bytes))) (range_with_len 0 (length bytes)),
)

-- ---- short literals
row2 : specified Read Byte (0x0 ∷ []) ≡ (Some (complete (Value 0x0), 1), Some (complete (Value 0x0), 1), true)
unfolding specified
row2 = refl

row3 : specified Read Byte (0x5 ∷ []) ≡ (Some (complete (Value 0x5), 1), Some (complete (Value 0x5), 1), true)
unfolding specified
row3 = refl

row4 : specified Read Byte (0x3F ∷ []) ≡ (Some (complete (Value 0x3F), 1), Some (complete (Value 0x3F), 1), true)
unfolding specified
row4 = refl

row5 : specified Read Word (0x1 ∷ []) ≡ (Some (complete (Value 0x1), 1), Some (complete (Value 0x1), 1), true)
unfolding specified
row5 = refl

row6 : specified Read Word (0x2A ∷ []) ≡ (Some (complete (Value 0x2A), 1), Some (complete (Value 0x2A), 1), true)
unfolding specified
row6 = refl

row7 : specified Read Long (0x20 ∷ []) ≡ (Some (complete (Value 0x20), 1), Some (complete (Value 0x20), 1), true)
unfolding specified
row7 = refl

row8 : specified Read Long (0x3F ∷ []) ≡ (Some (complete (Value 0x3F), 1), Some (complete (Value 0x3F), 1), true)
unfolding specified
row8 = refl

row9 : specified Read Quad (0x3F ∷ []) ≡ (Some (complete (Value 0x3F), 1), Some (complete (Value 0x3F), 1), true)
unfolding specified
row9 = refl

row10 : specified Write Byte (0x0 ∷ []) ≡ (Some (reserved, 1), Some (reserved, 1), true)
unfolding specified
row10 = refl

row11 : specified Write Long (0x3F ∷ []) ≡ (Some (reserved, 1), Some (reserved, 1), true)
unfolding specified
row11 = refl

row12 : specified Write Quad (0x7 ∷ []) ≡ (Some (reserved, 1), Some (reserved, 1), true)
unfolding specified
row12 = refl

row13 : specified Modify Byte (0x5 ∷ []) ≡ (Some (reserved, 1), Some (reserved, 1), true)
unfolding specified
row13 = refl

row14 : specified Modify Word (0x3E ∷ []) ≡ (Some (reserved, 1), Some (reserved, 1), true)
unfolding specified
row14 = refl

row15 : specified Modify Long (0x10 ∷ []) ≡ (Some (reserved, 1), Some (reserved, 1), true)
unfolding specified
row15 = refl

row16 : specified Address Byte (0x0 ∷ []) ≡ (Some (reserved, 1), Some (reserved, 1), true)
unfolding specified
row16 = refl

row17 : specified Address Long (0x3F ∷ []) ≡ (Some (reserved, 1), Some (reserved, 1), true)
unfolding specified
row17 = refl

row18 : specified Address Quad (0x1F ∷ []) ≡ (Some (reserved, 1), Some (reserved, 1), true)
unfolding specified
row18 = refl

row19 : specified Field Byte (0x0 ∷ []) ≡ (Some (reserved, 1), Some (reserved, 1), true)
unfolding specified
row19 = refl

row20 : specified Field Byte (0x3F ∷ []) ≡ (Some (reserved, 1), Some (reserved, 1), true)
unfolding specified
row20 = refl

-- ---- registers
row22 : specified Read Byte (0x50 ∷ []) ≡ (Some (complete (Register 0), 1), Some (complete (Register 0), 1), true)
unfolding specified
row22 = refl

row23 : specified Read Word (0x57 ∷ []) ≡ (Some (complete (Register 7), 1), Some (complete (Register 7), 1), true)
unfolding specified
row23 = refl

row24 : specified Read Long (0x5C ∷ []) ≡ (Some (complete (Register 12), 1), Some (complete (Register 12), 1), true)
unfolding specified
row24 = refl

row25 : specified Read Long (0x5E ∷ []) ≡ (Some (complete (Register 14), 1), Some (complete (Register 14), 1), true)
unfolding specified
row25 = refl

row26 : specified Read Quad (0x50 ∷ []) ≡ (Some (complete (Register 0), 1), Some (complete (Register 0), 1), true)
unfolding specified
row26 = refl

row27 : specified Read Quad (0x5D ∷ []) ≡ (Some (complete (Register 13), 1), Some (complete (Register 13), 1), true)
unfolding specified
row27 = refl

row28 : specified Read Quad (0x5E ∷ []) ≡ (Some (reserved, 1), Some (reserved, 1), true)
unfolding specified
row28 = refl

row29 : specified Read Byte (0x5F ∷ []) ≡ (Some (reserved, 1), Some (reserved, 1), true)
unfolding specified
row29 = refl

row30 : specified Read Quad (0x5F ∷ []) ≡ (Some (reserved, 1), Some (reserved, 1), true)
unfolding specified
row30 = refl

row31 : specified Write Byte (0x53 ∷ []) ≡ (Some (complete (Register 3), 1), Some (complete (Register 3), 1), true)
unfolding specified
row31 = refl

row32 : specified Write Word (0x5E ∷ []) ≡ (Some (complete (Register 14), 1), Some (complete (Register 14), 1), true)
unfolding specified
row32 = refl

row33 : specified Write Long (0x52 ∷ []) ≡ (Some (complete (Register 2), 1), Some (complete (Register 2), 1), true)
unfolding specified
row33 = refl

row34 : specified Write Quad (0x5D ∷ []) ≡ (Some (complete (Register 13), 1), Some (complete (Register 13), 1), true)
unfolding specified
row34 = refl

row35 : specified Write Quad (0x5E ∷ []) ≡ (Some (reserved, 1), Some (reserved, 1), true)
unfolding specified
row35 = refl

row36 : specified Write Long (0x5F ∷ []) ≡ (Some (reserved, 1), Some (reserved, 1), true)
unfolding specified
row36 = refl

row37 : specified Modify Byte (0x51 ∷ []) ≡ (Some (complete (Register 1), 1), Some (complete (Register 1), 1), true)
unfolding specified
row37 = refl

row38 : specified Modify Long (0x5E ∷ []) ≡ (Some (complete (Register 14), 1), Some (complete (Register 14), 1), true)
unfolding specified
row38 = refl

row39 : specified Modify Word (0x5F ∷ []) ≡ (Some (reserved, 1), Some (reserved, 1), true)
unfolding specified
row39 = refl

row40 : specified Field Byte (0x55 ∷ []) ≡ (Some (complete (Register 5), 1), Some (complete (Register 5), 1), true)
unfolding specified
row40 = refl

row41 : specified Field Byte (0x5E ∷ []) ≡ (Some (complete (Register 14), 1), Some (complete (Register 14), 1), true)
unfolding specified
row41 = refl

row42 : specified Field Byte (0x5F ∷ []) ≡ (Some (reserved, 1), Some (reserved, 1), true)
unfolding specified
row42 = refl

row43 : specified Address Byte (0x50 ∷ []) ≡ (Some (reserved, 1), Some (reserved, 1), true)
unfolding specified
row43 = refl

row44 : specified Address Long (0x5D ∷ []) ≡ (Some (reserved, 1), Some (reserved, 1), true)
unfolding specified
row44 = refl

row45 : specified Address Quad (0x5E ∷ []) ≡ (Some (reserved, 1), Some (reserved, 1), true)
unfolding specified
row45 = refl

row46 : specified Address Byte (0x5F ∷ []) ≡ (Some (reserved, 1), Some (reserved, 1), true)
unfolding specified
row46 = refl

-- ---- register deferred
row48 : specified Read Byte (0x60 ∷ []) ≡ (Some (complete (Place (Deferred 0) None), 1), Some (complete (Place (Deferred 0) None), 1), true)
unfolding specified
row48 = refl

row49 : specified Read Quad (0x6E ∷ []) ≡ (Some (complete (Place (Deferred 14) None), 1), Some (complete (Place (Deferred 14) None), 1), true)
unfolding specified
row49 = refl

row50 : specified Write Byte (0x61 ∷ []) ≡ (Some (complete (Place (Deferred 1) None), 1), Some (complete (Place (Deferred 1) None), 1), true)
unfolding specified
row50 = refl

row51 : specified Modify Word (0x62 ∷ []) ≡ (Some (complete (Place (Deferred 2) None), 1), Some (complete (Place (Deferred 2) None), 1), true)
unfolding specified
row51 = refl

row52 : specified Address Long (0x6D ∷ []) ≡ (Some (complete (Place (Deferred 13) None), 1), Some (complete (Place (Deferred 13) None), 1), true)
unfolding specified
row52 = refl

row53 : specified Field Byte (0x63 ∷ []) ≡ (Some (complete (Place (Deferred 3) None), 1), Some (complete (Place (Deferred 3) None), 1), true)
unfolding specified
row53 = refl

row54 : specified Read Long (0x6F ∷ []) ≡ (Some (reserved, 1), Some (reserved, 1), true)
unfolding specified
row54 = refl

row55 : specified Address Byte (0x6F ∷ []) ≡ (Some (reserved, 1), Some (reserved, 1), true)
unfolding specified
row55 = refl

-- ---- autodecrement
row57 : specified Read Byte (0x70 ∷ []) ≡ (Some (complete (Place (Decrement 0) None), 1), Some (complete (Place (Decrement 0) None), 1), true)
unfolding specified
row57 = refl

row58 : specified Write Long (0x7E ∷ []) ≡ (Some (complete (Place (Decrement 14) None), 1), Some (complete (Place (Decrement 14) None), 1), true)
unfolding specified
row58 = refl

row59 : specified Modify Word (0x79 ∷ []) ≡ (Some (complete (Place (Decrement 9) None), 1), Some (complete (Place (Decrement 9) None), 1), true)
unfolding specified
row59 = refl

row60 : specified Address Quad (0x7A ∷ []) ≡ (Some (complete (Place (Decrement 10) None), 1), Some (complete (Place (Decrement 10) None), 1), true)
unfolding specified
row60 = refl

row61 : specified Field Byte (0x7B ∷ []) ≡ (Some (complete (Place (Decrement 11) None), 1), Some (complete (Place (Decrement 11) None), 1), true)
unfolding specified
row61 = refl

row62 : specified Read Byte (0x7F ∷ []) ≡ (Some (reserved, 1), Some (reserved, 1), true)
unfolding specified
row62 = refl

row63 : specified Write Quad (0x7F ∷ []) ≡ (Some (reserved, 1), Some (reserved, 1), true)
unfolding specified
row63 = refl

-- ---- autoincrement and immediate
row65 : specified Read Long (0x81 ∷ []) ≡ (Some (complete (Place (Increment 1) None), 1), Some (complete (Place (Increment 1) None), 1), true)
unfolding specified
row65 = refl

row66 : specified Read Word (0x8E ∷ []) ≡ (Some (complete (Place (Increment 14) None), 1), Some (complete (Place (Increment 14) None), 1), true)
unfolding specified
row66 = refl

row67 : specified Write Byte (0x80 ∷ []) ≡ (Some (complete (Place (Increment 0) None), 1), Some (complete (Place (Increment 0) None), 1), true)
unfolding specified
row67 = refl

row68 : specified Modify Long (0x82 ∷ []) ≡ (Some (complete (Place (Increment 2) None), 1), Some (complete (Place (Increment 2) None), 1), true)
unfolding specified
row68 = refl

row69 : specified Address Quad (0x83 ∷ []) ≡ (Some (complete (Place (Increment 3) None), 1), Some (complete (Place (Increment 3) None), 1), true)
unfolding specified
row69 = refl

row70 : specified Field Byte (0x84 ∷ []) ≡ (Some (complete (Place (Increment 4) None), 1), Some (complete (Place (Increment 4) None), 1), true)
unfolding specified
row70 = refl

row71 : specified Read Byte (0x8F ∷ 0xEE ∷ []) ≡ (Some (complete (Value 0xEE), 2), Some (complete (Value 0xEE), 2), true)
unfolding specified
row71 = refl

row72 : specified Read Word (0x8F ∷ 0xDD ∷ 0xEE ∷ []) ≡ (Some (complete (Value 0xEEDD), 3), Some (complete (Value 0xEEDD), 3), true)
unfolding specified
row72 = refl

row73 : specified Read Long (0x8F ∷ 0x3 ∷ 0x10 ∷ 0x0 ∷ 0x0 ∷ []) ≡ (Some (complete (Value 0x1003), 5), Some (complete (Value 0x1003), 5), true)
unfolding specified
row73 = refl

row74 : specified Read Long (0x8F ∷ 0xFF ∷ 0xFF ∷ 0xFF ∷ 0xFF ∷ []) ≡ (Some (complete (Value 0xFFFFFFFF), 5), Some (complete (Value 0xFFFFFFFF), 5), true)
unfolding specified
row74 = refl

row75 : specified Read Quad (0x8F ∷ 0x1 ∷ 0x2 ∷ 0x3 ∷ 0x4 ∷ 0x5 ∷ 0x6 ∷ 0x7 ∷ 0x8 ∷ []) ≡ (Some (complete (Value 0x807060504030201), 9), Some (complete (Value 0x807060504030201), 9), true)
unfolding specified
row75 = refl

row76 : specified Address Byte (0x8F ∷ 0xEE ∷ []) ≡ (Some (complete (Place (Fixed 0x1001 false) None), 2), Some (complete (Place (Fixed 0x1001 false) None), 2), true)
unfolding specified
row76 = refl

row77 : specified Address Word (0x8F ∷ 0x1 ∷ 0x2 ∷ []) ≡ (Some (complete (Place (Fixed 0x1001 false) None), 3), Some (complete (Place (Fixed 0x1001 false) None), 3), true)
unfolding specified
row77 = refl

row78 : specified Address Long (0x8F ∷ 0x1 ∷ 0x2 ∷ 0x3 ∷ 0x4 ∷ []) ≡ (Some (complete (Place (Fixed 0x1001 false) None), 5), Some (complete (Place (Fixed 0x1001 false) None), 5), true)
unfolding specified
row78 = refl

row79 : specified Address Quad (0x8F ∷ 0x1 ∷ 0x2 ∷ 0x3 ∷ 0x4 ∷ 0x5 ∷ 0x6 ∷ 0x7 ∷ 0x8 ∷ []) ≡ (Some (complete (Place (Fixed 0x1001 false) None), 9), Some (complete (Place (Fixed 0x1001 false) None), 9), true)
unfolding specified
row79 = refl

row80 : specified Field Byte (0x8F ∷ 0x80 ∷ []) ≡ (Some (complete (Place (Fixed 0x1001 false) None), 2), Some (complete (Place (Fixed 0x1001 false) None), 2), true)
unfolding specified
row80 = refl

row81 : specified Write Byte (0x8F ∷ []) ≡ (Some (reserved, 1), Some (reserved, 1), true)
unfolding specified
row81 = refl

row82 : specified Write Long (0x8F ∷ []) ≡ (Some (reserved, 1), Some (reserved, 1), true)
unfolding specified
row82 = refl

row83 : specified Modify Word (0x8F ∷ []) ≡ (Some (reserved, 1), Some (reserved, 1), true)
unfolding specified
row83 = refl

row84 : specified Modify Long (0x8F ∷ []) ≡ (Some (reserved, 1), Some (reserved, 1), true)
unfolding specified
row84 = refl

-- ---- autoincrement deferred and absolute
row86 : specified Read Byte (0x90 ∷ []) ≡ (Some (complete (Place (IncrementDeferred 0) None), 1), Some (complete (Place (IncrementDeferred 0) None), 1), true)
unfolding specified
row86 = refl

row87 : specified Write Long (0x9E ∷ []) ≡ (Some (complete (Place (IncrementDeferred 14) None), 1), Some (complete (Place (IncrementDeferred 14) None), 1), true)
unfolding specified
row87 = refl

row88 : specified Modify Word (0x95 ∷ []) ≡ (Some (complete (Place (IncrementDeferred 5) None), 1), Some (complete (Place (IncrementDeferred 5) None), 1), true)
unfolding specified
row88 = refl

row89 : specified Address Quad (0x96 ∷ []) ≡ (Some (complete (Place (IncrementDeferred 6) None), 1), Some (complete (Place (IncrementDeferred 6) None), 1), true)
unfolding specified
row89 = refl

row90 : specified Field Byte (0x97 ∷ []) ≡ (Some (complete (Place (IncrementDeferred 7) None), 1), Some (complete (Place (IncrementDeferred 7) None), 1), true)
unfolding specified
row90 = refl

row91 : specified Address Byte (0x9F ∷ 0x20 ∷ 0x2 ∷ 0x0 ∷ 0x0 ∷ []) ≡ (Some (complete (Place (Fixed 0x220 false) None), 5), Some (complete (Place (Fixed 0x220 false) None), 5), true)
unfolding specified
row91 = refl

row92 : specified Read Long (0x9F ∷ 0x0 ∷ 0x10 ∷ 0x0 ∷ 0x0 ∷ []) ≡ (Some (complete (Place (Fixed 0x1000 false) None), 5), Some (complete (Place (Fixed 0x1000 false) None), 5), true)
unfolding specified
row92 = refl

row93 : specified Write Word (0x9F ∷ 0xFF ∷ 0xFF ∷ 0xFF ∷ 0x7F ∷ []) ≡ (Some (complete (Place (Fixed 0x7FFFFFFF false) None), 5), Some (complete (Place (Fixed 0x7FFFFFFF false) None), 5), true)
unfolding specified
row93 = refl

row94 : specified Modify Byte (0x9F ∷ 0x78 ∷ 0x56 ∷ 0x34 ∷ 0x12 ∷ []) ≡ (Some (complete (Place (Fixed 0x12345678 false) None), 5), Some (complete (Place (Fixed 0x12345678 false) None), 5), true)
unfolding specified
row94 = refl

row95 : specified Field Byte (0x9F ∷ 0xFF ∷ 0xFF ∷ 0xFF ∷ 0xFF ∷ []) ≡ (Some (complete (Place (Fixed 0xFFFFFFFF false) None), 5), Some (complete (Place (Fixed 0xFFFFFFFF false) None), 5), true)
unfolding specified
row95 = refl

-- ---- displacements
row97 : specified Read Byte (0xA0 ∷ 0x0 ∷ []) ≡ (Some (complete (Place (Offset 0 0x0 false) None), 2), Some (complete (Place (Offset 0 0x0 false) None), 2), true)
unfolding specified
row97 = refl

row98 : specified Read Long (0xAC ∷ 0x4 ∷ []) ≡ (Some (complete (Place (Offset 12 0x4 false) None), 2), Some (complete (Place (Offset 12 0x4 false) None), 2), true)
unfolding specified
row98 = refl

row99 : specified Write Word (0xA1 ∷ 0x7F ∷ []) ≡ (Some (complete (Place (Offset 1 0x7F false) None), 2), Some (complete (Place (Offset 1 0x7F false) None), 2), true)
unfolding specified
row99 = refl

row100 : specified Modify Word (0xA1 ∷ 0x80 ∷ []) ≡ (Some (complete (Place (Offset 1 0xFFFFFF80 false) None), 2), Some (complete (Place (Offset 1 0xFFFFFF80 false) None), 2), true)
unfolding specified
row100 = refl

row101 : specified Address Quad (0xAE ∷ 0xFF ∷ []) ≡ (Some (complete (Place (Offset 14 0xFFFFFFFF false) None), 2), Some (complete (Place (Offset 14 0xFFFFFFFF false) None), 2), true)
unfolding specified
row101 = refl

row102 : specified Read Long (0xBD ∷ 0x8 ∷ []) ≡ (Some (complete (Place (Offset 13 0x8 true) None), 2), Some (complete (Place (Offset 13 0x8 true) None), 2), true)
unfolding specified
row102 = refl

row103 : specified Field Byte (0xB2 ∷ 0xFC ∷ []) ≡ (Some (complete (Place (Offset 2 0xFFFFFFFC true) None), 2), Some (complete (Place (Offset 2 0xFFFFFFFC true) None), 2), true)
unfolding specified
row103 = refl

row104 : specified Read Long (0xC3 ∷ 0x34 ∷ 0x12 ∷ []) ≡ (Some (complete (Place (Offset 3 0x1234 false) None), 3), Some (complete (Place (Offset 3 0x1234 false) None), 3), true)
unfolding specified
row104 = refl

row105 : specified Write Byte (0xC3 ∷ 0xFF ∷ 0x7F ∷ []) ≡ (Some (complete (Place (Offset 3 0x7FFF false) None), 3), Some (complete (Place (Offset 3 0x7FFF false) None), 3), true)
unfolding specified
row105 = refl

row106 : specified Modify Long (0xCE ∷ 0x0 ∷ 0x80 ∷ []) ≡ (Some (complete (Place (Offset 14 0xFFFF8000 false) None), 3), Some (complete (Place (Offset 14 0xFFFF8000 false) None), 3), true)
unfolding specified
row106 = refl

row107 : specified Address Word (0xD4 ∷ 0xFE ∷ 0xFF ∷ []) ≡ (Some (complete (Place (Offset 4 0xFFFFFFFE true) None), 3), Some (complete (Place (Offset 4 0xFFFFFFFE true) None), 3), true)
unfolding specified
row107 = refl

row108 : specified Write Byte (0xE0 ∷ 0x0 ∷ 0x10 ∷ 0x0 ∷ 0x0 ∷ []) ≡ (Some (complete (Place (Offset 0 0x1000 false) None), 5), Some (complete (Place (Offset 0 0x1000 false) None), 5), true)
unfolding specified
row108 = refl

row109 : specified Read Quad (0xE5 ∷ 0xFF ∷ 0xFF ∷ 0xFF ∷ 0x7F ∷ []) ≡ (Some (complete (Place (Offset 5 0x7FFFFFFF false) None), 5), Some (complete (Place (Offset 5 0x7FFFFFFF false) None), 5), true)
unfolding specified
row109 = refl

row110 : specified Read Quad (0xE5 ∷ 0x0 ∷ 0x0 ∷ 0x0 ∷ 0x80 ∷ []) ≡ (Some (complete (Place (Offset 5 0x80000000 false) None), 5), Some (complete (Place (Offset 5 0x80000000 false) None), 5), true)
unfolding specified
row110 = refl

row111 : specified Modify Long (0xF6 ∷ 0x78 ∷ 0x56 ∷ 0x34 ∷ 0x12 ∷ []) ≡ (Some (complete (Place (Offset 6 0x12345678 true) None), 5), Some (complete (Place (Offset 6 0x12345678 true) None), 5), true)
unfolding specified
row111 = refl

row112 : specified Field Byte (0xFE ∷ 0xFF ∷ 0xFF ∷ 0xFF ∷ 0xFF ∷ []) ≡ (Some (complete (Place (Offset 14 0xFFFFFFFF true) None), 5), Some (complete (Place (Offset 14 0xFFFFFFFF true) None), 5), true)
unfolding specified
row112 = refl

-- ---- relative addresses
row114 : specified Address Byte (0xAF ∷ 0x5 ∷ []) ≡ (Some (complete (Place (Fixed 0x1007 false) None), 2), Some (complete (Place (Fixed 0x1007 false) None), 2), true)
unfolding specified
row114 = refl

row115 : specified Read Long (0xAF ∷ 0xFE ∷ []) ≡ (Some (complete (Place (Fixed 0x1000 false) None), 2), Some (complete (Place (Fixed 0x1000 false) None), 2), true)
unfolding specified
row115 = refl

row116 : specified Write Byte (0xAF ∷ 0x80 ∷ []) ≡ (Some (complete (Place (Fixed 0xF82 false) None), 2), Some (complete (Place (Fixed 0xF82 false) None), 2), true)
unfolding specified
row116 = refl

row117 : specified Modify Word (0xBF ∷ 0x7F ∷ []) ≡ (Some (complete (Place (Fixed 0x1081 true) None), 2), Some (complete (Place (Fixed 0x1081 true) None), 2), true)
unfolding specified
row117 = refl

row118 : specified Address Quad (0xCF ∷ 0x0 ∷ 0x1 ∷ []) ≡ (Some (complete (Place (Fixed 0x1103 false) None), 3), Some (complete (Place (Fixed 0x1103 false) None), 3), true)
unfolding specified
row118 = refl

row119 : specified Read Byte (0xCF ∷ 0xFD ∷ 0xFF ∷ []) ≡ (Some (complete (Place (Fixed 0x1000 false) None), 3), Some (complete (Place (Fixed 0x1000 false) None), 3), true)
unfolding specified
row119 = refl

row120 : specified Read Byte (0xCF ∷ 0x0 ∷ 0x80 ∷ []) ≡ (Some (complete (Place (Fixed 0xFFFF9003 false) None), 3), Some (complete (Place (Fixed 0xFFFF9003 false) None), 3), true)
unfolding specified
row120 = refl

row121 : specified Field Byte (0xDF ∷ 0xFF ∷ 0x7F ∷ []) ≡ (Some (complete (Place (Fixed 0x9002 true) None), 3), Some (complete (Place (Fixed 0x9002 true) None), 3), true)
unfolding specified
row121 = refl

row122 : specified Write Long (0xEF ∷ 0x0 ∷ 0x0 ∷ 0x1 ∷ 0x0 ∷ []) ≡ (Some (complete (Place (Fixed 0x11005 false) None), 5), Some (complete (Place (Fixed 0x11005 false) None), 5), true)
unfolding specified
row122 = refl

row123 : specified Read Long (0xEF ∷ 0xFB ∷ 0xEF ∷ 0xFF ∷ 0xFF ∷ []) ≡ (Some (complete (Place (Fixed 0x0 false) None), 5), Some (complete (Place (Fixed 0x0 false) None), 5), true)
unfolding specified
row123 = refl

row124 : specified Address Byte (0xFF ∷ 0xFA ∷ 0xFF ∷ 0xFF ∷ 0xFF ∷ []) ≡ (Some (complete (Place (Fixed 0xFFF true) None), 5), Some (complete (Place (Fixed 0xFFF true) None), 5), true)
unfolding specified
row124 = refl

-- ---- indexed operands
row126 : specified Read Byte (0x40 ∷ 0x61 ∷ []) ≡ (Some (complete (Place (Deferred 1) (Some 0)), 2), Some (complete (Place (Deferred 1) (Some 0)), 2), true)
unfolding specified
row126 = refl

row127 : specified Write Long (0x4E ∷ 0x6E ∷ []) ≡ (Some (complete (Place (Deferred 14) (Some 14)), 2), Some (complete (Place (Deferred 14) (Some 14)), 2), true)
unfolding specified
row127 = refl

row128 : specified Modify Word (0x42 ∷ 0x71 ∷ []) ≡ (Some (complete (Place (Decrement 1) (Some 2)), 2), Some (complete (Place (Decrement 1) (Some 2)), 2), true)
unfolding specified
row128 = refl

row129 : specified Read Quad (0x41 ∷ 0x82 ∷ []) ≡ (Some (complete (Place (Increment 2) (Some 1)), 2), Some (complete (Place (Increment 2) (Some 1)), 2), true)
unfolding specified
row129 = refl

row130 : specified Address Long (0x43 ∷ 0x94 ∷ []) ≡ (Some (complete (Place (IncrementDeferred 4) (Some 3)), 2), Some (complete (Place (IncrementDeferred 4) (Some 3)), 2), true)
unfolding specified
row130 = refl

row131 : specified Write Byte (0x45 ∷ 0x9F ∷ 0x0 ∷ 0x10 ∷ 0x0 ∷ 0x0 ∷ []) ≡ (Some (complete (Place (Fixed 0x1000 false) (Some 5)), 6), Some (complete (Place (Fixed 0x1000 false) (Some 5)), 6), true)
unfolding specified
row131 = refl

row132 : specified Field Byte (0x46 ∷ 0xA7 ∷ 0x10 ∷ []) ≡ (Some (complete (Place (Offset 7 0x10 false) (Some 6)), 3), Some (complete (Place (Offset 7 0x10 false) (Some 6)), 3), true)
unfolding specified
row132 = refl

row133 : specified Read Long (0x46 ∷ 0xA6 ∷ 0xF0 ∷ []) ≡ (Some (complete (Place (Offset 6 0xFFFFFFF0 false) (Some 6)), 3), Some (complete (Place (Offset 6 0xFFFFFFF0 false) (Some 6)), 3), true)
unfolding specified
row133 = refl

row134 : specified Read Long (0x48 ∷ 0xB9 ∷ 0x1 ∷ []) ≡ (Some (complete (Place (Offset 9 0x1 true) (Some 8)), 3), Some (complete (Place (Offset 9 0x1 true) (Some 8)), 3), true)
unfolding specified
row134 = refl

row135 : specified Address Byte (0x4A ∷ 0xCB ∷ 0x0 ∷ 0x80 ∷ []) ≡ (Some (complete (Place (Offset 11 0xFFFF8000 false) (Some 10)), 4), Some (complete (Place (Offset 11 0xFFFF8000 false) (Some 10)), 4), true)
unfolding specified
row135 = refl

row136 : specified Modify Long (0x4C ∷ 0xDD ∷ 0x2 ∷ 0x0 ∷ []) ≡ (Some (complete (Place (Offset 13 0x2 true) (Some 12)), 4), Some (complete (Place (Offset 13 0x2 true) (Some 12)), 4), true)
unfolding specified
row136 = refl

row137 : specified Read Word (0x40 ∷ 0xE1 ∷ 0x0 ∷ 0x0 ∷ 0x0 ∷ 0x40 ∷ []) ≡ (Some (complete (Place (Offset 1 0x40000000 false) (Some 0)), 6), Some (complete (Place (Offset 1 0x40000000 false) (Some 0)), 6), true)
unfolding specified
row137 = refl

row138 : specified Write Quad (0x40 ∷ 0xF1 ∷ 0x0 ∷ 0x0 ∷ 0x0 ∷ 0xC0 ∷ []) ≡ (Some (complete (Place (Offset 1 0xC0000000 true) (Some 0)), 6), Some (complete (Place (Offset 1 0xC0000000 true) (Some 0)), 6), true)
unfolding specified
row138 = refl

row139 : specified Address Long (0x47 ∷ 0xAF ∷ 0x10 ∷ []) ≡ (Some (complete (Place (Fixed 0x1013 false) (Some 7)), 3), Some (complete (Place (Fixed 0x1013 false) (Some 7)), 3), true)
unfolding specified
row139 = refl

row140 : specified Read Byte (0x47 ∷ 0xCF ∷ 0xFC ∷ 0xFF ∷ []) ≡ (Some (complete (Place (Fixed 0x1000 false) (Some 7)), 4), Some (complete (Place (Fixed 0x1000 false) (Some 7)), 4), true)
unfolding specified
row140 = refl

row141 : specified Read Byte (0x47 ∷ 0xFF ∷ 0x0 ∷ 0x0 ∷ 0x0 ∷ 0x0 ∷ []) ≡ (Some (complete (Place (Fixed 0x1006 true) (Some 7)), 6), Some (complete (Place (Fixed 0x1006 true) (Some 7)), 6), true)
unfolding specified
row141 = refl

-- ---- reserved indices and bases
row143 : specified Read Byte (0x4F ∷ []) ≡ (Some (reserved, 1), Some (reserved, 1), true)
unfolding specified
row143 = refl

row144 : specified Address Quad (0x4F ∷ []) ≡ (Some (reserved, 1), Some (reserved, 1), true)
unfolding specified
row144 = refl

row145 : specified Field Byte (0x4F ∷ []) ≡ (Some (reserved, 1), Some (reserved, 1), true)
unfolding specified
row145 = refl

row146 : specified Read Byte (0x40 ∷ 0x0 ∷ []) ≡ (Some (reserved, 2), Some (reserved, 2), true)
unfolding specified
row146 = refl

row147 : specified Write Long (0x41 ∷ 0x3F ∷ []) ≡ (Some (reserved, 2), Some (reserved, 2), true)
unfolding specified
row147 = refl

row148 : specified Read Word (0x40 ∷ 0x41 ∷ []) ≡ (Some (reserved, 2), Some (reserved, 2), true)
unfolding specified
row148 = refl

row149 : specified Address Byte (0x40 ∷ 0x4F ∷ []) ≡ (Some (reserved, 2), Some (reserved, 2), true)
unfolding specified
row149 = refl

row150 : specified Read Byte (0x40 ∷ 0x51 ∷ []) ≡ (Some (reserved, 2), Some (reserved, 2), true)
unfolding specified
row150 = refl

row151 : specified Write Quad (0x40 ∷ 0x5F ∷ []) ≡ (Some (reserved, 2), Some (reserved, 2), true)
unfolding specified
row151 = refl

row152 : specified Read Long (0x40 ∷ 0x6F ∷ []) ≡ (Some (reserved, 2), Some (reserved, 2), true)
unfolding specified
row152 = refl

row153 : specified Modify Byte (0x40 ∷ 0x7F ∷ []) ≡ (Some (reserved, 2), Some (reserved, 2), true)
unfolding specified
row153 = refl

row154 : specified Read Long (0x40 ∷ 0x8F ∷ []) ≡ (Some (reserved, 2), Some (reserved, 2), true)
unfolding specified
row154 = refl

row155 : specified Address Byte (0x40 ∷ 0x8F ∷ []) ≡ (Some (reserved, 2), Some (reserved, 2), true)
unfolding specified
row155 = refl

-- ---- bases that step the index register
row157 : specified Read Byte (0x41 ∷ 0x71 ∷ []) ≡ (Some (reserved, 2), Some (reserved, 2), true)
unfolding specified
row157 = refl

row158 : specified Write Long (0x4E ∷ 0x7E ∷ []) ≡ (Some (reserved, 2), Some (reserved, 2), true)
unfolding specified
row158 = refl

row159 : specified Read Word (0x40 ∷ 0x80 ∷ []) ≡ (Some (reserved, 2), Some (reserved, 2), true)
unfolding specified
row159 = refl

row160 : specified Address Byte (0x42 ∷ 0x82 ∷ []) ≡ (Some (reserved, 2), Some (reserved, 2), true)
unfolding specified
row160 = refl

row161 : specified Modify Long (0x43 ∷ 0x93 ∷ []) ≡ (Some (reserved, 2), Some (reserved, 2), true)
unfolding specified
row161 = refl

row162 : specified Field Byte (0x4D ∷ 0x9D ∷ []) ≡ (Some (reserved, 2), Some (reserved, 2), true)
unfolding specified
row162 = refl

-- ---- branch displacements
row164 : specified Branch Byte (0x0 ∷ []) ≡ (Some (complete (Target 0x1001), 1), Some (complete (Target 0x1001), 1), true)
unfolding specified
row164 = refl

row165 : specified Branch Byte (0x7F ∷ []) ≡ (Some (complete (Target 0x1080), 1), Some (complete (Target 0x1080), 1), true)
unfolding specified
row165 = refl

row166 : specified Branch Byte (0xFE ∷ []) ≡ (Some (complete (Target 0xFFF), 1), Some (complete (Target 0xFFF), 1), true)
unfolding specified
row166 = refl

row167 : specified Branch Byte (0x80 ∷ []) ≡ (Some (complete (Target 0xF81), 1), Some (complete (Target 0xF81), 1), true)
unfolding specified
row167 = refl

row168 : specified Branch Word (0x0 ∷ 0x1 ∷ []) ≡ (Some (complete (Target 0x1102), 2), Some (complete (Target 0x1102), 2), true)
unfolding specified
row168 = refl

row169 : specified Branch Word (0xFF ∷ 0x7F ∷ []) ≡ (Some (complete (Target 0x9001), 2), Some (complete (Target 0x9001), 2), true)
unfolding specified
row169 = refl

row170 : specified Branch Word (0xFC ∷ 0xFF ∷ []) ≡ (Some (complete (Target 0xFFE), 2), Some (complete (Target 0xFFE), 2), true)
unfolding specified
row170 = refl

row171 : specified Branch Word (0x0 ∷ 0x80 ∷ []) ≡ (Some (complete (Target 0xFFFF9002), 2), Some (complete (Target 0xFFFF9002), 2), true)
unfolding specified
row171 = refl
