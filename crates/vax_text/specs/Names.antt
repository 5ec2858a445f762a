-- The names of the opcodes, a row for each that is no reserved one.
-- VAX Architecture Reference Manual, "Instruction Set Summary"; 1E and 1F, which have two names each there, are BCC and BCS.
use Rattle.std.specs.Prelude.{◌≡◌, ◌<◌, ℕ, ◌==◌, nat_lt, Bool, true, false, List, [], ◌∷◌, codes, if◌then◌else◌, is_some}
use Rattle.vax_form.specs.Operation.{operation_at}

-- below 40
unfoldable pub low_names : List (ℕ × List ℕ)
low_names =
    (0x01, codes "NOP")
    ∷ (0x03, codes "BPT")
    ∷ (0x04, codes "RET")
    ∷ (0x05, codes "RSB")
    ∷ (0x0A, codes "INDEX")
    ∷ (0x10, codes "BSBB")
    ∷ (0x11, codes "BRB")
    ∷ (0x12, codes "BNEQ")
    ∷ (0x13, codes "BEQL")
    ∷ (0x14, codes "BGTR")
    ∷ (0x15, codes "BLEQ")
    ∷ (0x16, codes "JSB")
    ∷ (0x17, codes "JMP")
    ∷ (0x18, codes "BGEQ")
    ∷ (0x19, codes "BLSS")
    ∷ (0x1A, codes "BGTRU")
    ∷ (0x1B, codes "BLEQU")
    ∷ (0x1C, codes "BVC")
    ∷ (0x1D, codes "BVS")
    ∷ (0x1E, codes "BCC")
    ∷ (0x1F, codes "BCS")
    ∷ (0x28, codes "MOVC3")
    ∷ (0x29, codes "CMPC3")
    ∷ (0x2C, codes "MOVC5")
    ∷ (0x30, codes "BSBW")
    ∷ (0x31, codes "BRW")
    ∷ (0x32, codes "CVTWL")
    ∷ (0x33, codes "CVTWB")
    ∷ (0x3A, codes "LOCC")
    ∷ (0x3B, codes "SKPC")
    ∷ (0x3C, codes "MOVZWL")
    ∷ (0x3D, codes "ACBW")
    ∷ (0x3E, codes "MOVAW")
    ∷ (0x3F, codes "PUSHAW")
    ∷ []

-- from 40 to 97
unfoldable pub byte_names : List (ℕ × List ℕ)
byte_names =
    (0x58, codes "ADAWI")
    ∷ (0x78, codes "ASHL")
    ∷ (0x7A, codes "EMUL")
    ∷ (0x7C, codes "CLRQ")
    ∷ (0x7D, codes "MOVQ")
    ∷ (0x7E, codes "MOVAQ")
    ∷ (0x7F, codes "PUSHAQ")
    ∷ (0x80, codes "ADDB2")
    ∷ (0x81, codes "ADDB3")
    ∷ (0x82, codes "SUBB2")
    ∷ (0x83, codes "SUBB3")
    ∷ (0x84, codes "MULB2")
    ∷ (0x85, codes "MULB3")
    ∷ (0x86, codes "DIVB2")
    ∷ (0x87, codes "DIVB3")
    ∷ (0x88, codes "BISB2")
    ∷ (0x89, codes "BISB3")
    ∷ (0x8A, codes "BICB2")
    ∷ (0x8B, codes "BICB3")
    ∷ (0x8C, codes "XORB2")
    ∷ (0x8D, codes "XORB3")
    ∷ (0x8E, codes "MNEGB")
    ∷ (0x8F, codes "CASEB")
    ∷ (0x90, codes "MOVB")
    ∷ (0x91, codes "CMPB")
    ∷ (0x92, codes "MCOMB")
    ∷ (0x93, codes "BITB")
    ∷ (0x94, codes "CLRB")
    ∷ (0x95, codes "TSTB")
    ∷ (0x96, codes "INCB")
    ∷ (0x97, codes "DECB")
    ∷ []

-- from 98 to B7
unfoldable pub word_names : List (ℕ × List ℕ)
word_names =
    (0x98, codes "CVTBL")
    ∷ (0x99, codes "CVTBW")
    ∷ (0x9A, codes "MOVZBL")
    ∷ (0x9B, codes "MOVZBW")
    ∷ (0x9C, codes "ROTL")
    ∷ (0x9D, codes "ACBB")
    ∷ (0x9E, codes "MOVAB")
    ∷ (0x9F, codes "PUSHAB")
    ∷ (0xA0, codes "ADDW2")
    ∷ (0xA1, codes "ADDW3")
    ∷ (0xA2, codes "SUBW2")
    ∷ (0xA3, codes "SUBW3")
    ∷ (0xA4, codes "MULW2")
    ∷ (0xA5, codes "MULW3")
    ∷ (0xA6, codes "DIVW2")
    ∷ (0xA7, codes "DIVW3")
    ∷ (0xA8, codes "BISW2")
    ∷ (0xA9, codes "BISW3")
    ∷ (0xAA, codes "BICW2")
    ∷ (0xAB, codes "BICW3")
    ∷ (0xAC, codes "XORW2")
    ∷ (0xAD, codes "XORW3")
    ∷ (0xAE, codes "MNEGW")
    ∷ (0xAF, codes "CASEW")
    ∷ (0xB0, codes "MOVW")
    ∷ (0xB1, codes "CMPW")
    ∷ (0xB2, codes "MCOMW")
    ∷ (0xB3, codes "BITW")
    ∷ (0xB4, codes "CLRW")
    ∷ (0xB5, codes "TSTW")
    ∷ (0xB6, codes "INCW")
    ∷ (0xB7, codes "DECW")
    ∷ []

-- from B8 to D7
unfoldable pub long_names : List (ℕ × List ℕ)
long_names =
    (0xB8, codes "BISPSW")
    ∷ (0xB9, codes "BICPSW")
    ∷ (0xBA, codes "POPR")
    ∷ (0xBB, codes "PUSHR")
    ∷ (0xBC, codes "CHMK")
    ∷ (0xC0, codes "ADDL2")
    ∷ (0xC1, codes "ADDL3")
    ∷ (0xC2, codes "SUBL2")
    ∷ (0xC3, codes "SUBL3")
    ∷ (0xC4, codes "MULL2")
    ∷ (0xC5, codes "MULL3")
    ∷ (0xC6, codes "DIVL2")
    ∷ (0xC7, codes "DIVL3")
    ∷ (0xC8, codes "BISL2")
    ∷ (0xC9, codes "BISL3")
    ∷ (0xCA, codes "BICL2")
    ∷ (0xCB, codes "BICL3")
    ∷ (0xCC, codes "XORL2")
    ∷ (0xCD, codes "XORL3")
    ∷ (0xCE, codes "MNEGL")
    ∷ (0xCF, codes "CASEL")
    ∷ (0xD0, codes "MOVL")
    ∷ (0xD1, codes "CMPL")
    ∷ (0xD2, codes "MCOML")
    ∷ (0xD3, codes "BITL")
    ∷ (0xD4, codes "CLRL")
    ∷ (0xD5, codes "TSTL")
    ∷ (0xD6, codes "INCL")
    ∷ (0xD7, codes "DECL")
    ∷ []

-- from D8 on
unfoldable pub high_names : List (ℕ × List ℕ)
high_names =
    (0xD8, codes "ADWC")
    ∷ (0xD9, codes "SBWC")
    ∷ (0xDC, codes "MOVPSL")
    ∷ (0xDD, codes "PUSHL")
    ∷ (0xDE, codes "MOVAL")
    ∷ (0xDF, codes "PUSHAL")
    ∷ (0xE0, codes "BBS")
    ∷ (0xE1, codes "BBC")
    ∷ (0xE2, codes "BBSS")
    ∷ (0xE3, codes "BBCS")
    ∷ (0xE4, codes "BBSC")
    ∷ (0xE5, codes "BBCC")
    ∷ (0xE6, codes "BBSSI")
    ∷ (0xE7, codes "BBCCI")
    ∷ (0xE8, codes "BLBS")
    ∷ (0xE9, codes "BLBC")
    ∷ (0xEE, codes "EXTV")
    ∷ (0xEF, codes "EXTZV")
    ∷ (0xF0, codes "INSV")
    ∷ (0xF1, codes "ACBL")
    ∷ (0xF2, codes "AOBLSS")
    ∷ (0xF3, codes "AOBLEQ")
    ∷ (0xF4, codes "SOBGEQ")
    ∷ (0xF5, codes "SOBGTR")
    ∷ (0xF6, codes "CVTLB")
    ∷ (0xF7, codes "CVTLW")
    ∷ (0xFA, codes "CALLG")
    ∷ (0xFB, codes "CALLS")
    ∷ []

abbrev pub name_in : List (ℕ × List ℕ) → ℕ → List ℕ
name_in [] opcode = []
name_in (row ∷ rows) opcode = if opcode == row.0 then row.1 else name_in rows opcode

-- nothing for a reserved opcode
unfoldable pub name_of : ℕ → List ℕ
name_of opcode =
    if nat_lt opcode 0x40 then name_in low_names opcode
    else (if nat_lt opcode 0x98 then name_in byte_names opcode
    else (if nat_lt opcode 0xB8 then name_in word_names opcode
    else (if nat_lt opcode 0xD8 then name_in long_names opcode
    else name_in high_names opcode)))

abbrev pub is_named : List ℕ → Bool
is_named [] = false
is_named (c ∷ cs) = true

-- just the opcodes that have an operation have a name
abbrev pub NamesWhole : Type 0
NamesWhole = (opcode : ℕ) → opcode < 256 → is_named (name_of opcode) ≡ is_some (operation_at opcode)
