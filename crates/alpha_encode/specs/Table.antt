-- The rows of the instructions, as the manual lists them: opcode, function and mnemonic, in hexadecimal.
-- Alpha Architecture Reference Manual, appendix "Instruction Summary".
use Rattle.std.specs.Prelude.{ℕ, ◌+◌, ◌*◌, ◌^◌, List, [], ◌∷◌}
use Rattle.alpha_encode.specs.declared.instr.MemoryOp.{MemoryOp}
use Rattle.alpha_encode.specs.declared.instr.MemoryOp.TheVariants.{Lda, Ldah, Ldbu, LdqU, Ldwu, Stw, Stb, Ldl, Ldq, LdlL, LdqL, Stl, Stq, StlC, StqC}
use Rattle.alpha_encode.specs.declared.instr.BranchOp.{BranchOp}
use Rattle.alpha_encode.specs.declared.instr.BranchOp.TheVariants.{Br, Bsr, Blbc, Beq, Blt, Ble, Blbs, Bne, Bge, Bgt}
use Rattle.alpha_encode.specs.declared.instr.OperateOp.{OperateOp}
use Rattle.alpha_encode.specs.declared.instr.OperateOp.TheVariants.{Addl, Subl, Cmpult, Addq, S4addq, Subq, Cmpeq, S8addq, Cmpule, Cmplt, Cmple, And, Bic, Bis, Cmoveq, Cmovne, Ornot, Xor, Eqv, Mskbl, Extbl, Insbl, Mskwl, Extwl, Inswl, Mskll, Extll, Insll, Zap, Zapnot, Mskql, Srl, Extql, Sll, Insql, Sra, Mskwh, Inswh, Extwh, Msklh, Inslh, Extlh, Mskqh, Insqh, Extqh, Mull, Mulq, Umulh, Sextb, Sextw}

-- memory format: the opcode
abbrev pub memory_rows : List (ℕ × MemoryOp)
memory_rows =
    (0x08, Lda)
    ∷ (0x09, Ldah)
    ∷ (0x0a, Ldbu)
    ∷ (0x0b, LdqU)
    ∷ (0x0c, Ldwu)
    ∷ (0x0d, Stw)
    ∷ (0x0e, Stb)
    ∷ (0x28, Ldl)
    ∷ (0x29, Ldq)
    ∷ (0x2a, LdlL)
    ∷ (0x2b, LdqL)
    ∷ (0x2c, Stl)
    ∷ (0x2d, Stq)
    ∷ (0x2e, StlC)
    ∷ (0x2f, StqC)
    ∷ []

-- branch format: the opcode
abbrev pub branch_rows : List (ℕ × BranchOp)
branch_rows =
    (0x30, Br)
    ∷ (0x34, Bsr)
    ∷ (0x38, Blbc)
    ∷ (0x39, Beq)
    ∷ (0x3a, Blt)
    ∷ (0x3b, Ble)
    ∷ (0x3c, Blbs)
    ∷ (0x3d, Bne)
    ∷ (0x3e, Bge)
    ∷ (0x3f, Bgt)
    ∷ []

-- operate format: a row is its opcode and its function, which have 8 bits each in the code that stands for both
abbrev pub operate : (opcode function : ℕ) → OperateOp → ℕ × OperateOp
operate opcode function op = (opcode * 2 ^ 8 + function, op)

abbrev pub operate_rows : List (ℕ × OperateOp)
operate_rows =
    operate 0x10 0x00 Addl
    ∷ operate 0x10 0x09 Subl
    ∷ operate 0x10 0x1d Cmpult
    ∷ operate 0x10 0x20 Addq
    ∷ operate 0x10 0x22 S4addq
    ∷ operate 0x10 0x29 Subq
    ∷ operate 0x10 0x2d Cmpeq
    ∷ operate 0x10 0x32 S8addq
    ∷ operate 0x10 0x3d Cmpule
    ∷ operate 0x10 0x4d Cmplt
    ∷ operate 0x10 0x6d Cmple
    ∷ operate 0x11 0x00 And
    ∷ operate 0x11 0x08 Bic
    ∷ operate 0x11 0x20 Bis
    ∷ operate 0x11 0x24 Cmoveq
    ∷ operate 0x11 0x26 Cmovne
    ∷ operate 0x11 0x28 Ornot
    ∷ operate 0x11 0x40 Xor
    ∷ operate 0x11 0x48 Eqv
    ∷ operate 0x12 0x02 Mskbl
    ∷ operate 0x12 0x06 Extbl
    ∷ operate 0x12 0x0b Insbl
    ∷ operate 0x12 0x12 Mskwl
    ∷ operate 0x12 0x16 Extwl
    ∷ operate 0x12 0x1b Inswl
    ∷ operate 0x12 0x22 Mskll
    ∷ operate 0x12 0x26 Extll
    ∷ operate 0x12 0x2b Insll
    ∷ operate 0x12 0x30 Zap
    ∷ operate 0x12 0x31 Zapnot
    ∷ operate 0x12 0x32 Mskql
    ∷ operate 0x12 0x34 Srl
    ∷ operate 0x12 0x36 Extql
    ∷ operate 0x12 0x39 Sll
    ∷ operate 0x12 0x3b Insql
    ∷ operate 0x12 0x3c Sra
    ∷ operate 0x12 0x52 Mskwh
    ∷ operate 0x12 0x57 Inswh
    ∷ operate 0x12 0x5a Extwh
    ∷ operate 0x12 0x62 Msklh
    ∷ operate 0x12 0x67 Inslh
    ∷ operate 0x12 0x6a Extlh
    ∷ operate 0x12 0x72 Mskqh
    ∷ operate 0x12 0x77 Insqh
    ∷ operate 0x12 0x7a Extqh
    ∷ operate 0x13 0x00 Mull
    ∷ operate 0x13 0x20 Mulq
    ∷ operate 0x13 0x30 Umulh
    ∷ operate 0x1c 0x00 Sextb
    ∷ operate 0x1c 0x01 Sextw
    ∷ []
