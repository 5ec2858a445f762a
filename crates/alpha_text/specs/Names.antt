-- The mnemonics of the instructions, a row for each row of the table.
-- Alpha Architecture Reference Manual, appendix "Instruction Summary"; in small letters, as assemblers write them.
use Rattle.std.specs.Prelude.{ℕ, List, codes}
use Rattle.alpha_encode.specs.declared.instr.MemoryOp.{MemoryOp}
use Rattle.alpha_encode.specs.declared.instr.MemoryOp.TheVariants.{Lda, Ldah, Ldbu, LdqU, Ldwu, Stw, Stb, Ldl, Ldq, LdlL, LdqL, Stl, Stq, StlC, StqC}
use Rattle.alpha_encode.specs.declared.instr.BranchOp.{BranchOp}
use Rattle.alpha_encode.specs.declared.instr.BranchOp.TheVariants.{Br, Bsr, Blbc, Beq, Blt, Ble, Blbs, Bne, Bge, Bgt}
use Rattle.alpha_encode.specs.declared.instr.OperateOp.{OperateOp}
use Rattle.alpha_encode.specs.declared.instr.OperateOp.TheVariants.{Addl, Subl, Cmpult, Addq, S4addq, Subq, Cmpeq, S8addq, Cmpule, Cmplt, Cmple, And, Bic, Bis, Cmoveq, Cmovne, Ornot, Xor, Eqv, Mskbl, Extbl, Insbl, Mskwl, Extwl, Inswl, Mskll, Extll, Insll, Zap, Zapnot, Mskql, Srl, Extql, Sll, Insql, Sra, Mskwh, Inswh, Extwh, Msklh, Inslh, Extlh, Mskqh, Insqh, Extqh, Mull, Mulq, Umulh, Sextb, Sextw}

-- memory format
unfoldable pub memory_name : MemoryOp → List ℕ
memory_name Lda = codes "lda"
memory_name Ldah = codes "ldah"
memory_name Ldbu = codes "ldbu"
memory_name LdqU = codes "ldq_u"
memory_name Ldwu = codes "ldwu"
memory_name Stw = codes "stw"
memory_name Stb = codes "stb"
memory_name Ldl = codes "ldl"
memory_name Ldq = codes "ldq"
memory_name LdlL = codes "ldl_l"
memory_name LdqL = codes "ldq_l"
memory_name Stl = codes "stl"
memory_name Stq = codes "stq"
memory_name StlC = codes "stl_c"
memory_name StqC = codes "stq_c"

-- branch format
unfoldable pub branch_name : BranchOp → List ℕ
branch_name Br = codes "br"
branch_name Bsr = codes "bsr"
branch_name Blbc = codes "blbc"
branch_name Beq = codes "beq"
branch_name Blt = codes "blt"
branch_name Ble = codes "ble"
branch_name Blbs = codes "blbs"
branch_name Bne = codes "bne"
branch_name Bge = codes "bge"
branch_name Bgt = codes "bgt"

-- operate format
unfoldable pub operate_name : OperateOp → List ℕ
operate_name Addl = codes "addl"
operate_name Subl = codes "subl"
operate_name Cmpult = codes "cmpult"
operate_name Addq = codes "addq"
operate_name S4addq = codes "s4addq"
operate_name Subq = codes "subq"
operate_name Cmpeq = codes "cmpeq"
operate_name S8addq = codes "s8addq"
operate_name Cmpule = codes "cmpule"
operate_name Cmplt = codes "cmplt"
operate_name Cmple = codes "cmple"
operate_name And = codes "and"
operate_name Bic = codes "bic"
operate_name Bis = codes "bis"
operate_name Cmoveq = codes "cmoveq"
operate_name Cmovne = codes "cmovne"
operate_name Ornot = codes "ornot"
operate_name Xor = codes "xor"
operate_name Eqv = codes "eqv"
operate_name Mskbl = codes "mskbl"
operate_name Extbl = codes "extbl"
operate_name Insbl = codes "insbl"
operate_name Mskwl = codes "mskwl"
operate_name Extwl = codes "extwl"
operate_name Inswl = codes "inswl"
operate_name Mskll = codes "mskll"
operate_name Extll = codes "extll"
operate_name Insll = codes "insll"
operate_name Zap = codes "zap"
operate_name Zapnot = codes "zapnot"
operate_name Mskql = codes "mskql"
operate_name Srl = codes "srl"
operate_name Extql = codes "extql"
operate_name Sll = codes "sll"
operate_name Insql = codes "insql"
operate_name Sra = codes "sra"
operate_name Mskwh = codes "mskwh"
operate_name Inswh = codes "inswh"
operate_name Extwh = codes "extwh"
operate_name Msklh = codes "msklh"
operate_name Inslh = codes "inslh"
operate_name Extlh = codes "extlh"
operate_name Mskqh = codes "mskqh"
operate_name Insqh = codes "insqh"
operate_name Extqh = codes "extqh"
operate_name Mull = codes "mull"
operate_name Mulq = codes "mulq"
operate_name Umulh = codes "umulh"
operate_name Sextb = codes "sextb"
operate_name Sextw = codes "sextw"
