-- The words that read, write and change operands in memory.
-- Alpha Architecture Reference Manual, 4.6 "Byte Manipulation Instructions", has the sequences for unaligned operands,
-- and 5.5 "Data Sharing (Multiprocessor)" the loops of a load-locked access and a store conditional.
use Rattle.std.specs.Prelude.{ℕ, pos, ◌-◌, ◌==◌, List, [], ◌∷◌, ◌++◌, if◌then◌else◌}
use Rattle.alpha_encode.specs.declared.instr.MemoryOp.TheVariants.{LdqU, Ldbu, Ldwu, Ldl, Ldq, Stb, Stw, Stl, Stq}
use Rattle.alpha_encode.specs.declared.instr.BranchOp.TheVariants.{Br, Beq, Blbs, Bne}
use Rattle.alpha_encode.specs.declared.instr.OperateOp.{OperateOp}
use Rattle.alpha_encode.specs.declared.instr.OperateOp.TheVariants.{Extbl, Extwl, Extll, Extql, Extwh, Extlh, Extqh, Mskbl, Mskwl, Mskll, Mskql, Mskwh, Msklh, Mskqh, Insbl, Inswl, Insll, Insql, Inswh, Inslh, Insqh, Bis, Bic, And, Cmpult, Cmpeq, Addl, Addq, Srl, Sll, Zapnot}
use Rattle.alpha_encode.specs.declared.instr.Second.TheVariants.{Register, Literal}
use Rattle.alpha_encode.specs.declared.instr.AlphaInstr.{AlphaInstr}
use Rattle.alpha_encode.specs.declared.instr.AlphaInstr.TheVariants.{Memory, Branch, Operate}
use Rattle.alpha_encode.specs.Registers.{ZERO}
use Rattle.alpha_encode.specs.declared.registers.TheConstants.{QUAD, BYTES, QUAD_ADDRESS}
use Rattle.alpha_meaning.specs.Loops.{retry}
use Rattle.micro_ops.specs.declared.program.LockedOp.{LockedOp}
use Rattle.micro_ops.specs.declared.program.LockedOp.TheVariants.{AddWord, SetBit, ClearBit}

-- ---- byte manipulation instructions by the number of bytes; a byte never crosses to the next quadword
abbrev pub by_count : {A : Type 0} → (count : ℕ) → (byte word longword quadword : A) → A
by_count count byte word longword quadword =
    if count == 1 then byte else if count == 2 then word else if count == 4 then longword else quadword

abbrev pub extract_low : (count : ℕ) → OperateOp
extract_low count = by_count count Extbl Extwl Extll Extql

abbrev pub extract_high : (count : ℕ) → OperateOp
extract_high count = by_count count Extwh Extwh Extlh Extqh

abbrev pub insert_low : (count : ℕ) → OperateOp
insert_low count = by_count count Insbl Inswl Insll Insql

abbrev pub insert_high : (count : ℕ) → OperateOp
insert_high count = by_count count Inswh Inswh Inslh Insqh

abbrev pub mask_low : (count : ℕ) → OperateOp
mask_low count = by_count count Mskbl Mskwl Mskll Mskql

abbrev pub mask_high : (count : ℕ) → OperateOp
mask_high count = by_count count Mskwh Mskwh Msklh Mskqh

-- ---- reads
abbrev pub byte_read : (place to : ℕ) → List AlphaInstr
byte_read place to = Memory LdqU QUAD place (pos 0) ∷ Operate Extbl QUAD (Register place) to ∷ []

-- QUAD gets the operand's bytes of the first quadword
abbrev pub first_read : (place count : ℕ) → List AlphaInstr
first_read place count = Memory LdqU QUAD place (pos 0) ∷ Operate (extract_low count) QUAD (Register place) QUAD ∷ []

-- and `to` these and those of the second
abbrev pub second_read : (place count to : ℕ) → List AlphaInstr
second_read place count to =
    Memory LdqU BYTES place (pos (count - 1)) ∷ Operate (extract_high count) BYTES (Register place) BYTES ∷ Operate Bis QUAD (Register BYTES) to ∷ []

-- BYTES says whether a word lies in one quadword
abbrev pub word_test : (place : ℕ) → List AlphaInstr
word_test place = Operate And place (Literal 7) BYTES ∷ Operate Cmpult BYTES (Literal 7) BYTES ∷ []

abbrev pub tested_word_read : (place to : ℕ) → List AlphaInstr
tested_word_read place to =
    first_read place 2 ++ (Branch Bne BYTES (pos 3) ∷ (second_read place 2 QUAD ++ Operate Bis QUAD (Literal 0) to ∷ []))

abbrev pub word_read : (place to : ℕ) → List AlphaInstr
word_read place to = word_test place ++ tested_word_read place to

-- An aligned longword by LDL. Of another, bit 2 of the address says whether it goes on in the next quadword. What is left of
-- both is zero-extended.
abbrev pub longword_read : (place to : ℕ) → List AlphaInstr
longword_read place to =
    Operate And place (Literal 3) QUAD
    ∷ Branch Beq QUAD (pos 8)
    ∷ Operate And place (Literal 4) BYTES
    ∷ (first_read place 4
    ++ (Branch Beq BYTES (pos 5)
    ∷ (second_read place 4 QUAD
    ++ (Branch Br ZERO (pos 1)
    ∷ Memory Ldl QUAD place (pos 0)
    ∷ Operate Zapnot QUAD (Literal 0x0f) to
    ∷ []))))

-- The same, but for the sign: what is read is extended with it.
abbrev pub extended_read : (place to : ℕ) → List AlphaInstr
extended_read place to =
    Operate And place (Literal 3) QUAD
    ∷ Branch Beq QUAD (pos 9)
    ∷ Operate And place (Literal 4) BYTES
    ∷ (first_read place 4
    ++ (Branch Beq BYTES (pos 3)
    ∷ (second_read place 4 QUAD
    ++ (Operate Addl QUAD (Literal 0) to
    ∷ Branch Br ZERO (pos 1)
    ∷ Memory Ldl to place (pos 0)
    ∷ []))))

-- an aligned quadword by LDQ; another goes on in the next one
abbrev pub quadword_read : (place to : ℕ) → List AlphaInstr
quadword_read place to =
    Operate And place (Literal 7) QUAD
    ∷ Branch Beq QUAD (pos 6)
    ∷ (first_read place 8 ++ (second_read place 8 to ++ (Branch Br ZERO (pos 1) ∷ Memory Ldq to place (pos 0) ∷ [])))

abbrev pub read_code : (place count to : ℕ) → List AlphaInstr
read_code place count to = by_count count (byte_read place to) (word_read place to) (longword_read place to) (quadword_read place to)

-- with the byte-word extension: a byte by LDBU, and a word at an even address by LDWU
abbrev pub bw_word_read : (place to : ℕ) → List AlphaInstr
bw_word_read place to =
    Branch Blbs place (pos 2) ∷ Memory Ldwu to place (pos 0) ∷ Branch Br ZERO (pos 9) ∷ word_read place to

abbrev pub bw_read_code : (place count to : ℕ) → List AlphaInstr
bw_read_code place count to =
    if count == 1 then Memory Ldbu to place (pos 0) ∷ [] else if count == 2 then bw_word_read place to else read_code place count to

-- ---- writes
-- the bytes of QUAD that the mask names are replaced by those of `from`
abbrev pub replacing : (mask insert : OperateOp) (place from : ℕ) → List AlphaInstr
replacing mask insert place from =
    Operate mask QUAD (Register place) QUAD ∷ Operate insert from (Register place) BYTES ∷ Operate Bis QUAD (Register BYTES) QUAD ∷ []

-- the part in the quadword of the address
abbrev pub first_write : (place count from : ℕ) → List AlphaInstr
first_write place count from = Operate Bic place (Literal 7) QUAD_ADDRESS ∷ retry (replacing (mask_low count) (insert_low count) place from)

-- the part in the next quadword
abbrev pub second_write : (place count from : ℕ) → List AlphaInstr
second_write place count from = Operate Addq QUAD_ADDRESS (Literal 8) QUAD_ADDRESS ∷ retry (replacing (mask_high count) (insert_high count) place from)

-- QUAD says whether the operand lies in one quadword
abbrev pub write_test : (place count : ℕ) → List AlphaInstr
write_test place count = Operate And place (Literal 7) QUAD ∷ Operate Cmpult QUAD (Literal (9 - count)) QUAD ∷ []

abbrev pub tested_second_write : (place count from : ℕ) → List AlphaInstr
tested_second_write place count from = write_test place count ++ (Branch Bne QUAD (pos 7) ∷ second_write place count from)

abbrev pub unaligned_write : (place count from : ℕ) → List AlphaInstr
unaligned_write place count from = first_write place count from ++ tested_second_write place count from

-- an aligned longword by STL
abbrev pub longword_write : (place from : ℕ) → List AlphaInstr
longword_write place from =
    Operate And place (Literal 3) QUAD
    ∷ Branch Beq QUAD (pos 18)
    ∷ (unaligned_write place 4 from ++ (Branch Br ZERO (pos 1) ∷ Memory Stl from place (pos 0) ∷ []))

-- an aligned quadword by STQ, and one at 4 modulo 8 by two STL
abbrev pub quadword_write : (place from : ℕ) → List AlphaInstr
quadword_write place from =
    Operate And place (Literal 3) QUAD
    ∷ Branch Bne QUAD (pos 8)
    ∷ Operate And place (Literal 7) QUAD
    ∷ Branch Bne QUAD (pos 2)
    ∷ Memory Stq from place (pos 0)
    ∷ Branch Br ZERO (pos 18)
    ∷ Memory Stl from place (pos 0)
    ∷ Operate Srl from (Literal 32) QUAD
    ∷ Memory Stl QUAD place (pos 4)
    ∷ Branch Br ZERO (pos 14)
    ∷ (first_write place 8 from ++ second_write place 8 from)

abbrev pub write_code : (place count from : ℕ) → List AlphaInstr
write_code place count from = by_count count (first_write place 1 from) (unaligned_write place 2 from) (longword_write place from) (quadword_write place from)

-- with the byte-word extension: a byte by STB, and a word at an even address by STW
abbrev pub bw_word_write : (place from : ℕ) → List AlphaInstr
bw_word_write place from =
    Branch Blbs place (pos 2) ∷ Memory Stw from place (pos 0) ∷ Branch Br ZERO (pos 17) ∷ unaligned_write place 2 from

abbrev pub bw_write_code : (place count from : ℕ) → List AlphaInstr
bw_write_code place count from =
    if count == 1 then Memory Stb from place (pos 0) ∷ [] else if count == 2 then bw_word_write place from else write_code place count from

-- ---- interlocked changes
-- `to` gets the word before, and its sum with `from` goes into QUAD
abbrev pub word_added : (place from to : ℕ) → List AlphaInstr
word_added place from to =
    Operate Extwl QUAD (Register place) to
    ∷ Operate Addq to (Register from) BYTES
    ∷ Operate Inswl BYTES (Register place) BYTES
    ∷ Operate Mskwl QUAD (Register place) QUAD
    ∷ Operate Bis QUAD (Register BYTES) QUAD
    ∷ []

-- `to` gets the byte before, BYTES a one at the place of the bit; BIS sets it, BIC clears it
abbrev pub bit_changed : OperateOp → (place from to : ℕ) → List AlphaInstr
bit_changed op place from to =
    Operate Extbl QUAD (Register place) to
    ∷ Operate Cmpeq QUAD (Register QUAD) BYTES
    ∷ Operate Sll BYTES (Register from) BYTES
    ∷ Operate op to (Register BYTES) BYTES
    ∷ Operate Insbl BYTES (Register place) BYTES
    ∷ Operate Mskbl QUAD (Register place) QUAD
    ∷ Operate Bis QUAD (Register BYTES) QUAD
    ∷ []

abbrev pub change_of : LockedOp → (place from to : ℕ) → List AlphaInstr
change_of AddWord place from to = word_added place from to
change_of SetBit place from to = bit_changed Bis place from to
change_of ClearBit place from to = bit_changed Bic place from to

-- a loop that changes the quadword of the address
abbrev pub locked_loop : (place : ℕ) (change : List AlphaInstr) → List AlphaInstr
locked_loop place change = Operate Bic place (Literal 7) QUAD_ADDRESS ∷ retry change

abbrev pub locked_code : LockedOp → (place from to : ℕ) → List AlphaInstr
locked_code kind place from to = locked_loop place (change_of kind place from to)
