-- Blocks that were worked out by hand, word by word.
use Rattle.std.proofs.Common.{◌≡◌, ℕ, List, [], ◌∷◌, Bool, true, false, Some, None, refl}
use Rattle.std.specs.Prelude.{map}
use Rattle.vax_form.specs.Codes.{codes}
use Rattle.vax_form.specs.declared.instr.Instr.{Instr}
use Rattle.vax_form.specs.declared.instr.Size.TheVariants as sizes
use Rattle.vax_form.specs.declared.instr.Width.TheVariants.{Byte, Word, Long}
use Rattle.vax_form.specs.declared.operation.BinaryOperation.TheVariants.{Add}
use Rattle.vax_form.specs.declared.operation.Condition.TheVariants.{Equal, Less}
use Rattle.vax_form.specs.declared.operation.Operation.TheVariants as op
use Rattle.vax_form.specs.declared.state.Flags.{Flags}
use Rattle.micro_ops.specs.declared.program.Arg.TheVariants.{Temp, Register, Const}
use Rattle.micro_ops.specs.declared.program.Exit.TheVariants.{Next, Choice}
use Rattle.micro_ops.specs.declared.program.Micro.{Micro}
use Rattle.micro_ops.specs.declared.program.Micro.TheVariants.{Compute, Probe, Read, Write, Commit, Codes, Leave}
use Rattle.micro_ops.specs.declared.program.MicroOp.TheVariants as compute
use Rattle.micro_ops.specs.declared.codes.CodeSources.{CodeSources}
use Rattle.micro_ops.specs.Sources.{sources_of}
use Rattle.alpha_encode.specs.Words.{word_of}
use Rattle.exception_records.specs.Blocks.{BlockValue}
use Rattle.exception_records.specs.Codes.{all_ready}
use Rattle.exception_records.specs.Points.{Entry}
use Rattle.exception_records.specs.declared.rules.Rules.{Rules}
use Rattle.code_runs.specs.Rules.{rules_behind}
use Rattle.flag_codegen.specs.Words.{code_words}
use Rattle.program_codegen.specs.Blocks.{program_block}

-- an instruction at 200, behind which stands 204
abbrev instr : Instr
instr = record { at = 0x200; opcode = 0; count = 0; operands = []; after = 0x204 }

-- the block of a program behind which these codes are live; before it all are ready
abbrev block : (byte_word : Bool) → CodeSources → List Micro → (live : Flags) → BlockValue
block byte_word sources program live = program_block instr sources program (code_words sources live) all_ready (rules_behind sources live all_ready) byte_word

-- words, exits and points
abbrev spelled : BlockValue → List ℕ × List (ℕ × ℕ) × List Entry
spelled block = (map word_of block.words, block.exits, block.points)

abbrev point : (word done count : ℕ) (write : Bool) (raises : ℕ) → Rules → Entry
point word done count write raises rules = (word, record { vax_pc = 0x200; done = done; count = count; write = write; raises = raises; rules = rules })

row1 : spelled (block false (sources_of (op.Move sizes.Long)) ((Compute 1 compute.Move sizes.Long (Register 1) (Const 0)) ∷ (Probe 1 4 false) ∷ (Read 0 1 4) ∷ (Compute 2 compute.Move sizes.Long (Temp 0) (Const 0)) ∷ (Compute 5 compute.Add sizes.Long (Register 1) (Const 4)) ∷ (Commit 1 5) ∷ (Commit 2 2) ∷ (Compute 6 compute.ShiftRight sizes.Long (Temp 2) (Const 31)) ∷ (Compute 7 compute.Equal sizes.Long (Temp 2) (Const 0)) ∷ (Compute 8 compute.Move sizes.Byte (Const 0) (Const 0)) ∷ (Codes 6 7 8 None) ∷ (Leave Next) ∷ []) (codes true true true true)) ≡ (0x4821F636 ∷ 0x46C0141B ∷ 0x00000080 ∷ 0x46C07019 ∷ 0xE7200008 ∷ 0x46C0901A ∷ 0x2F360000 ∷ 0x4B3604D9 ∷ 0xE7400005 ∷ 0x2F560003 ∷ 0x4B560D5A ∷ 0x473A0419 ∷ 0xC3E00001 ∷ 0xA3360000 ∷ 0x4B21F635 ∷ 0x4AA1F637 ∷ 0x23410004 ∷ 0x4B41F63A ∷ 0x43401001 ∷ 0x42E01002 ∷ 0x47FF0412 ∷ 0x4AE3F690 ∷ 0x42E015B1 ∷ 0x47FF041F ∷ 0x47FF041F ∷ 0x47FF041F ∷ [], (0x17, 0x204) ∷ [], point 0x0 0 0 false 0x0 all_ready ∷ point 0x2 0 4 false 0x0 all_ready ∷ [])
unfolding sources_of
row1 = refl

row2 : spelled (block false (sources_of (op.TwoOperands Add Long)) ((Compute 0 compute.Move sizes.Long (Register 1) (Const 0)) ∷ (Compute 3 compute.Move sizes.Long (Register 2) (Const 0)) ∷ (Probe 3 4 true) ∷ (Read 1 3 4) ∷ (Compute 2 compute.Add sizes.Long (Temp 0) (Temp 1)) ∷ (Write 3 4 2) ∷ (Compute 6 compute.ShiftRight sizes.Long (Temp 2) (Const 31)) ∷ (Compute 7 compute.Equal sizes.Long (Temp 2) (Const 0)) ∷ (Compute 10 compute.SignExtend sizes.Long (Temp 0) (Const 0)) ∷ (Compute 11 compute.SignExtend sizes.Long (Temp 1) (Const 0)) ∷ (Compute 10 compute.Add sizes.Quad (Temp 10) (Temp 11)) ∷ (Compute 11 compute.SignExtend sizes.Long (Temp 2) (Const 0)) ∷ (Compute 8 compute.Equal sizes.Quad (Temp 10) (Temp 11)) ∷ (Compute 8 compute.Xor sizes.Byte (Temp 8) (Const 1)) ∷ (Compute 9 compute.LessUnsigned sizes.Long (Temp 2) (Temp 0)) ∷ (Codes 6 7 8 (Some 9)) ∷ (Leave Next) ∷ []) (codes false false false true)) ≡ (0x4440141B ∷ 0x00000080 ∷ 0x44407019 ∷ 0xE7200009 ∷ 0x4440901A ∷ 0x2F220000 ∷ 0x4B2204D9 ∷ 0xE7400003 ∷ 0x2F420003 ∷ 0x4B420D5A ∷ 0x473A0419 ∷ 0x43201016 ∷ 0xC3E00001 ∷ 0xA2C20000 ∷ 0x40360017 ∷ 0x44407019 ∷ 0xE7200012 ∷ 0x4440F11B ∷ 0xAF3B0000 ∷ 0x4B220459 ∷ 0x4AE2057A ∷ 0x473A0419 ∷ 0xBF3B0000 ∷ 0xE73FFFFA ∷ 0x4440F019 ∷ 0x4320B3B9 ∷ 0xF7200007 ∷ 0x4361141B ∷ 0xAF3B0000 ∷ 0x4B220C59 ∷ 0x4AE20CFA ∷ 0x473A0419 ∷ 0xBF3B0000 ∷ 0xE73FFFFA ∷ 0xC3E00001 ∷ 0xB2E20000 ∷ 0x42E103B3 ∷ 0x47E1041C ∷ 0x47F6041D ∷ 0x4684101B ∷ 0xE760000B ∷ 0x4380101B ∷ 0x43A01018 ∷ 0x43780418 ∷ 0x4300101B ∷ 0x437805B8 ∷ 0x47003818 ∷ 0xE7000004 ∷ 0x275F0000 ∷ 0x235A0204 ∷ 0x22BF0001 ∷ 0x00000084 ∷ 0x47FF041F ∷ 0x47FF041F ∷ 0x47FF041F ∷ [], (0x34, 0x204) ∷ [], point 0x0 0 0 false 0x0 all_ready ∷ point 0x1 0 4 true 0x0 all_ready ∷ point 0x33 1 0 false 0x0 (rules_behind (sources_of (op.TwoOperands Add Long)) (codes false false false true) all_ready) ∷ [])
unfolding sources_of
row2 = refl

row3 : spelled (block false (sources_of (op.SubtractOneBranch false)) ((Compute 2 compute.Move sizes.Long (Register 1) (Const 0)) ∷ (Compute 2 compute.Sub sizes.Long (Temp 2) (Const 1)) ∷ (Compute 3 compute.Equal sizes.Long (Temp 2) (Const 2147483647)) ∷ (Compute 0 compute.Less sizes.Long (Const 0) (Temp 2)) ∷ (Commit 1 2) ∷ (Compute 6 compute.ShiftRight sizes.Long (Temp 2) (Const 31)) ∷ (Compute 7 compute.Equal sizes.Long (Temp 2) (Const 0)) ∷ (Codes 6 7 3 None) ∷ (Leave (Choice 0 520 516)) ∷ []) (codes false false false false)) ≡ (0x40203137 ∷ 0x277F8000 ∷ 0x237BFFFF ∷ 0x4AE41738 ∷ 0x4B64173B ∷ 0x431B05B8 ∷ 0x47F80412 ∷ 0x4AE7F690 ∷ 0x42E015B1 ∷ 0x42E01001 ∷ 0xE640000A ∷ 0x4684101B ∷ 0xE7600008 ∷ 0xEEE00003 ∷ 0x275F0000 ∷ 0x235A0208 ∷ 0xC3E00002 ∷ 0x275F0000 ∷ 0x235A0204 ∷ 0x22BF0001 ∷ 0x00000084 ∷ 0xEEE00003 ∷ 0x47FF041F ∷ 0x47FF041F ∷ 0x47FF041F ∷ 0x47FF041F ∷ 0x47FF041F ∷ 0x47FF041F ∷ [], (0x16, 0x208) ∷ (0x19, 0x204) ∷ [], point 0x0 0 0 false 0x0 all_ready ∷ point 0x14 1 0 false 0x0 all_ready ∷ [])
unfolding sources_of
row3 = refl

row4 : spelled (block true (sources_of (op.Move sizes.Byte)) ((Compute 1 compute.Move sizes.Long (Register 1) (Const 0)) ∷ (Probe 1 1 false) ∷ (Read 2 1 1) ∷ (Compute 3 compute.Move sizes.Long (Register 2) (Const 0)) ∷ (Probe 3 1 true) ∷ (Write 3 1 2) ∷ (Leave Next) ∷ []) (codes false false false false)) ≡ (0x4420141B ∷ 0x00000080 ∷ 0x2AE10000 ∷ 0x4440141B ∷ 0x00000080 ∷ 0x3AE20000 ∷ 0x47F7041C ∷ 0x47FF041F ∷ 0x47FF041F ∷ 0x47FF041F ∷ [], (0x7, 0x204) ∷ [], point 0x0 0 0 false 0x0 all_ready ∷ point 0x1 0 1 false 0x0 all_ready ∷ point 0x4 0 1 true 0x0 all_ready ∷ [])
unfolding sources_of
row4 = refl

row5 : spelled (block true (sources_of (op.Move sizes.Word)) ((Compute 1 compute.Move sizes.Long (Register 1) (Const 0)) ∷ (Probe 1 2 false) ∷ (Read 2 1 2) ∷ (Compute 3 compute.Move sizes.Long (Register 2) (Const 0)) ∷ (Probe 3 2 true) ∷ (Write 3 2 2) ∷ (Leave Next) ∷ []) (codes false false false false)) ≡ (0x4420141B ∷ 0x00000080 ∷ 0xF0200002 ∷ 0x32E10000 ∷ 0xC3E00009 ∷ 0x4420F01A ∷ 0x4340F3BA ∷ 0x2F210000 ∷ 0x4B2102D9 ∷ 0xF7400003 ∷ 0x2F410001 ∷ 0x4B410B5A ∷ 0x473A0419 ∷ 0x47201417 ∷ 0x4440141B ∷ 0x00000080 ∷ 0xF0400002 ∷ 0x36E20000 ∷ 0xC3E00011 ∷ 0x4440F11B ∷ 0xAF3B0000 ∷ 0x4B220259 ∷ 0x4AE2037A ∷ 0x473A0419 ∷ 0xBF3B0000 ∷ 0xE73FFFFA ∷ 0x4440F019 ∷ 0x4320F3B9 ∷ 0xF7200007 ∷ 0x4361141B ∷ 0xAF3B0000 ∷ 0x4B220A59 ∷ 0x4AE20AFA ∷ 0x473A0419 ∷ 0xBF3B0000 ∷ 0xE73FFFFA ∷ 0x47F7041C ∷ 0x47FF041F ∷ 0x47FF041F ∷ 0x47FF041F ∷ [], (0x25, 0x204) ∷ [], point 0x0 0 0 false 0x0 all_ready ∷ point 0x1 0 2 false 0x0 all_ready ∷ point 0xF 0 2 true 0x0 all_ready ∷ [])
unfolding sources_of
row5 = refl
