-- How many words the longest block of a micro program has, whichever codes are live behind its instruction.
use Rattle.std.proofs.Common.{◌≡◌, ℕ, List, [], ◌∷◌, Bool, true, false, Some, None, refl}
use Rattle.std.specs.Prelude.{map, length, fold, max}
use Rattle.vax_form.specs.Codes.{codes}
use Rattle.vax_form.specs.declared.instr.Instr.{Instr}
use Rattle.vax_form.specs.declared.instr.Size.TheVariants as sizes
use Rattle.vax_form.specs.declared.instr.Width.TheVariants.{Byte, Word, Long}
use Rattle.vax_form.specs.declared.operation.BinaryOperation.TheVariants.{Add, Subtract, Multiply, BitClear}
use Rattle.vax_form.specs.declared.operation.BitStore.TheVariants.{Plain, Interlocked}
use Rattle.vax_form.specs.declared.operation.Condition.TheVariants.{Equal, Less, GreaterUnsigned}
use Rattle.vax_form.specs.declared.operation.Operation.TheVariants as op
use Rattle.vax_form.specs.declared.state.Flags.{Flags}
use Rattle.micro_ops.specs.declared.program.Arg.TheVariants.{Temp, Register, Flag, Const}
use Rattle.micro_ops.specs.declared.program.Exit.TheVariants.{Next, Fixed, Computed, Choice, Service, Breakpoint}
use Rattle.micro_ops.specs.declared.program.LockedOp.TheVariants.{AddWord, SetBit}
use Rattle.micro_ops.specs.declared.program.Micro.{Micro}
use Rattle.micro_ops.specs.declared.program.Micro.TheVariants.{Compute, Probe, Refuse, Read, Write, Locked, Commit, Codes, SetPsw, Leave}
use Rattle.micro_ops.specs.declared.program.MicroOp.TheVariants as compute
use Rattle.micro_ops.specs.declared.codes.CodeSources.{CodeSources}
use Rattle.micro_ops.specs.Sources.{sources_of}
use Rattle.exception_records.specs.Blocks.{BlockValue}
use Rattle.exception_records.specs.Codes.{all_ready}
use Rattle.code_runs.specs.Rules.{rules_behind}
use Rattle.flag_codegen.specs.Words.{code_words}
use Rattle.program_codegen.specs.Blocks.{program_block}

-- an instruction at 200, behind which stands 204
abbrev instr : Instr
instr = record { at = 0x200; opcode = 0; count = 0; operands = []; after = 0x204 }

-- the block of a program behind which these codes are live; before it all are ready
abbrev block : (byte_word : Bool) → CodeSources → List Micro → (live : Flags) → BlockValue
block byte_word sources program live = program_block instr sources program (code_words sources live) all_ready (rules_behind sources live all_ready) byte_word

abbrev sets : List Flags
sets = codes false false false false ∷ codes false false false true ∷ codes false false true false ∷ codes false false true true ∷ codes false true false false ∷ codes false true false true ∷ codes false true true false ∷ codes false true true true ∷ codes true false false false ∷ codes true false false true ∷ codes true false true false ∷ codes true false true true ∷ codes true true false false ∷ codes true true false true ∷ codes true true true false ∷ codes true true true true ∷ []

longest : CodeSources → List Micro → ℕ
unfolding sources_of
longest sources program = fold max 0 (map (λ live. length (block false sources program live).words) sets)

row1 : longest (sources_of (op.Move sizes.Long)) ((Compute 0 compute.Move sizes.Long (Register 1) (Const 0)) ∷ (Probe 0 4 false) ∷ (Read 1 0 4) ∷ (Compute 4 compute.Add sizes.Long (Register 2) (Register 2)) ∷ (Compute 4 compute.Add sizes.Long (Temp 4) (Temp 4)) ∷ (Compute 1 compute.Add sizes.Long (Temp 1) (Temp 4)) ∷ (Probe 1 4 false) ∷ (Read 0 1 4) ∷ (Compute 2 compute.Move sizes.Long (Register 2) (Const 0)) ∷ (Probe 2 4 false) ∷ (Read 3 2 4) ∷ (Compute 4 compute.Add sizes.Long (Register 1) (Const 4)) ∷ (Compute 4 compute.Add sizes.Long (Temp 4) (Temp 4)) ∷ (Compute 4 compute.Add sizes.Long (Temp 4) (Temp 4)) ∷ (Compute 3 compute.Add sizes.Long (Temp 3) (Temp 4)) ∷ (Probe 3 4 true) ∷ (Write 3 4 0) ∷ (Compute 2 compute.Move sizes.Long (Temp 0) (Const 0)) ∷ (Compute 5 compute.Add sizes.Long (Register 1) (Const 4)) ∷ (Commit 1 5) ∷ (Compute 5 compute.Add sizes.Long (Register 2) (Const 4)) ∷ (Commit 2 5) ∷ (Compute 6 compute.ShiftRight sizes.Long (Temp 2) (Const 31)) ∷ (Compute 7 compute.Equal sizes.Long (Temp 2) (Const 0)) ∷ (Compute 8 compute.Move sizes.Byte (Const 0) (Const 0)) ∷ (Codes 6 7 8 None) ∷ (Leave Next) ∷ []) ≡ 0x5E
unfolding longest
row1 = refl

row2 : longest (sources_of (op.MoveZeroExtended Byte Word)) ((Compute 0 compute.Move sizes.Long (Register 1) (Const 0)) ∷ (Probe 0 4 false) ∷ (Read 1 0 4) ∷ (Compute 1 compute.Add sizes.Long (Temp 1) (Register 2)) ∷ (Probe 1 1 false) ∷ (Read 0 1 1) ∷ (Compute 2 compute.Move sizes.Long (Register 2) (Const 0)) ∷ (Probe 2 4 false) ∷ (Read 3 2 4) ∷ (Compute 4 compute.Add sizes.Long (Register 1) (Const 4)) ∷ (Compute 4 compute.Add sizes.Long (Temp 4) (Temp 4)) ∷ (Compute 3 compute.Add sizes.Long (Temp 3) (Temp 4)) ∷ (Probe 3 2 true) ∷ (Write 3 2 0) ∷ (Compute 2 compute.Move sizes.Word (Temp 0) (Const 0)) ∷ (Compute 5 compute.Add sizes.Long (Register 1) (Const 4)) ∷ (Commit 1 5) ∷ (Compute 5 compute.Add sizes.Long (Register 2) (Const 4)) ∷ (Commit 2 5) ∷ (Compute 6 compute.ShiftRight sizes.Word (Temp 2) (Const 15)) ∷ (Compute 7 compute.Equal sizes.Word (Temp 2) (Const 0)) ∷ (Compute 8 compute.Move sizes.Byte (Const 0) (Const 0)) ∷ (Codes 6 7 8 None) ∷ (Leave Next) ∷ []) ≡ 0x4A
unfolding longest
row2 = refl

row3 : longest (sources_of (op.MoveComplemented Byte)) ((Compute 0 compute.Move sizes.Long (Register 1) (Const 0)) ∷ (Probe 0 4 false) ∷ (Read 1 0 4) ∷ (Compute 1 compute.Add sizes.Long (Temp 1) (Register 2)) ∷ (Probe 1 1 false) ∷ (Read 0 1 1) ∷ (Compute 2 compute.Move sizes.Long (Register 2) (Const 0)) ∷ (Probe 2 4 false) ∷ (Read 3 2 4) ∷ (Compute 4 compute.Add sizes.Long (Register 1) (Const 4)) ∷ (Compute 3 compute.Add sizes.Long (Temp 3) (Temp 4)) ∷ (Compute 2 compute.Xor sizes.Byte (Temp 0) (Const 255)) ∷ (Probe 3 1 true) ∷ (Write 3 1 2) ∷ (Compute 0 compute.Move sizes.Byte (Temp 2) (Const 0)) ∷ (Compute 5 compute.Add sizes.Long (Register 1) (Const 4)) ∷ (Commit 1 5) ∷ (Compute 5 compute.Add sizes.Long (Register 2) (Const 4)) ∷ (Commit 2 5) ∷ (Compute 6 compute.ShiftRight sizes.Byte (Temp 2) (Const 7)) ∷ (Compute 7 compute.Equal sizes.Byte (Temp 2) (Const 0)) ∷ (Compute 8 compute.Move sizes.Byte (Const 0) (Const 0)) ∷ (Codes 6 7 8 None) ∷ (Leave Next) ∷ []) ≡ 0x40
unfolding longest
row3 = refl

row4 : longest (sources_of (op.Clear sizes.Quad)) ((Compute 2 compute.Move sizes.Long (Register 1) (Const 0)) ∷ (Probe 2 4 false) ∷ (Read 3 2 4) ∷ (Compute 4 compute.Mul sizes.Long (Register 2) (Const 8)) ∷ (Compute 3 compute.Add sizes.Long (Temp 3) (Temp 4)) ∷ (Compute 2 compute.Move sizes.Quad (Const 0) (Const 0)) ∷ (Probe 3 8 true) ∷ (Write 3 8 2) ∷ (Compute 0 compute.Move sizes.Quad (Const 0) (Const 0)) ∷ (Compute 5 compute.Add sizes.Long (Register 1) (Const 4)) ∷ (Commit 1 5) ∷ (Compute 6 compute.ShiftRight sizes.Quad (Temp 2) (Const 63)) ∷ (Compute 7 compute.Equal sizes.Quad (Temp 2) (Const 0)) ∷ (Compute 8 compute.Move sizes.Byte (Const 0) (Const 0)) ∷ (Codes 6 7 8 None) ∷ (Leave Next) ∷ []) ≡ 0x38
unfolding longest
row4 = refl

row5 : longest (sources_of (op.Convert Long Word)) ((Compute 0 compute.Move sizes.Long (Register 1) (Const 0)) ∷ (Probe 0 4 false) ∷ (Read 1 0 4) ∷ (Compute 4 compute.Add sizes.Long (Register 2) (Register 2)) ∷ (Compute 4 compute.Add sizes.Long (Temp 4) (Temp 4)) ∷ (Compute 1 compute.Add sizes.Long (Temp 1) (Temp 4)) ∷ (Probe 1 4 false) ∷ (Read 0 1 4) ∷ (Compute 2 compute.Move sizes.Long (Register 2) (Const 0)) ∷ (Probe 2 4 false) ∷ (Read 3 2 4) ∷ (Compute 4 compute.Add sizes.Long (Register 1) (Const 4)) ∷ (Compute 4 compute.Add sizes.Long (Temp 4) (Temp 4)) ∷ (Compute 3 compute.Add sizes.Long (Temp 3) (Temp 4)) ∷ (Compute 2 compute.SignExtend sizes.Long (Temp 0) (Const 0)) ∷ (Compute 2 compute.Move sizes.Word (Temp 2) (Const 0)) ∷ (Probe 3 2 true) ∷ (Write 3 2 2) ∷ (Compute 4 compute.SignExtend sizes.Word (Temp 2) (Const 0)) ∷ (Compute 5 compute.SignExtend sizes.Long (Temp 0) (Const 0)) ∷ (Compute 3 compute.Equal sizes.Quad (Temp 4) (Temp 5)) ∷ (Compute 3 compute.Xor sizes.Byte (Temp 3) (Const 1)) ∷ (Compute 5 compute.Add sizes.Long (Register 1) (Const 4)) ∷ (Commit 1 5) ∷ (Compute 5 compute.Add sizes.Long (Register 2) (Const 4)) ∷ (Commit 2 5) ∷ (Compute 6 compute.ShiftRight sizes.Word (Temp 2) (Const 15)) ∷ (Compute 7 compute.Equal sizes.Word (Temp 2) (Const 0)) ∷ (Compute 9 compute.Move sizes.Byte (Const 0) (Const 0)) ∷ (Codes 6 7 3 (Some 9)) ∷ (Leave Next) ∷ []) ≡ 0x67
unfolding longest
row5 = refl

row6 : longest (sources_of (op.ThreeOperands Add Long)) ((Compute 0 compute.Move sizes.Long (Register 1) (Const 0)) ∷ (Probe 0 4 false) ∷ (Read 2 0 4) ∷ (Compute 4 compute.Add sizes.Long (Register 2) (Register 2)) ∷ (Compute 4 compute.Add sizes.Long (Temp 4) (Temp 4)) ∷ (Compute 2 compute.Add sizes.Long (Temp 2) (Temp 4)) ∷ (Probe 2 4 false) ∷ (Read 0 2 4) ∷ (Compute 1 compute.Move sizes.Long (Register 2) (Const 0)) ∷ (Probe 1 4 false) ∷ (Read 2 1 4) ∷ (Compute 4 compute.Add sizes.Long (Register 1) (Const 4)) ∷ (Compute 4 compute.Add sizes.Long (Temp 4) (Temp 4)) ∷ (Compute 4 compute.Add sizes.Long (Temp 4) (Temp 4)) ∷ (Compute 2 compute.Add sizes.Long (Temp 2) (Temp 4)) ∷ (Probe 2 4 false) ∷ (Read 1 2 4) ∷ (Compute 2 compute.Move sizes.Long (Register 3) (Const 0)) ∷ (Probe 2 4 false) ∷ (Read 3 2 4) ∷ (Compute 4 compute.Add sizes.Long (Register 1) (Const 4)) ∷ (Compute 4 compute.Add sizes.Long (Temp 4) (Temp 4)) ∷ (Compute 4 compute.Add sizes.Long (Temp 4) (Temp 4)) ∷ (Compute 3 compute.Add sizes.Long (Temp 3) (Temp 4)) ∷ (Compute 2 compute.Add sizes.Long (Temp 0) (Temp 1)) ∷ (Probe 3 4 true) ∷ (Write 3 4 2) ∷ (Compute 5 compute.Add sizes.Long (Register 1) (Const 4)) ∷ (Commit 1 5) ∷ (Compute 5 compute.Add sizes.Long (Register 2) (Const 4)) ∷ (Commit 2 5) ∷ (Compute 5 compute.Add sizes.Long (Register 3) (Const 4)) ∷ (Commit 3 5) ∷ (Compute 6 compute.ShiftRight sizes.Long (Temp 2) (Const 31)) ∷ (Compute 7 compute.Equal sizes.Long (Temp 2) (Const 0)) ∷ (Compute 10 compute.SignExtend sizes.Long (Temp 0) (Const 0)) ∷ (Compute 11 compute.SignExtend sizes.Long (Temp 1) (Const 0)) ∷ (Compute 10 compute.Add sizes.Quad (Temp 10) (Temp 11)) ∷ (Compute 11 compute.SignExtend sizes.Long (Temp 2) (Const 0)) ∷ (Compute 8 compute.Equal sizes.Quad (Temp 10) (Temp 11)) ∷ (Compute 8 compute.Xor sizes.Byte (Temp 8) (Const 1)) ∷ (Compute 9 compute.LessUnsigned sizes.Long (Temp 2) (Temp 0)) ∷ (Codes 6 7 8 (Some 9)) ∷ (Leave Next) ∷ []) ≡ 0x97
unfolding longest
row6 = refl

row7 : longest (sources_of (op.ThreeOperands Add Byte)) ((Compute 0 compute.Move sizes.Long (Register 1) (Const 0)) ∷ (Probe 0 4 false) ∷ (Read 2 0 4) ∷ (Compute 2 compute.Add sizes.Long (Temp 2) (Register 2)) ∷ (Probe 2 1 false) ∷ (Read 0 2 1) ∷ (Compute 1 compute.Add sizes.Long (Register 1) (Const 4)) ∷ (Probe 1 4 false) ∷ (Read 2 1 4) ∷ (Compute 2 compute.Add sizes.Long (Temp 2) (Register 2)) ∷ (Probe 2 1 false) ∷ (Read 1 2 1) ∷ (Compute 2 compute.Add sizes.Byte (Temp 0) (Temp 1)) ∷ (Compute 5 compute.Add sizes.Long (Register 1) (Const 8)) ∷ (Compute 5 compute.AndNot sizes.Long (Temp 5) (Const 255)) ∷ (Compute 5 compute.Or sizes.Long (Temp 5) (Temp 2)) ∷ (Commit 1 5) ∷ (Compute 6 compute.ShiftRight sizes.Byte (Temp 2) (Const 7)) ∷ (Compute 7 compute.Equal sizes.Byte (Temp 2) (Const 0)) ∷ (Compute 10 compute.SignExtend sizes.Byte (Temp 0) (Const 0)) ∷ (Compute 11 compute.SignExtend sizes.Byte (Temp 1) (Const 0)) ∷ (Compute 10 compute.Add sizes.Quad (Temp 10) (Temp 11)) ∷ (Compute 11 compute.SignExtend sizes.Byte (Temp 2) (Const 0)) ∷ (Compute 8 compute.Equal sizes.Quad (Temp 10) (Temp 11)) ∷ (Compute 8 compute.Xor sizes.Byte (Temp 8) (Const 1)) ∷ (Compute 9 compute.LessUnsigned sizes.Byte (Temp 2) (Temp 0)) ∷ (Codes 6 7 8 (Some 9)) ∷ (Leave Next) ∷ []) ≡ 0x48
unfolding longest
row7 = refl

row8 : longest (sources_of (op.ThreeOperands Subtract Word)) ((Compute 1 compute.Move sizes.Long (Register 1) (Const 0)) ∷ (Probe 1 4 false) ∷ (Read 2 1 4) ∷ (Compute 4 compute.Add sizes.Long (Register 2) (Register 2)) ∷ (Compute 2 compute.Add sizes.Long (Temp 2) (Temp 4)) ∷ (Probe 2 2 false) ∷ (Read 1 2 2) ∷ (Compute 0 compute.Move sizes.Long (Register 2) (Const 0)) ∷ (Probe 0 4 false) ∷ (Read 2 0 4) ∷ (Compute 4 compute.Add sizes.Long (Register 1) (Const 4)) ∷ (Compute 4 compute.Add sizes.Long (Temp 4) (Temp 4)) ∷ (Compute 2 compute.Add sizes.Long (Temp 2) (Temp 4)) ∷ (Probe 2 2 false) ∷ (Read 0 2 2) ∷ (Compute 2 compute.Move sizes.Long (Register 3) (Const 0)) ∷ (Probe 2 4 false) ∷ (Read 3 2 4) ∷ (Compute 4 compute.Add sizes.Long (Register 1) (Const 4)) ∷ (Compute 4 compute.Add sizes.Long (Temp 4) (Temp 4)) ∷ (Compute 3 compute.Add sizes.Long (Temp 3) (Temp 4)) ∷ (Compute 2 compute.Sub sizes.Word (Temp 0) (Temp 1)) ∷ (Probe 3 2 true) ∷ (Write 3 2 2) ∷ (Compute 5 compute.Add sizes.Long (Register 1) (Const 4)) ∷ (Commit 1 5) ∷ (Compute 5 compute.Add sizes.Long (Register 2) (Const 4)) ∷ (Commit 2 5) ∷ (Compute 5 compute.Add sizes.Long (Register 3) (Const 4)) ∷ (Commit 3 5) ∷ (Compute 6 compute.ShiftRight sizes.Word (Temp 2) (Const 15)) ∷ (Compute 7 compute.Equal sizes.Word (Temp 2) (Const 0)) ∷ (Compute 10 compute.SignExtend sizes.Word (Temp 0) (Const 0)) ∷ (Compute 11 compute.SignExtend sizes.Word (Temp 1) (Const 0)) ∷ (Compute 10 compute.Sub sizes.Quad (Temp 10) (Temp 11)) ∷ (Compute 11 compute.SignExtend sizes.Word (Temp 2) (Const 0)) ∷ (Compute 8 compute.Equal sizes.Quad (Temp 10) (Temp 11)) ∷ (Compute 8 compute.Xor sizes.Byte (Temp 8) (Const 1)) ∷ (Compute 9 compute.LessUnsigned sizes.Word (Temp 0) (Temp 1)) ∷ (Codes 6 7 8 (Some 9)) ∷ (Leave Next) ∷ []) ≡ 0x8A
unfolding longest
row8 = refl

row9 : longest (sources_of (op.ThreeOperands Multiply Long)) ((Compute 0 compute.Move sizes.Long (Register 1) (Const 0)) ∷ (Probe 0 4 false) ∷ (Read 2 0 4) ∷ (Compute 4 compute.Add sizes.Long (Register 2) (Register 2)) ∷ (Compute 4 compute.Add sizes.Long (Temp 4) (Temp 4)) ∷ (Compute 2 compute.Add sizes.Long (Temp 2) (Temp 4)) ∷ (Probe 2 4 false) ∷ (Read 0 2 4) ∷ (Compute 1 compute.Move sizes.Long (Register 2) (Const 0)) ∷ (Probe 1 4 false) ∷ (Read 2 1 4) ∷ (Compute 4 compute.Add sizes.Long (Register 1) (Const 4)) ∷ (Compute 4 compute.Add sizes.Long (Temp 4) (Temp 4)) ∷ (Compute 4 compute.Add sizes.Long (Temp 4) (Temp 4)) ∷ (Compute 2 compute.Add sizes.Long (Temp 2) (Temp 4)) ∷ (Probe 2 4 false) ∷ (Read 1 2 4) ∷ (Compute 2 compute.Move sizes.Long (Register 3) (Const 0)) ∷ (Probe 2 4 false) ∷ (Read 3 2 4) ∷ (Compute 4 compute.Add sizes.Long (Register 1) (Const 4)) ∷ (Compute 4 compute.Add sizes.Long (Temp 4) (Temp 4)) ∷ (Compute 4 compute.Add sizes.Long (Temp 4) (Temp 4)) ∷ (Compute 3 compute.Add sizes.Long (Temp 3) (Temp 4)) ∷ (Compute 2 compute.Mul sizes.Long (Temp 0) (Temp 1)) ∷ (Probe 3 4 true) ∷ (Write 3 4 2) ∷ (Compute 4 compute.SignExtend sizes.Long (Temp 0) (Const 0)) ∷ (Compute 5 compute.SignExtend sizes.Long (Temp 1) (Const 0)) ∷ (Compute 4 compute.Mul sizes.Quad (Temp 4) (Temp 5)) ∷ (Compute 5 compute.SignExtend sizes.Long (Temp 2) (Const 0)) ∷ (Compute 3 compute.Equal sizes.Quad (Temp 4) (Temp 5)) ∷ (Compute 3 compute.Xor sizes.Byte (Temp 3) (Const 1)) ∷ (Compute 5 compute.Add sizes.Long (Register 1) (Const 4)) ∷ (Commit 1 5) ∷ (Compute 5 compute.Add sizes.Long (Register 2) (Const 4)) ∷ (Commit 2 5) ∷ (Compute 5 compute.Add sizes.Long (Register 3) (Const 4)) ∷ (Commit 3 5) ∷ (Compute 6 compute.ShiftRight sizes.Long (Temp 2) (Const 31)) ∷ (Compute 7 compute.Equal sizes.Long (Temp 2) (Const 0)) ∷ (Compute 9 compute.Move sizes.Byte (Const 0) (Const 0)) ∷ (Codes 6 7 3 (Some 9)) ∷ (Leave Next) ∷ []) ≡ 0x96
unfolding longest
row9 = refl

row10 : longest (sources_of (op.TwoOperands BitClear Long)) ((Compute 0 compute.Move sizes.Long (Register 1) (Const 0)) ∷ (Probe 0 4 false) ∷ (Read 2 0 4) ∷ (Compute 4 compute.Add sizes.Long (Register 2) (Register 2)) ∷ (Compute 4 compute.Add sizes.Long (Temp 4) (Temp 4)) ∷ (Compute 2 compute.Add sizes.Long (Temp 2) (Temp 4)) ∷ (Probe 2 4 false) ∷ (Read 0 2 4) ∷ (Compute 1 compute.Move sizes.Long (Register 2) (Const 0)) ∷ (Probe 1 4 false) ∷ (Read 3 1 4) ∷ (Compute 4 compute.Add sizes.Long (Register 1) (Const 4)) ∷ (Compute 4 compute.Add sizes.Long (Temp 4) (Temp 4)) ∷ (Compute 4 compute.Add sizes.Long (Temp 4) (Temp 4)) ∷ (Compute 3 compute.Add sizes.Long (Temp 3) (Temp 4)) ∷ (Probe 3 4 true) ∷ (Read 1 3 4) ∷ (Compute 2 compute.AndNot sizes.Long (Temp 1) (Temp 0)) ∷ (Write 3 4 2) ∷ (Compute 0 compute.Move sizes.Long (Temp 2) (Const 0)) ∷ (Compute 5 compute.Add sizes.Long (Register 1) (Const 4)) ∷ (Commit 1 5) ∷ (Compute 5 compute.Add sizes.Long (Register 2) (Const 4)) ∷ (Commit 2 5) ∷ (Compute 6 compute.ShiftRight sizes.Long (Temp 2) (Const 31)) ∷ (Compute 7 compute.Equal sizes.Long (Temp 2) (Const 0)) ∷ (Compute 8 compute.Move sizes.Byte (Const 0) (Const 0)) ∷ (Codes 6 7 8 None) ∷ (Leave Next) ∷ []) ≡ 0x6C
unfolding longest
row10 = refl

row11 : longest (sources_of (op.MoveNegated Long)) ((Compute 1 compute.Move sizes.Long (Register 1) (Const 0)) ∷ (Probe 1 4 false) ∷ (Read 0 1 4) ∷ (Compute 4 compute.Add sizes.Long (Register 2) (Register 2)) ∷ (Compute 4 compute.Add sizes.Long (Temp 4) (Temp 4)) ∷ (Compute 0 compute.Add sizes.Long (Temp 0) (Temp 4)) ∷ (Probe 0 4 false) ∷ (Read 1 0 4) ∷ (Compute 2 compute.Move sizes.Long (Register 2) (Const 0)) ∷ (Probe 2 4 false) ∷ (Read 3 2 4) ∷ (Compute 4 compute.Add sizes.Long (Register 1) (Const 4)) ∷ (Compute 4 compute.Add sizes.Long (Temp 4) (Temp 4)) ∷ (Compute 4 compute.Add sizes.Long (Temp 4) (Temp 4)) ∷ (Compute 3 compute.Add sizes.Long (Temp 3) (Temp 4)) ∷ (Compute 2 compute.Sub sizes.Long (Const 0) (Temp 1)) ∷ (Probe 3 4 true) ∷ (Write 3 4 2) ∷ (Compute 0 compute.Move sizes.Long (Const 0) (Const 0)) ∷ (Compute 5 compute.Add sizes.Long (Register 1) (Const 4)) ∷ (Commit 1 5) ∷ (Compute 5 compute.Add sizes.Long (Register 2) (Const 4)) ∷ (Commit 2 5) ∷ (Compute 6 compute.ShiftRight sizes.Long (Temp 2) (Const 31)) ∷ (Compute 7 compute.Equal sizes.Long (Temp 2) (Const 0)) ∷ (Compute 10 compute.SignExtend sizes.Long (Temp 0) (Const 0)) ∷ (Compute 11 compute.SignExtend sizes.Long (Temp 1) (Const 0)) ∷ (Compute 10 compute.Sub sizes.Quad (Temp 10) (Temp 11)) ∷ (Compute 11 compute.SignExtend sizes.Long (Temp 2) (Const 0)) ∷ (Compute 8 compute.Equal sizes.Quad (Temp 10) (Temp 11)) ∷ (Compute 8 compute.Xor sizes.Byte (Temp 8) (Const 1)) ∷ (Compute 9 compute.LessUnsigned sizes.Long (Temp 0) (Temp 1)) ∷ (Codes 6 7 8 (Some 9)) ∷ (Leave Next) ∷ []) ≡ 0x70
unfolding longest
row11 = refl

row12 : longest (sources_of op.AddWithCarry) ((Compute 1 compute.Move sizes.Long (Register 1) (Const 0)) ∷ (Probe 1 4 false) ∷ (Read 2 1 4) ∷ (Compute 4 compute.Add sizes.Long (Register 2) (Register 2)) ∷ (Compute 4 compute.Add sizes.Long (Temp 4) (Temp 4)) ∷ (Compute 2 compute.Add sizes.Long (Temp 2) (Temp 4)) ∷ (Probe 2 4 false) ∷ (Read 1 2 4) ∷ (Compute 0 compute.Move sizes.Long (Register 2) (Const 0)) ∷ (Probe 0 4 false) ∷ (Read 3 0 4) ∷ (Compute 4 compute.Add sizes.Long (Register 1) (Const 4)) ∷ (Compute 4 compute.Add sizes.Long (Temp 4) (Temp 4)) ∷ (Compute 4 compute.Add sizes.Long (Temp 4) (Temp 4)) ∷ (Compute 3 compute.Add sizes.Long (Temp 3) (Temp 4)) ∷ (Probe 3 4 true) ∷ (Read 0 3 4) ∷ (Compute 2 compute.Add sizes.Long (Temp 0) (Temp 1)) ∷ (Compute 2 compute.Add sizes.Long (Temp 2) (Flag 3)) ∷ (Write 3 4 2) ∷ (Compute 4 compute.SignExtend sizes.Long (Temp 0) (Const 0)) ∷ (Compute 5 compute.SignExtend sizes.Long (Temp 1) (Const 0)) ∷ (Compute 4 compute.Add sizes.Quad (Temp 4) (Temp 5)) ∷ (Compute 4 compute.Add sizes.Quad (Temp 4) (Flag 3)) ∷ (Compute 5 compute.SignExtend sizes.Long (Temp 2) (Const 0)) ∷ (Compute 3 compute.Equal sizes.Quad (Temp 4) (Temp 5)) ∷ (Compute 3 compute.Xor sizes.Byte (Temp 3) (Const 1)) ∷ (Compute 4 compute.Add sizes.Quad (Temp 0) (Temp 1)) ∷ (Compute 4 compute.Add sizes.Quad (Temp 4) (Flag 3)) ∷ (Compute 4 compute.ShiftRight sizes.Quad (Temp 4) (Const 32)) ∷ (Compute 4 compute.And sizes.Byte (Temp 4) (Const 1)) ∷ (Compute 5 compute.Add sizes.Long (Register 1) (Const 4)) ∷ (Commit 1 5) ∷ (Compute 5 compute.Add sizes.Long (Register 2) (Const 4)) ∷ (Commit 2 5) ∷ (Compute 6 compute.ShiftRight sizes.Long (Temp 2) (Const 31)) ∷ (Compute 7 compute.Equal sizes.Long (Temp 2) (Const 0)) ∷ (Codes 6 7 3 (Some 4)) ∷ (Leave Next) ∷ []) ≡ 0x81
unfolding longest
row12 = refl

row13 : longest (sources_of op.AddAlignedWord) ((Compute 0 compute.Move sizes.Long (Register 1) (Const 0)) ∷ (Probe 0 4 false) ∷ (Read 1 0 4) ∷ (Compute 4 compute.Add sizes.Long (Register 2) (Register 2)) ∷ (Compute 1 compute.Add sizes.Long (Temp 1) (Temp 4)) ∷ (Probe 1 2 false) ∷ (Read 0 1 2) ∷ (Compute 1 compute.Move sizes.Long (Register 2) (Const 0)) ∷ (Probe 1 4 false) ∷ (Read 2 1 4) ∷ (Compute 4 compute.Add sizes.Long (Register 1) (Const 4)) ∷ (Compute 4 compute.Add sizes.Long (Temp 4) (Temp 4)) ∷ (Compute 2 compute.Add sizes.Long (Temp 2) (Temp 4)) ∷ (Compute 4 compute.And sizes.Byte (Temp 2) (Const 1)) ∷ (Refuse 4) ∷ (Probe 2 2 true) ∷ (Locked 1 2 AddWord 0) ∷ (Compute 2 compute.Add sizes.Word (Temp 0) (Temp 1)) ∷ (Compute 5 compute.Add sizes.Long (Register 1) (Const 4)) ∷ (Commit 1 5) ∷ (Compute 5 compute.Add sizes.Long (Register 2) (Const 4)) ∷ (Commit 2 5) ∷ (Compute 6 compute.ShiftRight sizes.Word (Temp 2) (Const 15)) ∷ (Compute 7 compute.Equal sizes.Word (Temp 2) (Const 0)) ∷ (Compute 10 compute.SignExtend sizes.Word (Temp 0) (Const 0)) ∷ (Compute 11 compute.SignExtend sizes.Word (Temp 1) (Const 0)) ∷ (Compute 10 compute.Add sizes.Quad (Temp 10) (Temp 11)) ∷ (Compute 11 compute.SignExtend sizes.Word (Temp 2) (Const 0)) ∷ (Compute 8 compute.Equal sizes.Quad (Temp 10) (Temp 11)) ∷ (Compute 8 compute.Xor sizes.Byte (Temp 8) (Const 1)) ∷ (Compute 9 compute.LessUnsigned sizes.Word (Temp 2) (Temp 0)) ∷ (Codes 6 7 8 (Some 9)) ∷ (Leave Next) ∷ []) ≡ 0x62
unfolding longest
row13 = refl

row14 : longest (sources_of op.ArithmeticShift) ((Compute 0 compute.Move sizes.Long (Register 1) (Const 0)) ∷ (Probe 0 4 false) ∷ (Read 1 0 4) ∷ (Compute 1 compute.Add sizes.Long (Temp 1) (Register 2)) ∷ (Probe 1 1 false) ∷ (Read 0 1 1) ∷ (Compute 1 compute.Move sizes.Long (Register 2) (Const 0)) ∷ (Probe 1 4 false) ∷ (Read 2 1 4) ∷ (Compute 4 compute.Add sizes.Long (Register 1) (Const 4)) ∷ (Compute 4 compute.Add sizes.Long (Temp 4) (Temp 4)) ∷ (Compute 4 compute.Add sizes.Long (Temp 4) (Temp 4)) ∷ (Compute 2 compute.Add sizes.Long (Temp 2) (Temp 4)) ∷ (Probe 2 4 false) ∷ (Read 1 2 4) ∷ (Compute 2 compute.Move sizes.Long (Register 3) (Const 0)) ∷ (Probe 2 4 false) ∷ (Read 3 2 4) ∷ (Compute 4 compute.Add sizes.Long (Register 1) (Const 4)) ∷ (Compute 4 compute.Add sizes.Long (Temp 4) (Temp 4)) ∷ (Compute 4 compute.Add sizes.Long (Temp 4) (Temp 4)) ∷ (Compute 3 compute.Add sizes.Long (Temp 3) (Temp 4)) ∷ (Compute 4 compute.SignExtend sizes.Byte (Temp 0) (Const 0)) ∷ (Compute 5 compute.Sub sizes.Long (Const 0) (Temp 4)) ∷ (Compute 2 compute.ShiftSigned sizes.Long (Temp 1) (Temp 5)) ∷ (Compute 5 compute.ShiftLeft sizes.Long (Temp 1) (Temp 4)) ∷ (Compute 4 compute.Less sizes.Byte (Const 0) (Temp 0)) ∷ (Compute 2 compute.SelectNonzero sizes.Quad (Temp 4) (Temp 5)) ∷ (Probe 3 4 true) ∷ (Write 3 4 2) ∷ (Compute 4 compute.ShiftSigned sizes.Long (Temp 2) (Temp 0)) ∷ (Compute 4 compute.Equal sizes.Long (Temp 4) (Temp 1)) ∷ (Compute 4 compute.Xor sizes.Byte (Temp 4) (Const 1)) ∷ (Compute 3 compute.Less sizes.Byte (Const 0) (Temp 0)) ∷ (Compute 3 compute.And sizes.Byte (Temp 3) (Temp 4)) ∷ (Compute 5 compute.Add sizes.Long (Register 1) (Const 4)) ∷ (Commit 1 5) ∷ (Compute 5 compute.Add sizes.Long (Register 2) (Const 4)) ∷ (Commit 2 5) ∷ (Compute 5 compute.Add sizes.Long (Register 3) (Const 4)) ∷ (Commit 3 5) ∷ (Compute 6 compute.ShiftRight sizes.Long (Temp 2) (Const 31)) ∷ (Compute 7 compute.Equal sizes.Long (Temp 2) (Const 0)) ∷ (Compute 9 compute.Move sizes.Byte (Const 0) (Const 0)) ∷ (Codes 6 7 3 (Some 9)) ∷ (Leave Next) ∷ []) ≡ 0xA4
unfolding longest
row14 = refl

row15 : longest (sources_of op.Rotate) ((Compute 0 compute.Move sizes.Long (Register 1) (Const 0)) ∷ (Probe 0 4 false) ∷ (Read 1 0 4) ∷ (Compute 1 compute.Add sizes.Long (Temp 1) (Register 2)) ∷ (Probe 1 1 false) ∷ (Read 0 1 1) ∷ (Compute 1 compute.Move sizes.Long (Register 2) (Const 0)) ∷ (Probe 1 4 false) ∷ (Read 2 1 4) ∷ (Compute 4 compute.Add sizes.Long (Register 1) (Const 4)) ∷ (Compute 4 compute.Add sizes.Long (Temp 4) (Temp 4)) ∷ (Compute 4 compute.Add sizes.Long (Temp 4) (Temp 4)) ∷ (Compute 2 compute.Add sizes.Long (Temp 2) (Temp 4)) ∷ (Probe 2 4 false) ∷ (Read 1 2 4) ∷ (Compute 2 compute.Move sizes.Long (Register 3) (Const 0)) ∷ (Probe 2 4 false) ∷ (Read 3 2 4) ∷ (Compute 4 compute.Add sizes.Long (Register 1) (Const 4)) ∷ (Compute 4 compute.Add sizes.Long (Temp 4) (Temp 4)) ∷ (Compute 4 compute.Add sizes.Long (Temp 4) (Temp 4)) ∷ (Compute 3 compute.Add sizes.Long (Temp 3) (Temp 4)) ∷ (Compute 4 compute.And sizes.Byte (Temp 0) (Const 31)) ∷ (Compute 2 compute.ShiftLeft sizes.Long (Temp 1) (Temp 4)) ∷ (Compute 5 compute.Sub sizes.Long (Const 32) (Temp 4)) ∷ (Compute 5 compute.ShiftRight sizes.Long (Temp 1) (Temp 5)) ∷ (Compute 2 compute.Or sizes.Long (Temp 2) (Temp 5)) ∷ (Probe 3 4 true) ∷ (Write 3 4 2) ∷ (Compute 0 compute.Move sizes.Long (Temp 2) (Const 0)) ∷ (Compute 5 compute.Add sizes.Long (Register 1) (Const 4)) ∷ (Commit 1 5) ∷ (Compute 5 compute.Add sizes.Long (Register 2) (Const 4)) ∷ (Commit 2 5) ∷ (Compute 5 compute.Add sizes.Long (Register 3) (Const 4)) ∷ (Commit 3 5) ∷ (Compute 6 compute.ShiftRight sizes.Long (Temp 2) (Const 31)) ∷ (Compute 7 compute.Equal sizes.Long (Temp 2) (Const 0)) ∷ (Compute 8 compute.Move sizes.Byte (Const 0) (Const 0)) ∷ (Codes 6 7 8 None) ∷ (Leave Next) ∷ []) ≡ 0x89
unfolding longest
row15 = refl

row16 : longest (sources_of op.ExtendedMultiply) ((Compute 0 compute.Move sizes.Long (Register 1) (Const 0)) ∷ (Probe 0 4 false) ∷ (Read 1 0 4) ∷ (Compute 4 compute.Add sizes.Long (Register 2) (Register 2)) ∷ (Compute 4 compute.Add sizes.Long (Temp 4) (Temp 4)) ∷ (Compute 1 compute.Add sizes.Long (Temp 1) (Temp 4)) ∷ (Probe 1 4 false) ∷ (Read 0 1 4) ∷ (Compute 1 compute.Move sizes.Long (Register 2) (Const 0)) ∷ (Probe 1 4 false) ∷ (Read 2 1 4) ∷ (Compute 4 compute.Add sizes.Long (Register 1) (Const 4)) ∷ (Compute 4 compute.Add sizes.Long (Temp 4) (Temp 4)) ∷ (Compute 4 compute.Add sizes.Long (Temp 4) (Temp 4)) ∷ (Compute 2 compute.Add sizes.Long (Temp 2) (Temp 4)) ∷ (Probe 2 4 false) ∷ (Read 1 2 4) ∷ (Compute 4 compute.SignExtend sizes.Long (Temp 0) (Const 0)) ∷ (Compute 5 compute.SignExtend sizes.Long (Temp 1) (Const 0)) ∷ (Compute 0 compute.Mul sizes.Quad (Temp 4) (Temp 5)) ∷ (Compute 1 compute.Move sizes.Long (Register 3) (Const 0)) ∷ (Probe 1 4 false) ∷ (Read 2 1 4) ∷ (Compute 4 compute.Add sizes.Long (Register 1) (Const 4)) ∷ (Compute 4 compute.Add sizes.Long (Temp 4) (Temp 4)) ∷ (Compute 4 compute.Add sizes.Long (Temp 4) (Temp 4)) ∷ (Compute 2 compute.Add sizes.Long (Temp 2) (Temp 4)) ∷ (Probe 2 4 false) ∷ (Read 1 2 4) ∷ (Compute 4 compute.SignExtend sizes.Long (Temp 1) (Const 0)) ∷ (Compute 0 compute.Add sizes.Quad (Temp 0) (Temp 4)) ∷ (Compute 2 compute.Move sizes.Long (Register 4) (Const 0)) ∷ (Probe 2 4 false) ∷ (Read 3 2 4) ∷ (Compute 4 compute.Add sizes.Long (Register 1) (Const 4)) ∷ (Compute 4 compute.Mul sizes.Long (Temp 4) (Const 8)) ∷ (Compute 3 compute.Add sizes.Long (Temp 3) (Temp 4)) ∷ (Probe 3 8 true) ∷ (Write 3 8 0) ∷ (Compute 2 compute.Move sizes.Quad (Temp 0) (Const 0)) ∷ (Compute 5 compute.Add sizes.Long (Register 1) (Const 4)) ∷ (Commit 1 5) ∷ (Compute 5 compute.Add sizes.Long (Register 2) (Const 4)) ∷ (Commit 2 5) ∷ (Compute 5 compute.Add sizes.Long (Register 3) (Const 4)) ∷ (Commit 3 5) ∷ (Compute 5 compute.Add sizes.Long (Register 4) (Const 4)) ∷ (Commit 4 5) ∷ (Compute 6 compute.ShiftRight sizes.Quad (Temp 2) (Const 63)) ∷ (Compute 7 compute.Equal sizes.Quad (Temp 2) (Const 0)) ∷ (Compute 8 compute.Move sizes.Byte (Const 0) (Const 0)) ∷ (Compute 9 compute.Move sizes.Byte (Const 0) (Const 0)) ∷ (Codes 6 7 8 (Some 9)) ∷ (Leave Next) ∷ []) ≡ 0xB5
unfolding longest
row16 = refl

row17 : longest (sources_of (op.Move sizes.Quad)) ((Compute 0 compute.Move sizes.Long (Register 1) (Const 0)) ∷ (Probe 0 4 false) ∷ (Read 1 0 4) ∷ (Compute 4 compute.Mul sizes.Long (Register 2) (Const 8)) ∷ (Compute 1 compute.Add sizes.Long (Temp 1) (Temp 4)) ∷ (Probe 1 8 false) ∷ (Read 0 1 8) ∷ (Compute 2 compute.Move sizes.Long (Register 2) (Const 0)) ∷ (Probe 2 4 false) ∷ (Read 3 2 4) ∷ (Compute 4 compute.Add sizes.Long (Register 1) (Const 4)) ∷ (Compute 4 compute.Mul sizes.Long (Temp 4) (Const 8)) ∷ (Compute 3 compute.Add sizes.Long (Temp 3) (Temp 4)) ∷ (Probe 3 8 true) ∷ (Write 3 8 0) ∷ (Compute 2 compute.Move sizes.Quad (Temp 0) (Const 0)) ∷ (Compute 5 compute.Add sizes.Long (Register 1) (Const 4)) ∷ (Commit 1 5) ∷ (Compute 5 compute.Add sizes.Long (Register 2) (Const 4)) ∷ (Commit 2 5) ∷ (Compute 6 compute.ShiftRight sizes.Quad (Temp 2) (Const 63)) ∷ (Compute 7 compute.Equal sizes.Quad (Temp 2) (Const 0)) ∷ (Compute 8 compute.Move sizes.Byte (Const 0) (Const 0)) ∷ (Codes 6 7 8 None) ∷ (Leave Next) ∷ []) ≡ 0x5A
unfolding longest
row17 = refl

row18 : longest (sources_of (op.Move sizes.Quad)) ((Compute 0 compute.Move sizes.Long (Register 1) (Const 0)) ∷ (Compute 4 compute.Move sizes.Long (Register 2) (Const 0)) ∷ (Compute 4 compute.ShiftLeft sizes.Quad (Temp 4) (Const 32)) ∷ (Compute 0 compute.Or sizes.Quad (Temp 0) (Temp 4)) ∷ (Compute 3 compute.Move sizes.Long (Register 1) (Const 0)) ∷ (Probe 3 8 true) ∷ (Write 3 8 0) ∷ (Compute 2 compute.Move sizes.Quad (Temp 0) (Const 0)) ∷ (Compute 5 compute.Add sizes.Long (Register 1) (Const 8)) ∷ (Commit 1 5) ∷ (Compute 6 compute.ShiftRight sizes.Quad (Temp 2) (Const 63)) ∷ (Compute 7 compute.Equal sizes.Quad (Temp 2) (Const 0)) ∷ (Compute 8 compute.Move sizes.Byte (Const 0) (Const 0)) ∷ (Codes 6 7 8 None) ∷ (Leave Next) ∷ []) ≡ 0x29
unfolding longest
row18 = refl

row19 : longest (sources_of (op.MoveAddress sizes.Quad)) ((Compute 1 compute.Move sizes.Long (Register 1) (Const 0)) ∷ (Probe 1 4 false) ∷ (Read 0 1 4) ∷ (Compute 4 compute.Mul sizes.Long (Register 2) (Const 8)) ∷ (Compute 0 compute.Add sizes.Long (Temp 0) (Temp 4)) ∷ (Compute 2 compute.Move sizes.Long (Register 2) (Const 0)) ∷ (Probe 2 4 false) ∷ (Read 3 2 4) ∷ (Compute 4 compute.Add sizes.Long (Register 1) (Const 4)) ∷ (Compute 4 compute.Add sizes.Long (Temp 4) (Temp 4)) ∷ (Compute 4 compute.Add sizes.Long (Temp 4) (Temp 4)) ∷ (Compute 3 compute.Add sizes.Long (Temp 3) (Temp 4)) ∷ (Probe 3 4 true) ∷ (Write 3 4 0) ∷ (Compute 2 compute.Move sizes.Long (Temp 0) (Const 0)) ∷ (Compute 5 compute.Add sizes.Long (Register 1) (Const 4)) ∷ (Commit 1 5) ∷ (Compute 5 compute.Add sizes.Long (Register 2) (Const 4)) ∷ (Commit 2 5) ∷ (Compute 6 compute.ShiftRight sizes.Long (Temp 2) (Const 31)) ∷ (Compute 7 compute.Equal sizes.Long (Temp 2) (Const 0)) ∷ (Compute 8 compute.Move sizes.Byte (Const 0) (Const 0)) ∷ (Codes 6 7 8 None) ∷ (Leave Next) ∷ []) ≡ 0x4E
unfolding longest
row19 = refl

row20 : longest (sources_of (op.PushAddress sizes.Quad)) ((Compute 1 compute.Move sizes.Long (Register 14) (Const 0)) ∷ (Probe 1 4 false) ∷ (Read 0 1 4) ∷ (Compute 4 compute.Mul sizes.Long (Register 2) (Const 8)) ∷ (Compute 0 compute.Add sizes.Long (Temp 0) (Temp 4)) ∷ (Compute 3 compute.Move sizes.Long (Register 14) (Const 0)) ∷ (Probe 3 4 true) ∷ (Write 3 4 0) ∷ (Compute 2 compute.Move sizes.Long (Temp 0) (Const 0)) ∷ (Compute 6 compute.ShiftRight sizes.Long (Temp 2) (Const 31)) ∷ (Compute 7 compute.Equal sizes.Long (Temp 2) (Const 0)) ∷ (Compute 8 compute.Move sizes.Byte (Const 0) (Const 0)) ∷ (Codes 6 7 8 None) ∷ (Leave Next) ∷ []) ≡ 0x30
unfolding longest
row20 = refl

row21 : longest (sources_of op.PushLong) ((Compute 0 compute.Move sizes.Long (Register 14) (Const 0)) ∷ (Probe 0 4 false) ∷ (Read 1 0 4) ∷ (Compute 4 compute.Add sizes.Long (Register 2) (Register 2)) ∷ (Compute 4 compute.Add sizes.Long (Temp 4) (Temp 4)) ∷ (Compute 1 compute.Add sizes.Long (Temp 1) (Temp 4)) ∷ (Probe 1 4 false) ∷ (Read 0 1 4) ∷ (Compute 3 compute.Move sizes.Long (Register 14) (Const 0)) ∷ (Probe 3 4 true) ∷ (Write 3 4 0) ∷ (Compute 2 compute.Move sizes.Long (Temp 0) (Const 0)) ∷ (Compute 6 compute.ShiftRight sizes.Long (Temp 2) (Const 31)) ∷ (Compute 7 compute.Equal sizes.Long (Temp 2) (Const 0)) ∷ (Compute 8 compute.Move sizes.Byte (Const 0) (Const 0)) ∷ (Codes 6 7 8 None) ∷ (Leave Next) ∷ []) ≡ 0x3F
unfolding longest
row21 = refl

row22 : longest (sources_of (op.BranchOnBit (record { state = true; store = (Plain true) }))) ((Compute 0 compute.Move sizes.Long (Register 1) (Const 0)) ∷ (Probe 0 4 false) ∷ (Read 1 0 4) ∷ (Compute 4 compute.Add sizes.Long (Register 2) (Register 2)) ∷ (Compute 4 compute.Add sizes.Long (Temp 4) (Temp 4)) ∷ (Compute 1 compute.Add sizes.Long (Temp 1) (Temp 4)) ∷ (Probe 1 4 false) ∷ (Read 0 1 4) ∷ (Compute 1 compute.Move sizes.Long (Register 2) (Const 0)) ∷ (Probe 1 4 false) ∷ (Read 2 1 4) ∷ (Compute 4 compute.Add sizes.Long (Register 1) (Const 4)) ∷ (Compute 2 compute.Add sizes.Long (Temp 2) (Temp 4)) ∷ (Compute 4 compute.ShiftSigned sizes.Long (Temp 0) (Const 3)) ∷ (Compute 2 compute.Add sizes.Long (Temp 2) (Temp 4)) ∷ (Compute 0 compute.And sizes.Byte (Temp 0) (Const 7)) ∷ (Probe 2 1 true) ∷ (Read 1 2 1) ∷ (Compute 3 compute.ShiftLeft sizes.Byte (Const 1) (Temp 0)) ∷ (Compute 3 compute.Or sizes.Byte (Temp 1) (Temp 3)) ∷ (Write 2 1 3) ∷ (Compute 0 compute.ShiftRight sizes.Byte (Temp 1) (Temp 0)) ∷ (Compute 0 compute.And sizes.Byte (Temp 0) (Const 1)) ∷ (Compute 5 compute.Add sizes.Long (Register 1) (Const 4)) ∷ (Commit 1 5) ∷ (Compute 5 compute.Add sizes.Long (Register 2) (Const 4)) ∷ (Commit 2 5) ∷ (Leave (Choice 0 520 516)) ∷ []) ≡ 0x63
unfolding longest
row22 = refl

row23 : longest (sources_of (op.BranchOnBit (record { state = true; store = (Plain true) }))) ((Compute 0 compute.Move sizes.Long (Register 1) (Const 0)) ∷ (Probe 0 4 false) ∷ (Read 1 0 4) ∷ (Compute 4 compute.Add sizes.Long (Register 2) (Register 2)) ∷ (Compute 4 compute.Add sizes.Long (Temp 4) (Temp 4)) ∷ (Compute 1 compute.Add sizes.Long (Temp 1) (Temp 4)) ∷ (Probe 1 4 false) ∷ (Read 0 1 4) ∷ (Compute 4 compute.LessUnsigned sizes.Long (Const 31) (Temp 0)) ∷ (Refuse 4) ∷ (Compute 2 compute.Add sizes.Long (Register 1) (Const 4)) ∷ (Compute 1 compute.ShiftRight sizes.Long (Temp 2) (Temp 0)) ∷ (Compute 1 compute.And sizes.Byte (Temp 1) (Const 1)) ∷ (Compute 3 compute.ShiftLeft sizes.Long (Const 1) (Temp 0)) ∷ (Compute 2 compute.Or sizes.Long (Temp 2) (Temp 3)) ∷ (Compute 0 compute.Move sizes.Byte (Temp 1) (Const 0)) ∷ (Commit 1 2) ∷ (Leave (Choice 0 520 516)) ∷ []) ≡ 0x43
unfolding longest
row23 = refl

row24 : longest (sources_of (op.BranchOnBit (record { state = true; store = (Interlocked true) }))) ((Compute 0 compute.Move sizes.Long (Register 1) (Const 0)) ∷ (Probe 0 4 false) ∷ (Read 1 0 4) ∷ (Compute 4 compute.Add sizes.Long (Register 2) (Register 2)) ∷ (Compute 4 compute.Add sizes.Long (Temp 4) (Temp 4)) ∷ (Compute 1 compute.Add sizes.Long (Temp 1) (Temp 4)) ∷ (Probe 1 4 false) ∷ (Read 0 1 4) ∷ (Compute 1 compute.Move sizes.Long (Register 2) (Const 0)) ∷ (Probe 1 4 false) ∷ (Read 2 1 4) ∷ (Compute 4 compute.Add sizes.Long (Register 1) (Const 4)) ∷ (Compute 2 compute.Add sizes.Long (Temp 2) (Temp 4)) ∷ (Compute 4 compute.ShiftSigned sizes.Long (Temp 0) (Const 3)) ∷ (Compute 2 compute.Add sizes.Long (Temp 2) (Temp 4)) ∷ (Compute 0 compute.And sizes.Byte (Temp 0) (Const 7)) ∷ (Probe 2 1 true) ∷ (Locked 1 2 SetBit 0) ∷ (Compute 0 compute.ShiftRight sizes.Byte (Temp 1) (Temp 0)) ∷ (Compute 0 compute.And sizes.Byte (Temp 0) (Const 1)) ∷ (Compute 5 compute.Add sizes.Long (Register 1) (Const 4)) ∷ (Commit 1 5) ∷ (Compute 5 compute.Add sizes.Long (Register 2) (Const 4)) ∷ (Commit 2 5) ∷ (Leave (Choice 0 520 516)) ∷ []) ≡ 0x5D
unfolding longest
row24 = refl

row25 : longest (sources_of (op.BranchOnLowBit false)) ((Compute 0 compute.Move sizes.Long (Register 1) (Const 0)) ∷ (Probe 0 4 false) ∷ (Read 1 0 4) ∷ (Compute 4 compute.Add sizes.Long (Register 2) (Register 2)) ∷ (Compute 4 compute.Add sizes.Long (Temp 4) (Temp 4)) ∷ (Compute 1 compute.Add sizes.Long (Temp 1) (Temp 4)) ∷ (Probe 1 4 false) ∷ (Read 0 1 4) ∷ (Compute 0 compute.And sizes.Byte (Temp 0) (Const 1)) ∷ (Compute 0 compute.Xor sizes.Byte (Temp 0) (Const 1)) ∷ (Compute 5 compute.Add sizes.Long (Register 1) (Const 4)) ∷ (Commit 1 5) ∷ (Leave (Choice 0 520 516)) ∷ []) ≡ 0x2F
unfolding longest
row25 = refl

row26 : longest (sources_of (op.AddCompareBranch Long)) ((Compute 0 compute.Move sizes.Long (Register 1) (Const 0)) ∷ (Probe 0 4 false) ∷ (Read 1 0 4) ∷ (Compute 4 compute.Add sizes.Long (Register 2) (Register 2)) ∷ (Compute 4 compute.Add sizes.Long (Temp 4) (Temp 4)) ∷ (Compute 1 compute.Add sizes.Long (Temp 1) (Temp 4)) ∷ (Probe 1 4 false) ∷ (Read 0 1 4) ∷ (Compute 1 compute.Move sizes.Long (Register 2) (Const 0)) ∷ (Probe 1 4 false) ∷ (Read 2 1 4) ∷ (Compute 4 compute.Add sizes.Long (Register 1) (Const 4)) ∷ (Compute 4 compute.Add sizes.Long (Temp 4) (Temp 4)) ∷ (Compute 4 compute.Add sizes.Long (Temp 4) (Temp 4)) ∷ (Compute 2 compute.Add sizes.Long (Temp 2) (Temp 4)) ∷ (Probe 2 4 false) ∷ (Read 1 2 4) ∷ (Compute 2 compute.Move sizes.Long (Register 3) (Const 0)) ∷ (Probe 2 4 false) ∷ (Read 3 2 4) ∷ (Compute 4 compute.Add sizes.Long (Register 1) (Const 4)) ∷ (Compute 4 compute.Add sizes.Long (Temp 4) (Temp 4)) ∷ (Compute 4 compute.Add sizes.Long (Temp 4) (Temp 4)) ∷ (Compute 3 compute.Add sizes.Long (Temp 3) (Temp 4)) ∷ (Probe 3 4 true) ∷ (Read 2 3 4) ∷ (Compute 2 compute.Add sizes.Long (Temp 2) (Temp 1)) ∷ (Write 3 4 2) ∷ (Compute 4 compute.SignExtend sizes.Long (Temp 2) (Const 0)) ∷ (Compute 5 compute.SignExtend sizes.Long (Temp 1) (Const 0)) ∷ (Compute 4 compute.Sub sizes.Quad (Temp 4) (Temp 5)) ∷ (Compute 5 compute.SignExtend sizes.Long (Temp 4) (Const 0)) ∷ (Compute 3 compute.Equal sizes.Quad (Temp 4) (Temp 5)) ∷ (Compute 3 compute.Xor sizes.Byte (Temp 3) (Const 1)) ∷ (Compute 4 compute.Less sizes.Long (Temp 0) (Temp 2)) ∷ (Compute 5 compute.Less sizes.Long (Temp 2) (Temp 0)) ∷ (Compute 1 compute.Less sizes.Long (Temp 1) (Const 0)) ∷ (Compute 4 compute.SelectNonzero sizes.Quad (Temp 1) (Temp 5)) ∷ (Compute 0 compute.Xor sizes.Byte (Temp 4) (Const 1)) ∷ (Compute 5 compute.Add sizes.Long (Register 1) (Const 4)) ∷ (Commit 1 5) ∷ (Compute 5 compute.Add sizes.Long (Register 2) (Const 4)) ∷ (Commit 2 5) ∷ (Compute 5 compute.Add sizes.Long (Register 3) (Const 4)) ∷ (Commit 3 5) ∷ (Compute 6 compute.ShiftRight sizes.Long (Temp 2) (Const 31)) ∷ (Compute 7 compute.Equal sizes.Long (Temp 2) (Const 0)) ∷ (Codes 6 7 3 None) ∷ (Leave (Choice 0 520 516)) ∷ []) ≡ 0xB4
unfolding longest
row26 = refl

row27 : longest (sources_of (op.AddCompareBranch Long)) ((Compute 0 compute.Move sizes.Long (Register 1) (Const 0)) ∷ (Probe 0 4 false) ∷ (Read 1 0 4) ∷ (Compute 4 compute.Add sizes.Long (Register 2) (Register 2)) ∷ (Compute 4 compute.Add sizes.Long (Temp 4) (Temp 4)) ∷ (Compute 1 compute.Add sizes.Long (Temp 1) (Temp 4)) ∷ (Probe 1 4 false) ∷ (Read 0 1 4) ∷ (Compute 1 compute.Add sizes.Long (Register 1) (Const 4)) ∷ (Probe 1 4 false) ∷ (Read 2 1 4) ∷ (Compute 4 compute.Add sizes.Long (Register 3) (Register 3)) ∷ (Compute 4 compute.Add sizes.Long (Temp 4) (Temp 4)) ∷ (Compute 2 compute.Add sizes.Long (Temp 2) (Temp 4)) ∷ (Probe 2 4 false) ∷ (Read 1 2 4) ∷ (Compute 2 compute.Add sizes.Long (Register 1) (Const 8)) ∷ (Probe 2 4 false) ∷ (Read 3 2 4) ∷ (Compute 4 compute.Add sizes.Long (Register 4) (Register 4)) ∷ (Compute 4 compute.Add sizes.Long (Temp 4) (Temp 4)) ∷ (Compute 3 compute.Add sizes.Long (Temp 3) (Temp 4)) ∷ (Probe 3 4 true) ∷ (Read 2 3 4) ∷ (Compute 2 compute.Add sizes.Long (Temp 2) (Temp 1)) ∷ (Write 3 4 2) ∷ (Compute 4 compute.SignExtend sizes.Long (Temp 2) (Const 0)) ∷ (Compute 5 compute.SignExtend sizes.Long (Temp 1) (Const 0)) ∷ (Compute 4 compute.Sub sizes.Quad (Temp 4) (Temp 5)) ∷ (Compute 5 compute.SignExtend sizes.Long (Temp 4) (Const 0)) ∷ (Compute 3 compute.Equal sizes.Quad (Temp 4) (Temp 5)) ∷ (Compute 3 compute.Xor sizes.Byte (Temp 3) (Const 1)) ∷ (Compute 4 compute.Less sizes.Long (Temp 0) (Temp 2)) ∷ (Compute 5 compute.Less sizes.Long (Temp 2) (Temp 0)) ∷ (Compute 1 compute.Less sizes.Long (Temp 1) (Const 0)) ∷ (Compute 4 compute.SelectNonzero sizes.Quad (Temp 1) (Temp 5)) ∷ (Compute 0 compute.Xor sizes.Byte (Temp 4) (Const 1)) ∷ (Compute 5 compute.Add sizes.Long (Register 1) (Const 12)) ∷ (Commit 1 5) ∷ (Compute 6 compute.ShiftRight sizes.Long (Temp 2) (Const 31)) ∷ (Compute 7 compute.Equal sizes.Long (Temp 2) (Const 0)) ∷ (Codes 6 7 3 None) ∷ (Leave (Choice 0 520 516)) ∷ []) ≡ 0xAC
unfolding longest
row27 = refl

row28 : longest (sources_of (op.AddCompareBranch Word)) ((Compute 0 compute.Move sizes.Long (Register 1) (Const 0)) ∷ (Probe 0 4 false) ∷ (Read 1 0 4) ∷ (Compute 4 compute.Add sizes.Long (Register 2) (Register 2)) ∷ (Compute 1 compute.Add sizes.Long (Temp 1) (Temp 4)) ∷ (Probe 1 2 false) ∷ (Read 0 1 2) ∷ (Compute 1 compute.Move sizes.Long (Register 2) (Const 0)) ∷ (Probe 1 4 false) ∷ (Read 2 1 4) ∷ (Compute 4 compute.Add sizes.Long (Register 1) (Const 4)) ∷ (Compute 4 compute.Add sizes.Long (Temp 4) (Temp 4)) ∷ (Compute 2 compute.Add sizes.Long (Temp 2) (Temp 4)) ∷ (Probe 2 2 false) ∷ (Read 1 2 2) ∷ (Compute 2 compute.Move sizes.Long (Register 3) (Const 0)) ∷ (Probe 2 4 false) ∷ (Read 3 2 4) ∷ (Compute 4 compute.Add sizes.Long (Register 1) (Const 4)) ∷ (Compute 4 compute.Add sizes.Long (Temp 4) (Temp 4)) ∷ (Compute 3 compute.Add sizes.Long (Temp 3) (Temp 4)) ∷ (Probe 3 2 true) ∷ (Read 2 3 2) ∷ (Compute 2 compute.Add sizes.Word (Temp 2) (Temp 1)) ∷ (Write 3 2 2) ∷ (Compute 4 compute.SignExtend sizes.Word (Temp 2) (Const 0)) ∷ (Compute 5 compute.SignExtend sizes.Word (Temp 1) (Const 0)) ∷ (Compute 4 compute.Sub sizes.Quad (Temp 4) (Temp 5)) ∷ (Compute 5 compute.SignExtend sizes.Word (Temp 4) (Const 0)) ∷ (Compute 3 compute.Equal sizes.Quad (Temp 4) (Temp 5)) ∷ (Compute 3 compute.Xor sizes.Byte (Temp 3) (Const 1)) ∷ (Compute 4 compute.Less sizes.Word (Temp 0) (Temp 2)) ∷ (Compute 5 compute.Less sizes.Word (Temp 2) (Temp 0)) ∷ (Compute 1 compute.Less sizes.Word (Temp 1) (Const 0)) ∷ (Compute 4 compute.SelectNonzero sizes.Quad (Temp 1) (Temp 5)) ∷ (Compute 0 compute.Xor sizes.Byte (Temp 4) (Const 1)) ∷ (Compute 5 compute.Add sizes.Long (Register 1) (Const 4)) ∷ (Commit 1 5) ∷ (Compute 5 compute.Add sizes.Long (Register 2) (Const 4)) ∷ (Commit 2 5) ∷ (Compute 5 compute.Add sizes.Long (Register 3) (Const 4)) ∷ (Commit 3 5) ∷ (Compute 6 compute.ShiftRight sizes.Word (Temp 2) (Const 15)) ∷ (Compute 7 compute.Equal sizes.Word (Temp 2) (Const 0)) ∷ (Codes 6 7 3 None) ∷ (Leave (Choice 0 520 516)) ∷ []) ≡ 0xA5
unfolding longest
row28 = refl

row29 : longest (sources_of (op.AddCompareBranch Byte)) ((Compute 0 compute.Move sizes.Long (Register 1) (Const 0)) ∷ (Probe 0 4 false) ∷ (Read 1 0 4) ∷ (Compute 1 compute.Add sizes.Long (Temp 1) (Register 2)) ∷ (Probe 1 1 false) ∷ (Read 0 1 1) ∷ (Compute 1 compute.Move sizes.Long (Register 2) (Const 0)) ∷ (Probe 1 4 false) ∷ (Read 2 1 4) ∷ (Compute 4 compute.Add sizes.Long (Register 1) (Const 4)) ∷ (Compute 2 compute.Add sizes.Long (Temp 2) (Temp 4)) ∷ (Probe 2 1 false) ∷ (Read 1 2 1) ∷ (Compute 2 compute.Add sizes.Byte (Register 1) (Const 4)) ∷ (Compute 2 compute.Add sizes.Byte (Temp 2) (Temp 1)) ∷ (Compute 4 compute.SignExtend sizes.Byte (Temp 2) (Const 0)) ∷ (Compute 5 compute.SignExtend sizes.Byte (Temp 1) (Const 0)) ∷ (Compute 4 compute.Sub sizes.Quad (Temp 4) (Temp 5)) ∷ (Compute 5 compute.SignExtend sizes.Byte (Temp 4) (Const 0)) ∷ (Compute 3 compute.Equal sizes.Quad (Temp 4) (Temp 5)) ∷ (Compute 3 compute.Xor sizes.Byte (Temp 3) (Const 1)) ∷ (Compute 4 compute.Less sizes.Byte (Temp 0) (Temp 2)) ∷ (Compute 5 compute.Less sizes.Byte (Temp 2) (Temp 0)) ∷ (Compute 1 compute.Less sizes.Byte (Temp 1) (Const 0)) ∷ (Compute 4 compute.SelectNonzero sizes.Quad (Temp 1) (Temp 5)) ∷ (Compute 0 compute.Xor sizes.Byte (Temp 4) (Const 1)) ∷ (Compute 5 compute.Add sizes.Long (Register 1) (Const 4)) ∷ (Compute 5 compute.AndNot sizes.Long (Temp 5) (Const 255)) ∷ (Compute 5 compute.Or sizes.Long (Temp 5) (Temp 2)) ∷ (Commit 1 5) ∷ (Compute 5 compute.Add sizes.Long (Register 2) (Const 4)) ∷ (Commit 2 5) ∷ (Compute 6 compute.ShiftRight sizes.Byte (Temp 2) (Const 7)) ∷ (Compute 7 compute.Equal sizes.Byte (Temp 2) (Const 0)) ∷ (Codes 6 7 3 None) ∷ (Leave (Choice 0 520 516)) ∷ []) ≡ 0x64
unfolding longest
row29 = refl

row30 : longest (sources_of (op.AddOneBranch true)) ((Compute 0 compute.Move sizes.Long (Register 1) (Const 0)) ∷ (Probe 0 4 false) ∷ (Read 1 0 4) ∷ (Compute 4 compute.Add sizes.Long (Register 2) (Register 2)) ∷ (Compute 4 compute.Add sizes.Long (Temp 4) (Temp 4)) ∷ (Compute 1 compute.Add sizes.Long (Temp 1) (Temp 4)) ∷ (Probe 1 4 false) ∷ (Read 0 1 4) ∷ (Compute 2 compute.Move sizes.Long (Register 2) (Const 0)) ∷ (Probe 2 4 false) ∷ (Read 3 2 4) ∷ (Compute 4 compute.Add sizes.Long (Register 1) (Const 4)) ∷ (Compute 4 compute.Add sizes.Long (Temp 4) (Temp 4)) ∷ (Compute 4 compute.Add sizes.Long (Temp 4) (Temp 4)) ∷ (Compute 3 compute.Add sizes.Long (Temp 3) (Temp 4)) ∷ (Probe 3 4 true) ∷ (Read 2 3 4) ∷ (Compute 2 compute.Add sizes.Long (Temp 2) (Const 1)) ∷ (Write 3 4 2) ∷ (Compute 3 compute.Equal sizes.Long (Temp 2) (Const 2147483648)) ∷ (Compute 0 compute.Less sizes.Long (Temp 0) (Temp 2)) ∷ (Compute 0 compute.Xor sizes.Byte (Temp 0) (Const 1)) ∷ (Compute 5 compute.Add sizes.Long (Register 1) (Const 4)) ∷ (Commit 1 5) ∷ (Compute 5 compute.Add sizes.Long (Register 2) (Const 4)) ∷ (Commit 2 5) ∷ (Compute 6 compute.ShiftRight sizes.Long (Temp 2) (Const 31)) ∷ (Compute 7 compute.Equal sizes.Long (Temp 2) (Const 0)) ∷ (Codes 6 7 3 None) ∷ (Leave (Choice 0 520 516)) ∷ []) ≡ 0x84
unfolding longest
row30 = refl

row31 : longest (sources_of (op.SubtractOneBranch true)) ((Compute 2 compute.Move sizes.Long (Register 1) (Const 0)) ∷ (Probe 2 4 false) ∷ (Read 3 2 4) ∷ (Compute 4 compute.Add sizes.Long (Register 2) (Register 2)) ∷ (Compute 4 compute.Add sizes.Long (Temp 4) (Temp 4)) ∷ (Compute 3 compute.Add sizes.Long (Temp 3) (Temp 4)) ∷ (Probe 3 4 true) ∷ (Read 2 3 4) ∷ (Compute 2 compute.Sub sizes.Long (Temp 2) (Const 1)) ∷ (Write 3 4 2) ∷ (Compute 3 compute.Equal sizes.Long (Temp 2) (Const 2147483647)) ∷ (Compute 0 compute.Less sizes.Long (Temp 2) (Const 0)) ∷ (Compute 0 compute.Xor sizes.Byte (Temp 0) (Const 1)) ∷ (Compute 5 compute.Add sizes.Long (Register 1) (Const 4)) ∷ (Commit 1 5) ∷ (Compute 6 compute.ShiftRight sizes.Long (Temp 2) (Const 31)) ∷ (Compute 7 compute.Equal sizes.Long (Temp 2) (Const 0)) ∷ (Codes 6 7 3 None) ∷ (Leave (Choice 0 520 516)) ∷ []) ≡ 0x58
unfolding longest
row31 = refl

row32 : longest (sources_of (op.BranchToSubroutine Byte)) ((Compute 1 compute.Add sizes.Long (Register 14) (Const 4294967292)) ∷ (Compute 2 compute.Move sizes.Long (Const 520) (Const 0)) ∷ (Probe 1 4 true) ∷ (Write 1 4 2) ∷ (Compute 5 compute.Add sizes.Long (Register 14) (Const 4294967292)) ∷ (Commit 14 5) ∷ (Leave (Fixed 520)) ∷ []) ≡ 0x20
unfolding longest
row32 = refl

row33 : longest (sources_of op.JumpToSubroutine) ((Compute 1 compute.Move sizes.Long (Register 14) (Const 0)) ∷ (Probe 1 4 false) ∷ (Read 0 1 4) ∷ (Compute 0 compute.Add sizes.Long (Temp 0) (Register 2)) ∷ (Compute 1 compute.Move sizes.Long (Register 14) (Const 0)) ∷ (Compute 2 compute.Move sizes.Long (Const 520) (Const 0)) ∷ (Probe 1 4 true) ∷ (Write 1 4 2) ∷ (Leave (Computed 0)) ∷ []) ≡ 0x2C
unfolding longest
row33 = refl

row34 : longest (sources_of op.Jump) ((Compute 1 compute.Move sizes.Long (Register 1) (Const 0)) ∷ (Probe 1 4 false) ∷ (Read 0 1 4) ∷ (Compute 0 compute.Add sizes.Long (Temp 0) (Register 2)) ∷ (Compute 5 compute.Add sizes.Long (Register 1) (Const 4)) ∷ (Commit 1 5) ∷ (Leave (Computed 0)) ∷ []) ≡ 0x16
unfolding longest
row34 = refl

row35 : longest (sources_of op.ReturnFromSubroutine) ((Compute 1 compute.Move sizes.Long (Register 14) (Const 0)) ∷ (Probe 1 4 false) ∷ (Read 0 1 4) ∷ (Compute 5 compute.Add sizes.Long (Register 14) (Const 4)) ∷ (Commit 14 5) ∷ (Leave (Computed 0)) ∷ []) ≡ 0x14
unfolding longest
row35 = refl

row36 : longest (sources_of op.BitSetPsw) ((Compute 0 compute.Move sizes.Long (Register 1) (Const 0)) ∷ (Probe 0 4 false) ∷ (Read 1 0 4) ∷ (Compute 4 compute.Add sizes.Long (Register 2) (Register 2)) ∷ (Compute 1 compute.Add sizes.Long (Temp 1) (Temp 4)) ∷ (Probe 1 2 false) ∷ (Read 0 1 2) ∷ (Compute 4 compute.ShiftRight sizes.Word (Temp 0) (Const 8)) ∷ (Refuse 4) ∷ (Compute 2 compute.Move sizes.Byte (Flag 7) (Const 0)) ∷ (Compute 2 compute.Add sizes.Byte (Temp 2) (Temp 2)) ∷ (Compute 2 compute.Or sizes.Byte (Temp 2) (Flag 6)) ∷ (Compute 2 compute.Add sizes.Byte (Temp 2) (Temp 2)) ∷ (Compute 2 compute.Or sizes.Byte (Temp 2) (Flag 5)) ∷ (Compute 2 compute.Add sizes.Byte (Temp 2) (Temp 2)) ∷ (Compute 2 compute.Or sizes.Byte (Temp 2) (Flag 4)) ∷ (Compute 2 compute.Add sizes.Byte (Temp 2) (Temp 2)) ∷ (Compute 2 compute.Or sizes.Byte (Temp 2) (Flag 0)) ∷ (Compute 2 compute.Add sizes.Byte (Temp 2) (Temp 2)) ∷ (Compute 2 compute.Or sizes.Byte (Temp 2) (Flag 1)) ∷ (Compute 2 compute.Add sizes.Byte (Temp 2) (Temp 2)) ∷ (Compute 2 compute.Or sizes.Byte (Temp 2) (Flag 2)) ∷ (Compute 2 compute.Add sizes.Byte (Temp 2) (Temp 2)) ∷ (Compute 2 compute.Or sizes.Byte (Temp 2) (Flag 3)) ∷ (Compute 2 compute.Or sizes.Byte (Temp 2) (Temp 0)) ∷ (SetPsw 2) ∷ (Compute 5 compute.Add sizes.Long (Register 1) (Const 4)) ∷ (Commit 1 5) ∷ (Leave Next) ∷ []) ≡ 0x57
unfolding longest
row36 = refl

row37 : longest (sources_of op.MovePsl) ((Compute 2 compute.Move sizes.Long (Register 1) (Const 0)) ∷ (Probe 2 4 false) ∷ (Read 3 2 4) ∷ (Compute 4 compute.Add sizes.Long (Register 2) (Register 2)) ∷ (Compute 4 compute.Add sizes.Long (Temp 4) (Temp 4)) ∷ (Compute 3 compute.Add sizes.Long (Temp 3) (Temp 4)) ∷ (Compute 2 compute.Move sizes.Byte (Flag 7) (Const 0)) ∷ (Compute 2 compute.Add sizes.Byte (Temp 2) (Temp 2)) ∷ (Compute 2 compute.Or sizes.Byte (Temp 2) (Flag 6)) ∷ (Compute 2 compute.Add sizes.Byte (Temp 2) (Temp 2)) ∷ (Compute 2 compute.Or sizes.Byte (Temp 2) (Flag 5)) ∷ (Compute 2 compute.Add sizes.Byte (Temp 2) (Temp 2)) ∷ (Compute 2 compute.Or sizes.Byte (Temp 2) (Flag 4)) ∷ (Compute 2 compute.Add sizes.Byte (Temp 2) (Temp 2)) ∷ (Compute 2 compute.Or sizes.Byte (Temp 2) (Flag 0)) ∷ (Compute 2 compute.Add sizes.Byte (Temp 2) (Temp 2)) ∷ (Compute 2 compute.Or sizes.Byte (Temp 2) (Flag 1)) ∷ (Compute 2 compute.Add sizes.Byte (Temp 2) (Temp 2)) ∷ (Compute 2 compute.Or sizes.Byte (Temp 2) (Flag 2)) ∷ (Compute 2 compute.Add sizes.Byte (Temp 2) (Temp 2)) ∷ (Compute 2 compute.Or sizes.Byte (Temp 2) (Flag 3)) ∷ (Compute 2 compute.Or sizes.Long (Temp 2) (Const 62914560)) ∷ (Probe 3 4 true) ∷ (Write 3 4 2) ∷ (Compute 5 compute.Add sizes.Long (Register 1) (Const 4)) ∷ (Commit 1 5) ∷ (Leave Next) ∷ []) ≡ 0x5A
unfolding longest
row37 = refl

row38 : longest (sources_of op.ChangeMode) ((Compute 0 compute.Move sizes.Long (Register 0) (Const 0)) ∷ (Probe 0 4 false) ∷ (Read 1 0 4) ∷ (Compute 4 compute.Add sizes.Long (Register 2) (Register 2)) ∷ (Compute 1 compute.Add sizes.Long (Temp 1) (Temp 4)) ∷ (Probe 1 2 false) ∷ (Read 0 1 2) ∷ (Compute 5 compute.Add sizes.Long (Register 0) (Const 4)) ∷ (Commit 0 5) ∷ (Leave (Service 0)) ∷ []) ≡ 0x27
unfolding longest
row38 = refl

row39 : longest (sources_of op.Breakpoint) ((Leave Breakpoint) ∷ []) ≡ 0x1
unfolding longest
row39 = refl

row40 : longest (sources_of (op.BranchIf GreaterUnsigned)) ((Compute 0 compute.Or sizes.Byte (Flag 3) (Flag 1)) ∷ (Leave (Choice 0 520 516)) ∷ []) ≡ 0x9
unfolding longest
row40 = refl

row41 : longest (sources_of (op.Compare Long)) ((Compute 0 compute.Move sizes.Long (Register 1) (Const 0)) ∷ (Probe 0 4 false) ∷ (Read 1 0 4) ∷ (Compute 4 compute.Add sizes.Long (Register 2) (Register 2)) ∷ (Compute 4 compute.Add sizes.Long (Temp 4) (Temp 4)) ∷ (Compute 1 compute.Add sizes.Long (Temp 1) (Temp 4)) ∷ (Probe 1 4 false) ∷ (Read 0 1 4) ∷ (Compute 1 compute.Move sizes.Long (Register 2) (Const 0)) ∷ (Probe 1 4 false) ∷ (Read 2 1 4) ∷ (Compute 4 compute.Add sizes.Long (Register 1) (Const 4)) ∷ (Compute 4 compute.Add sizes.Long (Temp 4) (Temp 4)) ∷ (Compute 4 compute.Add sizes.Long (Temp 4) (Temp 4)) ∷ (Compute 2 compute.Add sizes.Long (Temp 2) (Temp 4)) ∷ (Probe 2 4 false) ∷ (Read 1 2 4) ∷ (Compute 5 compute.Add sizes.Long (Register 1) (Const 4)) ∷ (Commit 1 5) ∷ (Compute 5 compute.Add sizes.Long (Register 2) (Const 4)) ∷ (Commit 2 5) ∷ (Compute 6 compute.Less sizes.Long (Temp 0) (Temp 1)) ∷ (Compute 7 compute.Equal sizes.Long (Temp 0) (Temp 1)) ∷ (Compute 8 compute.Move sizes.Byte (Const 0) (Const 0)) ∷ (Compute 9 compute.LessUnsigned sizes.Long (Temp 0) (Temp 1)) ∷ (Codes 6 7 8 (Some 9)) ∷ (Leave Next) ∷ []) ≡ 0x59
unfolding longest
row41 = refl

row42 : longest (sources_of (op.Test Word)) ((Compute 0 compute.Move sizes.Long (Register 1) (Const 0)) ∷ (Probe 0 4 false) ∷ (Read 1 0 4) ∷ (Compute 4 compute.Add sizes.Long (Register 2) (Register 2)) ∷ (Compute 1 compute.Add sizes.Long (Temp 1) (Temp 4)) ∷ (Probe 1 2 false) ∷ (Read 0 1 2) ∷ (Compute 2 compute.Move sizes.Word (Temp 0) (Const 0)) ∷ (Compute 5 compute.Add sizes.Long (Register 1) (Const 4)) ∷ (Commit 1 5) ∷ (Compute 6 compute.ShiftRight sizes.Word (Temp 2) (Const 15)) ∷ (Compute 7 compute.Equal sizes.Word (Temp 2) (Const 0)) ∷ (Compute 8 compute.Move sizes.Byte (Const 0) (Const 0)) ∷ (Compute 9 compute.Move sizes.Byte (Const 0) (Const 0)) ∷ (Codes 6 7 8 (Some 9)) ∷ (Leave Next) ∷ []) ≡ 0x28
unfolding longest
row42 = refl

row43 : longest (sources_of (op.BitTest Long)) ((Compute 0 compute.Move sizes.Long (Register 1) (Const 0)) ∷ (Probe 0 4 false) ∷ (Read 1 0 4) ∷ (Compute 4 compute.Add sizes.Long (Register 2) (Register 2)) ∷ (Compute 4 compute.Add sizes.Long (Temp 4) (Temp 4)) ∷ (Compute 1 compute.Add sizes.Long (Temp 1) (Temp 4)) ∷ (Probe 1 4 false) ∷ (Read 0 1 4) ∷ (Compute 1 compute.Move sizes.Long (Register 2) (Const 0)) ∷ (Probe 1 4 false) ∷ (Read 2 1 4) ∷ (Compute 4 compute.Add sizes.Long (Register 1) (Const 4)) ∷ (Compute 4 compute.Add sizes.Long (Temp 4) (Temp 4)) ∷ (Compute 4 compute.Add sizes.Long (Temp 4) (Temp 4)) ∷ (Compute 2 compute.Add sizes.Long (Temp 2) (Temp 4)) ∷ (Probe 2 4 false) ∷ (Read 1 2 4) ∷ (Compute 2 compute.And sizes.Long (Temp 0) (Temp 1)) ∷ (Compute 0 compute.Move sizes.Long (Temp 2) (Const 0)) ∷ (Compute 5 compute.Add sizes.Long (Register 1) (Const 4)) ∷ (Commit 1 5) ∷ (Compute 5 compute.Add sizes.Long (Register 2) (Const 4)) ∷ (Commit 2 5) ∷ (Compute 6 compute.ShiftRight sizes.Long (Temp 2) (Const 31)) ∷ (Compute 7 compute.Equal sizes.Long (Temp 2) (Const 0)) ∷ (Compute 8 compute.Move sizes.Byte (Const 0) (Const 0)) ∷ (Codes 6 7 8 None) ∷ (Leave Next) ∷ []) ≡ 0x57
unfolding longest
row43 = refl

row44 : longest (sources_of (op.Increment Long)) ((Compute 0 compute.Move sizes.Long (Register 1) (Const 0)) ∷ (Probe 0 4 false) ∷ (Read 3 0 4) ∷ (Compute 4 compute.Add sizes.Long (Register 2) (Register 2)) ∷ (Compute 4 compute.Add sizes.Long (Temp 4) (Temp 4)) ∷ (Compute 3 compute.Add sizes.Long (Temp 3) (Temp 4)) ∷ (Probe 3 4 true) ∷ (Read 0 3 4) ∷ (Compute 2 compute.Add sizes.Long (Temp 0) (Const 1)) ∷ (Write 3 4 2) ∷ (Compute 1 compute.Move sizes.Long (Const 1) (Const 0)) ∷ (Compute 5 compute.Add sizes.Long (Register 1) (Const 4)) ∷ (Commit 1 5) ∷ (Compute 6 compute.ShiftRight sizes.Long (Temp 2) (Const 31)) ∷ (Compute 7 compute.Equal sizes.Long (Temp 2) (Const 0)) ∷ (Compute 10 compute.SignExtend sizes.Long (Temp 0) (Const 0)) ∷ (Compute 11 compute.SignExtend sizes.Long (Temp 1) (Const 0)) ∷ (Compute 10 compute.Add sizes.Quad (Temp 10) (Temp 11)) ∷ (Compute 11 compute.SignExtend sizes.Long (Temp 2) (Const 0)) ∷ (Compute 8 compute.Equal sizes.Quad (Temp 10) (Temp 11)) ∷ (Compute 8 compute.Xor sizes.Byte (Temp 8) (Const 1)) ∷ (Compute 9 compute.LessUnsigned sizes.Long (Temp 2) (Temp 0)) ∷ (Codes 6 7 8 (Some 9)) ∷ (Leave Next) ∷ []) ≡ 0x52
unfolding longest
row44 = refl

row45 : longest (sources_of op.NoOperation) ((Compute 0 compute.Move sizes.Long (Register 1) (Const 0)) ∷ (Compute 1 compute.Move sizes.Long (Register 2) (Const 0)) ∷ (Probe 0 8 true) ∷ (Write 0 8 1) ∷ (Probe 0 8 true) ∷ (Write 0 8 1) ∷ (Probe 0 8 true) ∷ (Write 0 8 1) ∷ (Probe 0 8 true) ∷ (Write 0 8 1) ∷ (Probe 0 8 true) ∷ (Write 0 8 1) ∷ (Probe 0 8 true) ∷ (Write 0 8 1) ∷ (Probe 0 8 true) ∷ (Write 0 8 1) ∷ (Leave Next) ∷ []) ≡ 0xBB
unfolding longest
row45 = refl
