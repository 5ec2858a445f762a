-- The longest forms of instructions as micro programs: how many words they are counted as, that they fit, and where codes come
-- from.
use Rattle.std.proofs.Common.{◌≡◌, [], ◌∷◌, true, false, Some, None, refl}
use Rattle.vax_form.specs.declared.instr.Size.TheVariants as sizes
use Rattle.micro_ops.specs.declared.program.Arg.TheVariants.{Temp, Register, Flag, Const}
use Rattle.micro_ops.specs.declared.program.Exit.TheVariants.{Next, Fixed, Computed, Choice, Service, Breakpoint}
use Rattle.micro_ops.specs.declared.program.LockedOp.TheVariants.{AddWord, SetBit}
use Rattle.micro_ops.specs.declared.program.Micro.TheVariants.{Compute, Probe, Refuse, Read, Write, Locked, Commit, Codes, SetPsw, Leave}
use Rattle.micro_ops.specs.declared.program.MicroOp.TheVariants as compute
use Rattle.micro_ops.specs.declared.codes.CodeSource.TheVariants as source
use Rattle.micro_ops.specs.Fits.{fits, step}
use Rattle.micro_ops.specs.Sources.{from, sources_of}
use Rattle.micro_ops.specs.WordCounts.{program_words}
use Rattle.vax_form.specs.declared.instr.Width.TheVariants.{Byte, Word, Long}
use Rattle.vax_form.specs.declared.operation.BinaryOperation.TheVariants.{Add, Subtract, Multiply, BitClear}
use Rattle.vax_form.specs.declared.operation.BitStore.TheVariants.{Plain, Interlocked}
use Rattle.vax_form.specs.declared.operation.Condition.TheVariants.{Equal, Less, GreaterUnsigned}
use Rattle.vax_form.specs.declared.operation.Operation.TheVariants as op

fits1 : fits (from (source.Result sizes.Long) source.Kept) ((Compute 0 compute.Move sizes.Long (Register 1) (Const 0)) ∷ (Probe 0 4 false) ∷ (Read 1 0 4) ∷ (Compute 4 compute.Add sizes.Long (Register 2) (Register 2)) ∷ (Compute 4 compute.Add sizes.Long (Temp 4) (Temp 4)) ∷ (Compute 1 compute.Add sizes.Long (Temp 1) (Temp 4)) ∷ (Probe 1 4 false) ∷ (Read 0 1 4) ∷ (Compute 2 compute.Move sizes.Long (Register 2) (Const 0)) ∷ (Probe 2 4 false) ∷ (Read 3 2 4) ∷ (Compute 4 compute.Add sizes.Long (Register 1) (Const 4)) ∷ (Compute 4 compute.Add sizes.Long (Temp 4) (Temp 4)) ∷ (Compute 4 compute.Add sizes.Long (Temp 4) (Temp 4)) ∷ (Compute 3 compute.Add sizes.Long (Temp 3) (Temp 4)) ∷ (Probe 3 4 true) ∷ (Write 3 4 0) ∷ (Compute 2 compute.Move sizes.Long (Temp 0) (Const 0)) ∷ (Compute 5 compute.Add sizes.Long (Register 1) (Const 4)) ∷ (Commit 1 5) ∷ (Compute 5 compute.Add sizes.Long (Register 2) (Const 4)) ∷ (Commit 2 5) ∷ (Compute 6 compute.ShiftRight sizes.Long (Temp 2) (Const 31)) ∷ (Compute 7 compute.Equal sizes.Long (Temp 2) (Const 0)) ∷ (Compute 8 compute.Move sizes.Byte (Const 0) (Const 0)) ∷ (Codes 6 7 8 None) ∷ (Leave Next) ∷ []) ≡ true
unfolding step
fits1 = refl

words1 : program_words (from (source.Result sizes.Long) source.Kept) ((Compute 0 compute.Move sizes.Long (Register 1) (Const 0)) ∷ (Probe 0 4 false) ∷ (Read 1 0 4) ∷ (Compute 4 compute.Add sizes.Long (Register 2) (Register 2)) ∷ (Compute 4 compute.Add sizes.Long (Temp 4) (Temp 4)) ∷ (Compute 1 compute.Add sizes.Long (Temp 1) (Temp 4)) ∷ (Probe 1 4 false) ∷ (Read 0 1 4) ∷ (Compute 2 compute.Move sizes.Long (Register 2) (Const 0)) ∷ (Probe 2 4 false) ∷ (Read 3 2 4) ∷ (Compute 4 compute.Add sizes.Long (Register 1) (Const 4)) ∷ (Compute 4 compute.Add sizes.Long (Temp 4) (Temp 4)) ∷ (Compute 4 compute.Add sizes.Long (Temp 4) (Temp 4)) ∷ (Compute 3 compute.Add sizes.Long (Temp 3) (Temp 4)) ∷ (Probe 3 4 true) ∷ (Write 3 4 0) ∷ (Compute 2 compute.Move sizes.Long (Temp 0) (Const 0)) ∷ (Compute 5 compute.Add sizes.Long (Register 1) (Const 4)) ∷ (Commit 1 5) ∷ (Compute 5 compute.Add sizes.Long (Register 2) (Const 4)) ∷ (Commit 2 5) ∷ (Compute 6 compute.ShiftRight sizes.Long (Temp 2) (Const 31)) ∷ (Compute 7 compute.Equal sizes.Long (Temp 2) (Const 0)) ∷ (Compute 8 compute.Move sizes.Byte (Const 0) (Const 0)) ∷ (Codes 6 7 8 None) ∷ (Leave Next) ∷ []) ≡ 97
words1 = refl

sources1 : sources_of (op.Move sizes.Long) ≡ from (source.Result sizes.Long) source.Kept
unfolding sources_of
sources1 = refl

fits2 : fits (from (source.Result sizes.Word) source.Kept) ((Compute 0 compute.Move sizes.Long (Register 1) (Const 0)) ∷ (Probe 0 4 false) ∷ (Read 1 0 4) ∷ (Compute 1 compute.Add sizes.Long (Temp 1) (Register 2)) ∷ (Probe 1 1 false) ∷ (Read 0 1 1) ∷ (Compute 2 compute.Move sizes.Long (Register 2) (Const 0)) ∷ (Probe 2 4 false) ∷ (Read 3 2 4) ∷ (Compute 4 compute.Add sizes.Long (Register 1) (Const 4)) ∷ (Compute 4 compute.Add sizes.Long (Temp 4) (Temp 4)) ∷ (Compute 3 compute.Add sizes.Long (Temp 3) (Temp 4)) ∷ (Probe 3 2 true) ∷ (Write 3 2 0) ∷ (Compute 2 compute.Move sizes.Word (Temp 0) (Const 0)) ∷ (Compute 5 compute.Add sizes.Long (Register 1) (Const 4)) ∷ (Commit 1 5) ∷ (Compute 5 compute.Add sizes.Long (Register 2) (Const 4)) ∷ (Commit 2 5) ∷ (Compute 6 compute.ShiftRight sizes.Word (Temp 2) (Const 15)) ∷ (Compute 7 compute.Equal sizes.Word (Temp 2) (Const 0)) ∷ (Compute 8 compute.Move sizes.Byte (Const 0) (Const 0)) ∷ (Codes 6 7 8 None) ∷ (Leave Next) ∷ []) ≡ true
unfolding step
fits2 = refl

words2 : program_words (from (source.Result sizes.Word) source.Kept) ((Compute 0 compute.Move sizes.Long (Register 1) (Const 0)) ∷ (Probe 0 4 false) ∷ (Read 1 0 4) ∷ (Compute 1 compute.Add sizes.Long (Temp 1) (Register 2)) ∷ (Probe 1 1 false) ∷ (Read 0 1 1) ∷ (Compute 2 compute.Move sizes.Long (Register 2) (Const 0)) ∷ (Probe 2 4 false) ∷ (Read 3 2 4) ∷ (Compute 4 compute.Add sizes.Long (Register 1) (Const 4)) ∷ (Compute 4 compute.Add sizes.Long (Temp 4) (Temp 4)) ∷ (Compute 3 compute.Add sizes.Long (Temp 3) (Temp 4)) ∷ (Probe 3 2 true) ∷ (Write 3 2 0) ∷ (Compute 2 compute.Move sizes.Word (Temp 0) (Const 0)) ∷ (Compute 5 compute.Add sizes.Long (Register 1) (Const 4)) ∷ (Commit 1 5) ∷ (Compute 5 compute.Add sizes.Long (Register 2) (Const 4)) ∷ (Commit 2 5) ∷ (Compute 6 compute.ShiftRight sizes.Word (Temp 2) (Const 15)) ∷ (Compute 7 compute.Equal sizes.Word (Temp 2) (Const 0)) ∷ (Compute 8 compute.Move sizes.Byte (Const 0) (Const 0)) ∷ (Codes 6 7 8 None) ∷ (Leave Next) ∷ []) ≡ 79
words2 = refl

sources2 : sources_of (op.MoveZeroExtended Byte Word) ≡ from (source.Result sizes.Word) source.Kept
unfolding sources_of
sources2 = refl

fits3 : fits (from (source.Result sizes.Byte) source.Kept) ((Compute 0 compute.Move sizes.Long (Register 1) (Const 0)) ∷ (Probe 0 4 false) ∷ (Read 1 0 4) ∷ (Compute 1 compute.Add sizes.Long (Temp 1) (Register 2)) ∷ (Probe 1 1 false) ∷ (Read 0 1 1) ∷ (Compute 2 compute.Move sizes.Long (Register 2) (Const 0)) ∷ (Probe 2 4 false) ∷ (Read 3 2 4) ∷ (Compute 4 compute.Add sizes.Long (Register 1) (Const 4)) ∷ (Compute 3 compute.Add sizes.Long (Temp 3) (Temp 4)) ∷ (Compute 2 compute.Xor sizes.Byte (Temp 0) (Const 255)) ∷ (Probe 3 1 true) ∷ (Write 3 1 2) ∷ (Compute 0 compute.Move sizes.Byte (Temp 2) (Const 0)) ∷ (Compute 5 compute.Add sizes.Long (Register 1) (Const 4)) ∷ (Commit 1 5) ∷ (Compute 5 compute.Add sizes.Long (Register 2) (Const 4)) ∷ (Commit 2 5) ∷ (Compute 6 compute.ShiftRight sizes.Byte (Temp 2) (Const 7)) ∷ (Compute 7 compute.Equal sizes.Byte (Temp 2) (Const 0)) ∷ (Compute 8 compute.Move sizes.Byte (Const 0) (Const 0)) ∷ (Codes 6 7 8 None) ∷ (Leave Next) ∷ []) ≡ true
unfolding step
fits3 = refl

words3 : program_words (from (source.Result sizes.Byte) source.Kept) ((Compute 0 compute.Move sizes.Long (Register 1) (Const 0)) ∷ (Probe 0 4 false) ∷ (Read 1 0 4) ∷ (Compute 1 compute.Add sizes.Long (Temp 1) (Register 2)) ∷ (Probe 1 1 false) ∷ (Read 0 1 1) ∷ (Compute 2 compute.Move sizes.Long (Register 2) (Const 0)) ∷ (Probe 2 4 false) ∷ (Read 3 2 4) ∷ (Compute 4 compute.Add sizes.Long (Register 1) (Const 4)) ∷ (Compute 3 compute.Add sizes.Long (Temp 3) (Temp 4)) ∷ (Compute 2 compute.Xor sizes.Byte (Temp 0) (Const 255)) ∷ (Probe 3 1 true) ∷ (Write 3 1 2) ∷ (Compute 0 compute.Move sizes.Byte (Temp 2) (Const 0)) ∷ (Compute 5 compute.Add sizes.Long (Register 1) (Const 4)) ∷ (Commit 1 5) ∷ (Compute 5 compute.Add sizes.Long (Register 2) (Const 4)) ∷ (Commit 2 5) ∷ (Compute 6 compute.ShiftRight sizes.Byte (Temp 2) (Const 7)) ∷ (Compute 7 compute.Equal sizes.Byte (Temp 2) (Const 0)) ∷ (Compute 8 compute.Move sizes.Byte (Const 0) (Const 0)) ∷ (Codes 6 7 8 None) ∷ (Leave Next) ∷ []) ≡ 68
words3 = refl

sources3 : sources_of (op.MoveComplemented Byte) ≡ from (source.Result sizes.Byte) source.Kept
unfolding sources_of
sources3 = refl

fits4 : fits (from (source.Result sizes.Quad) source.Kept) ((Compute 2 compute.Move sizes.Long (Register 1) (Const 0)) ∷ (Probe 2 4 false) ∷ (Read 3 2 4) ∷ (Compute 4 compute.Mul sizes.Long (Register 2) (Const 8)) ∷ (Compute 3 compute.Add sizes.Long (Temp 3) (Temp 4)) ∷ (Compute 2 compute.Move sizes.Quad (Const 0) (Const 0)) ∷ (Probe 3 8 true) ∷ (Write 3 8 2) ∷ (Compute 0 compute.Move sizes.Quad (Const 0) (Const 0)) ∷ (Compute 5 compute.Add sizes.Long (Register 1) (Const 4)) ∷ (Commit 1 5) ∷ (Compute 6 compute.ShiftRight sizes.Quad (Temp 2) (Const 63)) ∷ (Compute 7 compute.Equal sizes.Quad (Temp 2) (Const 0)) ∷ (Compute 8 compute.Move sizes.Byte (Const 0) (Const 0)) ∷ (Codes 6 7 8 None) ∷ (Leave Next) ∷ []) ≡ true
unfolding step
fits4 = refl

words4 : program_words (from (source.Result sizes.Quad) source.Kept) ((Compute 2 compute.Move sizes.Long (Register 1) (Const 0)) ∷ (Probe 2 4 false) ∷ (Read 3 2 4) ∷ (Compute 4 compute.Mul sizes.Long (Register 2) (Const 8)) ∷ (Compute 3 compute.Add sizes.Long (Temp 3) (Temp 4)) ∷ (Compute 2 compute.Move sizes.Quad (Const 0) (Const 0)) ∷ (Probe 3 8 true) ∷ (Write 3 8 2) ∷ (Compute 0 compute.Move sizes.Quad (Const 0) (Const 0)) ∷ (Compute 5 compute.Add sizes.Long (Register 1) (Const 4)) ∷ (Commit 1 5) ∷ (Compute 6 compute.ShiftRight sizes.Quad (Temp 2) (Const 63)) ∷ (Compute 7 compute.Equal sizes.Quad (Temp 2) (Const 0)) ∷ (Compute 8 compute.Move sizes.Byte (Const 0) (Const 0)) ∷ (Codes 6 7 8 None) ∷ (Leave Next) ∷ []) ≡ 62
words4 = refl

sources4 : sources_of (op.Clear sizes.Quad) ≡ from (source.Result sizes.Quad) source.Kept
unfolding sources_of
sources4 = refl

fits5 : fits (from (source.Computed sizes.Word) source.Zero) ((Compute 0 compute.Move sizes.Long (Register 1) (Const 0)) ∷ (Probe 0 4 false) ∷ (Read 1 0 4) ∷ (Compute 4 compute.Add sizes.Long (Register 2) (Register 2)) ∷ (Compute 4 compute.Add sizes.Long (Temp 4) (Temp 4)) ∷ (Compute 1 compute.Add sizes.Long (Temp 1) (Temp 4)) ∷ (Probe 1 4 false) ∷ (Read 0 1 4) ∷ (Compute 2 compute.Move sizes.Long (Register 2) (Const 0)) ∷ (Probe 2 4 false) ∷ (Read 3 2 4) ∷ (Compute 4 compute.Add sizes.Long (Register 1) (Const 4)) ∷ (Compute 4 compute.Add sizes.Long (Temp 4) (Temp 4)) ∷ (Compute 3 compute.Add sizes.Long (Temp 3) (Temp 4)) ∷ (Compute 2 compute.SignExtend sizes.Long (Temp 0) (Const 0)) ∷ (Compute 2 compute.Move sizes.Word (Temp 2) (Const 0)) ∷ (Probe 3 2 true) ∷ (Write 3 2 2) ∷ (Compute 4 compute.SignExtend sizes.Word (Temp 2) (Const 0)) ∷ (Compute 5 compute.SignExtend sizes.Long (Temp 0) (Const 0)) ∷ (Compute 3 compute.Equal sizes.Quad (Temp 4) (Temp 5)) ∷ (Compute 3 compute.Xor sizes.Byte (Temp 3) (Const 1)) ∷ (Compute 5 compute.Add sizes.Long (Register 1) (Const 4)) ∷ (Commit 1 5) ∷ (Compute 5 compute.Add sizes.Long (Register 2) (Const 4)) ∷ (Commit 2 5) ∷ (Compute 6 compute.ShiftRight sizes.Word (Temp 2) (Const 15)) ∷ (Compute 7 compute.Equal sizes.Word (Temp 2) (Const 0)) ∷ (Compute 9 compute.Move sizes.Byte (Const 0) (Const 0)) ∷ (Codes 6 7 3 (Some 9)) ∷ (Leave Next) ∷ []) ≡ true
unfolding step
fits5 = refl

words5 : program_words (from (source.Computed sizes.Word) source.Zero) ((Compute 0 compute.Move sizes.Long (Register 1) (Const 0)) ∷ (Probe 0 4 false) ∷ (Read 1 0 4) ∷ (Compute 4 compute.Add sizes.Long (Register 2) (Register 2)) ∷ (Compute 4 compute.Add sizes.Long (Temp 4) (Temp 4)) ∷ (Compute 1 compute.Add sizes.Long (Temp 1) (Temp 4)) ∷ (Probe 1 4 false) ∷ (Read 0 1 4) ∷ (Compute 2 compute.Move sizes.Long (Register 2) (Const 0)) ∷ (Probe 2 4 false) ∷ (Read 3 2 4) ∷ (Compute 4 compute.Add sizes.Long (Register 1) (Const 4)) ∷ (Compute 4 compute.Add sizes.Long (Temp 4) (Temp 4)) ∷ (Compute 3 compute.Add sizes.Long (Temp 3) (Temp 4)) ∷ (Compute 2 compute.SignExtend sizes.Long (Temp 0) (Const 0)) ∷ (Compute 2 compute.Move sizes.Word (Temp 2) (Const 0)) ∷ (Probe 3 2 true) ∷ (Write 3 2 2) ∷ (Compute 4 compute.SignExtend sizes.Word (Temp 2) (Const 0)) ∷ (Compute 5 compute.SignExtend sizes.Long (Temp 0) (Const 0)) ∷ (Compute 3 compute.Equal sizes.Quad (Temp 4) (Temp 5)) ∷ (Compute 3 compute.Xor sizes.Byte (Temp 3) (Const 1)) ∷ (Compute 5 compute.Add sizes.Long (Register 1) (Const 4)) ∷ (Commit 1 5) ∷ (Compute 5 compute.Add sizes.Long (Register 2) (Const 4)) ∷ (Commit 2 5) ∷ (Compute 6 compute.ShiftRight sizes.Word (Temp 2) (Const 15)) ∷ (Compute 7 compute.Equal sizes.Word (Temp 2) (Const 0)) ∷ (Compute 9 compute.Move sizes.Byte (Const 0) (Const 0)) ∷ (Codes 6 7 3 (Some 9)) ∷ (Leave Next) ∷ []) ≡ 98
words5 = refl

sources5 : sources_of (op.Convert Long Word) ≡ from (source.Computed sizes.Word) source.Zero
unfolding sources_of
sources5 = refl

fits6 : fits (from (source.Add sizes.Long) (source.Add sizes.Long)) ((Compute 0 compute.Move sizes.Long (Register 1) (Const 0)) ∷ (Probe 0 4 false) ∷ (Read 2 0 4) ∷ (Compute 4 compute.Add sizes.Long (Register 2) (Register 2)) ∷ (Compute 4 compute.Add sizes.Long (Temp 4) (Temp 4)) ∷ (Compute 2 compute.Add sizes.Long (Temp 2) (Temp 4)) ∷ (Probe 2 4 false) ∷ (Read 0 2 4) ∷ (Compute 1 compute.Move sizes.Long (Register 2) (Const 0)) ∷ (Probe 1 4 false) ∷ (Read 2 1 4) ∷ (Compute 4 compute.Add sizes.Long (Register 1) (Const 4)) ∷ (Compute 4 compute.Add sizes.Long (Temp 4) (Temp 4)) ∷ (Compute 4 compute.Add sizes.Long (Temp 4) (Temp 4)) ∷ (Compute 2 compute.Add sizes.Long (Temp 2) (Temp 4)) ∷ (Probe 2 4 false) ∷ (Read 1 2 4) ∷ (Compute 2 compute.Move sizes.Long (Register 3) (Const 0)) ∷ (Probe 2 4 false) ∷ (Read 3 2 4) ∷ (Compute 4 compute.Add sizes.Long (Register 1) (Const 4)) ∷ (Compute 4 compute.Add sizes.Long (Temp 4) (Temp 4)) ∷ (Compute 4 compute.Add sizes.Long (Temp 4) (Temp 4)) ∷ (Compute 3 compute.Add sizes.Long (Temp 3) (Temp 4)) ∷ (Compute 2 compute.Add sizes.Long (Temp 0) (Temp 1)) ∷ (Probe 3 4 true) ∷ (Write 3 4 2) ∷ (Compute 5 compute.Add sizes.Long (Register 1) (Const 4)) ∷ (Commit 1 5) ∷ (Compute 5 compute.Add sizes.Long (Register 2) (Const 4)) ∷ (Commit 2 5) ∷ (Compute 5 compute.Add sizes.Long (Register 3) (Const 4)) ∷ (Commit 3 5) ∷ (Compute 6 compute.ShiftRight sizes.Long (Temp 2) (Const 31)) ∷ (Compute 7 compute.Equal sizes.Long (Temp 2) (Const 0)) ∷ (Compute 10 compute.SignExtend sizes.Long (Temp 0) (Const 0)) ∷ (Compute 11 compute.SignExtend sizes.Long (Temp 1) (Const 0)) ∷ (Compute 10 compute.Add sizes.Quad (Temp 10) (Temp 11)) ∷ (Compute 11 compute.SignExtend sizes.Long (Temp 2) (Const 0)) ∷ (Compute 8 compute.Equal sizes.Quad (Temp 10) (Temp 11)) ∷ (Compute 8 compute.Xor sizes.Byte (Temp 8) (Const 1)) ∷ (Compute 9 compute.LessUnsigned sizes.Long (Temp 2) (Temp 0)) ∷ (Codes 6 7 8 (Some 9)) ∷ (Leave Next) ∷ []) ≡ true
unfolding step
fits6 = refl

words6 : program_words (from (source.Add sizes.Long) (source.Add sizes.Long)) ((Compute 0 compute.Move sizes.Long (Register 1) (Const 0)) ∷ (Probe 0 4 false) ∷ (Read 2 0 4) ∷ (Compute 4 compute.Add sizes.Long (Register 2) (Register 2)) ∷ (Compute 4 compute.Add sizes.Long (Temp 4) (Temp 4)) ∷ (Compute 2 compute.Add sizes.Long (Temp 2) (Temp 4)) ∷ (Probe 2 4 false) ∷ (Read 0 2 4) ∷ (Compute 1 compute.Move sizes.Long (Register 2) (Const 0)) ∷ (Probe 1 4 false) ∷ (Read 2 1 4) ∷ (Compute 4 compute.Add sizes.Long (Register 1) (Const 4)) ∷ (Compute 4 compute.Add sizes.Long (Temp 4) (Temp 4)) ∷ (Compute 4 compute.Add sizes.Long (Temp 4) (Temp 4)) ∷ (Compute 2 compute.Add sizes.Long (Temp 2) (Temp 4)) ∷ (Probe 2 4 false) ∷ (Read 1 2 4) ∷ (Compute 2 compute.Move sizes.Long (Register 3) (Const 0)) ∷ (Probe 2 4 false) ∷ (Read 3 2 4) ∷ (Compute 4 compute.Add sizes.Long (Register 1) (Const 4)) ∷ (Compute 4 compute.Add sizes.Long (Temp 4) (Temp 4)) ∷ (Compute 4 compute.Add sizes.Long (Temp 4) (Temp 4)) ∷ (Compute 3 compute.Add sizes.Long (Temp 3) (Temp 4)) ∷ (Compute 2 compute.Add sizes.Long (Temp 0) (Temp 1)) ∷ (Probe 3 4 true) ∷ (Write 3 4 2) ∷ (Compute 5 compute.Add sizes.Long (Register 1) (Const 4)) ∷ (Commit 1 5) ∷ (Compute 5 compute.Add sizes.Long (Register 2) (Const 4)) ∷ (Commit 2 5) ∷ (Compute 5 compute.Add sizes.Long (Register 3) (Const 4)) ∷ (Commit 3 5) ∷ (Compute 6 compute.ShiftRight sizes.Long (Temp 2) (Const 31)) ∷ (Compute 7 compute.Equal sizes.Long (Temp 2) (Const 0)) ∷ (Compute 10 compute.SignExtend sizes.Long (Temp 0) (Const 0)) ∷ (Compute 11 compute.SignExtend sizes.Long (Temp 1) (Const 0)) ∷ (Compute 10 compute.Add sizes.Quad (Temp 10) (Temp 11)) ∷ (Compute 11 compute.SignExtend sizes.Long (Temp 2) (Const 0)) ∷ (Compute 8 compute.Equal sizes.Quad (Temp 10) (Temp 11)) ∷ (Compute 8 compute.Xor sizes.Byte (Temp 8) (Const 1)) ∷ (Compute 9 compute.LessUnsigned sizes.Long (Temp 2) (Temp 0)) ∷ (Codes 6 7 8 (Some 9)) ∷ (Leave Next) ∷ []) ≡ 142
words6 = refl

sources6 : sources_of (op.ThreeOperands Add Long) ≡ from (source.Add sizes.Long) (source.Add sizes.Long)
unfolding sources_of
sources6 = refl

fits7 : fits (from (source.Add sizes.Byte) (source.Add sizes.Byte)) ((Compute 0 compute.Move sizes.Long (Register 1) (Const 0)) ∷ (Probe 0 4 false) ∷ (Read 2 0 4) ∷ (Compute 2 compute.Add sizes.Long (Temp 2) (Register 2)) ∷ (Probe 2 1 false) ∷ (Read 0 2 1) ∷ (Compute 1 compute.Add sizes.Long (Register 1) (Const 4)) ∷ (Probe 1 4 false) ∷ (Read 2 1 4) ∷ (Compute 2 compute.Add sizes.Long (Temp 2) (Register 2)) ∷ (Probe 2 1 false) ∷ (Read 1 2 1) ∷ (Compute 2 compute.Add sizes.Byte (Temp 0) (Temp 1)) ∷ (Compute 5 compute.Add sizes.Long (Register 1) (Const 8)) ∷ (Compute 5 compute.AndNot sizes.Long (Temp 5) (Const 255)) ∷ (Compute 5 compute.Or sizes.Long (Temp 5) (Temp 2)) ∷ (Commit 1 5) ∷ (Compute 6 compute.ShiftRight sizes.Byte (Temp 2) (Const 7)) ∷ (Compute 7 compute.Equal sizes.Byte (Temp 2) (Const 0)) ∷ (Compute 10 compute.SignExtend sizes.Byte (Temp 0) (Const 0)) ∷ (Compute 11 compute.SignExtend sizes.Byte (Temp 1) (Const 0)) ∷ (Compute 10 compute.Add sizes.Quad (Temp 10) (Temp 11)) ∷ (Compute 11 compute.SignExtend sizes.Byte (Temp 2) (Const 0)) ∷ (Compute 8 compute.Equal sizes.Quad (Temp 10) (Temp 11)) ∷ (Compute 8 compute.Xor sizes.Byte (Temp 8) (Const 1)) ∷ (Compute 9 compute.LessUnsigned sizes.Byte (Temp 2) (Temp 0)) ∷ (Codes 6 7 8 (Some 9)) ∷ (Leave Next) ∷ []) ≡ true
unfolding step
fits7 = refl

words7 : program_words (from (source.Add sizes.Byte) (source.Add sizes.Byte)) ((Compute 0 compute.Move sizes.Long (Register 1) (Const 0)) ∷ (Probe 0 4 false) ∷ (Read 2 0 4) ∷ (Compute 2 compute.Add sizes.Long (Temp 2) (Register 2)) ∷ (Probe 2 1 false) ∷ (Read 0 2 1) ∷ (Compute 1 compute.Add sizes.Long (Register 1) (Const 4)) ∷ (Probe 1 4 false) ∷ (Read 2 1 4) ∷ (Compute 2 compute.Add sizes.Long (Temp 2) (Register 2)) ∷ (Probe 2 1 false) ∷ (Read 1 2 1) ∷ (Compute 2 compute.Add sizes.Byte (Temp 0) (Temp 1)) ∷ (Compute 5 compute.Add sizes.Long (Register 1) (Const 8)) ∷ (Compute 5 compute.AndNot sizes.Long (Temp 5) (Const 255)) ∷ (Compute 5 compute.Or sizes.Long (Temp 5) (Temp 2)) ∷ (Commit 1 5) ∷ (Compute 6 compute.ShiftRight sizes.Byte (Temp 2) (Const 7)) ∷ (Compute 7 compute.Equal sizes.Byte (Temp 2) (Const 0)) ∷ (Compute 10 compute.SignExtend sizes.Byte (Temp 0) (Const 0)) ∷ (Compute 11 compute.SignExtend sizes.Byte (Temp 1) (Const 0)) ∷ (Compute 10 compute.Add sizes.Quad (Temp 10) (Temp 11)) ∷ (Compute 11 compute.SignExtend sizes.Byte (Temp 2) (Const 0)) ∷ (Compute 8 compute.Equal sizes.Quad (Temp 10) (Temp 11)) ∷ (Compute 8 compute.Xor sizes.Byte (Temp 8) (Const 1)) ∷ (Compute 9 compute.LessUnsigned sizes.Byte (Temp 2) (Temp 0)) ∷ (Codes 6 7 8 (Some 9)) ∷ (Leave Next) ∷ []) ≡ 62
words7 = refl

sources7 : sources_of (op.ThreeOperands Add Byte) ≡ from (source.Add sizes.Byte) (source.Add sizes.Byte)
unfolding sources_of
sources7 = refl

fits8 : fits (from (source.Sub sizes.Word) (source.Sub sizes.Word)) ((Compute 1 compute.Move sizes.Long (Register 1) (Const 0)) ∷ (Probe 1 4 false) ∷ (Read 2 1 4) ∷ (Compute 4 compute.Add sizes.Long (Register 2) (Register 2)) ∷ (Compute 2 compute.Add sizes.Long (Temp 2) (Temp 4)) ∷ (Probe 2 2 false) ∷ (Read 1 2 2) ∷ (Compute 0 compute.Move sizes.Long (Register 2) (Const 0)) ∷ (Probe 0 4 false) ∷ (Read 2 0 4) ∷ (Compute 4 compute.Add sizes.Long (Register 1) (Const 4)) ∷ (Compute 4 compute.Add sizes.Long (Temp 4) (Temp 4)) ∷ (Compute 2 compute.Add sizes.Long (Temp 2) (Temp 4)) ∷ (Probe 2 2 false) ∷ (Read 0 2 2) ∷ (Compute 2 compute.Move sizes.Long (Register 3) (Const 0)) ∷ (Probe 2 4 false) ∷ (Read 3 2 4) ∷ (Compute 4 compute.Add sizes.Long (Register 1) (Const 4)) ∷ (Compute 4 compute.Add sizes.Long (Temp 4) (Temp 4)) ∷ (Compute 3 compute.Add sizes.Long (Temp 3) (Temp 4)) ∷ (Compute 2 compute.Sub sizes.Word (Temp 0) (Temp 1)) ∷ (Probe 3 2 true) ∷ (Write 3 2 2) ∷ (Compute 5 compute.Add sizes.Long (Register 1) (Const 4)) ∷ (Commit 1 5) ∷ (Compute 5 compute.Add sizes.Long (Register 2) (Const 4)) ∷ (Commit 2 5) ∷ (Compute 5 compute.Add sizes.Long (Register 3) (Const 4)) ∷ (Commit 3 5) ∷ (Compute 6 compute.ShiftRight sizes.Word (Temp 2) (Const 15)) ∷ (Compute 7 compute.Equal sizes.Word (Temp 2) (Const 0)) ∷ (Compute 10 compute.SignExtend sizes.Word (Temp 0) (Const 0)) ∷ (Compute 11 compute.SignExtend sizes.Word (Temp 1) (Const 0)) ∷ (Compute 10 compute.Sub sizes.Quad (Temp 10) (Temp 11)) ∷ (Compute 11 compute.SignExtend sizes.Word (Temp 2) (Const 0)) ∷ (Compute 8 compute.Equal sizes.Quad (Temp 10) (Temp 11)) ∷ (Compute 8 compute.Xor sizes.Byte (Temp 8) (Const 1)) ∷ (Compute 9 compute.LessUnsigned sizes.Word (Temp 0) (Temp 1)) ∷ (Codes 6 7 8 (Some 9)) ∷ (Leave Next) ∷ []) ≡ true
unfolding step
fits8 = refl

words8 : program_words (from (source.Sub sizes.Word) (source.Sub sizes.Word)) ((Compute 1 compute.Move sizes.Long (Register 1) (Const 0)) ∷ (Probe 1 4 false) ∷ (Read 2 1 4) ∷ (Compute 4 compute.Add sizes.Long (Register 2) (Register 2)) ∷ (Compute 2 compute.Add sizes.Long (Temp 2) (Temp 4)) ∷ (Probe 2 2 false) ∷ (Read 1 2 2) ∷ (Compute 0 compute.Move sizes.Long (Register 2) (Const 0)) ∷ (Probe 0 4 false) ∷ (Read 2 0 4) ∷ (Compute 4 compute.Add sizes.Long (Register 1) (Const 4)) ∷ (Compute 4 compute.Add sizes.Long (Temp 4) (Temp 4)) ∷ (Compute 2 compute.Add sizes.Long (Temp 2) (Temp 4)) ∷ (Probe 2 2 false) ∷ (Read 0 2 2) ∷ (Compute 2 compute.Move sizes.Long (Register 3) (Const 0)) ∷ (Probe 2 4 false) ∷ (Read 3 2 4) ∷ (Compute 4 compute.Add sizes.Long (Register 1) (Const 4)) ∷ (Compute 4 compute.Add sizes.Long (Temp 4) (Temp 4)) ∷ (Compute 3 compute.Add sizes.Long (Temp 3) (Temp 4)) ∷ (Compute 2 compute.Sub sizes.Word (Temp 0) (Temp 1)) ∷ (Probe 3 2 true) ∷ (Write 3 2 2) ∷ (Compute 5 compute.Add sizes.Long (Register 1) (Const 4)) ∷ (Commit 1 5) ∷ (Compute 5 compute.Add sizes.Long (Register 2) (Const 4)) ∷ (Commit 2 5) ∷ (Compute 5 compute.Add sizes.Long (Register 3) (Const 4)) ∷ (Commit 3 5) ∷ (Compute 6 compute.ShiftRight sizes.Word (Temp 2) (Const 15)) ∷ (Compute 7 compute.Equal sizes.Word (Temp 2) (Const 0)) ∷ (Compute 10 compute.SignExtend sizes.Word (Temp 0) (Const 0)) ∷ (Compute 11 compute.SignExtend sizes.Word (Temp 1) (Const 0)) ∷ (Compute 10 compute.Sub sizes.Quad (Temp 10) (Temp 11)) ∷ (Compute 11 compute.SignExtend sizes.Word (Temp 2) (Const 0)) ∷ (Compute 8 compute.Equal sizes.Quad (Temp 10) (Temp 11)) ∷ (Compute 8 compute.Xor sizes.Byte (Temp 8) (Const 1)) ∷ (Compute 9 compute.LessUnsigned sizes.Word (Temp 0) (Temp 1)) ∷ (Codes 6 7 8 (Some 9)) ∷ (Leave Next) ∷ []) ≡ 132
words8 = refl

sources8 : sources_of (op.ThreeOperands Subtract Word) ≡ from (source.Sub sizes.Word) (source.Sub sizes.Word)
unfolding sources_of
sources8 = refl

fits9 : fits (from (source.Computed sizes.Long) source.Zero) ((Compute 0 compute.Move sizes.Long (Register 1) (Const 0)) ∷ (Probe 0 4 false) ∷ (Read 2 0 4) ∷ (Compute 4 compute.Add sizes.Long (Register 2) (Register 2)) ∷ (Compute 4 compute.Add sizes.Long (Temp 4) (Temp 4)) ∷ (Compute 2 compute.Add sizes.Long (Temp 2) (Temp 4)) ∷ (Probe 2 4 false) ∷ (Read 0 2 4) ∷ (Compute 1 compute.Move sizes.Long (Register 2) (Const 0)) ∷ (Probe 1 4 false) ∷ (Read 2 1 4) ∷ (Compute 4 compute.Add sizes.Long (Register 1) (Const 4)) ∷ (Compute 4 compute.Add sizes.Long (Temp 4) (Temp 4)) ∷ (Compute 4 compute.Add sizes.Long (Temp 4) (Temp 4)) ∷ (Compute 2 compute.Add sizes.Long (Temp 2) (Temp 4)) ∷ (Probe 2 4 false) ∷ (Read 1 2 4) ∷ (Compute 2 compute.Move sizes.Long (Register 3) (Const 0)) ∷ (Probe 2 4 false) ∷ (Read 3 2 4) ∷ (Compute 4 compute.Add sizes.Long (Register 1) (Const 4)) ∷ (Compute 4 compute.Add sizes.Long (Temp 4) (Temp 4)) ∷ (Compute 4 compute.Add sizes.Long (Temp 4) (Temp 4)) ∷ (Compute 3 compute.Add sizes.Long (Temp 3) (Temp 4)) ∷ (Compute 2 compute.Mul sizes.Long (Temp 0) (Temp 1)) ∷ (Probe 3 4 true) ∷ (Write 3 4 2) ∷ (Compute 4 compute.SignExtend sizes.Long (Temp 0) (Const 0)) ∷ (Compute 5 compute.SignExtend sizes.Long (Temp 1) (Const 0)) ∷ (Compute 4 compute.Mul sizes.Quad (Temp 4) (Temp 5)) ∷ (Compute 5 compute.SignExtend sizes.Long (Temp 2) (Const 0)) ∷ (Compute 3 compute.Equal sizes.Quad (Temp 4) (Temp 5)) ∷ (Compute 3 compute.Xor sizes.Byte (Temp 3) (Const 1)) ∷ (Compute 5 compute.Add sizes.Long (Register 1) (Const 4)) ∷ (Commit 1 5) ∷ (Compute 5 compute.Add sizes.Long (Register 2) (Const 4)) ∷ (Commit 2 5) ∷ (Compute 5 compute.Add sizes.Long (Register 3) (Const 4)) ∷ (Commit 3 5) ∷ (Compute 6 compute.ShiftRight sizes.Long (Temp 2) (Const 31)) ∷ (Compute 7 compute.Equal sizes.Long (Temp 2) (Const 0)) ∷ (Compute 9 compute.Move sizes.Byte (Const 0) (Const 0)) ∷ (Codes 6 7 3 (Some 9)) ∷ (Leave Next) ∷ []) ≡ true
unfolding step
fits9 = refl

words9 : program_words (from (source.Computed sizes.Long) source.Zero) ((Compute 0 compute.Move sizes.Long (Register 1) (Const 0)) ∷ (Probe 0 4 false) ∷ (Read 2 0 4) ∷ (Compute 4 compute.Add sizes.Long (Register 2) (Register 2)) ∷ (Compute 4 compute.Add sizes.Long (Temp 4) (Temp 4)) ∷ (Compute 2 compute.Add sizes.Long (Temp 2) (Temp 4)) ∷ (Probe 2 4 false) ∷ (Read 0 2 4) ∷ (Compute 1 compute.Move sizes.Long (Register 2) (Const 0)) ∷ (Probe 1 4 false) ∷ (Read 2 1 4) ∷ (Compute 4 compute.Add sizes.Long (Register 1) (Const 4)) ∷ (Compute 4 compute.Add sizes.Long (Temp 4) (Temp 4)) ∷ (Compute 4 compute.Add sizes.Long (Temp 4) (Temp 4)) ∷ (Compute 2 compute.Add sizes.Long (Temp 2) (Temp 4)) ∷ (Probe 2 4 false) ∷ (Read 1 2 4) ∷ (Compute 2 compute.Move sizes.Long (Register 3) (Const 0)) ∷ (Probe 2 4 false) ∷ (Read 3 2 4) ∷ (Compute 4 compute.Add sizes.Long (Register 1) (Const 4)) ∷ (Compute 4 compute.Add sizes.Long (Temp 4) (Temp 4)) ∷ (Compute 4 compute.Add sizes.Long (Temp 4) (Temp 4)) ∷ (Compute 3 compute.Add sizes.Long (Temp 3) (Temp 4)) ∷ (Compute 2 compute.Mul sizes.Long (Temp 0) (Temp 1)) ∷ (Probe 3 4 true) ∷ (Write 3 4 2) ∷ (Compute 4 compute.SignExtend sizes.Long (Temp 0) (Const 0)) ∷ (Compute 5 compute.SignExtend sizes.Long (Temp 1) (Const 0)) ∷ (Compute 4 compute.Mul sizes.Quad (Temp 4) (Temp 5)) ∷ (Compute 5 compute.SignExtend sizes.Long (Temp 2) (Const 0)) ∷ (Compute 3 compute.Equal sizes.Quad (Temp 4) (Temp 5)) ∷ (Compute 3 compute.Xor sizes.Byte (Temp 3) (Const 1)) ∷ (Compute 5 compute.Add sizes.Long (Register 1) (Const 4)) ∷ (Commit 1 5) ∷ (Compute 5 compute.Add sizes.Long (Register 2) (Const 4)) ∷ (Commit 2 5) ∷ (Compute 5 compute.Add sizes.Long (Register 3) (Const 4)) ∷ (Commit 3 5) ∷ (Compute 6 compute.ShiftRight sizes.Long (Temp 2) (Const 31)) ∷ (Compute 7 compute.Equal sizes.Long (Temp 2) (Const 0)) ∷ (Compute 9 compute.Move sizes.Byte (Const 0) (Const 0)) ∷ (Codes 6 7 3 (Some 9)) ∷ (Leave Next) ∷ []) ≡ 149
words9 = refl

sources9 : sources_of (op.ThreeOperands Multiply Long) ≡ from (source.Computed sizes.Long) source.Zero
unfolding sources_of
sources9 = refl

fits10 : fits (from (source.Result sizes.Long) source.Kept) ((Compute 0 compute.Move sizes.Long (Register 1) (Const 0)) ∷ (Probe 0 4 false) ∷ (Read 2 0 4) ∷ (Compute 4 compute.Add sizes.Long (Register 2) (Register 2)) ∷ (Compute 4 compute.Add sizes.Long (Temp 4) (Temp 4)) ∷ (Compute 2 compute.Add sizes.Long (Temp 2) (Temp 4)) ∷ (Probe 2 4 false) ∷ (Read 0 2 4) ∷ (Compute 1 compute.Move sizes.Long (Register 2) (Const 0)) ∷ (Probe 1 4 false) ∷ (Read 3 1 4) ∷ (Compute 4 compute.Add sizes.Long (Register 1) (Const 4)) ∷ (Compute 4 compute.Add sizes.Long (Temp 4) (Temp 4)) ∷ (Compute 4 compute.Add sizes.Long (Temp 4) (Temp 4)) ∷ (Compute 3 compute.Add sizes.Long (Temp 3) (Temp 4)) ∷ (Probe 3 4 true) ∷ (Read 1 3 4) ∷ (Compute 2 compute.AndNot sizes.Long (Temp 1) (Temp 0)) ∷ (Write 3 4 2) ∷ (Compute 0 compute.Move sizes.Long (Temp 2) (Const 0)) ∷ (Compute 5 compute.Add sizes.Long (Register 1) (Const 4)) ∷ (Commit 1 5) ∷ (Compute 5 compute.Add sizes.Long (Register 2) (Const 4)) ∷ (Commit 2 5) ∷ (Compute 6 compute.ShiftRight sizes.Long (Temp 2) (Const 31)) ∷ (Compute 7 compute.Equal sizes.Long (Temp 2) (Const 0)) ∷ (Compute 8 compute.Move sizes.Byte (Const 0) (Const 0)) ∷ (Codes 6 7 8 None) ∷ (Leave Next) ∷ []) ≡ true
unfolding step
fits10 = refl

words10 : program_words (from (source.Result sizes.Long) source.Kept) ((Compute 0 compute.Move sizes.Long (Register 1) (Const 0)) ∷ (Probe 0 4 false) ∷ (Read 2 0 4) ∷ (Compute 4 compute.Add sizes.Long (Register 2) (Register 2)) ∷ (Compute 4 compute.Add sizes.Long (Temp 4) (Temp 4)) ∷ (Compute 2 compute.Add sizes.Long (Temp 2) (Temp 4)) ∷ (Probe 2 4 false) ∷ (Read 0 2 4) ∷ (Compute 1 compute.Move sizes.Long (Register 2) (Const 0)) ∷ (Probe 1 4 false) ∷ (Read 3 1 4) ∷ (Compute 4 compute.Add sizes.Long (Register 1) (Const 4)) ∷ (Compute 4 compute.Add sizes.Long (Temp 4) (Temp 4)) ∷ (Compute 4 compute.Add sizes.Long (Temp 4) (Temp 4)) ∷ (Compute 3 compute.Add sizes.Long (Temp 3) (Temp 4)) ∷ (Probe 3 4 true) ∷ (Read 1 3 4) ∷ (Compute 2 compute.AndNot sizes.Long (Temp 1) (Temp 0)) ∷ (Write 3 4 2) ∷ (Compute 0 compute.Move sizes.Long (Temp 2) (Const 0)) ∷ (Compute 5 compute.Add sizes.Long (Register 1) (Const 4)) ∷ (Commit 1 5) ∷ (Compute 5 compute.Add sizes.Long (Register 2) (Const 4)) ∷ (Commit 2 5) ∷ (Compute 6 compute.ShiftRight sizes.Long (Temp 2) (Const 31)) ∷ (Compute 7 compute.Equal sizes.Long (Temp 2) (Const 0)) ∷ (Compute 8 compute.Move sizes.Byte (Const 0) (Const 0)) ∷ (Codes 6 7 8 None) ∷ (Leave Next) ∷ []) ≡ 111
words10 = refl

sources10 : sources_of (op.TwoOperands BitClear Long) ≡ from (source.Result sizes.Long) source.Kept
unfolding sources_of
sources10 = refl

fits11 : fits (from (source.Sub sizes.Long) (source.Sub sizes.Long)) ((Compute 1 compute.Move sizes.Long (Register 1) (Const 0)) ∷ (Probe 1 4 false) ∷ (Read 0 1 4) ∷ (Compute 4 compute.Add sizes.Long (Register 2) (Register 2)) ∷ (Compute 4 compute.Add sizes.Long (Temp 4) (Temp 4)) ∷ (Compute 0 compute.Add sizes.Long (Temp 0) (Temp 4)) ∷ (Probe 0 4 false) ∷ (Read 1 0 4) ∷ (Compute 2 compute.Move sizes.Long (Register 2) (Const 0)) ∷ (Probe 2 4 false) ∷ (Read 3 2 4) ∷ (Compute 4 compute.Add sizes.Long (Register 1) (Const 4)) ∷ (Compute 4 compute.Add sizes.Long (Temp 4) (Temp 4)) ∷ (Compute 4 compute.Add sizes.Long (Temp 4) (Temp 4)) ∷ (Compute 3 compute.Add sizes.Long (Temp 3) (Temp 4)) ∷ (Compute 2 compute.Sub sizes.Long (Const 0) (Temp 1)) ∷ (Probe 3 4 true) ∷ (Write 3 4 2) ∷ (Compute 0 compute.Move sizes.Long (Const 0) (Const 0)) ∷ (Compute 5 compute.Add sizes.Long (Register 1) (Const 4)) ∷ (Commit 1 5) ∷ (Compute 5 compute.Add sizes.Long (Register 2) (Const 4)) ∷ (Commit 2 5) ∷ (Compute 6 compute.ShiftRight sizes.Long (Temp 2) (Const 31)) ∷ (Compute 7 compute.Equal sizes.Long (Temp 2) (Const 0)) ∷ (Compute 10 compute.SignExtend sizes.Long (Temp 0) (Const 0)) ∷ (Compute 11 compute.SignExtend sizes.Long (Temp 1) (Const 0)) ∷ (Compute 10 compute.Sub sizes.Quad (Temp 10) (Temp 11)) ∷ (Compute 11 compute.SignExtend sizes.Long (Temp 2) (Const 0)) ∷ (Compute 8 compute.Equal sizes.Quad (Temp 10) (Temp 11)) ∷ (Compute 8 compute.Xor sizes.Byte (Temp 8) (Const 1)) ∷ (Compute 9 compute.LessUnsigned sizes.Long (Temp 0) (Temp 1)) ∷ (Codes 6 7 8 (Some 9)) ∷ (Leave Next) ∷ []) ≡ true
unfolding step
fits11 = refl

words11 : program_words (from (source.Sub sizes.Long) (source.Sub sizes.Long)) ((Compute 1 compute.Move sizes.Long (Register 1) (Const 0)) ∷ (Probe 1 4 false) ∷ (Read 0 1 4) ∷ (Compute 4 compute.Add sizes.Long (Register 2) (Register 2)) ∷ (Compute 4 compute.Add sizes.Long (Temp 4) (Temp 4)) ∷ (Compute 0 compute.Add sizes.Long (Temp 0) (Temp 4)) ∷ (Probe 0 4 false) ∷ (Read 1 0 4) ∷ (Compute 2 compute.Move sizes.Long (Register 2) (Const 0)) ∷ (Probe 2 4 false) ∷ (Read 3 2 4) ∷ (Compute 4 compute.Add sizes.Long (Register 1) (Const 4)) ∷ (Compute 4 compute.Add sizes.Long (Temp 4) (Temp 4)) ∷ (Compute 4 compute.Add sizes.Long (Temp 4) (Temp 4)) ∷ (Compute 3 compute.Add sizes.Long (Temp 3) (Temp 4)) ∷ (Compute 2 compute.Sub sizes.Long (Const 0) (Temp 1)) ∷ (Probe 3 4 true) ∷ (Write 3 4 2) ∷ (Compute 0 compute.Move sizes.Long (Const 0) (Const 0)) ∷ (Compute 5 compute.Add sizes.Long (Register 1) (Const 4)) ∷ (Commit 1 5) ∷ (Compute 5 compute.Add sizes.Long (Register 2) (Const 4)) ∷ (Commit 2 5) ∷ (Compute 6 compute.ShiftRight sizes.Long (Temp 2) (Const 31)) ∷ (Compute 7 compute.Equal sizes.Long (Temp 2) (Const 0)) ∷ (Compute 10 compute.SignExtend sizes.Long (Temp 0) (Const 0)) ∷ (Compute 11 compute.SignExtend sizes.Long (Temp 1) (Const 0)) ∷ (Compute 10 compute.Sub sizes.Quad (Temp 10) (Temp 11)) ∷ (Compute 11 compute.SignExtend sizes.Long (Temp 2) (Const 0)) ∷ (Compute 8 compute.Equal sizes.Quad (Temp 10) (Temp 11)) ∷ (Compute 8 compute.Xor sizes.Byte (Temp 8) (Const 1)) ∷ (Compute 9 compute.LessUnsigned sizes.Long (Temp 0) (Temp 1)) ∷ (Codes 6 7 8 (Some 9)) ∷ (Leave Next) ∷ []) ≡ 103
words11 = refl

sources11 : sources_of (op.MoveNegated Long) ≡ from (source.Sub sizes.Long) (source.Sub sizes.Long)
unfolding sources_of
sources11 = refl

fits12 : fits (from (source.Computed sizes.Long) (source.Computed sizes.Long)) ((Compute 1 compute.Move sizes.Long (Register 1) (Const 0)) ∷ (Probe 1 4 false) ∷ (Read 2 1 4) ∷ (Compute 4 compute.Add sizes.Long (Register 2) (Register 2)) ∷ (Compute 4 compute.Add sizes.Long (Temp 4) (Temp 4)) ∷ (Compute 2 compute.Add sizes.Long (Temp 2) (Temp 4)) ∷ (Probe 2 4 false) ∷ (Read 1 2 4) ∷ (Compute 0 compute.Move sizes.Long (Register 2) (Const 0)) ∷ (Probe 0 4 false) ∷ (Read 3 0 4) ∷ (Compute 4 compute.Add sizes.Long (Register 1) (Const 4)) ∷ (Compute 4 compute.Add sizes.Long (Temp 4) (Temp 4)) ∷ (Compute 4 compute.Add sizes.Long (Temp 4) (Temp 4)) ∷ (Compute 3 compute.Add sizes.Long (Temp 3) (Temp 4)) ∷ (Probe 3 4 true) ∷ (Read 0 3 4) ∷ (Compute 2 compute.Add sizes.Long (Temp 0) (Temp 1)) ∷ (Compute 2 compute.Add sizes.Long (Temp 2) (Flag 3)) ∷ (Write 3 4 2) ∷ (Compute 4 compute.SignExtend sizes.Long (Temp 0) (Const 0)) ∷ (Compute 5 compute.SignExtend sizes.Long (Temp 1) (Const 0)) ∷ (Compute 4 compute.Add sizes.Quad (Temp 4) (Temp 5)) ∷ (Compute 4 compute.Add sizes.Quad (Temp 4) (Flag 3)) ∷ (Compute 5 compute.SignExtend sizes.Long (Temp 2) (Const 0)) ∷ (Compute 3 compute.Equal sizes.Quad (Temp 4) (Temp 5)) ∷ (Compute 3 compute.Xor sizes.Byte (Temp 3) (Const 1)) ∷ (Compute 4 compute.Add sizes.Quad (Temp 0) (Temp 1)) ∷ (Compute 4 compute.Add sizes.Quad (Temp 4) (Flag 3)) ∷ (Compute 4 compute.ShiftRight sizes.Quad (Temp 4) (Const 32)) ∷ (Compute 4 compute.And sizes.Byte (Temp 4) (Const 1)) ∷ (Compute 5 compute.Add sizes.Long (Register 1) (Const 4)) ∷ (Commit 1 5) ∷ (Compute 5 compute.Add sizes.Long (Register 2) (Const 4)) ∷ (Commit 2 5) ∷ (Compute 6 compute.ShiftRight sizes.Long (Temp 2) (Const 31)) ∷ (Compute 7 compute.Equal sizes.Long (Temp 2) (Const 0)) ∷ (Codes 6 7 3 (Some 4)) ∷ (Leave Next) ∷ []) ≡ true
unfolding step
fits12 = refl

words12 : program_words (from (source.Computed sizes.Long) (source.Computed sizes.Long)) ((Compute 1 compute.Move sizes.Long (Register 1) (Const 0)) ∷ (Probe 1 4 false) ∷ (Read 2 1 4) ∷ (Compute 4 compute.Add sizes.Long (Register 2) (Register 2)) ∷ (Compute 4 compute.Add sizes.Long (Temp 4) (Temp 4)) ∷ (Compute 2 compute.Add sizes.Long (Temp 2) (Temp 4)) ∷ (Probe 2 4 false) ∷ (Read 1 2 4) ∷ (Compute 0 compute.Move sizes.Long (Register 2) (Const 0)) ∷ (Probe 0 4 false) ∷ (Read 3 0 4) ∷ (Compute 4 compute.Add sizes.Long (Register 1) (Const 4)) ∷ (Compute 4 compute.Add sizes.Long (Temp 4) (Temp 4)) ∷ (Compute 4 compute.Add sizes.Long (Temp 4) (Temp 4)) ∷ (Compute 3 compute.Add sizes.Long (Temp 3) (Temp 4)) ∷ (Probe 3 4 true) ∷ (Read 0 3 4) ∷ (Compute 2 compute.Add sizes.Long (Temp 0) (Temp 1)) ∷ (Compute 2 compute.Add sizes.Long (Temp 2) (Flag 3)) ∷ (Write 3 4 2) ∷ (Compute 4 compute.SignExtend sizes.Long (Temp 0) (Const 0)) ∷ (Compute 5 compute.SignExtend sizes.Long (Temp 1) (Const 0)) ∷ (Compute 4 compute.Add sizes.Quad (Temp 4) (Temp 5)) ∷ (Compute 4 compute.Add sizes.Quad (Temp 4) (Flag 3)) ∷ (Compute 5 compute.SignExtend sizes.Long (Temp 2) (Const 0)) ∷ (Compute 3 compute.Equal sizes.Quad (Temp 4) (Temp 5)) ∷ (Compute 3 compute.Xor sizes.Byte (Temp 3) (Const 1)) ∷ (Compute 4 compute.Add sizes.Quad (Temp 0) (Temp 1)) ∷ (Compute 4 compute.Add sizes.Quad (Temp 4) (Flag 3)) ∷ (Compute 4 compute.ShiftRight sizes.Quad (Temp 4) (Const 32)) ∷ (Compute 4 compute.And sizes.Byte (Temp 4) (Const 1)) ∷ (Compute 5 compute.Add sizes.Long (Register 1) (Const 4)) ∷ (Commit 1 5) ∷ (Compute 5 compute.Add sizes.Long (Register 2) (Const 4)) ∷ (Commit 2 5) ∷ (Compute 6 compute.ShiftRight sizes.Long (Temp 2) (Const 31)) ∷ (Compute 7 compute.Equal sizes.Long (Temp 2) (Const 0)) ∷ (Codes 6 7 3 (Some 4)) ∷ (Leave Next) ∷ []) ≡ 134
words12 = refl

sources12 : sources_of op.AddWithCarry ≡ from (source.Computed sizes.Long) (source.Computed sizes.Long)
unfolding sources_of
sources12 = refl

fits13 : fits (from (source.Add sizes.Word) (source.Add sizes.Word)) ((Compute 0 compute.Move sizes.Long (Register 1) (Const 0)) ∷ (Probe 0 4 false) ∷ (Read 1 0 4) ∷ (Compute 4 compute.Add sizes.Long (Register 2) (Register 2)) ∷ (Compute 1 compute.Add sizes.Long (Temp 1) (Temp 4)) ∷ (Probe 1 2 false) ∷ (Read 0 1 2) ∷ (Compute 1 compute.Move sizes.Long (Register 2) (Const 0)) ∷ (Probe 1 4 false) ∷ (Read 2 1 4) ∷ (Compute 4 compute.Add sizes.Long (Register 1) (Const 4)) ∷ (Compute 4 compute.Add sizes.Long (Temp 4) (Temp 4)) ∷ (Compute 2 compute.Add sizes.Long (Temp 2) (Temp 4)) ∷ (Compute 4 compute.And sizes.Byte (Temp 2) (Const 1)) ∷ (Refuse 4) ∷ (Probe 2 2 true) ∷ (Locked 1 2 AddWord 0) ∷ (Compute 2 compute.Add sizes.Word (Temp 0) (Temp 1)) ∷ (Compute 5 compute.Add sizes.Long (Register 1) (Const 4)) ∷ (Commit 1 5) ∷ (Compute 5 compute.Add sizes.Long (Register 2) (Const 4)) ∷ (Commit 2 5) ∷ (Compute 6 compute.ShiftRight sizes.Word (Temp 2) (Const 15)) ∷ (Compute 7 compute.Equal sizes.Word (Temp 2) (Const 0)) ∷ (Compute 10 compute.SignExtend sizes.Word (Temp 0) (Const 0)) ∷ (Compute 11 compute.SignExtend sizes.Word (Temp 1) (Const 0)) ∷ (Compute 10 compute.Add sizes.Quad (Temp 10) (Temp 11)) ∷ (Compute 11 compute.SignExtend sizes.Word (Temp 2) (Const 0)) ∷ (Compute 8 compute.Equal sizes.Quad (Temp 10) (Temp 11)) ∷ (Compute 8 compute.Xor sizes.Byte (Temp 8) (Const 1)) ∷ (Compute 9 compute.LessUnsigned sizes.Word (Temp 2) (Temp 0)) ∷ (Codes 6 7 8 (Some 9)) ∷ (Leave Next) ∷ []) ≡ true
unfolding step
fits13 = refl

words13 : program_words (from (source.Add sizes.Word) (source.Add sizes.Word)) ((Compute 0 compute.Move sizes.Long (Register 1) (Const 0)) ∷ (Probe 0 4 false) ∷ (Read 1 0 4) ∷ (Compute 4 compute.Add sizes.Long (Register 2) (Register 2)) ∷ (Compute 1 compute.Add sizes.Long (Temp 1) (Temp 4)) ∷ (Probe 1 2 false) ∷ (Read 0 1 2) ∷ (Compute 1 compute.Move sizes.Long (Register 2) (Const 0)) ∷ (Probe 1 4 false) ∷ (Read 2 1 4) ∷ (Compute 4 compute.Add sizes.Long (Register 1) (Const 4)) ∷ (Compute 4 compute.Add sizes.Long (Temp 4) (Temp 4)) ∷ (Compute 2 compute.Add sizes.Long (Temp 2) (Temp 4)) ∷ (Compute 4 compute.And sizes.Byte (Temp 2) (Const 1)) ∷ (Refuse 4) ∷ (Probe 2 2 true) ∷ (Locked 1 2 AddWord 0) ∷ (Compute 2 compute.Add sizes.Word (Temp 0) (Temp 1)) ∷ (Compute 5 compute.Add sizes.Long (Register 1) (Const 4)) ∷ (Commit 1 5) ∷ (Compute 5 compute.Add sizes.Long (Register 2) (Const 4)) ∷ (Commit 2 5) ∷ (Compute 6 compute.ShiftRight sizes.Word (Temp 2) (Const 15)) ∷ (Compute 7 compute.Equal sizes.Word (Temp 2) (Const 0)) ∷ (Compute 10 compute.SignExtend sizes.Word (Temp 0) (Const 0)) ∷ (Compute 11 compute.SignExtend sizes.Word (Temp 1) (Const 0)) ∷ (Compute 10 compute.Add sizes.Quad (Temp 10) (Temp 11)) ∷ (Compute 11 compute.SignExtend sizes.Word (Temp 2) (Const 0)) ∷ (Compute 8 compute.Equal sizes.Quad (Temp 10) (Temp 11)) ∷ (Compute 8 compute.Xor sizes.Byte (Temp 8) (Const 1)) ∷ (Compute 9 compute.LessUnsigned sizes.Word (Temp 2) (Temp 0)) ∷ (Codes 6 7 8 (Some 9)) ∷ (Leave Next) ∷ []) ≡ 87
words13 = refl

sources13 : sources_of op.AddAlignedWord ≡ from (source.Add sizes.Word) (source.Add sizes.Word)
unfolding sources_of
sources13 = refl

fits14 : fits (from (source.Computed sizes.Long) source.Zero) ((Compute 0 compute.Move sizes.Long (Register 1) (Const 0)) ∷ (Probe 0 4 false) ∷ (Read 1 0 4) ∷ (Compute 1 compute.Add sizes.Long (Temp 1) (Register 2)) ∷ (Probe 1 1 false) ∷ (Read 0 1 1) ∷ (Compute 1 compute.Move sizes.Long (Register 2) (Const 0)) ∷ (Probe 1 4 false) ∷ (Read 2 1 4) ∷ (Compute 4 compute.Add sizes.Long (Register 1) (Const 4)) ∷ (Compute 4 compute.Add sizes.Long (Temp 4) (Temp 4)) ∷ (Compute 4 compute.Add sizes.Long (Temp 4) (Temp 4)) ∷ (Compute 2 compute.Add sizes.Long (Temp 2) (Temp 4)) ∷ (Probe 2 4 false) ∷ (Read 1 2 4) ∷ (Compute 2 compute.Move sizes.Long (Register 3) (Const 0)) ∷ (Probe 2 4 false) ∷ (Read 3 2 4) ∷ (Compute 4 compute.Add sizes.Long (Register 1) (Const 4)) ∷ (Compute 4 compute.Add sizes.Long (Temp 4) (Temp 4)) ∷ (Compute 4 compute.Add sizes.Long (Temp 4) (Temp 4)) ∷ (Compute 3 compute.Add sizes.Long (Temp 3) (Temp 4)) ∷ (Compute 4 compute.SignExtend sizes.Byte (Temp 0) (Const 0)) ∷ (Compute 5 compute.Sub sizes.Long (Const 0) (Temp 4)) ∷ (Compute 2 compute.ShiftSigned sizes.Long (Temp 1) (Temp 5)) ∷ (Compute 5 compute.ShiftLeft sizes.Long (Temp 1) (Temp 4)) ∷ (Compute 4 compute.Less sizes.Byte (Const 0) (Temp 0)) ∷ (Compute 2 compute.SelectNonzero sizes.Quad (Temp 4) (Temp 5)) ∷ (Probe 3 4 true) ∷ (Write 3 4 2) ∷ (Compute 4 compute.ShiftSigned sizes.Long (Temp 2) (Temp 0)) ∷ (Compute 4 compute.Equal sizes.Long (Temp 4) (Temp 1)) ∷ (Compute 4 compute.Xor sizes.Byte (Temp 4) (Const 1)) ∷ (Compute 3 compute.Less sizes.Byte (Const 0) (Temp 0)) ∷ (Compute 3 compute.And sizes.Byte (Temp 3) (Temp 4)) ∷ (Compute 5 compute.Add sizes.Long (Register 1) (Const 4)) ∷ (Commit 1 5) ∷ (Compute 5 compute.Add sizes.Long (Register 2) (Const 4)) ∷ (Commit 2 5) ∷ (Compute 5 compute.Add sizes.Long (Register 3) (Const 4)) ∷ (Commit 3 5) ∷ (Compute 6 compute.ShiftRight sizes.Long (Temp 2) (Const 31)) ∷ (Compute 7 compute.Equal sizes.Long (Temp 2) (Const 0)) ∷ (Compute 9 compute.Move sizes.Byte (Const 0) (Const 0)) ∷ (Codes 6 7 3 (Some 9)) ∷ (Leave Next) ∷ []) ≡ true
unfolding step
fits14 = refl

words14 : program_words (from (source.Computed sizes.Long) source.Zero) ((Compute 0 compute.Move sizes.Long (Register 1) (Const 0)) ∷ (Probe 0 4 false) ∷ (Read 1 0 4) ∷ (Compute 1 compute.Add sizes.Long (Temp 1) (Register 2)) ∷ (Probe 1 1 false) ∷ (Read 0 1 1) ∷ (Compute 1 compute.Move sizes.Long (Register 2) (Const 0)) ∷ (Probe 1 4 false) ∷ (Read 2 1 4) ∷ (Compute 4 compute.Add sizes.Long (Register 1) (Const 4)) ∷ (Compute 4 compute.Add sizes.Long (Temp 4) (Temp 4)) ∷ (Compute 4 compute.Add sizes.Long (Temp 4) (Temp 4)) ∷ (Compute 2 compute.Add sizes.Long (Temp 2) (Temp 4)) ∷ (Probe 2 4 false) ∷ (Read 1 2 4) ∷ (Compute 2 compute.Move sizes.Long (Register 3) (Const 0)) ∷ (Probe 2 4 false) ∷ (Read 3 2 4) ∷ (Compute 4 compute.Add sizes.Long (Register 1) (Const 4)) ∷ (Compute 4 compute.Add sizes.Long (Temp 4) (Temp 4)) ∷ (Compute 4 compute.Add sizes.Long (Temp 4) (Temp 4)) ∷ (Compute 3 compute.Add sizes.Long (Temp 3) (Temp 4)) ∷ (Compute 4 compute.SignExtend sizes.Byte (Temp 0) (Const 0)) ∷ (Compute 5 compute.Sub sizes.Long (Const 0) (Temp 4)) ∷ (Compute 2 compute.ShiftSigned sizes.Long (Temp 1) (Temp 5)) ∷ (Compute 5 compute.ShiftLeft sizes.Long (Temp 1) (Temp 4)) ∷ (Compute 4 compute.Less sizes.Byte (Const 0) (Temp 0)) ∷ (Compute 2 compute.SelectNonzero sizes.Quad (Temp 4) (Temp 5)) ∷ (Probe 3 4 true) ∷ (Write 3 4 2) ∷ (Compute 4 compute.ShiftSigned sizes.Long (Temp 2) (Temp 0)) ∷ (Compute 4 compute.Equal sizes.Long (Temp 4) (Temp 1)) ∷ (Compute 4 compute.Xor sizes.Byte (Temp 4) (Const 1)) ∷ (Compute 3 compute.Less sizes.Byte (Const 0) (Temp 0)) ∷ (Compute 3 compute.And sizes.Byte (Temp 3) (Temp 4)) ∷ (Compute 5 compute.Add sizes.Long (Register 1) (Const 4)) ∷ (Commit 1 5) ∷ (Compute 5 compute.Add sizes.Long (Register 2) (Const 4)) ∷ (Commit 2 5) ∷ (Compute 5 compute.Add sizes.Long (Register 3) (Const 4)) ∷ (Commit 3 5) ∷ (Compute 6 compute.ShiftRight sizes.Long (Temp 2) (Const 31)) ∷ (Compute 7 compute.Equal sizes.Long (Temp 2) (Const 0)) ∷ (Compute 9 compute.Move sizes.Byte (Const 0) (Const 0)) ∷ (Codes 6 7 3 (Some 9)) ∷ (Leave Next) ∷ []) ≡ 169
words14 = refl

sources14 : sources_of op.ArithmeticShift ≡ from (source.Computed sizes.Long) source.Zero
unfolding sources_of
sources14 = refl

fits15 : fits (from (source.Result sizes.Long) source.Kept) ((Compute 0 compute.Move sizes.Long (Register 1) (Const 0)) ∷ (Probe 0 4 false) ∷ (Read 1 0 4) ∷ (Compute 1 compute.Add sizes.Long (Temp 1) (Register 2)) ∷ (Probe 1 1 false) ∷ (Read 0 1 1) ∷ (Compute 1 compute.Move sizes.Long (Register 2) (Const 0)) ∷ (Probe 1 4 false) ∷ (Read 2 1 4) ∷ (Compute 4 compute.Add sizes.Long (Register 1) (Const 4)) ∷ (Compute 4 compute.Add sizes.Long (Temp 4) (Temp 4)) ∷ (Compute 4 compute.Add sizes.Long (Temp 4) (Temp 4)) ∷ (Compute 2 compute.Add sizes.Long (Temp 2) (Temp 4)) ∷ (Probe 2 4 false) ∷ (Read 1 2 4) ∷ (Compute 2 compute.Move sizes.Long (Register 3) (Const 0)) ∷ (Probe 2 4 false) ∷ (Read 3 2 4) ∷ (Compute 4 compute.Add sizes.Long (Register 1) (Const 4)) ∷ (Compute 4 compute.Add sizes.Long (Temp 4) (Temp 4)) ∷ (Compute 4 compute.Add sizes.Long (Temp 4) (Temp 4)) ∷ (Compute 3 compute.Add sizes.Long (Temp 3) (Temp 4)) ∷ (Compute 4 compute.And sizes.Byte (Temp 0) (Const 31)) ∷ (Compute 2 compute.ShiftLeft sizes.Long (Temp 1) (Temp 4)) ∷ (Compute 5 compute.Sub sizes.Long (Const 32) (Temp 4)) ∷ (Compute 5 compute.ShiftRight sizes.Long (Temp 1) (Temp 5)) ∷ (Compute 2 compute.Or sizes.Long (Temp 2) (Temp 5)) ∷ (Probe 3 4 true) ∷ (Write 3 4 2) ∷ (Compute 0 compute.Move sizes.Long (Temp 2) (Const 0)) ∷ (Compute 5 compute.Add sizes.Long (Register 1) (Const 4)) ∷ (Commit 1 5) ∷ (Compute 5 compute.Add sizes.Long (Register 2) (Const 4)) ∷ (Commit 2 5) ∷ (Compute 5 compute.Add sizes.Long (Register 3) (Const 4)) ∷ (Commit 3 5) ∷ (Compute 6 compute.ShiftRight sizes.Long (Temp 2) (Const 31)) ∷ (Compute 7 compute.Equal sizes.Long (Temp 2) (Const 0)) ∷ (Compute 8 compute.Move sizes.Byte (Const 0) (Const 0)) ∷ (Codes 6 7 8 None) ∷ (Leave Next) ∷ []) ≡ true
unfolding step
fits15 = refl

words15 : program_words (from (source.Result sizes.Long) source.Kept) ((Compute 0 compute.Move sizes.Long (Register 1) (Const 0)) ∷ (Probe 0 4 false) ∷ (Read 1 0 4) ∷ (Compute 1 compute.Add sizes.Long (Temp 1) (Register 2)) ∷ (Probe 1 1 false) ∷ (Read 0 1 1) ∷ (Compute 1 compute.Move sizes.Long (Register 2) (Const 0)) ∷ (Probe 1 4 false) ∷ (Read 2 1 4) ∷ (Compute 4 compute.Add sizes.Long (Register 1) (Const 4)) ∷ (Compute 4 compute.Add sizes.Long (Temp 4) (Temp 4)) ∷ (Compute 4 compute.Add sizes.Long (Temp 4) (Temp 4)) ∷ (Compute 2 compute.Add sizes.Long (Temp 2) (Temp 4)) ∷ (Probe 2 4 false) ∷ (Read 1 2 4) ∷ (Compute 2 compute.Move sizes.Long (Register 3) (Const 0)) ∷ (Probe 2 4 false) ∷ (Read 3 2 4) ∷ (Compute 4 compute.Add sizes.Long (Register 1) (Const 4)) ∷ (Compute 4 compute.Add sizes.Long (Temp 4) (Temp 4)) ∷ (Compute 4 compute.Add sizes.Long (Temp 4) (Temp 4)) ∷ (Compute 3 compute.Add sizes.Long (Temp 3) (Temp 4)) ∷ (Compute 4 compute.And sizes.Byte (Temp 0) (Const 31)) ∷ (Compute 2 compute.ShiftLeft sizes.Long (Temp 1) (Temp 4)) ∷ (Compute 5 compute.Sub sizes.Long (Const 32) (Temp 4)) ∷ (Compute 5 compute.ShiftRight sizes.Long (Temp 1) (Temp 5)) ∷ (Compute 2 compute.Or sizes.Long (Temp 2) (Temp 5)) ∷ (Probe 3 4 true) ∷ (Write 3 4 2) ∷ (Compute 0 compute.Move sizes.Long (Temp 2) (Const 0)) ∷ (Compute 5 compute.Add sizes.Long (Register 1) (Const 4)) ∷ (Commit 1 5) ∷ (Compute 5 compute.Add sizes.Long (Register 2) (Const 4)) ∷ (Commit 2 5) ∷ (Compute 5 compute.Add sizes.Long (Register 3) (Const 4)) ∷ (Commit 3 5) ∷ (Compute 6 compute.ShiftRight sizes.Long (Temp 2) (Const 31)) ∷ (Compute 7 compute.Equal sizes.Long (Temp 2) (Const 0)) ∷ (Compute 8 compute.Move sizes.Byte (Const 0) (Const 0)) ∷ (Codes 6 7 8 None) ∷ (Leave Next) ∷ []) ≡ 149
words15 = refl

sources15 : sources_of op.Rotate ≡ from (source.Result sizes.Long) source.Kept
unfolding sources_of
sources15 = refl

fits16 : fits (from (source.Result sizes.Quad) source.Zero) ((Compute 0 compute.Move sizes.Long (Register 1) (Const 0)) ∷ (Probe 0 4 false) ∷ (Read 1 0 4) ∷ (Compute 4 compute.Add sizes.Long (Register 2) (Register 2)) ∷ (Compute 4 compute.Add sizes.Long (Temp 4) (Temp 4)) ∷ (Compute 1 compute.Add sizes.Long (Temp 1) (Temp 4)) ∷ (Probe 1 4 false) ∷ (Read 0 1 4) ∷ (Compute 1 compute.Move sizes.Long (Register 2) (Const 0)) ∷ (Probe 1 4 false) ∷ (Read 2 1 4) ∷ (Compute 4 compute.Add sizes.Long (Register 1) (Const 4)) ∷ (Compute 4 compute.Add sizes.Long (Temp 4) (Temp 4)) ∷ (Compute 4 compute.Add sizes.Long (Temp 4) (Temp 4)) ∷ (Compute 2 compute.Add sizes.Long (Temp 2) (Temp 4)) ∷ (Probe 2 4 false) ∷ (Read 1 2 4) ∷ (Compute 4 compute.SignExtend sizes.Long (Temp 0) (Const 0)) ∷ (Compute 5 compute.SignExtend sizes.Long (Temp 1) (Const 0)) ∷ (Compute 0 compute.Mul sizes.Quad (Temp 4) (Temp 5)) ∷ (Compute 1 compute.Move sizes.Long (Register 3) (Const 0)) ∷ (Probe 1 4 false) ∷ (Read 2 1 4) ∷ (Compute 4 compute.Add sizes.Long (Register 1) (Const 4)) ∷ (Compute 4 compute.Add sizes.Long (Temp 4) (Temp 4)) ∷ (Compute 4 compute.Add sizes.Long (Temp 4) (Temp 4)) ∷ (Compute 2 compute.Add sizes.Long (Temp 2) (Temp 4)) ∷ (Probe 2 4 false) ∷ (Read 1 2 4) ∷ (Compute 4 compute.SignExtend sizes.Long (Temp 1) (Const 0)) ∷ (Compute 0 compute.Add sizes.Quad (Temp 0) (Temp 4)) ∷ (Compute 2 compute.Move sizes.Long (Register 4) (Const 0)) ∷ (Probe 2 4 false) ∷ (Read 3 2 4) ∷ (Compute 4 compute.Add sizes.Long (Register 1) (Const 4)) ∷ (Compute 4 compute.Mul sizes.Long (Temp 4) (Const 8)) ∷ (Compute 3 compute.Add sizes.Long (Temp 3) (Temp 4)) ∷ (Probe 3 8 true) ∷ (Write 3 8 0) ∷ (Compute 2 compute.Move sizes.Quad (Temp 0) (Const 0)) ∷ (Compute 5 compute.Add sizes.Long (Register 1) (Const 4)) ∷ (Commit 1 5) ∷ (Compute 5 compute.Add sizes.Long (Register 2) (Const 4)) ∷ (Commit 2 5) ∷ (Compute 5 compute.Add sizes.Long (Register 3) (Const 4)) ∷ (Commit 3 5) ∷ (Compute 5 compute.Add sizes.Long (Register 4) (Const 4)) ∷ (Commit 4 5) ∷ (Compute 6 compute.ShiftRight sizes.Quad (Temp 2) (Const 63)) ∷ (Compute 7 compute.Equal sizes.Quad (Temp 2) (Const 0)) ∷ (Compute 8 compute.Move sizes.Byte (Const 0) (Const 0)) ∷ (Compute 9 compute.Move sizes.Byte (Const 0) (Const 0)) ∷ (Codes 6 7 8 (Some 9)) ∷ (Leave Next) ∷ []) ≡ true
unfolding step
fits16 = refl

words16 : program_words (from (source.Result sizes.Quad) source.Zero) ((Compute 0 compute.Move sizes.Long (Register 1) (Const 0)) ∷ (Probe 0 4 false) ∷ (Read 1 0 4) ∷ (Compute 4 compute.Add sizes.Long (Register 2) (Register 2)) ∷ (Compute 4 compute.Add sizes.Long (Temp 4) (Temp 4)) ∷ (Compute 1 compute.Add sizes.Long (Temp 1) (Temp 4)) ∷ (Probe 1 4 false) ∷ (Read 0 1 4) ∷ (Compute 1 compute.Move sizes.Long (Register 2) (Const 0)) ∷ (Probe 1 4 false) ∷ (Read 2 1 4) ∷ (Compute 4 compute.Add sizes.Long (Register 1) (Const 4)) ∷ (Compute 4 compute.Add sizes.Long (Temp 4) (Temp 4)) ∷ (Compute 4 compute.Add sizes.Long (Temp 4) (Temp 4)) ∷ (Compute 2 compute.Add sizes.Long (Temp 2) (Temp 4)) ∷ (Probe 2 4 false) ∷ (Read 1 2 4) ∷ (Compute 4 compute.SignExtend sizes.Long (Temp 0) (Const 0)) ∷ (Compute 5 compute.SignExtend sizes.Long (Temp 1) (Const 0)) ∷ (Compute 0 compute.Mul sizes.Quad (Temp 4) (Temp 5)) ∷ (Compute 1 compute.Move sizes.Long (Register 3) (Const 0)) ∷ (Probe 1 4 false) ∷ (Read 2 1 4) ∷ (Compute 4 compute.Add sizes.Long (Register 1) (Const 4)) ∷ (Compute 4 compute.Add sizes.Long (Temp 4) (Temp 4)) ∷ (Compute 4 compute.Add sizes.Long (Temp 4) (Temp 4)) ∷ (Compute 2 compute.Add sizes.Long (Temp 2) (Temp 4)) ∷ (Probe 2 4 false) ∷ (Read 1 2 4) ∷ (Compute 4 compute.SignExtend sizes.Long (Temp 1) (Const 0)) ∷ (Compute 0 compute.Add sizes.Quad (Temp 0) (Temp 4)) ∷ (Compute 2 compute.Move sizes.Long (Register 4) (Const 0)) ∷ (Probe 2 4 false) ∷ (Read 3 2 4) ∷ (Compute 4 compute.Add sizes.Long (Register 1) (Const 4)) ∷ (Compute 4 compute.Mul sizes.Long (Temp 4) (Const 8)) ∷ (Compute 3 compute.Add sizes.Long (Temp 3) (Temp 4)) ∷ (Probe 3 8 true) ∷ (Write 3 8 0) ∷ (Compute 2 compute.Move sizes.Quad (Temp 0) (Const 0)) ∷ (Compute 5 compute.Add sizes.Long (Register 1) (Const 4)) ∷ (Commit 1 5) ∷ (Compute 5 compute.Add sizes.Long (Register 2) (Const 4)) ∷ (Commit 2 5) ∷ (Compute 5 compute.Add sizes.Long (Register 3) (Const 4)) ∷ (Commit 3 5) ∷ (Compute 5 compute.Add sizes.Long (Register 4) (Const 4)) ∷ (Commit 4 5) ∷ (Compute 6 compute.ShiftRight sizes.Quad (Temp 2) (Const 63)) ∷ (Compute 7 compute.Equal sizes.Quad (Temp 2) (Const 0)) ∷ (Compute 8 compute.Move sizes.Byte (Const 0) (Const 0)) ∷ (Compute 9 compute.Move sizes.Byte (Const 0) (Const 0)) ∷ (Codes 6 7 8 (Some 9)) ∷ (Leave Next) ∷ []) ≡ 188
words16 = refl

sources16 : sources_of op.ExtendedMultiply ≡ from (source.Result sizes.Quad) source.Zero
unfolding sources_of
sources16 = refl

fits17 : fits (from (source.Result sizes.Quad) source.Kept) ((Compute 0 compute.Move sizes.Long (Register 1) (Const 0)) ∷ (Probe 0 4 false) ∷ (Read 1 0 4) ∷ (Compute 4 compute.Mul sizes.Long (Register 2) (Const 8)) ∷ (Compute 1 compute.Add sizes.Long (Temp 1) (Temp 4)) ∷ (Probe 1 8 false) ∷ (Read 0 1 8) ∷ (Compute 2 compute.Move sizes.Long (Register 2) (Const 0)) ∷ (Probe 2 4 false) ∷ (Read 3 2 4) ∷ (Compute 4 compute.Add sizes.Long (Register 1) (Const 4)) ∷ (Compute 4 compute.Mul sizes.Long (Temp 4) (Const 8)) ∷ (Compute 3 compute.Add sizes.Long (Temp 3) (Temp 4)) ∷ (Probe 3 8 true) ∷ (Write 3 8 0) ∷ (Compute 2 compute.Move sizes.Quad (Temp 0) (Const 0)) ∷ (Compute 5 compute.Add sizes.Long (Register 1) (Const 4)) ∷ (Commit 1 5) ∷ (Compute 5 compute.Add sizes.Long (Register 2) (Const 4)) ∷ (Commit 2 5) ∷ (Compute 6 compute.ShiftRight sizes.Quad (Temp 2) (Const 63)) ∷ (Compute 7 compute.Equal sizes.Quad (Temp 2) (Const 0)) ∷ (Compute 8 compute.Move sizes.Byte (Const 0) (Const 0)) ∷ (Codes 6 7 8 None) ∷ (Leave Next) ∷ []) ≡ true
unfolding step
fits17 = refl

words17 : program_words (from (source.Result sizes.Quad) source.Kept) ((Compute 0 compute.Move sizes.Long (Register 1) (Const 0)) ∷ (Probe 0 4 false) ∷ (Read 1 0 4) ∷ (Compute 4 compute.Mul sizes.Long (Register 2) (Const 8)) ∷ (Compute 1 compute.Add sizes.Long (Temp 1) (Temp 4)) ∷ (Probe 1 8 false) ∷ (Read 0 1 8) ∷ (Compute 2 compute.Move sizes.Long (Register 2) (Const 0)) ∷ (Probe 2 4 false) ∷ (Read 3 2 4) ∷ (Compute 4 compute.Add sizes.Long (Register 1) (Const 4)) ∷ (Compute 4 compute.Mul sizes.Long (Temp 4) (Const 8)) ∷ (Compute 3 compute.Add sizes.Long (Temp 3) (Temp 4)) ∷ (Probe 3 8 true) ∷ (Write 3 8 0) ∷ (Compute 2 compute.Move sizes.Quad (Temp 0) (Const 0)) ∷ (Compute 5 compute.Add sizes.Long (Register 1) (Const 4)) ∷ (Commit 1 5) ∷ (Compute 5 compute.Add sizes.Long (Register 2) (Const 4)) ∷ (Commit 2 5) ∷ (Compute 6 compute.ShiftRight sizes.Quad (Temp 2) (Const 63)) ∷ (Compute 7 compute.Equal sizes.Quad (Temp 2) (Const 0)) ∷ (Compute 8 compute.Move sizes.Byte (Const 0) (Const 0)) ∷ (Codes 6 7 8 None) ∷ (Leave Next) ∷ []) ≡ 93
words17 = refl

sources17 : sources_of (op.Move sizes.Quad) ≡ from (source.Result sizes.Quad) source.Kept
unfolding sources_of
sources17 = refl

fits18 : fits (from (source.Result sizes.Quad) source.Kept) ((Compute 0 compute.Move sizes.Long (Register 1) (Const 0)) ∷ (Compute 4 compute.Move sizes.Long (Register 2) (Const 0)) ∷ (Compute 4 compute.ShiftLeft sizes.Quad (Temp 4) (Const 32)) ∷ (Compute 0 compute.Or sizes.Quad (Temp 0) (Temp 4)) ∷ (Compute 3 compute.Move sizes.Long (Register 1) (Const 0)) ∷ (Probe 3 8 true) ∷ (Write 3 8 0) ∷ (Compute 2 compute.Move sizes.Quad (Temp 0) (Const 0)) ∷ (Compute 5 compute.Add sizes.Long (Register 1) (Const 8)) ∷ (Commit 1 5) ∷ (Compute 6 compute.ShiftRight sizes.Quad (Temp 2) (Const 63)) ∷ (Compute 7 compute.Equal sizes.Quad (Temp 2) (Const 0)) ∷ (Compute 8 compute.Move sizes.Byte (Const 0) (Const 0)) ∷ (Codes 6 7 8 None) ∷ (Leave Next) ∷ []) ≡ true
unfolding step
fits18 = refl

words18 : program_words (from (source.Result sizes.Quad) source.Kept) ((Compute 0 compute.Move sizes.Long (Register 1) (Const 0)) ∷ (Compute 4 compute.Move sizes.Long (Register 2) (Const 0)) ∷ (Compute 4 compute.ShiftLeft sizes.Quad (Temp 4) (Const 32)) ∷ (Compute 0 compute.Or sizes.Quad (Temp 0) (Temp 4)) ∷ (Compute 3 compute.Move sizes.Long (Register 1) (Const 0)) ∷ (Probe 3 8 true) ∷ (Write 3 8 0) ∷ (Compute 2 compute.Move sizes.Quad (Temp 0) (Const 0)) ∷ (Compute 5 compute.Add sizes.Long (Register 1) (Const 8)) ∷ (Commit 1 5) ∷ (Compute 6 compute.ShiftRight sizes.Quad (Temp 2) (Const 63)) ∷ (Compute 7 compute.Equal sizes.Quad (Temp 2) (Const 0)) ∷ (Compute 8 compute.Move sizes.Byte (Const 0) (Const 0)) ∷ (Codes 6 7 8 None) ∷ (Leave Next) ∷ []) ≡ 45
words18 = refl

sources18 : sources_of (op.Move sizes.Quad) ≡ from (source.Result sizes.Quad) source.Kept
unfolding sources_of
sources18 = refl

fits19 : fits (from (source.Result sizes.Long) source.Kept) ((Compute 1 compute.Move sizes.Long (Register 1) (Const 0)) ∷ (Probe 1 4 false) ∷ (Read 0 1 4) ∷ (Compute 4 compute.Mul sizes.Long (Register 2) (Const 8)) ∷ (Compute 0 compute.Add sizes.Long (Temp 0) (Temp 4)) ∷ (Compute 2 compute.Move sizes.Long (Register 2) (Const 0)) ∷ (Probe 2 4 false) ∷ (Read 3 2 4) ∷ (Compute 4 compute.Add sizes.Long (Register 1) (Const 4)) ∷ (Compute 4 compute.Add sizes.Long (Temp 4) (Temp 4)) ∷ (Compute 4 compute.Add sizes.Long (Temp 4) (Temp 4)) ∷ (Compute 3 compute.Add sizes.Long (Temp 3) (Temp 4)) ∷ (Probe 3 4 true) ∷ (Write 3 4 0) ∷ (Compute 2 compute.Move sizes.Long (Temp 0) (Const 0)) ∷ (Compute 5 compute.Add sizes.Long (Register 1) (Const 4)) ∷ (Commit 1 5) ∷ (Compute 5 compute.Add sizes.Long (Register 2) (Const 4)) ∷ (Commit 2 5) ∷ (Compute 6 compute.ShiftRight sizes.Long (Temp 2) (Const 31)) ∷ (Compute 7 compute.Equal sizes.Long (Temp 2) (Const 0)) ∷ (Compute 8 compute.Move sizes.Byte (Const 0) (Const 0)) ∷ (Codes 6 7 8 None) ∷ (Leave Next) ∷ []) ≡ true
unfolding step
fits19 = refl

words19 : program_words (from (source.Result sizes.Long) source.Kept) ((Compute 1 compute.Move sizes.Long (Register 1) (Const 0)) ∷ (Probe 1 4 false) ∷ (Read 0 1 4) ∷ (Compute 4 compute.Mul sizes.Long (Register 2) (Const 8)) ∷ (Compute 0 compute.Add sizes.Long (Temp 0) (Temp 4)) ∷ (Compute 2 compute.Move sizes.Long (Register 2) (Const 0)) ∷ (Probe 2 4 false) ∷ (Read 3 2 4) ∷ (Compute 4 compute.Add sizes.Long (Register 1) (Const 4)) ∷ (Compute 4 compute.Add sizes.Long (Temp 4) (Temp 4)) ∷ (Compute 4 compute.Add sizes.Long (Temp 4) (Temp 4)) ∷ (Compute 3 compute.Add sizes.Long (Temp 3) (Temp 4)) ∷ (Probe 3 4 true) ∷ (Write 3 4 0) ∷ (Compute 2 compute.Move sizes.Long (Temp 0) (Const 0)) ∷ (Compute 5 compute.Add sizes.Long (Register 1) (Const 4)) ∷ (Commit 1 5) ∷ (Compute 5 compute.Add sizes.Long (Register 2) (Const 4)) ∷ (Commit 2 5) ∷ (Compute 6 compute.ShiftRight sizes.Long (Temp 2) (Const 31)) ∷ (Compute 7 compute.Equal sizes.Long (Temp 2) (Const 0)) ∷ (Compute 8 compute.Move sizes.Byte (Const 0) (Const 0)) ∷ (Codes 6 7 8 None) ∷ (Leave Next) ∷ []) ≡ 81
words19 = refl

sources19 : sources_of (op.MoveAddress sizes.Quad) ≡ from (source.Result sizes.Long) source.Kept
unfolding sources_of
sources19 = refl

fits20 : fits (from (source.Result sizes.Long) source.Kept) ((Compute 1 compute.Move sizes.Long (Register 14) (Const 0)) ∷ (Probe 1 4 false) ∷ (Read 0 1 4) ∷ (Compute 4 compute.Mul sizes.Long (Register 2) (Const 8)) ∷ (Compute 0 compute.Add sizes.Long (Temp 0) (Temp 4)) ∷ (Compute 3 compute.Move sizes.Long (Register 14) (Const 0)) ∷ (Probe 3 4 true) ∷ (Write 3 4 0) ∷ (Compute 2 compute.Move sizes.Long (Temp 0) (Const 0)) ∷ (Compute 6 compute.ShiftRight sizes.Long (Temp 2) (Const 31)) ∷ (Compute 7 compute.Equal sizes.Long (Temp 2) (Const 0)) ∷ (Compute 8 compute.Move sizes.Byte (Const 0) (Const 0)) ∷ (Codes 6 7 8 None) ∷ (Leave Next) ∷ []) ≡ true
unfolding step
fits20 = refl

words20 : program_words (from (source.Result sizes.Long) source.Kept) ((Compute 1 compute.Move sizes.Long (Register 14) (Const 0)) ∷ (Probe 1 4 false) ∷ (Read 0 1 4) ∷ (Compute 4 compute.Mul sizes.Long (Register 2) (Const 8)) ∷ (Compute 0 compute.Add sizes.Long (Temp 0) (Temp 4)) ∷ (Compute 3 compute.Move sizes.Long (Register 14) (Const 0)) ∷ (Probe 3 4 true) ∷ (Write 3 4 0) ∷ (Compute 2 compute.Move sizes.Long (Temp 0) (Const 0)) ∷ (Compute 6 compute.ShiftRight sizes.Long (Temp 2) (Const 31)) ∷ (Compute 7 compute.Equal sizes.Long (Temp 2) (Const 0)) ∷ (Compute 8 compute.Move sizes.Byte (Const 0) (Const 0)) ∷ (Codes 6 7 8 None) ∷ (Leave Next) ∷ []) ≡ 47
words20 = refl

sources20 : sources_of (op.PushAddress sizes.Quad) ≡ from (source.Result sizes.Long) source.Kept
unfolding sources_of
sources20 = refl

fits21 : fits (from (source.Result sizes.Long) source.Kept) ((Compute 0 compute.Move sizes.Long (Register 14) (Const 0)) ∷ (Probe 0 4 false) ∷ (Read 1 0 4) ∷ (Compute 4 compute.Add sizes.Long (Register 2) (Register 2)) ∷ (Compute 4 compute.Add sizes.Long (Temp 4) (Temp 4)) ∷ (Compute 1 compute.Add sizes.Long (Temp 1) (Temp 4)) ∷ (Probe 1 4 false) ∷ (Read 0 1 4) ∷ (Compute 3 compute.Move sizes.Long (Register 14) (Const 0)) ∷ (Probe 3 4 true) ∷ (Write 3 4 0) ∷ (Compute 2 compute.Move sizes.Long (Temp 0) (Const 0)) ∷ (Compute 6 compute.ShiftRight sizes.Long (Temp 2) (Const 31)) ∷ (Compute 7 compute.Equal sizes.Long (Temp 2) (Const 0)) ∷ (Compute 8 compute.Move sizes.Byte (Const 0) (Const 0)) ∷ (Codes 6 7 8 None) ∷ (Leave Next) ∷ []) ≡ true
unfolding step
fits21 = refl

words21 : program_words (from (source.Result sizes.Long) source.Kept) ((Compute 0 compute.Move sizes.Long (Register 14) (Const 0)) ∷ (Probe 0 4 false) ∷ (Read 1 0 4) ∷ (Compute 4 compute.Add sizes.Long (Register 2) (Register 2)) ∷ (Compute 4 compute.Add sizes.Long (Temp 4) (Temp 4)) ∷ (Compute 1 compute.Add sizes.Long (Temp 1) (Temp 4)) ∷ (Probe 1 4 false) ∷ (Read 0 1 4) ∷ (Compute 3 compute.Move sizes.Long (Register 14) (Const 0)) ∷ (Probe 3 4 true) ∷ (Write 3 4 0) ∷ (Compute 2 compute.Move sizes.Long (Temp 0) (Const 0)) ∷ (Compute 6 compute.ShiftRight sizes.Long (Temp 2) (Const 31)) ∷ (Compute 7 compute.Equal sizes.Long (Temp 2) (Const 0)) ∷ (Compute 8 compute.Move sizes.Byte (Const 0) (Const 0)) ∷ (Codes 6 7 8 None) ∷ (Leave Next) ∷ []) ≡ 63
words21 = refl

sources21 : sources_of op.PushLong ≡ from (source.Result sizes.Long) source.Kept
unfolding sources_of
sources21 = refl

fits22 : fits (from source.Kept source.Kept) ((Compute 0 compute.Move sizes.Long (Register 1) (Const 0)) ∷ (Probe 0 4 false) ∷ (Read 1 0 4) ∷ (Compute 4 compute.Add sizes.Long (Register 2) (Register 2)) ∷ (Compute 4 compute.Add sizes.Long (Temp 4) (Temp 4)) ∷ (Compute 1 compute.Add sizes.Long (Temp 1) (Temp 4)) ∷ (Probe 1 4 false) ∷ (Read 0 1 4) ∷ (Compute 1 compute.Move sizes.Long (Register 2) (Const 0)) ∷ (Probe 1 4 false) ∷ (Read 2 1 4) ∷ (Compute 4 compute.Add sizes.Long (Register 1) (Const 4)) ∷ (Compute 2 compute.Add sizes.Long (Temp 2) (Temp 4)) ∷ (Compute 4 compute.ShiftSigned sizes.Long (Temp 0) (Const 3)) ∷ (Compute 2 compute.Add sizes.Long (Temp 2) (Temp 4)) ∷ (Compute 0 compute.And sizes.Byte (Temp 0) (Const 7)) ∷ (Probe 2 1 true) ∷ (Read 1 2 1) ∷ (Compute 3 compute.ShiftLeft sizes.Byte (Const 1) (Temp 0)) ∷ (Compute 3 compute.Or sizes.Byte (Temp 1) (Temp 3)) ∷ (Write 2 1 3) ∷ (Compute 0 compute.ShiftRight sizes.Byte (Temp 1) (Temp 0)) ∷ (Compute 0 compute.And sizes.Byte (Temp 0) (Const 1)) ∷ (Compute 5 compute.Add sizes.Long (Register 1) (Const 4)) ∷ (Commit 1 5) ∷ (Compute 5 compute.Add sizes.Long (Register 2) (Const 4)) ∷ (Commit 2 5) ∷ (Leave (Choice 0 520 516)) ∷ []) ≡ true
unfolding step
fits22 = refl

words22 : program_words (from source.Kept source.Kept) ((Compute 0 compute.Move sizes.Long (Register 1) (Const 0)) ∷ (Probe 0 4 false) ∷ (Read 1 0 4) ∷ (Compute 4 compute.Add sizes.Long (Register 2) (Register 2)) ∷ (Compute 4 compute.Add sizes.Long (Temp 4) (Temp 4)) ∷ (Compute 1 compute.Add sizes.Long (Temp 1) (Temp 4)) ∷ (Probe 1 4 false) ∷ (Read 0 1 4) ∷ (Compute 1 compute.Move sizes.Long (Register 2) (Const 0)) ∷ (Probe 1 4 false) ∷ (Read 2 1 4) ∷ (Compute 4 compute.Add sizes.Long (Register 1) (Const 4)) ∷ (Compute 2 compute.Add sizes.Long (Temp 2) (Temp 4)) ∷ (Compute 4 compute.ShiftSigned sizes.Long (Temp 0) (Const 3)) ∷ (Compute 2 compute.Add sizes.Long (Temp 2) (Temp 4)) ∷ (Compute 0 compute.And sizes.Byte (Temp 0) (Const 7)) ∷ (Probe 2 1 true) ∷ (Read 1 2 1) ∷ (Compute 3 compute.ShiftLeft sizes.Byte (Const 1) (Temp 0)) ∷ (Compute 3 compute.Or sizes.Byte (Temp 1) (Temp 3)) ∷ (Write 2 1 3) ∷ (Compute 0 compute.ShiftRight sizes.Byte (Temp 1) (Temp 0)) ∷ (Compute 0 compute.And sizes.Byte (Temp 0) (Const 1)) ∷ (Compute 5 compute.Add sizes.Long (Register 1) (Const 4)) ∷ (Commit 1 5) ∷ (Compute 5 compute.Add sizes.Long (Register 2) (Const 4)) ∷ (Commit 2 5) ∷ (Leave (Choice 0 520 516)) ∷ []) ≡ 111
words22 = refl

sources22 : sources_of (op.BranchOnBit (record { state = true; store = (Plain true) })) ≡ from source.Kept source.Kept
unfolding sources_of
sources22 = refl

fits23 : fits (from source.Kept source.Kept) ((Compute 0 compute.Move sizes.Long (Register 1) (Const 0)) ∷ (Probe 0 4 false) ∷ (Read 1 0 4) ∷ (Compute 4 compute.Add sizes.Long (Register 2) (Register 2)) ∷ (Compute 4 compute.Add sizes.Long (Temp 4) (Temp 4)) ∷ (Compute 1 compute.Add sizes.Long (Temp 1) (Temp 4)) ∷ (Probe 1 4 false) ∷ (Read 0 1 4) ∷ (Compute 4 compute.LessUnsigned sizes.Long (Const 31) (Temp 0)) ∷ (Refuse 4) ∷ (Compute 2 compute.Add sizes.Long (Register 1) (Const 4)) ∷ (Compute 1 compute.ShiftRight sizes.Long (Temp 2) (Temp 0)) ∷ (Compute 1 compute.And sizes.Byte (Temp 1) (Const 1)) ∷ (Compute 3 compute.ShiftLeft sizes.Long (Const 1) (Temp 0)) ∷ (Compute 2 compute.Or sizes.Long (Temp 2) (Temp 3)) ∷ (Compute 0 compute.Move sizes.Byte (Temp 1) (Const 0)) ∷ (Commit 1 2) ∷ (Leave (Choice 0 520 516)) ∷ []) ≡ true
unfolding step
fits23 = refl

words23 : program_words (from source.Kept source.Kept) ((Compute 0 compute.Move sizes.Long (Register 1) (Const 0)) ∷ (Probe 0 4 false) ∷ (Read 1 0 4) ∷ (Compute 4 compute.Add sizes.Long (Register 2) (Register 2)) ∷ (Compute 4 compute.Add sizes.Long (Temp 4) (Temp 4)) ∷ (Compute 1 compute.Add sizes.Long (Temp 1) (Temp 4)) ∷ (Probe 1 4 false) ∷ (Read 0 1 4) ∷ (Compute 4 compute.LessUnsigned sizes.Long (Const 31) (Temp 0)) ∷ (Refuse 4) ∷ (Compute 2 compute.Add sizes.Long (Register 1) (Const 4)) ∷ (Compute 1 compute.ShiftRight sizes.Long (Temp 2) (Temp 0)) ∷ (Compute 1 compute.And sizes.Byte (Temp 1) (Const 1)) ∷ (Compute 3 compute.ShiftLeft sizes.Long (Const 1) (Temp 0)) ∷ (Compute 2 compute.Or sizes.Long (Temp 2) (Temp 3)) ∷ (Compute 0 compute.Move sizes.Byte (Temp 1) (Const 0)) ∷ (Commit 1 2) ∷ (Leave (Choice 0 520 516)) ∷ []) ≡ 66
words23 = refl

sources23 : sources_of (op.BranchOnBit (record { state = true; store = (Plain true) })) ≡ from source.Kept source.Kept
unfolding sources_of
sources23 = refl

fits24 : fits (from source.Kept source.Kept) ((Compute 0 compute.Move sizes.Long (Register 1) (Const 0)) ∷ (Probe 0 4 false) ∷ (Read 1 0 4) ∷ (Compute 4 compute.Add sizes.Long (Register 2) (Register 2)) ∷ (Compute 4 compute.Add sizes.Long (Temp 4) (Temp 4)) ∷ (Compute 1 compute.Add sizes.Long (Temp 1) (Temp 4)) ∷ (Probe 1 4 false) ∷ (Read 0 1 4) ∷ (Compute 1 compute.Move sizes.Long (Register 2) (Const 0)) ∷ (Probe 1 4 false) ∷ (Read 2 1 4) ∷ (Compute 4 compute.Add sizes.Long (Register 1) (Const 4)) ∷ (Compute 2 compute.Add sizes.Long (Temp 2) (Temp 4)) ∷ (Compute 4 compute.ShiftSigned sizes.Long (Temp 0) (Const 3)) ∷ (Compute 2 compute.Add sizes.Long (Temp 2) (Temp 4)) ∷ (Compute 0 compute.And sizes.Byte (Temp 0) (Const 7)) ∷ (Probe 2 1 true) ∷ (Locked 1 2 SetBit 0) ∷ (Compute 0 compute.ShiftRight sizes.Byte (Temp 1) (Temp 0)) ∷ (Compute 0 compute.And sizes.Byte (Temp 0) (Const 1)) ∷ (Compute 5 compute.Add sizes.Long (Register 1) (Const 4)) ∷ (Commit 1 5) ∷ (Compute 5 compute.Add sizes.Long (Register 2) (Const 4)) ∷ (Commit 2 5) ∷ (Leave (Choice 0 520 516)) ∷ []) ≡ true
unfolding step
fits24 = refl

words24 : program_words (from source.Kept source.Kept) ((Compute 0 compute.Move sizes.Long (Register 1) (Const 0)) ∷ (Probe 0 4 false) ∷ (Read 1 0 4) ∷ (Compute 4 compute.Add sizes.Long (Register 2) (Register 2)) ∷ (Compute 4 compute.Add sizes.Long (Temp 4) (Temp 4)) ∷ (Compute 1 compute.Add sizes.Long (Temp 1) (Temp 4)) ∷ (Probe 1 4 false) ∷ (Read 0 1 4) ∷ (Compute 1 compute.Move sizes.Long (Register 2) (Const 0)) ∷ (Probe 1 4 false) ∷ (Read 2 1 4) ∷ (Compute 4 compute.Add sizes.Long (Register 1) (Const 4)) ∷ (Compute 2 compute.Add sizes.Long (Temp 2) (Temp 4)) ∷ (Compute 4 compute.ShiftSigned sizes.Long (Temp 0) (Const 3)) ∷ (Compute 2 compute.Add sizes.Long (Temp 2) (Temp 4)) ∷ (Compute 0 compute.And sizes.Byte (Temp 0) (Const 7)) ∷ (Probe 2 1 true) ∷ (Locked 1 2 SetBit 0) ∷ (Compute 0 compute.ShiftRight sizes.Byte (Temp 1) (Temp 0)) ∷ (Compute 0 compute.And sizes.Byte (Temp 0) (Const 1)) ∷ (Compute 5 compute.Add sizes.Long (Register 1) (Const 4)) ∷ (Commit 1 5) ∷ (Compute 5 compute.Add sizes.Long (Register 2) (Const 4)) ∷ (Commit 2 5) ∷ (Leave (Choice 0 520 516)) ∷ []) ≡ 103
words24 = refl

sources24 : sources_of (op.BranchOnBit (record { state = true; store = (Interlocked true) })) ≡ from source.Kept source.Kept
unfolding sources_of
sources24 = refl

fits25 : fits (from source.Kept source.Kept) ((Compute 0 compute.Move sizes.Long (Register 1) (Const 0)) ∷ (Probe 0 4 false) ∷ (Read 1 0 4) ∷ (Compute 4 compute.Add sizes.Long (Register 2) (Register 2)) ∷ (Compute 4 compute.Add sizes.Long (Temp 4) (Temp 4)) ∷ (Compute 1 compute.Add sizes.Long (Temp 1) (Temp 4)) ∷ (Probe 1 4 false) ∷ (Read 0 1 4) ∷ (Compute 0 compute.And sizes.Byte (Temp 0) (Const 1)) ∷ (Compute 0 compute.Xor sizes.Byte (Temp 0) (Const 1)) ∷ (Compute 5 compute.Add sizes.Long (Register 1) (Const 4)) ∷ (Commit 1 5) ∷ (Leave (Choice 0 520 516)) ∷ []) ≡ true
unfolding step
fits25 = refl

words25 : program_words (from source.Kept source.Kept) ((Compute 0 compute.Move sizes.Long (Register 1) (Const 0)) ∷ (Probe 0 4 false) ∷ (Read 1 0 4) ∷ (Compute 4 compute.Add sizes.Long (Register 2) (Register 2)) ∷ (Compute 4 compute.Add sizes.Long (Temp 4) (Temp 4)) ∷ (Compute 1 compute.Add sizes.Long (Temp 1) (Temp 4)) ∷ (Probe 1 4 false) ∷ (Read 0 1 4) ∷ (Compute 0 compute.And sizes.Byte (Temp 0) (Const 1)) ∷ (Compute 0 compute.Xor sizes.Byte (Temp 0) (Const 1)) ∷ (Compute 5 compute.Add sizes.Long (Register 1) (Const 4)) ∷ (Commit 1 5) ∷ (Leave (Choice 0 520 516)) ∷ []) ≡ 45
words25 = refl

sources25 : sources_of (op.BranchOnLowBit false) ≡ from source.Kept source.Kept
unfolding sources_of
sources25 = refl

fits26 : fits (from (source.Computed sizes.Long) source.Kept) ((Compute 0 compute.Move sizes.Long (Register 1) (Const 0)) ∷ (Probe 0 4 false) ∷ (Read 1 0 4) ∷ (Compute 4 compute.Add sizes.Long (Register 2) (Register 2)) ∷ (Compute 4 compute.Add sizes.Long (Temp 4) (Temp 4)) ∷ (Compute 1 compute.Add sizes.Long (Temp 1) (Temp 4)) ∷ (Probe 1 4 false) ∷ (Read 0 1 4) ∷ (Compute 1 compute.Move sizes.Long (Register 2) (Const 0)) ∷ (Probe 1 4 false) ∷ (Read 2 1 4) ∷ (Compute 4 compute.Add sizes.Long (Register 1) (Const 4)) ∷ (Compute 4 compute.Add sizes.Long (Temp 4) (Temp 4)) ∷ (Compute 4 compute.Add sizes.Long (Temp 4) (Temp 4)) ∷ (Compute 2 compute.Add sizes.Long (Temp 2) (Temp 4)) ∷ (Probe 2 4 false) ∷ (Read 1 2 4) ∷ (Compute 2 compute.Move sizes.Long (Register 3) (Const 0)) ∷ (Probe 2 4 false) ∷ (Read 3 2 4) ∷ (Compute 4 compute.Add sizes.Long (Register 1) (Const 4)) ∷ (Compute 4 compute.Add sizes.Long (Temp 4) (Temp 4)) ∷ (Compute 4 compute.Add sizes.Long (Temp 4) (Temp 4)) ∷ (Compute 3 compute.Add sizes.Long (Temp 3) (Temp 4)) ∷ (Probe 3 4 true) ∷ (Read 2 3 4) ∷ (Compute 2 compute.Add sizes.Long (Temp 2) (Temp 1)) ∷ (Write 3 4 2) ∷ (Compute 4 compute.SignExtend sizes.Long (Temp 2) (Const 0)) ∷ (Compute 5 compute.SignExtend sizes.Long (Temp 1) (Const 0)) ∷ (Compute 4 compute.Sub sizes.Quad (Temp 4) (Temp 5)) ∷ (Compute 5 compute.SignExtend sizes.Long (Temp 4) (Const 0)) ∷ (Compute 3 compute.Equal sizes.Quad (Temp 4) (Temp 5)) ∷ (Compute 3 compute.Xor sizes.Byte (Temp 3) (Const 1)) ∷ (Compute 4 compute.Less sizes.Long (Temp 0) (Temp 2)) ∷ (Compute 5 compute.Less sizes.Long (Temp 2) (Temp 0)) ∷ (Compute 1 compute.Less sizes.Long (Temp 1) (Const 0)) ∷ (Compute 4 compute.SelectNonzero sizes.Quad (Temp 1) (Temp 5)) ∷ (Compute 0 compute.Xor sizes.Byte (Temp 4) (Const 1)) ∷ (Compute 5 compute.Add sizes.Long (Register 1) (Const 4)) ∷ (Commit 1 5) ∷ (Compute 5 compute.Add sizes.Long (Register 2) (Const 4)) ∷ (Commit 2 5) ∷ (Compute 5 compute.Add sizes.Long (Register 3) (Const 4)) ∷ (Commit 3 5) ∷ (Compute 6 compute.ShiftRight sizes.Long (Temp 2) (Const 31)) ∷ (Compute 7 compute.Equal sizes.Long (Temp 2) (Const 0)) ∷ (Codes 6 7 3 None) ∷ (Leave (Choice 0 520 516)) ∷ []) ≡ true
unfolding step
fits26 = refl

words26 : program_words (from (source.Computed sizes.Long) source.Kept) ((Compute 0 compute.Move sizes.Long (Register 1) (Const 0)) ∷ (Probe 0 4 false) ∷ (Read 1 0 4) ∷ (Compute 4 compute.Add sizes.Long (Register 2) (Register 2)) ∷ (Compute 4 compute.Add sizes.Long (Temp 4) (Temp 4)) ∷ (Compute 1 compute.Add sizes.Long (Temp 1) (Temp 4)) ∷ (Probe 1 4 false) ∷ (Read 0 1 4) ∷ (Compute 1 compute.Move sizes.Long (Register 2) (Const 0)) ∷ (Probe 1 4 false) ∷ (Read 2 1 4) ∷ (Compute 4 compute.Add sizes.Long (Register 1) (Const 4)) ∷ (Compute 4 compute.Add sizes.Long (Temp 4) (Temp 4)) ∷ (Compute 4 compute.Add sizes.Long (Temp 4) (Temp 4)) ∷ (Compute 2 compute.Add sizes.Long (Temp 2) (Temp 4)) ∷ (Probe 2 4 false) ∷ (Read 1 2 4) ∷ (Compute 2 compute.Move sizes.Long (Register 3) (Const 0)) ∷ (Probe 2 4 false) ∷ (Read 3 2 4) ∷ (Compute 4 compute.Add sizes.Long (Register 1) (Const 4)) ∷ (Compute 4 compute.Add sizes.Long (Temp 4) (Temp 4)) ∷ (Compute 4 compute.Add sizes.Long (Temp 4) (Temp 4)) ∷ (Compute 3 compute.Add sizes.Long (Temp 3) (Temp 4)) ∷ (Probe 3 4 true) ∷ (Read 2 3 4) ∷ (Compute 2 compute.Add sizes.Long (Temp 2) (Temp 1)) ∷ (Write 3 4 2) ∷ (Compute 4 compute.SignExtend sizes.Long (Temp 2) (Const 0)) ∷ (Compute 5 compute.SignExtend sizes.Long (Temp 1) (Const 0)) ∷ (Compute 4 compute.Sub sizes.Quad (Temp 4) (Temp 5)) ∷ (Compute 5 compute.SignExtend sizes.Long (Temp 4) (Const 0)) ∷ (Compute 3 compute.Equal sizes.Quad (Temp 4) (Temp 5)) ∷ (Compute 3 compute.Xor sizes.Byte (Temp 3) (Const 1)) ∷ (Compute 4 compute.Less sizes.Long (Temp 0) (Temp 2)) ∷ (Compute 5 compute.Less sizes.Long (Temp 2) (Temp 0)) ∷ (Compute 1 compute.Less sizes.Long (Temp 1) (Const 0)) ∷ (Compute 4 compute.SelectNonzero sizes.Quad (Temp 1) (Temp 5)) ∷ (Compute 0 compute.Xor sizes.Byte (Temp 4) (Const 1)) ∷ (Compute 5 compute.Add sizes.Long (Register 1) (Const 4)) ∷ (Commit 1 5) ∷ (Compute 5 compute.Add sizes.Long (Register 2) (Const 4)) ∷ (Commit 2 5) ∷ (Compute 5 compute.Add sizes.Long (Register 3) (Const 4)) ∷ (Commit 3 5) ∷ (Compute 6 compute.ShiftRight sizes.Long (Temp 2) (Const 31)) ∷ (Compute 7 compute.Equal sizes.Long (Temp 2) (Const 0)) ∷ (Codes 6 7 3 None) ∷ (Leave (Choice 0 520 516)) ∷ []) ≡ 173
words26 = refl

sources26 : sources_of (op.AddCompareBranch Long) ≡ from (source.Computed sizes.Long) source.Kept
unfolding sources_of
sources26 = refl

fits27 : fits (from (source.Computed sizes.Long) source.Kept) ((Compute 0 compute.Move sizes.Long (Register 1) (Const 0)) ∷ (Probe 0 4 false) ∷ (Read 1 0 4) ∷ (Compute 4 compute.Add sizes.Long (Register 2) (Register 2)) ∷ (Compute 4 compute.Add sizes.Long (Temp 4) (Temp 4)) ∷ (Compute 1 compute.Add sizes.Long (Temp 1) (Temp 4)) ∷ (Probe 1 4 false) ∷ (Read 0 1 4) ∷ (Compute 1 compute.Add sizes.Long (Register 1) (Const 4)) ∷ (Probe 1 4 false) ∷ (Read 2 1 4) ∷ (Compute 4 compute.Add sizes.Long (Register 3) (Register 3)) ∷ (Compute 4 compute.Add sizes.Long (Temp 4) (Temp 4)) ∷ (Compute 2 compute.Add sizes.Long (Temp 2) (Temp 4)) ∷ (Probe 2 4 false) ∷ (Read 1 2 4) ∷ (Compute 2 compute.Add sizes.Long (Register 1) (Const 8)) ∷ (Probe 2 4 false) ∷ (Read 3 2 4) ∷ (Compute 4 compute.Add sizes.Long (Register 4) (Register 4)) ∷ (Compute 4 compute.Add sizes.Long (Temp 4) (Temp 4)) ∷ (Compute 3 compute.Add sizes.Long (Temp 3) (Temp 4)) ∷ (Probe 3 4 true) ∷ (Read 2 3 4) ∷ (Compute 2 compute.Add sizes.Long (Temp 2) (Temp 1)) ∷ (Write 3 4 2) ∷ (Compute 4 compute.SignExtend sizes.Long (Temp 2) (Const 0)) ∷ (Compute 5 compute.SignExtend sizes.Long (Temp 1) (Const 0)) ∷ (Compute 4 compute.Sub sizes.Quad (Temp 4) (Temp 5)) ∷ (Compute 5 compute.SignExtend sizes.Long (Temp 4) (Const 0)) ∷ (Compute 3 compute.Equal sizes.Quad (Temp 4) (Temp 5)) ∷ (Compute 3 compute.Xor sizes.Byte (Temp 3) (Const 1)) ∷ (Compute 4 compute.Less sizes.Long (Temp 0) (Temp 2)) ∷ (Compute 5 compute.Less sizes.Long (Temp 2) (Temp 0)) ∷ (Compute 1 compute.Less sizes.Long (Temp 1) (Const 0)) ∷ (Compute 4 compute.SelectNonzero sizes.Quad (Temp 1) (Temp 5)) ∷ (Compute 0 compute.Xor sizes.Byte (Temp 4) (Const 1)) ∷ (Compute 5 compute.Add sizes.Long (Register 1) (Const 12)) ∷ (Commit 1 5) ∷ (Compute 6 compute.ShiftRight sizes.Long (Temp 2) (Const 31)) ∷ (Compute 7 compute.Equal sizes.Long (Temp 2) (Const 0)) ∷ (Codes 6 7 3 None) ∷ (Leave (Choice 0 520 516)) ∷ []) ≡ true
unfolding step
fits27 = refl

words27 : program_words (from (source.Computed sizes.Long) source.Kept) ((Compute 0 compute.Move sizes.Long (Register 1) (Const 0)) ∷ (Probe 0 4 false) ∷ (Read 1 0 4) ∷ (Compute 4 compute.Add sizes.Long (Register 2) (Register 2)) ∷ (Compute 4 compute.Add sizes.Long (Temp 4) (Temp 4)) ∷ (Compute 1 compute.Add sizes.Long (Temp 1) (Temp 4)) ∷ (Probe 1 4 false) ∷ (Read 0 1 4) ∷ (Compute 1 compute.Add sizes.Long (Register 1) (Const 4)) ∷ (Probe 1 4 false) ∷ (Read 2 1 4) ∷ (Compute 4 compute.Add sizes.Long (Register 3) (Register 3)) ∷ (Compute 4 compute.Add sizes.Long (Temp 4) (Temp 4)) ∷ (Compute 2 compute.Add sizes.Long (Temp 2) (Temp 4)) ∷ (Probe 2 4 false) ∷ (Read 1 2 4) ∷ (Compute 2 compute.Add sizes.Long (Register 1) (Const 8)) ∷ (Probe 2 4 false) ∷ (Read 3 2 4) ∷ (Compute 4 compute.Add sizes.Long (Register 4) (Register 4)) ∷ (Compute 4 compute.Add sizes.Long (Temp 4) (Temp 4)) ∷ (Compute 3 compute.Add sizes.Long (Temp 3) (Temp 4)) ∷ (Probe 3 4 true) ∷ (Read 2 3 4) ∷ (Compute 2 compute.Add sizes.Long (Temp 2) (Temp 1)) ∷ (Write 3 4 2) ∷ (Compute 4 compute.SignExtend sizes.Long (Temp 2) (Const 0)) ∷ (Compute 5 compute.SignExtend sizes.Long (Temp 1) (Const 0)) ∷ (Compute 4 compute.Sub sizes.Quad (Temp 4) (Temp 5)) ∷ (Compute 5 compute.SignExtend sizes.Long (Temp 4) (Const 0)) ∷ (Compute 3 compute.Equal sizes.Quad (Temp 4) (Temp 5)) ∷ (Compute 3 compute.Xor sizes.Byte (Temp 3) (Const 1)) ∷ (Compute 4 compute.Less sizes.Long (Temp 0) (Temp 2)) ∷ (Compute 5 compute.Less sizes.Long (Temp 2) (Temp 0)) ∷ (Compute 1 compute.Less sizes.Long (Temp 1) (Const 0)) ∷ (Compute 4 compute.SelectNonzero sizes.Quad (Temp 1) (Temp 5)) ∷ (Compute 0 compute.Xor sizes.Byte (Temp 4) (Const 1)) ∷ (Compute 5 compute.Add sizes.Long (Register 1) (Const 12)) ∷ (Commit 1 5) ∷ (Compute 6 compute.ShiftRight sizes.Long (Temp 2) (Const 31)) ∷ (Compute 7 compute.Equal sizes.Long (Temp 2) (Const 0)) ∷ (Codes 6 7 3 None) ∷ (Leave (Choice 0 520 516)) ∷ []) ≡ 161
words27 = refl

sources27 : sources_of (op.AddCompareBranch Long) ≡ from (source.Computed sizes.Long) source.Kept
unfolding sources_of
sources27 = refl

fits28 : fits (from (source.Computed sizes.Word) source.Kept) ((Compute 0 compute.Move sizes.Long (Register 1) (Const 0)) ∷ (Probe 0 4 false) ∷ (Read 1 0 4) ∷ (Compute 4 compute.Add sizes.Long (Register 2) (Register 2)) ∷ (Compute 1 compute.Add sizes.Long (Temp 1) (Temp 4)) ∷ (Probe 1 2 false) ∷ (Read 0 1 2) ∷ (Compute 1 compute.Move sizes.Long (Register 2) (Const 0)) ∷ (Probe 1 4 false) ∷ (Read 2 1 4) ∷ (Compute 4 compute.Add sizes.Long (Register 1) (Const 4)) ∷ (Compute 4 compute.Add sizes.Long (Temp 4) (Temp 4)) ∷ (Compute 2 compute.Add sizes.Long (Temp 2) (Temp 4)) ∷ (Probe 2 2 false) ∷ (Read 1 2 2) ∷ (Compute 2 compute.Move sizes.Long (Register 3) (Const 0)) ∷ (Probe 2 4 false) ∷ (Read 3 2 4) ∷ (Compute 4 compute.Add sizes.Long (Register 1) (Const 4)) ∷ (Compute 4 compute.Add sizes.Long (Temp 4) (Temp 4)) ∷ (Compute 3 compute.Add sizes.Long (Temp 3) (Temp 4)) ∷ (Probe 3 2 true) ∷ (Read 2 3 2) ∷ (Compute 2 compute.Add sizes.Word (Temp 2) (Temp 1)) ∷ (Write 3 2 2) ∷ (Compute 4 compute.SignExtend sizes.Word (Temp 2) (Const 0)) ∷ (Compute 5 compute.SignExtend sizes.Word (Temp 1) (Const 0)) ∷ (Compute 4 compute.Sub sizes.Quad (Temp 4) (Temp 5)) ∷ (Compute 5 compute.SignExtend sizes.Word (Temp 4) (Const 0)) ∷ (Compute 3 compute.Equal sizes.Quad (Temp 4) (Temp 5)) ∷ (Compute 3 compute.Xor sizes.Byte (Temp 3) (Const 1)) ∷ (Compute 4 compute.Less sizes.Word (Temp 0) (Temp 2)) ∷ (Compute 5 compute.Less sizes.Word (Temp 2) (Temp 0)) ∷ (Compute 1 compute.Less sizes.Word (Temp 1) (Const 0)) ∷ (Compute 4 compute.SelectNonzero sizes.Quad (Temp 1) (Temp 5)) ∷ (Compute 0 compute.Xor sizes.Byte (Temp 4) (Const 1)) ∷ (Compute 5 compute.Add sizes.Long (Register 1) (Const 4)) ∷ (Commit 1 5) ∷ (Compute 5 compute.Add sizes.Long (Register 2) (Const 4)) ∷ (Commit 2 5) ∷ (Compute 5 compute.Add sizes.Long (Register 3) (Const 4)) ∷ (Commit 3 5) ∷ (Compute 6 compute.ShiftRight sizes.Word (Temp 2) (Const 15)) ∷ (Compute 7 compute.Equal sizes.Word (Temp 2) (Const 0)) ∷ (Codes 6 7 3 None) ∷ (Leave (Choice 0 520 516)) ∷ []) ≡ true
unfolding step
fits28 = refl

words28 : program_words (from (source.Computed sizes.Word) source.Kept) ((Compute 0 compute.Move sizes.Long (Register 1) (Const 0)) ∷ (Probe 0 4 false) ∷ (Read 1 0 4) ∷ (Compute 4 compute.Add sizes.Long (Register 2) (Register 2)) ∷ (Compute 1 compute.Add sizes.Long (Temp 1) (Temp 4)) ∷ (Probe 1 2 false) ∷ (Read 0 1 2) ∷ (Compute 1 compute.Move sizes.Long (Register 2) (Const 0)) ∷ (Probe 1 4 false) ∷ (Read 2 1 4) ∷ (Compute 4 compute.Add sizes.Long (Register 1) (Const 4)) ∷ (Compute 4 compute.Add sizes.Long (Temp 4) (Temp 4)) ∷ (Compute 2 compute.Add sizes.Long (Temp 2) (Temp 4)) ∷ (Probe 2 2 false) ∷ (Read 1 2 2) ∷ (Compute 2 compute.Move sizes.Long (Register 3) (Const 0)) ∷ (Probe 2 4 false) ∷ (Read 3 2 4) ∷ (Compute 4 compute.Add sizes.Long (Register 1) (Const 4)) ∷ (Compute 4 compute.Add sizes.Long (Temp 4) (Temp 4)) ∷ (Compute 3 compute.Add sizes.Long (Temp 3) (Temp 4)) ∷ (Probe 3 2 true) ∷ (Read 2 3 2) ∷ (Compute 2 compute.Add sizes.Word (Temp 2) (Temp 1)) ∷ (Write 3 2 2) ∷ (Compute 4 compute.SignExtend sizes.Word (Temp 2) (Const 0)) ∷ (Compute 5 compute.SignExtend sizes.Word (Temp 1) (Const 0)) ∷ (Compute 4 compute.Sub sizes.Quad (Temp 4) (Temp 5)) ∷ (Compute 5 compute.SignExtend sizes.Word (Temp 4) (Const 0)) ∷ (Compute 3 compute.Equal sizes.Quad (Temp 4) (Temp 5)) ∷ (Compute 3 compute.Xor sizes.Byte (Temp 3) (Const 1)) ∷ (Compute 4 compute.Less sizes.Word (Temp 0) (Temp 2)) ∷ (Compute 5 compute.Less sizes.Word (Temp 2) (Temp 0)) ∷ (Compute 1 compute.Less sizes.Word (Temp 1) (Const 0)) ∷ (Compute 4 compute.SelectNonzero sizes.Quad (Temp 1) (Temp 5)) ∷ (Compute 0 compute.Xor sizes.Byte (Temp 4) (Const 1)) ∷ (Compute 5 compute.Add sizes.Long (Register 1) (Const 4)) ∷ (Commit 1 5) ∷ (Compute 5 compute.Add sizes.Long (Register 2) (Const 4)) ∷ (Commit 2 5) ∷ (Compute 5 compute.Add sizes.Long (Register 3) (Const 4)) ∷ (Commit 3 5) ∷ (Compute 6 compute.ShiftRight sizes.Word (Temp 2) (Const 15)) ∷ (Compute 7 compute.Equal sizes.Word (Temp 2) (Const 0)) ∷ (Codes 6 7 3 None) ∷ (Leave (Choice 0 520 516)) ∷ []) ≡ 166
words28 = refl

sources28 : sources_of (op.AddCompareBranch Word) ≡ from (source.Computed sizes.Word) source.Kept
unfolding sources_of
sources28 = refl

fits29 : fits (from (source.Computed sizes.Byte) source.Kept) ((Compute 0 compute.Move sizes.Long (Register 1) (Const 0)) ∷ (Probe 0 4 false) ∷ (Read 1 0 4) ∷ (Compute 1 compute.Add sizes.Long (Temp 1) (Register 2)) ∷ (Probe 1 1 false) ∷ (Read 0 1 1) ∷ (Compute 1 compute.Move sizes.Long (Register 2) (Const 0)) ∷ (Probe 1 4 false) ∷ (Read 2 1 4) ∷ (Compute 4 compute.Add sizes.Long (Register 1) (Const 4)) ∷ (Compute 2 compute.Add sizes.Long (Temp 2) (Temp 4)) ∷ (Probe 2 1 false) ∷ (Read 1 2 1) ∷ (Compute 2 compute.Add sizes.Byte (Register 1) (Const 4)) ∷ (Compute 2 compute.Add sizes.Byte (Temp 2) (Temp 1)) ∷ (Compute 4 compute.SignExtend sizes.Byte (Temp 2) (Const 0)) ∷ (Compute 5 compute.SignExtend sizes.Byte (Temp 1) (Const 0)) ∷ (Compute 4 compute.Sub sizes.Quad (Temp 4) (Temp 5)) ∷ (Compute 5 compute.SignExtend sizes.Byte (Temp 4) (Const 0)) ∷ (Compute 3 compute.Equal sizes.Quad (Temp 4) (Temp 5)) ∷ (Compute 3 compute.Xor sizes.Byte (Temp 3) (Const 1)) ∷ (Compute 4 compute.Less sizes.Byte (Temp 0) (Temp 2)) ∷ (Compute 5 compute.Less sizes.Byte (Temp 2) (Temp 0)) ∷ (Compute 1 compute.Less sizes.Byte (Temp 1) (Const 0)) ∷ (Compute 4 compute.SelectNonzero sizes.Quad (Temp 1) (Temp 5)) ∷ (Compute 0 compute.Xor sizes.Byte (Temp 4) (Const 1)) ∷ (Compute 5 compute.Add sizes.Long (Register 1) (Const 4)) ∷ (Compute 5 compute.AndNot sizes.Long (Temp 5) (Const 255)) ∷ (Compute 5 compute.Or sizes.Long (Temp 5) (Temp 2)) ∷ (Commit 1 5) ∷ (Compute 5 compute.Add sizes.Long (Register 2) (Const 4)) ∷ (Commit 2 5) ∷ (Compute 6 compute.ShiftRight sizes.Byte (Temp 2) (Const 7)) ∷ (Compute 7 compute.Equal sizes.Byte (Temp 2) (Const 0)) ∷ (Codes 6 7 3 None) ∷ (Leave (Choice 0 520 516)) ∷ []) ≡ true
unfolding step
fits29 = refl

words29 : program_words (from (source.Computed sizes.Byte) source.Kept) ((Compute 0 compute.Move sizes.Long (Register 1) (Const 0)) ∷ (Probe 0 4 false) ∷ (Read 1 0 4) ∷ (Compute 1 compute.Add sizes.Long (Temp 1) (Register 2)) ∷ (Probe 1 1 false) ∷ (Read 0 1 1) ∷ (Compute 1 compute.Move sizes.Long (Register 2) (Const 0)) ∷ (Probe 1 4 false) ∷ (Read 2 1 4) ∷ (Compute 4 compute.Add sizes.Long (Register 1) (Const 4)) ∷ (Compute 2 compute.Add sizes.Long (Temp 2) (Temp 4)) ∷ (Probe 2 1 false) ∷ (Read 1 2 1) ∷ (Compute 2 compute.Add sizes.Byte (Register 1) (Const 4)) ∷ (Compute 2 compute.Add sizes.Byte (Temp 2) (Temp 1)) ∷ (Compute 4 compute.SignExtend sizes.Byte (Temp 2) (Const 0)) ∷ (Compute 5 compute.SignExtend sizes.Byte (Temp 1) (Const 0)) ∷ (Compute 4 compute.Sub sizes.Quad (Temp 4) (Temp 5)) ∷ (Compute 5 compute.SignExtend sizes.Byte (Temp 4) (Const 0)) ∷ (Compute 3 compute.Equal sizes.Quad (Temp 4) (Temp 5)) ∷ (Compute 3 compute.Xor sizes.Byte (Temp 3) (Const 1)) ∷ (Compute 4 compute.Less sizes.Byte (Temp 0) (Temp 2)) ∷ (Compute 5 compute.Less sizes.Byte (Temp 2) (Temp 0)) ∷ (Compute 1 compute.Less sizes.Byte (Temp 1) (Const 0)) ∷ (Compute 4 compute.SelectNonzero sizes.Quad (Temp 1) (Temp 5)) ∷ (Compute 0 compute.Xor sizes.Byte (Temp 4) (Const 1)) ∷ (Compute 5 compute.Add sizes.Long (Register 1) (Const 4)) ∷ (Compute 5 compute.AndNot sizes.Long (Temp 5) (Const 255)) ∷ (Compute 5 compute.Or sizes.Long (Temp 5) (Temp 2)) ∷ (Commit 1 5) ∷ (Compute 5 compute.Add sizes.Long (Register 2) (Const 4)) ∷ (Commit 2 5) ∷ (Compute 6 compute.ShiftRight sizes.Byte (Temp 2) (Const 7)) ∷ (Compute 7 compute.Equal sizes.Byte (Temp 2) (Const 0)) ∷ (Codes 6 7 3 None) ∷ (Leave (Choice 0 520 516)) ∷ []) ≡ 93
words29 = refl

sources29 : sources_of (op.AddCompareBranch Byte) ≡ from (source.Computed sizes.Byte) source.Kept
unfolding sources_of
sources29 = refl

fits30 : fits (from (source.Computed sizes.Long) source.Kept) ((Compute 0 compute.Move sizes.Long (Register 1) (Const 0)) ∷ (Probe 0 4 false) ∷ (Read 1 0 4) ∷ (Compute 4 compute.Add sizes.Long (Register 2) (Register 2)) ∷ (Compute 4 compute.Add sizes.Long (Temp 4) (Temp 4)) ∷ (Compute 1 compute.Add sizes.Long (Temp 1) (Temp 4)) ∷ (Probe 1 4 false) ∷ (Read 0 1 4) ∷ (Compute 2 compute.Move sizes.Long (Register 2) (Const 0)) ∷ (Probe 2 4 false) ∷ (Read 3 2 4) ∷ (Compute 4 compute.Add sizes.Long (Register 1) (Const 4)) ∷ (Compute 4 compute.Add sizes.Long (Temp 4) (Temp 4)) ∷ (Compute 4 compute.Add sizes.Long (Temp 4) (Temp 4)) ∷ (Compute 3 compute.Add sizes.Long (Temp 3) (Temp 4)) ∷ (Probe 3 4 true) ∷ (Read 2 3 4) ∷ (Compute 2 compute.Add sizes.Long (Temp 2) (Const 1)) ∷ (Write 3 4 2) ∷ (Compute 3 compute.Equal sizes.Long (Temp 2) (Const 2147483648)) ∷ (Compute 0 compute.Less sizes.Long (Temp 0) (Temp 2)) ∷ (Compute 0 compute.Xor sizes.Byte (Temp 0) (Const 1)) ∷ (Compute 5 compute.Add sizes.Long (Register 1) (Const 4)) ∷ (Commit 1 5) ∷ (Compute 5 compute.Add sizes.Long (Register 2) (Const 4)) ∷ (Commit 2 5) ∷ (Compute 6 compute.ShiftRight sizes.Long (Temp 2) (Const 31)) ∷ (Compute 7 compute.Equal sizes.Long (Temp 2) (Const 0)) ∷ (Codes 6 7 3 None) ∷ (Leave (Choice 0 520 516)) ∷ []) ≡ true
unfolding step
fits30 = refl

words30 : program_words (from (source.Computed sizes.Long) source.Kept) ((Compute 0 compute.Move sizes.Long (Register 1) (Const 0)) ∷ (Probe 0 4 false) ∷ (Read 1 0 4) ∷ (Compute 4 compute.Add sizes.Long (Register 2) (Register 2)) ∷ (Compute 4 compute.Add sizes.Long (Temp 4) (Temp 4)) ∷ (Compute 1 compute.Add sizes.Long (Temp 1) (Temp 4)) ∷ (Probe 1 4 false) ∷ (Read 0 1 4) ∷ (Compute 2 compute.Move sizes.Long (Register 2) (Const 0)) ∷ (Probe 2 4 false) ∷ (Read 3 2 4) ∷ (Compute 4 compute.Add sizes.Long (Register 1) (Const 4)) ∷ (Compute 4 compute.Add sizes.Long (Temp 4) (Temp 4)) ∷ (Compute 4 compute.Add sizes.Long (Temp 4) (Temp 4)) ∷ (Compute 3 compute.Add sizes.Long (Temp 3) (Temp 4)) ∷ (Probe 3 4 true) ∷ (Read 2 3 4) ∷ (Compute 2 compute.Add sizes.Long (Temp 2) (Const 1)) ∷ (Write 3 4 2) ∷ (Compute 3 compute.Equal sizes.Long (Temp 2) (Const 2147483648)) ∷ (Compute 0 compute.Less sizes.Long (Temp 0) (Temp 2)) ∷ (Compute 0 compute.Xor sizes.Byte (Temp 0) (Const 1)) ∷ (Compute 5 compute.Add sizes.Long (Register 1) (Const 4)) ∷ (Commit 1 5) ∷ (Compute 5 compute.Add sizes.Long (Register 2) (Const 4)) ∷ (Commit 2 5) ∷ (Compute 6 compute.ShiftRight sizes.Long (Temp 2) (Const 31)) ∷ (Compute 7 compute.Equal sizes.Long (Temp 2) (Const 0)) ∷ (Codes 6 7 3 None) ∷ (Leave (Choice 0 520 516)) ∷ []) ≡ 122
words30 = refl

sources30 : sources_of (op.AddOneBranch true) ≡ from (source.Computed sizes.Long) source.Kept
unfolding sources_of
sources30 = refl

fits31 : fits (from (source.Computed sizes.Long) source.Kept) ((Compute 2 compute.Move sizes.Long (Register 1) (Const 0)) ∷ (Probe 2 4 false) ∷ (Read 3 2 4) ∷ (Compute 4 compute.Add sizes.Long (Register 2) (Register 2)) ∷ (Compute 4 compute.Add sizes.Long (Temp 4) (Temp 4)) ∷ (Compute 3 compute.Add sizes.Long (Temp 3) (Temp 4)) ∷ (Probe 3 4 true) ∷ (Read 2 3 4) ∷ (Compute 2 compute.Sub sizes.Long (Temp 2) (Const 1)) ∷ (Write 3 4 2) ∷ (Compute 3 compute.Equal sizes.Long (Temp 2) (Const 2147483647)) ∷ (Compute 0 compute.Less sizes.Long (Temp 2) (Const 0)) ∷ (Compute 0 compute.Xor sizes.Byte (Temp 0) (Const 1)) ∷ (Compute 5 compute.Add sizes.Long (Register 1) (Const 4)) ∷ (Commit 1 5) ∷ (Compute 6 compute.ShiftRight sizes.Long (Temp 2) (Const 31)) ∷ (Compute 7 compute.Equal sizes.Long (Temp 2) (Const 0)) ∷ (Codes 6 7 3 None) ∷ (Leave (Choice 0 520 516)) ∷ []) ≡ true
unfolding step
fits31 = refl

words31 : program_words (from (source.Computed sizes.Long) source.Kept) ((Compute 2 compute.Move sizes.Long (Register 1) (Const 0)) ∷ (Probe 2 4 false) ∷ (Read 3 2 4) ∷ (Compute 4 compute.Add sizes.Long (Register 2) (Register 2)) ∷ (Compute 4 compute.Add sizes.Long (Temp 4) (Temp 4)) ∷ (Compute 3 compute.Add sizes.Long (Temp 3) (Temp 4)) ∷ (Probe 3 4 true) ∷ (Read 2 3 4) ∷ (Compute 2 compute.Sub sizes.Long (Temp 2) (Const 1)) ∷ (Write 3 4 2) ∷ (Compute 3 compute.Equal sizes.Long (Temp 2) (Const 2147483647)) ∷ (Compute 0 compute.Less sizes.Long (Temp 2) (Const 0)) ∷ (Compute 0 compute.Xor sizes.Byte (Temp 0) (Const 1)) ∷ (Compute 5 compute.Add sizes.Long (Register 1) (Const 4)) ∷ (Commit 1 5) ∷ (Compute 6 compute.ShiftRight sizes.Long (Temp 2) (Const 31)) ∷ (Compute 7 compute.Equal sizes.Long (Temp 2) (Const 0)) ∷ (Codes 6 7 3 None) ∷ (Leave (Choice 0 520 516)) ∷ []) ≡ 76
words31 = refl

sources31 : sources_of (op.SubtractOneBranch true) ≡ from (source.Computed sizes.Long) source.Kept
unfolding sources_of
sources31 = refl

fits32 : fits (from source.Kept source.Kept) ((Compute 1 compute.Add sizes.Long (Register 14) (Const 4294967292)) ∷ (Compute 2 compute.Move sizes.Long (Const 520) (Const 0)) ∷ (Probe 1 4 true) ∷ (Write 1 4 2) ∷ (Compute 5 compute.Add sizes.Long (Register 14) (Const 4294967292)) ∷ (Commit 14 5) ∷ (Leave (Fixed 520)) ∷ []) ≡ true
unfolding step
fits32 = refl

words32 : program_words (from source.Kept source.Kept) ((Compute 1 compute.Add sizes.Long (Register 14) (Const 4294967292)) ∷ (Compute 2 compute.Move sizes.Long (Const 520) (Const 0)) ∷ (Probe 1 4 true) ∷ (Write 1 4 2) ∷ (Compute 5 compute.Add sizes.Long (Register 14) (Const 4294967292)) ∷ (Commit 14 5) ∷ (Leave (Fixed 520)) ∷ []) ≡ 38
words32 = refl

sources32 : sources_of (op.BranchToSubroutine Byte) ≡ from source.Kept source.Kept
unfolding sources_of
sources32 = refl

fits33 : fits (from source.Kept source.Kept) ((Compute 1 compute.Move sizes.Long (Register 14) (Const 0)) ∷ (Probe 1 4 false) ∷ (Read 0 1 4) ∷ (Compute 0 compute.Add sizes.Long (Temp 0) (Register 2)) ∷ (Compute 1 compute.Move sizes.Long (Register 14) (Const 0)) ∷ (Compute 2 compute.Move sizes.Long (Const 520) (Const 0)) ∷ (Probe 1 4 true) ∷ (Write 1 4 2) ∷ (Leave (Computed 0)) ∷ []) ≡ true
unfolding step
fits33 = refl

words33 : program_words (from source.Kept source.Kept) ((Compute 1 compute.Move sizes.Long (Register 14) (Const 0)) ∷ (Probe 1 4 false) ∷ (Read 0 1 4) ∷ (Compute 0 compute.Add sizes.Long (Temp 0) (Register 2)) ∷ (Compute 1 compute.Move sizes.Long (Register 14) (Const 0)) ∷ (Compute 2 compute.Move sizes.Long (Const 520) (Const 0)) ∷ (Probe 1 4 true) ∷ (Write 1 4 2) ∷ (Leave (Computed 0)) ∷ []) ≡ 47
words33 = refl

sources33 : sources_of op.JumpToSubroutine ≡ from source.Kept source.Kept
unfolding sources_of
sources33 = refl

fits34 : fits (from source.Kept source.Kept) ((Compute 1 compute.Move sizes.Long (Register 1) (Const 0)) ∷ (Probe 1 4 false) ∷ (Read 0 1 4) ∷ (Compute 0 compute.Add sizes.Long (Temp 0) (Register 2)) ∷ (Compute 5 compute.Add sizes.Long (Register 1) (Const 4)) ∷ (Commit 1 5) ∷ (Leave (Computed 0)) ∷ []) ≡ true
unfolding step
fits34 = refl

words34 : program_words (from source.Kept source.Kept) ((Compute 1 compute.Move sizes.Long (Register 1) (Const 0)) ∷ (Probe 1 4 false) ∷ (Read 0 1 4) ∷ (Compute 0 compute.Add sizes.Long (Temp 0) (Register 2)) ∷ (Compute 5 compute.Add sizes.Long (Register 1) (Const 4)) ∷ (Commit 1 5) ∷ (Leave (Computed 0)) ∷ []) ≡ 22
words34 = refl

sources34 : sources_of op.Jump ≡ from source.Kept source.Kept
unfolding sources_of
sources34 = refl

fits35 : fits (from source.Kept source.Kept) ((Compute 1 compute.Move sizes.Long (Register 14) (Const 0)) ∷ (Probe 1 4 false) ∷ (Read 0 1 4) ∷ (Compute 5 compute.Add sizes.Long (Register 14) (Const 4)) ∷ (Commit 14 5) ∷ (Leave (Computed 0)) ∷ []) ≡ true
unfolding step
fits35 = refl

words35 : program_words (from source.Kept source.Kept) ((Compute 1 compute.Move sizes.Long (Register 14) (Const 0)) ∷ (Probe 1 4 false) ∷ (Read 0 1 4) ∷ (Compute 5 compute.Add sizes.Long (Register 14) (Const 4)) ∷ (Commit 14 5) ∷ (Leave (Computed 0)) ∷ []) ≡ 20
words35 = refl

sources35 : sources_of op.ReturnFromSubroutine ≡ from source.Kept source.Kept
unfolding sources_of
sources35 = refl

fits36 : fits (from source.Psw source.Psw) ((Compute 0 compute.Move sizes.Long (Register 1) (Const 0)) ∷ (Probe 0 4 false) ∷ (Read 1 0 4) ∷ (Compute 4 compute.Add sizes.Long (Register 2) (Register 2)) ∷ (Compute 1 compute.Add sizes.Long (Temp 1) (Temp 4)) ∷ (Probe 1 2 false) ∷ (Read 0 1 2) ∷ (Compute 4 compute.ShiftRight sizes.Word (Temp 0) (Const 8)) ∷ (Refuse 4) ∷ (Compute 2 compute.Move sizes.Byte (Flag 7) (Const 0)) ∷ (Compute 2 compute.Add sizes.Byte (Temp 2) (Temp 2)) ∷ (Compute 2 compute.Or sizes.Byte (Temp 2) (Flag 6)) ∷ (Compute 2 compute.Add sizes.Byte (Temp 2) (Temp 2)) ∷ (Compute 2 compute.Or sizes.Byte (Temp 2) (Flag 5)) ∷ (Compute 2 compute.Add sizes.Byte (Temp 2) (Temp 2)) ∷ (Compute 2 compute.Or sizes.Byte (Temp 2) (Flag 4)) ∷ (Compute 2 compute.Add sizes.Byte (Temp 2) (Temp 2)) ∷ (Compute 2 compute.Or sizes.Byte (Temp 2) (Flag 0)) ∷ (Compute 2 compute.Add sizes.Byte (Temp 2) (Temp 2)) ∷ (Compute 2 compute.Or sizes.Byte (Temp 2) (Flag 1)) ∷ (Compute 2 compute.Add sizes.Byte (Temp 2) (Temp 2)) ∷ (Compute 2 compute.Or sizes.Byte (Temp 2) (Flag 2)) ∷ (Compute 2 compute.Add sizes.Byte (Temp 2) (Temp 2)) ∷ (Compute 2 compute.Or sizes.Byte (Temp 2) (Flag 3)) ∷ (Compute 2 compute.Or sizes.Byte (Temp 2) (Temp 0)) ∷ (SetPsw 2) ∷ (Compute 5 compute.Add sizes.Long (Register 1) (Const 4)) ∷ (Commit 1 5) ∷ (Leave Next) ∷ []) ≡ true
unfolding step
fits36 = refl

words36 : program_words (from source.Psw source.Psw) ((Compute 0 compute.Move sizes.Long (Register 1) (Const 0)) ∷ (Probe 0 4 false) ∷ (Read 1 0 4) ∷ (Compute 4 compute.Add sizes.Long (Register 2) (Register 2)) ∷ (Compute 1 compute.Add sizes.Long (Temp 1) (Temp 4)) ∷ (Probe 1 2 false) ∷ (Read 0 1 2) ∷ (Compute 4 compute.ShiftRight sizes.Word (Temp 0) (Const 8)) ∷ (Refuse 4) ∷ (Compute 2 compute.Move sizes.Byte (Flag 7) (Const 0)) ∷ (Compute 2 compute.Add sizes.Byte (Temp 2) (Temp 2)) ∷ (Compute 2 compute.Or sizes.Byte (Temp 2) (Flag 6)) ∷ (Compute 2 compute.Add sizes.Byte (Temp 2) (Temp 2)) ∷ (Compute 2 compute.Or sizes.Byte (Temp 2) (Flag 5)) ∷ (Compute 2 compute.Add sizes.Byte (Temp 2) (Temp 2)) ∷ (Compute 2 compute.Or sizes.Byte (Temp 2) (Flag 4)) ∷ (Compute 2 compute.Add sizes.Byte (Temp 2) (Temp 2)) ∷ (Compute 2 compute.Or sizes.Byte (Temp 2) (Flag 0)) ∷ (Compute 2 compute.Add sizes.Byte (Temp 2) (Temp 2)) ∷ (Compute 2 compute.Or sizes.Byte (Temp 2) (Flag 1)) ∷ (Compute 2 compute.Add sizes.Byte (Temp 2) (Temp 2)) ∷ (Compute 2 compute.Or sizes.Byte (Temp 2) (Flag 2)) ∷ (Compute 2 compute.Add sizes.Byte (Temp 2) (Temp 2)) ∷ (Compute 2 compute.Or sizes.Byte (Temp 2) (Flag 3)) ∷ (Compute 2 compute.Or sizes.Byte (Temp 2) (Temp 0)) ∷ (SetPsw 2) ∷ (Compute 5 compute.Add sizes.Long (Register 1) (Const 4)) ∷ (Commit 1 5) ∷ (Leave Next) ∷ []) ≡ 87
words36 = refl

sources36 : sources_of op.BitSetPsw ≡ from source.Psw source.Psw
unfolding sources_of
sources36 = refl

fits37 : fits (from source.Kept source.Kept) ((Compute 2 compute.Move sizes.Long (Register 1) (Const 0)) ∷ (Probe 2 4 false) ∷ (Read 3 2 4) ∷ (Compute 4 compute.Add sizes.Long (Register 2) (Register 2)) ∷ (Compute 4 compute.Add sizes.Long (Temp 4) (Temp 4)) ∷ (Compute 3 compute.Add sizes.Long (Temp 3) (Temp 4)) ∷ (Compute 2 compute.Move sizes.Byte (Flag 7) (Const 0)) ∷ (Compute 2 compute.Add sizes.Byte (Temp 2) (Temp 2)) ∷ (Compute 2 compute.Or sizes.Byte (Temp 2) (Flag 6)) ∷ (Compute 2 compute.Add sizes.Byte (Temp 2) (Temp 2)) ∷ (Compute 2 compute.Or sizes.Byte (Temp 2) (Flag 5)) ∷ (Compute 2 compute.Add sizes.Byte (Temp 2) (Temp 2)) ∷ (Compute 2 compute.Or sizes.Byte (Temp 2) (Flag 4)) ∷ (Compute 2 compute.Add sizes.Byte (Temp 2) (Temp 2)) ∷ (Compute 2 compute.Or sizes.Byte (Temp 2) (Flag 0)) ∷ (Compute 2 compute.Add sizes.Byte (Temp 2) (Temp 2)) ∷ (Compute 2 compute.Or sizes.Byte (Temp 2) (Flag 1)) ∷ (Compute 2 compute.Add sizes.Byte (Temp 2) (Temp 2)) ∷ (Compute 2 compute.Or sizes.Byte (Temp 2) (Flag 2)) ∷ (Compute 2 compute.Add sizes.Byte (Temp 2) (Temp 2)) ∷ (Compute 2 compute.Or sizes.Byte (Temp 2) (Flag 3)) ∷ (Compute 2 compute.Or sizes.Long (Temp 2) (Const 62914560)) ∷ (Probe 3 4 true) ∷ (Write 3 4 2) ∷ (Compute 5 compute.Add sizes.Long (Register 1) (Const 4)) ∷ (Commit 1 5) ∷ (Leave Next) ∷ []) ≡ true
unfolding step
fits37 = refl

words37 : program_words (from source.Kept source.Kept) ((Compute 2 compute.Move sizes.Long (Register 1) (Const 0)) ∷ (Probe 2 4 false) ∷ (Read 3 2 4) ∷ (Compute 4 compute.Add sizes.Long (Register 2) (Register 2)) ∷ (Compute 4 compute.Add sizes.Long (Temp 4) (Temp 4)) ∷ (Compute 3 compute.Add sizes.Long (Temp 3) (Temp 4)) ∷ (Compute 2 compute.Move sizes.Byte (Flag 7) (Const 0)) ∷ (Compute 2 compute.Add sizes.Byte (Temp 2) (Temp 2)) ∷ (Compute 2 compute.Or sizes.Byte (Temp 2) (Flag 6)) ∷ (Compute 2 compute.Add sizes.Byte (Temp 2) (Temp 2)) ∷ (Compute 2 compute.Or sizes.Byte (Temp 2) (Flag 5)) ∷ (Compute 2 compute.Add sizes.Byte (Temp 2) (Temp 2)) ∷ (Compute 2 compute.Or sizes.Byte (Temp 2) (Flag 4)) ∷ (Compute 2 compute.Add sizes.Byte (Temp 2) (Temp 2)) ∷ (Compute 2 compute.Or sizes.Byte (Temp 2) (Flag 0)) ∷ (Compute 2 compute.Add sizes.Byte (Temp 2) (Temp 2)) ∷ (Compute 2 compute.Or sizes.Byte (Temp 2) (Flag 1)) ∷ (Compute 2 compute.Add sizes.Byte (Temp 2) (Temp 2)) ∷ (Compute 2 compute.Or sizes.Byte (Temp 2) (Flag 2)) ∷ (Compute 2 compute.Add sizes.Byte (Temp 2) (Temp 2)) ∷ (Compute 2 compute.Or sizes.Byte (Temp 2) (Flag 3)) ∷ (Compute 2 compute.Or sizes.Long (Temp 2) (Const 62914560)) ∷ (Probe 3 4 true) ∷ (Write 3 4 2) ∷ (Compute 5 compute.Add sizes.Long (Register 1) (Const 4)) ∷ (Commit 1 5) ∷ (Leave Next) ∷ []) ≡ 93
words37 = refl

sources37 : sources_of op.MovePsl ≡ from source.Kept source.Kept
unfolding sources_of
sources37 = refl

fits38 : fits (from source.Kept source.Kept) ((Compute 0 compute.Move sizes.Long (Register 0) (Const 0)) ∷ (Probe 0 4 false) ∷ (Read 1 0 4) ∷ (Compute 4 compute.Add sizes.Long (Register 2) (Register 2)) ∷ (Compute 1 compute.Add sizes.Long (Temp 1) (Temp 4)) ∷ (Probe 1 2 false) ∷ (Read 0 1 2) ∷ (Compute 5 compute.Add sizes.Long (Register 0) (Const 4)) ∷ (Commit 0 5) ∷ (Leave (Service 0)) ∷ []) ≡ true
unfolding step
fits38 = refl

words38 : program_words (from source.Kept source.Kept) ((Compute 0 compute.Move sizes.Long (Register 0) (Const 0)) ∷ (Probe 0 4 false) ∷ (Read 1 0 4) ∷ (Compute 4 compute.Add sizes.Long (Register 2) (Register 2)) ∷ (Compute 1 compute.Add sizes.Long (Temp 1) (Temp 4)) ∷ (Probe 1 2 false) ∷ (Read 0 1 2) ∷ (Compute 5 compute.Add sizes.Long (Register 0) (Const 4)) ∷ (Commit 0 5) ∷ (Leave (Service 0)) ∷ []) ≡ 38
words38 = refl

sources38 : sources_of op.ChangeMode ≡ from source.Kept source.Kept
unfolding sources_of
sources38 = refl

fits39 : fits (from source.Kept source.Kept) ((Leave Breakpoint) ∷ []) ≡ true
unfolding step
fits39 = refl

words39 : program_words (from source.Kept source.Kept) ((Leave Breakpoint) ∷ []) ≡ 0
words39 = refl

sources39 : sources_of op.Breakpoint ≡ from source.Kept source.Kept
unfolding sources_of
sources39 = refl

fits40 : fits (from source.Kept source.Kept) ((Compute 0 compute.Or sizes.Byte (Flag 3) (Flag 1)) ∷ (Leave (Choice 0 520 516)) ∷ []) ≡ true
unfolding step
fits40 = refl

words40 : program_words (from source.Kept source.Kept) ((Compute 0 compute.Or sizes.Byte (Flag 3) (Flag 1)) ∷ (Leave (Choice 0 520 516)) ∷ []) ≡ 2
words40 = refl

sources40 : sources_of (op.BranchIf GreaterUnsigned) ≡ from source.Kept source.Kept
unfolding sources_of
sources40 = refl

fits41 : fits (from (source.Compare sizes.Long) (source.Compare sizes.Long)) ((Compute 0 compute.Move sizes.Long (Register 1) (Const 0)) ∷ (Probe 0 4 false) ∷ (Read 1 0 4) ∷ (Compute 4 compute.Add sizes.Long (Register 2) (Register 2)) ∷ (Compute 4 compute.Add sizes.Long (Temp 4) (Temp 4)) ∷ (Compute 1 compute.Add sizes.Long (Temp 1) (Temp 4)) ∷ (Probe 1 4 false) ∷ (Read 0 1 4) ∷ (Compute 1 compute.Move sizes.Long (Register 2) (Const 0)) ∷ (Probe 1 4 false) ∷ (Read 2 1 4) ∷ (Compute 4 compute.Add sizes.Long (Register 1) (Const 4)) ∷ (Compute 4 compute.Add sizes.Long (Temp 4) (Temp 4)) ∷ (Compute 4 compute.Add sizes.Long (Temp 4) (Temp 4)) ∷ (Compute 2 compute.Add sizes.Long (Temp 2) (Temp 4)) ∷ (Probe 2 4 false) ∷ (Read 1 2 4) ∷ (Compute 5 compute.Add sizes.Long (Register 1) (Const 4)) ∷ (Commit 1 5) ∷ (Compute 5 compute.Add sizes.Long (Register 2) (Const 4)) ∷ (Commit 2 5) ∷ (Compute 6 compute.Less sizes.Long (Temp 0) (Temp 1)) ∷ (Compute 7 compute.Equal sizes.Long (Temp 0) (Temp 1)) ∷ (Compute 8 compute.Move sizes.Byte (Const 0) (Const 0)) ∷ (Compute 9 compute.LessUnsigned sizes.Long (Temp 0) (Temp 1)) ∷ (Codes 6 7 8 (Some 9)) ∷ (Leave Next) ∷ []) ≡ true
unfolding step
fits41 = refl

words41 : program_words (from (source.Compare sizes.Long) (source.Compare sizes.Long)) ((Compute 0 compute.Move sizes.Long (Register 1) (Const 0)) ∷ (Probe 0 4 false) ∷ (Read 1 0 4) ∷ (Compute 4 compute.Add sizes.Long (Register 2) (Register 2)) ∷ (Compute 4 compute.Add sizes.Long (Temp 4) (Temp 4)) ∷ (Compute 1 compute.Add sizes.Long (Temp 1) (Temp 4)) ∷ (Probe 1 4 false) ∷ (Read 0 1 4) ∷ (Compute 1 compute.Move sizes.Long (Register 2) (Const 0)) ∷ (Probe 1 4 false) ∷ (Read 2 1 4) ∷ (Compute 4 compute.Add sizes.Long (Register 1) (Const 4)) ∷ (Compute 4 compute.Add sizes.Long (Temp 4) (Temp 4)) ∷ (Compute 4 compute.Add sizes.Long (Temp 4) (Temp 4)) ∷ (Compute 2 compute.Add sizes.Long (Temp 2) (Temp 4)) ∷ (Probe 2 4 false) ∷ (Read 1 2 4) ∷ (Compute 5 compute.Add sizes.Long (Register 1) (Const 4)) ∷ (Commit 1 5) ∷ (Compute 5 compute.Add sizes.Long (Register 2) (Const 4)) ∷ (Commit 2 5) ∷ (Compute 6 compute.Less sizes.Long (Temp 0) (Temp 1)) ∷ (Compute 7 compute.Equal sizes.Long (Temp 0) (Temp 1)) ∷ (Compute 8 compute.Move sizes.Byte (Const 0) (Const 0)) ∷ (Compute 9 compute.LessUnsigned sizes.Long (Temp 0) (Temp 1)) ∷ (Codes 6 7 8 (Some 9)) ∷ (Leave Next) ∷ []) ≡ 84
words41 = refl

sources41 : sources_of (op.Compare Long) ≡ from (source.Compare sizes.Long) (source.Compare sizes.Long)
unfolding sources_of
sources41 = refl

fits42 : fits (from (source.Result sizes.Word) source.Zero) ((Compute 0 compute.Move sizes.Long (Register 1) (Const 0)) ∷ (Probe 0 4 false) ∷ (Read 1 0 4) ∷ (Compute 4 compute.Add sizes.Long (Register 2) (Register 2)) ∷ (Compute 1 compute.Add sizes.Long (Temp 1) (Temp 4)) ∷ (Probe 1 2 false) ∷ (Read 0 1 2) ∷ (Compute 2 compute.Move sizes.Word (Temp 0) (Const 0)) ∷ (Compute 5 compute.Add sizes.Long (Register 1) (Const 4)) ∷ (Commit 1 5) ∷ (Compute 6 compute.ShiftRight sizes.Word (Temp 2) (Const 15)) ∷ (Compute 7 compute.Equal sizes.Word (Temp 2) (Const 0)) ∷ (Compute 8 compute.Move sizes.Byte (Const 0) (Const 0)) ∷ (Compute 9 compute.Move sizes.Byte (Const 0) (Const 0)) ∷ (Codes 6 7 8 (Some 9)) ∷ (Leave Next) ∷ []) ≡ true
unfolding step
fits42 = refl

words42 : program_words (from (source.Result sizes.Word) source.Zero) ((Compute 0 compute.Move sizes.Long (Register 1) (Const 0)) ∷ (Probe 0 4 false) ∷ (Read 1 0 4) ∷ (Compute 4 compute.Add sizes.Long (Register 2) (Register 2)) ∷ (Compute 1 compute.Add sizes.Long (Temp 1) (Temp 4)) ∷ (Probe 1 2 false) ∷ (Read 0 1 2) ∷ (Compute 2 compute.Move sizes.Word (Temp 0) (Const 0)) ∷ (Compute 5 compute.Add sizes.Long (Register 1) (Const 4)) ∷ (Commit 1 5) ∷ (Compute 6 compute.ShiftRight sizes.Word (Temp 2) (Const 15)) ∷ (Compute 7 compute.Equal sizes.Word (Temp 2) (Const 0)) ∷ (Compute 8 compute.Move sizes.Byte (Const 0) (Const 0)) ∷ (Compute 9 compute.Move sizes.Byte (Const 0) (Const 0)) ∷ (Codes 6 7 8 (Some 9)) ∷ (Leave Next) ∷ []) ≡ 39
words42 = refl

sources42 : sources_of (op.Test Word) ≡ from (source.Result sizes.Word) source.Zero
unfolding sources_of
sources42 = refl

fits43 : fits (from (source.Result sizes.Long) source.Kept) ((Compute 0 compute.Move sizes.Long (Register 1) (Const 0)) ∷ (Probe 0 4 false) ∷ (Read 1 0 4) ∷ (Compute 4 compute.Add sizes.Long (Register 2) (Register 2)) ∷ (Compute 4 compute.Add sizes.Long (Temp 4) (Temp 4)) ∷ (Compute 1 compute.Add sizes.Long (Temp 1) (Temp 4)) ∷ (Probe 1 4 false) ∷ (Read 0 1 4) ∷ (Compute 1 compute.Move sizes.Long (Register 2) (Const 0)) ∷ (Probe 1 4 false) ∷ (Read 2 1 4) ∷ (Compute 4 compute.Add sizes.Long (Register 1) (Const 4)) ∷ (Compute 4 compute.Add sizes.Long (Temp 4) (Temp 4)) ∷ (Compute 4 compute.Add sizes.Long (Temp 4) (Temp 4)) ∷ (Compute 2 compute.Add sizes.Long (Temp 2) (Temp 4)) ∷ (Probe 2 4 false) ∷ (Read 1 2 4) ∷ (Compute 2 compute.And sizes.Long (Temp 0) (Temp 1)) ∷ (Compute 0 compute.Move sizes.Long (Temp 2) (Const 0)) ∷ (Compute 5 compute.Add sizes.Long (Register 1) (Const 4)) ∷ (Commit 1 5) ∷ (Compute 5 compute.Add sizes.Long (Register 2) (Const 4)) ∷ (Commit 2 5) ∷ (Compute 6 compute.ShiftRight sizes.Long (Temp 2) (Const 31)) ∷ (Compute 7 compute.Equal sizes.Long (Temp 2) (Const 0)) ∷ (Compute 8 compute.Move sizes.Byte (Const 0) (Const 0)) ∷ (Codes 6 7 8 None) ∷ (Leave Next) ∷ []) ≡ true
unfolding step
fits43 = refl

words43 : program_words (from (source.Result sizes.Long) source.Kept) ((Compute 0 compute.Move sizes.Long (Register 1) (Const 0)) ∷ (Probe 0 4 false) ∷ (Read 1 0 4) ∷ (Compute 4 compute.Add sizes.Long (Register 2) (Register 2)) ∷ (Compute 4 compute.Add sizes.Long (Temp 4) (Temp 4)) ∷ (Compute 1 compute.Add sizes.Long (Temp 1) (Temp 4)) ∷ (Probe 1 4 false) ∷ (Read 0 1 4) ∷ (Compute 1 compute.Move sizes.Long (Register 2) (Const 0)) ∷ (Probe 1 4 false) ∷ (Read 2 1 4) ∷ (Compute 4 compute.Add sizes.Long (Register 1) (Const 4)) ∷ (Compute 4 compute.Add sizes.Long (Temp 4) (Temp 4)) ∷ (Compute 4 compute.Add sizes.Long (Temp 4) (Temp 4)) ∷ (Compute 2 compute.Add sizes.Long (Temp 2) (Temp 4)) ∷ (Probe 2 4 false) ∷ (Read 1 2 4) ∷ (Compute 2 compute.And sizes.Long (Temp 0) (Temp 1)) ∷ (Compute 0 compute.Move sizes.Long (Temp 2) (Const 0)) ∷ (Compute 5 compute.Add sizes.Long (Register 1) (Const 4)) ∷ (Commit 1 5) ∷ (Compute 5 compute.Add sizes.Long (Register 2) (Const 4)) ∷ (Commit 2 5) ∷ (Compute 6 compute.ShiftRight sizes.Long (Temp 2) (Const 31)) ∷ (Compute 7 compute.Equal sizes.Long (Temp 2) (Const 0)) ∷ (Compute 8 compute.Move sizes.Byte (Const 0) (Const 0)) ∷ (Codes 6 7 8 None) ∷ (Leave Next) ∷ []) ≡ 87
words43 = refl

sources43 : sources_of (op.BitTest Long) ≡ from (source.Result sizes.Long) source.Kept
unfolding sources_of
sources43 = refl

fits44 : fits (from (source.Add sizes.Long) (source.Add sizes.Long)) ((Compute 0 compute.Move sizes.Long (Register 1) (Const 0)) ∷ (Probe 0 4 false) ∷ (Read 3 0 4) ∷ (Compute 4 compute.Add sizes.Long (Register 2) (Register 2)) ∷ (Compute 4 compute.Add sizes.Long (Temp 4) (Temp 4)) ∷ (Compute 3 compute.Add sizes.Long (Temp 3) (Temp 4)) ∷ (Probe 3 4 true) ∷ (Read 0 3 4) ∷ (Compute 2 compute.Add sizes.Long (Temp 0) (Const 1)) ∷ (Write 3 4 2) ∷ (Compute 1 compute.Move sizes.Long (Const 1) (Const 0)) ∷ (Compute 5 compute.Add sizes.Long (Register 1) (Const 4)) ∷ (Commit 1 5) ∷ (Compute 6 compute.ShiftRight sizes.Long (Temp 2) (Const 31)) ∷ (Compute 7 compute.Equal sizes.Long (Temp 2) (Const 0)) ∷ (Compute 10 compute.SignExtend sizes.Long (Temp 0) (Const 0)) ∷ (Compute 11 compute.SignExtend sizes.Long (Temp 1) (Const 0)) ∷ (Compute 10 compute.Add sizes.Quad (Temp 10) (Temp 11)) ∷ (Compute 11 compute.SignExtend sizes.Long (Temp 2) (Const 0)) ∷ (Compute 8 compute.Equal sizes.Quad (Temp 10) (Temp 11)) ∷ (Compute 8 compute.Xor sizes.Byte (Temp 8) (Const 1)) ∷ (Compute 9 compute.LessUnsigned sizes.Long (Temp 2) (Temp 0)) ∷ (Codes 6 7 8 (Some 9)) ∷ (Leave Next) ∷ []) ≡ true
unfolding step
fits44 = refl

words44 : program_words (from (source.Add sizes.Long) (source.Add sizes.Long)) ((Compute 0 compute.Move sizes.Long (Register 1) (Const 0)) ∷ (Probe 0 4 false) ∷ (Read 3 0 4) ∷ (Compute 4 compute.Add sizes.Long (Register 2) (Register 2)) ∷ (Compute 4 compute.Add sizes.Long (Temp 4) (Temp 4)) ∷ (Compute 3 compute.Add sizes.Long (Temp 3) (Temp 4)) ∷ (Probe 3 4 true) ∷ (Read 0 3 4) ∷ (Compute 2 compute.Add sizes.Long (Temp 0) (Const 1)) ∷ (Write 3 4 2) ∷ (Compute 1 compute.Move sizes.Long (Const 1) (Const 0)) ∷ (Compute 5 compute.Add sizes.Long (Register 1) (Const 4)) ∷ (Commit 1 5) ∷ (Compute 6 compute.ShiftRight sizes.Long (Temp 2) (Const 31)) ∷ (Compute 7 compute.Equal sizes.Long (Temp 2) (Const 0)) ∷ (Compute 10 compute.SignExtend sizes.Long (Temp 0) (Const 0)) ∷ (Compute 11 compute.SignExtend sizes.Long (Temp 1) (Const 0)) ∷ (Compute 10 compute.Add sizes.Quad (Temp 10) (Temp 11)) ∷ (Compute 11 compute.SignExtend sizes.Long (Temp 2) (Const 0)) ∷ (Compute 8 compute.Equal sizes.Quad (Temp 10) (Temp 11)) ∷ (Compute 8 compute.Xor sizes.Byte (Temp 8) (Const 1)) ∷ (Compute 9 compute.LessUnsigned sizes.Long (Temp 2) (Temp 0)) ∷ (Codes 6 7 8 (Some 9)) ∷ (Leave Next) ∷ []) ≡ 71
words44 = refl

sources44 : sources_of (op.Increment Long) ≡ from (source.Add sizes.Long) (source.Add sizes.Long)
unfolding sources_of
sources44 = refl

fits45 : fits (from source.Kept source.Kept) ((Compute 0 compute.Move sizes.Long (Register 1) (Const 0)) ∷ (Compute 1 compute.Move sizes.Long (Register 2) (Const 0)) ∷ (Probe 0 8 true) ∷ (Write 0 8 1) ∷ (Probe 0 8 true) ∷ (Write 0 8 1) ∷ (Probe 0 8 true) ∷ (Write 0 8 1) ∷ (Probe 0 8 true) ∷ (Write 0 8 1) ∷ (Probe 0 8 true) ∷ (Write 0 8 1) ∷ (Probe 0 8 true) ∷ (Write 0 8 1) ∷ (Probe 0 8 true) ∷ (Write 0 8 1) ∷ (Leave Next) ∷ []) ≡ true
unfolding step
fits45 = refl

words45 : program_words (from source.Kept source.Kept) ((Compute 0 compute.Move sizes.Long (Register 1) (Const 0)) ∷ (Compute 1 compute.Move sizes.Long (Register 2) (Const 0)) ∷ (Probe 0 8 true) ∷ (Write 0 8 1) ∷ (Probe 0 8 true) ∷ (Write 0 8 1) ∷ (Probe 0 8 true) ∷ (Write 0 8 1) ∷ (Probe 0 8 true) ∷ (Write 0 8 1) ∷ (Probe 0 8 true) ∷ (Write 0 8 1) ∷ (Probe 0 8 true) ∷ (Write 0 8 1) ∷ (Probe 0 8 true) ∷ (Write 0 8 1) ∷ (Leave Next) ∷ []) ≡ 184
words45 = refl

sources45 : sources_of op.NoOperation ≡ from source.Kept source.Kept
unfolding sources_of
sources45 = refl

fits46 : fits (from (source.Result sizes.Long) source.Kept) ((Compute 0 compute.Move sizes.Long (Register 1) (Const 0)) ∷ (Compute 2 compute.Move sizes.Long (Temp 0) (Const 0)) ∷ (Compute 3 compute.Move sizes.Byte (Const 0) (Const 0)) ∷ (Compute 8 compute.Move sizes.Byte (Const 0) (Const 0)) ∷ (Codes 8 8 8 None) ∷ (Leave Next) ∷ []) ≡ true
unfolding step
fits46 = refl

words46 : program_words (from (source.Result sizes.Long) source.Kept) ((Compute 0 compute.Move sizes.Long (Register 1) (Const 0)) ∷ (Compute 2 compute.Move sizes.Long (Temp 0) (Const 0)) ∷ (Compute 3 compute.Move sizes.Byte (Const 0) (Const 0)) ∷ (Compute 8 compute.Move sizes.Byte (Const 0) (Const 0)) ∷ (Codes 8 8 8 None) ∷ (Leave Next) ∷ []) ≡ 4
words46 = refl
