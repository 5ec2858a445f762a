-- Micro programs with one thing wrong: they don't fit.
use Rattle.std.proofs.Common.{◌≡◌, [], ◌∷◌, true, false, Some, None, refl}
use Rattle.vax_form.specs.declared.instr.Size.TheVariants as sizes
use Rattle.micro_ops.specs.declared.program.Arg.TheVariants.{Temp, Register, Flag, Const}
use Rattle.micro_ops.specs.declared.program.Exit.TheVariants.{Next, Computed, Service, Breakpoint}
use Rattle.micro_ops.specs.declared.program.LockedOp.TheVariants.{AddWord, SetBit}
use Rattle.micro_ops.specs.declared.program.Micro.{Micro}
use Rattle.micro_ops.specs.declared.program.Micro.TheVariants.{Compute, Probe, Refuse, Read, Write, Locked, Commit, Codes, SetPsw, Leave}
use Rattle.micro_ops.specs.declared.program.MicroOp.TheVariants as compute
use Rattle.micro_ops.specs.declared.codes.CodeSource.TheVariants as source
use Rattle.micro_ops.specs.Fits.{fits, step}
use Rattle.micro_ops.specs.Sources.{from}
use Rattle.micro_ops.specs.WordCounts.{program_words}

misfit1 : fits (from source.Kept source.Kept) ((Compute 6 compute.Move sizes.Long (Register 1) (Const 0)) ∷ (Commit 1 6) ∷ (Leave Next) ∷ []) ≡ false
unfolding step
misfit1 = refl

words1 : program_words (from source.Kept source.Kept) ((Compute 6 compute.Move sizes.Long (Register 1) (Const 0)) ∷ (Commit 1 6) ∷ (Leave Next) ∷ []) ≡ 2
words1 = refl

misfit2 : fits (from source.Kept source.Kept) ((Compute 0 compute.Move sizes.Long (Register 1) (Const 0)) ∷ (Probe 0 4 false) ∷ (Read 0 0 4) ∷ (Leave Next) ∷ []) ≡ false
unfolding step
misfit2 = refl

words2 : program_words (from source.Kept source.Kept) ((Compute 0 compute.Move sizes.Long (Register 1) (Const 0)) ∷ (Probe 0 4 false) ∷ (Read 0 0 4) ∷ (Leave Next) ∷ []) ≡ 15
words2 = refl

misfit3 : fits (from source.Kept source.Kept) ((Compute 4 compute.Move sizes.Long (Register 1) (Const 0)) ∷ (Probe 4 4 false) ∷ (Read 1 4 4) ∷ (Leave Next) ∷ []) ≡ false
unfolding step
misfit3 = refl

words3 : program_words (from source.Kept source.Kept) ((Compute 4 compute.Move sizes.Long (Register 1) (Const 0)) ∷ (Probe 4 4 false) ∷ (Read 1 4 4) ∷ (Leave Next) ∷ []) ≡ 15
words3 = refl

misfit4 : fits (from source.Kept source.Kept) ((Compute 0 compute.Move sizes.Long (Register 1) (Const 0)) ∷ (Read 1 0 4) ∷ (Leave Next) ∷ []) ≡ false
unfolding step
misfit4 = refl

words4 : program_words (from source.Kept source.Kept) ((Compute 0 compute.Move sizes.Long (Register 1) (Const 0)) ∷ (Read 1 0 4) ∷ (Leave Next) ∷ []) ≡ 13
words4 = refl

misfit5 : fits (from source.Kept source.Kept) ((Compute 0 compute.Move sizes.Long (Register 1) (Const 0)) ∷ (Probe 0 2 false) ∷ (Read 1 0 4) ∷ (Leave Next) ∷ []) ≡ false
unfolding step
misfit5 = refl

words5 : program_words (from source.Kept source.Kept) ((Compute 0 compute.Move sizes.Long (Register 1) (Const 0)) ∷ (Probe 0 2 false) ∷ (Read 1 0 4) ∷ (Leave Next) ∷ []) ≡ 15
words5 = refl

misfit6 : fits (from source.Kept source.Kept) ((Compute 0 compute.Move sizes.Long (Register 1) (Const 0)) ∷ (Compute 1 compute.Move sizes.Long (Register 2) (Const 0)) ∷ (Write 0 4 1) ∷ (Leave Next) ∷ []) ≡ false
unfolding step
misfit6 = refl

words6 : program_words (from source.Kept source.Kept) ((Compute 0 compute.Move sizes.Long (Register 1) (Const 0)) ∷ (Compute 1 compute.Move sizes.Long (Register 2) (Const 0)) ∷ (Write 0 4 1) ∷ (Leave Next) ∷ []) ≡ 26
words6 = refl

misfit7 : fits (from source.Kept source.Kept) ((Compute 0 compute.Move sizes.Long (Register 1) (Const 0)) ∷ (Compute 1 compute.Move sizes.Long (Register 2) (Const 0)) ∷ (Probe 0 4 false) ∷ (Write 0 4 1) ∷ (Leave Next) ∷ []) ≡ false
unfolding step
misfit7 = refl

words7 : program_words (from source.Kept source.Kept) ((Compute 0 compute.Move sizes.Long (Register 1) (Const 0)) ∷ (Compute 1 compute.Move sizes.Long (Register 2) (Const 0)) ∷ (Probe 0 4 false) ∷ (Write 0 4 1) ∷ (Leave Next) ∷ []) ≡ 28
words7 = refl

misfit8 : fits (from source.Kept source.Kept) ((Compute 0 compute.Move sizes.Long (Register 1) (Const 0)) ∷ (Compute 1 compute.Move sizes.Long (Register 2) (Const 0)) ∷ (Probe 0 4 true) ∷ (Compute 0 compute.Move sizes.Long (Register 3) (Const 0)) ∷ (Write 0 4 1) ∷ (Leave Next) ∷ []) ≡ false
unfolding step
misfit8 = refl

words8 : program_words (from source.Kept source.Kept) ((Compute 0 compute.Move sizes.Long (Register 1) (Const 0)) ∷ (Compute 1 compute.Move sizes.Long (Register 2) (Const 0)) ∷ (Probe 0 4 true) ∷ (Compute 0 compute.Move sizes.Long (Register 3) (Const 0)) ∷ (Write 0 4 1) ∷ (Leave Next) ∷ []) ≡ 29
words8 = refl

misfit9 : fits (from source.Kept source.Kept) ((Compute 0 compute.Move sizes.Long (Register 1) (Const 0)) ∷ (Compute 1 compute.Move sizes.Long (Register 2) (Const 0)) ∷ (Probe 0 4 true) ∷ (Probe 1 4 true) ∷ (Write 0 4 1) ∷ (Leave Next) ∷ []) ≡ false
unfolding step
misfit9 = refl

words9 : program_words (from source.Kept source.Kept) ((Compute 0 compute.Move sizes.Long (Register 1) (Const 0)) ∷ (Compute 1 compute.Move sizes.Long (Register 2) (Const 0)) ∷ (Probe 0 4 true) ∷ (Probe 1 4 true) ∷ (Write 0 4 1) ∷ (Leave Next) ∷ []) ≡ 30
words9 = refl

misfit10 : fits (from source.Kept source.Kept) ((Compute 0 compute.Move sizes.Long (Register 1) (Const 0)) ∷ (Compute 1 compute.Move sizes.Long (Register 2) (Const 0)) ∷ (Probe 0 2 false) ∷ (Locked 2 0 AddWord 1) ∷ (Leave Next) ∷ []) ≡ false
unfolding step
misfit10 = refl

words10 : program_words (from source.Kept source.Kept) ((Compute 0 compute.Move sizes.Long (Register 1) (Const 0)) ∷ (Compute 1 compute.Move sizes.Long (Register 2) (Const 0)) ∷ (Probe 0 2 false) ∷ (Locked 2 0 AddWord 1) ∷ (Leave Next) ∷ []) ≡ 16
words10 = refl

misfit11 : fits (from source.Kept source.Kept) ((Compute 0 compute.Move sizes.Long (Register 1) (Const 0)) ∷ (Compute 1 compute.Move sizes.Long (Register 2) (Const 0)) ∷ (Probe 0 2 true) ∷ (Locked 2 0 SetBit 1) ∷ (Leave Next) ∷ []) ≡ false
unfolding step
misfit11 = refl

words11 : program_words (from source.Kept source.Kept) ((Compute 0 compute.Move sizes.Long (Register 1) (Const 0)) ∷ (Compute 1 compute.Move sizes.Long (Register 2) (Const 0)) ∷ (Probe 0 2 true) ∷ (Locked 2 0 SetBit 1) ∷ (Leave Next) ∷ []) ≡ 16
words11 = refl

misfit12 : fits (from source.Kept source.Kept) ((Compute 0 compute.Move sizes.Long (Register 1) (Const 0)) ∷ (Commit 1 0) ∷ (Probe 0 4 false) ∷ (Leave Next) ∷ []) ≡ false
unfolding step
misfit12 = refl

words12 : program_words (from source.Kept source.Kept) ((Compute 0 compute.Move sizes.Long (Register 1) (Const 0)) ∷ (Commit 1 0) ∷ (Probe 0 4 false) ∷ (Leave Next) ∷ []) ≡ 4
words12 = refl

misfit13 : fits (from source.Psw source.Psw) ((Compute 2 compute.Move sizes.Long (Register 1) (Const 0)) ∷ (SetPsw 2) ∷ (Refuse 2) ∷ (Leave Next) ∷ []) ≡ false
unfolding step
misfit13 = refl

words13 : program_words (from source.Psw source.Psw) ((Compute 2 compute.Move sizes.Long (Register 1) (Const 0)) ∷ (SetPsw 2) ∷ (Refuse 2) ∷ (Leave Next) ∷ []) ≡ 4
words13 = refl

misfit14 : fits (from (source.Result sizes.Long) source.Zero) ((Compute 0 compute.Move sizes.Long (Register 1) (Const 0)) ∷ (Compute 2 compute.Move sizes.Long (Temp 0) (Const 0)) ∷ (Probe 0 4 false) ∷ (Codes 0 0 0 (Some 0)) ∷ (Read 1 0 4) ∷ (Leave Next) ∷ []) ≡ false
unfolding step
misfit14 = refl

words14 : program_words (from (source.Result sizes.Long) source.Zero) ((Compute 0 compute.Move sizes.Long (Register 1) (Const 0)) ∷ (Compute 2 compute.Move sizes.Long (Temp 0) (Const 0)) ∷ (Probe 0 4 false) ∷ (Codes 0 0 0 (Some 0)) ∷ (Read 1 0 4) ∷ (Leave Next) ∷ []) ≡ 16
words14 = refl

misfit15 : fits (from source.Kept source.Kept) ((Compute 0 compute.Move sizes.Long (Register 1) (Const 0)) ∷ (Commit 1 0) ∷ (Leave Breakpoint) ∷ []) ≡ false
unfolding step
misfit15 = refl

words15 : program_words (from source.Kept source.Kept) ((Compute 0 compute.Move sizes.Long (Register 1) (Const 0)) ∷ (Commit 1 0) ∷ (Leave Breakpoint) ∷ []) ≡ 2
words15 = refl

misfit16 : fits (from source.Kept source.Kept) ((Compute 5 compute.Move sizes.Long (Const 1) (Const 0)) ∷ (Commit 1 5) ∷ (Compute 5 compute.Move sizes.Long (Register 1) (Const 0)) ∷ (Commit 2 5) ∷ (Leave Next) ∷ []) ≡ false
unfolding step
misfit16 = refl

words16 : program_words (from source.Kept source.Kept) ((Compute 5 compute.Move sizes.Long (Const 1) (Const 0)) ∷ (Commit 1 5) ∷ (Compute 5 compute.Move sizes.Long (Register 1) (Const 0)) ∷ (Commit 2 5) ∷ (Leave Next) ∷ []) ≡ 6
words16 = refl

misfit17 : fits (from source.Kept source.Kept) ((Compute 5 compute.Move sizes.Long (Const 1) (Const 0)) ∷ (Commit 1 5) ∷ (Commit 1 5) ∷ (Leave Next) ∷ []) ≡ false
unfolding step
misfit17 = refl

words17 : program_words (from source.Kept source.Kept) ((Compute 5 compute.Move sizes.Long (Const 1) (Const 0)) ∷ (Commit 1 5) ∷ (Commit 1 5) ∷ (Leave Next) ∷ []) ≡ 5
words17 = refl

misfit18 : fits (from source.Kept source.Kept) ((Compute 4 compute.Move sizes.Long (Const 1) (Const 0)) ∷ (Compute 0 compute.Move sizes.Long (Register 1) (Const 0)) ∷ (Probe 0 4 false) ∷ (Read 1 0 4) ∷ (Commit 1 4) ∷ (Leave Next) ∷ []) ≡ false
unfolding step
misfit18 = refl

words18 : program_words (from source.Kept source.Kept) ((Compute 4 compute.Move sizes.Long (Const 1) (Const 0)) ∷ (Compute 0 compute.Move sizes.Long (Register 1) (Const 0)) ∷ (Probe 0 4 false) ∷ (Read 1 0 4) ∷ (Commit 1 4) ∷ (Leave Next) ∷ []) ≡ 19
words18 = refl

misfit19 : fits (from source.Kept source.Kept) ((Commit 1 5) ∷ (Leave Next) ∷ []) ≡ false
unfolding step
misfit19 = refl

words19 : program_words (from source.Kept source.Kept) ((Commit 1 5) ∷ (Leave Next) ∷ []) ≡ 1
words19 = refl

misfit20 : fits (from source.Kept source.Kept) ((Compute 5 compute.SelectNonzero sizes.Long (Const 1) (Const 2)) ∷ (Leave Next) ∷ []) ≡ false
unfolding step
misfit20 = refl

words20 : program_words (from source.Kept source.Kept) ((Compute 5 compute.SelectNonzero sizes.Long (Const 1) (Const 2)) ∷ (Leave Next) ∷ []) ≡ 7
words20 = refl

misfit21 : fits (from (source.Result sizes.Long) source.Zero) ((Compute 0 compute.Move sizes.Long (Register 1) (Const 0)) ∷ (Compute 2 compute.Move sizes.Long (Temp 0) (Const 0)) ∷ (Codes 0 0 0 (Some 0)) ∷ (Compute 1 compute.Move sizes.Byte (Flag 0) (Const 0)) ∷ (Leave Next) ∷ []) ≡ false
unfolding step
misfit21 = refl

words21 : program_words (from (source.Result sizes.Long) source.Zero) ((Compute 0 compute.Move sizes.Long (Register 1) (Const 0)) ∷ (Compute 2 compute.Move sizes.Long (Temp 0) (Const 0)) ∷ (Codes 0 0 0 (Some 0)) ∷ (Compute 1 compute.Move sizes.Byte (Flag 0) (Const 0)) ∷ (Leave Next) ∷ []) ≡ 3
words21 = refl

misfit22 : fits (from (source.Result sizes.Long) source.Zero) ((Compute 0 compute.Move sizes.Long (Register 1) (Const 0)) ∷ (Compute 2 compute.Move sizes.Long (Temp 0) (Const 0)) ∷ (Codes 0 0 0 (Some 0)) ∷ (Codes 0 0 0 (Some 0)) ∷ (Leave Next) ∷ []) ≡ false
unfolding step
misfit22 = refl

words22 : program_words (from (source.Result sizes.Long) source.Zero) ((Compute 0 compute.Move sizes.Long (Register 1) (Const 0)) ∷ (Compute 2 compute.Move sizes.Long (Temp 0) (Const 0)) ∷ (Codes 0 0 0 (Some 0)) ∷ (Codes 0 0 0 (Some 0)) ∷ (Leave Next) ∷ []) ≡ 2
words22 = refl

misfit23 : fits (from source.Psw source.Psw) ((Compute 2 compute.Move sizes.Long (Register 1) (Const 0)) ∷ (SetPsw 2) ∷ (SetPsw 2) ∷ (Leave Next) ∷ []) ≡ false
unfolding step
misfit23 = refl

words23 : program_words (from source.Psw source.Psw) ((Compute 2 compute.Move sizes.Long (Register 1) (Const 0)) ∷ (SetPsw 2) ∷ (SetPsw 2) ∷ (Leave Next) ∷ []) ≡ 3
words23 = refl

misfit24 : fits (from source.Kept source.Kept) ((Compute 0 compute.Move sizes.Byte (Const 0) (Const 0)) ∷ []) ≡ false
unfolding step
misfit24 = refl

words24 : program_words (from source.Kept source.Kept) ((Compute 0 compute.Move sizes.Byte (Const 0) (Const 0)) ∷ []) ≡ 2
words24 = refl

misfit25 : fits (from source.Kept source.Kept) ((Leave Next) ∷ (Leave Next) ∷ []) ≡ false
unfolding step
misfit25 = refl

words25 : program_words (from source.Kept source.Kept) ((Leave Next) ∷ (Leave Next) ∷ []) ≡ 0
words25 = refl

misfit26 : fits (from source.Kept source.Kept) ((Compute 4 compute.Move sizes.Long (Register 1) (Const 0)) ∷ (Leave (Computed 4)) ∷ []) ≡ false
unfolding step
misfit26 = refl

words26 : program_words (from source.Kept source.Kept) ((Compute 4 compute.Move sizes.Long (Register 1) (Const 0)) ∷ (Leave (Computed 4)) ∷ []) ≡ 1
words26 = refl

misfit27 : fits (from source.Kept source.Kept) ((Compute 0 compute.Move sizes.Quad (Register 1) (Const 0)) ∷ (Probe 0 4 false) ∷ (Read 1 0 4) ∷ (Leave Next) ∷ []) ≡ false
unfolding step
misfit27 = refl

words27 : program_words (from source.Kept source.Kept) ((Compute 0 compute.Move sizes.Quad (Register 1) (Const 0)) ∷ (Probe 0 4 false) ∷ (Read 1 0 4) ∷ (Leave Next) ∷ []) ≡ 16
words27 = refl

misfit28 : fits (from source.Kept source.Kept) ((Compute 0 compute.SignExtend sizes.Long (Register 1) (Const 0)) ∷ (Probe 0 4 false) ∷ (Read 1 0 4) ∷ (Leave Next) ∷ []) ≡ false
unfolding step
misfit28 = refl

words28 : program_words (from source.Kept source.Kept) ((Compute 0 compute.SignExtend sizes.Long (Register 1) (Const 0)) ∷ (Probe 0 4 false) ∷ (Read 1 0 4) ∷ (Leave Next) ∷ []) ≡ 15
words28 = refl

misfit29 : fits (from source.Kept source.Kept) ((Compute 0 compute.Move sizes.Long (Register 1) (Const 0)) ∷ (Probe 0 8 false) ∷ (Read 1 0 8) ∷ (Probe 1 4 false) ∷ (Leave Next) ∷ []) ≡ false
unfolding step
misfit29 = refl

words29 : program_words (from source.Kept source.Kept) ((Compute 0 compute.Move sizes.Long (Register 1) (Const 0)) ∷ (Probe 0 8 false) ∷ (Read 1 0 8) ∷ (Probe 1 4 false) ∷ (Leave Next) ∷ []) ≡ 17
words29 = refl

misfit30 : fits (from (source.Result sizes.Long) source.Zero) ((Compute 0 compute.Move sizes.Long (Register 1) (Const 0)) ∷ (Compute 2 compute.Move sizes.Long (Temp 0) (Const 0)) ∷ (Compute 6 compute.Move sizes.Long (Register 1) (Const 0)) ∷ (Compute 5 compute.Move sizes.Long (Temp 6) (Const 0)) ∷ (Commit 1 5) ∷ (Codes 6 6 6 (Some 6)) ∷ (Leave Next) ∷ []) ≡ false
unfolding step
misfit30 = refl

words30 : program_words (from (source.Result sizes.Long) source.Zero) ((Compute 0 compute.Move sizes.Long (Register 1) (Const 0)) ∷ (Compute 2 compute.Move sizes.Long (Temp 0) (Const 0)) ∷ (Compute 6 compute.Move sizes.Long (Register 1) (Const 0)) ∷ (Compute 5 compute.Move sizes.Long (Temp 6) (Const 0)) ∷ (Commit 1 5) ∷ (Codes 6 6 6 (Some 6)) ∷ (Leave Next) ∷ []) ≡ 5
words30 = refl

misfit31 : fits (from (source.Result sizes.Long) source.Zero) ((Compute 5 compute.Move sizes.Long (Const 0) (Const 0)) ∷ (Codes 5 5 5 (Some 5)) ∷ (Leave Next) ∷ []) ≡ false
unfolding step
misfit31 = refl

words31 : program_words (from (source.Result sizes.Long) source.Zero) ((Compute 5 compute.Move sizes.Long (Const 0) (Const 0)) ∷ (Codes 5 5 5 (Some 5)) ∷ (Leave Next) ∷ []) ≡ 3
words31 = refl

misfit32 : fits (from (source.Add sizes.Long) (source.Add sizes.Long)) ((Compute 2 compute.Move sizes.Long (Const 0) (Const 0)) ∷ (Codes 2 2 2 (Some 2)) ∷ (Leave Next) ∷ []) ≡ false
unfolding step
misfit32 = refl

words32 : program_words (from (source.Add sizes.Long) (source.Add sizes.Long)) ((Compute 2 compute.Move sizes.Long (Const 0) (Const 0)) ∷ (Codes 2 2 2 (Some 2)) ∷ (Leave Next) ∷ []) ≡ 3
words32 = refl

misfit33 : fits (from (source.Computed sizes.Long) source.Zero) ((Compute 2 compute.Move sizes.Long (Const 0) (Const 0)) ∷ (Codes 2 2 2 (Some 2)) ∷ (Leave Next) ∷ []) ≡ false
unfolding step
misfit33 = refl

words33 : program_words (from (source.Computed sizes.Long) source.Zero) ((Compute 2 compute.Move sizes.Long (Const 0) (Const 0)) ∷ (Codes 2 2 2 (Some 2)) ∷ (Leave Next) ∷ []) ≡ 3
words33 = refl

misfit34 : fits (from (source.Computed sizes.Long) (source.Computed sizes.Long)) ((Compute 2 compute.Move sizes.Long (Register 1) (Const 0)) ∷ (Compute 3 compute.Move sizes.Long (Const 0) (Const 0)) ∷ (Compute 4 compute.Move sizes.Long (Const 0) (Const 0)) ∷ (Probe 2 4 false) ∷ (Codes 2 2 3 (Some 3)) ∷ (Leave Next) ∷ []) ≡ false
unfolding step
misfit34 = refl

words34 : program_words (from (source.Computed sizes.Long) (source.Computed sizes.Long)) ((Compute 2 compute.Move sizes.Long (Register 1) (Const 0)) ∷ (Compute 3 compute.Move sizes.Long (Const 0) (Const 0)) ∷ (Compute 4 compute.Move sizes.Long (Const 0) (Const 0)) ∷ (Probe 2 4 false) ∷ (Codes 2 2 3 (Some 3)) ∷ (Leave Next) ∷ []) ≡ 9
words34 = refl

misfit35 : fits (from source.Kept source.Kept) ((Compute 0 compute.Move sizes.Long (Register 1) (Const 0)) ∷ (Codes 0 0 0 None) ∷ (Leave Next) ∷ []) ≡ false
unfolding step
misfit35 = refl

words35 : program_words (from source.Kept source.Kept) ((Compute 0 compute.Move sizes.Long (Register 1) (Const 0)) ∷ (Codes 0 0 0 None) ∷ (Leave Next) ∷ []) ≡ 1
words35 = refl

misfit36 : fits (from (source.Result sizes.Long) source.Zero) ((Compute 0 compute.Move sizes.Long (Register 1) (Const 0)) ∷ (Compute 2 compute.Move sizes.Long (Temp 0) (Const 0)) ∷ (Leave Next) ∷ []) ≡ false
unfolding step
misfit36 = refl

words36 : program_words (from (source.Result sizes.Long) source.Zero) ((Compute 0 compute.Move sizes.Long (Register 1) (Const 0)) ∷ (Compute 2 compute.Move sizes.Long (Temp 0) (Const 0)) ∷ (Leave Next) ∷ []) ≡ 2
words36 = refl

misfit37 : fits (from source.Kept source.Kept) ((Compute 2 compute.Move sizes.Long (Register 1) (Const 0)) ∷ (SetPsw 2) ∷ (Leave Next) ∷ []) ≡ false
unfolding step
misfit37 = refl

words37 : program_words (from source.Kept source.Kept) ((Compute 2 compute.Move sizes.Long (Register 1) (Const 0)) ∷ (SetPsw 2) ∷ (Leave Next) ∷ []) ≡ 2
words37 = refl

misfit38 : fits (from (source.Result sizes.Long) source.Zero) ((Compute 0 compute.Move sizes.Long (Register 1) (Const 0)) ∷ (Compute 2 compute.Move sizes.Long (Temp 0) (Const 0)) ∷ (Codes 0 0 0 (Some 0)) ∷ (Leave (Service 0)) ∷ []) ≡ false
unfolding step
misfit38 = refl

words38 : program_words (from (source.Result sizes.Long) source.Zero) ((Compute 0 compute.Move sizes.Long (Register 1) (Const 0)) ∷ (Compute 2 compute.Move sizes.Long (Temp 0) (Const 0)) ∷ (Codes 0 0 0 (Some 0)) ∷ (Leave (Service 0)) ∷ []) ≡ 2
words38 = refl

misfit39 : fits (from source.Kept source.Kept) ((Compute 64 compute.Move sizes.Long (Register 1) (Const 0)) ∷ (Leave Next) ∷ []) ≡ false
unfolding step
misfit39 = refl

words39 : program_words (from source.Kept source.Kept) ((Compute 64 compute.Move sizes.Long (Register 1) (Const 0)) ∷ (Leave Next) ∷ []) ≡ 0
words39 = refl

misfit40 : fits (from source.Kept source.Kept) ((Compute 0 compute.Move sizes.Long (Register 15) (Const 0)) ∷ (Leave Next) ∷ []) ≡ false
unfolding step
misfit40 = refl

words40 : program_words (from source.Kept source.Kept) ((Compute 0 compute.Move sizes.Long (Register 15) (Const 0)) ∷ (Leave Next) ∷ []) ≡ 1
words40 = refl

misfit41 : fits (from source.Kept source.Kept) ((Compute 0 compute.Move sizes.Long (Flag 8) (Const 0)) ∷ (Leave Next) ∷ []) ≡ false
unfolding step
misfit41 = refl

misfit42 : fits (from source.Kept source.Kept) ((Compute 0 compute.Move sizes.Long (Register 1) (Const 0)) ∷ (Probe 0 3 false) ∷ (Leave Next) ∷ []) ≡ false
unfolding step
misfit42 = refl

words42 : program_words (from source.Kept source.Kept) ((Compute 0 compute.Move sizes.Long (Register 1) (Const 0)) ∷ (Probe 0 3 false) ∷ (Leave Next) ∷ []) ≡ 3
words42 = refl

misfit43 : fits (from source.Kept source.Kept) ((Compute 0 compute.Move sizes.Long (Register 1) (Const 0)) ∷ (Compute 1 compute.Move sizes.Long (Register 2) (Const 0)) ∷ (Probe 0 8 true) ∷ (Write 0 8 1) ∷ (Probe 0 8 true) ∷ (Write 0 8 1) ∷ (Probe 0 8 true) ∷ (Write 0 8 1) ∷ (Probe 0 8 true) ∷ (Write 0 8 1) ∷ (Probe 0 8 true) ∷ (Write 0 8 1) ∷ (Probe 0 8 true) ∷ (Write 0 8 1) ∷ (Probe 0 8 true) ∷ (Write 0 8 1) ∷ (Probe 0 8 true) ∷ (Write 0 8 1) ∷ (Leave Next) ∷ []) ≡ false
unfolding step
misfit43 = refl

words43 : program_words (from source.Kept source.Kept) ((Compute 0 compute.Move sizes.Long (Register 1) (Const 0)) ∷ (Compute 1 compute.Move sizes.Long (Register 2) (Const 0)) ∷ (Probe 0 8 true) ∷ (Write 0 8 1) ∷ (Probe 0 8 true) ∷ (Write 0 8 1) ∷ (Probe 0 8 true) ∷ (Write 0 8 1) ∷ (Probe 0 8 true) ∷ (Write 0 8 1) ∷ (Probe 0 8 true) ∷ (Write 0 8 1) ∷ (Probe 0 8 true) ∷ (Write 0 8 1) ∷ (Probe 0 8 true) ∷ (Write 0 8 1) ∷ (Probe 0 8 true) ∷ (Write 0 8 1) ∷ (Leave Next) ∷ []) ≡ 210
words43 = refl

misfit44 : fits (from (source.Computed sizes.Long) source.Kept) ((Compute 0 compute.Move sizes.Long (Register 1) (Const 0)) ∷ (Compute 2 compute.Move sizes.Long (Temp 0) (Const 0)) ∷ (Compute 3 compute.Move sizes.Byte (Const 0) (Const 0)) ∷ (Compute 8 compute.Move sizes.Byte (Const 0) (Const 0)) ∷ (Codes 8 8 8 None) ∷ (Leave Next) ∷ []) ≡ false
unfolding step
misfit44 = refl

words44 : program_words (from (source.Computed sizes.Long) source.Kept) ((Compute 0 compute.Move sizes.Long (Register 1) (Const 0)) ∷ (Compute 2 compute.Move sizes.Long (Temp 0) (Const 0)) ∷ (Compute 3 compute.Move sizes.Byte (Const 0) (Const 0)) ∷ (Compute 8 compute.Move sizes.Byte (Const 0) (Const 0)) ∷ (Codes 8 8 8 None) ∷ (Leave Next) ∷ []) ≡ 6
words44 = refl

misfit45 : fits (from source.Kept source.Kept) ([]) ≡ false
unfolding step
misfit45 = refl

words45 : program_words (from source.Kept source.Kept) ([]) ≡ 0
words45 = refl
