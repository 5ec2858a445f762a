-- What the words of an instruction promise of its condition codes.
use Rattle.std.proofs.Common.{Option, Some, None, refl}
use Rattle.std.specs.Option.{option_map_or}
use Rattle.vax_form.specs.Operation.{operation_at}
use Rattle.vax_form.specs.declared.instr.Instr.{Instr}
use Rattle.vax_form.specs.declared.instr.Width.{Width}
use Rattle.vax_form.specs.declared.operation.BinaryOperation.{BinaryOperation}
use Rattle.vax_form.specs.declared.operation.BinaryOperation.TheVariants as binary
use Rattle.vax_form.specs.declared.operation.LongOperation.{LongOperation}
use Rattle.vax_form.specs.declared.operation.LongOperation.TheVariants.{CallGeneral}
use Rattle.vax_form.specs.declared.operation.Operation.{Operation}
use Rattle.vax_form.specs.declared.operation.Operation.TheVariants as operations
use Rattle.vax_form.specs.declared.state.Flags.{Flags}
use Rattle.micro_ops.specs.Sources.{from, sources_of}
use Rattle.micro_ops.specs.declared.codes.CodeSource.TheVariants.{Kept}
use Rattle.exception_records.specs.declared.rules.Rules.{Rules}
use Rattle.block_law.specs.CodeWords.{LeavesCodes}
use Rattle.code_runs.specs.Codes.{code_sources}
use Rattle.code_runs.specs.Rules.{rules_behind}
use Rattle.flag_codegen.specs.Words.{code_words}
use Rattle.flag_codegen.proofs.Leaving.{pairs, shown_left}
use Rattle.flag_codegen.proofs.Whole.{words_fit, words_only}

binary_pair : (operation : BinaryOperation) (width : Width) → let sources = sources_of (operations.TwoOperands operation width) in pairs sources.c sources.nzv
unfolding sources_of
binary_pair binary.Add width = refl
binary_pair _ width = tt

long_pair : (operation : LongOperation) → let sources = sources_of (operations.Long operation) in pairs sources.c sources.nzv
unfolding sources_of
long_pair CallGeneral = tt
long_pair _ = tt

sums_pair : (operation : Operation) → let sources = sources_of operation in pairs sources.c sources.nzv
unfolding sources_of
sums_pair (operations.TwoOperands operation width) = binary_pair operation width
sums_pair (operations.ThreeOperands operation width) = binary_pair operation width
sums_pair (operations.Increment width) = refl
sums_pair operations.AddAlignedWord = refl
sums_pair (operations.Long operation) = long_pair operation
sums_pair _ = tt

instr_pairs : (instr : Instr) → let sources = code_sources instr in pairs sources.c sources.nzv
unfolding code_sources
instr_pairs instr = by (operation_at instr.opcode)
  where
    by : (o : Option Operation) → let sources = option_map_or sources_of o (from Kept Kept) in pairs sources.c sources.nzv
    by None = tt
    by (Some operation) = sums_pair operation

pub words_leave : (instr : Instr) (live : Flags) (before : Rules)
    → let sources = code_sources instr in LeavesCodes sources before (rules_behind sources live before) (code_words sources live)
words_leave instr live before =
    let sources = code_sources instr in
    record {
      few = words_fit sources live;
      only = words_only sources live;
      leaves = λ regs held found departure show come. shown_left sources live before regs held found departure show come (instr_pairs instr);
    }
