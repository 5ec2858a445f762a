-- Codes that are live are ready.
use Rattle.std.proofs.Common.{◌≡◌, refl, sym, ap, Bool, true, false, List, [], ◌∷◌, map}
use Rattle.std.specs.Prelude.{if◌then◌else◌}
use Rattle.vax_form.specs.Row.{class_of_operation, class_of_binary, is_translated}
use Rattle.vax_form.specs.declared.instr.Width.{Width}
use Rattle.vax_form.specs.declared.operation.BinaryOperation.{BinaryOperation}
use Rattle.vax_form.specs.declared.operation.BinaryOperation.TheVariants as binary
use Rattle.vax_form.specs.declared.operation.LongOperation.{LongOperation}
use Rattle.vax_form.specs.declared.operation.LongOperation.TheVariants as long
use Rattle.vax_form.specs.declared.operation.Operation.{Operation}
use Rattle.vax_form.specs.declared.operation.Operation.TheVariants as operations
use Rattle.vax_form.specs.declared.row.Class.TheVariants.{Translated}
use Rattle.vax_form.specs.declared.state.Flags.{Flags}
use Rattle.vax_form.specs.Codes.{Code, holds, all}
use Rattle.vax_form.specs.Codes as code
use Rattle.cc_liveness.specs.declared.uses.CodeUse.{CodeUse}
use Rattle.cc_liveness.specs.Liveness.{passes, live_behind, wanted_by, live_codes}
use Rattle.cc_liveness.specs.Uses.{code_use_of, written_by_binary, written_by_long}
use Rattle.cc_liveness.proofs.Lives.{holds_all, unwritten_passes}
use Rattle.micro_ops.specs.declared.codes.CodeSource.{CodeSource}
use Rattle.micro_ops.specs.declared.codes.CodeSource.TheVariants.{Kept}
use Rattle.micro_ops.specs.Sources.{sources_of, is_written, codes_written_by}
use Rattle.exception_records.specs.Codes.{is_ready, all_ready}
use Rattle.exception_records.specs.declared.rules.CodeRule.{CodeRule}
use Rattle.exception_records.specs.declared.rules.Rules.{Rules}
use Rattle.code_runs.specs.Rules.{rule_behind, rules_behind}
use Rattle.code_runs.specs.Ready.{AreReady, SourcesAreWritten, LiveAreReady, RunsAreReady, AreReadyAlong, AllCanHaveBlocks, can_have_block, long_can_have_block, rules_of_run}

-- ---- what is translated can have a block
pub translated_can : (operation : Operation) → class_of_operation operation ≡ Translated → can_have_block operation ≡ true
unfolding class_of_operation can_have_block
translated_can (operations.Long operation) h = absurd (cc h)
translated_can operation h = ap is_translated h

-- ---- what is written
binary_written : (operation : BinaryOperation) (width : Width) → is_translated (class_of_binary operation) ≡ true
    → codes_written_by (sources_of (operations.TwoOperands operation width)) ≡ written_by_binary operation
unfolding sources_of written_by_binary
binary_written binary.Divide width h = absurd (cc h)
binary_written operation width h = refl

long_written : (operation : LongOperation) → long_can_have_block operation ≡ true → codes_written_by (sources_of (operations.Long operation)) ≡ written_by_long operation
unfolding sources_of written_by_long
long_written long.CallGeneral h = refl
long_written long.CallStack h = refl
long_written long.MoveCharacters h = refl
long_written _ h = absurd (cc h)

pub sources_are_written : SourcesAreWritten
unfolding sources_of code_use_of class_of_operation can_have_block
sources_are_written (operations.TwoOperands operation width) h = binary_written operation width h
sources_are_written (operations.ThreeOperands operation width) h = binary_written operation width h
sources_are_written (operations.ExtractField signed) h = absurd (cc h)
sources_are_written operations.InsertField h = absurd (cc h)
sources_are_written (operations.Case width) h = absurd (cc h)
sources_are_written (operations.Long operation) h = long_written operation h
sources_are_written _ h = refl

-- ---- what is ready
ready_behind : (source : CodeSource) (reads writes live : Bool) (before : CodeRule) → is_written source ≡ writes → live ≡ true
    → (passes reads writes live ≡ true → is_ready before ≡ true) → is_ready (rule_behind source live before) ≡ true
ready_behind Kept reads writes live before w l h = h (unwritten_passes reads writes live (sym w) l)
ready_behind source reads writes live before w l h = rw l refl

pub live_are_ready : LiveAreReady
live_are_ready operation live before can h = by
  where
    written : codes_written_by (sources_of operation) ≡ (code_use_of operation).writes
    written = sources_are_written operation can

    by : AreReady live (rules_behind (sources_of operation) live before)
    by code.negative l = ready_behind (sources_of operation).nzv (code_use_of operation).reads.n (code_use_of operation).writes.n live.n before.n (ap (λ (set : Flags). set.n) written) l (h code.negative)
    by code.zero_code l = ready_behind (sources_of operation).nzv (code_use_of operation).reads.z (code_use_of operation).writes.z live.z before.z (ap (λ (set : Flags). set.z) written) l (h code.zero_code)
    by code.overflow l = ready_behind (sources_of operation).nzv (code_use_of operation).reads.v (code_use_of operation).writes.v live.v before.v (ap (λ (set : Flags). set.v) written) l (h code.overflow)
    by code.carry l = ready_behind (sources_of operation).c (code_use_of operation).reads.c (code_use_of operation).writes.c live.c before.c (ap (λ (set : Flags). set.c) written) l (h code.carry)

-- ---- along a run
-- what is wanted behind an instruction is live behind it
pub wanted_live : (instruction : CodeUse) (wanted : Flags) (which : Code) → holds which wanted ≡ true → holds which (live_behind instruction wanted) ≡ true
wanted_live instruction wanted which h = elim instruction.ends as (λ b. holds which (if b then all else wanted) ≡ true) [ true ↦ holds_all which | false ↦ h ]

ready_along : (run : List Operation) (before : Rules) → AllCanHaveBlocks run → AreReady (wanted_by (map code_use_of run)) before
    → let lives = live_codes (map code_use_of run) in AreReadyAlong lives (rules_of_run run lives before)
ready_along [] before can ready = tt
ready_along (operation ∷ run) before can ready =
    let said = code_use_of operation in
    let live = live_behind said (wanted_by (map code_use_of run)) in
    let here = live_are_ready operation live before can.0 ready in
    (here, ready_along run (rules_behind (sources_of operation) live before) can.1 (λ which h. here which (wanted_live said (wanted_by (map code_use_of run)) which h)))

pub ready_all : (set : Flags) → AreReady set all_ready
ready_all set code.negative h = refl
ready_all set which h = refl

pub runs_are_ready : RunsAreReady
runs_are_ready run can = ready_along run all_ready can (ready_all (wanted_by (map code_use_of run)))
