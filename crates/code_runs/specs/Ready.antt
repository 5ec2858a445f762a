-- That condition codes which are live are in their registers.
-- Source: own.
use Rattle.std.specs.Prelude.{◌≡◌, Bool, true, false, List, [], ◌∷◌, map}
use Rattle.vax_form.specs.Row.{class_of_operation, is_translated}
use Rattle.vax_form.specs.declared.operation.LongOperation.{LongOperation}
use Rattle.vax_form.specs.declared.operation.LongOperation.TheVariants.{CallGeneral, CallStack, MoveCharacters}
use Rattle.vax_form.specs.declared.operation.Operation.{Operation}
use Rattle.vax_form.specs.declared.operation.Operation.TheVariants.{Long}
use Rattle.vax_form.specs.declared.state.Flags.{Flags}
use Rattle.vax_form.specs.Codes.{Code, holds}
use Rattle.vax_form.specs.Codes as code
use Rattle.cc_liveness.specs.Liveness.{wanted_before, live_codes}
use Rattle.cc_liveness.specs.Uses.{code_use_of}
use Rattle.micro_ops.specs.Sources.{codes_written_by, sources_of}
use Rattle.exception_records.specs.Codes.{is_ready, all_ready}
use Rattle.exception_records.specs.declared.rules.CodeRule.{CodeRule}
use Rattle.exception_records.specs.declared.rules.Rules.{Rules}
use Rattle.code_runs.specs.Rules.{rules_behind}

abbrev pub long_can_have_block : LongOperation → Bool
long_can_have_block CallGeneral = true
long_can_have_block CallStack = true
long_can_have_block MoveCharacters = true
long_can_have_block _ = false

-- there can be a block for it: it is translated, or CALLG, CALLS or MOVC3
unfoldable pub can_have_block : Operation → Bool
can_have_block (Long operation) = long_can_have_block operation
can_have_block operation = is_translated (class_of_operation operation)

abbrev pub rule_for : Code → Rules → CodeRule
rule_for code.negative rules = rules.n
rule_for code.zero_code rules = rules.z
rule_for code.overflow rules = rules.v
rule_for code.carry rules = rules.c

-- each code of the set is in its register
abbrev pub AreReady : (set : Flags) → Rules → Type 0
AreReady set rules = (code : Code) → holds code set ≡ true → is_ready (rule_for code rules) ≡ true

-- what an operation that can have a block writes are the codes that have a source
abbrev pub SourcesAreWritten : Type 0
SourcesAreWritten = (operation : Operation) → can_have_block operation ≡ true
    → codes_written_by (sources_of operation) ≡ (code_use_of operation).writes

-- The codes that are live behind an instruction that can have a block are ready there, if those that are wanted before it
-- are ready before.
abbrev pub LiveAreReady : Type 0
LiveAreReady = (operation : Operation) (live : Flags) (before : Rules) → can_have_block operation ≡ true
    → AreReady (wanted_before (code_use_of operation) live) before
    → AreReady live (rules_behind (sources_of operation) live before)

-- the rules behind each instruction of a run, where these codes are live behind each
abbrev pub rules_of_run : (run : List Operation) → (live : List Flags) → (before : Rules) → List Rules
rules_of_run [] lives before = []
rules_of_run (first ∷ run) [] before = []
rules_of_run (first ∷ run) (live ∷ lives) before =
    let behind = rules_behind (sources_of first) live before in behind ∷ rules_of_run run lives behind

abbrev pub AreReadyAlong : (lives : List Flags) → List Rules → Type 0
AreReadyAlong (live ∷ lives) (rules ∷ rest) = AreReady live rules × AreReadyAlong lives rest
AreReadyAlong [] [] = Unit {0}
AreReadyAlong _ _ = ⊥

abbrev pub AllCanHaveBlocks : List Operation → Type 0
AllCanHaveBlocks [] = Unit {0}
AllCanHaveBlocks (first ∷ run) = (can_have_block first ≡ true) × AllCanHaveBlocks run

-- Along a run of instructions that can have blocks, before which all codes are ready, the codes that are live behind each
-- are ready there; all are behind the last.
abbrev pub RunsAreReady : Type 0
RunsAreReady = (run : List Operation) → AllCanHaveBlocks run
    → let lives = live_codes (map code_use_of run) in AreReadyAlong lives (rules_of_run run lives all_ready)
