-- What a block asks of the program, the sources and the rules holds along runs.
use Rattle.std.proofs.Common.{◌≡◌, ◌<◌, ◌||◌, ℕ, Bool, true, false, zero, suc, refl, ap, ◌∙◌, subst, arith, List, length, map, get_or, Option, Some, None}
use Rattle.std.specs.Prelude.{not}
use Rattle.std.specs.Option.{option_map_or}
use Rattle.vax_form.specs.Operation.{operation_at}
use Rattle.vax_form.specs.Size.{size_of}
use Rattle.vax_form.specs.declared.instr.Instr.{Instr}
use Rattle.vax_form.specs.declared.instr.Width.{Width}
use Rattle.vax_form.specs.declared.instr.Width.TheVariants as widths
use Rattle.vax_form.specs.declared.operation.BinaryOperation.{BinaryOperation}
use Rattle.vax_form.specs.declared.operation.BinaryOperation.TheVariants as binary
use Rattle.vax_form.specs.declared.operation.LongOperation.{LongOperation}
use Rattle.vax_form.specs.declared.operation.LongOperation.TheVariants.{CallGeneral}
use Rattle.vax_form.specs.declared.operation.Operation.{Operation}
use Rattle.vax_form.specs.declared.operation.Operation.TheVariants as operations
use Rattle.vax_form.specs.Codes as code
use Rattle.micro_ops.specs.Sources.{from, sources_of, is_written}
use Rattle.micro_ops.specs.Uses.{is_quad}
use Rattle.micro_ops.specs.declared.codes.CodeSource.{CodeSource}
use Rattle.micro_ops.specs.declared.codes.CodeSource.TheVariants.{Kept}
use Rattle.micro_ops.specs.declared.program.Micro.{Micro}
use Rattle.exception_records.specs.declared.rules.CodeRule.{CodeRule}
use Rattle.exception_records.specs.declared.rules.Rules.{Rules}
use Rattle.code_runs.specs.Ready.{AreReady}
use Rattle.code_runs.specs.Rules.{rule_behind, rule_of}
use Rattle.cc_liveness.specs.Uses.{use_of}
use Rattle.code_runs.specs.Codes.{code_sources, codes_at, live_at, rules_before}
use Rattle.code_runs.specs.Runs.{AreInOrder, instr_at, joined_to}
use Rattle.code_runs.proofs.Chains.{rules_first, rules_more}
use Rattle.code_runs.proofs.Joined.{joined}
use Rattle.micro_lower.specs.Lowering.{IsLowered}
use Rattle.program_codegen.specs.Programs.{KeepsTogether, ReadsReady, is_narrow}
use Rattle.std.specs.Prelude.{All}
use Rattle.std.proofs.lemmas.List.{get_or-map, length-map}
use Rattle.vax_form.specs.declared.pages.Pages.{Pages}
use Rattle.code_runs.specs.Promises.{CanHaveBlocks}
use Rattle.code_runs.proofs.Meeting.{rules_always_meet}
use Rattle.translate.specs.Compiled.{AreAlwaysReady, AreReadyFor}
use Rattle.flow_discovery.specs.Mapped.{has_block}
use Rattle.translate.proofs.Calls.{block_can}

-- ---- where N, Z and V are kept, so is C
binary_together : (operation : BinaryOperation) (width : Width)
    → (is_written (sources_of (operations.TwoOperands operation width)).nzv || not (is_written (sources_of (operations.TwoOperands operation width)).c)) ≡ true
unfolding sources_of
binary_together binary.Add width = refl
binary_together operation width = refl

long_together : (operation : LongOperation)
    → (is_written (sources_of (operations.Long operation)).nzv || not (is_written (sources_of (operations.Long operation)).c)) ≡ true
unfolding sources_of
long_together CallGeneral = refl
long_together operation = refl

together : (operation : Operation) → (is_written (sources_of operation).nzv || not (is_written (sources_of operation).c)) ≡ true
unfolding sources_of
together (operations.TwoOperands operation width) = binary_together operation width
together (operations.ThreeOperands operation width) = binary_together operation width
together (operations.Long operation) = long_together operation
together operation = refl

pub keeps_together : (operation : Operation) → KeepsTogether (sources_of operation)
keeps_together operation kept = by (is_written (sources_of operation).nzv) (is_written (sources_of operation).c) kept (together operation)
  where
    by : (a b : Bool) → a ≡ false → (a || not b) ≡ true → b ≡ false
    by true b e h = absurd (cc e)
    by false true e h = absurd (cc h)
    by false false e h = refl

-- ---- no sum or difference is of quadwords
width_narrow : (width : Width) → not (is_quad (size_of width)) ≡ true
width_narrow widths.Byte = refl
width_narrow widths.Word = refl
width_narrow widths.Long = refl

binary_narrow : (operation : BinaryOperation) (width : Width) → is_narrow (rule_of (sources_of (operations.TwoOperands operation width)).nzv) ≡ true
unfolding sources_of
binary_narrow binary.Add width = width_narrow width
binary_narrow binary.Subtract width = width_narrow width
binary_narrow operation width = refl

long_narrow : (operation : LongOperation) → is_narrow (rule_of (sources_of (operations.Long operation)).nzv) ≡ true
unfolding sources_of
long_narrow CallGeneral = refl
long_narrow operation = refl

operation_narrow : (operation : Operation) → is_narrow (rule_of (sources_of operation).nzv) ≡ true
unfolding sources_of
operation_narrow (operations.TwoOperands operation width) = binary_narrow operation width
operation_narrow (operations.ThreeOperands operation width) = binary_narrow operation width
operation_narrow (operations.MoveNegated width) = width_narrow width
operation_narrow (operations.Increment width) = width_narrow width
operation_narrow (operations.Decrement width) = width_narrow width
operation_narrow (operations.Long operation) = long_narrow operation
operation_narrow operation = refl

instr_narrow : (instr : Instr) → is_narrow (rule_of (code_sources instr).nzv) ≡ true
unfolding code_sources
instr_narrow instr = by (operation_at instr.opcode)
  where
    by : (o : Option Operation) → is_narrow (rule_of (option_map_or sources_of o (from Kept Kept)).nzv) ≡ true
    by None = refl
    by (Some operation) = operation_narrow operation

narrow_behind : (source : CodeSource) (live : Bool) (before : CodeRule) → is_narrow (rule_of source) ≡ true → is_narrow before ≡ true → is_narrow (rule_behind source live before) ≡ true
narrow_behind Kept live before h b = b
narrow_behind source true before h b = refl
narrow_behind source false before h b = h

module _ (instrs : List Instr) (order : AreInOrder instrs) where
  narrow_before : (most place : ℕ) → place < most → place < length instrs → is_narrow (rules_before instrs place).v ≡ true
  narrow_before zero place enough lt = absurd (omega arith)
  narrow_before (suc most) place enough lt = by (joined_to instrs place) refl (narrow_before most)
    where
      by : (o : Option ℕ) → joined_to instrs place ≡ o → ((p : ℕ) → p < most → p < length instrs → is_narrow (rules_before instrs p).v ≡ true) → is_narrow (rules_before instrs place).v ≡ true
      by None e earlier = ap (λ (rules : Rules). is_narrow rules.v) (rules_first instrs order place e)
      by (Some p) e earlier =
          let j = joined instrs order p place e in
          let before = j.before in
          ap (λ (rules : Rules). is_narrow rules.v) (rules_more instrs order place p lt e)
          ∙ narrow_behind (code_sources (instr_at instrs p)).nzv (live_at instrs p).v (rules_before instrs p).v (instr_narrow (instr_at instrs p)) (earlier p (omega arith) (omega arith))

  pub narrow_at : (place : ℕ) → place < length instrs → is_narrow (codes_at instrs place).behind.v ≡ true
  narrow_at place lt =
      narrow_behind (code_sources (instr_at instrs place)).nzv (live_at instrs place).v (rules_before instrs place).v (instr_narrow (instr_at instrs place)) (narrow_before (suc place) place (omega arith) lt)

-- ---- the codes that a program reads are ready
pub reads_ready : (instr : Instr) (program : List Micro) (before : Rules) → IsLowered instr program → AreReady (use_of instr).reads before → ReadsReady before program
reads_ready instr program before lowered ready zero lt e = ready code.negative (lowered.keeps.reads 0 lt e)
reads_ready instr program before lowered ready (suc zero) lt e = ready code.zero_code (lowered.keeps.reads 1 lt e)
reads_ready instr program before lowered ready (suc (suc zero)) lt e = ready code.overflow (lowered.keeps.reads 2 lt e)
reads_ready instr program before lowered ready (suc (suc (suc zero))) lt e = ready code.carry (lowered.keeps.reads 3 lt e)
reads_ready instr program before lowered ready (suc (suc (suc (suc flag)))) lt e = absurd (omega arith)

-- ---- an instruction that has a block can have one
pub can_have_blocks : (pages : Pages) (instrs : List Instr) → All (λ instr. has_block instr pages ≡ true) instrs → CanHaveBlocks instrs
can_have_blocks pages instrs built k d lt = block_can (operation_at (get_or instrs k d).opcode) (get_or instrs k d) pages (built k d lt)

-- ---- all that is asked along runs
pub ready_for : (instrs : List Instr) (order : AreInOrder instrs) → CanHaveBlocks instrs → (place : ℕ) → place < length instrs → AreReadyFor (instr_at instrs place) (codes_at instrs place)
ready_for instrs order can place lt =
    let meet = rules_always_meet instrs order can in
    record { reads = meet.reads place lt; behind = refl; ends = meet.ends place lt; narrow = narrow_at instrs order place lt }

pub always_ready : AreAlwaysReady
always_ready = record {
  together = keeps_together;
  narrow = λ operation live before. narrow_behind (sources_of operation).nzv live.v before.v (operation_narrow operation);
  ready = ready_for;
}

-- what holds of each mapped element
pub all_of_map : {A B : Type 0} (P : B → Type 0) (f : A → B) (xs : List A) → All P (map f xs) → All (λ x. P (f x)) xs
all_of_map P f xs all k d lt = subst P (get_or-map f xs k d (f d) lt) (all k (f d) (let count = length-map xs f in omega arith))
