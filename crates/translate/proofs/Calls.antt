-- The blocks of calls in a translation.
use Rattle.std.proofs.Common.{◌≡◌, ℕ, ◌<◌, ◌^◌, inr, refl, sym, ap, ◌∙◌, subst, arith, Option, Some, None, Bool, true, false, List, [], ◌∷◌, ◌++◌}
use Rattle.std.specs.Prelude.{◌&&◌, ◌||◌, if◌then◌else◌, nat_eq, option_and_then, option_map, unwrap_or}
use Rattle.std.proofs.lemmas.Bool.Decides.{nat_tests}
use Rattle.std.specs.List.{filter_map, list_any}
use Rattle.std.specs.Option.{option_map_or, option_to_list}
use Rattle.std.proofs.lemmas.Bool.{and_parts}
use Rattle.std.proofs.lemmas.List.Folds.{list_any-append}
use Rattle.vax_form.specs.Codes.{all, none}
use Rattle.vax_form.specs.Grammar.{IsSpelled, instruction}
use Rattle.vax_form.specs.GrammarFound.{found}
use Rattle.vax_form.specs.Operation.{operation_at}
use Rattle.vax_form.specs.Row.{class_at, class_of_operation, class_where, is_translated}
use Rattle.vax_form.specs.Targets.{behind_mask, branch_target, call_of, call_target, fixed_address, fixed_targets, has, jump_of, operand_of}
use Rattle.vax_form.specs.Tree.{Tree, instruction_tree}
use Rattle.vax_form.specs.Written.{written_bytes}
use Rattle.vax_form.specs.declared.instr.Instr.{Instr}
use Rattle.vax_form.specs.declared.operation.LongOperation.{LongOperation}
use Rattle.vax_form.specs.declared.operation.LongOperation.TheVariants as long
use Rattle.vax_form.specs.declared.operation.Operation.{Operation}
use Rattle.vax_form.specs.declared.operation.Operation.TheVariants as operations
use Rattle.vax_form.specs.declared.pages.Pages.{Pages}
use Rattle.vax_form.specs.declared.state.Flags.{Flags}
use Rattle.vax_form.specs.declared.row.Class.{Class}
use Rattle.vax_form.specs.declared.row.Class.TheVariants.{Translated}
use Rattle.vax_long.specs.Instructions.{either_script, long_at, long_operation, long_script_where, long_tree_for, script_found, tree_at}
use Rattle.vax_long.specs.LongForms.{has_long_form, is_long_form}
use Rattle.micro_ops.specs.Sources.{from, sources_of}
use Rattle.micro_ops.specs.declared.codes.CodeSource.TheVariants.{Computed, Kept}
use Rattle.micro_ops.specs.declared.codes.CodeSources.{CodeSources}
use Rattle.vax_form.specs.declared.instr.Size.TheVariants.{Long}
use Rattle.alpha_meaning.specs.Pieces.{Plain}
use Rattle.alpha_meaning.specs.State.{at_place}
use Rattle.exception_records.specs.Blocks.{BlockValue}
use Rattle.exception_records.specs.Codes.{all_ready}
use Rattle.exception_records.specs.declared.rules.CodeRule.TheVariants.{Ready}
use Rattle.exception_records.specs.declared.rules.Rules.{Rules}
use Rattle.block_law.specs.Follows.{Follows}
use Rattle.block_law.specs.Rounds.{block_steps, new_round}
use Rattle.block_law.specs.Translations.{placed}
use Rattle.image_meaning.specs.Meant.{image_meaning}
use Rattle.image_meaning.specs.Permits.{bytes_by, bytes_of_operation, bytes_written, permit_of}
use Rattle.image_meaning.specs.declared.target.Target.{Target}
use Rattle.cc_liveness.specs.Uses.{code_use_of, goes_on, long_ends, use_of}
use Rattle.code_runs.specs.Codes.{code_sources}
use Rattle.code_runs.specs.Ready.{can_have_block, long_can_have_block}
use Rattle.code_runs.specs.Rules.{rules_behind}
use Rattle.flag_codegen.specs.Made.{codes_made}
use Rattle.flow_discovery.specs.Mapped.{has_block, has_call_block, has_string_block, is_call, is_string_move}
use Rattle.micro_lower.specs.Lowering.{GoesTo}
use Rattle.program_codegen.specs.Calls.{destination_of}
use Rattle.program_codegen.specs.CallPromises.{CompilesCall, IsCallOperation, IsFixedCall}
use Rattle.translate.specs.Compiled.{Compiles, has_byte_word}
use Rattle.translate.proofs.Above.{opcode_at}
use Rattle.translate.proofs.Permitted.{permitted_long}

-- ---- the operation of a call
pub record IsCall (instr : Instr) (pages : Pages) : Type 0 where
  pub operation : LongOperation
  pub at : long_at instr.opcode ≡ Some operation
  pub opcode : operation_at instr.opcode ≡ Some (operations.Long operation)
  pub is : is_call (Some operation) ≡ true
  pub form : is_long_form instr pages ≡ true

pub long_there : (o : Option Operation) (operation : LongOperation) → long_operation o ≡ Some operation → o ≡ Some (operations.Long operation)
unfolding long_operation
long_there None operation e = absurd (cc e)
long_there (Some (operations.Long other)) operation e = let same : other ≡ operation = cc in ap (λ (l : LongOperation). Some (operations.Long l)) same
long_there (Some other) operation e = absurd (cc e)

pub its_call : (instr : Instr) (pages : Pages) → has_call_block instr pages ≡ true → IsCall instr pages
its_call instr pages has =
    let both = and_parts (is_call (long_at instr.opcode)) (is_long_form instr pages) has in
    by (long_at instr.opcode) refl both.0 both.1
  where
    by : (o : Option LongOperation) → long_at instr.opcode ≡ o → is_call o ≡ true → is_long_form instr pages ≡ true → IsCall instr pages
    by None e call form = absurd (cc call)
    by (Some operation) e call form = record { operation = operation; at = e; opcode = long_there (operation_at instr.opcode) operation e; is = call; form = form }

call_operation : (operation : LongOperation) → is_call (Some operation) ≡ true → IsCallOperation (Some operation)
call_operation long.CallGeneral is = tt
call_operation long.CallStack is = tt
call_operation _ is = absurd (cc is)

pub fixed_call : (instr : Instr) (pages : Pages) → IsSpelled instr → has_call_block instr pages ≡ true → IsFixedCall instr pages
fixed_call instr pages spelled has =
    let call = its_call instr pages has in
    record { spelled = spelled; operation = subst IsCallOperation (sym call.at) (call_operation call.operation call.is); form = call.form }

-- ---- its codes
abbrev call_sources : CodeSources
call_sources = from (Computed Long) (Computed Long)

sources_by : (operation : LongOperation) → is_call (Some operation) ≡ true → sources_of (operations.Long operation) ≡ call_sources
unfolding sources_of
sources_by long.CallGeneral is = refl
sources_by long.CallStack is = refl
sources_by _ is = absurd (cc is)

call_sources_are : (instr : Instr) (pages : Pages) → has_call_block instr pages ≡ true → code_sources instr ≡ call_sources
unfolding code_sources
call_sources_are instr pages has =
    let call = its_call instr pages has in
    ap (λ (o : Option Operation). option_map_or sources_of o (from Kept Kept)) call.opcode ∙ sources_by call.operation call.is

pub ready_either : (live : Bool) → (if live then Ready else Ready) ≡ Ready
ready_either true = refl
ready_either false = refl

-- behind it all are ready
pub ready_behind_call : (instr : Instr) (pages : Pages) (live : Flags) (before : Rules) → has_call_block instr pages ≡ true → rules_behind (code_sources instr) live before ≡ all_ready
ready_behind_call instr pages live before has =
    ap (λ (s : CodeSources). rules_behind s live before) (call_sources_are instr pages has)
    ∙ rw (ready_either live.n, ready_either live.z, ready_either live.v, ready_either live.c) refl

pub made_either : (live : Bool) → (live || true) ≡ true
made_either true = refl
made_either false = refl

-- and all are made
pub made_by_call : (instr : Instr) (pages : Pages) (live : Flags) → has_call_block instr pages ≡ true → codes_made (code_sources instr) live ≡ all
made_by_call instr pages live has =
    ap (λ (s : CodeSources). codes_made s live) (call_sources_are instr pages has)
    ∙ rw (made_either live.n, made_either live.z, made_either live.v, made_either live.c) refl

-- ---- where it goes
fixed_some : (o : Option ℕ) (test : ℕ → Bool) → option_map_or test o false ≡ true → o ≡ Some (unwrap_or o 0)
fixed_some None test e = absurd (cc e)
fixed_some (Some address) test e = refl

target_by : (operation : LongOperation) (instr : Instr) (pages : Pages) → is_call (Some operation) ≡ true → has_long_form operation instr pages ≡ true
    → (call_target instr (operations.Long operation) ≡ Some (behind_mask (destination_of instr))) × (long_ends operation ≡ true)
unfolding call_target has_long_form
target_by long.CallGeneral instr pages is form = (ap (option_map behind_mask) (fixed_some (fixed_address (operand_of instr 1)) _ form), refl)
target_by long.CallStack instr pages is form = (ap (option_map behind_mask) (fixed_some (fixed_address (operand_of instr 1)) _ form), refl)
target_by _ instr pages is form = absurd (cc is)

itself : (n : ℕ) → nat_eq n n ≡ true
itself n = grind (arith, nat_tests)

last_of : (xs : List ℕ) (address : ℕ) → list_any (nat_eq address) (xs ++ (address ∷ [])) ≡ true
last_of xs address =
    list_any-append (nat_eq address) xs (address ∷ []) ∙ (ap (λ (b : Bool). list_any (nat_eq address) xs || (b || false)) (itself address) ∙ or_true (list_any (nat_eq address) xs))
  where
    or_true : (b : Bool) → (b || true) ≡ true
    or_true true = refl
    or_true false = refl

pub call_goes : (instr : Instr) (pages : Pages) → has_call_block instr pages ≡ true → GoesTo instr (behind_mask (destination_of instr))
unfolding fixed_targets call_of code_use_of use_of
call_goes instr pages is =
    let call = its_call instr pages is in
    let form = ap (λ (o : Option LongOperation). option_map_or (λ (l : LongOperation). has_long_form l instr pages) o false) (sym call.at) ∙ call.form in
    let target = target_by call.operation instr pages call.is form in
    let goes : call_of instr ≡ Some (behind_mask (destination_of instr)) = ap (λ (o : Option Operation). option_and_then (call_target instr) o) call.opcode ∙ target.0 in
    let ends : (use_of instr).ends ≡ true = ends_by call.operation call.opcode ∙ target.1 in
    inr (
      ends,
      ap (λ (o : Option ℕ). list_any (nat_eq (behind_mask (destination_of instr))) (filter_map branch_target instr.operands ++ option_to_list (jump_of instr) ++ option_to_list o)) goes
          ∙ last_of (filter_map branch_target instr.operands ++ option_to_list (jump_of instr)) (behind_mask (destination_of instr)),
    )
  where
    ends_by : (operation : LongOperation) → operation_at instr.opcode ≡ Some (operations.Long operation) → (use_of instr).ends ≡ long_ends operation
    ends_by operation e = ap (λ (o : Option Operation). (option_map_or code_use_of o (goes_on none none)).ends) e

-- ---- what its block does
-- no operand is written that is stored as a whole
nothing_written : (operation : LongOperation) → is_call (Some operation) ≡ true → written_bytes (operations.Long operation) ≡ 0
unfolding written_bytes
nothing_written long.CallGeneral is = refl
nothing_written long.CallStack is = refl
nothing_written _ is = absurd (cc is)

pub compiles_in_place : (target : Target) (pages : Pages) (instr : Instr) (before : Rules) (block : BlockValue) → has_call_block instr pages ≡ true
    → CompilesCall instr pages before (has_byte_word target) block → Compiles target pages instr before all_ready block
compiles_in_place target pages instr before block has follows are stands code first thread n state held regs few in_place lt is_state pc form shows lead =
    let call = its_call instr pages has in
    let fits : instr.at < 2 ^ 32 = subst (λ a. a < 2 ^ 32) pc is_state.pc in
    let there : found pages state.pc ≡ instruction instr = ap (found pages) pc ∙ stands in
    let tree : tree_at pages thread state ≡ long_tree_for state instr pages =
    ap (λ f. instruction_tree pages (script_found f thread) state) there
    ∙ (ap (λ (o : Option LongOperation). instruction_tree pages (either_script o instr thread) state) call.at ∙ sym (ap (λ (o : Option LongOperation). instruction_tree pages (long_script_where o instr) state) call.at)) in
    let bytes : bytes_written pages instr.at ≡ 0 = ap bytes_by (opcode_at pages instr are fits stands) ∙ (ap bytes_of_operation call.opcode ∙ nothing_written call.operation call.is) in
    subst (λ (t : Tree). Follows (placed (image_meaning pages) (permit_of target pages) code thread state held first) n Plain block_steps new_round (at_place regs first) t) (sym tree)
    (follows (image_meaning pages) (permit_of target pages) (record { table = are.table; its_pages = refl; kinds = permitted_long target pages instr.at 4 bytes }) code first thread n state held regs few in_place pc is_state form shows lead)

-- ---- which instructions have blocks
translated_is : (class : Class) → is_translated class ≡ true → class ≡ Translated
translated_is Translated is = refl
translated_is _ is = absurd (cc is)

-- one that is not of long form has a program
neither : (o : Option LongOperation) (form : Bool) (instr : Instr) (pages : Pages) → (is_call o && form) ≡ false → is_string_move o ≡ false → option_map_or (λ operation. has_long_form operation instr pages) o false ≡ form → form ≡ true → ⊥
unfolding has_long_form
neither None form instr pages call string is has = cc
neither (Some long.CallGeneral) form instr pages call string is has = cc
neither (Some long.CallStack) form instr pages call string is has = cc
neither (Some long.MoveCharacters) form instr pages call string is has = cc
neither (Some _) form instr pages call string is has = cc

pub short_translated : (instr : Instr) (pages : Pages) → has_block instr pages ≡ true → has_call_block instr pages ≡ false → has_string_block instr ≡ false → class_at instr.opcode ≡ Translated
short_translated instr pages has short moves = by (is_translated (class_at instr.opcode)) refl (is_long_form instr pages) refl has
  where
    by : (b : Bool) → is_translated (class_at instr.opcode) ≡ b → (form : Bool) → is_long_form instr pages ≡ form → (b || form) ≡ true → class_at instr.opcode ≡ Translated
    by true is form f h = translated_is (class_at instr.opcode) is
    by false is true f h = absurd (neither (long_at instr.opcode) (is_long_form instr pages) instr pages short moves refl f)
    by false is false f h = absurd (cc h)

long_can : (operation : LongOperation) (instr : Instr) (pages : Pages) → has_long_form operation instr pages ≡ true → long_can_have_block operation ≡ true
unfolding has_long_form
long_can long.CallGeneral instr pages h = refl
long_can long.CallStack instr pages h = refl
long_can long.MoveCharacters instr pages h = refl
long_can _ instr pages h = absurd (cc h)

or_false : (b : Bool) → (b || false) ≡ true → b ≡ true
or_false true e = refl
or_false false e = absurd (cc e)

pub block_can : (o : Option Operation) (instr : Instr) (pages : Pages) → (is_translated (class_where o) || option_map_or (λ operation. has_long_form operation instr pages) (long_operation o) false) ≡ true → option_map_or can_have_block o false ≡ true
unfolding can_have_block class_of_operation long_operation
block_can None instr pages h = absurd (cc h)
block_can (Some (operations.Long operation)) instr pages h = long_can operation instr pages h
block_can (Some operation) instr pages h = or_false (is_translated (class_of_operation operation)) h
