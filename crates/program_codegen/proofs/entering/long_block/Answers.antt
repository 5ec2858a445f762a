-- What the block of a call promises.
use Rattle.std.proofs.Common.{◌≡◌, ℕ, ◌<◌, ◌≤◌, ◌^◌, ◌∷◌, [], length, map, false, sym, subst}
use Rattle.std.specs.Prelude.{All, IfOk}
use Rattle.vax_form.specs.Codes.{all}
use Rattle.vax_form.specs.Targets.{behind_mask}
use Rattle.exception_records.specs.Blocks.{BlockValue}
use Rattle.exception_records.specs.Codes.{all_ready}
use Rattle.block_law.specs.Blocks.{IsBlockOf}
use Rattle.block_law.specs.Tidy.{codes_written}
use Rattle.program_codegen.specs.Calls.{call_at, call_block, call_lines, destination_of, front_program, list_program, steps_of}
use Rattle.program_codegen.specs.CallPromises.{CompilesCall}
use Rattle.program_codegen.specs.Programs.{AllFitWords, AllRanged}
use Rattle.program_codegen.specs.Promises.{BeginsBy, HasRules}
use Rattle.program_codegen.specs.Words.{block_of, point_of, with_first}
use Rattle.program_codegen.specs.declared.calls.Call.{Call}
use Rattle.program_codegen.specs.declared.points.Site.{Site}
use Rattle.program_codegen.proofs.CallFacts.{facts_of}
use Rattle.program_codegen.proofs.CallPromised.{begins_so, compiles_call, front_fits, goes_there, is_block, list_fits, rules_are, short, writes_all}
use Rattle.program_codegen.proofs.Promised.{if_ok_both}
use Rattle.program_codegen.proofs.entering.long_block.Goals as goal

pub call_block-requires-clause-front : goal.call_block-requires-clause-front
call_block-requires-clause-front c =
    subst (λ (call : Call). AllFitWords c.call_site.result.sources (front_program call)) (sym c.call_at-call.ensures.value)
    (front_fits c.args.instr.now c.args.pages.now (facts_of c.args.instr.now c.args.pages.now c.piece_laws.ensures.named c.call_at-call.ensures.long c.requires.fixed) c.call_site.result.sources)

pub call_block-requires-clause-list : goal.call_block-requires-clause-list
call_block-requires-clause-list c =
    subst (λ (call : Call). AllFitWords c.call_site.result.sources (list_program call.stack (steps_of call))) (sym c.call_at-call.ensures.value)
    (list_fits c.args.instr.now c.args.pages.now (facts_of c.args.instr.now c.args.pages.now c.piece_laws.ensures.named c.call_at-call.ensures.long c.requires.fixed) c.call_site.result.sources)

pub call_block-requires-clause-few : goal.call_block-requires-clause-few
call_block-requires-clause-few c =
    subst (λ (call : Call). AllRanged (front_program call) → AllRanged (list_program call.stack (steps_of call)) → c.call_site.result.after < 2 ^ 32 → length (call_lines c.call_site.result call) ≤ 256) (sym c.call_at-call.ensures.value)
    (subst (λ (site : Site). AllRanged (front_program (call_at c.args.instr.now c.args.pages.now)) → AllRanged (list_program (call_at c.args.instr.now c.args.pages.now).stack (steps_of (call_at c.args.instr.now c.args.pages.now))) → site.after < 2 ^ 32 → length (call_lines site (call_at c.args.instr.now c.args.pages.now)) ≤ 256) (sym c.call_site.ensures)
    (λ front list after. short c.args.instr.now c.args.pages.now (facts_of c.args.instr.now c.args.pages.now c.piece_laws.ensures.named c.call_at-call.ensures.long c.requires.fixed) c.args.before c.args.byte_word after front list))

pub returns-clause-words : goal.returns-clause-words
returns-clause-words c =
    subst (λ (site : Site). IfOk c.call_block.result (λ (b : BlockValue). b ≡ block_of (with_first (point_of site) (call_lines site (call_at c.args.instr.now c.args.pages.now))))) c.call_site.ensures
    (subst (λ (call : Call). IfOk c.call_block.result (λ (b : BlockValue). b ≡ block_of (with_first (point_of c.call_site.result) (call_lines c.call_site.result call)))) c.call_at-call.ensures.value c.call_block.ensures.block)

pub returns-clause-shape : goal.returns-clause-shape
returns-clause-shape c =
    let call = call_at c.args.instr.now c.args.pages.now in
    if_ok_both c.call_block.result (λ (b : BlockValue). b ≡ call_block c.args.instr.now c.args.pages.now c.args.before c.args.byte_word)
    (λ b. AllRanged (front_program call) × AllRanged (list_program call.stack (steps_of call))) (IsBlockOf false c.args.instr.now.at)
    (λ b e ranged. subst (IsBlockOf false c.args.instr.now.at) (sym e)
    (is_block c.args.instr.now c.args.pages.now (facts_of c.args.instr.now c.args.pages.now c.piece_laws.ensures.named c.call_at-call.ensures.long c.requires.fixed) c.args.before c.args.byte_word (subst (λ (site : Site). site.after < 2 ^ 32) c.call_site.ensures c.call_block.ensures.after) ranged.0 ranged.1))
    (returns-clause-words c)
    (subst (λ (call : Call). IfOk c.call_block.result (λ b. AllRanged (front_program call) × AllRanged (list_program call.stack (steps_of call)))) c.call_at-call.ensures.value c.call_block.ensures.ranged)

pub returns-clause-exits : goal.returns-clause-exits
returns-clause-exits c =
    let call = call_at c.args.instr.now c.args.pages.now in
    if_ok_both c.call_block.result (λ (b : BlockValue). b ≡ call_block c.args.instr.now c.args.pages.now c.args.before c.args.byte_word)
    (λ b. AllRanged (front_program call) × AllRanged (list_program call.stack (steps_of call))) (λ (b : BlockValue). map (λ (exit : ℕ × ℕ). exit.1) b.exits ≡ behind_mask (destination_of c.args.instr.now) ∷ [])
    (λ b e ranged. subst (λ (b : BlockValue). map (λ (exit : ℕ × ℕ). exit.1) b.exits ≡ behind_mask (destination_of c.args.instr.now) ∷ []) (sym e)
    (goes_there c.args.instr.now c.args.pages.now (facts_of c.args.instr.now c.args.pages.now c.piece_laws.ensures.named c.call_at-call.ensures.long c.requires.fixed) c.args.before c.args.byte_word (subst (λ (site : Site). site.after < 2 ^ 32) c.call_site.ensures c.call_block.ensures.after) ranged.0 ranged.1))
    (returns-clause-words c)
    (subst (λ (call : Call). IfOk c.call_block.result (λ b. AllRanged (front_program call) × AllRanged (list_program call.stack (steps_of call)))) c.call_at-call.ensures.value c.call_block.ensures.ranged)

pub returns-clause-first : goal.returns-clause-first
returns-clause-first c =
    let call = call_at c.args.instr.now c.args.pages.now in
    if_ok_both c.call_block.result (λ (b : BlockValue). b ≡ call_block c.args.instr.now c.args.pages.now c.args.before c.args.byte_word)
    (λ b. AllRanged (front_program call) × AllRanged (list_program call.stack (steps_of call))) (BeginsBy c.args.before)
    (λ b e ranged. subst (BeginsBy c.args.before) (sym e)
    (begins_so c.args.instr.now c.args.pages.now (facts_of c.args.instr.now c.args.pages.now c.piece_laws.ensures.named c.call_at-call.ensures.long c.requires.fixed) c.args.before c.args.byte_word (subst (λ (site : Site). site.after < 2 ^ 32) c.call_site.ensures c.call_block.ensures.after) ranged.0 ranged.1))
    (returns-clause-words c)
    (subst (λ (call : Call). IfOk c.call_block.result (λ b. AllRanged (front_program call) × AllRanged (list_program call.stack (steps_of call)))) c.call_at-call.ensures.value c.call_block.ensures.ranged)

pub returns-clause-rules : goal.returns-clause-rules
returns-clause-rules c =
    let call = call_at c.args.instr.now c.args.pages.now in
    if_ok_both c.call_block.result (λ (b : BlockValue). b ≡ call_block c.args.instr.now c.args.pages.now c.args.before c.args.byte_word)
    (λ b. AllRanged (front_program call) × AllRanged (list_program call.stack (steps_of call))) (λ (b : BlockValue). All (HasRules c.args.before all_ready) b.points)
    (λ b e ranged. subst (λ (b : BlockValue). All (HasRules c.args.before all_ready) b.points) (sym e)
    (rules_are c.args.instr.now c.args.pages.now (facts_of c.args.instr.now c.args.pages.now c.piece_laws.ensures.named c.call_at-call.ensures.long c.requires.fixed) c.args.before c.args.byte_word (subst (λ (site : Site). site.after < 2 ^ 32) c.call_site.ensures c.call_block.ensures.after) ranged.0 ranged.1))
    (returns-clause-words c)
    (subst (λ (call : Call). IfOk c.call_block.result (λ b. AllRanged (front_program call) × AllRanged (list_program call.stack (steps_of call)))) c.call_at-call.ensures.value c.call_block.ensures.ranged)

pub returns-clause-written : goal.returns-clause-written
returns-clause-written c =
    let call = call_at c.args.instr.now c.args.pages.now in
    if_ok_both c.call_block.result (λ (b : BlockValue). b ≡ call_block c.args.instr.now c.args.pages.now c.args.before c.args.byte_word)
    (λ b. AllRanged (front_program call) × AllRanged (list_program call.stack (steps_of call))) (λ (b : BlockValue). codes_written b.words ≡ all)
    (λ b e ranged. subst (λ (b : BlockValue). codes_written b.words ≡ all) (sym e)
    (writes_all c.args.instr.now c.args.pages.now (facts_of c.args.instr.now c.args.pages.now c.piece_laws.ensures.named c.call_at-call.ensures.long c.requires.fixed) c.args.before c.args.byte_word (subst (λ (site : Site). site.after < 2 ^ 32) c.call_site.ensures c.call_block.ensures.after) ranged.0 ranged.1))
    (returns-clause-words c)
    (subst (λ (call : Call). IfOk c.call_block.result (λ b. AllRanged (front_program call) × AllRanged (list_program call.stack (steps_of call)))) c.call_at-call.ensures.value c.call_block.ensures.ranged)

pub returns-clause-means : goal.returns-clause-means
returns-clause-means c =
    let call = call_at c.args.instr.now c.args.pages.now in
    if_ok_both c.call_block.result (λ (b : BlockValue). b ≡ call_block c.args.instr.now c.args.pages.now c.args.before c.args.byte_word)
    (λ b. AllRanged (front_program call) × AllRanged (list_program call.stack (steps_of call))) (CompilesCall c.args.instr.now c.args.pages.now c.args.before c.args.byte_word)
    (λ b e ranged. subst (CompilesCall c.args.instr.now c.args.pages.now c.args.before c.args.byte_word) (sym e)
    (compiles_call c.args.instr.now c.args.pages.now (facts_of c.args.instr.now c.args.pages.now c.piece_laws.ensures.named c.call_at-call.ensures.long c.requires.fixed) c.args.before c.args.byte_word (subst (λ (site : Site). site.after < 2 ^ 32) c.call_site.ensures c.call_block.ensures.after) ranged.0 ranged.1))
    (returns-clause-words c)
    (subst (λ (call : Call). IfOk c.call_block.result (λ b. AllRanged (front_program call) × AllRanged (list_program call.stack (steps_of call)))) c.call_at-call.ensures.value c.call_block.ensures.ranged)
