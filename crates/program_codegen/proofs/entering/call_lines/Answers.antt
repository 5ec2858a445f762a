use Rattle.std.proofs.Common.{◌∙◌, ◌++◌, ◌∷◌, [], ap, length}
use Rattle.alpha_encode.specs.declared.instr.AlphaInstr.{AlphaInstr}
use Rattle.program_codegen.specs.Words.{plain}
use Rattle.program_codegen.proofs.Pushing.{call_joined}
use Rattle.program_codegen.proofs.entering.call_lines.Goals as goal

-- the parts stand one behind the other
pub returns-clause-lines : goal.returns-clause-lines
returns-clause-lines c =
    let frame = c.in_ok-frame.ensures.frame in
    call_joined c.args.site c.args.call c.deref.result.now c.in_ok-front.steps c.deref-2.result.now c.deref-3.result.now _ _ _ _ _ _ _
    (c.deref.ensures.value ∙ c.in_ok-front.ensures.0) c.in_ok-front.ensures.1 (c.deref-2.ensures.value ∙ frame) (c.deref-3.ensures.value ∙ frame) (ap length (c.deref-4.ensures.value ∙ frame))
    c.in_ok-lines.ensures.lines (c.in_ok-push_words.ensures ∙ ap (λ (i : AlphaInstr). c.in_ok-lines.lines.items ++ plain i ∷ []) c.align_frame.ensures) c.in_ok-push_checks.ensures c.in_ok-push_count.ensures c.in_ok-push_frame.ensures c.in_ok-push_end.ensures.lines
