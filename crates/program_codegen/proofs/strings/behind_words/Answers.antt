use Rattle.std.proofs.Common.{ap, ◌∙◌, ◌+◌, ◌-◌, ◌++◌, arith, List}
use Rattle.alpha_encode.specs.declared.instr.AlphaInstr.{AlphaInstr}
use Rattle.program_codegen.specs.Strings.{steps_from}
use Rattle.program_codegen.proofs.StringPushing.{step_pushed}
use Rattle.program_codegen.proofs.strings.behind_words.Goals as goal

pub loop-done-preserved : goal.loop-done-preserved
loop-done-preserved c =
    let done = c.loop-done.done in
    let steps = c.args.steps.now in
    let lt = c.loop-done-test.true in
    record {
      within = omega arith;
      pushed = ap (λ (words : List AlphaInstr). words ++ steps_from (6 + (done + 1)) (9 - (done + 1)) steps) c.in_ok-push_step.ensures
          ∙ step_pushed c.loop-done.words.items (steps_from 6 9 steps) steps done lt c.loop-done.invariant.pushed;
    }
