use Rattle.std.proofs.Common.{sym, ap, ◌∙◌, arith, ◌++◌, List}
use Rattle.std.specs.Prelude.{option_map}
use Rattle.micro_ops.specs.declared.program.Exit.TheVariants.{Breakpoint}
use Rattle.micro_ops.specs.declared.program.Micro.TheVariants.{Leave}
use Rattle.program_codegen.specs.declared.lines.Line.{Line}
use Rattle.program_codegen.proofs.HomePushing.{ranged_later, some_homes, step_none, step_some, when_none, words_behind}
use Rattle.program_codegen.proofs.direct.direct_lines.Goals as goal

pub returns-in-None-clause-lines : goal.returns-in-None-clause-lines
returns-in-None-clause-lines c =
    c.loop-i.invariant.pushed
    ∙ ap (option_map (λ (rest : List Line). c.loop-i.lines.items ++ rest))
    (step_none c.args.site c.args.codes.now c.loop-i.homes c.args.program.now c.loop-i.i _ c.loop-i-test.true (sym c.goes_on.ensures ∙ c.if-not-goes_on.false) (when_none c.in_ok-end-2.field-0 _ _ c.in_default-2.is c.in_ok-end-2.ensures.lines) (sym c.in_ok-now.ensures.homes ∙ c.in-None.is))

pub loop-i-preserved : goal.loop-i-preserved
loop-i-preserved c =
    record {
      within = omega arith;
      words = words_behind c.args.site.sources c.args.program.now c.loop-i.i (Leave Breakpoint) c.loop-i-test.true c.loop-i.invariant.words;
      homes = some_homes c.in_ok-now.field-0 c.in-Some-3.now c.in-Some-3.is c.in_ok-now.ensures.are;
      pushed = c.loop-i.invariant.pushed
          ∙ step_some c.args.site c.args.codes.now c.loop-i.homes c.args.program.now c.loop-i.i _ c.loop-i-test.true (sym c.goes_on.ensures ∙ c.if-not-goes_on.false) (when_none c.in_ok-end-2.field-0 _ _ c.in_default-2.is c.in_ok-end-2.ensures.lines) c.in-Some-3.now c.loop-i.lines.items _
          (sym c.in_ok-now.ensures.homes ∙ c.in-Some-3.is) c.in_ok-now.ensures.lines;
      ranged = λ rest. c.loop-i.invariant.ranged (ranged_later c.args.program.now c.loop-i.i _ c.loop-i-test.true c.push_step.ensures.ranged rest);
    }
