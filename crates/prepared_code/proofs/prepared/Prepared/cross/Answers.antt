-- More steps behind those so far, and the step that arrives.
use Rattle.std.proofs.Common.{◌≡◌, ◌-◌, Some, sym, ap, ◌∙◌, arith, rules}
use Rattle.alpha_machine.specs.Step.{state_of}
use Rattle.alpha_meaning.specs.State.{Alpha}
use Rattle.prepared_code.specs.Inside.{step_in, steps_in}
use Rattle.prepared_code.specs.Strides.{arrives}
use Rattle.prepared_code.specs.declared.run.Stride.TheVariants.{Inside}
use Rattle.prepared_code.proofs.Steps.{more_steps}
use Rattle.prepared_code.proofs.Strides.{arrives_nowhere, arrives_there, has_landed, none_inside, stuck}
use Rattle.prepared_code.proofs.prepared.Prepared.cross.Goals as goal

pub loop-made-preserved : goal.loop-made-preserved
loop-made-preserved g c =
    let more = c.in-Inside.ensures.is in
    record {
      zero = c.stride_over.ensures.zero;
      most = omega (arith, c.loop-made.invariant.most, more.0);
      ran =
          more_steps c.args.self.now.code (state_of c.clear_31.new.cpu) (state_of c.loop-made.cpu) (state_of c.stride_over.new.cpu) c.loop-made.made c.in-Inside.steps
          c.loop-made.invariant.ran more.1;
    }

-- what one holds gives the other
same : (x y : Alpha) → Some x ≡ Some y → x ≡ y
same x y e = cc e

pub returns-in-Inside-eq0-clause-just : goal.returns-in-Inside-eq0-clause-just
returns-in-Inside-eq0-clause-just g c =
    let code = c.args.self.now.code in
    let here = state_of c.loop-made.cpu in
    let zero : c.in-Inside-eq0.field-0 ≡ 0 = search rules in
    let stop = stuck code here (c.args.most - c.loop-made.made) (omega (arith, c.loop-made-test.true)) (ap Inside (sym zero) ∙ c.in-Inside-eq0.ensures.just) in
    sym (arrives_nowhere code (state_of c.clear_31.new.cpu) here c.loop-made.made c.args.most c.loop-made.invariant.ran stop.0 stop.1 c.loop-made-test.true)
    ∙ ap (λ s. arrives code s c.args.most) c.clear_31.ensures.is

pub returns-in-Inside-eq0-clause-rests : goal.returns-in-Inside-eq0-clause-rests
returns-in-Inside-eq0-clause-rests g c =
    let code = c.args.self.now.code in
    let here = state_of c.loop-made.cpu in
    let zero : c.in-Inside-eq0.field-0 ≡ 0 = search rules in
    let stop = stuck code here (c.args.most - c.loop-made.made) (omega (arith, c.loop-made-test.true)) (ap Inside (sym zero) ∙ c.in-Inside-eq0.ensures.just) in
    let stays : Some here ≡ Some (state_of c.stride_over.new.cpu) = ap (steps_in code here) (sym zero) ∙ c.in-Inside-eq0.ensures.is.1 in
    record {
      few = c.loop-made.invariant.most;
      ran = ap (λ s. steps_in code s c.loop-made.made) (sym c.clear_31.ensures.is) ∙ c.loop-made.invariant.ran ∙ stays;
      stops = λ h. ap (step_in code) (sym (same here (state_of c.stride_over.new.cpu) stays)) ∙ stop.0;
    }

pub returns-in-Landed-clause-just : goal.returns-in-Landed-clause-just
returns-in-Landed-clause-just g c =
    let code = c.args.self.now.code in
    let here = state_of c.loop-made.cpu in
    sym (arrives_there code (state_of c.clear_31.new.cpu) here c.loop-made.made c.args.most c.loop-made.invariant.ran
    (has_landed code here (c.args.most - c.loop-made.made) c.in-Landed.ensures.just) c.loop-made-test.true)
    ∙ ap (λ s. arrives code s c.args.most) c.clear_31.ensures.is

pub returns-clause-just : goal.returns-clause-just
returns-clause-just g c =
    let code = c.args.self.now.code in
    let all : c.loop-made.made ≡ c.args.most = omega (arith, c.loop-made.invariant.most, c.loop-made-test.false) in
    sym (none_inside code (state_of c.clear_31.new.cpu) (state_of c.loop-made.cpu) c.loop-made.made c.loop-made.invariant.ran)
    ∙ ap (arrives code (state_of c.clear_31.new.cpu)) all
    ∙ ap (λ s. arrives code s c.args.most) c.clear_31.ensures.is
