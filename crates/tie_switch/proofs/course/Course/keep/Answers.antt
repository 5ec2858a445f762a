-- One round behind the others.
use Rattle.std.proofs.Common.{◌≡◌, ◌<◌, ◌+◌, ◌-◌, ℕ, Bool, false, [], refl, ◌∙◌, subst, arith}
use Rattle.alpha_machine.specs.declared.cpu.Cpu.{Cpu}
use Rattle.prepared_code.specs.Sources.{Source}
use Rattle.tie_switch.specs.Keeps.{AllMade, InARow, IsKept, NoMore, NoRound, OneMore, Rounds}
use Rattle.tie_switch.specs.Settings.{image_setting}
use Rattle.tie_switch.specs.declared.course.TheConstants.{MOST_IN_A_ROW}
use Rattle.tie_switch.proofs.Courses.{goes_more, goes_nowhere}
use Rattle.tie_switch.proofs.course.Course.keep.Goals as goal

round_more : (source : Source) (most : ℕ) (first c d : Cpu) (made row : ℕ) (told : ℕ × ℕ × Bool) → Rounds source most first c made row → made < most → IsKept source (most - made) row c d told
    → told.2 ≡ false → told.1 < MOST_IN_A_ROW → Rounds source most first d (made + told.0) told.1
round_more source most first c d made row told rounds few kept more less = OneMore rounds few (subst (λ b. IsKept source (most - made) row c d (told.0, told.1, b)) more kept) less

pub loop-made-init : goal.loop-made-init
loop-made-init g c =
    let p = c.args.prepared.now in
    record {
      most = omega arith;
      row = omega arith;
      rounds = NoRound;
      held = refl;
      opcode = c.requires.opcode;
      retired = omega arith;
      goes = λ thread before nothing. goes_nowhere (image_setting p.pages p.code []) thread before c.args.self.now;
    }

pub loop-made-preserved : goal.loop-made-preserved
loop-made-preserved g c =
    let p = c.args.prepared.now in
    let one = c.keep_one-steps in
    let l = c.loop-made in
    record {
      most = omega (arith, l.invariant.most, one.ensures.most);
      row = omega (arith, one.ensures.row, c.if-next-eq-MOST_IN_A_ROW.false);
      rounds = round_more p c.args.most c.args.self.now.cpu l.self.cpu one.new.self.cpu l.made l.row one.result l.invariant.rounds c.loop-made-test.true one.ensures.keeps c.if-rests.false (omega (arith, one.ensures.row, c.if-next-eq-MOST_IN_A_ROW.false));
      held = one.ensures.held ∙ l.invariant.held;
      opcode = one.ensures.opcode;
      retired = omega (arith, l.invariant.retired, one.ensures.retired);
      goes = λ thread before nothing. goes_more (image_setting p.pages p.code []) thread before c.args.self.now l.self one.new.self l.made one.result.0 (l.invariant.goes thread before nothing) (one.ensures.goes thread before nothing);
    }

pub returns-then-rests-clause-goes : goal.returns-then-rests-clause-goes
returns-then-rests-clause-goes g c = λ thread before nothing.
    let p = c.args.prepared.now in
    let one = c.keep_one-steps in
    let l = c.loop-made in
    goes_more (image_setting p.pages p.code []) thread before c.args.self.now l.self one.new.self l.made one.result.0 (l.invariant.goes thread before nothing) (one.ensures.goes thread before nothing)

pub returns-then-next-eq-MOST_IN_A_ROW-clause-goes : goal.returns-then-next-eq-MOST_IN_A_ROW-clause-goes
returns-then-next-eq-MOST_IN_A_ROW-clause-goes g c = λ thread before nothing.
    let p = c.args.prepared.now in
    let one = c.keep_one-steps in
    let l = c.loop-made in
    goes_more (image_setting p.pages p.code []) thread before c.args.self.now l.self one.new.self l.made one.result.0 (l.invariant.goes thread before nothing) (one.ensures.goes thread before nothing)

pub returns-then-rests-clause-keeps : goal.returns-then-rests-clause-keeps
returns-then-rests-clause-keeps g c =
    let p = c.args.prepared.now in
    let one = c.keep_one-steps in
    let l = c.loop-made in
    NoMore l.invariant.rounds c.loop-made-test.true (subst (λ b. IsKept p (c.args.most - l.made) l.row l.self.cpu one.new.self.cpu (one.result.0, one.result.1, b)) c.if-rests.true one.ensures.keeps)

pub returns-then-next-eq-MOST_IN_A_ROW-clause-keeps : goal.returns-then-next-eq-MOST_IN_A_ROW-clause-keeps
returns-then-next-eq-MOST_IN_A_ROW-clause-keeps g c =
    let p = c.args.prepared.now in
    let one = c.keep_one-steps in
    let l = c.loop-made in
    InARow l.invariant.rounds c.loop-made-test.true (subst (λ b. IsKept p (c.args.most - l.made) l.row l.self.cpu one.new.self.cpu (one.result.0, one.result.1, b)) c.if-rests.false one.ensures.keeps)
    c.if-next-eq-MOST_IN_A_ROW.true

pub returns-clause-keeps : goal.returns-clause-keeps
returns-clause-keeps g c = AllMade c.loop-made.invariant.rounds (omega (arith, c.loop-made-test.false))
