-- What the word there says.
use Rattle.std.proofs.Common.{◌≡◌, ◌≤◌, length, min, sym, ap, ◌∙◌, Some, arith}
use Rattle.alpha_machine.specs.Step.{state_of}
use Rattle.prepared_code.specs.Strides.{one_of}
use Rattle.prepared_code.specs.declared.flat.Way.TheVariants.{Branches, Forks}
use Rattle.prepared_code.proofs.Known.{none_behind}
use Rattle.prepared_code.proofs.Looks.{end_leaves, its_way, landing_leaves, looks, makes, makes_none, stop_leaves}
use Rattle.prepared_code.proofs.Strides.{one_or_none, other_steps, straight_steps}
use Rattle.prepared_code.proofs.prepared.Prepared.stride.Goals as goal

pub go_straight-requires-clause-within : goal.go_straight-requires-clause-within
go_straight-requires-clause-within c =
    let it = looks c.flats-flats.ensures.known c.flats-flats.ensures.flat c.in-Some.ensures.lookup.3 in
    omega (arith, it.flat.within, c.min-count.ensures, c.from.ensures)

pub go_straight-requires-clause-form : goal.go_straight-requires-clause-form
go_straight-requires-clause-form c =
    let it = looks c.flats-flats.ensures.known c.flats-flats.ensures.flat c.in-Some.ensures.lookup.3 in
    λ k f h there. (it.flat.straight k f (omega (arith, h, c.min-count.ensures, c.from.ensures)) there).form

pub returns-then-flat-gt0-clause-ran : goal.returns-then-flat-gt0-clause-ran
returns-then-flat-gt0-clause-ran c =
    let it = looks c.flats-flats.ensures.known c.flats-flats.ensures.flat c.in-Some.ensures.lookup.3 in
    c.go_straight.ensures.ran c.args.self.now.code (λ k f h there. it.flat.straight k f (omega (arith, h, c.min-count.ensures, c.from.ensures)) there)

pub go_by_branch-requires-clause-register : goal.go_by_branch-requires-clause-register
go_by_branch-requires-clause-register c =
    let it = looks c.flats-flats.ensures.known c.flats-flats.ensures.flat c.in-Some.ensures.lookup.3 in
    (its_way (Branches c.in-Branches.op) it c.in-Branches.is).register

pub go_by_branch-requires-clause-target : goal.go_by_branch-requires-clause-target
go_by_branch-requires-clause-target c =
    let it = looks c.flats-flats.ensures.known c.flats-flats.ensures.flat c.in-Some.ensures.lookup.3 in
    (its_way (Branches c.in-Branches.op) it c.in-Branches.is).target

pub returns-in-Branches-clause-ran : goal.returns-in-Branches-clause-ran
returns-in-Branches-clause-ran c =
    let it = looks c.flats-flats.ensures.known c.flats-flats.ensures.flat c.in-Some.ensures.lookup.3 in
    (its_way (Branches c.in-Branches.op) it c.in-Branches.is).step c.args.cpu.now.r ∙ ap Some (sym c.go_by_branch.ensures.is)

pub fork_inside-requires-clause-fork : goal.fork_inside-requires-clause-fork
fork_inside-requires-clause-fork c =
    let it = looks c.flats-flats.ensures.known c.flats-flats.ensures.flat c.in-Some.ensures.lookup.3 in
    its_way (Forks c.in-Forks.op) it c.in-Forks.is

pub returns-in-Stops-clause-stops : goal.returns-in-Stops-clause-stops
returns-in-Stops-clause-stops c =
    let it = looks c.flats-flats.ensures.known c.flats-flats.ensures.flat c.in-Some.ensures.lookup.3 in
    λ none. stop_leaves c.args.cpu.now.r it c.in-Stops.is

pub returns-in-Lands-clause-stops : goal.returns-in-Lands-clause-stops
returns-in-Lands-clause-stops c =
    let it = looks c.flats-flats.ensures.known c.flats-flats.ensures.flat c.in-Some.ensures.lookup.3 in
    λ none. landing_leaves c.args.cpu.now.r it c.in-Lands.is

pub returns-in-Ends-clause-stops : goal.returns-in-Ends-clause-stops
returns-in-Ends-clause-stops c =
    let it = looks c.flats-flats.ensures.known c.flats-flats.ensures.flat c.in-Some.ensures.lookup.3 in
    λ none. end_leaves c.args.cpu.now.r it c.in-Ends.is

pub returns-in_default-clause-look : goal.returns-in_default-clause-look
returns-in_default-clause-look c =
    let code = c.args.self.now.code in
    let at = state_of c.args.cpu.now in
    let it = c.other_step.ensures in
    let past : length code.words ≤ at.pc = omega (arith, c.flats-flats.ensures.known.counted, c.in_default.ensures.lookup.3) in
    other_steps code at c.args.most 0 c.other_step.result (sym (none_behind code at.pc past)) (omega arith)
    (one_or_none code at (state_of c.other_step.new.cpu) c.other_step.result it.most it.ran it.stops)

pub returns-then-flat-gt0-clause-look : goal.returns-then-flat-gt0-clause-look
returns-then-flat-gt0-clause-look c =
    let it = looks c.flats-flats.ensures.known c.flats-flats.ensures.flat c.in-Some.ensures.lookup.3 in
    let counted : c.min-count.result ≡ min c.args.most c.in-Some.flat.now.number = omega (arith, c.min-count.ensures, c.from.ensures) in
    counted ∙ straight_steps c.args.self.now.code (state_of c.args.cpu.now) c.args.most c.in-Some.flat.now.number it.number c.if-flat-gt0.true

pub returns-in-Other-clause-look : goal.returns-in-Other-clause-look
returns-in-Other-clause-look c =
    let it = looks c.flats-flats.ensures.known c.flats-flats.ensures.flat c.in-Some.ensures.lookup.3 in
    let step = c.other_step-in-Other in
    makes (state_of c.args.cpu.now) c.args.most step.result it c.if-flat-gt0.false (one_or_none c.args.self.now.code (state_of c.args.cpu.now) (state_of step.new.cpu) step.result step.ensures.most step.ensures.ran step.ensures.stops)

pub returns-in-Stops-clause-look : goal.returns-in-Stops-clause-look
returns-in-Stops-clause-look c =
    let it = looks c.flats-flats.ensures.known c.flats-flats.ensures.flat c.in-Some.ensures.lookup.3 in
    makes_none (state_of c.args.cpu.now) c.args.most it c.if-flat-gt0.false (stop_leaves c.args.cpu.now.r it c.in-Stops.is)

pub returns-in-Lands-clause-look : goal.returns-in-Lands-clause-look
returns-in-Lands-clause-look c =
    let it = looks c.flats-flats.ensures.known c.flats-flats.ensures.flat c.in-Some.ensures.lookup.3 in
    makes_none (state_of c.args.cpu.now) c.args.most it c.if-flat-gt0.false (landing_leaves c.args.cpu.now.r it c.in-Lands.is)

pub returns-in-Ends-clause-look : goal.returns-in-Ends-clause-look
returns-in-Ends-clause-look c =
    let it = looks c.flats-flats.ensures.known c.flats-flats.ensures.flat c.in-Some.ensures.lookup.3 in
    makes_none (state_of c.args.cpu.now) c.args.most it c.if-flat-gt0.false (end_leaves c.args.cpu.now.r it c.in-Ends.is)

pub returns-in-Branches-clause-look : goal.returns-in-Branches-clause-look
returns-in-Branches-clause-look c =
    let it = looks c.flats-flats.ensures.known c.flats-flats.ensures.flat c.in-Some.ensures.lookup.3 in
    makes (state_of c.args.cpu.now) c.args.most 1 it c.if-flat-gt0.false (sym (ap one_of ((its_way (Branches c.in-Branches.op) it c.in-Branches.is).step c.args.cpu.now.r ∙ ap Some (sym c.go_by_branch.ensures.is))))

pub returns-in-Forks-clause-look : goal.returns-in-Forks-clause-look
returns-in-Forks-clause-look c =
    let it = looks c.flats-flats.ensures.known c.flats-flats.ensures.flat c.in-Some.ensures.lookup.3 in
    let fork = c.fork_inside in
    makes (state_of c.args.cpu.now) c.args.most fork.result it c.if-flat-gt0.false (one_or_none c.args.self.now.code (state_of c.args.cpu.now) (state_of fork.new.cpu) fork.result fork.ensures.most fork.ensures.ran fork.ensures.stops)
