-- What the word there says.
use Rattle.std.proofs.Common.{◌≡◌, ◌+◌, min, sym, ap, ◌∙◌, Some, arith, rules}
use Rattle.address_map.specs.Pairs.{address_at}
use Rattle.alpha_meaning.specs.State.{Alpha, at_place, regs_of}
use Rattle.alpha_machine.specs.Step.{state_of}
use Rattle.prepared_code.specs.Strides.{one_of, tells_landing}
use Rattle.prepared_code.specs.declared.flat.Way.TheVariants.{Branches, Ends, Forks, Lands}
use Rattle.prepared_code.proofs.Landed.{has_address}
use Rattle.prepared_code.proofs.Looks.{end_leaves, its_way, landing_leaves, looks, makes, makes_none, stop_leaves}
use Rattle.prepared_code.proofs.Strides.{fork_is, inside_is, landed_is, not_told, nowhere_is, one_or_none, some_inside, straight_steps, told}
use Rattle.prepared_code.proofs.prepared.Prepared.stride_over.Goals as goal

pub go_straight-requires-clause-within : goal.go_straight-requires-clause-within
go_straight-requires-clause-within g c =
    let it = looks c.flats-flats.ensures.known c.flats-flats.ensures.flat c.in-Some.ensures.lookup.3 in
    omega (arith, it.flat.within, c.min-count.ensures, c.from.ensures)

pub go_straight-requires-clause-form : goal.go_straight-requires-clause-form
go_straight-requires-clause-form g c =
    let it = looks c.flats-flats.ensures.known c.flats-flats.ensures.flat c.in-Some.ensures.lookup.3 in
    λ k f h there. (it.flat.straight k f (omega (arith, h, c.min-count.ensures, c.from.ensures)) there).form

pub returns-then-flat-gt0-clause-is : goal.returns-then-flat-gt0-clause-is
returns-then-flat-gt0-clause-is g c =
    let it = looks c.flats-flats.ensures.known c.flats-flats.ensures.flat c.in-Some.ensures.lookup.3 in
    (omega (arith, c.min-count.ensures, c.from.ensures), c.go_straight.ensures.ran c.args.self.now.code (λ k f h there. it.flat.straight k f (omega (arith, h, c.min-count.ensures, c.from.ensures)) there))

pub overflow_cast-cpu-in-Lands : goal.overflow_cast-cpu-in-Lands
overflow_cast-cpu-in-Lands g c =
    let it = looks c.flats-flats.ensures.known c.flats-flats.ensures.flat c.in-Some.ensures.lookup.3 in
    let fits = (its_way Lands it c.in-Lands.is).target in
    search rules

pub operate-requires-clause-form : goal.operate-requires-clause-form
operate-requires-clause-form g c =
    let it = looks c.flats-flats.ensures.known c.flats-flats.ensures.flat c.in-Some.ensures.lookup.3 in
    (its_way Ends it c.in-Ends.is).form

pub go_by_branch-requires-clause-register : goal.go_by_branch-requires-clause-register
go_by_branch-requires-clause-register g c =
    let it = looks c.flats-flats.ensures.known c.flats-flats.ensures.flat c.in-Some.ensures.lookup.3 in
    (its_way (Branches c.in-Branches.op) it c.in-Branches.is).register

pub go_by_branch-requires-clause-target : goal.go_by_branch-requires-clause-target
go_by_branch-requires-clause-target g c =
    let it = looks c.flats-flats.ensures.known c.flats-flats.ensures.flat c.in-Some.ensures.lookup.3 in
    (its_way (Branches c.in-Branches.op) it c.in-Branches.is).target

pub fork_over-requires-clause-fork : goal.fork_over-requires-clause-fork
fork_over-requires-clause-fork g c =
    let it = looks c.flats-flats.ensures.known c.flats-flats.ensures.flat c.in-Some.ensures.lookup.3 in
    its_way (Forks c.in-Forks.op) it c.in-Forks.is

pub returns-in-Lands-clause-is : goal.returns-in-Lands-clause-is
returns-in-Lands-clause-is g c =
    let it = looks c.flats-flats.ensures.known c.flats-flats.ensures.flat c.in-Some.ensures.lookup.3 in
    let lands = its_way Lands it c.in-Lands.is in
    let block = has_address c.args.self.now.code.map c.in-Some.flat.now.literal c.flats-flats.ensures.rise lands.begins in
    record { leads = lands.goes (regs_of c.args.cpu.now.r); address = block.address; there = block.there; back = block.back }

pub returns-in-Ends-clause-is : goal.returns-in-Ends-clause-is
returns-in-Ends-clause-is g c =
    let it = looks c.flats-flats.ensures.known c.flats-flats.ensures.flat c.in-Some.ensures.lookup.3 in
    let code = c.args.self.now.code in
    let ends = its_way Ends it c.in-Ends.is in
    let block = has_address code.map (c.args.cpu.now.pc + 1) c.flats-flats.ensures.rise ends.begins in
    let place = ap (λ (s : Alpha). s.pc) c.operate.ensures.is in
    record {
      leads = ends.goes c.args.cpu.now.r ∙ ap (λ (s : Alpha). Some (at_place s.regs (s.pc + 1))) (sym c.operate.ensures.is);
      address = block.address;
      there = ap (λ n. address_at code.map (n + 1)) place ∙ block.there;
      back = block.back ∙ ap (λ n. Some (n + 1)) (sym place);
    }

pub returns-in-Branches-clause-is : goal.returns-in-Branches-clause-is
returns-in-Branches-clause-is g c =
    let it = looks c.flats-flats.ensures.known c.flats-flats.ensures.flat c.in-Some.ensures.lookup.3 in
    let some = c.requires.some in
    (omega arith, (its_way (Branches c.in-Branches.op) it c.in-Branches.is).step c.args.cpu.now.r ∙ ap Some (sym c.go_by_branch.ensures.is))

pub returns-in_default-clause-just : goal.returns-in_default-clause-just
returns-in_default-clause-just g c =
    nowhere_is c.args.self.now.code (state_of c.args.cpu.now) c.args.most (omega (arith, c.flats-flats.ensures.known.counted, c.in_default.ensures.lookup.3))

pub returns-then-flat-gt0-clause-just : goal.returns-then-flat-gt0-clause-just
returns-then-flat-gt0-clause-just g c =
    let it = looks c.flats-flats.ensures.known c.flats-flats.ensures.flat c.in-Some.ensures.lookup.3 in
    let code = c.args.self.now.code in
    let at = state_of c.args.cpu.now in
    let ran = c.go_straight.ensures.ran code (λ k f h there. it.flat.straight k f (omega (arith, h, c.min-count.ensures, c.from.ensures)) there) in
    let counted : c.min-count.result ≡ min c.args.most c.in-Some.flat.now.number = omega (arith, c.min-count.ensures, c.from.ensures) in
    let some = c.requires.some in
    inside_is code at c.args.most c.min-count.result (some_inside code at (state_of c.go_straight.new.cpu) c.min-count.result ran (omega (arith, counted, some, c.if-flat-gt0.true)))
    (counted ∙ straight_steps code at c.args.most c.in-Some.flat.now.number it.number c.if-flat-gt0.true)

pub returns-in-Other-clause-just : goal.returns-in-Other-clause-just
returns-in-Other-clause-just g c =
    let it = looks c.flats-flats.ensures.known c.flats-flats.ensures.flat c.in-Some.ensures.lookup.3 in
    let code = c.args.self.now.code in
    let at = state_of c.args.cpu.now in
    let step = c.other_step in
    inside_is code at c.args.most step.result (not_told code at (it.tells ∙ ap tells_landing c.in-Other.is))
    (makes at c.args.most step.result it c.if-flat-gt0.false (one_or_none code at (state_of step.new.cpu) step.result step.ensures.most step.ensures.ran step.ensures.stops))

pub returns-in-Stops-clause-just : goal.returns-in-Stops-clause-just
returns-in-Stops-clause-just g c =
    let it = looks c.flats-flats.ensures.known c.flats-flats.ensures.flat c.in-Some.ensures.lookup.3 in
    let code = c.args.self.now.code in
    let at = state_of c.args.cpu.now in
    inside_is code at c.args.most 0 (not_told code at (it.tells ∙ ap tells_landing c.in-Stops.is)) (makes_none at c.args.most it c.if-flat-gt0.false (stop_leaves c.args.cpu.now.r it c.in-Stops.is))

pub returns-in-Lands-clause-just : goal.returns-in-Lands-clause-just
returns-in-Lands-clause-just g c =
    let it = looks c.flats-flats.ensures.known c.flats-flats.ensures.flat c.in-Some.ensures.lookup.3 in
    let code = c.args.self.now.code in
    let at = state_of c.args.cpu.now in
    landed_is code at c.args.most (told code at (it.tells ∙ ap tells_landing c.in-Lands.is) (landing_leaves c.args.cpu.now.r it c.in-Lands.is))

pub returns-in-Ends-clause-just : goal.returns-in-Ends-clause-just
returns-in-Ends-clause-just g c =
    let it = looks c.flats-flats.ensures.known c.flats-flats.ensures.flat c.in-Some.ensures.lookup.3 in
    let code = c.args.self.now.code in
    let at = state_of c.args.cpu.now in
    landed_is code at c.args.most (told code at (it.tells ∙ ap tells_landing c.in-Ends.is) (end_leaves c.args.cpu.now.r it c.in-Ends.is))

pub returns-in-Branches-clause-just : goal.returns-in-Branches-clause-just
returns-in-Branches-clause-just g c =
    let it = looks c.flats-flats.ensures.known c.flats-flats.ensures.flat c.in-Some.ensures.lookup.3 in
    let code = c.args.self.now.code in
    let at = state_of c.args.cpu.now in
    inside_is code at c.args.most 1 (not_told code at (it.tells ∙ ap tells_landing c.in-Branches.is))
    (makes at c.args.most 1 it c.if-flat-gt0.false (sym (ap one_of ((its_way (Branches c.in-Branches.op) it c.in-Branches.is).step c.args.cpu.now.r ∙ ap Some (sym c.go_by_branch.ensures.is)))))

pub returns-in-Forks-clause-just : goal.returns-in-Forks-clause-just
returns-in-Forks-clause-just g c =
    let it = looks c.flats-flats.ensures.known c.flats-flats.ensures.flat c.in-Some.ensures.lookup.3 in
    fork_is c.args.self.now.code (state_of c.args.cpu.now) c.args.most c.in-Some.flat.now.number c.fork_over.result (it.tells ∙ ap tells_landing c.in-Forks.is) it.number c.if-flat-gt0.false c.fork_over.ensures.just
