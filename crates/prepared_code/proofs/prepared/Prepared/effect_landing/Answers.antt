-- The word is known to land.
use Rattle.std.proofs.Common.{◌+◌, sym, ap, ◌∙◌, Some, rules}
use Rattle.alpha_meaning.specs.State.{at_place, put, regs_of}
use Rattle.prepared_code.specs.declared.flat.Way.TheVariants.{Ends, Forks, Lands}
use Rattle.prepared_code.proofs.Flats.{way_there}
use Rattle.prepared_code.proofs.prepared.Prepared.effect_landing.Goals as goal

pub returns-in-Lands-clause-is : goal.returns-in-Lands-clause-is
returns-in-Lands-clause-is c =
    let found = c.in-Some.ensures.lookup.3 in
    sym ((way_there c.args.self.now.code c.flats.result.now c.args.cpu.now.pc c.in-Some.flat.now Lands c.flats.ensures.flat found.0 (found.1 c.in-Some.flat.now) c.in-Lands.is).goes (regs_of c.args.cpu.now.r))

pub returns-in-Ends-clause-is : goal.returns-in-Ends-clause-is
returns-in-Ends-clause-is c =
    let found = c.in-Some.ensures.lookup.3 in
    let it = way_there c.args.self.now.code c.flats.result.now c.args.cpu.now.pc c.in-Some.flat.now Ends c.flats.ensures.flat found.0 (found.1 c.in-Some.flat.now) c.in-Ends.is in
    ap (λ v. Some (at_place (put (regs_of c.args.cpu.now.r) c.in-Some.flat.now.c v) (c.args.cpu.now.pc + 1))) c.value_of.ensures ∙ sym (it.goes c.args.cpu.now.r)

pub returns-in-Ends-clause-register : goal.returns-in-Ends-clause-register
returns-in-Ends-clause-register c =
    let found = c.in-Some.ensures.lookup.3 in
    (way_there c.args.self.now.code c.flats.result.now c.args.cpu.now.pc c.in-Some.flat.now Ends c.flats.ensures.flat found.0 (found.1 c.in-Some.flat.now) c.in-Ends.is).form.registers.c

pub returns-in-Forks-clause-is : goal.returns-in-Forks-clause-is
returns-in-Forks-clause-is c =
    let found = c.in-Some.ensures.lookup.3 in
    let it = way_there c.args.self.now.code c.flats.result.now c.args.cpu.now.pc c.in-Some.flat.now (Forks c.in-Forks.op) c.flats.ensures.flat found.0 (found.1 c.in-Some.flat.now) c.in-Forks.is in
    ap (λ n. Some (at_place (regs_of c.args.cpu.now.r) n)) c.way_out.ensures ∙ sym (it.goes c.args.cpu.now.r)

pub overflow_cast-result : goal.overflow_cast-result
overflow_cast-result c =
    let found = c.in-Some.ensures.lookup.3 in
    let it = way_there c.args.self.now.code c.flats.result.now c.args.cpu.now.pc c.in-Some.flat.now Lands c.flats.ensures.flat found.0 (found.1 c.in-Some.flat.now) c.in-Lands.is in
    let fits = it.target in
    search rules

pub value_of-requires-clause-form : goal.value_of-requires-clause-form
value_of-requires-clause-form c =
    let found = c.in-Some.ensures.lookup.3 in
    (way_there c.args.self.now.code c.flats.result.now c.args.cpu.now.pc c.in-Some.flat.now Ends c.flats.ensures.flat found.0 (found.1 c.in-Some.flat.now) c.in-Ends.is).form

pub way_out-requires-clause-register : goal.way_out-requires-clause-register
way_out-requires-clause-register c =
    let found = c.in-Some.ensures.lookup.3 in
    (way_there c.args.self.now.code c.flats.result.now c.args.cpu.now.pc c.in-Some.flat.now (Forks c.in-Forks.op) c.flats.ensures.flat found.0 (found.1 c.in-Some.flat.now) c.in-Forks.is).register

pub way_out-requires-clause-target : goal.way_out-requires-clause-target
way_out-requires-clause-target c =
    let found = c.in-Some.ensures.lookup.3 in
    (way_there c.args.self.now.code c.flats.result.now c.args.cpu.now.pc c.in-Some.flat.now (Forks c.in-Forks.op) c.flats.ensures.flat found.0 (found.1 c.in-Some.flat.now) c.in-Forks.is).target
