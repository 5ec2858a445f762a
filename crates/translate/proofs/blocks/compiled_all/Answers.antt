use Rattle.std.proofs.Common.{◌≡◌, ap, sym, subst, ◌∙◌, length, arith}
use Rattle.std.proofs.lemmas.List.FromFn.{length-map-range_with_len}
use Rattle.code_runs.specs.Codes.{codes_at}
use Rattle.code_runs.specs.Runs.{instr_at}
use Rattle.code_runs.specs.declared.codes.InstrCodes.{InstrCodes}
use Rattle.code_runs.proofs.Along.{codes_found}
use Rattle.translate.specs.Compiled.{AreReadyFor, IsCompiled}
use Rattle.translate.proofs.Asked.{can_have_blocks, ready_for}
use Rattle.translate.proofs.Placing.{compiled_more}
use Rattle.translate.proofs.blocks.compiled_all.Goals as goal

pub bounds-codes-place : goal.bounds-codes-place
bounds-codes-place c =
    let instrs = c.args.instrs.now in
    let count : length c.args.codes.now ≡ length instrs = ap length c.requires.codes ∙ length-map-range_with_len (codes_at instrs) 0 (length instrs) in
    let within = c.loop-place-test.true in
    omega arith

pub compiled_instr-requires-clause-ready : goal.compiled_instr-requires-clause-ready
compiled_instr-requires-clause-ready c =
    let instrs = c.args.instrs.now in
    let place = c.loop-place.place in
    let found = codes_found instrs c.requires.order c.args.codes.now c.requires.codes place c.loop-place-test.true in
    subst (λ (codes : InstrCodes). AreReadyFor (instr_at instrs place) codes) (sym found) (ready_for instrs c.requires.order (can_have_blocks c.args.pages.now instrs c.requires.built) place c.loop-place-test.true)

pub loop-place-preserved : goal.loop-place-preserved
loop-place-preserved c =
    let instrs = c.args.instrs.now in
    let place = c.loop-place.place in
    let found = codes_found instrs c.requires.order c.args.codes.now c.requires.codes place c.loop-place-test.true in
    let grown = rw (← c.in_ok-map_err.ensures.variant) at c.push.ensures.items in
    compiled_more c.args.target c.args.pages.now instrs place c.loop-place.blocks.items c.push.new.self.items c.in_ok-block.block grown c.loop-place.invariant
    (subst (λ (codes : InstrCodes). IsCompiled c.args.target c.args.pages.now (instr_at instrs place) codes c.in_ok-block.block) found c.in_ok-block.ensures)
