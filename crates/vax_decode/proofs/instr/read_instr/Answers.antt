use Rattle.std.proofs.Common.{◌≡◌, length, arith}
use Rattle.std.proofs.lemmas.Result.{err_from_is_err_and}
use Rattle.vax_form.specs.declared.instr.Access.TheVariants.{Read}
use Rattle.vax_form.specs.declared.instr.Size.TheVariants.{Byte}
use Rattle.vax_decode.proofs.Reading.{reading_ended, reading_more, reading_stops}
use Rattle.vax_decode.proofs.instr.read_instr.Goals as goal

pub returns-in_err-operand : goal.returns-in_err-operand
returns-in_err-operand c =
    let p = err_from_is_err_and c.from_residual.result c.from_residual.ensures.1 in
    let row = c.args.row.now in
    let accesses : length row.access ≡ 6 = omega arith in
    let sizes : length row.size ≡ 6 = omega arith in
    rw (p.1, p.2) (reading_stops row c.args.pc c.loop-i.i c.loop-i.place c.args.bytes.now c.loop-i.operands c.loop-i.invariant
    accesses sizes c.requires.places Read Byte (omega arith) _ c.args.opcode c.in_err-operand.ensures.reading)

pub loop-i-preserved : goal.loop-i-preserved
loop-i-preserved c =
    let row = c.args.row.now in
    let accesses : length row.access ≡ 6 = omega arith in
    let sizes : length row.size ≡ 6 = omega arith in
    reading_more row c.args.pc c.loop-i.i c.loop-i.place c.args.bytes.now c.loop-i.operands c.loop-i.invariant
    accesses sizes c.requires.places Read Byte (omega arith) c.in_ok-operand.operand c.in_ok-operand.behind
    c.in_ok-operand.ensures.reading c.in_ok-operand.ensures.found.within

pub returns : goal.returns
returns c =
    reading_ended c.args.row.now c.args.pc c.loop-i.i c.loop-i.place c.args.bytes.now c.loop-i.operands c.loop-i.invariant
    c.args.opcode (omega arith)
