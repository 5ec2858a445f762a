use Rattle.std.proofs.Common.{Err, ap, ◌∙◌}
use Rattle.vax_decode.proofs.Decoding.{IsRowOf-from, found_bad, found_instr, found_none, found_past, found_reserved}
use Rattle.vax_decode.proofs.decode.decode.Goals as goal

pub returns-in_default-clause-exact : goal.returns-in_default-clause-exact
returns-in_default-clause-exact c = found_none c.args.pc c.args.bytes.now c.in_default.ensures.value

pub returns-in_default-row_of-clause-exact : goal.returns-in_default-row_of-clause-exact
returns-in_default-row_of-clause-exact c =
    found_reserved c.args.pc c.in-Some.opcode.now c.args.bytes.now c.in-Some.ensures.value c.in_default-row_of.ensures.value

pub read_instr-requires-clause-places : goal.read_instr-requires-clause-places
read_instr-requires-clause-places c =
    let row = IsRowOf-from c.in-Some.opcode.now c.in-Some-row_of.row c.in-Some-row_of.ensures.value in row.few

pub returns-in-Ok-clause-exact : goal.returns-in-Ok-clause-exact
returns-in-Ok-clause-exact c =
    let row = IsRowOf-from c.in-Some.opcode.now c.in-Some-row_of.row c.in-Some-row_of.ensures.value in
    found_instr c.args.pc c.in-Some.opcode.now c.args.bytes.now c.in-Some.ensures.value c.in-Some-row_of.row row
    c.read_instr.result c.read_instr.ensures c.in-Ok.instr c.in-Ok.is

pub returns-in-Err-Past-clause-exact : goal.returns-in-Err-Past-clause-exact
returns-in-Err-Past-clause-exact c =
    let row = IsRowOf-from c.in-Some.opcode.now c.in-Some-row_of.row c.in-Some-row_of.ensures.value in
    found_past c.args.pc c.in-Some.opcode.now c.args.bytes.now c.in-Some.ensures.value c.in-Some-row_of.row row
    c.read_instr.result c.read_instr.ensures (c.in-Err-Past.is ∙ ap Err c.in-Err-Past.field-0-is)

pub returns-in-Err-ReservedMode-clause-exact : goal.returns-in-Err-ReservedMode-clause-exact
returns-in-Err-ReservedMode-clause-exact c =
    let row = IsRowOf-from c.in-Some.opcode.now c.in-Some-row_of.row c.in-Some-row_of.ensures.value in
    found_bad c.args.pc c.in-Some.opcode.now c.args.bytes.now c.in-Some.ensures.value c.in-Some-row_of.row row
    c.read_instr.result c.read_instr.ensures (c.in-Err-ReservedMode.is ∙ ap Err c.in-Err-ReservedMode.field-0-is)
