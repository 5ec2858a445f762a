use Rattle.std.proofs.Common.{◌-◌, ◌∙◌, ap, arith, length, take, drop}
use Rattle.std.proofs.lemmas.Result.{err_from_is_err_and}
use Rattle.image_file.specs.Reading.{word}
use Rattle.image_file.proofs.FieldLaws.{length-table}
use Rattle.translated_file.proofs.PartsLaws.{IsFound, hints_refuse, parts_made}
use Rattle.translated_file.proofs.reading.parts_of.Goals as goal

pub check_hints-requires : goal.check_hints-requires
check_hints-requires c =
    let at = c.hints_at-hints_at.result in
    let rest = take (length c.args.bytes.now - at) (drop at c.args.bytes.now) in
    let count = ap length (c.deref.ensures.value ∙ c.in_ok-hints.ensures) ∙ length-table 4 word c.in_ok-header.header.hints rest in
    omega (arith, count, c.in_ok-header.ensures.few)

pub returns-in_err-check_hints : goal.returns-in_err-check_hints
returns-in_err-check_hints c =
    let p = err_from_is_err_and c.from_residual-in_err-check_hints.result c.from_residual-in_err-check_hints.ensures.1 in
    let found : IsFound c.args.bytes.now c.in_ok-header.header c.in_ok-image.image c.in_ok-hints.hints.items c.hints_at-hints_at.result =
    record { headed = c.in_ok-header.ensures.value; at_is = c.hints_at-hints_at.ensures.value; read = c.in_ok-image.ensures; are = c.in_ok-hints.ensures } in
    rw (p.1, p.2) (hints_refuse c.args.bytes.now c.in_ok-header.header c.in_ok-image.image c.in_ok-hints.hints.items c.deref.result.now c.hints_at-hints_at.result c.in_err-check_hints.field-0.0 found c.deref.ensures.value c.in_err-check_hints.ensures)

pub returns : goal.returns
returns c =
    let found : IsFound c.args.bytes.now c.in_ok-header.header c.in_ok-image.image c.in_ok-hints.hints.items c.hints_at-hints_at.result =
    record { headed = c.in_ok-header.ensures.value; at_is = c.hints_at-hints_at.ensures.value; read = c.in_ok-image.ensures; are = c.in_ok-hints.ensures } in
    parts_made c.args.bytes.now c.in_ok-header.header c.in_ok-image.image c.in_ok-hints.hints.items c.deref.result.now c.in_ok-tail.tail.items c.hints_at-hints_at.result c.tail_at.result c.in_ok-check_hints.field-0
    found c.deref.ensures.value c.in_ok-check_hints.ensures c.tail_at.ensures.value c.in_ok-tail.ensures.items
