use Rattle.std.proofs.Common.{◌∙◌, ap, arith, length}
use Rattle.image_file.specs.Reading.{word}
use Rattle.image_file.proofs.FieldLaws.{length-table}
use Rattle.run_files.proofs.hints.hints_of.Goals as goal

pub check_rising-requires : goal.check_rising-requires
check_rising-requires c =
    let many = ap length c.in_ok-hints.ensures ∙ length-table 4 word c.in_ok-count.count _ in
    omega (arith, ap length c.deref.ensures.value, many, c.in_ok-count.ensures.few)
