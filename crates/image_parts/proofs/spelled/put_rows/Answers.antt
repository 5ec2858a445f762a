use Rattle.std.proofs.Common.{ap, ◌∙◌}
use Rattle.image_file.specs.Spelling.{row_bytes}
use Rattle.image_parts.specs.Parts.{RowFits, stores_too_much}
use Rattle.image_parts.proofs.Appending.{rows_more, rows_all}
use Rattle.image_parts.proofs.spelled.put_rows.Goals as goal

pub put_row-requires : goal.put_row-requires
put_row-requires c =
    let s = c.section-item.result in
    ap stores_too_much c.section-item.is ∙ c.requires c.loop-section.section-index s c.loop-section-test.true

pub loop-section-preserved : goal.loop-section-preserved
loop-section-preserved c =
    let sections = c.args.sections.now in
    let k = c.loop-section.section-index in
    let s = c.section-item.result in
    record {
      bytes = rows_more row_bytes c.args.out.now.items c.loop-section.out.items c.put_row.new.out.items sections k s c.loop-section-test.true c.section-item.is c.loop-section.invariant.bytes c.in_ok-put_row.ensures.bytes;
      fit = rows_all RowFits sections k s c.loop-section-test.true c.section-item.is c.loop-section.invariant.fit c.in_ok-put_row.ensures.fit;
    }
