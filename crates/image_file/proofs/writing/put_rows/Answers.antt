use Rattle.image_file.proofs.WriteLaws.{sound_at, rows_more}
use Rattle.image_file.proofs.writing.put_rows.Goals as goal

pub put_row-requires : goal.put_row-requires
put_row-requires c = sound_at c.args.sections.now c.loop-section.section-index c.section-item.result c.requires c.loop-section-test.true c.section-item.is

pub loop-section-preserved : goal.loop-section-preserved
loop-section-preserved c =
    rows_more c.args.out.now.items c.loop-section.out.items c.put_row.new.out.items c.args.sections.now c.loop-section.section-index c.section-item.result
    c.loop-section-test.true c.section-item.is c.loop-section.invariant c.in_ok-put_row.ensures
