use Rattle.std.proofs.Common.{◌++◌, ◌∷◌, [], sym, ◌∙◌}
use Rattle.image_file.specs.Reading.{row_in}
use Rattle.image_file.proofs.TableItems.{table_more}
use Rattle.image_file.proofs.tables.rows_of.Goals as goal

pub loop-place-preserved : goal.loop-place-preserved
loop-place-preserved c =
    c.in_ok-push.ensures.items ∙ (λ i. c.loop-place.invariant i ++ c.row_at.ensures i ∷ []) ∙ sym (table_more 16 row_in c.loop-place.place c.args.bytes.now)
