use Rattle.std.proofs.Common.{◌++◌, ◌∷◌, [], sym, ◌∙◌}
use Rattle.image_file.specs.Reading.{word}
use Rattle.image_file.proofs.TableItems.{table_more}
use Rattle.translated_file.proofs.reading.hints_of.Goals as goal

pub loop-place-preserved : goal.loop-place-preserved
loop-place-preserved c =
    c.in_ok-push.ensures.items ∙ (λ i. c.loop-place.invariant i ++ c.word_at.ensures i ∷ []) ∙ sym (table_more 4 word c.loop-place.place c.args.bytes.now)
