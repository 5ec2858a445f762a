use Rattle.std.proofs.Common.{◌++◌, ◌∷◌, [], sym, ◌∙◌}
use Rattle.image_file.proofs.TableItems.{table_more}
use Rattle.run_files.specs.Reading.{pick_in}
use Rattle.run_files.proofs.parts.picks_of.Goals as goal

pub loop-place-preserved : goal.loop-place-preserved
loop-place-preserved c =
    c.in_ok-push.ensures.items ∙ (λ i. c.loop-place.invariant i ++ c.pick_at.ensures i ∷ []) ∙ sym (table_more 9 pick_in c.loop-place.place c.args.bytes.now)
