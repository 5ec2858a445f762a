use Rattle.std.proofs.Common.{◌++◌, ◌∷◌, [], ◌*◌, ap, drop, sym, ◌∙◌}
use Rattle.image_file.specs.Limits.{start_width}
use Rattle.image_file.specs.Reading.{start_in}
use Rattle.image_file.proofs.TableItems.{table_more}
use Rattle.image_file.proofs.tables.threads_of.Goals as goal

pub loop-place-preserved : goal.loop-place-preserved
loop-place-preserved c =
    let version = c.args.version in
    let read = c.start_at.ensures ∙ ap (λ width. start_in version (drop (width * c.loop-place.place) c.args.bytes.now)) c.start_width-width.ensures.value in
    c.in_ok-push.ensures.items ∙ (λ i. c.loop-place.invariant i ++ read i ∷ []) ∙ sym (table_more (start_width version) (start_in version) c.loop-place.place c.args.bytes.now)
