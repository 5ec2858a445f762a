use Rattle.std.proofs.Common.{◌++◌, ◌∷◌, [], map, ap, sym, ◌∙◌}
use Rattle.std.proofs.lemmas.List.{map-append}
use Rattle.image_file.specs.Reading.{table_in}
use Rattle.image_file.proofs.TableItems.{table_more}
use Rattle.run_files.specs.Reading.{flag_in, is_set}
use Rattle.run_files.proofs.parts.spent_of.Goals as goal

pub loop-thread-preserved : goal.loop-thread-preserved
loop-thread-preserved c =
    let place = c.loop-thread.thread in
    let ends = c.args.ends.now in
    c.in_ok-push.ensures.items ∙ (λ i. c.loop-thread.invariant i ++ is_set (c.flag_at.ensures i) ∷ [])
    ∙ sym (ap (λ flags. map is_set flags) (table_more 9 flag_in place ends) ∙ map-append is_set (table_in 9 flag_in place ends) _)
