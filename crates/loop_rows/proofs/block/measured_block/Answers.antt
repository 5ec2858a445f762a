-- The block's words, exit and points are those of which it is proved.
use Rattle.loop_rows.proofs.Measuring.{measures}
use Rattle.loop_rows.proofs.Meeting.{measures_all}
use Rattle.loop_rows.proofs.Shape.{measured_is_block}
use Rattle.loop_rows.proofs.block.measured_block.Goals as goal

pub returns-clause-shape : goal.returns-clause-shape
returns-clause-shape c =
    rw (c.in_ok-measured_words.ensures, c.in_ok-vec.ensures.items, c.in_ok-vec-2.ensures.items, c.word_point-word.ensures, c.point_of-source.ensures, c.point_of-target.ensures) (measured_is_block c.args.address c.args.after c.ranges.after.fits)

pub returns-clause-means : goal.returns-clause-means
returns-clause-means c =
    rw (c.in_ok-measured_words.ensures, c.in_ok-vec.ensures.items, c.in_ok-vec-2.ensures.items, c.word_point-word.ensures, c.point_of-source.ensures, c.point_of-target.ensures) (measures c.args.address c.args.after)

pub returns-clause-meets : goal.returns-clause-meets
returns-clause-meets c =
    rw (c.in_ok-measured_words.ensures, c.in_ok-vec.ensures.items, c.in_ok-vec-2.ensures.items, c.word_point-word.ensures, c.point_of-source.ensures, c.point_of-target.ensures) (measures_all c.args.address c.args.after c.ranges.after.fits)
