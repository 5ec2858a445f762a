-- The block's words, exit and points are those of which it is proved.
use Rattle.loop_rows.proofs.Copying.{copies}
use Rattle.loop_rows.proofs.Meeting.{meets_all}
use Rattle.loop_rows.proofs.Shape.{copy_is_block}
use Rattle.loop_rows.proofs.block.copy_block.Goals as goal

pub returns-clause-shape : goal.returns-clause-shape
returns-clause-shape c =
    rw (c.in_ok-copy_words.ensures, c.in_ok-vec.ensures.items, c.in_ok-vec-2.ensures.items, c.point_of.ensures, c.point_of-point.ensures) (copy_is_block c.args.address c.args.after c.ranges.after.fits)

pub returns-clause-means : goal.returns-clause-means
returns-clause-means c =
    rw (c.in_ok-copy_words.ensures, c.in_ok-vec.ensures.items, c.in_ok-vec-2.ensures.items, c.point_of.ensures, c.point_of-point.ensures) (copies c.args.address c.args.after)

pub returns-clause-meets : goal.returns-clause-meets
returns-clause-meets c =
    rw (c.in_ok-copy_words.ensures, c.in_ok-vec.ensures.items, c.in_ok-vec-2.ensures.items, c.point_of.ensures, c.point_of-point.ensures) (meets_all c.args.address c.args.after c.ranges.after.fits)
