-- A frame that may be written passes its checks.
use Rattle.std.proofs.Common.{arith}
use Rattle.vax_meaning.specs.Play.{view}
use Rattle.vax_long.proofs.FrameChecks.{frame_checked}
use Rattle.vax_long.proofs.calls.check_frame.Goals as goal

pub returns-then-may_push_frame-clause-plays : goal.returns-then-may_push_frame-clause-plays
returns-then-may_push_frame-clause-plays c = frame_checked c.args.mask c.args.top (view c.args.cursor.now) (omega (arith, c.ranges.top.fits)) (c.may_push_frame.ensures c.if-may_push_frame.true)
