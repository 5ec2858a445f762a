-- The thread goes on, all that it put is sent, and its lines so far are told.
use Rattle.std.proofs.Common.{◌≡◌}
use Rattle.tie_switch.specs.Known.{AreFound}
use Rattle.tie_switch.specs.Settings.{image_setting}
use Rattle.vest_core.proofs.Pauses.{IsTalking, pauses_left}
use Rattle.vest_core.proofs.Reporting.{IsTelling, between}
use Rattle.vest_core.proofs.live.LiveWorld.talk.Given as goal

abbrev pub invariant-loop-known : goal.invariant-loop-known
invariant-loop-known g l = record {
  known : AreFound l.fn.image.pages l.known;
  every : l.progress.every ≡ between l.fn.every;
  talking : IsTalking l.fn.image (image_setting l.fn.image.pages l.fn.translation l.fn.ranges) l.fn.self l.self l.input_ended
      (g.I.Source.meaning l.fn.input) (g.I.Source.meaning l.input) (g.K.Sink.meaning l.fn.out) (g.K.Sink.meaning l.out);
  telling : IsTelling (image_setting l.fn.image.pages l.fn.translation l.fn.ranges) l.fn.image l.fn.every l.progress.due l.self.memory.contents.history l.self.processor
      (g.E.Sink.meaning l.fn.report) (g.E.Sink.meaning l.report);
}

abbrev pub decreases-loop-known : goal.decreases-loop-known
decreases-loop-known g l = pauses_left l.self l.input_ended
