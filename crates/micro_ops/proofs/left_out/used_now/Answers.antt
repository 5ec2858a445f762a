use Rattle.std.proofs.Common.{◌∙◌, sym}
use Rattle.micro_ops.proofs.UsesOfOthers.{others_use}
use Rattle.micro_ops.proofs.left_out.used_now.Goals as goal

pub returns-then-needed : goal.returns-then-needed
returns-then-needed c = record {
  names = λ temp. c.read_by.ensures.names temp ∙ sym (others_use c.args.codes c.args.needed c.args.operation temp c.in_default.not-Codes c.if-needed.true);
  long = c.read_by.ensures.long;
}
