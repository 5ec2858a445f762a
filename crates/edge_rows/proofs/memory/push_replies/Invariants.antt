use Rattle.std.proofs.Common.{◌≡◌}
use Rattle.edge_rows.proofs.memory.push_replies.Given as goal

abbrev pub invariant-loop-access : goal.invariant-loop-access
invariant-loop-access l = record {
  image : l.memory.set_up.image ≡ l.image;
  processors : l.memory.processors ≡ 3;
}
