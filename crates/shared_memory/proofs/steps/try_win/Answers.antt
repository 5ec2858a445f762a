use Rattle.std.proofs.Common.{arith}
use Rattle.shared_memory.proofs.Keeps.{wins}
use Rattle.shared_memory.proofs.steps.try_win.Goals as goal

pub compare_exchange-requires : goal.compare_exchange-requires
compare_exchange-requires c = let r = c.requires.3 in
    (c.requires.0, omega arith, wins _ _ _ _ r.about r.lives r.keeps r.turn)
