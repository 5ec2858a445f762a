use Rattle.vest_cli.proofs.Again.{replay_gives_its_run}
use Rattle.vest_cli.proofs.laws.replay_gives_its_run.Goals as goal

pub returns : goal.returns
returns c = replay_gives_its_run c.headline_is_replayed.ensures c.translation_law.ensures
