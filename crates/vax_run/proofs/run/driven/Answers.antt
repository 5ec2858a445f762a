use Rattle.image_file.proofs.Versions.{few_threads}
use Rattle.vax_run.proofs.run.driven.Goals as goal

pub runs-requires-clause-threads : goal.runs-requires-clause-threads
runs-requires-clause-threads c = few_threads c.args.image.now c.requires.whole
