-- The tail may be compared: the translation is not too large.
use Rattle.std.proofs.Common.{◌≤◌, length, subst, sym}
use Rattle.block_law.specs.Translations.{Code}
use Rattle.vest_files.specs.Versions.{target_of}
use Rattle.vest_files.proofs.Sizes.{few_pairs}
use Rattle.vest_files.proofs.stages.check_tail.Goals as goal

pub compare-requires-clause-pairs : goal.compare-requires-clause-pairs
compare-requires-clause-pairs c =
    subst (λ (code : Code). length code.map ≤ 32768) (sym c.translation.view_is)
    (few_pairs (target_of c.args.parts.now.version) c.args.parts.now.image c.args.parts.now.hints c.args.translation.now c.requires.translated)
