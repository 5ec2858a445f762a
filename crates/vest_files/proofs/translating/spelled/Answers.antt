-- The file may be written: the translation is not too large.
use Rattle.std.proofs.Common.{◌≤◌, length, subst, sym}
use Rattle.block_law.specs.Translations.{Code}
use Rattle.vest_files.proofs.Sizes.{few_pairs}
use Rattle.vest_files.proofs.translating.spelled.Goals as goal

pub write_translated-requires-clause-pairs : goal.write_translated-requires-clause-pairs
write_translated-requires-clause-pairs c =
    subst (λ (code : Code). length code.map ≤ 32768) (sym c.translation.view_is)
    (few_pairs c.args.target c.args.image.now c.args.hints.now c.args.translation.now c.requires.translated)
