use Rattle.std.proofs.Common.{◌∙◌}
use Rattle.exception_records.proofs.Sums.{difference_has_codes}
use Rattle.exception_records.proofs.rules.difference_codes.Goals as goal

pub returns : goal.returns
returns c =
    c.with_signs.ensures
    ∙ difference_has_codes c.args.size c.args.first c.args.second c.limit.result c.limit-2.result c.difference_overflows-v.result c.limit.ensures.value c.limit-2.ensures.value c.difference_overflows-v.ensures
