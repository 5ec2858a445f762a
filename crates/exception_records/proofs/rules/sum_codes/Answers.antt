use Rattle.std.proofs.Common.{◌∙◌}
use Rattle.exception_records.proofs.Sums.{sum_has_codes}
use Rattle.exception_records.proofs.rules.sum_codes.Goals as goal

pub returns : goal.returns
returns c =
    c.with_signs.ensures
    ∙ sum_has_codes c.args.size c.args.first c.args.second c.limit.result c.limit-2.result c.sum_overflows-v.result c.limit.ensures.value c.limit-2.ensures.value c.sum_overflows-v.ensures
