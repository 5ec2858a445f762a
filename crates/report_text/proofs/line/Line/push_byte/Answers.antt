use Rattle.std.proofs.Common.{◌++◌, ap, ◌∙◌}
use Rattle.report_text.specs.Digits.{digits_from, two_digits}
use Rattle.report_text.proofs.line.Line.push_byte.Goals as goal

pub returns-clause-text : goal.returns-clause-text
unfolding two_digits
returns-clause-text c = c.push_hexadecimal.ensures.text ∙ ap (λ n. c.args.self.now ++ digits_from 2 n) c.from.ensures
