use Rattle.report_text.specs.Digits.{eight_digits}
use Rattle.report_text.proofs.line.Line.push_longword.Goals as goal

pub returns-clause-text : goal.returns-clause-text
unfolding eight_digits
returns-clause-text c = c.push_hexadecimal.ensures.text
