use Rattle.std.proofs.Common.{◌++◌, ◌∷◌, [], ◌+◌, ◌%◌, ◌/◌, length, length-append, append_assoc, ap, sym, ◌∙◌, arith}
use Rattle.std.specs.Fmt.{decimal}
use Rattle.array_text.proofs.DecimalDigits.{digits_fewer, digits_more}
use Rattle.array_text.proofs.digits.+push_decimal.Goals as goal

pub returns-else-number-lt10-clause-text : goal.returns-else-number-lt10-clause-text
returns-else-number-lt10-clause-text t c =
    c.push-else-number-lt10.ensures.items
    ∙ ap (λ front. front ++ (48 + c.args.number % 10) ∷ []) c.push_decimal.ensures.text
    ∙ append_assoc c.args.line.now.items (decimal (c.args.number / 10)) ((48 + c.args.number % 10) ∷ [])
    ∙ ap (λ digits. c.args.line.now.items ++ digits) (sym (digits_more c.args.number (omega arith) (omega arith)))
