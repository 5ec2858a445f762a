use Rattle.std.proofs.Common.{◌++◌, ◌∷◌, [], ◌%◌, ◌/◌, length, length-append, append_assoc, ap, sym, ◌∙◌, arith}
use Rattle.array_text.specs.Hexadecimal.{digit, hexadecimal}
use Rattle.array_text.proofs.Hexadecimal.{hexadecimal_longer, hexadecimal_more}
use Rattle.array_text.proofs.digits.+push_hexadecimal.Goals as goal

pub returns-else-number-lt16-clause-text : goal.returns-else-number-lt16-clause-text
returns-else-number-lt16-clause-text t c =
    c.push-else-number-lt16.ensures.items
    ∙ ap (λ front. front ++ c.digit-else-number-lt16.result ∷ []) c.push_hexadecimal.ensures.text
    ∙ ap (λ d. (c.args.line.now.items ++ hexadecimal (c.args.number / 16)) ++ d ∷ []) c.digit-else-number-lt16.ensures
    ∙ append_assoc c.args.line.now.items (hexadecimal (c.args.number / 16)) (digit (c.args.number % 16) ∷ [])
    ∙ ap (λ digits. c.args.line.now.items ++ digits) (sym (hexadecimal_more c.args.number (omega arith) (omega arith)))
