use Rattle.std.proofs.Common.{◌≡◌, ◌++◌, ◌∷◌, [], ◌+◌, ◌%◌, ◌/◌, length, length-append, append_assoc, ap, sym, ◌∙◌, arith}
use Rattle.std.specs.Fmt.{decimal}
use Rattle.report_text.proofs.Digits.{digits_fewer, digits_more}
use Rattle.report_text.proofs.line.+push_digits.Goals as goal

pub push-requires-else-number-lt10 : goal.push-requires-else-number-lt10
push-requires-else-number-lt10 t c =
    let fewer : length (decimal c.args.number) ≡ length (decimal (c.args.number / 10)) + 1 =
    digits_fewer c.args.number (omega arith) (omega arith) in
    let room = simp length-append at (ap length c.push_digits.ensures) in
    omega (arith, room, fewer)

pub returns-else-number-lt10 : goal.returns-else-number-lt10
returns-else-number-lt10 t c =
    let more : decimal c.args.number ≡ decimal (c.args.number / 10) ++ ((48 + c.args.number % 10) ∷ []) =
    digits_more c.args.number (omega arith) (omega arith) in
    c.push-else-number-lt10.ensures
    ∙ ap (λ front. front ++ (48 + c.args.number % 10) ∷ []) c.push_digits.ensures
    ∙ append_assoc c.args.line.now (decimal (c.args.number / 10)) ((48 + c.args.number % 10) ∷ [])
    ∙ ap (λ digits. c.args.line.now ++ digits) (sym more)
