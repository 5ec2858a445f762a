use Rattle.std.proofs.Common.{◌≤◌, length, length-append, ap, arith}
use Rattle.std.specs.Fmt.{decimal}
use Rattle.report_text.proofs.Digits.{digits_room}
use Rattle.report_text.proofs.line.Line.push_spaced.Goals as goal

pub push_digits-requires : goal.push_digits-requires
push_digits-requires c =
    let digits : length (decimal c.args.number) ≤ 20 = digits_room c.args.number (omega arith) in
    let blank = simp length-append at (ap length c.push.ensures) in
    omega (arith, digits, blank)

pub returns-clause-room : goal.returns-clause-room
returns-clause-room c =
    let digits : length (decimal c.args.number) ≤ 20 = digits_room c.args.number (omega arith) in
    let blank = simp length-append at (ap length c.push.ensures) in
    let all = simp length-append at (ap length c.push_digits.ensures) in
    omega (arith, digits, blank, all)
