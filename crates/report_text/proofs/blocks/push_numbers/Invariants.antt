use Rattle.std.proofs.Common.{◌≡◌, ◌-◌, ◌*◌, ◌++◌, drop}
use Rattle.report_text.specs.Listing.{spaced_digits}
use Rattle.report_text.proofs.blocks.push_numbers.Given as goal

abbrev pub invariant-loop-number : goal.invariant-loop-number
invariant-loop-number l =
    l.text.items ++ spaced_digits (l.count - l.number) (drop (8 * l.number) l.digits)
    ≡ l.fn.text.items ++ spaced_digits l.count l.digits
