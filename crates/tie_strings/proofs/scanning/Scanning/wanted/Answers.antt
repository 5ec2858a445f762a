-- The next byte is read where it was checked or may be read.
use Rattle.std.proofs.Common.{sym, ◌∙◌, arith}
use Rattle.tie_strings.proofs.ScanTakes.{byte_shown}
use Rattle.tie_strings.proofs.scanning.Scanning.wanted.Goals as goal

pub returns-then-may_be_read-clause-shows : goal.returns-then-may_be_read-clause-shows
returns-then-may_be_read-clause-shows c = λ before state.
    let m = c.args.self.now in
    rw c.read_of.ensures
    (byte_shown c.args.pages.now before state m.scanned m.stopped m.checked m.left m.address c.if-self.false (omega (arith, c.if-self-eq0.false)) (sym c.may_be_read.ensures ∙ c.if-may_be_read.true))
