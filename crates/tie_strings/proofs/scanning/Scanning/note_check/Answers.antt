-- Once the next byte is wanted, its check was made.
use Rattle.tie_strings.proofs.ScanTakes.{noted}
use Rattle.tie_strings.proofs.scanning.Scanning.note_check.Goals as goal

pub returns : goal.returns
returns c = λ pages state asks.
    let m = c.args.self.now in
    noted pages state m.scanned m.stopped m.checked m.left m.address asks
