-- Once the next byte is wanted, its check was made.
use Rattle.tie_strings.proofs.CompareTakes.{noted}
use Rattle.tie_strings.proofs.comparing.Comparing.note_check.Goals as goal

pub returns : goal.returns
returns c = λ pages state asks.
    let m = c.args.self.now in
    noted pages state m.compared m.checked m.pair m.left m.first m.second asks
