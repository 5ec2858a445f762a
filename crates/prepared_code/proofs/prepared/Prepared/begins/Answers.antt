-- The number is the mark.
use Rattle.prepared_code.proofs.Words.{is_mark}
use Rattle.prepared_code.proofs.prepared.Prepared.begins.Goals as goal

pub returns-in-Some : goal.returns-in-Some
returns-in-Some c = is_mark c.args.self.now.code.map c.args.word c.in-Some.word.block c.in-Some.ensures.ready.block
