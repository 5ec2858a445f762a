use Rattle.std.proofs.Common.{sym, subst}
use Rattle.std.specs.Prelude.{All}
use Rattle.alpha_encode.specs.Words.{IsEncodable}
use Rattle.byte_sequences.specs.Promises.{ReadsExtended}
use Rattle.byte_sequences.proofs.ExtendedLaws.{extended_encodable, extends_read}
use Rattle.byte_sequences.proofs.reading.extended_read_words.Goals as goal

pub returns-clause-reads : goal.returns-clause-reads
returns-clause-reads c =
    let a = c.args in
    subst (ReadsExtended a.place a.to) (sym c.in_ok-extended_read.ensures) (extends_read a.place a.to c.requires.place c.requires.to)

pub returns-clause-encodable : goal.returns-clause-encodable
returns-clause-encodable c =
    let a = c.args in
    subst (All IsEncodable) (sym c.in_ok-extended_read.ensures) (extended_encodable a.place a.to c.requires.place c.requires.to)
