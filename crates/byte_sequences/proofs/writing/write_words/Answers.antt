use Rattle.std.proofs.Common.{sym, subst}
use Rattle.std.specs.Prelude.{All}
use Rattle.alpha_encode.specs.Words.{IsEncodable}
use Rattle.byte_sequences.specs.Promises.{WritesPlan, stored_bytes}
use Rattle.byte_sequences.proofs.WriteLaws.{writes}
use Rattle.byte_sequences.proofs.Encoded.{encoded}
use Rattle.byte_sequences.proofs.writing.write_words.Goals as goal

pub returns-clause-writes : goal.returns-clause-writes
returns-clause-writes c =
    let a = c.args in
    subst (WritesPlan stored_bytes a.place a.count a.from) (sym c.in_ok-write_code.ensures) (writes a.place a.count a.from c.requires.count c.requires.place c.requires.from)

pub returns-clause-encodable : goal.returns-clause-encodable
returns-clause-encodable c =
    let a = c.args in
    subst (All IsEncodable) (sym c.in_ok-write_code.ensures) (encoded a.place a.count a.from c.requires.count c.requires.place c.requires.from)
