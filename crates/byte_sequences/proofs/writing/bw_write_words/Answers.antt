use Rattle.std.proofs.Common.{sym, subst}
use Rattle.std.specs.Prelude.{All}
use Rattle.alpha_encode.specs.Words.{IsEncodable}
use Rattle.byte_sequences.specs.Promises.{WritesPlan, bw_stored_bytes}
use Rattle.byte_sequences.proofs.ByteWordLaws.{bw_writes}
use Rattle.byte_sequences.proofs.Encoded.{bw_written}
use Rattle.byte_sequences.proofs.writing.bw_write_words.Goals as goal

pub returns-clause-writes : goal.returns-clause-writes
returns-clause-writes c =
    let a = c.args in
    subst (WritesPlan bw_stored_bytes a.place a.count a.from) (sym c.in_ok-bw_write_code.ensures) (bw_writes a.place a.count a.from c.requires.count c.requires.place c.requires.from)

pub returns-clause-encodable : goal.returns-clause-encodable
returns-clause-encodable c =
    let a = c.args in
    subst (All IsEncodable) (sym c.in_ok-bw_write_code.ensures) (bw_written a.place a.count a.from c.requires.count c.requires.place c.requires.from)
