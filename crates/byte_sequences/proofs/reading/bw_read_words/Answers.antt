use Rattle.std.proofs.Common.{sym, subst}
use Rattle.std.specs.Prelude.{All}
use Rattle.alpha_encode.specs.Words.{IsEncodable}
use Rattle.byte_sequences.specs.Promises.{ReadsPlan, bw_loaded_bytes}
use Rattle.byte_sequences.proofs.ByteWordLaws.{bw_reads}
use Rattle.byte_sequences.proofs.Encoded.{bw_read}
use Rattle.byte_sequences.proofs.reading.bw_read_words.Goals as goal

pub returns-clause-reads : goal.returns-clause-reads
returns-clause-reads c =
    let a = c.args in
    subst (ReadsPlan bw_loaded_bytes a.place a.count a.to) (sym c.in_ok-bw_read_code.ensures) (bw_reads a.place a.count a.to c.requires.count c.requires.place c.requires.to)

pub returns-clause-encodable : goal.returns-clause-encodable
returns-clause-encodable c =
    let a = c.args in
    subst (All IsEncodable) (sym c.in_ok-bw_read_code.ensures) (bw_read a.place a.count a.to c.requires.count c.requires.place c.requires.to)
