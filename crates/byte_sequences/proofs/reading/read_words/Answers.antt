use Rattle.std.proofs.Common.{sym, subst}
use Rattle.byte_sequences.specs.Promises.{ReadsPlan, loaded_bytes}
use Rattle.byte_sequences.proofs.ReadLaws.{reads}
use Rattle.byte_sequences.proofs.reading.read_words.Goals as goal

pub returns-clause-reads : goal.returns-clause-reads
returns-clause-reads c =
    let a = c.args in
    subst (ReadsPlan loaded_bytes a.place a.count a.to) (sym c.in_ok-read_code.ensures) (reads a.place a.count a.to c.requires.count c.requires.place c.requires.to)
