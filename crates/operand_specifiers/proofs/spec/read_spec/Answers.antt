use Rattle.std.proofs.Common.{◌+◌, drop, get_or, arith}
use Rattle.std.proofs.lemmas.List.{get_or-drop}
use Rattle.vax_form.specs.GrammarLaws.{AreBytes}
use Rattle.operand_specifiers.proofs.Relations.{answer_found, answer_only, answer_past, answer_reserved}
use Rattle.operand_specifiers.proofs.spec.read_spec.Goals as goal

pub returns : goal.returns
returns c =
    let a = c.args in
    let are : AreBytes (drop a.at a.bytes.now) = λ i. rw get_or-drop (omega (arith, c.type_inv.bytes (a.at + i))) in
    record {
      reading = c.read.ensures;
      found = answer_found a.access a.size a.origin a.bytes.now a.at c.requires are c.read.result c.read.ensures;
      only = answer_only a.access a.size a.origin a.bytes.now a.at c.requires are c.read.result c.read.ensures;
      reserved = answer_reserved a.access a.size a.origin a.bytes.now a.at c.requires are c.read.result c.read.ensures;
      past = answer_past a.access a.size a.origin a.bytes.now a.at c.requires are c.read.result c.read.ensures;
    }
