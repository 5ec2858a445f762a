use Rattle.std.proofs.Common.{◌∙◌, arith}
use Rattle.std.specs.List.{AllByRecursion}
use Rattle.image_file.proofs.WriteLaws.{all_long}
use Rattle.translated_file.specs.Spelling.{tail_words}
use Rattle.translated_file.specs.Whole.{IsLong, AreHints}
use Rattle.translated_file.proofs.WriteLaws.{image_small, raw_is, written_reads, written_compares}
use Rattle.translated_file.proofs.writing.write_translated.Goals as goal

pub spelled-requires-clause-image : goal.spelled-requires-clause-image
spelled-requires-clause-image c = image_small c.args.image.now c.deref.result.now c.requires.image (c.deref.ensures.value ∙ c.in_ok-bytes.ensures.spelled)

pub returns-clause-spelled : goal.returns-clause-spelled
returns-clause-spelled c =
    c.in_ok-spelled.ensures.bytes
    ∙ raw_is c.args.version c.args.image.now c.deref.result.now c.args.hints.now c.args.words.now c.args.map.now c.pairs.result.now (c.deref.ensures.value ∙ c.in_ok-bytes.ensures.spelled) c.pairs.ensures.pairs

pub returns-clause-read_again : goal.returns-clause-read_again
returns-clause-read_again c =
    let hints : AreHints c.args.hints.now = record { few = c.requires.few; fit = all_long c.args.hints.now (λ k. omega (arith, c.type_inv.hints k)); rise = c.requires.rise } in
    written_reads c.args.version c.in_ok-spelled.field-0.items c.args.image.now c.args.hints.now c.args.words.now c.args.map.now c.requires.version c.requires.image hints (returns-clause-spelled c)

pub returns-clause-accepted : goal.returns-clause-accepted
returns-clause-accepted c =
    let fit : AllByRecursion IsLong (tail_words c.args.words.now c.args.map.now) = rw (← c.pairs.ensures.pairs) c.in_ok-spelled.ensures.fit in
    written_compares c.args.version c.in_ok-spelled.field-0.items c.args.image.now c.args.hints.now c.args.words.now c.args.map.now (returns-clause-read_again c) fit
