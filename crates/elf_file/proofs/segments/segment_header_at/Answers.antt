use Rattle.std.proofs.Common.{◌∙◌}
use Rattle.image_file.proofs.TableItems.{word_behind}
use Rattle.elf_file.proofs.segments.segment_header_at.Goals as goal

pub returns : goal.returns
returns c = λ i. record {
  kind = c.word_at.ensures i;
  offset = (c.word_at-2.ensures ∙ word_behind c.args.bytes.now c.args.at 4) i;
  address = (c.word_at-3.ensures ∙ word_behind c.args.bytes.now c.args.at 8) i;
  stored = (c.word_at-4.ensures ∙ word_behind c.args.bytes.now c.args.at 16) i;
  size = (c.word_at-5.ensures ∙ word_behind c.args.bytes.now c.args.at 20) i;
  flags = (c.word_at-6.ensures ∙ word_behind c.args.bytes.now c.args.at 24) i;
}
