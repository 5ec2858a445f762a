use Rattle.std.proofs.Common.{◌∙◌, ap, sym}
use Rattle.std.proofs.lemmas.List.{drop-drop, get_or-drop}
use Rattle.image_file.specs.Reading.{half}
use Rattle.image_file.proofs.TableItems.{word_behind}
use Rattle.elf_file.proofs.symbols.symbol_at.Goals as goal

pub returns : goal.returns
returns c = λ i. record {
  value = (c.word_at.ensures ∙ word_behind c.args.bytes.now c.args.at 4) i;
  info = sym (get_or-drop c.args.at c.args.bytes.now 12 0) i;
  section = (c.half_at.ensures ∙ ap half (sym (drop-drop 14 c.args.at c.args.bytes.now))) i;
}
