use Rattle.std.proofs.Common.{ap, sym, ◌∙◌}
use Rattle.std.proofs.lemmas.List.{drop-drop}
use Rattle.image_file.specs.Limits.{FIRST_AT}
use Rattle.image_file.specs.Reading.{first_in}
use Rattle.image_file.proofs.TableItems.{word_behind}
use Rattle.image_file.proofs.tables.start_at.Goals as goal

pub returns : goal.returns
returns c = λ i. record {
  pc = c.word_at.ensures i;
  sp = (c.word_at-2.ensures ∙ word_behind c.args.bytes.now c.args.at 4) i;
  first = (c.first_at.ensures ∙ ap (first_in c.args.version) (sym (drop-drop FIRST_AT c.args.at c.args.bytes.now))) i;
}
