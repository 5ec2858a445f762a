use Rattle.std.proofs.Common.{◌++◌, ◌∙◌, ap}
use Rattle.image_file.specs.Values.{SectionValue}
use Rattle.image_text.specs.Lines.{section_line}
use Rattle.image_text.proofs.Appended.{numbered_step}
use Rattle.image_text.proofs.tables.put_sections.Goals as goal

pub loop-number-preserved : goal.loop-number-preserved
loop-number-preserved c =
    let out = c.loop-number.out.items in
    let number = c.loop-number.number in
    let section = c.index-sections-number in
    numbered_step section_line c.args.sections.now number section.result out _ _ c.loop-number-test.true c.loop-number.invariant
    (c.in_ok-put_section.ensures ∙ ap (λ (s : SectionValue). out ++ section_line number s) section.is)
