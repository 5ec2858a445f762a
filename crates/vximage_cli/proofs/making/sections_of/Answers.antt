-- Each section is read from the files as they were.
use Rattle.std.proofs.Common.{List, [], ◌∷◌, ◌++◌, Option, None, false, map, get_or, subst, sym, take}
use Rattle.std.specs.List.{AllZip}
use Rattle.std.proofs.lemmas.List.{map_more}
use Rattle.std.proofs.lemmas.Slice.Zip.{all_zipped_more}
use Rattle.vt_outside.specs.Desk.{Files}
use Rattle.image_file.specs.Values.{SectionValue}
use Rattle.vximage_words.specs.Commands.{SectionWanted, section_wanted}
use Rattle.vximage_cli.specs.Making.{IsSection}
use Rattle.vximage_words.specs.declared.commands.SectionAsked.{SectionAsked}
use Rattle.vximage_cli.proofs.Reading.{same_both}
use Rattle.vximage_cli.proofs.making.sections_of.Goals as goal

pub loop-section-preserved : goal.loop-section-preserved
loop-section-preserved g c =
    let files = (g.D.Desk.meaning c.args.desk.now).files in
    let none : SectionAsked = record { start = 0; size = 0; writable = false; file = None } in
    let item = get_or c.args.asked.now c.loop-section.section-index none in
    let section = c.in_ok-section_of.field-0 in
    let stays = c.loop-section.invariant.stays in
    let now : IsSection (g.D.Desk.meaning c.loop-section.desk).files (section_wanted item) section = c.in_ok-section_of.ensures.ok in
    let is : IsSection files (section_wanted item) section = subst (λ (f : Option Files). IsSection f (section_wanted item) section) stays.files now in
    let more = all_zipped_more (IsSection files) (map section_wanted (take c.loop-section.section-index c.args.asked.now)) c.loop-section.sections.items (section_wanted item) section c.loop-section.invariant.read is in
    let longer = map_more section_wanted c.args.asked.now c.loop-section.section-index none c.loop-section-test.true in
    record {
      read = subst (λ (wanted : List SectionWanted). AllZip (IsSection files) wanted c.push.new.self.items) (sym longer)
          (subst (λ (sections : List SectionValue). AllZip (IsSection files) (map section_wanted (take c.loop-section.section-index c.args.asked.now) ++ section_wanted item ∷ []) sections) (sym c.in_ok-push.ensures.items) more);
      stays = same_both (g.D.Desk.meaning c.args.desk.now) (g.D.Desk.meaning c.loop-section.desk) (g.D.Desk.meaning c.section_of.new.desk) stays c.section_of.ensures.stays;
    }
