-- The sections that are read, and the desk that stays.
use Rattle.std.proofs.Common.{map, take}
use Rattle.std.specs.List.{AllZip}
use Rattle.vest_stops.specs.Files.{SameFiles}
use Rattle.vximage_words.specs.Commands.{section_wanted}
use Rattle.vximage_cli.specs.Making.{IsSection}
use Rattle.vximage_cli.proofs.making.sections_of.Given as goal

abbrev pub invariant-loop-section : goal.invariant-loop-section
invariant-loop-section g l = record {
  read : AllZip (IsSection (g.D.Desk.meaning l.fn.desk).files) (map section_wanted (take l.section-index l.asked)) l.sections.items;
  stays : SameFiles (g.D.Desk.meaning l.fn.desk) (g.D.Desk.meaning l.desk);
}
