use Rattle.std.proofs.Common.{◌≡◌, map, take}
use Rattle.image_parts.specs.Sections.{section_of}
use Rattle.image_parts.proofs.sections.sections_of.Given as goal

abbrev pub invariant-loop-span : goal.invariant-loop-span
invariant-loop-span l = l.sections.items ≡ map (section_of l.segments) (take l.span-index l.span-items)
