use Rattle.std.proofs.Common.{◌≡◌, ◌++◌, drop}
use Rattle.image_text.specs.Lines.{numbered, section_line}
use Rattle.image_text.proofs.tables.put_sections.Given as goal

abbrev pub invariant-loop-number : goal.invariant-loop-number
invariant-loop-number l = l.out.items ++ numbered section_line l.number (drop l.number l.sections) ≡ l.fn.out.items ++ numbered section_line 0 l.sections
